-- Objects, items and messages: what the definition reads is what the grammar writes.
use Rattle.std.proofs.Common.{◌≡◌, ℕ, ◌+◌, Bool, true, false, cond, eqb, ltb, ◌⊎◌, inl, inr, List, [], ◌∷◌, ◌++◌, length, take, drop, get_or, bit_or, Option, Some, None, refl, sym, ap, ◌∙◌, arith}
use Rattle.std.proofs.lemmas.Bool.{eqb-true, false≢true, le-ltb}
use Rattle.aprs_base.specs.declared.packets.Body.{Body}
use Rattle.aprs_base.specs.declared.packets.Place.{Place}
use Rattle.aprs_position.specs.Either.{either_place}
use Rattle.aprs_position.proofs.EitherGrammar.{either_again, either_read}
use Rattle.aprs_body.specs.Bodies.{bare, if_marked, life_of, message_class, message_of, named, nws_of, object_of, weather_of, without_trailing_blanks}
use Rattle.aprs_body.specs.Classes.{message_bit, nws_bit, object_bit, telemetry_bit, weather_bit}
use Rattle.aprs_body.specs.Grammar.{AddsService, AddsWeather, IsMessage, IsMessageClass, IsObject}
use Rattle.aprs_body.proofs.PartLemmas.{added, class_adds, class_is, life_again, life_read, padded, padded_is, service_adds, service_is, weather_adds, weather_is}

-- a format is met, or nothing is said
abbrev pub OrBare : (Body → Type 0) → Body → Type 0
OrBare P body = P body ⊎ (body ≡ bare 0)

-- nine bytes
abbrev Nine : List ℕ → Type 0
Nine xs = (a b c d e f g h i : ℕ) × (xs ≡ a ∷ b ∷ c ∷ d ∷ e ∷ f ∷ g ∷ h ∷ i ∷ [])

nine : (xs : List ℕ) → length xs ≡ 9 → Nine xs
nine (a ∷ b ∷ c ∷ d ∷ e ∷ f ∷ g ∷ h ∷ i ∷ []) len = (a, b, c, d, e, f, g, h, i, refl)
nine _ len = absurd (omega arith)

-- seven bytes
abbrev Seven : List ℕ → Type 0
Seven xs = (a b c d e f g : ℕ) × (xs ≡ a ∷ b ∷ c ∷ d ∷ e ∷ f ∷ g ∷ [])

seven : (xs : List ℕ) → length xs ≡ 7 → Seven xs
seven (a ∷ b ∷ c ∷ d ∷ e ∷ f ∷ g ∷ []) len = (a, b, c, d, e, f, g, refl)
seven _ len = absurd (omega arith)

-- the columns of an object
record ObjectColumns (rest : List ℕ) : Type 0 where
  spelled : rest ≡ take 9 rest ++ (get_or rest 9 0 ∷ (take 7 (drop 10 rest) ++ drop 17 rest))
  name : length (take 9 rest) ≡ 9
  time : length (take 7 (drop 10 rest)) ≡ 7

object_columns : (rest : List ℕ) → ltb (length (59 ∷ rest)) 18 ≡ false → ObjectColumns rest
object_columns (a ∷ b ∷ c ∷ d ∷ e ∷ f ∷ g ∷ h ∷ i ∷ j ∷ k ∷ l ∷ m ∷ n ∷ o ∷ p ∷ q ∷ more) long = record { spelled = refl; name = refl; time = refl }
object_columns _ long = absurd (false≢true (sym long))

-- the sum of an object's classes
object_class : (name : List ℕ) (place : Place) (service weather : ℕ) → AddsService name service → AddsWeather (Some place) weather →
    bit_or (bit_or object_bit (nws_of name)) (weather_of place) ≡ object_bit + service + weather
object_class name place service weather (inl s) w =
    rw (service_is name service (inl s), s.1, weather_is place weather w) (added weather_bit (object_bit + nws_bit) weather (place.code ≡ 95) refl refl w)
object_class name place service weather (inr s) w =
    rw (service_is name service (inr s), s.1, weather_is place weather w) (added weather_bit object_bit weather (place.code ≡ 95) refl refl w)

-- what is read of an object, by its life and its place
abbrev object_by : List ℕ → Option Bool → Option Place → Body
object_by field life place = if_marked life (λ live. named (bit_or object_bit (nws_of field)) (without_trailing_blanks field) live place)

object_with : (rest : List ℕ) (live : Bool) (place : Place) → ObjectColumns rest → life_of 42 (get_or rest 9 0) ≡ Some live → either_place (drop 17 rest) ≡ Some place →
    IsObject (59 ∷ rest) (object_by (take 9 rest) (Some live) (Some place))
object_with rest live place at life placed =
    let name = take 9 rest in
    record {
      field = name;
      name = without_trailing_blanks name;
      mark = get_or rest 9 0;
      time = take 7 (drop 10 rest);
      rest = drop 17 rest;
      place = place;
      live = live;
      service = nws_of name;
      weather = weather_of place;
      spelled = ap (λ t. 59 ∷ t) at.spelled;
      lengths = (at.name, at.time);
      padded = padded name;
      life = life_read 42 (get_or rest 9 0) live life;
      position = either_read (drop 17 rest) place placed;
      adds = (service_adds name, weather_adds place);
      says_is = rw (object_class name place (nws_of name) (weather_of place) (service_adds name) (weather_adds place)) refl;
    }

object_cases : (rest : List ℕ) (short : Bool) (life : Option Bool) (place : Option Place) → ltb (length (59 ∷ rest)) 18 ≡ short → life_of 42 (get_or rest 9 0) ≡ life →
    either_place (drop 17 rest) ≡ place → OrBare (IsObject (59 ∷ rest)) (cond short (bare 0) (object_by (take 9 rest) life place))
object_cases rest true life place s l p = inr refl
object_cases rest false None place s l p = inr refl
object_cases rest false (Some live) None s l p = inr refl
object_cases rest false (Some live) (Some place) s l p = inl (object_with rest live place (object_columns rest s) l p)

pub object_read : (rest : List ℕ) → OrBare (IsObject (59 ∷ rest)) (object_of (59 ∷ rest))
object_read rest = object_cases rest (ltb (length (59 ∷ rest)) 18) (life_of 42 (get_or rest 9 0)) (either_place (drop 17 rest)) refl refl refl

object_at : (a b c d e f g h i mark k l m n o p q : ℕ) (rest : List ℕ) (live : Bool) (place : Place) → life_of 42 mark ≡ Some live → either_place rest ≡ Some place →
    object_of (59 ∷ a ∷ b ∷ c ∷ d ∷ e ∷ f ∷ g ∷ h ∷ i ∷ mark ∷ k ∷ l ∷ m ∷ n ∷ o ∷ p ∷ q ∷ rest)
    ≡ object_by (a ∷ b ∷ c ∷ d ∷ e ∷ f ∷ g ∷ h ∷ i ∷ []) (Some live) (Some place)
object_at a b c d e f g h i mark k l m n o p q rest live place life placed =
    let long : ltb (length (59 ∷ a ∷ b ∷ c ∷ d ∷ e ∷ f ∷ g ∷ h ∷ i ∷ mark ∷ k ∷ l ∷ m ∷ n ∷ o ∷ p ∷ q ∷ rest)) 18 ≡ false = le-ltb _ _ (omega arith) in
    rw (long, life, placed) refl

object_spelled : (field time rest : List ℕ) (mark : ℕ) (live : Bool) (place : Place) → Nine field → Seven time → life_of 42 mark ≡ Some live → either_place rest ≡ Some place →
    object_of (59 ∷ (field ++ (mark ∷ (time ++ rest)))) ≡ object_by field (Some live) (Some place)
object_spelled field time rest mark live place n s life placed =
    rw (n.9, s.7) (object_at n.0 n.1 n.2 n.3 n.4 n.5 n.6 n.7 n.8 mark s.0 s.1 s.2 s.3 s.4 s.5 s.6 rest live place life placed)

pub object_again : (text : List ℕ) (says : Body) → IsObject text says → object_of text ≡ says
object_again text says w =
    ap object_of w.spelled
    ∙ object_spelled w.field w.time w.rest w.mark w.live w.place (nine w.field w.lengths.0) (seven w.time w.lengths.1)
    (life_again 42 w.mark w.live refl w.life) (either_again w.rest w.place w.position)
    ∙ rw (object_class w.field w.place w.service w.weather w.adds.0 w.adds.1, padded_is w.name w.field w.padded) (sym w.says_is)

-- the columns of a message
record MessageColumns (rest : List ℕ) : Type 0 where
  spelled : rest ≡ take 9 rest ++ (get_or rest 9 0 ∷ drop 10 rest)
  name : length (take 9 rest) ≡ 9

message_columns : (rest : List ℕ) → get_or rest 9 0 ≡ 58 → MessageColumns rest
message_columns (a ∷ b ∷ c ∷ d ∷ e ∷ f ∷ g ∷ h ∷ i ∷ j ∷ more) mark = record { spelled = refl; name = refl }
message_columns _ mark = absurd (omega arith)

-- the sum of a message's classes
sum_class : (name : List ℕ) (kind service : ℕ) → (kind ≡ telemetry_bit) ⊎ (kind ≡ message_bit) → AddsService name service → bit_or kind (nws_of name) ≡ kind + service
sum_class name kind service k (inl s) = rw (service_is name service (inl s), s.1) (elim k [ inl e ↦ rw e refl | inr e ↦ rw e refl ])
sum_class name kind service k (inr s) = rw (service_is name service (inr s), s.1) (elim k [ inl e ↦ rw e refl | inr e ↦ rw e refl ])

kind_of : (words : List ℕ) (kind : ℕ) → IsMessageClass words kind → (kind ≡ telemetry_bit) ⊎ (kind ≡ message_bit)
kind_of words kind (inl k) = inl k.1
kind_of words kind (inr k) = inr k.1

-- what is read of a message
abbrev message_by : (field words : List ℕ) → Body
message_by field words = record { class = bit_or (message_class words) (nws_of field); place = None; name = None; live = false; to = Some (without_trailing_blanks field) }

message_with : (rest : List ℕ) → get_or rest 9 0 ≡ 58 → IsMessage (58 ∷ rest) (message_by (take 9 rest) (drop 10 rest))
message_with rest mark =
    let at = message_columns rest mark in
    let name = take 9 rest in
    let words = drop 10 rest in
    record {
      field = name;
      to = without_trailing_blanks name;
      words = words;
      kind = message_class words;
      service = nws_of name;
      spelled = ap (λ t. 58 ∷ t) (at.spelled ∙ ap (λ b. name ++ (b ∷ words)) mark);
      nine = at.name;
      padded = padded name;
      class = class_adds words;
      adds = service_adds name;
      says_is = rw (sum_class name (message_class words) (nws_of name) (kind_of words _ (class_adds words)) (service_adds name)) refl;
    }

message_cases : (rest : List ℕ) (marked : Bool) → eqb (get_or rest 9 0) 58 ≡ marked → OrBare (IsMessage (58 ∷ rest)) (cond marked (message_by (take 9 rest) (drop 10 rest)) (bare 0))
message_cases rest true m = inl (message_with rest (eqb-true _ _ m))
message_cases rest false m = inr refl

pub message_read : (rest : List ℕ) → OrBare (IsMessage (58 ∷ rest)) (message_of (58 ∷ rest))
message_read rest = message_cases rest (eqb (get_or rest 9 0) 58) refl

message_spelled : (field words : List ℕ) → Nine field → message_of (58 ∷ (field ++ (58 ∷ words))) ≡ message_by field words
message_spelled field words n = rw n.9 refl

pub message_again : (text : List ℕ) (says : Body) → IsMessage text says → message_of text ≡ says
message_again text says w =
    ap message_of w.spelled ∙ message_spelled w.field w.words (nine w.field w.nine)
    ∙ rw (class_is w.words w.kind w.class, sum_class w.field w.kind w.service (kind_of w.words w.kind w.class) w.adds, padded_is w.to w.field w.padded) (sym w.says_is)
