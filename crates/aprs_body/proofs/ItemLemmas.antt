-- Items: what the definition reads is what the grammar writes.
use Rattle.std.proofs.Common.{◌≡◌, ℕ, ◌+◌, ◌<◌, ◌≤◌, suc, Bool, true, false, cond, eqb, leb, ltb, not, ◌&&◌, inl, inr, List, [], ◌∷◌, ◌++◌, length, take, drop, get_or, bit_or, Option, Some, None, refl, sym, ap, ◌∙◌, arith}
use Rattle.std.specs.List.{list_all}
use Rattle.std.proofs.Math.Seq.{drop-append-add, get_or-append_seam, take-append_seam}
use Rattle.std.proofs.lemmas.Bool.{eqb-true, leb-true, le-leb, lt-ltb, ltb-true, and_parts, not-true, or_cases}
use Rattle.std.proofs.lemmas.List.{drop_more, length-append, length-take-le, take-append-drop}
use Rattle.aprs_base.specs.declared.packets.Body.{Body}
use Rattle.aprs_base.specs.declared.packets.Place.{Place}
use Rattle.aprs_position.specs.Either.{either_place}
use Rattle.aprs_position.proofs.EitherGrammar.{either_again, either_read}
use Rattle.aprs_body.specs.Bodies.{bare, is_item_mark, item_in, named, name_len, weather_of}
use Rattle.aprs_body.specs.Classes.{item_bit, weather_bit}
use Rattle.aprs_body.specs.Grammar.{AddsWeather, IsItem, SaysLife}
use Rattle.aprs_body.proofs.NamedLemmas.{OrBare}
use Rattle.aprs_body.proofs.PartLemmas.{added, weather_adds, weather_is}

-- no mark stands in a name
abbrev is_unmarked : ℕ → Bool
is_unmarked b = not (is_item_mark b)

-- the first mark of a text
record FirstMark (xs : List ℕ) (n : ℕ) : Type 0 where
  unmarked : list_all is_unmarked (take n xs) ≡ true
  marked : is_item_mark (get_or xs n 0) ≡ true

first_mark : (xs : List ℕ) → name_len xs < length xs → FirstMark xs (name_len xs)
first_mark [] lt = absurd (omega arith)
first_mark (x ∷ xs) lt =
    elim (is_item_mark x) as (λ b. is_item_mark x ≡ b → cond (not b) (1 + name_len xs) 0 < length (x ∷ xs) → FirstMark (x ∷ xs) (cond (not b) (1 + name_len xs) 0)) [
      | true ↦ λ e lt. record { unmarked = refl; marked = e }
      | false ↦ λ e lt. let more = first_mark xs (omega arith) in
          let step : 1 + name_len xs ≡ suc (name_len xs) = omega arith in
          rw step (record { unmarked = rw (e, more.unmarked) refl; marked = more.marked })
    ] refl lt

-- a name and its mark
marked_len : (name rest : List ℕ) (mark : ℕ) → list_all is_unmarked name ≡ true → is_item_mark mark ≡ true → name_len (name ++ (mark ∷ rest)) ≡ length name
marked_len [] rest mark all is = rw is refl
marked_len (x ∷ xs) rest mark all is =
    let tests = and_parts (is_unmarked x) (list_all is_unmarked xs) all in
    rw (not-true (is_item_mark x) tests.0, marked_len xs rest mark tests.1 is) (omega arith)

item_class : (place : Place) (weather : ℕ) → AddsWeather (Some place) weather → bit_or item_bit (weather_of place) ≡ item_bit + weather
item_class place weather w = rw (weather_is place weather w) (added weather_bit item_bit weather (place.code ≡ 95) refl refl w)

-- what is read of an item, by the length of its name and its place
abbrev item_by : (n : ℕ) → List ℕ → Option Place → Body
item_by n rest place = named item_bit (take n rest) (eqb (get_or rest n 0) 33) place

mark_says : (mark : ℕ) → is_item_mark mark ≡ true → SaysLife 33 mark (eqb mark 33)
mark_says mark is = elim (or_cases (eqb mark 33) (eqb mark 95) is) [
  | inl live ↦ inl (eqb-true _ _ live, live)
  | inr killed ↦ let e : mark ≡ 95 = eqb-true _ _ killed in inr (e, rw e refl)
]

item_with : (rest : List ℕ) (place : Place) → 3 ≤ name_len rest → name_len rest ≤ 9 → name_len rest < length rest → either_place (drop (name_len rest + 1) rest) ≡ Some place →
    IsItem (41 ∷ rest) (item_by (name_len rest) rest (Some place))
item_with rest place three nine within placed =
    let n = name_len rest in
    let at = first_mark rest within in
    let len : length (take n rest) ≡ n = length-take-le n rest (omega arith) in
    record {
      name = take n rest;
      mark = get_or rest n 0;
      rest = drop (n + 1) rest;
      place = place;
      live = eqb (get_or rest n 0) 33;
      weather = weather_of place;
      spelled = ap (λ t. 41 ∷ t) (sym (take-append-drop n rest) ∙ ap (λ t. take n rest ++ t) (drop_more rest n 0 within));
      unmarked = at.unmarked;
      sized = (rw len three, rw len nine);
      life = mark_says (get_or rest n 0) at.marked;
      position = either_read (drop (n + 1) rest) place placed;
      adds = weather_adds place;
      says_is = rw (item_class place (weather_of place) (weather_adds place)) refl;
    }

item_cases : (rest : List ℕ) (sized : Bool) (place : Option Place) → (leb 3 (name_len rest) && leb (name_len rest) 9 && ltb (name_len rest) (length rest)) ≡ sized →
    either_place (drop (name_len rest + 1) rest) ≡ place → OrBare (IsItem (41 ∷ rest)) (cond sized (item_by (name_len rest) rest place) (bare 0))
item_cases rest false place s p = inr refl
item_cases rest true None s p = inr refl
item_cases rest true (Some place) s p =
    let front = and_parts (leb 3 (name_len rest) && leb (name_len rest) 9) (ltb (name_len rest) (length rest)) s in
    let tests = and_parts (leb 3 (name_len rest)) (leb (name_len rest) 9) front.0 in
    inl (item_with rest place (leb-true _ _ tests.0) (leb-true _ _ tests.1) (ltb-true _ _ front.1) p)

pub item_read : (rest : List ℕ) → OrBare (IsItem (41 ∷ rest)) (item_in rest)
item_read rest = item_cases rest (leb 3 (name_len rest) && leb (name_len rest) 9 && ltb (name_len rest) (length rest)) (either_place (drop (name_len rest + 1) rest)) refl refl

mark_is : (mark : ℕ) (live : Bool) → SaysLife 33 mark live → (is_item_mark mark ≡ true) × (eqb mark 33 ≡ live)
mark_is mark live (inl s) = rw (s.0, s.1) (refl, refl)
mark_is mark live (inr s) = rw (s.0, s.1) (refl, refl)

-- the definition on a name of that length
item_at : (rest : List ℕ) (n : ℕ) (place : Place) → name_len rest ≡ n → 3 ≤ n → n ≤ 9 → n < length rest → either_place (drop (n + 1) rest) ≡ Some place →
    item_in rest ≡ item_by n rest (Some place)
item_at rest n place len three nine within placed = rw (len, le-leb 3 n three, le-leb n 9 nine, lt-ltb n (length rest) within, placed) refl

item_spelled : (name rest : List ℕ) (mark : ℕ) (live : Bool) (place : Place) → list_all is_unmarked name ≡ true → 3 ≤ length name → length name ≤ 9 → SaysLife 33 mark live →
    either_place rest ≡ Some place → item_in (name ++ (mark ∷ rest)) ≡ named item_bit name live (Some place)
item_spelled name rest mark live place all three nine life placed =
    let m = mark_is mark live life in
    let text = name ++ (mark ∷ rest) in
    let len : length text ≡ length name + suc (length rest) = length-append name (mark ∷ rest) in
    let rest_is : drop (length name + 1) text ≡ rest = drop-append-add name (mark ∷ rest) 1 in
    item_at text (length name) place (marked_len name rest mark all m.0) three nine (omega arith) (rw rest_is placed)
    ∙ rw (take-append_seam name (mark ∷ rest), get_or-append_seam name mark rest 0, m.1) refl

pub item_again : (text : List ℕ) (says : Body) → IsItem text says → item_in (drop 1 text) ≡ says
item_again text says w =
    ap (λ t. item_in (drop 1 t)) w.spelled
    ∙ item_spelled w.name w.rest w.mark w.live w.place w.unmarked w.sized.0 w.sized.1 w.life (either_again w.rest w.place w.position)
    ∙ rw (item_class w.place w.weather w.adds) (sym w.says_is)
