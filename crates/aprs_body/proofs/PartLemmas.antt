-- The parts of bodies: what the definition reads is what the grammar writes.
use Rattle.std.proofs.Common.{◌≡◌, ℕ, ◌+◌, Bool, true, false, cond, eqb, ◌⊎◌, inl, inr, List, [], ◌∷◌, ◌++◌, length, drop, Some, None, refl, sym, ap, ◌∙◌}
use Rattle.std.specs.Prelude.{bit_or, codes}
use Rattle.std.specs.Bool.{Decides}
use Rattle.std.specs.List.{list_all, list_any, starts_with}
use Rattle.std.proofs.lemmas.Bool.Decides.{Decides-at, Decides-eqb, Decides-or, eqb_tells}
use Rattle.std.proofs.lemmas.Bool.{eq-eqb, eqb-true, false≢true, and_parts}
use Rattle.std.proofs.Math.Bool.{or-false}
use Rattle.std.proofs.lemmas.Slice.Eq.{starts_is}
use Rattle.aprs_base.specs.Bytes.{is_blank}
use Rattle.aprs_base.specs.declared.packets.Place.{Place}
use Rattle.aprs_position.proofs.Steps.{chosen}
use Rattle.aprs_body.specs.Bodies.{life_of, message_class, nws_of, put, telemetry_words, weather_of, without_trailing_blanks}
use Rattle.aprs_body.specs.Classes.{message_bit, nws_bit, telemetry_bit, weather_bit}
use Rattle.aprs_body.specs.Grammar.{Adds, AddsService, AddsWeather, BeginsWith, EndsTight, IsDefinitions, IsMessageClass, Padded, SaysLife}

-- one of two classes, by a fact
abbrev Picks : (it else_ : ℕ) → Type 0 → ℕ → Type 0
Picks it else_ P class = (P × (class ≡ it)) ⊎ ((P → ⊥) × (class ≡ else_))

picked : (it else_ : ℕ) (P : Type 0) (test : Bool) → Decides test P → Picks it else_ P (cond test it else_)
picked it else_ P true d = inl (d.0 refl, refl)
picked it else_ P false d = inr ((λ p. false≢true (d.1 p)), refl)

same_picked : (it else_ : ℕ) (P : Type 0) (a b : ℕ) → Picks it else_ P a → Picks it else_ P b → a ≡ b
same_picked it else_ P a b (inl x) (inl y) = x.1 ∙ sym y.1
same_picked it else_ P a b (inl x) (inr y) = absurd (y.0 x.0)
same_picked it else_ P a b (inr x) (inl y) = absurd (x.0 y.0)
same_picked it else_ P a b (inr x) (inr y) = x.1 ∙ sym y.1

-- a bit that a class hasn't is added
pub added : (bit class add : ℕ) (P : Type 0) → bit_or class bit ≡ class + bit → bit_or class 0 ≡ class + 0 → Adds bit P add → bit_or class add ≡ class + add
added bit class add P with without (inl x) = rw x.1 with
added bit class add P with without (inr x) = rw x.1 without

pub weather_adds : (place : Place) → AddsWeather (Some place) (weather_of place)
weather_adds place = picked weather_bit 0 (place.code ≡ 95) (eqb place.code 95) (Decides-eqb place.code 95)

pub weather_is : (place : Place) (add : ℕ) → AddsWeather (Some place) add → weather_of place ≡ add
weather_is place add adds = same_picked weather_bit 0 (place.code ≡ 95) _ _ (weather_adds place) adds

-- a text begins with a word exactly where its test says so
begins : (word text : List ℕ) → Decides (starts_with eqb text word) (BeginsWith word text)
begins word text =
    let is = starts_is Decides-eqb text word (starts_with eqb text word) refl in
    ((λ e. (drop (length word) text, is.0 e)), (λ b. is.1 b.0 b.1))

pub service_adds : (name : List ℕ) → AddsService name (nws_of name)
service_adds name = picked nws_bit 0 (BeginsWith (codes "NWS") name) (starts_with eqb name (codes "NWS")) (begins (codes "NWS") name)

pub service_is : (name : List ℕ) (add : ℕ) → AddsService name add → nws_of name ≡ add
service_is name add adds = same_picked nws_bit 0 (BeginsWith (codes "NWS") name) _ _ (service_adds name) adds

definitions : (words : List ℕ) → Decides (list_any (starts_with eqb words) telemetry_words) (IsDefinitions words)
definitions words =
    Decides-or _ _ (begins (codes "PARM.") words) (Decides-or _ _ (begins (codes "UNIT.") words)
    (Decides-or _ _ (begins (codes "EQNS.") words) (Decides-at _ _ (or-false _) (begins (codes "BITS.") words))))

pub class_adds : (words : List ℕ) → IsMessageClass words (message_class words)
class_adds words = picked telemetry_bit message_bit (IsDefinitions words) _ (definitions words)

pub class_is : (words : List ℕ) (class : ℕ) → IsMessageClass words class → message_class words ≡ class
class_is words class is = same_picked telemetry_bit message_bit (IsDefinitions words) _ _ (class_adds words) is

pub life_read : (sign mark : ℕ) (live : Bool) → life_of sign mark ≡ Some live → SaysLife sign mark live
life_read sign mark live h =
    elim (chosen (eqb mark sign) (Some true) (cond (eqb mark 95) (Some false) None) (Some live) h) [
      | inl on ↦ inl (eqb-true _ _ on.0, cc)
      | inr off ↦ elim (chosen (eqb mark 95) (Some false) None (Some live) off.1) [
        | inl killed ↦ inr (eqb-true _ _ killed.0, cc)
        | inr none ↦ cc
      ]
    ]

pub life_again : (sign mark : ℕ) (live : Bool) → eqb 95 sign ≡ false → SaysLife sign mark live → life_of sign mark ≡ Some live
life_again sign mark live other (inl on) = rw (eq-eqb mark sign on.0, on.1) refl
life_again sign mark live other (inr off) = rw (off.0, off.1, other) refl

-- a text of blanks alone
all_blank : (blanks : List ℕ) → list_all is_blank blanks ≡ true → without_trailing_blanks blanks ≡ []
all_blank [] h = refl
all_blank (b ∷ bs) h =
    let tests = and_parts (is_blank b) (list_all is_blank bs) h in
    rw (all_blank bs tests.1, tests.0) refl

unpadded : (text blanks : List ℕ) → EndsTight text → list_all is_blank blanks ≡ true → without_trailing_blanks (text ++ blanks) ≡ text
unpadded [] blanks tight h = all_blank blanks h
unpadded (b ∷ []) blanks tight h = elim (eqb_tells b 32) [
  | inl on ↦ absurd (tight on.1)
  | inr off ↦ rw (all_blank blanks h, off.0) refl
]
unpadded (b ∷ c ∷ more) blanks tight h = ap (put b) (unpadded (c ∷ more) blanks tight h)

pub padded_is : (text field : List ℕ) → Padded text field → without_trailing_blanks field ≡ text
padded_is text field p = ap without_trailing_blanks p.split ∙ unpadded text p.blanks p.tight p.blank

put_padded : (b : ℕ) (bs text : List ℕ) → Padded text bs → Padded (put b text) (b ∷ bs)
put_padded b bs [] p = elim (eqb_tells b 32) [
  | inl on ↦ rw on.0 (record { blanks = b ∷ p.blanks; split = ap (λ ys. b ∷ ys) p.split; blank = rw on.0 p.blank; tight = tt })
  | inr off ↦ rw off.0 (record { blanks = p.blanks; split = ap (λ ys. b ∷ ys) p.split; blank = p.blank; tight = off.1 })
]
put_padded b bs (c ∷ more) p = record { blanks = p.blanks; split = ap (λ ys. b ∷ ys) p.split; blank = p.blank; tight = p.tight }

pub padded : (field : List ℕ) → Padded (without_trailing_blanks field) field
padded [] = record { blanks = []; split = refl; blank = refl; tight = tt }
padded (b ∷ bs) = put_padded b bs (without_trailing_blanks bs) (padded bs)
