-- The bytes of a call are letters, digits and the dash.
use Rattle.std.proofs.Common.{◌≡◌, ℕ, suc, ◌+◌, ◌≤◌, Bool, true, false, cond, not, ◌||◌, ◌&&◌, List, [], ◌∷◌, take, drop, length, refl, leb, arith}
use Rattle.std.specs.Prelude.{◌==◌}
use Rattle.std.specs.List.{list_all, position_or_len, before_first, after_first}
use Rattle.std.proofs.lemmas.Bool.{and_parts, and_from, eqb-true, leb-true}
use Rattle.std.proofs.lemmas.Bool.Decides.{nat_tests}
use Rattle.std.proofs.lemmas.List.{length-take-le}
use Rattle.std.proofs.Math.ListN.{drop_of_length-le}
use Rattle.std.specs.Char.{is_ascii_alphanumeric}
use Rattle.aprs_base.specs.Bytes.{is_dash, is_call, is_inner, IsInner, base_of, ssid_of, is_ssid_text, has_no_bad_ssid}

abbrev pub is_call_byte : ℕ → Bool
is_call_byte b = is_ascii_alphanumeric b || is_dash b

pub each_weaker : (p q : ℕ → Bool) → ((b : ℕ) → p b ≡ true → q b ≡ true) → (xs : List ℕ) → list_all p xs ≡ true → list_all q xs ≡ true
each_weaker p q gives [] h = refl
each_weaker p q gives (x ∷ xs) h = let parts : (p x ≡ true) × (list_all p xs ≡ true) = and_parts _ _ h in and_from _ _ (gives x parts.0) (each_weaker p q gives xs parts.1)

alphanumeric_is : (b : ℕ) → is_ascii_alphanumeric b ≡ true → is_call_byte b ≡ true
alphanumeric_is b h = rw h refl

pub drop_two : (n : ℕ) (x : ℕ) (xs : List ℕ) → drop (1 + n + 1) (x ∷ xs) ≡ drop (n + 1) xs
drop_two n x xs = let e : 1 + n + 1 ≡ suc (n + 1) = omega arith in rw e refl

pub take_one : (n : ℕ) (x : ℕ) (xs : List ℕ) → take (1 + n) (x ∷ xs) ≡ x ∷ take n xs
take_one n x xs = let e : 1 + n ≡ suc n = omega arith in rw e refl

around_dash : (text : List ℕ) → list_all is_ascii_alphanumeric (before_first is_dash text) ≡ true → list_all is_ascii_alphanumeric (after_first is_dash text) ≡ true → list_all is_call_byte text ≡ true
around_dash [] h k = refl
around_dash (x ∷ xs) h k =
    elim (is_dash x) as (λ b. is_dash x ≡ b → list_all is_ascii_alphanumeric (take (cond (not b) (1 + position_or_len is_dash xs) 0) (x ∷ xs)) ≡ true
    → list_all is_ascii_alphanumeric (drop (cond (not b) (1 + position_or_len is_dash xs) 0 + 1) (x ∷ xs)) ≡ true → (is_call_byte x && list_all is_call_byte xs) ≡ true) [
      | true ↦ λ e u v. and_from _ _ (rw e (grind arith)) (each_weaker is_ascii_alphanumeric is_call_byte alphanumeric_is xs v)
      | false ↦ λ e u v.
          let front : (is_ascii_alphanumeric x ≡ true) × (list_all is_ascii_alphanumeric (take (position_or_len is_dash xs) xs) ≡ true) = and_parts _ _ (rw (take_one (position_or_len is_dash xs) x xs) at u) in
          and_from _ _ (alphanumeric_is x front.0) (around_dash xs front.1 (rw (drop_two (position_or_len is_dash xs) x xs) at v))
    ] refl h k

position_within : (test : ℕ → Bool) (xs : List ℕ) → position_or_len test xs ≤ length xs
position_within test [] = omega arith
position_within test (x ∷ xs) =
    elim (test x) as (λ b. cond (not b) (1 + position_or_len test xs) 0 ≤ length (x ∷ xs)) [
      | true ↦ omega arith
      | false ↦ omega (arith, position_within test xs)
    ]

after_dash : (text : List ℕ) → has_no_bad_ssid text ≡ true → list_all is_ascii_alphanumeric (ssid_of text) ≡ true
after_dash text h =
    elim (length (base_of text) == length text) as (λ b. (length (base_of text) == length text) ≡ b → (b || is_ssid_text (ssid_of text)) ≡ true → list_all is_ascii_alphanumeric (ssid_of text) ≡ true) [
      | true ↦ λ e _.
          let long : length (base_of text) ≡ position_or_len is_dash text = length-take-le _ text (position_within is_dash text) in
          let same : length (base_of text) ≡ length text = eqb-true _ _ e in
          let none : drop (position_or_len is_dash text + 1) text ≡ [] = drop_of_length-le text (omega arith) in
          rw none refl
      | false ↦ λ _ e. (and_parts _ _ e).1
    ] refl h

pub call_bytes : (text : List ℕ) → is_call text ≡ true → list_all is_call_byte text ≡ true
call_bytes text h =
    let p = and_parts _ (has_no_bad_ssid text) h in
    let q = and_parts _ (list_all is_ascii_alphanumeric (base_of text)) p.0 in
    around_dash text q.1 (after_dash text p.1)

pub call_short : (text : List ℕ) → is_call text ≡ true → length text ≤ 9
call_short text h =
    let p = and_parts _ (has_no_bad_ssid text) h in
    let q = and_parts _ (list_all is_ascii_alphanumeric (base_of text)) p.0 in
    let r = and_parts (leb (length text) 9) (leb 1 (length (base_of text))) q.0 in
    leb-true _ _ r.0

pub no_line_end : (b : ℕ) → is_call_byte b ≡ true → is_inner b ≡ true
no_line_end b h = grind (arith, nat_tests)

-- a call has no line end
pub call_inner : (text : List ℕ) → is_call text ≡ true → IsInner text
call_inner text h = each_weaker is_call_byte is_inner no_line_end text (call_bytes text h)
