-- A call has bytes, and no blanks, line ends or slashes.
use Rattle.std.proofs.Common.{◌≡◌, ℕ, ◌<◌, ◌≤◌, Bool, true, false, ◌==◌, ◌&&◌, ◌||◌, nat_le, List, ◌∷◌, ◌++◌, length, get_or, refl, sym, ap, ◌∙◌, arith, subst, append-nil}
use Rattle.std.specs.List.{list_all, position_or_len}
use Rattle.std.proofs.Math.ListN.{drop_of_length-le}
use Rattle.std.proofs.lemmas.List.{length-take, take-append-drop}
use Rattle.std.proofs.lemmas.List.Sums.{split_at_first, passes_at_first}
use Rattle.std.proofs.lemmas.List.Folds.{list_all-append}
use Rattle.std.proofs.lemmas.Bool.{eqb-true, eqb-false, leb-true, and_parts}
use Rattle.std.proofs.lemmas.Bool.Decides.{nat_tests}
use Rattle.std.specs.Char.{is_ascii_alphanumeric}
use Rattle.aprs_base.proofs.CallLemmas.{each_weaker}
use Rattle.aprs_base.specs.Bytes.{is_call, is_dash, base_of, ssid_of, is_ssid_text, has_no_bad_ssid}
use Rattle.filter_lang.proofs.Tools.{is_clean}

pub alphanumeric_clean : (b : ℕ) → is_ascii_alphanumeric b ≡ true → is_clean b ≡ true
alphanumeric_clean b h = grind (arith, nat_tests)

pub dash_clean : (b : ℕ) → is_dash b ≡ true → is_clean b ≡ true
dash_clean b h = grind (arith, nat_tests)

-- what the test of a call says
pub record CallParts (call : List ℕ) : Type 0 where
  pub some : 1 ≤ length (base_of call)
  pub base : list_all is_ascii_alphanumeric (base_of call) ≡ true
  pub ssid : has_no_bad_ssid call ≡ true

pub call_parts : (call : List ℕ) → is_call call ≡ true → CallParts call
call_parts call h =
    let first = and_parts (nat_le (length call) 9 && nat_le 1 (length (base_of call)) && list_all is_ascii_alphanumeric (base_of call)) (has_no_bad_ssid call) h in
    let second = and_parts (nat_le (length call) 9 && nat_le 1 (length (base_of call))) (list_all is_ascii_alphanumeric (base_of call)) first.0 in
    let third = and_parts (nat_le (length call) 9) (nat_le 1 (length (base_of call))) second.0 in
    record { some = leb-true 1 (length (base_of call)) third.1; base = second.1; ssid = first.1 }

pub call_neat : (call : List ℕ) → is_call call ≡ true → list_all is_clean call ≡ true
call_neat call h = by (length (base_of call) == length call) refl (parts.ssid)
  where
    parts : CallParts call
    parts = call_parts call h

    clean : list_all is_clean (base_of call) ≡ true
    clean = each_weaker is_ascii_alphanumeric is_clean alphanumeric_clean (base_of call) parts.base

    by : (c : Bool) → (length (base_of call) == length call) ≡ c → (c || is_ssid_text (ssid_of call)) ≡ true → list_all is_clean call ≡ true
    by true whole good =
        let same = eqb-true (length (base_of call)) (length call) whole in
        let past : length call ≤ position_or_len is_dash call = omega (arith, length-take (position_or_len is_dash call) call) in
        let none = drop_of_length-le call {i = position_or_len is_dash call} past in
        let all = take-append-drop (position_or_len is_dash call) call in
        let base = base_of call in
        let equal : base ≡ call = sym (append-nil base) ∙ ap (λ (z : List ℕ). base ++ z) (sym none) ∙ all in
        subst (λ (x : List ℕ). list_all is_clean x ≡ true) equal clean
    by false apart good =
        let other = eqb-false (length (base_of call)) (length call) apart in
        let within : position_or_len is_dash call < length call = omega (arith, length-take (position_or_len is_dash call) call) in
        let split = split_at_first is_dash call 0 within in
        let dash = dash_clean (get_or call (position_or_len is_dash call) 0) (passes_at_first is_dash call 0 within) in
        let ssid = and_parts (nat_le 1 (length (ssid_of call)) && nat_le (length (ssid_of call)) 2) (list_all is_ascii_alphanumeric (ssid_of call)) good in
        let rest = each_weaker is_ascii_alphanumeric is_clean alphanumeric_clean (ssid_of call) ssid.1 in
        let pieces : list_all is_clean (base_of call ++ get_or call (position_or_len is_dash call) 0 ∷ ssid_of call) ≡ true = rw (list_all-append is_clean (base_of call) (get_or call (position_or_len is_dash call) 0 ∷ ssid_of call), clean, dash, rest) refl in
        subst (λ (x : List ℕ). list_all is_clean x ≡ true) (sym split) pieces
