-- The name of a link is a call.
use Rattle.std.proofs.Common.{◌≡◌, ℕ, ◌<◌, ◌≤◌, ◌^◌, true, false, List, [], ◌∷◌, length, refl, arith, rules}
use Rattle.std.specs.Prelude.{◌==◌, nat_le}
use Rattle.std.specs.Fmt.{decimal}
use Rattle.std.specs.Int.{IsInRange}
use Rattle.std.specs.List.{list_all, position_or_len, before_first}
use Rattle.std.specs.Str.Parse.{AllDigits}
use Rattle.std.proofs.lemmas.Bool.{and_from}
use Rattle.std.proofs.lemmas.Bool.Decides.{nat_tests}
use Rattle.std.proofs.lemmas.Fmt.{decimal_is_IsNumeral, length-decimal-le}
use Rattle.std.proofs.lemmas.List.{take_all}
use Rattle.std.proofs.lemmas.Str.Parse.{tells_digits}
use Rattle.std.specs.Char.{is_ascii_alphanumeric}
use Rattle.aprs_base.specs.Bytes.{is_call, is_dash, IsCall}
use Rattle.drill_plan.specs.Drill.{link_name}

alphanumeric_in : (c : ℕ) → IsInRange 48 57 c → is_ascii_alphanumeric c ≡ true
alphanumeric_in c h = grind (arith, nat_tests)

no_dash_in : (c : ℕ) → IsInRange 48 57 c → is_dash c ≡ false
no_dash_in c h = grind (arith, nat_tests)

digits_alphanumeric : (ds : List ℕ) → AllDigits 10 ds → list_all is_ascii_alphanumeric ds ≡ true
digits_alphanumeric [] h = refl
digits_alphanumeric (c ∷ cs) h =
    let parts = tells_digits.parts c cs h in
    and_from _ _ (alphanumeric_in c parts.0) (digits_alphanumeric cs parts.1)

digits_without_dash : (ds : List ℕ) → AllDigits 10 ds → position_or_len is_dash ds ≡ length ds
digits_without_dash [] h = refl
digits_without_dash (c ∷ cs) h =
    let parts = tells_digits.parts c cs h in
    let none : is_dash c ≡ false = no_dash_in c parts.0 in
    rw (none, digits_without_dash cs parts.1) (omega arith)

whole_base : (ds : List ℕ) → AllDigits 10 ds → before_first is_dash (68 ∷ ds) ≡ 68 ∷ ds
whole_base ds h =
    let e : position_or_len is_dash (68 ∷ ds) ≡ length (68 ∷ ds) = rw (digits_without_dash ds h) (omega arith) in
    take_all _ (68 ∷ ds) (omega arith)

call_of : (ds : List ℕ) → AllDigits 10 ds → length ds ≤ 8 → is_call (68 ∷ ds) ≡ true
call_of ds h short =
    let few : nat_le (length (68 ∷ ds)) 9 ≡ true = grind (arith, nat_tests) in
    let some : nat_le 1 (length (68 ∷ ds)) ≡ true = grind (arith, nat_tests) in
    let same : (length (68 ∷ ds) == length (68 ∷ ds)) ≡ true = grind (arith, nat_tests) in
    rw (whole_base ds h, few, some, digits_alphanumeric ds h, same) refl

pub name_is_call : (link : ℕ) → link < 100000000 → IsCall (link_name link)
name_is_call link h =
    let fits : link < 2 ^ 64 = omega arith in
    let digits = (decimal_is_IsNumeral link fits).0.1 in
    search (rules, call_of (decimal link) digits (length-decimal-le 8 link (omega arith) h fits))
