-- Numbers that digits spell.
use Rattle.std.proofs.Common.{◌≡◌, ℕ, ◌+◌, ◌-◌, ◌*◌, ◌<◌, ◌≤◌, false, List, [], ◌∷◌, drop, length, get_or, sym, ap, arith, ◌∙◌}
use Rattle.std.specs.Prelude.{nat_le}
use Rattle.std.proofs.lemmas.Bool.Decides.{nat_tests}
use Rattle.std.proofs.lemmas.List.{drop_more}
use Rattle.login_pass.specs.Login.{number_from}

-- further digits make no number smaller
pub grows : (n : ℕ) (digits : List ℕ) → n ≤ number_from n digits
grows n [] = omega arith
grows n (digit ∷ digits) = let more = grows (n * 10 + (digit - 48)) digits in omega arith

-- so a number that is too great stays so
pub stays_great : (n most : ℕ) (digits more : List ℕ) → number_from n more ≡ number_from 0 digits → most < n → nat_le (number_from 0 digits) most ≡ false
stays_great n most digits more whole great =
    let grown = grows n more in
    let less : most < number_from 0 digits = omega (arith, whole) in
    grind (arith, nat_tests, less)

-- a number that the next digit makes too great stays so
pub too_great : (n most i : ℕ) (digits : List ℕ) (digit : ℕ) → i < length digits → digit ≡ get_or digits i 0 - 48
    → number_from n (drop i digits) ≡ number_from 0 digits → most < n * 10 + digit → nat_le (number_from 0 digits) most ≡ false
too_great n most i digits digit within is whole great =
    stays_great (n * 10 + (get_or digits i 0 - 48)) most digits (drop (i + 1) digits) (sym (ap (number_from n) (drop_more digits i 0 within)) ∙ whole) (omega (arith, is))
