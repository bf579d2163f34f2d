-- The text of a date has 24 bytes, each of which prints.
use Rattle.std.proofs.Common.{◌≡◌, ℕ, zero, suc, ◌+◌, ◌/◌, ◌%◌, ◌<◌, Bool, true, List, ◌∷◌, ◌++◌, length, min, take, drop, codes, refl, ap, ◌∙◌, arith, append_assoc, length-append}
use Rattle.std.specs.Prelude.{nat_le, ◌&&◌}
use Rattle.std.proofs.lemmas.Bool.Decides.{nat_tests}
use Rattle.std.specs.List.{list_all}
use Rattle.std.specs.Int.{IsInRange}
use Rattle.std.proofs.lemmas.List.{take_all}
use Rattle.std.proofs.lemmas.List.Folds.{list_all-append}
use Rattle.httpdate.specs.declared.parts.Parts.{Parts}
use Rattle.httpdate.specs.Text.{day_name, month_name, two_digits, four_digits, imf_fixdate}
use Rattle.httpdate.specs.Valid.{IsValid}
use Rattle.comment_date.specs.Dates.{last_second, parts_at, date_at}
use Rattle.comment_date.proofs.DateLemmas.{is_date}

-- a byte of ASCII that prints, or a blank
abbrev pub is_printed : ℕ → Bool
is_printed b = nat_le 32 b && nat_le b 126

-- a text of so many bytes, each of which prints
pub record Prints (n : ℕ) (text : List ℕ) : Type 0 where
  pub size : length text ≡ n
  pub printed : list_all is_printed text ≡ true

joined : {n k : ℕ} {xs ys : List ℕ} → Prints n xs → Prints k ys → Prints (n + k) (xs ++ ys)
joined {xs = xs} {ys = ys} h i = record {
  size = length-append xs ys ∙ rw (h.size, i.size) refl;
  printed = list_all-append is_printed xs ys ∙ rw (h.printed, i.printed) refl;
}

-- with a mark between them
marked : {n k : ℕ} {xs ys : List ℕ} (mark : ℕ) → is_printed mark ≡ true → Prints n xs → Prints k ys → Prints (n + suc k) (xs ++ mark ∷ ys)
marked mark e h i = joined h (record { size = ap suc i.size; printed = rw (e, i.printed) refl })

two : (n : ℕ) → n < 100 → Prints 2 (two_digits n)
two n h = record { size = refl; printed = grind (arith, nat_tests) }

four : (n : ℕ) → n < 10000 → Prints 4 (four_digits n)
four n h = joined (two (n / 100) (omega arith)) (two (n % 100) (omega arith))

month : (m : ℕ) → IsInRange 1 12 m → Prints 3 (month_name m)
month zero h = absurd (omega arith)
month (suc zero) h = record { size = refl; printed = refl }
month (suc (suc zero)) h = record { size = refl; printed = refl }
month (suc (suc (suc zero))) h = record { size = refl; printed = refl }
month (suc (suc (suc (suc zero)))) h = record { size = refl; printed = refl }
month (suc (suc (suc (suc (suc zero))))) h = record { size = refl; printed = refl }
month (suc (suc (suc (suc (suc (suc zero)))))) h = record { size = refl; printed = refl }
month (suc (suc (suc (suc (suc (suc (suc zero))))))) h = record { size = refl; printed = refl }
month (suc (suc (suc (suc (suc (suc (suc (suc zero)))))))) h = record { size = refl; printed = refl }
month (suc (suc (suc (suc (suc (suc (suc (suc (suc zero))))))))) h = record { size = refl; printed = refl }
month (suc (suc (suc (suc (suc (suc (suc (suc (suc (suc zero)))))))))) h = record { size = refl; printed = refl }
month (suc (suc (suc (suc (suc (suc (suc (suc (suc (suc (suc zero))))))))))) h = record { size = refl; printed = refl }
month (suc (suc (suc (suc (suc (suc (suc (suc (suc (suc (suc (suc zero)))))))))))) h = record { size = refl; printed = refl }
month (suc (suc (suc (suc (suc (suc (suc (suc (suc (suc (suc (suc (suc m))))))))))))) h = absurd (omega arith)

behind_day : (w : ℕ) (rest : List ℕ) → IsInRange 1 7 w → drop 5 (day_name w ++ 44 ∷ 32 ∷ rest) ≡ rest
behind_day zero rest h = absurd (omega arith)
behind_day (suc zero) rest h = refl
behind_day (suc (suc zero)) rest h = refl
behind_day (suc (suc (suc zero))) rest h = refl
behind_day (suc (suc (suc (suc zero)))) rest h = refl
behind_day (suc (suc (suc (suc (suc zero))))) rest h = refl
behind_day (suc (suc (suc (suc (suc (suc zero)))))) rest h = refl
behind_day (suc (suc (suc (suc (suc (suc (suc zero))))))) rest h = refl
behind_day (suc (suc (suc (suc (suc (suc (suc (suc w)))))))) rest h = absurd (omega arith)

-- what follows the day of the week, grouped to the right
abbrev clock_text : Parts → List ℕ
clock_text p = two_digits p.hour ++ 58 ∷ (two_digits p.min ++ 58 ∷ (two_digits p.sec ++ codes " GMT"))

abbrev rest_text : Parts → List ℕ
rest_text p = two_digits p.day ++ 32 ∷ (month_name p.mon ++ 32 ∷ (four_digits p.year ++ 32 ∷ clock_text p))

grouped : (p : Parts) → imf_fixdate p ≡ day_name p.wday ++ 44 ∷ 32 ∷ rest_text p
grouped p = simp append_assoc

rest_prints : (p : Parts) → IsValid p → Prints 24 (rest_text p)
rest_prints p h =
    let day : p.day < 100 = grind (arith, h.0.2.1) in
    let gmt : Prints 4 (codes " GMT") = record { size = refl; printed = refl } in
    let seconds = joined (two p.sec (omega arith)) gmt in
    let clock = marked 58 refl (two p.hour (omega arith)) (marked 58 refl (two p.min (omega arith)) seconds) in
    let year = marked 32 refl (four p.year (omega arith)) clock in
    marked 32 refl (two p.day day) (marked 32 refl (month p.mon h.0.1) year)

pub date_prints : (moment : ℕ) → Prints 24 (date_at moment)
unfolding date_at
date_prints moment =
    let p = parts_at (min moment last_second) in
    let valid = (is_date (min moment last_second) (omega arith)).0 in
    let rest = rest_prints p valid in
    let cut : drop 5 (imf_fixdate p) ≡ rest_text p = ap (drop 5) (grouped p) ∙ behind_day p.wday (rest_text p) (omega arith) in
    let text : date_at moment ≡ rest_text p = ap (take 24) cut ∙ take_all 24 (rest_text p) (omega (arith, rest.size)) in
    rw text rest
