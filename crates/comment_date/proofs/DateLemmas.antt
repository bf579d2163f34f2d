-- The parts of a moment are a date of the calendar, and they give the moment back.
use Rattle.std.proofs.Common.{◌≡◌, ℕ, zero, suc, ◌+◌, ◌-◌, ◌*◌, ◌/◌, ◌%◌, ◌<◌, ◌≤◌, true, false, cond, nat_le, min, take, drop, refl, sym, ap, ◌∙◌, arith}
use Rattle.std.proofs.lemmas.Bool.Decides.{nat_tests}
use Rattle.httpdate.specs.declared.parts.Parts.{Parts}
use Rattle.httpdate.specs.declared.date.HttpDate.{HttpDate}
use Rattle.httpdate.specs.Calendar.{IsCivilDate, IsTimeOfDay, days_in_month, days_of_years, days_of_months, days_from_civil, weekday}
use Rattle.httpdate.specs.Date.{date_text, unix_secs}
use Rattle.httpdate.specs.Text.{imf_fixdate}
use Rattle.httpdate.specs.Valid.{IsValid, is_valid, parts_secs}
use Rattle.httpdate.proofs.CalendarLemmas.{days_of_years_closed, days_of_months_all, days_from_civil_bound}
use Rattle.httpdate.proofs.Theorems.{date_text_is}
use Rattle.httpdate.proofs.ValidLemmas.{is_valid_sound, is_valid_complete}
use Rattle.comment_date.specs.Dates.{last_second, last_begun, parts_at, date_at}

last_begun-bound : (before : ℕ → ℕ) (days bound : ℕ) → last_begun before days bound ≤ bound
unfolding last_begun
last_begun-bound before days zero = omega arith
last_begun-bound before days (suc n) = grind (arith, nat_tests, last_begun-bound before days n)

last_begun-begun : (before : ℕ → ℕ) (days bound : ℕ) → before 0 ≤ days → before (last_begun before days bound) ≤ days
unfolding last_begun
last_begun-begun before days zero h = h
last_begun-begun before days (suc n) h =
    elim (nat_le (before (suc n)) days) as (λ b. nat_le (before (suc n)) days ≡ b → before (cond b (suc n) (last_begun before days n)) ≤ days) [
      | true ↦ λ e. grind (arith, nat_tests)
      | false ↦ λ _. last_begun-begun before days n h
    ] refl

last_begun-last : (before : ℕ → ℕ) (days bound : ℕ) → days < before (suc bound) → days < before (suc (last_begun before days bound))
unfolding last_begun
last_begun-last before days zero h = h
last_begun-last before days (suc n) h =
    elim (nat_le (before (suc n)) days) as (λ b. nat_le (before (suc n)) days ≡ b → days < before (suc (cond b (suc n) (last_begun before days n)))) [
      | true ↦ λ _. h
      | false ↦ λ e. last_begun-last before days n (grind (arith, nat_tests))
    ] refl

-- the days of a date up to 9999, as years, months and days
abbrev IsSplit : ℕ → ℕ → ℕ → ℕ → Type 0
IsSplit days years months day =
    (years ≤ 8029) × (months ≤ 11) × (day < days_in_month (1970 + years) (suc months))
    × (days_of_years years + days_of_months (1970 + years) months + day ≡ days)

splits : (days years in_year months : ℕ) → days < 2932897 → years ≡ last_begun days_of_years days 8029
    → in_year ≡ days - days_of_years years → months ≡ last_begun (days_of_months (1970 + years)) in_year 11
    → IsSplit days years months (in_year - days_of_months (1970 + years) months)
unfolding days_of_years days_of_months
splits days years in_year months low y i m =
    let total : days < days_of_years 8030 = omega (arith, days_of_years_closed 8030) in
    let begun : days_of_years years ≤ days = rw y (last_begun-begun days_of_years days 8029 (omega arith)) in
    let more : days < days_of_years (suc years) = rw y (last_begun-last days_of_years days 8029 total) in
    let inside : in_year < days_of_months (1970 + years) 12 = omega (arith, days_of_months_all (1970 + years)) in
    let begun_month : days_of_months (1970 + years) months ≤ in_year =
    rw m (last_begun-begun (days_of_months (1970 + years)) in_year 11 (omega arith)) in
    let more_month : in_year < days_of_months (1970 + years) (suc months) =
    rw m (last_begun-last (days_of_months (1970 + years)) in_year 11 inside) in (
      rw y (last_begun-bound days_of_years days 8029),
      rw m (last_begun-bound (days_of_months (1970 + years)) in_year 11),
      omega arith,
      omega arith,
    )

-- the parts of a moment on a day that is split so
abbrev parts_with : ℕ → ℕ → ℕ → ℕ → Parts
parts_with moment years months day = record {
  year = 1970 + years;
  mon = months + 1;
  day = day + 1;
  hour = moment / 3600 % 24;
  min = moment / 60 % 60;
  sec = moment % 60;
  wday = weekday (moment / 86400);
}

counted : (days years months day : ℕ) → IsSplit days years months day → days_from_civil (1970 + years) (months + 1) (day + 1) ≡ days
counted days years months day h =
    let past : 1970 + years - 1970 ≡ years = omega arith in
    let before : months + 1 - 1 ≡ months = omega arith in
    rw (past, before) (omega (arith, h.3))

civil : (days years months day : ℕ) → IsSplit days years months day → IsCivilDate (1970 + years) (months + 1) (day + 1)
civil days years months day h =
    let next : months + 1 ≡ suc months = omega arith in
    ((omega arith, omega (arith, h.0)), (omega arith, omega (arith, h.1)), (omega arith, rw next (omega (arith, h.2))))

clock : (moment : ℕ) → IsTimeOfDay (moment / 3600 % 24) (moment / 60 % 60) (moment % 60)
clock moment = (omega arith, omega arith, omega arith)

whole : (moment : ℕ) → moment / 86400 * 86400 + moment / 3600 % 24 * 3600 + moment / 60 % 60 * 60 + moment % 60 ≡ moment
whole moment = omega arith

-- the parts are a date, of this moment
abbrev pub IsDateAt : ℕ → Parts → Type 0
IsDateAt moment p = IsValid p × (parts_secs p ≡ moment)

date_with : (moment years months day : ℕ) → IsSplit (moment / 86400) years months day → IsDateAt moment (parts_with moment years months day)
date_with moment years months day h =
    let days = counted _ years months day h in
    ((civil _ years months day h, clock moment, ap weekday (sym days)), rw days (whole moment))

pub is_date : (moment : ℕ) → moment ≤ last_second → IsDateAt moment (parts_at moment)
unfolding parts_at
is_date moment h = date_with moment _ _ _ (splits (moment / 86400) _ _ _ (omega arith) refl refl refl)

-- the text of each date with the seconds of a moment up to the last
date_shown : (d : HttpDate) (moment : ℕ) → moment ≤ last_second → unix_secs d ≡ moment → date_at moment ≡ take 24 (drop 5 (date_text d))
unfolding date_at
date_shown d moment h same =
    let cut : min moment last_second ≡ moment = omega arith in
    let date = is_date moment h in
    rw (cut, date_text_is d (parts_at moment) (is_valid_complete _ date.0) (same ∙ sym date.1)) refl

-- a moment after the last second has its text
pub date_text_at : (d : HttpDate) (moment : ℕ) → unix_secs d ≡ min moment last_second → date_at moment ≡ take 24 (drop 5 (date_text d))
unfolding date_at
date_text_at d moment same =
    let cut : min (min moment last_second) last_second ≡ min moment last_second = omega arith in
    rw cut at (date_shown d (min moment last_second) (omega arith) same)

-- The text of a moment, from the parts of its date: both premises compute where the parts are written out.
pub date_is : (p : Parts) (moment : ℕ) → is_valid p ≡ true → parts_secs p ≡ moment → date_at moment ≡ take 24 (drop 5 (imf_fixdate p))
date_is p moment valid same =
    let holds = is_valid_sound p valid in
    let low = days_from_civil_bound _ _ _ holds.0 in
    date_shown (record { parts = p; civil = holds.0; time = holds.1; right_day = holds.2 }) moment (omega (arith, holds.1)) same
