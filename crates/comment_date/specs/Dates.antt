-- The date of a moment (RFC 9110, 5.6.7), as a comment line has it.
use Rattle.std.specs.Prelude.{ℕ, zero, suc, ◌+◌, ◌-◌, ◌/◌, ◌%◌, List, take, drop, min, nat_le, if◌then◌else◌}
use Rattle.httpdate.specs.declared.parts.Parts.{Parts}
use Rattle.httpdate.specs.Calendar.{days_of_years, days_of_months, weekday}
use Rattle.httpdate.specs.Text.{imf_fixdate}

-- the last second of the year 9999, in seconds since 1970
abbrev pub last_second : ℕ
last_second = 253402300799

-- the greatest n up to the bound whose days before it, `before n`, are no more than these
unfoldable pub last_begun : (ℕ → ℕ) → ℕ → ℕ → ℕ
last_begun before days zero = 0
last_begun before days (suc n) = if nat_le (before (suc n)) days then suc n else last_begun before days n

-- the date and the time of day of a moment up to the last second
unfoldable pub parts_at : ℕ → Parts
parts_at moment =
    let days = moment / 86400 in
    let years = last_begun days_of_years days 8029 in
    let year = 1970 + years in
    let days_in = days - days_of_years years in
    let months = last_begun (days_of_months year) days_in 11 in
    record {
      year = year;
      mon = months + 1;
      day = days_in - days_of_months year months + 1;
      hour = moment / 3600 % 24;
      min = moment / 60 % 60;
      sec = moment % 60;
      wday = weekday days;
    }

-- the text of the date without the day of the week, as `06 Nov 1994 08:49:40 GMT`, of the last second for each moment after it
unfoldable pub date_at : ℕ → List ℕ
date_at moment = take 24 (drop 5 (imf_fixdate (parts_at (min moment last_second))))
