-- Dates of known moments.
use Rattle.std.proofs.Common.{◌≡◌, codes, refl}
use Rattle.comment_date.proofs.OnLiterals.{dates_on_literals}
use Rattle.comment_date.specs.Dates.{date_at}
use Rattle.comment_date.proofs.DateLemmas.{date_is}

ordinary : date_at 784111780 ≡ codes "06 Nov 1994 08:49:40 GMT"
unfolding dates_on_literals
ordinary = date_is (record { year = 1994; mon = 11; day = 6; hour = 8; min = 49; sec = 40; wday = 7 }) 784111780 refl refl

first_day : date_at 1020 ≡ codes "01 Jan 1970 00:17:00 GMT"
unfolding dates_on_literals
first_day = date_is (record { year = 1970; mon = 1; day = 1; hour = 0; min = 17; sec = 0; wday = 4 }) 1020 refl refl

leap_day : date_at 951782400 ≡ codes "29 Feb 2000 00:00:00 GMT"
unfolding dates_on_literals
leap_day = date_is (record { year = 2000; mon = 2; day = 29; hour = 0; min = 0; sec = 0; wday = 2 }) 951782400 refl refl
