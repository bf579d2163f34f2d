-- Terms as contracts see them, and the ranges of their numbers (aprs-is.net, Server-side Filter Commands).
use Rattle.std.specs.Prelude.{ℕ, ℤ, unsigned_abs, nat_le, ◌&&◌, Bool, true}
use Rattle.filter_lang.specs.declared.terms.What.{What}
use Rattle.filter_lang.specs.declared.terms.What.TheVariants as what

pub record TermSeen : Type 0 where
  pub exclude : Bool
  pub what : What

abbrev pub is_latitude : ℤ → Bool
is_latitude z = nat_le (unsigned_abs z) 90000000

abbrev pub is_longitude : ℤ → Bool
is_longitude z = nat_le (unsigned_abs z) 180000000

abbrev pub is_distance : ℕ → Bool
is_distance km = nat_le km 99999

abbrev pub is_in_range : What → Bool
is_in_range (what.Range lat lon km) = is_latitude lat && is_longitude lon && is_distance km
is_in_range (what.ClassNear mask call km) = is_distance km
is_in_range (what.Friend call km) = is_distance km
is_in_range (what.Mine km) = is_distance km
is_in_range (what.Area north west south east) = is_latitude north && is_longitude west && is_latitude south && is_longitude east
is_in_range _ = true
