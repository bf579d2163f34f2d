-- The acts of a round, as contracts see them.
use Rattle.std.specs.Prelude.{ℕ, Bool, List, Option}
use Rattle.aprs_base.specs.PacketSeen.{PacketSeen}
use Rattle.aprs_history.specs.Dials.{CastSeen}

pub record ActsSeen : Type 0 where
  pub dial : Option ℕ
  pub casts : List CastSeen
  pub offers : List ℕ
  pub closes : List ℕ
  pub accepted : List PacketSeen
  pub done : Bool
