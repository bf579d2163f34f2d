-- A packet's parts as contracts see them: texts and a path.
use Rattle.std.specs.Prelude.{ℕ, List}
use Rattle.aprs_base.specs.declared.packets.Via.{Via}

pub record PartsSeen : Type 0 where
  pub source : List ℕ
  pub dest : List ℕ
  pub vias : List Via
  pub body : List ℕ
