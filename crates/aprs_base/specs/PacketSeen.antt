-- A packet as contracts see it: its shared line is the line that it points to.
use Rattle.std.specs.Prelude.{ℕ, List}
use Rattle.aprs_base.specs.declared.packets.Source.{Source}
use Rattle.aprs_base.specs.PartsSeen.{PartsSeen}
use Rattle.aprs_base.specs.declared.packets.Body.{Body}

pub record PacketSeen : Type 0 where
  pub from : Source
  pub moment : ℕ
  pub parts : PartsSeen
  pub body : Body
  pub line : List ℕ
