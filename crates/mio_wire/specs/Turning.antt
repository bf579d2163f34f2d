-- What a turn is made of.
use Rattle.std.specs.Prelude.{◌≡◌, ℕ, ◌+◌, ◌-◌, ◌^◌, min, List, ◌++◌, length}
use Rattle.mio_wire.specs.declared.turns.Ready.{Ready}
use Rattle.mio_wire.specs.declared.turns.Turns.{Turns}
use Rattle.mio_wire.specs.Sources.{ending, going}

-- of what came and what was left: what came and doesn't end is first, the links that end are last, and so many of all that is left and ends have
-- their turn before the sockets are asked again
pub record BeginsTurn (share : ℕ) (came rest : List Ready) (turns : Turns) : Type 0 where
  pub ready : turns.ready.items ≡ going came ++ (rest ++ ending came)
  pub ask : turns.ask_at ≡ min (length (going came) + share) (2 ^ 64 - 1)
