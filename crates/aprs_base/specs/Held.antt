-- What a cutter has to keep of the bytes so far: their rest, or only that it is too long.
use Rattle.std.specs.Prelude.{ℕ, List, [], length, nat_lt, Bool, true, false, if◌then◌else◌}
use Rattle.aprs_base.specs.Cuts.{rest_of}

pub record Held : Type 0 where
  pub text : List ℕ
  pub long : Bool

abbrev pub held_of : List ℕ → Held
held_of rest = if nat_lt 510 (length rest) then record { text = []; long = true } else record { text = rest; long = false }

abbrev pub held_after : List ℕ → Held
held_after bytes = held_of (rest_of bytes)
