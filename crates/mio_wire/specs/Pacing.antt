-- Line ends in a piece of a stream, and what was handed up since the last tick.
use Rattle.std.specs.Prelude.{ℕ, ◌+◌, ◌-◌, ◌^◌, ◌==◌, ◌&&◌, ◌||◌, Bool, true, false, not, min, nat_le, List, [], ◌∷◌, length, if◌then◌else◌}
use Rattle.std.specs.Str.{byte}
use Rattle.mio_wire.specs.declared.pace.Pace.{Pace}

abbrev pub begins_with_lf : List ℕ → Bool
begins_with_lf [] = false
begins_with_lf (b ∷ bs) = b == byte "\n"

-- the last byte of a line end: LF, or a CR before another byte
abbrev pub ends_at : ℕ → List ℕ → Bool
ends_at b after = b == byte "\n" || (b == byte "\r" && not (begins_with_lf after))

-- CR, LF, or CR and LF together
abbrev pub line_ends : List ℕ → ℕ
line_ends [] = 0
line_ends (b ∷ bs) = (if ends_at b bs then 1 else 0) + line_ends bs

-- a line end begins with the first byte
abbrev pub begins_with_end : List ℕ → Bool
begins_with_end [] = false
begins_with_end (b ∷ bs) = b == byte "\r" || b == byte "\n"

-- nothing was handed up or sent
abbrev pub rested : Pace
rested = record { handed = false; lines = 0; bytes = 0; whole = false }

-- something was handed up
abbrev pub with_event : Pace → Pace
with_event pace = record pace { handed = true }

-- bytes were handed up
abbrev pub with_bytes : List ℕ → Pace → Pace
with_bytes bytes pace = record pace {
  handed = true;
  lines = min (pace.lines + line_ends bytes) (2 ^ 64 - 1);
  bytes = min (pace.bytes + length bytes) (2 ^ 64 - 1);
}

-- a send took so many bytes: 65,536 are a whole offer
abbrev pub with_taken : ℕ → Pace → Pace
with_taken count pace = record pace { whole = pace.whole || nat_le 65536 count }

-- a tick is due before anything else is handed up: 400 line ends or 48,000 bytes were handed up since the last one
unfoldable pub is_full : Pace → Bool
is_full pace = nat_le 400 pace.lines || nat_le 48000 pace.bytes

-- a tick is due once all that came is handed up
unfoldable pub is_due : Pace → Bool
is_due pace = pace.handed || pace.whole
