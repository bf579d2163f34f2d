-- Lines with their ends, one after another, and what is left of them where some bytes are taken.
use Rattle.std.specs.Prelude.{ℕ, ◌+◌, ◌-◌, ◌<◌, ◌≤◌, nat_le, List, [], ◌∷◌, ◌++◌, length, if◌then◌else◌, ⊤}
use Rattle.std.specs.List.{flat_map}
use Rattle.std.specs.Str.{byte}

-- a line with its CR and LF, and lines one after another
abbrev pub ended_line : List ℕ → List ℕ
ended_line line = line ++ byte "\r" ∷ byte "\n" ∷ []

abbrev pub text_bytes : List (List ℕ) → List ℕ
text_bytes lines = flat_map ended_line lines

-- lines of which some bytes are taken: those that are not wholly taken, and how much of the first is
pub record Queued : Type 0 where
  pub lines : List (List ℕ)
  pub offset : ℕ

abbrev pub queued : List (List ℕ) → ℕ → Queued
queued [] taken = record { lines = []; offset = taken }
queued (line ∷ lines) taken = if nat_le (length line + 2) taken then queued lines (taken - (length line + 2)) else record { lines = line ∷ lines; offset = taken }

-- less than the first line and its end
abbrev pub IsWithinFirst : List (List ℕ) → ℕ → Type 0
IsWithinFirst [] n = ⊤
IsWithinFirst (line ∷ lines) n = n < length line + 2

-- lines of 510 bytes at most
abbrev pub AreShort : List (List ℕ) → Type 0
AreShort [] = ⊤
AreShort (line ∷ lines) = (length line ≤ 510) × AreShort lines
