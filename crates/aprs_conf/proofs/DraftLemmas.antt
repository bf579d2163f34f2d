-- The draft of the lines of a text.
use Rattle.std.proofs.Common.{ℕ, ◌+◌, List, Option, Some, None, length}

-- how much of a text is left
abbrev pub left : Option (List ℕ) → ℕ
left None = 0
left (Some text) = 1 + length text
