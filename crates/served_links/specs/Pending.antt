-- The bytes that a queue still has to give.
use Rattle.std.specs.Prelude.{ℕ, ◌+◌, List, [], ◌∷◌, ◌++◌, drop}
use Rattle.link_queue.specs.Lines.{Queued, text_bytes, queued}

-- what is left of the first line, and the lines after it
abbrev pub pending_bytes : Queued → List ℕ
pending_bytes queue = drop queue.offset (text_bytes queue.lines)

abbrev pub with_line : Queued → List ℕ → Queued
with_line queue line = record { lines = queue.lines ++ line ∷ []; offset = queue.offset }

-- some of the bytes less
abbrev pub without_bytes : Queued → ℕ → Queued
without_bytes queue n = queued queue.lines (queue.offset + n)
