-- What a queue is seen as: the lines that aren't wholly taken, the number of bytes taken of the first with its CR and LF, and the limit.
use Rattle.std.specs.Prelude.{◌≡◌, ℕ, ◌+◌, ◌≤◌, List, [], ◌∷◌, ◌++◌, length, drop}
use Rattle.link_queue.specs.Lines.{AreShort, IsWithinFirst, queued, text_bytes}

pub record QueueSeen : Type 0 where
  pub lines : List (List ℕ)
  pub offset : ℕ
  pub limit : ℕ

abbrev pub empty_queue : (limit : ℕ) → QueueSeen
empty_queue limit = record { lines = []; offset = 0; limit = limit }

-- what is left of the first line, and the lines after it
abbrev pub pending_bytes : QueueSeen → List ℕ
pending_bytes queue = drop queue.offset (text_bytes queue.lines)

abbrev pub with_line : List ℕ → QueueSeen → QueueSeen
with_line line queue = record queue { lines = queue.lines ++ line ∷ [] }

abbrev pub with_lines : List (List ℕ) → QueueSeen → QueueSeen
with_lines lines queue = record queue { lines = queue.lines ++ lines }

-- some of the bytes less
abbrev pub without_bytes : ℕ → QueueSeen → QueueSeen
without_bytes n queue = let left = queued queue.lines (queue.offset + n) in record queue { lines = left.lines; offset = left.offset }

-- the first line is begun at most, the pending bytes are counted, and there are no more than a thousand lines of 510 bytes
pub record IsSound (lines : List (List ℕ)) (offset pending limit : ℕ) : Type 0 where
  pub begun : IsWithinFirst lines offset
  pub counted : offset + pending ≡ length (text_bytes lines)
  pub short : AreShort lines
  pub few : length lines ≤ limit
  pub limited : limit ≤ 1000
