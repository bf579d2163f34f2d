-- How a batch keeps its lines.
use Rattle.std.specs.Prelude.{◌≡◌, ℕ, ◌+◌, ◌-◌, ◌<◌, ◌≤◌, List, [], ◌∷◌, length, get_or, take}
use Rattle.std.specs.List.{slice_range}
use Rattle.link_queue.specs.Lines.{AreShort, text_bytes}

-- the lines of a text that end there, each with a CR and an LF behind it, from a place on
abbrev pub lines_at : ℕ → List ℕ → List ℕ → List (List ℕ)
lines_at start [] bytes = []
lines_at start (end ∷ ends) bytes = slice_range bytes start (end - 2) ∷ lines_at end ends bytes

-- the lines stand in the text one after another, and each end is where its line ends there
pub record IsBatch (lines : List (List ℕ)) (bytes ends : List ℕ) : Type 0 where
  pub text : bytes ≡ text_bytes lines
  pub ended : (k : ℕ) → k < length lines → get_or ends k 0 ≡ length (text_bytes (take (k + 1) lines))
  pub counted : length ends ≡ length lines
  pub short : AreShort lines
  pub few : length lines ≤ 1000
