-- The first line of a text, and those behind it.
use Rattle.std.proofs.Common.{◌≡◌, ℕ, ◌<◌, List, [], ◌∷◌, length, refl, arith}
use Rattle.std.specs.List.{slice_split}
use Rattle.std.proofs.lemmas.List.Splits.{length-slice_split}
use Rattle.net_script.specs.Grammar.{ended, is_feed, lines_of}

-- a text that others follow is a line
pub line_first : (line text : List ℕ) → ended (line ∷ slice_split is_feed text) ≡ line ∷ lines_of text
line_first line text = by (slice_split is_feed text) (omega (arith, length-slice_split is_feed text))
  where
    by : (parts : List (List ℕ)) → 0 < length parts → ended (line ∷ parts) ≡ line ∷ ended parts
    by [] some = absurd (omega arith)
    by (next ∷ more) some = refl

-- a text that none follows is one where it isn't empty
pub line_last : (line : List ℕ) → 0 < length line → ended (line ∷ []) ≡ line ∷ []
line_last [] some = absurd (omega arith)
line_last (b ∷ line) some = refl
