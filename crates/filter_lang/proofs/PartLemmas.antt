-- The parts of a text, one after another.
use Rattle.std.proofs.Common.{◌≡◌, ℕ, ◌+◌, ◌-◌, ◌<◌, Bool, List, [], ◌∷◌, length, take, drop, arith}
use Rattle.std.specs.List.{slice_split, position_or_len}
use Rattle.std.proofs.lemmas.List.{take_rest}
use Rattle.std.proofs.lemmas.List.Sums.{fails_before_first}
use Rattle.std.proofs.lemmas.List.Splits.{slice_split_none, slice_split_first}

module _ (test : ℕ → Bool) (text : List ℕ) where
  -- where no element passes, the text is the one part
  pub split_whole : length text ≡ position_or_len test text → slice_split test text ≡ text ∷ []
  split_whole h = slice_split_none test text (λ k d high. fails_before_first test text k d (omega arith))

  -- else the first part ends at the first that passes
  pub split_at_first : (place : ℕ) → place ≡ position_or_len test text → place < length text → slice_split test text ≡ take place text ∷ slice_split test (take (length text - (place + 1)) (drop (place + 1) text))
  split_at_first place e h = rw (take_rest text (place + 1), e) (slice_split_first test text 0 (omega arith))
