-- What lies in a queue: single lines, and runs of lines of a batch.
use Rattle.std.specs.Prelude.{◌≡◌, ℕ, ◌-◌, ◌<◌, ◌≤◌, List, [], ◌∷◌, length, take, drop, ⊤}
use Rattle.std.specs.Arc.{arc_value}
use Rattle.std.specs.List.{flat_map}
use Rattle.link_queue.specs.declared.pieces.Piece.{Piece}
use Rattle.link_queue.specs.declared.pieces.Piece.TheVariants.{Line, Run}
use Rattle.link_queue.specs.Queues.{IsSound}

-- the lines of a piece, and those of pieces one after another
abbrev pub lines_of : Piece → List (List ℕ)
lines_of (Line line) = arc_value line ∷ []
lines_of (Run from to batch) = take (to - from) (drop from (arc_value batch))

abbrev pub lines_in : List Piece → List (List ℕ)
lines_in pieces = flat_map lines_of pieces

-- a run has a line, and its lines are in its batch
abbrev pub IsPiece : Piece → Type 0
IsPiece (Line line) = ⊤
IsPiece (Run from to batch) = (from < to) × (to ≤ length (arc_value batch))

abbrev pub ArePieces : List Piece → Type 0
ArePieces [] = ⊤
ArePieces (piece ∷ pieces) = IsPiece piece × ArePieces pieces

-- the lines of the pieces are as a queue's are, and are counted
pub record IsKept (pieces : List Piece) (count offset pending limit : ℕ) : Type 0 where
  pub sound : IsSound (lines_in pieces) offset pending limit
  pub counted : count ≡ length (lines_in pieces)
  pub pieces_are : ArePieces pieces
