-- Pieces one after another, and their lines.
use Rattle.std.proofs.Common.{◌≡◌, ℕ, zero, suc, ◌+◌, ◌≤◌, ◌<◌, List, [], ◌∷◌, ◌++◌, length, get_or, drop, refl, sym, ap, subst, ◌∙◌, add-one, arith, Some, length-append, append-nil}
use Rattle.std.specs.Arc.{arc_value}
use Rattle.std.specs.List.{slice_get}
use Rattle.std.proofs.Math.Seq.{drop-cons}
use Rattle.std.proofs.lemmas.Grind.{flat_map-append}
use Rattle.link_queue.specs.Lines.{AreShort, text_bytes}
use Rattle.link_queue.specs.Pieces.{ArePieces, IsKept, IsPiece, lines_in, lines_of}
use Rattle.link_queue.proofs.BatchLemmas.{run_length}
use Rattle.link_queue.proofs.SoundLemmas.{push_sound}
use Rattle.link_queue.specs.declared.pieces.Piece.{Piece}
use Rattle.link_queue.specs.declared.pieces.Piece.TheVariants.{Line, Run}

pub has_line : (piece : Piece) → IsPiece piece → 1 ≤ length (lines_of piece)
has_line (Line line) is = omega arith
has_line (Run from to batch) is = let size = run_length (arc_value batch) from to is.1 in omega arith

pub as_many : (pieces : List Piece) → ArePieces pieces → length pieces ≤ length (lines_in pieces)
as_many [] are = omega arith
as_many (piece ∷ pieces) are =
    let first = has_line piece are.0 in
    let more = as_many pieces are.1 in
    let sum = length-append (lines_of piece) (lines_in pieces) in
    omega arith

pub no_line : (pieces : List Piece) → length pieces ≡ 0 → length (lines_in pieces) ≡ 0
no_line [] none = refl
no_line (piece ∷ pieces) none = absurd (omega arith)

pub one_added : (pieces : List Piece) (piece : Piece) → ArePieces pieces → IsPiece piece → ArePieces (pieces ++ piece ∷ [])
one_added [] piece are is = (is, tt)
one_added (first ∷ pieces) piece are is = (are.0, one_added pieces piece are.1 is)

pub both_are : (front back : List Piece) → ArePieces (front ++ back) → ArePieces front × ArePieces back
both_are [] back are = (tt, are)
both_are (piece ∷ front) back are = let more = both_are front back are.1 in ((are.0, more.0), more.1)

pub first_of : (pieces : List Piece) (piece : Piece) → Some piece ≡ slice_get pieces 0 → pieces ≡ piece ∷ drop 1 pieces
first_of [] piece is = cc
first_of (first ∷ pieces) piece is = let same : piece ≡ first = cc in rw same refl

-- what is left of pieces begins with the next one
pub next_lines : (pieces : List Piece) (i : ℕ) (piece : Piece) → i < length pieces → piece ≡ get_or pieces i piece →
    lines_in (drop i pieces) ≡ lines_of piece ++ lines_in (drop (i + 1) pieces)
next_lines pieces i piece lt is =
    rw add-one (ap lines_in (drop-cons pieces i piece lt) ∙ ap (λ p. lines_of p ++ lines_in (drop (suc i) pieces)) (sym is))

pub next_is : (pieces : List Piece) (i : ℕ) (piece : Piece) → ArePieces pieces → i < length pieces → piece ≡ get_or pieces i piece → IsPiece piece
next_is pieces i piece are lt is = subst IsPiece (sym is) (at pieces i are lt)
  where
    at : (pieces : List Piece) (i : ℕ) → ArePieces pieces → i < length pieces → IsPiece (get_or pieces i piece)
    at [] i are lt = absurd (omega arith)
    at (first ∷ pieces) zero are lt = are.0
    at (first ∷ pieces) (suc i) are lt = at pieces i are.1 (omega arith)

pub lines_added : (pieces : List Piece) (piece : Piece) → lines_in (pieces ++ piece ∷ []) ≡ lines_in pieces ++ lines_of piece
lines_added pieces piece = flat_map-append lines_of pieces (piece ∷ []) ∙ ap (λ lines. lines_in pieces ++ lines) (append-nil (lines_of piece))

pub is_kept : (pieces : List Piece) (count offset pending limit : ℕ) → IsKept pieces count offset pending limit → (piece : Piece) (size : ℕ) → IsPiece piece → AreShort (lines_of piece) →
    length (lines_in pieces) + length (lines_of piece) ≤ limit → size ≡ length (text_bytes (lines_of piece)) →
    IsKept (pieces ++ piece ∷ []) (count + length (lines_of piece)) offset (pending + size) limit
is_kept pieces count offset pending limit kept piece size is short room same =
    let counted = kept.counted in
    let sum = length-append (lines_in pieces) (lines_of piece) in
    let added = lines_added pieces piece in record {
      sound = rw (same, added) (push_sound (lines_in pieces) offset pending limit kept.sound (lines_of piece) short room);
      counted = rw added (omega arith);
      pieces_are = one_added pieces piece kept.pieces_are is;
    }
