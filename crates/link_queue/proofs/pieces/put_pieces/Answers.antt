use Rattle.std.proofs.Common.{◌≡◌, ◌+◌, ◌-◌, ◌<◌, ◌++◌, length, take, drop, min, ap, ◌∙◌, arith}
use Rattle.link_queue.specs.Lines.{text_bytes}
use Rattle.link_queue.specs.Pieces.{lines_in, lines_of}
use Rattle.link_queue.proofs.LineLemmas.{begun_anew, first_begun, length_more, same_further, written_more}
use Rattle.link_queue.proofs.PieceLemmas.{has_line, next_is, next_lines}
use Rattle.link_queue.proofs.pieces.put_pieces.Goals as goal

pub put_piece-at-requires-clause-is : goal.put_piece-at-requires-clause-is
put_piece-at-requires-clause-is c = next_is c.args.pieces.now c.loop-piece.piece-index c.piece-item.result c.requires.are (omega arith) c.piece-item.is

pub put_piece-at-requires-clause-part : goal.put_piece-at-requires-clause-part
put_piece-at-requires-clause-part c =
    let i = c.loop-piece.piece-index in
    let is = next_is c.args.pieces.now i c.piece-item.result c.requires.are (omega arith) c.piece-item.is in
    let next = next_lines c.args.pieces.now i c.piece-item.result (omega arith) c.piece-item.is in
    first_begun (lines_in (drop i c.args.pieces.now)) (lines_of c.piece-item.result) (lines_in (drop (i + 1) c.args.pieces.now)) c.loop-piece.skip next
    (has_line c.piece-item.result is) c.loop-piece.invariant.1

pub loop-piece-preserved : goal.loop-piece-preserved
loop-piece-preserved c =
    let i = c.loop-piece.piece-index in
    let skip = c.loop-piece.skip in
    let some = lines_of c.piece-item.result in
    let rest = lines_in (drop i c.args.pieces.now) in
    let more = lines_in (drop (i + 1) c.args.pieces.now) in
    let is = next_is c.args.pieces.now i c.piece-item.result c.requires.are (omega arith) c.piece-item.is in
    let next : rest ≡ some ++ more = next_lines c.args.pieces.now i c.piece-item.result (omega arith) c.piece-item.is in
    let part : skip < length (text_bytes some) = first_begun rest some more skip next (has_line c.piece-item.result is) c.loop-piece.invariant.1 in
    let size = length (text_bytes some) - skip in
    let room = length c.loop-piece.out - c.loop-piece.at in
    let before = take c.loop-piece.at c.loop-piece.out in
    let end : c.put_piece-at.result ≡ c.loop-piece.at + min room size = c.put_piece-at.ensures.end in
    let same : length c.put_piece-at.new.out ≡ length c.loop-piece.out = c.put_piece-at.auto.out in
    let left : length c.put_piece-at.new.out - c.put_piece-at.result ≡ room - min room size = omega (arith, end, same) in
    let sum : length (drop skip (text_bytes rest)) ≡ size + length (text_bytes more) = length_more rest some more skip next part in
    let ends = c.loop-piece.invariant.3 in
    let behind = same_further c.loop-piece.at c.put_piece-at.result _ _ (omega (arith, end)) c.loop-piece.invariant.4 in (
      c.put_piece-at.ensures.within,
      begun_anew more,
      ap (λ bytes. bytes ++ take (length c.put_piece-at.new.out - c.put_piece-at.result) (text_bytes more)) c.put_piece-at.ensures.bytes
          ∙ ap (λ n. (before ++ take room (drop skip (text_bytes some))) ++ take n (text_bytes more)) left
          ∙ written_more rest some more before skip room next part
          ∙ c.loop-piece.invariant.2,
      omega (arith, end, left, sum, ends),
      c.put_piece-at.ensures.rest ∙ behind,
    )
