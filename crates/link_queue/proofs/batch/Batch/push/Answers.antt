use Rattle.std.proofs.Common.{◌≡◌, ◌++◌, ◌∷◌, [], ℕ, List, length, sym, ap, subst, ◌∙◌, arith}
use Rattle.aprs_base.specs.Bytes.{IsLine}
use Rattle.link_queue.specs.Batches.{IsBatch, lines_at}
use Rattle.link_queue.proofs.BatchLemmas.{batch_more}
use Rattle.link_queue.proofs.LineLemmas.{line_short}
use Rattle.link_queue.proofs.batch.Batch.push.Goals as goal

-- the batch with the line
more : (c : goal.After-unwrap) → let ends = c.push.new.self.items in let text = c.add_line.new.bytes.items in
    (lines_at 0 ends text ≡ lines_at 0 c.self.inside.ends.items c.self.inside.bytes.items ++ c.bytes.result.now ∷ []) × IsBatch (lines_at 0 ends text) text ends
more c =
    let line = c.bytes.result.now in
    let before = c.self.inside.ends.items in
    let is : IsLine line = subst IsLine (sym c.bytes.ensures.bytes) c.bytes.ensures.grammar in
    let ends = rw c.unwrap.ensures at c.push.ensures.items in
    let end : length c.as_slice.result.now ≡ length c.add_line.new.bytes.items = ap length c.as_slice.ensures.value in
    let room = ap length c.self.view_is in
    let counted = c.self.invariant.counted in
    batch_more c.self.inside.bytes.items before line c.add_line.new.bytes.items c.push.new.self.items c.self.invariant (line_short line is) (omega arith) c.in_ok-add_line.ensures.ok
    (ends ∙ ap (λ items. items ++ length c.as_slice.result.now ∷ []) c.reserve.ensures.items ∙ ap (λ (n : ℕ). before ++ n ∷ []) end)

pub invariant_of-self-2 : goal.invariant_of-self-2
invariant_of-self-2 c = (more c).1

pub returns-clause-ok : goal.returns-clause-ok
returns-clause-ok c =
    (more c).0 ∙ ap (λ (lines : List (List ℕ)). lines ++ c.bytes.result.now ∷ []) c.self.view_is ∙ ap (λ (line : List ℕ). c.args.self.now ++ line ∷ []) c.bytes.ensures.bytes
