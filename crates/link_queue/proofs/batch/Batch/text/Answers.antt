use Rattle.std.proofs.Common.{length, ap, ◌∙◌, arith}
use Rattle.link_queue.specs.Lines.{text_bytes}
use Rattle.link_queue.proofs.BatchLemmas.{size_between, size_within, text_between}
use Rattle.link_queue.proofs.batch.Batch.text.Goals as goal

pub slice_bounds-result-count : goal.slice_bounds-result-count
slice_bounds-result-count c = let sum = size_between c.args.self.now c.args.from c.args.to c.requires.0 in omega (arith, c.start.ensures, c.start-2.ensures)

pub slice_bounds-result-start : goal.slice_bounds-result-start
slice_bounds-result-start c = let sum = size_between c.args.self.now c.args.from c.args.to c.requires.0 in omega arith

pub slice_bounds-result-end : goal.slice_bounds-result-end
slice_bounds-result-end c =
    let within = size_within c.args.self.now c.args.to in
    let whole = c.deref.ensures.value ∙ c.self.invariant.text ∙ ap text_bytes c.self.view_is in
    omega (arith, ap length whole)

pub returns : goal.returns
returns c =
    text_between c.args.self.now c.deref.result.now c.args.from c.args.to c.start.result c.start-2.result c.requires.0
    (c.deref.ensures.value ∙ c.self.invariant.text ∙ ap text_bytes c.self.view_is) c.start.ensures c.start-2.ensures
