use Rattle.std.proofs.Common.{◌+◌, refl, sym, ◌∙◌, arith}
use Rattle.std.proofs.lemmas.List.{drop-drop}
use Rattle.link_queue.specs.Lines.{text_bytes}
use Rattle.link_queue.specs.Pieces.{lines_in}
use Rattle.link_queue.proofs.LineLemmas.{queued_all, queued_rest}
use Rattle.link_queue.proofs.PieceLemmas.{as_many}
use Rattle.link_queue.proofs.SoundLemmas.{pending_is, taken_fits, taken_sound}
use Rattle.link_queue.proofs.queue.Queue.taken.Goals as goal

pub overflow_add-self-inside : goal.overflow_add-self-inside
overflow_add-self-inside c =
    let lines = lines_in c.self.inside.ring.items in
    let whole = pending_is lines c.self.inside.offset c.self.inside.pending c.self.inside.ring.capacity c.self.invariant.sound in
    let some = rw (← c.self.view_is) at c.requires in
    let small = taken_fits lines c.self.inside.offset c.self.inside.pending c.self.inside.ring.capacity c.self.invariant.sound c.args.n (omega arith) in
    omega arith

pub invariant_of-self-else-self-eq0 : goal.invariant_of-self-else-self-eq0
invariant_of-self-else-self-eq0 c =
    let lines = lines_in c.self.inside.ring.items in
    let whole = pending_is lines c.self.inside.offset c.self.inside.pending c.self.inside.ring.capacity c.self.invariant.sound in
    let some = rw (← c.self.view_is) at c.requires in
    record {
      sound = taken_sound lines c.self.inside.offset c.self.inside.pending c.self.inside.ring.capacity c.self.invariant.sound c.args.n _ _ _ (omega arith)
          c.take_off-self-inside.ensures.left c.take_off-self-inside.ensures.capacity;
      counted = c.take_off-self-inside.ensures.counted;
      pieces_are = c.take_off-self-inside.ensures.are;
    }

pub take_off-self-inside-requires-clause-within : goal.take_off-self-inside-requires-clause-within
take_off-self-inside-requires-clause-within c =
    let many = as_many c.self.inside.ring.items c.self.invariant.pieces_are in
    let few = c.self.invariant.sound.few in
    omega arith

pub returns-then-self-eq0-clause-exact : goal.returns-then-self-eq0-clause-exact
returns-then-self-eq0-clause-exact c =
    let lines = lines_in c.self.inside.ring.items in
    let whole = pending_is lines c.self.inside.offset c.self.inside.pending c.self.inside.ring.capacity c.self.invariant.sound in
    let some = rw (← c.self.view_is) at c.requires in
    let counted = c.self.invariant.sound.counted in
    let all = queued_all lines (c.self.inside.offset + c.args.n) (omega arith) in
    rw (← c.self.view_is, c.clear.ensures, all) refl

pub returns-else-self-eq0-clause-rest : goal.returns-else-self-eq0-clause-rest
returns-else-self-eq0-clause-rest c =
    let lines = lines_in c.self.inside.ring.items in
    let rest = queued_rest lines (c.self.inside.offset + c.args.n) in
    let left = rw c.take_off-self-inside.ensures.left at rest in
    rw (← c.self.view_is) (left ∙ sym (drop-drop c.args.n c.self.inside.offset (text_bytes lines)))
