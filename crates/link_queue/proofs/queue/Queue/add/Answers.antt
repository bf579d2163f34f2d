use Rattle.std.proofs.Common.{◌<◌, length, arith}
use Rattle.link_queue.specs.Pieces.{lines_in, lines_of}
use Rattle.link_queue.proofs.PieceLemmas.{as_many, has_line, is_kept}
use Rattle.link_queue.proofs.SoundLemmas.{push_fits}
use Rattle.link_queue.proofs.queue.Queue.add.Goals as goal

pub overflow_add-self-2 : goal.overflow_add-self-2
overflow_add-self-2 c =
    let queue = c.self.inside in
    let room = rw (← c.self.view_is) at c.requires.room in
    let small = push_fits (lines_in queue.ring.items) queue.offset queue.pending queue.ring.capacity c.self.invariant.sound (lines_of c.args.piece) c.size.ensures.short room in
    omega (arith, c.size.ensures.size)

pub unreachable-requires : goal.unreachable-requires
unreachable-requires c =
    let queue = c.self.inside in
    let room = rw (← c.self.view_is) at c.requires.room in
    let some = has_line c.args.piece c.requires.is in
    let many = as_many queue.ring.items c.self.invariant.pieces_are in
    let fits : length queue.ring.items < queue.ring.capacity = omega arith in
    let no = c.in_default.ensures.variant.1 fits in
    cc

pub invariant_of-self : goal.invariant_of-self
invariant_of-self c =
    let queue = c.self.inside in
    let room = rw (← c.self.view_is) at c.requires.room in
    rw (c.in-Ok.ensures.ok, c.count.ensures)
    (is_kept queue.ring.items queue.count queue.offset queue.pending queue.ring.capacity c.self.invariant c.args.piece c.size.result c.requires.is c.size.ensures.short room c.size.ensures.size)
