use Rattle.std.proofs.Common.{◌≡◌, ◌+◌, ◌-◌, take, drop, min, refl, ap, ◌∙◌, arith}
use Rattle.mio_wire.proofs.PieceLemmas.{first_piece, rest_piece}
use Rattle.mio_wire.proofs.inbox.Inbox.take_chunk.Goals as goal

pub returns-clause-chunk : goal.returns-clause-chunk
returns-clause-chunk c =
    let from = c.self.inside.from in
    let left = c.self.inside.to - from in
    let size : (from + c.min.result) - from ≡ min 1460 left = omega (arith, c.min.ensures) in
    let piece : take ((from + c.min.result) - from) (drop from c.self.inside.buffer.items) ≡ take 1460 (take left (drop from c.self.inside.buffer.items)) =
    ap (λ n. take n (drop from c.self.inside.buffer.items)) size ∙ first_piece 1460 from left c.self.inside.buffer.items in
    rw (← c.self.view_is) (refl, c.in_ok-chunk.ensures.value ∙ ap (λ bytes. take ((from + c.min.result) - from) (drop from bytes)) c.deref.ensures.value ∙ piece)

pub returns-clause-rest : goal.returns-clause-rest
returns-clause-rest c =
    let from = c.self.inside.from in
    let left = c.self.inside.to - from in
    let end : c.min.result ≡ min 1460 left = c.min.ensures in
    let size : c.self.inside.to - (from + min 1460 left) ≡ left - min 1460 left = omega arith in
    rw (← c.self.view_is, end, size, rest_piece 1460 from left c.self.inside.buffer.items) refl
