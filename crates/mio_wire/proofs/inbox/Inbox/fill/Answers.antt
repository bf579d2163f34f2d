use Rattle.std.proofs.Common.{◌≡◌, length, rules, arith}
use native.Mathlib.Numerals.{unary_clauses}
use Rattle.mio_wire.proofs.PieceLemmas.{take_front}
use Rattle.mio_wire.proofs.inbox.Inbox.fill.Goals as goal

pub returns-clause-bytes : goal.returns-clause-bytes
returns-clause-bytes g c =
    let size : length c.read.new.buf ≡ c.self.inside.buffer.len = search (rules, arith) in
    simp unary_clauses (rw (take_front c.self.inside.buffer.len c.read.new.buf _ size) c.in_ok-count.ensures.bytes.0)
