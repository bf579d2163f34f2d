use Rattle.std.proofs.Common.{sym}
use Rattle.q_construct.proofs.RowLemmas.{received_gate, received_other, received_plain}
use Rattle.q_construct.proofs.building.build_received.Goals as goal

pub returns-else-eq-2-clause-row : goal.returns-else-eq-2-clause-row
returns-else-eq-2-clause-row c = λ rest.
    received_other c.args.login.now c.args.given.now rest (sym c.if-has_construct.ensures) c.in-Some.front.now c.in-Some.gate.now c.in-Some.ensures c.if-eq-2.ensures

pub returns-then-eq-2-clause-row : goal.returns-then-eq-2-clause-row
returns-then-eq-2-clause-row c = λ rest.
    received_gate c.args.login.now c.args.given.now rest (sym c.if-has_construct.ensures) c.end-then-eq-2.new.built c.in-Some.front.now c.in-Some.gate.now c.in-Some.ensures c.if-eq-2.ensures c.end-then-eq-2.ensures.row

pub returns-in-None-clause-row : goal.returns-in-None-clause-row
returns-in-None-clause-row c = λ rest. received_plain c.args.login.now c.args.given.now rest (sym c.if-has_construct.ensures) c.end-in-None.new.built c.in-None.ensures c.end-in-None.ensures.row
