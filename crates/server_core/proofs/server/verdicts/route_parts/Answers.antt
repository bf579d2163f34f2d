use Rattle.q_construct.proofs.Laws.{answer_is, answer_stays}
use Rattle.server_core.proofs.server.verdicts.route_parts.Goals as goal

pub returns-in-Ok-clause-stays : goal.returns-in-Ok-clause-stays
returns-in-Ok-clause-stays g c =
    answer_stays _ _ _ _ c.process_into.new.whole (answer_is c.args.parts.now c.args.origin.now c.args.server.now (g.O.Calls.calls c.args.others.now) c.process_into.new.whole c.in-Ok.ensures.exact)
