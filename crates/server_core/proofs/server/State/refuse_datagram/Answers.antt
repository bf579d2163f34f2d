use Rattle.std.proofs.Common.{subst, sym}
use Rattle.std.proofs.lemmas.Result.{on_ok_weaker}
use Rattle.aprs_base.specs.declared.packets.Source.TheVariants as source
use Rattle.aprs_history.specs.declared.verdicts.Verdict.TheVariants.{Refused}
use Rattle.aprs_history.specs.History.{refuse_datagram}
use Rattle.server_core.specs.Steps.{Walks}
use Rattle.server_core.proofs.CoreLemmas.{walks_said}
use Rattle.server_core.proofs.TellingLemmas.{tells_said}
use Rattle.server_core.proofs.server.State.refuse_datagram.Goals as goal

pub returns-clause-walks : goal.returns-clause-walks
returns-clause-walks c = λ t cut walks.
    on_ok_weaker c.turn_down.result
    (λ is. subst (λ new. Walks new (refuse_datagram c.args.listener cut c.args.refusal t)) (sym is) (walks_said c.args.self.now t walks (source.Submit c.args.listener) cut (Refused c.args.refusal) tt))
    c.turn_down.ensures.core

pub returns-clause-tells : goal.returns-clause-tells
returns-clause-tells c = λ t cut walks.
    on_ok_weaker c.turn_down.result
    (tells_said c.args.self.now t walks (source.Submit c.args.listener) cut (Refused c.args.refusal) c.args.lines.now.items c.turn_down.new.lines.items) c.turn_down.ensures.lines
