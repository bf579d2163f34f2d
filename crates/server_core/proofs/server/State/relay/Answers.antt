use Rattle.std.proofs.Common.{subst}
use Rattle.std.proofs.lemmas.Result.{on_ok_weaker}
use Rattle.server_core.specs.Meaning.{setting_of}
use Rattle.server_core.specs.Steps.{Walks}
use Rattle.server_core.specs.Telling.{Tells}
use Rattle.server_core.proofs.CoreLemmas.{relayed_as}
use Rattle.server_core.proofs.server.State.relay.Goals as goal

pub returns-in-Some-clause-walks : goal.returns-in-Some-clause-walks
returns-in-Some-clause-walks c = λ t first more is walks.
    let found = c.in-Some.ensures.some in
    on_ok_weaker c.take_datagram_lines.result
    (subst (Walks c.take_datagram_lines.new.self) (relayed_as (setting_of c.args.self.now.conf) c.args.listener first more c.args.cuts.now c.in-Some.peer found.0 c.in-Some.origin _ t is found.1 found.2))
    (c.take_datagram_lines.ensures.walks t walks)

pub returns-in-Some-clause-tells : goal.returns-in-Some-clause-tells
returns-in-Some-clause-tells c = λ t first more is walks.
    let s = setting_of c.args.self.now.conf in
    let found = c.in-Some.ensures.some in
    on_ok_weaker c.take_datagram_lines.result
    (subst (λ u. Tells s t u c.args.lines.now.items c.take_datagram_lines.new.lines.items) (relayed_as s c.args.listener first more c.args.cuts.now c.in-Some.peer found.0 c.in-Some.origin _ t is found.1 found.2))
    (c.take_datagram_lines.ensures.tells t walks)
