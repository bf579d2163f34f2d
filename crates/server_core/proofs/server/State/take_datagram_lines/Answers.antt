use Rattle.std.proofs.Common.{drop}
use Rattle.std.proofs.Math.ListN.{drop_of_length-le}
use Rattle.std.specs.Bool.{⊤}
use Rattle.aprs_history.specs.Scenes.{datagram_scene}
use Rattle.aprs_history.specs.Trace.{Trace}
use Rattle.server_core.specs.Steps.{Walks, carried_at}
use Rattle.server_core.proofs.CoreLemmas.{carried_now, said_by}
use Rattle.server_core.proofs.SayingLemmas.{said_all, said_next}
use Rattle.server_core.proofs.server.State.take_datagram_lines.Goals as goal

pub loop-cut-preserved : goal.loop-cut-preserved
loop-cut-preserved c =
    let origin = c.args.origin.now in
    said_next c.args.from (λ s. datagram_scene s origin) (λ t. ⊤) (carried_at origin) c.args.self.now c.loop-cut.self c.take_datagram_line.new.self c.args.cuts.now c.loop-cut.cut-index c.cut-item.result c.loop-cut-test.true c.cut-item.is
    c.args.lines.now.items c.loop-cut.lines.items c.take_datagram_line.new.lines.items (λ some t walks speaks. (said_by t c.args.from c.requires.datagram, carried_now c.loop-cut.self t walks origin)) (λ t verdict speaks. tt)
    c.in_ok-take_datagram_line.ensures.core c.in_ok-take_datagram_line.ensures.lines c.loop-cut.invariant

pub returns : goal.returns
returns c =
    let said = λ (t : Trace) (walks : Walks c.args.self.now t). said_all c.args.from (λ s. datagram_scene s c.args.origin.now) (λ t. ⊤) c.args.self.now c.loop-cut.self c.args.cuts.now (drop c.loop-cut.cut-index c.args.cuts.now)
    c.args.lines.now.items c.loop-cut.lines.items (drop_of_length-le c.args.cuts.now c.loop-cut-test.false) c.loop-cut.invariant t walks tt in
    record { walks = λ t walks. (said t walks).0; tells = λ t walks. (said t walks).1; rest = c.loop-cut.invariant.0 }
