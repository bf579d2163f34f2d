use Rattle.std.proofs.Common.{drop, ◌∙◌}
use Rattle.std.proofs.Math.ListN.{drop_of_length-le}
use Rattle.aprs_base.specs.declared.packets.Source.TheVariants as source
use Rattle.aprs_history.specs.Trace.{Trace}
use Rattle.server_core.specs.Steps.{Walks, scene_at}
use Rattle.server_core.proofs.CoreLemmas.{scene_now}
use Rattle.server_core.proofs.SayingLemmas.{LinkSpeaks, bytes_said, link_scene, said_next, same_then}
use Rattle.server_core.proofs.server.State.take_bytes.Goals as goal

pub loop-cut-preserved : goal.loop-cut-preserved
loop-cut-preserved c =
    let number = c.args.number in
    let cuts = c.deref-cut-items.result.now in
    said_next (source.Link number) (link_scene number) (LinkSpeaks number cuts) (λ core. scene_at core number) c.cut_bytes.new.self c.loop-cut.self c.take_line.new.self cuts c.loop-cut.cut-index c.cut-item.result c.loop-cut-test.true c.cut-item.is
    c.args.lines.now.items c.loop-cut.lines.items c.take_line.new.lines.items (λ some t walks speaks. (speaks some, scene_now c.loop-cut.self t walks number (speaks some))) (λ t verdict speaks. speaks)
    c.in_ok-take_line.ensures.core c.in_ok-take_line.ensures.lines c.loop-cut.invariant

pub returns : goal.returns
returns c =
    let made = c.in_ok-cuts.ensures in
    let cuts = c.deref-cut-items.result.now in
    let are = c.deref-cut-items.ensures.value in
    let said = λ (t : Trace) (walks : Walks c.args.self.now t). bytes_said c.args.self.now c.cut_bytes.new.self c.loop-cut.self c.args.number c.args.bytes.now cuts (drop c.loop-cut.cut-index cuts) c.args.lines.now.items c.loop-cut.lines.items
    (drop_of_length-le cuts c.loop-cut-test.false) made.rest c.loop-cut.invariant t (made.live t walks) (λ live. are ∙ made.cuts t walks live) (λ gone. (are ∙ (made.dead t walks gone).0, (made.dead t walks gone).1)) in
    record { walks = λ t walks. (said t walks).0; tells = λ t walks. (said t walks).1; rest = same_then c.args.self.now c.cut_bytes.new.self c.loop-cut.self made.rest c.loop-cut.invariant.0 }
