use Rattle.std.proofs.Common.{◌∙◌}
use Rattle.aprsc_daemon.proofs.WriteLemmas.{still_within, took_some, writes_on}
use Rattle.aprsc_daemon.proofs.saying.write_all.Goals as goal

pub loop-done-preserved : goal.loop-done-preserved
loop-done-preserved g c = record {
  within = still_within c.args.bytes.now c.loop-done.done c.in-Ok.count c.loop-done.invariant.within c.in-Ok.ensures.ok.0;
  grew = writes_on (g.S.Sink.shown c.args.out.now).told (g.S.Sink.shown c.loop-done.out).told (g.S.Sink.shown c.write.new.self).told c.args.bytes.now c.loop-done.done c.in-Ok.count c.loop-done.invariant.grew c.in-Ok.ensures.ok.1;
  faults = took_some c.in-Ok.count _ _ _ c.in-Ok.count-test.1 c.in-Ok.ensures.faults ∙ c.loop-done.invariant.faults;
}
