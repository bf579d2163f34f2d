use Rattle.std.proofs.Common.{◌≡◌, length, ◌-◌, ◌≤◌, take}
use Rattle.aprsc_daemon.specs.Saying.{Grew}
use Rattle.aprsc_daemon.proofs.saying.write_all.Given as goal

-- the sink has the first bytes
abbrev pub invariant-loop-done : goal.invariant-loop-done
invariant-loop-done g l = record {
  within : l.done ≤ length l.bytes;
  grew : Grew (g.S.Sink.shown l.initial.out) (g.S.Sink.shown l.out) (take l.done l.bytes);
  faults : (g.S.Sink.shown l.out).faults ≡ (g.S.Sink.shown l.initial.out).faults;
}

-- each turn takes a byte or ends the loop
abbrev pub decreases-loop-done : goal.decreases-loop-done
decreases-loop-done g l = length l.bytes - l.done
