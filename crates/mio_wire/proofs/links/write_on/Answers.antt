use Rattle.std.proofs.Common.{◌+◌, ◌≤◌, length, take, drop, subst}
use Rattle.std.specs.Io.KnownBytes.{Appends}
use Rattle.mio_wire.proofs.WriteLemmas.{appends_keeps, appends_more, rest_is, rest_within}
use Rattle.mio_wire.proofs.links.write_on.Goals as goal
use Rattle.mio_wire.proofs.links.write_on.Goals.{in-Ok, in-Err-2}

pub loop-preserved : goal.loop-preserved
loop-preserved g c =
    elim c.match-write.branch [
      | in-Ok w ↦
          let within : c.loop.taken + w.in-Ok.count ≤ length c.args.bytes.now = rest_within c.loop.taken w.in-Ok.count c.args.bytes.now c.loop.invariant.0 w.in-Ok.ensures.bound in
          let next : Appends (g.F.Write.contents c.loop.to) (g.F.Write.contents c.write.new.self) (take w.in-Ok.count (drop c.loop.taken c.args.bytes.now)) =
          subst (λ rest. Appends (g.F.Write.contents c.loop.to) (g.F.Write.contents c.write.new.self) (take w.in-Ok.count rest)) (rest_is c.loop.taken c.args.bytes.now) w.in-Ok.ensures.bytes in
          rw w.taken-is (within, appends_more _ _ _ c.loop.taken w.in-Ok.count c.args.bytes.now c.loop.invariant.1 next)
      | in-Err-2 w ↦ rw w.taken-is (c.loop.invariant.0, appends_keeps _ _ _ (take c.loop.taken c.args.bytes.now) c.loop.invariant.1 w.in-Err.ensures.bytes)
    ]
