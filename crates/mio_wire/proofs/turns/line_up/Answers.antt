use Rattle.std.proofs.Common.{false, not}
use Rattle.mio_wire.specs.Sources.{is_end}
use Rattle.mio_wire.specs.declared.turns.Ready.{Ready}
use Rattle.mio_wire.proofs.TurnLemmas.{one_more}
use Rattle.mio_wire.proofs.turns.line_up.Goals as goal

-- what is read beyond the last source
none : Ready
none = record { token = 0; readable = false; writable = false; closed = false; again = false }

pub loop-source-preserved : goal.loop-source-preserved
unfolding none
loop-source-preserved c =
    let sources = c.args.sources.now in
    let i = c.loop-source.source-index in (
      one_more (λ r. not (is_end r)) c.args.ready.now.items c.loop-source.ready.items c.place_one.new.ready.items sources i none c.loop-source-test.true c.loop-source.invariant.0 c.in_ok-place_one.ensures.ready,
      one_more is_end c.args.ends.now.items c.loop-source.ends.items c.place_one.new.ends.items sources i none c.loop-source-test.true c.loop-source.invariant.1 c.in_ok-place_one.ensures.ends,
    )
