use Rattle.std.proofs.Common.{◌∷◌, None, ap, []}
use Rattle.aprsc_daemon.proofs.JournalLemmas.{sends_broken}
use Rattle.aprsc_daemon.proofs.ReachLemmas.{err_both}
use Rattle.aprsc_daemon.proofs.serving.send_one.Goals as goal

pub returns-in-None-clause-err : goal.returns-in-None-clause-err
returns-in-None-clause-err g c = λ s lines offers closes same other.
    err_both c.offer_one.result c.offer_one.ensures.err c.offer_one.ensures.uncounted (λ stays kept.
    sends_broken lines s (g.W.Wire.shown c.args.wire.now).told (g.W.Wire.shown c.offer_one.new.wire).told c.args.fronts.now.page c.offer_one.new.fronts.page c.args.core.now None [] (c.args.link ∷ offers) closes same stays (ap (λ f. f.page) kept))
