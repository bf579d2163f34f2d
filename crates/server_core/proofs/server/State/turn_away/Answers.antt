use Rattle.std.proofs.Common.{◌<◌, ap, arith, subst, sym}
use Rattle.server_core.specs.Meaning.{CoreMeaning}
use Rattle.server_core.proofs.CoreLemmas.{kept_above, kept_turned}
use Rattle.server_core.proofs.server.State.turn_away.Goals as goal

pub invariant_of-self : goal.invariant_of-self
invariant_of-self c = kept_turned _ c.push.new.self.items c.self.invariant

pub invariant_of-self-2 : goal.invariant_of-self-2
invariant_of-self-2 c = kept_turned _ c.push.new.self.items (kept_above _ c.args.number c.self.invariant (subst (λ n. n < c.args.number) (sym (ap (λ (core : CoreMeaning). core.seen.greatest) c.self.view_is)) c.requires) (omega (arith, c.ranges.number.fits)))
