use Rattle.std.proofs.Common.{◌<◌, ap, arith, subst, sym}
use Rattle.server_core.specs.Meaning.{CoreMeaning}
use Rattle.server_core.proofs.CoreLemmas.{kept_above}
use Rattle.server_core.proofs.server.State.pass_over.Goals as goal

pub invariant_of-self : goal.invariant_of-self
invariant_of-self c = kept_above _ c.args.number c.self.invariant (subst (λ n. n < c.args.number) (sym (ap (λ (core : CoreMeaning). core.seen.greatest) c.self.view_is)) c.requires) (omega (arith, c.ranges.number.fits))
