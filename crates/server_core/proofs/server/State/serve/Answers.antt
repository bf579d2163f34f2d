use Rattle.std.proofs.Common.{◌∷◌, ◌++◌, [], ◌<◌, ap, arith, refl, subst, sym}
use Rattle.served_links.specs.Changes.{new_link_seen}
use Rattle.server_core.specs.Meaning.{CoreMeaning}
use Rattle.server_core.proofs.CoreLemmas.{kept_pushed}
use Rattle.server_core.proofs.server.State.serve.Goals as goal

pub open-requires : goal.open-requires
open-requires c = (c.self.inside.greatest, c.self.invariant.rising, subst (λ n. n < c.args.number) (sym (ap (λ (core : CoreMeaning). core.seen.greatest) c.self.view_is)) c.requires)

pub invariant_of-self-2 : goal.invariant_of-self-2
invariant_of-self-2 c =
    let link = new_link_seen c.args.number (record { kind = c.args.kind; from = c.args.from; moment = c.self.inside.moment }) c.in_ok-first.first in
    rw c.in_ok-open.ensures.ok (kept_pushed _ c.args.number link (c.self.inside.links.links ++ link ∷ []) c.self.invariant
    (subst (λ n. n < c.args.number) (sym (ap (λ (core : CoreMeaning). core.seen.greatest) c.self.view_is)) c.requires) (omega (arith, c.ranges.number.fits))
    refl refl)
