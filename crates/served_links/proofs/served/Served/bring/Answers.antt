use Rattle.std.proofs.Common.{◌≡◌, ap, refl, subst, sym, ◌∙◌, ◌++◌, None}
use Rattle.std.proofs.lemmas.Result.{on_err_weaker, on_ok_weaker}
use Rattle.aprs_base.specs.Held.{held_after}
use Rattle.served_links.specs.Fed.{joined_all}
use Rattle.served_links.specs.Halves.{served_seen}
use Rattle.served_links.specs.Links.{Rises, here, held_at, held_kept, numbers}
use Rattle.served_links.specs.Changes.{at_link, with_bytes}
use Rattle.served_links.proofs.FedLemmas.{if_ok}
use Rattle.served_links.proofs.HereLemmas.{named_at, same_here, same_numbers, same_whole}
use Rattle.served_links.proofs.ServedLemmas.{halves_changed, picked_same}
use Rattle.served_links.proofs.ServedSteps.{asked, links_of, numbers_here, seen_stepped}
use Rattle.served_links.proofs.served.Served.bring.Goals as goal

held_same : (c : goal.After-bring) → held_at c.args.number (here c.self.inside.sessions) ≡ held_at c.args.number c.args.self.now.links
held_same c = asked c.self.inside c.self.view_is c.self.invariant.0.match refl (held_at c.args.number) (picked_same held_kept (λ h s. refl) None c.args.number)

pub invariant_of-self : goal.invariant_of-self
invariant_of-self c = (
  record {
    match = c.bring.ensures.halves c.self.inside.feeds.links c.self.invariant.0.match;
    rising = subst (λ ns. Rises 0 ns 4294967296) (sym (same_numbers c.bring.new.self c.self.inside.sessions c.bring.ensures.named)) c.self.invariant.0.rising;
  },
  (c.self.invariant.1.0, λ rests. same_whole c.bring.new.self c.self.inside.sessions c.bring.ensures.named ∙ c.self.invariant.1.1 rests),
)

pub returns-clause-rises : goal.returns-clause-rises
returns-clause-rises c high rises =
    let ss = c.self.inside.feeds.links in
    let hs = c.self.inside.sessions in
    subst (λ ns. Rises 0 ns high)
    (sym (numbers_here c.bring.new.self ss (c.bring.ensures.halves ss c.self.invariant.0.match) ∙ same_here c.bring.new.self hs c.bring.ensures.named
    ∙ sym (numbers_here hs ss c.self.invariant.0.match) ∙ ap numbers (ap links_of c.self.view_is)))
    rises

pub returns-clause-links : goal.returns-clause-links
returns-clause-links c before is =
    let hs = c.self.inside.sessions in
    let ss = c.self.inside.feeds.links in
    let step = with_bytes c.args.moment (held_after (before ++ c.args.bytes.now)) in
    on_ok_weaker c.bring.result
    (λ new. seen_stepped hs c.bring.new.self c.self.inside.feeds c.self.inside.feeds c.self.inside.queued c.self.inside.rests c.args.self.now (at_link c.args.number step) (named_at c.args.number step (λ link. refl)) c.self.view_is
    (ap (λ ls. joined_all ls ss) new ∙ halves_changed step (λ h s. refl) c.args.number hs ss) refl refl)
    (c.bring.ensures.links before (held_same c ∙ is))

pub returns-clause-cuts : goal.returns-clause-cuts
returns-clause-cuts c before is = c.bring.ensures.cuts before (held_same c ∙ is)

pub returns-clause-nowhere : goal.returns-clause-nowhere
returns-clause-nowhere c none =
    if_ok c.bring.result (λ cuts same. (same.0, ap (λ ls. served_seen ls c.self.inside.feeds c.self.inside.queued c.self.inside.rests) same.1 ∙ c.self.view_is)) (c.bring.ensures.nowhere (held_same c ∙ none))

pub returns-clause-err : goal.returns-clause-err
returns-clause-err c = on_err_weaker c.bring.result (λ same. ap (λ ls. served_seen ls c.self.inside.feeds c.self.inside.queued c.self.inside.rests) same ∙ c.self.view_is) c.bring.ensures.err
