use Rattle.std.proofs.Common.{◌≤◌, ◌∙◌, ap, refl, subst, sym}
use Rattle.served_links.specs.Halves.{ServedSeen}
use Rattle.server_core.specs.Kept.{IsCurrent}
use Rattle.served_links.specs.Links.{Rises, numbers}
use Rattle.served_links.specs.Changes.{at_moment}
use Rattle.server_core.specs.Meaning.{CoreMeaning}
use Rattle.server_core.proofs.CoreLemmas.{kept_risen}
use Rattle.served_links.proofs.ServedSteps.{emptied_rises}
use Rattle.served_links.proofs.LinkLemmas.{numbers_kept}
use Rattle.server_core.proofs.WindowLemmas.{current_passed}
use Rattle.server_core.proofs.server.State.pass.Goals as goal

pub invariant_of-self : goal.invariant_of-self
invariant_of-self c = kept_risen _ c.forget.new.self (emptied_rises c.in_err-forget.ensures.err c.self.inside.greatest) c.self.invariant

pub invariant_of-self-2 : goal.invariant_of-self-2
invariant_of-self-2 c =
    let later : c.self.inside.moment ≤ c.args.now = subst (λ moment. moment ≤ c.args.now) (sym (ap (λ (core : CoreMeaning). core.seen.moment) c.self.view_is)) c.requires in
    record {
      rising = subst (λ ns. Rises 0 ns c.self.inside.greatest) (sym (ap (λ (s : ServedSeen). numbers s.links) c.in_ok-forget.ensures.ok ∙ numbers_kept (at_moment c.args.now) (λ link. refl) c.self.inside.links.links)) c.self.invariant.rising;
      small = c.self.invariant.small;
      station = c.self.invariant.station;
      group = c.self.invariant.group;
      few = c.self.invariant.few;
      window = subst (IsCurrent c.args.now) (sym c.expire.ensures) (current_passed c.self.inside.moment c.args.now c.self.inside.window later c.self.invariant.window);
    }
