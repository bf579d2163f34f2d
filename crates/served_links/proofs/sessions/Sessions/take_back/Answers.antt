use Rattle.std.proofs.Common.{[], ◌∷◌, ◌+◌, ◌≡◌, ap, false, subst, sym, true, ◌∙◌}
use Rattle.served_links.specs.Counts.{CountsLogins, IsCounted, one_among}
use Rattle.served_links.specs.Links.{clients_in, is_whole}
use Rattle.served_links.proofs.CountLemmas.{counted_all, counted_popped}
use Rattle.served_links.proofs.HereLemmas.{whole_before}
use Rattle.served_links.proofs.sessions.Sessions.take_back.Goals as goal
use Rattle.served_links.proofs.sessions.Sessions.take_back.Goals.{in-Some, in_default}

pub invariant_of-self : goal.invariant_of-self
invariant_of-self c =
    let links = c.self.inside.links.items in
    let rest = c.pop.new.self.items in
    let old = c.self.inside.counts.entries in
    let right = elim c.match-pop.branch as (λ _. (c.match-pop.self-inside.parted ≡ false → is_whole c.match-pop.self-inside.links.items ≡ true) × CountsLogins c.match-pop.self-inside.counts.entries c.match-pop.self-inside.links.items) [
      | in-Some w ↦ subst (λ s. (s.parted ≡ false → is_whole s.links.items ≡ true) × CountsLogins s.counts.entries s.links.items) (sym w.self-inside-is) (
        (λ whole. whole_before rest (w.in-Some.link ∷ []) (ap is_whole (sym w.in-Some.ensures.items) ∙ c.self.invariant.1 whole)),
        counted_popped old w.lower.new.counts.entries links rest w.in-Some.link w.in-Some.ensures.items c.self.invariant.2
            (λ other n counted. w.lower.ensures other n (subst (λ logins. IsCounted other (n + one_among other logins) old) (sym w.verified_call.ensures) counted)),
      )
      | in_default w ↦ subst (λ s. (s.parted ≡ false → is_whole s.links.items ≡ true) × CountsLogins s.counts.entries s.links.items) (sym w.self-inside-is) (
        (λ whole. whole_before rest [] (ap is_whole (sym w.in_default.ensures.items) ∙ c.self.invariant.1 whole)),
        counted_all old links rest w.in_default.ensures.items c.self.invariant.2,
      )
    ] in
    (c.count_clients-self-inside.ensures ∙ ap clients_in c.as_slice.ensures.value, right.0, right.1)
