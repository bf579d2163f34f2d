use Rattle.std.proofs.Common.{ap, filter, subst, sym, ◌∙◌}
use Rattle.served_links.specs.Counts.{CountsLogins}
use Rattle.served_links.specs.Links.{clients_in, is_none_of, is_whole}
use Rattle.served_links.proofs.CountLemmas.{counted_dropped}
use Rattle.served_links.proofs.HereLemmas.{whole_filter}
use Rattle.served_links.proofs.sessions.Sessions.drop_these.Goals as goal

pub invariant_of-self : goal.invariant_of-self
invariant_of-self c =
    let numbers = c.args.numbers.now in
    let old = c.self.inside.counts.entries in
    let less = c.lower_these.new.counts.entries in
    let seen = c.as_slice.ensures.value in (
      c.count_clients-self-inside.ensures ∙ ap clients_in c.as_slice-2.ensures.value,
      λ none. ap is_whole c.drop_these.ensures ∙ whole_filter (is_none_of numbers) c.self.inside.links.items (c.self.invariant.1 none),
      subst (CountsLogins less) (ap (filter (is_none_of numbers)) seen ∙ sym c.drop_these.ensures)
          (counted_dropped old less c.as_slice.result.now numbers (subst (CountsLogins old) (sym seen) c.self.invariant.2) c.lower_these.ensures),
    )
