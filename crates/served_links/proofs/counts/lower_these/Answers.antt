use Rattle.std.proofs.Common.{◌+◌, ap, not, subst, sym, ◌∙◌}
use Rattle.served_links.specs.Counts.{IsCounted, one_among}
use Rattle.served_links.proofs.CountLemmas.{lowers_none, lowers_one}
use Rattle.served_links.proofs.counts.lower_these.Goals as goal
use Rattle.served_links.proofs.counts.lower_these.Goals.{then-not-is_none_of, else-not-is_none_of}

pub loop-link-preserved : goal.loop-link-preserved
loop-link-preserved c =
    let old = c.args.counts.now.entries in
    let some = c.loop-link.counts.entries in
    let less = c.if-not-is_none_of.counts.entries in
    let place = c.loop-link.link-index in
    elim c.if-not-is_none_of.branch [
      | then-not-is_none_of w ↦ lowers_one c.args.numbers.now c.args.links.now place c.link-item.result c.link-item.result c.loop-link-test.true c.link-item.is old some less c.loop-link.invariant
          (ap not (sym c.is_none_of.ensures ∙ w.if-not-is_none_of.true))
          (λ other n counted. subst (λ table. IsCounted other n table.entries) (sym w.counts-is)
          (w.lower.ensures other n (subst (λ logins. IsCounted other (n + one_among other logins) some) (sym w.verified_call.ensures) counted)))
      | else-not-is_none_of w ↦ lowers_none c.args.numbers.now c.args.links.now place c.link-item.result c.link-item.result c.loop-link-test.true c.link-item.is old some less c.loop-link.invariant
          (ap not (sym c.is_none_of.ensures ∙ w.if-not-is_none_of.false)) (ap (λ table. table.entries) w.counts-is)
    ]
