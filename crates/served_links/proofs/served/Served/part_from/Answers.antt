use Rattle.std.proofs.lemmas.List.{nil_from_length}
use Rattle.std.proofs.lemmas.Bool.{eqb-true}
use Rattle.std.proofs.Common.{ap, filter, sym, ◌∙◌, List, length}
use Rattle.aprs_history.specs.Stands.{LinkSeen}
use Rattle.served_links.specs.Links.{is_none_of, is_whole}
use Rattle.worker_match.specs.Feeds.{FeedsSeen}
use Rattle.served_links.proofs.HereLemmas.{whole_filter}
use Rattle.served_links.proofs.ServedSteps.{left_are, left_seen, none_leaves, waiting_of}
use Rattle.served_links.proofs.served.Served.part_from.Goals as goal

pub returns-then-is_empty : goal.returns-then-is_empty
returns-then-is_empty c =
    ap (λ (links : List LinkSeen). record c.args.self.now { links = links })
    (sym (ap (λ ns. filter (is_none_of ns) c.args.self.now.links) (nil_from_length c.args.ends.now (eqb-true (length c.args.ends.now) 0 (sym c.is_empty.ensures ∙ c.if-is_empty.true))) ∙ none_leaves c.args.self.now.links))

pub count_put-put-requires : goal.count_put-put-requires
count_put-put-requires c = ap waiting_of c.self.view_is ∙ c.requires

pub drop_these-requires-2 : goal.drop_these-requires-2
drop_these-requires-2 c = ap (λ (f : FeedsSeen). f.waiting) c.count_put-put.ensures.counted ∙ ap waiting_of c.self.view_is ∙ c.requires

pub invariant_of-self : goal.invariant_of-self
invariant_of-self c = (
  left_are c.args.ends.now c.self.inside.sessions c.drop_these.new.self c.self.inside.feeds c.count_put-put.new.self c.drop_these-2.new.self c.self.invariant.0 c.drop_these.ensures c.count_put-put.ensures.counted c.drop_these-2.ensures,
  (
    λ rests. ap (λ (f : FeedsSeen). f.waiting) c.drop_these-2.ensures ∙ ap (λ (f : FeedsSeen). f.waiting) c.count_put-put.ensures.counted ∙ c.self.invariant.1.0 rests,
    λ rests. ap is_whole c.drop_these.ensures ∙ whole_filter (is_none_of c.args.ends.now) c.self.inside.sessions (c.self.invariant.1.1 rests),
  ),
)

pub returns : goal.returns
returns c =
    left_seen c.args.ends.now c.self.inside.sessions c.drop_these.new.self c.self.inside.feeds c.count_put-put.new.self c.drop_these-2.new.self c.count_put-put.result c.self.inside.queued c.saturating_add-self-inside.result c.self.inside.rests c.args.self.now
    c.self.invariant.0 c.drop_these.ensures c.count_put-put.ensures.count c.count_put-put.ensures.counted c.drop_these-2.ensures c.saturating_add-self-inside.ensures c.self.view_is
