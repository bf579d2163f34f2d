use Rattle.std.proofs.Common.{ap, refl, sym, ◌∙◌}
use Rattle.worker_match.specs.Feeds.{FeedsSeen}
use Rattle.served_links.specs.Fed.{joined_all}
use Rattle.served_links.specs.Links.{here, is_whole}
use Rattle.served_links.proofs.HereLemmas.{here_again, here_whole, whole_here}
use Rattle.served_links.proofs.ServedLemmas.{put_alone}
use Rattle.served_links.proofs.ServedSteps.{swept_are, swept_put, swept_seen}
use Rattle.served_links.proofs.served.endings.sweep.Goals as goal

pub returns-then-is_whole-clause-swept : goal.returns-then-is_whole-clause-swept
returns-then-is_whole-clause-swept c = record { halves = c.requires.halves; settled = c.requires.settled; links = refl; put = put_alone c.args.feeds.now.links; whole = λ whole. whole }

pub returns-then-is_whole-clause-here : goal.returns-then-is_whole-clause-here
returns-then-is_whole-clause-here c = sym (here_whole c.args.sessions.now (c.is_whole.ensures c.if-is_whole.true))

pub sweep-requires-2 : goal.sweep-requires-2
sweep-requires-2 c = ap (λ (f : FeedsSeen). f.waiting) c.count_put-put.ensures.counted ∙ c.requires.settled

pub returns-clause-swept : goal.returns-clause-swept
returns-clause-swept c =
    let hs = c.args.sessions.now in
    let feeds = c.args.feeds.now in
    record {
      halves = swept_are hs c.sweep.new.self feeds c.count_put-put.new.self c.sweep-2.new.self c.sweep.ensures c.count_put-put.ensures.counted c.sweep-2.ensures c.requires.halves;
      settled = ap (λ (f : FeedsSeen). f.waiting) c.sweep-2.ensures ∙ ap (λ (f : FeedsSeen). f.waiting) c.count_put-put.ensures.counted ∙ c.requires.settled;
      links = ap here (swept_seen hs c.sweep.new.self feeds c.count_put-put.new.self c.sweep-2.new.self c.sweep.ensures c.count_put-put.ensures.counted c.sweep-2.ensures c.requires.halves.match) ∙ here_again (joined_all hs feeds.links);
      put = swept_put hs c.sweep.new.self feeds c.count_put-put.new.self c.sweep-2.new.self c.sweep.ensures c.count_put-put.ensures.counted c.sweep-2.ensures c.count_put-put.result c.count_put-put.ensures.count;
      whole = λ whole. ap is_whole c.sweep.ensures ∙ whole_here hs;
    }
