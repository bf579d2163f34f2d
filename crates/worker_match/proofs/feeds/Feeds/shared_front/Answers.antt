use Rattle.std.proofs.Common.{◌≡◌, IfSome, ap, subst, ◌∙◌}
use Rattle.link_queue.specs.Queues.{QueueSeen, pending_bytes}
use Rattle.worker_match.specs.Items.{items_seen}
use Rattle.worker_match.specs.Seen.{FeedSeen}
use Rattle.worker_match.proofs.FeedLemmas.{found_there}
use Rattle.worker_match.proofs.feeds.Feeds.shared_front.Goals as goal

pub returns : goal.returns
returns c link there =
    let here = found_there (items_seen c.self.inside.items.items) c.self.inside.states.items c.args.self.now c.self.view_is c.requires.settled c.args.place link c.index.result.now there c.index.ensures in
    let queue = ap (λ (l : FeedSeen). l.queue) (c.behind-self.view_is ∙ here) in
    subst (λ (queue : QueueSeen). IfSome c.shared_front.result (λ bytes. bytes.now ≡ pending_bytes queue)) queue c.shared_front.ensures
