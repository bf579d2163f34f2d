use Rattle.std.proofs.Common.{ap, length, ◌∙◌}
use Rattle.link_queue.specs.Queues.{QueueSeen, pending_bytes}
use Rattle.worker_match.specs.Items.{items_seen}
use Rattle.worker_match.specs.Seen.{FeedSeen}
use Rattle.worker_match.proofs.FeedLemmas.{found_there}
use Rattle.worker_match.proofs.feeds.Feeds.pending.Goals as goal

pub returns : goal.returns
returns c link there =
    let here = found_there (items_seen c.self.inside.items.items) c.self.inside.states.items c.args.self.now c.self.view_is c.requires.settled c.args.place link c.index.result.now there c.index.ensures in
    let queue = ap (λ (l : FeedSeen). l.queue) (c.behind-self.view_is ∙ here) in
    c.pending.ensures ∙ ap (λ (queue : QueueSeen). length (pending_bytes queue)) queue
