use Rattle.std.proofs.Common.{◌≡◌, ◌≤◌, ◌<◌, ap, get_or, length, slice_get, subst, sym, ◌∙◌}
use Rattle.std.proofs.lemmas.Option.{get_or_from_slice_get, slice_get-get_or}
use Rattle.link_queue.specs.Queues.{QueueSeen, pending_bytes}
use Rattle.worker_match.specs.Items.{items_seen}
use Rattle.worker_match.specs.Seen.{FeedSeen}
use Rattle.worker_match.specs.Feeds.{with_taken}
use Rattle.worker_match.proofs.FeedLemmas.{queue_taken, seen_standing, written_at}
use Rattle.worker_match.proofs.feeds.Feeds.taken.Goals as goal

pub taken-requires : goal.taken-requires
taken-requires c =
    let states = c.self.inside.states.items in
    let items = items_seen c.self.inside.items.items in
    let link = get_or states c.args.place c.index_mut.result.now in
    let here : c.args.self.now.links ≡ states = seen_standing items states c.args.self.now c.self.view_is c.requires.settled in
    let within : c.args.place < length states = subst (λ links. c.args.place < length links) here c.requires.within in
    let there = ap (λ links. slice_get links c.args.place) here ∙ slice_get-get_or states c.args.place c.index_mut.result.now within in
    subst (λ (queue : QueueSeen). c.args.n ≤ length (pending_bytes queue)) (sym (ap (λ (l : FeedSeen). l.queue) (c.behind-self.view_is ∙ c.index_mut.ensures.value))) (c.requires.there link there)

pub returns : goal.returns
returns c link there =
    let states = c.self.inside.states.items in
    let items = items_seen c.self.inside.items.items in
    let here : c.args.self.now.links ≡ states = seen_standing items states c.args.self.now c.self.view_is c.requires.settled in
    let is = c.behind-self.view_is ∙ c.index_mut.ensures.value
    ∙ get_or_from_slice_get states c.args.place link c.index_mut.result.now (ap (λ links. slice_get links c.args.place) (sym here) ∙ there) in
    written_at items states c.args.self.now c.self.view_is c.requires.settled c.args.place (with_taken c.args.n link) _ (queue_taken _ link c.args.n c.taken.new.self is c.taken.ensures.exact)
