-- What the table of a link's steps comes to, in the words of the rule.
use Rattle.std.specs.Prelude.{ℕ, ◌≡◌, ◌≢◌, ◌⊎◌, ◌+◌, ◌^◌, ◌-◌, min, Bool, true, false, List, length, slice_get, Option, Some, None, if◌then◌else◌}
use Rattle.aprs_base.specs.declared.packets.Source.TheVariants as source
use Rattle.filter_lang.specs.Terms.{TermSeen}
use Rattle.filter_eval.specs.Passes.{is_some_and, is_text}
use Rattle.filter_eval.specs.declared.seen.Seen.{Seen}
use Rattle.station_table.specs.Stations.{seen_in}
use Rattle.link_queue.specs.Queues.{with_line}
use Rattle.worker_match.specs.declared.links.Feed.TheVariants as feed
use Rattle.worker_match.specs.Seen.{FeedSeen, OfferSeen, ItemSeen, Told, ToldAll, Ended, Became, Came}
use Rattle.worker_match.specs.Walk.{after, names, terms_of, walked, wants}

-- ---- whom an item changes

-- a link that doesn't live, or is over, is changed by nothing
abbrev pub DeadStay : Type 0
DeadStay = (link : FeedSeen) (items : List ItemSeen) → link.alive ≡ false → walked items link ≡ link

abbrev pub OverStay : Type 0
OverStay = (link : FeedSeen) (items : List ItemSeen) → link.over ≡ true → walked items link ≡ link

-- what is for others: the line, the end and the session of another link, and for a link that was dialled what is for all clients
abbrev pub IsForOthers : ItemSeen → FeedSeen → Type 0
IsForOthers (Told number line) link = link.link ≢ number
IsForOthers (ToldAll line) link = link.inbound ≡ false
IsForOthers (Ended number) link = link.link ≢ number
IsForOthers (Became session) link = link.link ≢ session.link
IsForOthers (Came offer) link = ⊥

abbrev pub OthersStay : Type 0
OthersStay = (link : FeedSeen) (item : ItemSeen) → IsForOthers item link → after link item ≡ link

-- ---- what a line for it leaves of a link

-- it lives and isn't over
pub record IsOpen (link : FeedSeen) : Type 0 where
  pub alive : link.alive ≡ true
  pub under : link.over ≡ false

-- a line for it alone, and for a link that was opened from the other side one for all clients
abbrev pub IsTextFor : FeedSeen → List ℕ → ItemSeen → Type 0
IsTextFor link line (Told number text) = (link.link ≡ number) × (text ≡ line)
IsTextFor link line (ToldAll text) = (link.inbound ≡ true) × (text ≡ line)
IsTextFor link line item = ⊥

-- it is the next in the queue, and isn't counted
abbrev pub TextsAreTaken : Type 0
TextsAreTaken =
    (link : FeedSeen) (line : List ℕ) (item : ItemSeen) → IsOpen link → IsTextFor link line item → length link.queue.lines ≢ link.queue.limit
    → after link item ≡ record link { queue = with_line line link.queue }

-- where the queue is full the link is over
abbrev pub FullByText : Type 0
FullByText =
    (link : FeedSeen) (line : List ℕ) (item : ItemSeen) → IsOpen link → IsTextFor link line item → length link.queue.lines ≡ link.queue.limit
    → after link item ≡ record link { over = true }

-- ---- what a link wants

-- nobody wants what came from its own link
abbrev pub NoneWantTheirOwn : Type 0
NoneWantTheirOwn = (link : FeedSeen) (offer : OfferSeen) → offer.packet.from ≡ source.Link link.link → wants offer link ≡ false

-- a refused duplicate is wanted by those alone that are fed such, and nothing else by them
abbrev pub DupesAreForDupeFeeds : Type 0
DupesAreForDupeFeeds = (link : FeedSeen) (offer : OfferSeen) → wants offer link ≡ true → (offer.dupe ≡ true → link.feed ≡ feed.Dupe) × (link.feed ≡ feed.Dupe → offer.dupe ≡ true)

-- ---- what a packet leaves of a link that lives and isn't over

-- a wanted packet's line is the next in the queue, and is counted
pub record HasTaken (offer : OfferSeen) (old new : FeedSeen) : Type 0 where
  pub queue : new.queue ≡ with_line offer.packet.line old.queue
  pub put : new.put ≡ min (old.put + 1) (2 ^ 64 - 1)
  pub over : new.over ≡ false

abbrev pub WantedAreTaken : Type 0
WantedAreTaken =
    (link : FeedSeen) (offer : OfferSeen) → IsOpen link → wants offer link ≡ true → length link.queue.lines ≢ link.queue.limit
    → HasTaken offer link (after link (Came offer))

-- nothing is taken, and the link is over or not
pub record HasTakenNone (overfull : Bool) (old new : FeedSeen) : Type 0 where
  pub queue : new.queue ≡ old.queue
  pub put : new.put ≡ old.put
  pub over : new.over ≡ overfull

-- where its queue is full it is over
abbrev pub FullAreOver : Type 0
FullAreOver =
    (link : FeedSeen) (offer : OfferSeen) → IsOpen link → wants offer link ≡ true → length link.queue.lines ≡ link.queue.limit
    → HasTakenNone true link (after link (Came offer))

abbrev pub OthersAreNotTaken : Type 0
OthersAreNotTaken = (link : FeedSeen) (offer : OfferSeen) → IsOpen link → wants offer link ≡ false → HasTakenNone false link (after link (Came offer))

-- ---- what a packet tells of places, whether it was taken or not

-- each friend that its term names by that call was seen there, and so was the link where the call is its own
pub record HasSeen (call : List ℕ) (seen : Seen) (old new : FeedSeen) : Type 0 where
  pub friends :
      (i : ℕ) (term : TermSeen) (friend : Option Seen) → slice_get (terms_of old.filter) i ≡ Some term → slice_get old.friends i ≡ Some friend
      → slice_get new.friends i ≡ Some (if names call term.what then Some seen else friend)
  pub many : length new.friends ≡ length old.friends
  pub mine : new.mine ≡ (if is_some_and (λ own. is_text own call) old.me then Some seen else old.mine)

abbrev pub PositionsAreSeen : Type 0
PositionsAreSeen =
    (link : FeedSeen) (offer : OfferSeen) (seen : Seen) → IsOpen link → offer.dupe ≡ false → seen_in offer.packet ≡ Some seen
    → HasSeen offer.packet.parts.source seen link (after link (Came offer))

pub record HasSeenNothing (old new : FeedSeen) : Type 0 where
  pub friends : new.friends ≡ old.friends
  pub mine : new.mine ≡ old.mine

-- a refused duplicate, and what is no position, tell of none
abbrev pub OthersTellNothing : Type 0
OthersTellNothing =
    (link : FeedSeen) (offer : OfferSeen) → IsOpen link → (offer.dupe ≡ true) ⊎ (seen_in offer.packet ≡ None) → HasSeenNothing link (after link (Came offer))
