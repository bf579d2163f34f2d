-- What each item leaves of a link, and what a list of them does.
use Rattle.std.specs.Prelude.{ℕ, ◌^◌, ◌+◌, ◌-◌, ◌==◌, Bool, true, false, not, ◌&&◌, ◌||◌, min, List, [], ◌∷◌, length, fold, Option, Some, None, if◌then◌else◌, ⊤}
use Rattle.std.specs.List.{list_any}
use Rattle.std.specs.List.Sorted.{IsStrictlyIncreasing}
use Rattle.aprs_base.specs.PacketSeen.{PacketSeen}
use Rattle.aprs_base.specs.declared.packets.Source.{Source}
use Rattle.aprs_base.specs.declared.packets.Source.TheVariants as source
use Rattle.filter_lang.specs.Terms.{TermSeen}
use Rattle.filter_lang.specs.declared.terms.What.{What}
use Rattle.filter_lang.specs.declared.terms.What.TheVariants as what
use Rattle.filter_eval.specs.Passes.{is_some_and, is_text, passes_of}
use Rattle.filter_eval.specs.declared.seen.Seen.{Seen}
use Rattle.station_table.specs.Stations.{seen_in}
use Rattle.link_queue.specs.Queues.{QueueSeen, with_line}
use Rattle.worker_match.specs.declared.links.Feed.{Feed}
use Rattle.worker_match.specs.declared.links.Feed.TheVariants as feed
use Rattle.worker_match.specs.Seen.{FeedSeen, SessionSeen, OfferSeen, ItemSeen, Told, ToldAll, Ended, Became, Came}

-- ---- what a link wants

abbrev pub is_from : ℕ → Source → Bool
is_from link (source.Link number) = link == number
is_from link (source.Submit listener) = false
is_from link (source.Peer peer) = false

abbrev pub terms_of : Option (List TermSeen) → List TermSeen
terms_of None = []
terms_of (Some terms) = terms

-- its filter passes the packet, or the message rule asks for it there
abbrev pub is_chosen : OfferSeen → FeedSeen → Bool
is_chosen offer link =
    passes_of (terms_of link.filter) offer.packet link.friends link.mine offer.known offer.gate
    || list_any (λ other. link.link == other) offer.extra

abbrev pub feed_wants : Feed → OfferSeen → FeedSeen → Bool
feed_wants feed.Nothing offer link = false
feed_wants feed.Full offer link = not offer.dupe
feed_wants feed.Up offer link = not offer.dupe && offer.submitted
feed_wants feed.Dupe offer link = offer.dupe
feed_wants feed.Filter offer link = not offer.dupe && is_chosen offer link

abbrev pub wants : OfferSeen → FeedSeen → Bool
wants offer link = not (is_from link.link offer.packet.from) && feed_wants link.feed offer link

-- ---- lines

abbrev pub is_full : QueueSeen → Bool
is_full queue = length queue.lines == queue.limit

-- a line more to take, where it fits; else the link is over
unfoldable pub with_text : List ℕ → FeedSeen → FeedSeen
with_text line link = if is_full link.queue then record link { over = true } else record link { queue = with_line line link.queue }

-- one more, which stays at a counter's last value
abbrev pub one_more : ℕ → ℕ
one_more count = min (count + 1) (2 ^ 64 - 1)

-- a packet's line more to take, which is counted where it fits; else the link is over
unfoldable pub with_copy : List ℕ → FeedSeen → FeedSeen
with_copy line link =
    if is_full link.queue then record link { over = true }
    else record link { queue = with_line line link.queue; put = one_more link.put }

-- ---- places

-- a term that asks for the position of that call
abbrev pub names : List ℕ → What → Bool
names call (what.Friend named km) = is_text named call
names call (what.ClassNear mask named km) = is_text named call
names call what = false

-- a term that asks for the position of some call, and whether one of the terms does
abbrev pub is_naming : What → Bool
is_naming (what.Friend named km) = true
is_naming (what.ClassNear mask named km) = true
is_naming what = false

abbrev pub has_naming : List TermSeen → Bool
has_naming terms = list_any (λ term. is_naming term.what) terms

-- where a term's call was last seen, once a station was seen
abbrev pub friend_seen : List ℕ → Seen → TermSeen → Option Seen → Option Seen
friend_seen call seen term friend = if names call term.what then Some seen else friend

abbrev pub friends_seen : List ℕ → Seen → List TermSeen → List (Option Seen) → List (Option Seen)
friends_seen call seen [] friends = friends
friends_seen call seen (term ∷ terms) [] = []
friends_seen call seen (term ∷ terms) (friend ∷ friends) = friend_seen call seen term friend ∷ friends_seen call seen terms friends

abbrev pub mine_seen : List ℕ → Seen → Option (List ℕ) → Option Seen → Option Seen
mine_seen call seen me mine = if is_some_and (λ own. is_text own call) me then Some seen else mine

-- a station was seen
abbrev pub with_seen : List ℕ → Option Seen → FeedSeen → FeedSeen
with_seen call None link = link
with_seen call (Some seen) link =
    record link { friends = friends_seen call seen (terms_of link.filter) link.friends; mine = mine_seen call seen link.me link.mine }

-- where the packet tells that its source is, which a refused duplicate doesn't
abbrev pub told_in : Bool → PacketSeen → Option Seen
told_in dupe packet = if dupe then None else seen_in packet

abbrev pub told_by : OfferSeen → Option Seen
told_by offer = told_in offer.dupe offer.packet

-- ---- items

abbrev pub with_session : SessionSeen → FeedSeen → FeedSeen
with_session session link = record link {
  feed = session.feed;
  me = session.me;
  filter = session.filter;
  friends = session.friends;
  mine = session.mine;
}

abbrev pub with_packet : OfferSeen → FeedSeen → FeedSeen
with_packet offer link = if wants offer link then with_copy offer.packet.line link else link

-- what an item leaves of a link that lives and isn't over
abbrev pub met : ItemSeen → FeedSeen → FeedSeen
met (Told number line) link = if link.link == number then with_text line link else link
met (ToldAll line) link = if link.inbound then with_text line link else link
met (Ended number) link = if link.link == number then record link { alive = false } else link
met (Became session) link = if link.link == session.link then with_session session link else link
met (Came offer) link = with_seen offer.packet.parts.source (told_by offer) (with_packet offer link)

abbrev pub is_open : FeedSeen → Bool
is_open link = link.alive && not link.over

abbrev pub after : FeedSeen → ItemSeen → FeedSeen
after link item = if is_open link then met item link else link

abbrev pub walked : List ItemSeen → FeedSeen → FeedSeen
walked items link = fold after link items

-- the numbers that it names rise
abbrev pub IsOrdered : ItemSeen → Type 0
IsOrdered (Told number line) = ⊤
IsOrdered (ToldAll line) = ⊤
IsOrdered (Ended number) = ⊤
IsOrdered (Became session) = ⊤
IsOrdered (Came offer) = IsStrictlyIncreasing offer.extra
