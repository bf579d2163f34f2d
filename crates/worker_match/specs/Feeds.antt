-- The links with all that came to them, whether it was matched yet or not.
use Rattle.std.specs.Prelude.{ℕ, ◌^◌, ◌-◌, ◌==◌, ◌||◌, Bool, true, false, not, min, List, [], ◌∷◌, length, map, Option, Some, None}
use Rattle.std.specs.List.{list_any, sum_by}
use Rattle.filter_lang.specs.Terms.{TermSeen}
use Rattle.filter_eval.specs.Passes.{fresh}
use Rattle.filter_eval.specs.declared.seen.Seen.{Seen}
use Rattle.link_queue.specs.Queues.{without_bytes}
use Rattle.worker_match.specs.Seen.{FeedSeen, ItemSeen, Told}
use Rattle.worker_match.specs.Walk.{after, walked}
use Rattle.worker_match.specs.declared.links.Feed.{Feed}
use Rattle.worker_match.specs.declared.links.Feed.TheVariants as feed

-- the links as what came leaves them, and how many things came that aren't matched yet
pub record FeedsSeen : Type 0 where
  pub links : List FeedSeen
  pub waiting : ℕ

abbrev pub seen_after : List FeedSeen → List ItemSeen → FeedsSeen
seen_after links items = record { links = map (walked items) links; waiting = length items }

-- each link as an item leaves it
abbrev pub met_by : ItemSeen → List FeedSeen → List FeedSeen
met_by item links = map (λ link. after link item) links

-- a link that has just come: it is fed so, and has its first line to take
abbrev pub new_feed : ℕ → Feed → Bool → List ℕ → FeedSeen
new_feed number feed inbound first = record {
  link = number;
  feed = feed;
  inbound = inbound;
  alive = true;
  over = false;
  me = None;
  filter = None;
  friends = [];
  mine = None;
  queue = record { lines = first ∷ []; offset = 0; limit = 1000 };
  put = 0;
}

-- so many bytes were taken of its queue
abbrev pub with_taken : ℕ → FeedSeen → FeedSeen
with_taken n link = record link { queue = without_bytes n link.queue }

-- a line for it alone
abbrev pub told : List ℕ → FeedSeen → FeedSeen
told line link = after link (Told link.link line)

-- it has logged in: it is fed so, and its login was last seen there
abbrev pub with_login : Feed → List ℕ → Option Seen → FeedSeen → FeedSeen
with_login feed call mine link = record link { feed = feed; me = Some call; mine = mine }

-- it has another filter, and the calls of its terms were last seen there
abbrev pub with_terms : List TermSeen → List (Option Seen) → FeedSeen → FeedSeen
with_terms terms friends link = record link { filter = Some terms; friends = friends }

-- positions that count no more are let go
abbrev pub forgotten : ℕ → FeedSeen → FeedSeen
forgotten now link = record link { friends = map (fresh now) link.friends; mine = fresh now link.mine }

-- what was put is counted, and counts from now on anew
abbrev pub counted : FeedSeen → FeedSeen
counted link = record link { put = 0 }

abbrev pub put_of : FeedSeen → ℕ
put_of link = link.put

-- it has left, and comes to nothing any more: it keeps its place until all such are let go
abbrev pub left : FeedSeen → FeedSeen
left link = record link { feed = feed.Nothing; inbound = false }

abbrev pub is_fed : Feed → Bool
is_fed feed.Nothing = false
is_fed other = true

-- it hasn't left: who has come from the other side waits to be fed, and an uplink is fed from the first
abbrev pub is_served : FeedSeen → Bool
is_served link = link.inbound || is_fed link.feed

-- how many packet lines were put into the queues, up to a counter's last value
abbrev pub put_in : List FeedSeen → ℕ
put_in links = min (sum_by put_of links) (2 ^ 64 - 1)

-- its number is none of these
abbrev pub is_other : List ℕ → FeedSeen → Bool
is_other numbers link = not (list_any (λ n. n == link.link) numbers)

abbrev pub is_over : FeedSeen → Bool
is_over link = link.over

abbrev pub link_of : FeedSeen → ℕ
link_of link = link.link
