-- A link in two halves: what is kept of its session, and what it is fed.
use Rattle.std.specs.Prelude.{◌≡◌, ℕ, Bool, true, false, List, [], length, map, Option, Some, None}
use Rattle.std.specs.List.{AllZip, zip}
use Rattle.aprs_base.specs.Held.{Held, held_after}
use Rattle.aprs_base.specs.PacketSeen.{PacketSeen}
use Rattle.aprs_base.specs.declared.packets.PortKind.{PortKind}
use Rattle.aprs_base.specs.declared.packets.PortKind.TheVariants as port
use Rattle.aprs_history.specs.declared.verdicts.LinkKind.{LinkKind}
use Rattle.aprs_history.specs.declared.verdicts.LinkKind.TheVariants.{Client, Uplink}
use Rattle.aprs_history.specs.declared.verdicts.Session.{Session}
use Rattle.aprs_history.specs.Downs.{DownSeen}
use Rattle.aprs_history.specs.Links.{Opening, is_client_link}
use Rattle.aprs_history.specs.Stands.{LinkSeen, friends_kept, place_kept}
use Rattle.aprs_history.specs.Texts.{most_waiting, shows_duplicates}
use Rattle.worker_match.specs.declared.links.Feed.{Feed}
use Rattle.worker_match.specs.declared.links.Feed.TheVariants as feed
use Rattle.worker_match.specs.Seen.{FeedSeen, OfferSeen}
use Rattle.worker_match.specs.Walk.{terms_of}
use Rattle.served_links.specs.declared.link.SourcePlace.{SourcePlace}

-- what is kept of a session is seen as a link that is fed nothing
abbrev pub unfed : (link : ℕ) (opening : Option Opening) (last : ℕ) (held : Held) (session : Option Session) (down : Option DownSeen) (blocked gone : Bool) → LinkSeen
unfed link opening last held session down blocked gone = record {
  link = link;
  opening = opening;
  last = last;
  held = held;
  session = session;
  down = down;
  filter = [];
  friends = [];
  mine = None;
  queue = record { lines = []; offset = 0 };
  over = false;
  blocked = blocked;
  gone = gone;
}

-- both halves as one; places don't count any more for one that is overfull
abbrev pub joined : LinkSeen → FeedSeen → LinkSeen
joined half state = record half {
  filter = terms_of state.filter;
  friends = friends_kept state.over state.friends;
  mine = place_kept state.over state.mine;
  queue = record { lines = state.queue.lines; offset = state.queue.offset };
  over = state.over;
}

abbrev pub joined_all : List LinkSeen → List FeedSeen → List LinkSeen
joined_all halves states = map (λ pair. joined pair.0 pair.1) (zip halves states)

-- what a client of a port is fed once it has logged in
abbrev pub port_feed : PortKind → Feed
port_feed port.Full = feed.Full
port_feed port.Igate = feed.Filter
port_feed port.Only = feed.Filter
port_feed port.Dupe = feed.Dupe
port_feed port.Submit = feed.Nothing
port_feed port.Core = feed.Nothing

-- and what a link is fed, logged in or not
abbrev pub feed_of : LinkKind → Option Session → Feed
feed_of (Client kind) None = feed.Nothing
feed_of (Client kind) (Some session) = port_feed kind
feed_of (Uplink uplink) session = feed.Up

abbrev pub opening_feed : Option Opening → Option Session → Feed
opening_feed None session = feed.Nothing
opening_feed (Some opening) session = feed_of opening.kind session

abbrev pub login_of : Option Session → Option (List ℕ)
login_of None = None
login_of (Some session) = Some session.call

-- the halves are those of one link, which is fed what its session says
pub record Matches (half : LinkSeen) (state : FeedSeen) : Type 0 where
  pub link : state.link ≡ half.link
  pub inbound : state.inbound ≡ is_client_link half.opening
  pub alive : state.alive ≡ true
  pub limit : state.queue.limit ≡ most_waiting
  pub feed : state.feed ≡ opening_feed half.opening half.session
  pub me : state.me ≡ login_of half.session
  pub many : length state.friends ≡ length (terms_of state.filter)

abbrev pub AllMatch : List LinkSeen → List FeedSeen → Type 0
AllMatch halves states = AllZip Matches halves states

-- an accepted packet as it is offered to all links
abbrev pub offer_of : PacketSeen → SourcePlace → List ℕ → OfferSeen
offer_of packet source extra = record { packet = packet; dupe = false; submitted = source.submitted; known = source.place; gate = source.gate; extra = extra }

-- a duplicate that is refused, as it is offered to all links
abbrev pub refused_of : PacketSeen → OfferSeen
refused_of packet = record { packet = packet; dupe = true; submitted = false; known = None; gate = false; extra = [] }

-- a link that has just been opened, beside what it is fed
abbrev pub new_half : ℕ → Opening → LinkSeen
new_half number opening = unfed number (Some opening) opening.moment (held_after []) None None false false

-- whether it is shown the duplicates that others are refused
abbrev pub shows_kept : LinkSeen → Bool
shows_kept link = shows_duplicates link.opening link.session
