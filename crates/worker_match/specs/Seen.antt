-- What a link's feed and the items that come to it are seen as: what is shared is what it points to.
use Rattle.std.specs.Prelude.{ℕ, Bool, List, Option, map}
use Rattle.aprs_base.specs.PacketSeen.{PacketSeen}
use Rattle.filter_lang.specs.Terms.{TermSeen}
use Rattle.filter_eval.specs.declared.seen.Seen.{Seen}
use Rattle.link_queue.specs.Queues.{QueueSeen}
use Rattle.worker_match.specs.declared.links.Feed.{Feed}

pub record FeedSeen : Type 0 where
  pub link : ℕ
  pub feed : Feed
  pub inbound : Bool
  pub alive : Bool
  pub over : Bool
  pub me : Option (List ℕ)
  pub filter : Option (List TermSeen)
  pub friends : List (Option Seen)
  pub mine : Option Seen
  pub queue : QueueSeen
  pub put : ℕ

-- what a link is from then on
pub record SessionSeen : Type 0 where
  pub link : ℕ
  pub feed : Feed
  pub me : Option (List ℕ)
  pub filter : Option (List TermSeen)
  pub friends : List (Option Seen)
  pub mine : Option Seen

-- a packet, whether it is a refused duplicate, whether it was submitted here, where its source was last seen and whether that
-- is a gate, and the links that the message rule asks for
pub record OfferSeen : Type 0 where
  pub packet : PacketSeen
  pub dupe : Bool
  pub submitted : Bool
  pub known : Option Seen
  pub gate : Bool
  pub extra : List ℕ

pub data ItemSeen : Type 0 where
  Told : (link : ℕ) → (line : List ℕ) → ItemSeen
  ToldAll : (line : List ℕ) → ItemSeen
  Ended : (link : ℕ) → ItemSeen
  Became : (session : SessionSeen) → ItemSeen
  Came : (offer : OfferSeen) → ItemSeen

abbrev pub came_all : List OfferSeen → List ItemSeen
came_all offers = map Came offers
