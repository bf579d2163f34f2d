-- A block of packets as one run of lines, the links that take these lines of it and nothing else, and what it leaves of them.
use Rattle.std.specs.Prelude.{◌≡◌, ℕ, ◌^◌, ◌+◌, ◌*◌, ◌-◌, ◌%◌, ◌==◌, nat_lt, Bool, true, false, not, ◌&&◌, ◌||◌, min, List, [], ◌∷◌, ◌++◌, length, take, fold, is_none, if◌then◌else◌}
use Rattle.std.specs.List.{flat_map, list_all, list_any}
use Rattle.aprs_base.specs.declared.packets.Source.{Source}
use Rattle.aprs_base.specs.declared.packets.Source.TheVariants as source
use Rattle.filter_eval.specs.Passes.{is_some_and}
use Rattle.link_queue.specs.Queues.{with_lines}
use Rattle.worker_match.specs.declared.links.Feed.{Feed}
use Rattle.worker_match.specs.declared.links.Feed.TheVariants as feed
use Rattle.worker_match.specs.Seen.{FeedSeen, ItemSeen, Came}
use Rattle.worker_match.specs.Walk.{is_open}

-- the lines of the packets that aren't refused duplicates, the links that packets came from, and the marks of their sources
pub record RunSeen : Type 0 where
  pub lines : List (List ℕ)
  pub senders : List ℕ
  pub marks : List ℕ

-- equal calls have equal marks
abbrev pub mark_step : ℕ → ℕ → ℕ
mark_step so_far byte = (so_far * 31 % 2 ^ 64 + byte) % 2 ^ 64

abbrev pub mark : List ℕ → ℕ
mark call = fold mark_step 0 call

-- ---- what each item gives

abbrev pub is_packet : ItemSeen → Bool
is_packet (Came offer) = true
is_packet item = false

-- a refused duplicate gives no line
abbrev pub fresh : Bool → List ℕ → List (List ℕ)
fresh dupe line = if dupe then [] else line ∷ []

abbrev pub line_of : ItemSeen → List (List ℕ)
line_of (Came offer) = fresh offer.dupe offer.packet.line
line_of item = []

abbrev pub sent_by : Source → List ℕ
sent_by (source.Link number) = number ∷ []
sent_by (source.Submit listener) = []
sent_by (source.Peer peer) = []

abbrev pub sender_of : ItemSeen → List ℕ
sender_of (Came offer) = sent_by offer.packet.from
sender_of item = []

abbrev pub mark_of : ItemSeen → List ℕ
mark_of (Came offer) = mark offer.packet.parts.source ∷ []
mark_of item = []

abbrev pub empty_run : RunSeen
empty_run = record { lines = []; senders = []; marks = [] }

abbrev pub added : ItemSeen → RunSeen → RunSeen
added item run = record { lines = run.lines ++ line_of item; senders = run.senders ++ sender_of item; marks = run.marks ++ mark_of item }

-- the items are packets alone, and the run is of them
pub record IsRunOf (items : List ItemSeen) (run : RunSeen) : Type 0 where
  pub packets : list_all is_packet items ≡ true
  pub lines : run.lines ≡ flat_map line_of items
  pub senders : run.senders ≡ flat_map sender_of items
  pub marks : run.marks ≡ flat_map mark_of items

-- ---- the links

abbrev pub takes_all : Feed → Bool
takes_all feed.Full = true
takes_all other = false

-- packets that aren't refused duplicates may be wanted
abbrev pub takes_some : Feed → Bool
takes_some feed.Nothing = false
takes_some feed.Dupe = false
takes_some other = true

abbrev pub is_eager : FeedSeen → Bool
is_eager link = is_open link && takes_some link.feed

-- it lives, isn't over, takes all packets, and has no filter
abbrev pub is_plain : FeedSeen → Bool
is_plain link = (is_open link && takes_all link.feed) && is_none link.filter

-- it is plain, and no packet has its login's mark
abbrev pub suits_others : FeedSeen → RunSeen → Bool
suits_others link run = is_plain link && not (is_some_and (λ own. list_any (λ other. mark own == other) run.marks) link.me)

-- and none came from it
abbrev pub suits : FeedSeen → RunSeen → Bool
suits link run = suits_others link run && not (list_any (λ sender. link.link == sender) run.senders)

-- as many lines as fit are behind its queue, and are counted; where one doesn't the link is over
unfoldable pub with_run : List (List ℕ) → FeedSeen → FeedSeen
with_run lines link =
    let room = link.queue.limit - length link.queue.lines in
    record link {
      queue = with_lines (take (min room (length lines)) lines) link.queue;
      put = min (link.put + min room (length lines)) (2 ^ 64 - 1);
      over = link.over || nat_lt room (length lines);
    }
