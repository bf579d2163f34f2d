-- What it is that a core stands for a history.
use Rattle.std.specs.Prelude.{◌≡◌, ℕ, ◌≤◌, Bool, List, [], length, map, Option, None, if◌then◌else◌}
use Rattle.aprs_base.specs.Held.{Held, held_after}
use Rattle.aprs_base.specs.PacketSeen.{PacketSeen}
use Rattle.aprs_base.specs.declared.totals.Totals.{Totals}
use Rattle.filter_lang.specs.Terms.{TermSeen}
use Rattle.filter_eval.specs.declared.seen.Seen.{Seen}
use Rattle.station_table.specs.Stations.{StationsSeen}
use Rattle.station_table.specs.Last.{HasExactly}
use Rattle.heard_routing.specs.Entries.{HasEachOnce}
use Rattle.heard_routing.specs.Heard.{HeardSeen, heard_age, heard_at, promise_age, promised_at}
use Rattle.heard_routing.specs.LastHeard.{still}
use Rattle.dupe_window.specs.Recalled.{recalled}
use Rattle.dupe_window.specs.Windows.{WindowSeen}
use Rattle.aprs_history.specs.Counts.{totals_of}
use Rattle.aprs_history.specs.Setting.{Setting}
use Rattle.aprs_history.specs.declared.verdicts.Session.{Session}
use Rattle.aprs_history.specs.Trace.{Trace, closed_links, is_live, moment_of, served_links, turned_links}
use Rattle.aprs_history.specs.Links.{Opening, is_client, opening_of, last_heard, brought_by, session_of, filter_of, taken_by, is_blocked, is_gone}
use Rattle.aprs_history.specs.Scenes.{accepted_lately, accepted_of}
use Rattle.uplinks_peers.specs.Uplinks.{UplinksSeen}
use Rattle.aprs_history.specs.Dials.{CastSeen, casts_of, dial_of, uplinks_of}
use Rattle.aprs_history.specs.Downs.{DownSeen, down_of, downs_in}
use Rattle.aprs_history.specs.Sights.{friends_of, own_place}
use Rattle.aprs_history.specs.Messages.{heard_of, promise_of}
use Rattle.link_queue.specs.Lines.{Queued, queued, text_bytes}
use Rattle.aprs_history.specs.Texts.{lines_of, text_to}
use Rattle.aprs_history.specs.History.{History, open_events, is_stopped, greatest_link, trace_of}

-- what a core keeps of a link
pub record LinkSeen : Type 0 where
  pub link : ℕ
  pub opening : Option Opening
  pub last : ℕ
  pub held : Held
  pub session : Option Session
  pub down : Option DownSeen
  pub filter : List TermSeen
  pub friends : List (Option Seen)
  pub mine : Option Seen
  pub queue : Queued
  pub over : Bool
  pub blocked : Bool
  pub gone : Bool

-- what a core keeps for other servers: its uplinks, and what the last round has for them; and what that round accepted
pub record ReachSeen : Type 0 where
  pub uplinks : UplinksSeen
  pub dial : Option ℕ
  pub casts : List CastSeen
  pub accepted : List PacketSeen

-- what a core keeps
pub record CoreSeen : Type 0 where
  pub moment : ℕ
  pub links : List LinkSeen
  pub reach : ReachSeen
  -- the links that were turned away in this round, and those that ended in it and are to be closed
  pub turned : List ℕ
  pub closing : List ℕ
  pub window : WindowSeen
  pub stations : StationsSeen
  pub heard : HeardSeen
  pub greatest : ℕ
  -- how many links became downlinks
  pub downs : ℕ
  pub stopped : Bool
  -- what it has counted
  pub totals : Totals

-- what still counts of places for a link: nothing where it is overfull, since it takes no packet any more
abbrev pub friends_kept : Bool → List (Option Seen) → List (Option Seen)
friends_kept over friends = if over then [] else friends

abbrev pub place_kept : Bool → Option Seen → Option Seen
place_kept over place = if over then None else place

-- what there is to keep of a link: its opening, its last bytes' moment, the rest of its bytes, its login, the downlink that it is, its filter with where
-- the calls that it names were last seen, where its own login was, the lines that it hasn't wholly taken, and whether it is
-- overfull, is blocked or was found gone
unfoldable pub link_seen : Setting → Trace → ℕ → LinkSeen
link_seen setting trace link = record {
  link = link;
  opening = opening_of trace link;
  last = last_heard trace link;
  held = held_after (brought_by trace link);
  session = session_of trace link;
  down = down_of setting trace link;
  filter = filter_of trace link;
  friends = friends_kept (text_to setting trace link).over (friends_of trace link);
  mine = place_kept (text_to setting trace link).over (own_place trace link);
  queue = queued (lines_of setting trace link) (taken_by trace link);
  over = (text_to setting trace link).over;
  blocked = is_blocked trace link;
  gone = is_gone trace link;
}

-- no link took more than its text
abbrev pub TookNoMore : Setting → Trace → Type 0
TookNoMore setting trace = (link : ℕ) → taken_by trace link ≤ length (text_bytes (lines_of setting trace link))

-- the keys and moments of the packets that were accepted less than the window's seconds before, in the order in which they came
abbrev pub window_of : Setting → Trace → WindowSeen
window_of setting trace = record { pairs = recalled setting.window (moment_of trace) (accepted_of trace); seconds = setting.window }

-- when a link last heard a call, at most three hours before
abbrev pub kept_hearing : Trace → ℕ → List ℕ → Option ℕ
kept_hearing trace link call = still heard_age (moment_of trace) (heard_of trace link call)

-- when a link was last promised the sender's next position, at most half an hour before
abbrev pub kept_promise : Trace → ℕ → List ℕ → Option ℕ
kept_promise trace link sender = still promise_age (moment_of trace) (promise_of trace link sender)

-- a table has once each when the clients that live last heard each call, and what the links that live were last promised, as
-- far as that isn't too old; and nothing else
pub record Remembers (table : HeardSeen) (trace : Trace) : Type 0 where
  pub once_heard : HasEachOnce table.heard
  pub once_promised : HasEachOnce table.promises
  pub heard : (link : ℕ) (call : List ℕ) → heard_at table link call ≡ (if is_client trace link then kept_hearing trace link call else None)
  pub promised : (link : ℕ) (sender : List ℕ) → promised_at table link sender ≡ (if is_live trace link then kept_promise trace link sender else None)

-- the tables have what the accepted packets told, as far as that still counts, and nothing else
pub record Keeps (setting : Setting) (lately : WindowSeen) (sights : StationsSeen) (routes : HeardSeen) (trace : Trace) : Type 0 where
  pub window : lately ≡ window_of setting trace
  pub stations : HasExactly (moment_of trace) sights (accepted_of trace)
  pub heard : Remembers routes trace

-- what there is for other servers, and what was accepted
abbrev pub reach_of : Setting → Trace → ReachSeen
reach_of setting trace = record {
  uplinks = uplinks_of setting trace;
  dial = dial_of setting trace;
  casts = casts_of setting trace;
  accepted = accepted_lately trace;
}

-- the points of a core that hold after each entry of a trace
pub record Follows (setting : Setting) (core : CoreSeen) (trace : Trace) : Type 0 where
  pub moment : core.moment ≡ moment_of trace
  pub reach : core.reach ≡ reach_of setting trace
  pub turned : core.turned ≡ turned_links trace
  pub closing : core.closing ≡ closed_links trace
  pub links : core.links ≡ map (link_seen setting trace) (served_links trace)
  pub tables : Keeps setting core.window core.stations core.heard trace
  pub took : TookNoMore setting trace
  pub downs : core.downs ≡ downs_in setting trace
  pub totals : core.totals ≡ totals_of setting trace

-- a core stands for a history whose rounds are finished
pub record StandsFor (setting : Setting) (core : CoreSeen) (history : History) : Type 0 where
  pub finished : open_events history ≡ 0
  pub follows : Follows setting core (trace_of setting history)
  pub greatest : core.greatest ≡ greatest_link history
  pub stopped : core.stopped ≡ is_stopped history
