-- What each happening changes of the links, and of all else that the core keeps.
pub use Rattle.served_links.specs.Links.{Rises, has_number, numbers, pending_at}
use Rattle.std.specs.Prelude.{◌≡◌, ℕ, ◌+◌, nat_lt, Bool, true, List, [], ◌∷◌, ◌++◌, length, map, filter, not, ◌&&◌, Option, Some, None, if◌then◌else◌, ⊤}
use Rattle.std.specs.Option.{option_and_then}
use Rattle.aprs_base.specs.PacketSeen.{PacketSeen}
use Rattle.aprs_base.specs.declared.totals.Totals.{Totals}
use Rattle.aprs_base.specs.Bytes.{is_call}
use Rattle.filter_lang.specs.Terms.{TermSeen}
use Rattle.filter_eval.specs.Passes.{fresh, is_some_and, is_young}
use Rattle.filter_eval.specs.declared.seen.Seen.{Seen}
use Rattle.station_table.specs.Stations.{StationsSeen, gate_at, place_at}
use Rattle.station_table.specs.Stations as station
use Rattle.heard_routing.specs.Heard.{HeardSeen, courtesies, noted, promised, receivers, recent, without_link, without_promises}
use Rattle.dupe_window.specs.Keys.{key_of}
use Rattle.dupe_window.specs.Windows.{expired, with_key}
use Rattle.aprs_history.specs.declared.verdicts.FilterAnswer.{FilterAnswer}
use Rattle.aprs_history.specs.declared.verdicts.FilterAnswer.TheVariants.{Active, Denied}
use Rattle.aprs_history.specs.declared.verdicts.Session.{Session}
use Rattle.aprs_history.specs.Downs.{DownSeen, asked_addr, down_by, most_downs, one_if}
use Rattle.aprs_history.specs.Stands.{LinkSeen, CoreSeen}
use Rattle.aprs_history.specs.Trace.{is_from, is_member}
use Rattle.aprs_history.specs.declared.verdicts.Verdict.{Verdict}
use Rattle.aprs_history.specs.declared.verdicts.Verdict.TheVariants.{PassedOver, Refused, LoggedIn, Filtered, Accepted}
use Rattle.aprs_history.specs.Scenes.{packet_of}
use Rattle.aprs_history.specs.Messages.{is_message, is_position}
use Rattle.aprs_history.specs.Sights.{named_call}
use Rattle.aprs_history.specs.Texts.{filter_words, first_line, login_reply, refusal_reply, refused_filter}
use Rattle.aprs_base.specs.declared.packets.PortKind.{PortKind}
use Rattle.aprs_base.specs.declared.packets.Source.{Source}
use Rattle.aprs_base.specs.declared.packets.Source.TheVariants as source
use Rattle.aprs_history.specs.declared.verdicts.Refusal.{Refusal}
use Rattle.aprs_history.specs.declared.verdicts.Refusal.TheVariants as refusal
use Rattle.aprs_history.specs.Dials.{CastSeen, casts_to}
use Rattle.aprs_history.specs.Setting.{Peer, Setting}
use Rattle.aprs_base.specs.declared.texts.Addr.{Addr}
use Rattle.aprs_history.specs.declared.verdicts.Admission.{Admission}
use Rattle.aprs_history.specs.declared.verdicts.LinkKind.TheVariants.{Uplink}
use Rattle.aprs_history.specs.declared.verdicts.Admission.TheVariants.{NoPort, NotAsked, Served, TurnedAway}
use Rattle.uplinks_peers.specs.declared.uplinks.UpEvent.TheVariants as up
use Rattle.uplinks_peers.specs.Uplinks.{UplinksSeen, uplinks_after}
use Rattle.served_links.specs.declared.link.SourcePlace.{SourcePlace}
use Rattle.served_links.specs.declared.link.Timeouts.{Timeouts}
use Rattle.served_links.specs.Changes.{at_link, with_text, with_session, with_filter, at_moment, takes_packet, with_packet, with_shown, takes_shown, new_link_seen}
use Rattle.served_links.specs.Links.{is_late_link, client_at, opening_at, starts_line_at, submitted_from, filters_at}
use Rattle.served_links.specs.Halves.{more}

-- where a call was last seen, by a table
abbrev pub place_young : ℕ → StationsSeen → List ℕ → Option Seen
place_young now stations call = fresh now (place_at stations call)

-- where the call that a term names was last seen
abbrev pub found_in : ℕ → StationsSeen → TermSeen → Option Seen
found_in now stations term = option_and_then (place_young now stations) (named_call term.what)

-- after an answer to a filter, where the calls that its terms name are found so
abbrev pub with_answer : (TermSeen → Option Seen) → FilterAnswer → LinkSeen → LinkSeen
with_answer found (Active terms reply) link = with_filter terms (map found terms) reply link
with_answer found (Denied why) link = with_text (refused_filter (filter_words why)) link

-- what is kept when the moment has risen: nothing that is too old by then
abbrev pub passed : ℕ → CoreSeen → CoreSeen
passed now core = record core {
  moment = now;
  links = map (at_moment now) core.links;
  window = expired now core.window;
  stations = station.young now core.stations;
  heard = recent now core.heard;
}

abbrev pub is_there : LinkSeen → Bool
is_there link = not link.gone

abbrev pub is_in_time : Timeouts → ℕ → LinkSeen → Bool
is_in_time timeouts now link = not (is_late_link timeouts now link)

-- the link whose line it is as the step leaves it, and all others as they are
abbrev pub at_source : Source → (LinkSeen → LinkSeen) → List LinkSeen → List LinkSeen
at_source (source.Link number) step links = map (at_link number step) links
at_source (source.Submit listener) step links = links
at_source (source.Peer peer) step links = links

-- the links after a reply to one of them, where there is one
abbrev pub with_reply : Source → Option (List ℕ) → List LinkSeen → List LinkSeen
with_reply from None links = links
with_reply from (Some line) links = at_source from (with_text line) links

-- the links after a refusal: a duplicate is shown to those that want it, and the link whose line it is may have a reply
abbrev pub with_refusal : Source → Refusal → List LinkSeen → List LinkSeen
with_refusal from (refusal.Duplicate parts line) links = map (with_shown from line) links
with_refusal from why links = with_reply from (refusal_reply why) links

-- where a call was last seen, by the table
abbrev pub sighting_in : CoreSeen → List ℕ → Option Seen
sighting_in core call = place_young core.moment core.stations call

abbrev pub source_found : CoreSeen → Source → List ℕ → SourcePlace
source_found core from call = record {
  place = sighting_in core call;
  gate = is_some_and (is_young core.moment) (gate_at core.stations call);
  submitted = submitted_from from core.links;
}

-- ---- what is counted

abbrev pub with_accepted : (queued : ℕ) → Totals → Totals
with_accepted queued totals = record totals { accepted = more 1 totals.accepted; queued = more queued totals.queued }

abbrev pub with_duplicate : (queued : ℕ) → Totals → Totals
with_duplicate queued totals = record totals { duplicate = more 1 totals.duplicate; queued = more queued totals.queued }

abbrev pub with_refused : Totals → Totals
with_refused totals = record totals { refused = more 1 totals.refused }

-- a filter that is denied
abbrev pub answer_counted : FilterAnswer → Totals → Totals
answer_counted (Active terms reply) totals = totals
answer_counted (Denied why) totals = with_refused totals

-- a refusal, and the links to which a duplicate is shown
abbrev pub refusal_counted : Source → Refusal → List LinkSeen → Totals → Totals
refusal_counted from (refusal.Duplicate parts line) links totals = with_duplicate (length (filter (takes_shown from) links)) totals
refusal_counted from why links totals = with_refused totals

-- what is kept after an answer to a filter
abbrev pub after_answer : Source → FilterAnswer → CoreSeen → CoreSeen
after_answer from answer core = record core {
  links = at_source from (with_answer (found_in core.moment core.stations) answer) core.links;
  totals = answer_counted answer core.totals;
}

abbrev pub after_login_answer : Source → Option FilterAnswer → CoreSeen → CoreSeen
after_login_answer from None core = core
after_login_answer from (Some answer) core = after_answer from answer core

-- ---- downlinks

-- the address that a link asks its lines to be cast to, where it may be a downlink of these kinds of port
abbrev pub link_asks : List PortKind → ℕ → Option ℕ → CoreSeen → Option Addr
link_asks downs number port core =
    asked_addr downs (opening_at number core.links) (if nat_lt core.downs most_downs && starts_line_at number core.links then port else None)

abbrev pub source_asks : List PortKind → Source → Option ℕ → CoreSeen → Option Addr
source_asks downs (source.Link number) port core = link_asks downs number port core
source_asks downs from port core = None

-- the downlink that it becomes
abbrev pub new_down : ℕ → Option Addr → Option DownSeen
new_down number asked = down_by number asked None

-- the links after a login, by which one of them becomes that downlink, if any
abbrev pub greeted_links : List ℕ → Source → Session → Option DownSeen → CoreSeen → List LinkSeen
greeted_links server from session down core = at_source from (with_session session down (sighting_in core session.call) (login_reply server session)) core.links

abbrev pub greeted : List ℕ → ℕ → Session → Option DownSeen → CoreSeen → CoreSeen
greeted server number session down core = record core { links = greeted_links server (source.Link number) session down core }

-- what is kept after a login that asks for that address
abbrev pub after_login_at : List ℕ → Source → Session → Option Addr → CoreSeen → CoreSeen
after_login_at server from session asked core = record core {
  links = greeted_links server from session (new_down core.downs asked) core;
  downs = core.downs + one_if asked;
}

-- and after one that asks for that port
abbrev pub after_login : List ℕ → List PortKind → Source → Option ℕ → Session → CoreSeen → CoreSeen
after_login server downs from port session core = after_login_at server from session (source_asks downs from port core) core

-- ---- the message rule

-- the receiver of a message, where it is a call
abbrev pub call_in : Option (List ℕ) → Option (List ℕ)
call_in None = None
call_in (Some to) = if is_call to then Some to else None

abbrev pub receiver_of : PacketSeen → Option (List ℕ)
receiver_of packet = if is_message packet then call_in packet.body.to else None

-- the links that heard it
abbrev pub hearers_of : ℕ → HeardSeen → Option (List ℕ) → List ℕ
hearers_of now table None = []
hearers_of now table (Some to) = receivers table to now

abbrev pub hearers_in : CoreSeen → PacketSeen → List ℕ
hearers_in core packet = hearers_of core.moment core.heard (receiver_of packet)

-- the links that are owed a position
abbrev pub owed_in : CoreSeen → PacketSeen → List ℕ
owed_in core packet = if is_position packet then courtesies core.heard packet.parts.source core.moment else []

-- a position spends the promises of its source
abbrev pub spent : PacketSeen → HeardSeen → HeardSeen
spent packet table = if is_position packet then without_promises packet.parts.source table else table

-- a link is promised the sender's next position where it isn't the sender's and its port has filters
abbrev pub may_promise : List LinkSeen → Source → ℕ → Bool
may_promise links from link = not (is_from link from) && filters_at link links

abbrev pub promised_one : List LinkSeen → Source → List ℕ → ℕ → ℕ → HeardSeen → HeardSeen
promised_one links from sender now link table = if may_promise links from link then promised link sender now table else table

-- what is promised to several links, one after another
abbrev pub promised_all : List LinkSeen → Source → List ℕ → ℕ → List ℕ → HeardSeen → HeardSeen
promised_all links from sender now [] table = table
promised_all links from sender now (link ∷ more) table = promised_all links from sender now more (promised_one links from sender now link table)

-- a client has heard the source of its packet
abbrev pub noted_from : List LinkSeen → Source → List ℕ → ℕ → HeardSeen → HeardSeen
noted_from links (source.Link number) call now table = if client_at number links then noted number call now table else table
noted_from links (source.Submit listener) call now table = table
noted_from links (source.Peer peer) call now table = table

-- what was heard and promised, after a packet
abbrev pub heard_with : PacketSeen → CoreSeen → HeardSeen
heard_with packet core =
    noted_from core.links packet.from packet.parts.source core.moment (promised_all core.links packet.from packet.parts.source core.moment (hearers_in core packet) (spent packet core.heard))

-- links end, and nothing is kept of them
abbrev pub forgotten_all : List ℕ → HeardSeen → HeardSeen
forgotten_all [] table = table
forgotten_all (link ∷ more) table = forgotten_all more (without_link link table)

-- the uplinks after these links ended
abbrev pub ended_all : List ℕ → ℕ → UplinksSeen → UplinksSeen
ended_all [] now uplinks = uplinks
ended_all (link ∷ more) now uplinks = ended_all more now (uplinks_after (up.Ended link) now uplinks)

-- a packet that was submitted here is for the peers
abbrev pub cast_with : List Peer → PacketSeen → CoreSeen → List CastSeen
cast_with peers packet core = core.reach.casts ++ (if submitted_from packet.from core.links then casts_to 0 peers packet.line else [])

-- the links that put it into their texts
abbrev pub takers_in : CoreSeen → PacketSeen → List LinkSeen
takers_in core packet = filter (takes_packet packet (source_found core packet.from packet.parts.source) (hearers_in core packet) (owed_in core packet)) core.links

abbrev pub after_packet : List Peer → PacketSeen → CoreSeen → CoreSeen
after_packet peers packet core = record core {
  links = map (with_packet packet (source_found core packet.from packet.parts.source) (hearers_in core packet) (owed_in core packet)) core.links;
  window = with_key (key_of packet.parts) packet.moment core.window;
  stations = station.noted packet core.stations;
  heard = heard_with packet core;
  reach = record core.reach { casts = cast_with peers packet core; accepted = core.reach.accepted ++ packet ∷ [] };
  totals = with_accepted (length (takers_in core packet)) core.totals;
}

-- what is kept after a verdict on what was said, where a login asks for its lines at that port
abbrev pub after_verdict : List ℕ → List Peer → List PortKind → Source → Option ℕ → Verdict → CoreSeen → CoreSeen
after_verdict server peers downs from port PassedOver core = core
after_verdict server peers downs from port (Refused why) core = record core { links = with_refusal from why core.links; totals = refusal_counted from why core.links core.totals }
after_verdict server peers downs from port (LoggedIn session answer) core = after_login_answer from answer (after_login server downs from port session core)
after_verdict server peers downs from port (Filtered answer) core = after_answer from answer core
after_verdict server peers downs from port (Accepted parts line) core = after_packet peers (packet_of from core.moment parts line) core

-- what is kept where a link comes
abbrev pub admitted_in : Setting → Admission → ℕ → Addr → CoreSeen → CoreSeen
admitted_in setting NoPort number from core = record core { greatest = number }
admitted_in setting TurnedAway number from core = record core { greatest = number; turned = core.turned ++ number ∷ [] }
admitted_in setting NotAsked number from core = record core { greatest = number; turned = core.turned ++ number ∷ [] }
admitted_in setting (Served kind) number from core = record core {
  greatest = number;
  links = core.links ++ new_link_seen number (record { kind = kind; from = from; moment = core.moment }) (first_line setting kind).line ∷ [];
}

-- what becomes of a link to an uplink
abbrev pub joined_outcome : ℕ → (asked : Bool) → Admission
joined_outcome uplink asked = if asked then Served (Uplink uplink) else NotAsked

-- what comes in a datagram
abbrev pub IsDatagram : Source → Type 0
IsDatagram (source.Link number) = ⊥
IsDatagram (source.Submit listener) = ⊤
IsDatagram (source.Peer peer) = ⊤

-- each of these numbers is a link's
abbrev pub AreServed : List ℕ → List LinkSeen → Type 0
AreServed ns links = (n : ℕ) → is_member n ns ≡ true → has_number n links ≡ true
