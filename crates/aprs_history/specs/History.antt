-- Histories: what happened on a wire, the newest first; their rounds, and their traces.
use Rattle.std.specs.Prelude.{ℕ, ◌==◌, ◌+◌, ◌/◌, ◌||◌, Bool, true, false, nat_lt, max, List, [], ◌∷◌, ◌++◌, length, Option, Some, None, Result, Ok, Err, if◌then◌else◌}
use Rattle.std.specs.Str.{byte}
use Rattle.aprs_base.specs.Cuts.{cuts_by}
use Rattle.aprs_base.specs.Outside.{new_link}
use Rattle.aprs_base.specs.declared.cutting.Cut.{Cut}
use Rattle.aprs_base.specs.declared.events.Event.{Event}
use Rattle.aprs_base.specs.declared.events.Event.TheVariants as event
use Rattle.aprs_base.specs.declared.events.Sent.{Sent}
use Rattle.aprs_base.specs.declared.events.Sent.TheVariants as sent
use Rattle.aprs_base.specs.declared.events.Happening.{Happening}
use Rattle.aprs_base.specs.declared.events.Happening.TheVariants as did
use Rattle.aprs_base.specs.declared.packets.PortKind.{PortKind}
use Rattle.aprs_base.specs.declared.packets.PortKind.TheVariants as kind
use Rattle.aprs_base.specs.declared.packets.Source.{Source}
use Rattle.aprs_base.specs.declared.packets.Source.TheVariants as source
use Rattle.aprs_base.specs.declared.texts.Addr.{Addr}
use Rattle.q_construct.specs.declared.origins.Origin.TheVariants as origin
use Rattle.uplinks_peers.specs.declared.uplinks.UpEvent.TheVariants as up
use Rattle.uplinks_peers.specs.Uplinks.{acts_at}
use Rattle.aprs_history.specs.Setting.{Setting, is_client_kind, kind_at, peer_from}
use Rattle.aprs_history.specs.Verdicts.{Scene, submitter_of, verdict_of}
use Rattle.aprs_history.specs.declared.verdicts.Admission.{Admission}
use Rattle.aprs_history.specs.declared.verdicts.Admission.TheVariants.{NoPort, NotAsked, TurnedAway, Served}
use Rattle.aprs_history.specs.declared.verdicts.LinkKind.TheVariants.{Client, Uplink}
use Rattle.aprs_history.specs.declared.verdicts.Refusal.{Refusal}
use Rattle.aprs_history.specs.declared.verdicts.Refusal.TheVariants as refusal
use Rattle.aprs_history.specs.declared.verdicts.Verdict.TheVariants.{Refused}
use Rattle.aprs_history.specs.Trace.{Trace, Entry, AtListener, ByUplink, RoundBegan, Dated, Looked, Unjoined, Ticked, Opened, Brought, Said, Roomed, Took, Lost, Ended, live_links, is_live, is_member, is_unasked, moment_of, placed_all, turned_links}
use Rattle.aprs_history.specs.declared.verdicts.EndReason.{EndReason}
use Rattle.aprs_history.specs.declared.verdicts.EndReason.TheVariants.{ByPeer, FoundGone, Overfull, Full, Unasked, ByStop}
use Rattle.aprs_history.specs.Links.{brought_by, client_links, gone_links, late_links, late_reason}
use Rattle.aprs_history.specs.Scenes.{datagram_scene, scene_of}
use Rattle.aprs_history.specs.Dials.{uplinks_of}
use Rattle.aprs_history.specs.Texts.{over_links}

abbrev pub History : Type 0
History = List Happening

abbrev pub is_round_event : Event → Bool
is_round_event (event.Tick moment) = true
is_round_event event.Stop = true
is_round_event e = false

-- whether an event ends its round, after so many in it: a Tick, a Stop, or the 512th
abbrev pub ends_round : ℕ → Event → Bool
ends_round before e = is_round_event e || before == 511

-- how many events have come in the round that goes on
abbrev pub open_events : History → ℕ
open_events [] = 0
open_events (did.Event e ∷ earlier) = if ends_round (open_events earlier) e then 0 else open_events earlier + 1
open_events (x ∷ earlier) = open_events earlier

abbrev pub is_stop : Event → Bool
is_stop event.Stop = true
is_stop e = false

-- whether Stop has come
abbrev pub is_stopped : History → Bool
is_stopped [] = false
is_stopped (did.Event e ∷ earlier) = is_stop e || is_stopped earlier
is_stopped (x ∷ earlier) = is_stopped earlier

abbrev pub greater_link : Option ℕ → ℕ → ℕ
greater_link None link = link
greater_link (Some new) link = max new link

-- the greatest number of a link that an event brought
abbrev pub greatest_link : History → ℕ
greatest_link [] = 0
greatest_link (did.Event e ∷ earlier) = greater_link (new_link e) (greatest_link earlier)
greatest_link (x ∷ earlier) = greatest_link earlier

-- these links end, one after another, each for its reason
abbrev pub end_each : (ℕ → EndReason) → List ℕ → Trace → Trace
end_each reason [] trace = trace
end_each reason (link ∷ links) trace = end_each reason links (Ended link (reason link) ∷ trace)

abbrev pub end_all : EndReason → List ℕ → Trace → Trace
end_all reason links trace = end_each (λ link. reason) links trace

-- these lines are said from there, one after another; each is judged by what it meets
abbrev pub say_all : (Trace → Scene) → Source → List Cut → Trace → Trace
say_all scene from [] trace = trace
say_all scene from (cut ∷ cuts) trace = say_all scene from cuts (Said from cut (verdict_of (scene trace) cut) ∷ trace)

-- the links that were found gone end
abbrev pub end_gone : Trace → Trace
end_gone trace = end_all FoundGone (gone_links trace) trace

-- what begins a round
abbrev pub begin_round : Trace → Trace
begin_round trace = end_gone (RoundBegan ∷ trace)

-- the links that end with a round: the overfull ones and those that were turned away, rising
abbrev pub refused_links : Setting → Trace → List ℕ
refused_links setting trace = placed_all (turned_links trace) (over_links setting trace)

abbrev pub refused_reason : Trace → ℕ → EndReason
refused_reason trace link =
    if is_member link (turned_links trace) then (if is_unasked trace link then Unasked else Full) else Overfull

-- after a stop all links that live end
abbrev pub end_stopped : Bool → Trace → Trace
end_stopped false trace = trace
end_stopped true trace = end_all ByStop (live_links trace) trace

-- what ends a round, with a stop or not
abbrev pub end_round : Setting → Bool → Trace → Trace
end_round setting stop trace = end_stopped stop (end_each (refused_reason trace) (refused_links setting trace) trace)

-- a connection is served where the listener is one for clients, and fewer are there than may be
abbrev pub admitted : ℕ → ℕ → Option PortKind → Admission
admitted most there None = NoPort
admitted most there (Some kind) = if is_client_kind kind then (if nat_lt there most then Served (Client kind) else TurnedAway) else NoPort

abbrev pub admission : Setting → Trace → ℕ → Admission
admission setting trace listener = admitted setting.max_clients (length (client_links trace)) (kind_at setting listener)

-- a link to an uplink is served where that uplink is being dialled
abbrev pub joined_admission : Setting → Trace → ℕ → ℕ → Admission
joined_admission setting trace uplink link =
    if (acts_at (up.Joined uplink link) (moment_of trace) (uplinks_of setting trace)).login then Served (Uplink uplink) else NotAsked

-- the seconds between two comment lines
abbrev pub comment_seconds : ℕ
comment_seconds = 20

-- the clients that live are told the date where the moment has passed a border since
abbrev pub dated : ℕ → Trace → Trace
dated before trace = if nat_lt (before / comment_seconds) (moment_of trace / comment_seconds) then Dated (moment_of trace) ∷ trace else trace

-- a tick: the moment goes on, links end by time, the clients are told the date, and an uplink may be dialled
abbrev pub with_tick : Setting → ℕ → Trace → Trace
with_tick setting moment trace =
    let now = Ticked moment ∷ trace in
    Looked ∷ dated (moment_of trace) (end_each (late_reason now) (late_links setting now) now)

abbrev pub bring : Setting → ℕ → List ℕ → Trace → Trace
bring setting link bytes trace =
    say_all (λ now. scene_of setting now link) (source.Link link) (cuts_by (brought_by trace link) bytes) (Brought link bytes ∷ trace)

abbrev pub with_bytes_of : Setting → ℕ → List ℕ → Trace → Trace
with_bytes_of setting link bytes trace = if is_live trace link then bring setting link bytes trace else trace

-- the lines of a datagram, whose end ends the last one
abbrev pub datagram_cuts : List ℕ → List Cut
datagram_cuts bytes = cuts_by [] (bytes ++ byte "\n" ∷ [])

-- a datagram that is refused whole, for what its first line is
abbrev pub refuse_datagram : ℕ → Cut → Refusal → Trace → Trace
refuse_datagram listener cut why trace = Said (source.Submit listener) cut (Refused why) ∷ trace

-- a station submits a datagram: after its login come its packets
abbrev pub submit : Setting → ℕ → Cut → List Cut → Result (List ℕ) Refusal → Trace → Trace
submit setting listener cut cuts (Err why) trace = refuse_datagram listener cut why trace
submit setting listener cut cuts (Ok login) trace = say_all (datagram_scene setting (origin.Udp login)) (source.Submit listener) cuts trace

-- a datagram comes to the peer group: where it is a peer's, its lines are packets
abbrev pub relay : Setting → ℕ → Cut → List Cut → Option (ℕ × List ℕ) → Trace → Trace
relay setting listener cut cuts None trace = refuse_datagram listener cut refusal.Stranger trace
relay setting listener cut cuts (Some peer) trace = say_all (datagram_scene setting (origin.Peer peer.1)) (source.Peer peer.0) (cut ∷ cuts) trace

-- a datagram with some line, on a listener of that kind
abbrev pub with_lines : Setting → Option PortKind → ℕ → Addr → List Cut → Trace → Trace
with_lines setting served listener from [] trace = trace
with_lines setting (Some kind.Submit) listener from (cut ∷ cuts) trace = submit setting listener cut cuts (submitter_of setting.server cut) trace
with_lines setting (Some kind.Core) listener from (cut ∷ cuts) trace = relay setting listener cut cuts (peer_from 0 setting.peers from) trace
with_lines setting served listener from (cut ∷ cuts) trace = trace

-- what an event adds; one that names a link that doesn't live adds nothing
abbrev pub with_event : Setting → Event → Trace → Trace
with_event setting (event.Tick moment) trace = with_tick setting moment trace
with_event setting (event.Opened listener link from) trace = Opened (AtListener listener) (admission setting trace listener) link from ∷ trace
with_event setting (event.Bytes link bytes) trace = with_bytes_of setting link bytes trace
with_event setting (event.Ended link) trace = if is_live trace link then Ended link ByPeer ∷ trace else trace
with_event setting (event.Room link) trace = if is_live trace link then Roomed link ∷ trace else trace
with_event setting event.Stop trace = trace
with_event setting (event.Joined uplink link at) trace = Opened (ByUplink uplink) (joined_admission setting trace uplink link) link at ∷ trace
with_event setting (event.Unjoined uplink) trace = Unjoined uplink ∷ trace
with_event setting (event.Datagram listener from bytes) trace = with_lines setting (kind_at setting listener) listener from (datagram_cuts bytes) trace

-- the trace where an event comes after so many in its round
abbrev pub begun : ℕ → Trace → Trace
begun before trace = if before == 0 then begin_round trace else trace

-- and once the event is there, which ends the round or doesn't
abbrev pub ended : Setting → Bool → Event → Trace → Trace
ended setting false e trace = trace
ended setting true e trace = end_round setting (is_stop e) trace

abbrev pub sent_entry : ℕ → List ℕ → Sent → Entry
sent_entry link bytes (sent.Took n) = Took link (length bytes) n
sent_entry link bytes sent.Gone = Lost link

unfoldable pub trace_of : Setting → History → Trace
trace_of setting [] = []
trace_of setting (did.Event e ∷ earlier) =
    ended setting (ends_round (open_events earlier) e) e (with_event setting e (begun (open_events earlier) (trace_of setting earlier)))
trace_of setting (did.Sent link bytes outcome ∷ earlier) = sent_entry link bytes outcome ∷ trace_of setting earlier
trace_of setting (happening ∷ earlier) = trace_of setting earlier
