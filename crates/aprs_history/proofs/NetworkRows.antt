-- Small histories with uplinks, peers, datagrams and refused duplicates, and what the definitions say of them.
use Rattle.std.proofs.Common.{◌≡◌, refl, ℕ, List, [], ◌∷◌, ◌++◌, codes}
use Rattle.std.specs.Fmt.{digits}
use Rattle.std.specs.List.{flat_map}
use Rattle.aprs_base.specs.Outside.{Told}
use Rattle.aprs_base.specs.declared.texts.Addr.{Addr}
use Rattle.aprs_base.specs.declared.events.Event.TheVariants as event
use Rattle.aprs_base.specs.declared.events.Sent.TheVariants as sent
use Rattle.aprs_base.specs.declared.events.Happening.{Happening}
use Rattle.aprs_base.specs.declared.events.Happening.TheVariants as did
use Rattle.aprs_base.specs.declared.packets.PortKind.TheVariants as kind
use Rattle.aprs_body.specs.Bodies.{body_of}
use Rattle.aprs_position.specs.Either.{either_place}
use Rattle.aprs_position.specs.Plain.{mark_after, plain_place, written_of}
use Rattle.aprs_position.specs.Written.{finest, place_with}
use Rattle.filter_eval.specs.Passes.{fits, passes_of}
use Rattle.login_pass.specs.Downlinks.{downlink_of}
use Rattle.login_pass.specs.Login.{login_of}
use Rattle.login_pass.specs.Passcode.{passcode_of}
use Rattle.login_pass.specs.declared.login_line.LoginFault.TheVariants as login_fault
use Rattle.q_construct.specs.Rule.{process_of, given_drops, built_drops, built_row, rows}
use Rattle.q_construct.specs.declared.drops.QDrop.TheVariants as drop_for
use Rattle.tnc2_line.specs.Packet.{parts_of, text_of, via_of, head_of}
use Rattle.tnc2_line.specs.declared.reading.LineFault.TheVariants as line_fault
use Rattle.aprs_history.specs.declared.verdicts.Refusal.{Refusal}
use Rattle.aprs_history.specs.declared.verdicts.Refusal.TheVariants as refusal
use Rattle.aprs_history.specs.declared.verdicts.Verdict.TheVariants.{Refused}
use Rattle.aprs_history.specs.Setting.{Setting}
use Rattle.aprs_history.specs.Trace.{Trace, Said, live_links}
use Rattle.aprs_history.specs.declared.verdicts.EndReason.TheVariants.{Silent, Unasked}
use Rattle.aprs_history.specs.Dials.{CastSeen, casts_of}
use Rattle.aprs_history.specs.Casting.{casts_to_peer, submitted_lines}
use Rattle.aprs_history.specs.History.{History, trace_of}
use Rattle.aprs_history.specs.Acts.{Casts, Closes, Dials, IsRun, Listens, Offers, due}
use Rattle.aprs_history.specs.Runs.{told_after}
use Rattle.aprs_history.specs.Texts.{LineKind, Relayed, Shown, banner, lines_of, text_to}
use Rattle.aprs_history.proofs.EndingRows.{at_moment, ends}
use Rattle.aprs_history.proofs.Rows.{client, crlf, listen, server_on, told_in}

-- a full port, one for submissions, one that shows duplicates, and the peer group; two uplinks, and a peer
network : Setting
network = record (server_on (listen kind.Full 10152 ∷ listen kind.Submit 8080 ∷ listen kind.Dupe 10153 ∷ listen kind.Core 9000 ∷ [])) {
  uplinks = record { host = codes "10.0.0.9"; port = 10152 } ∷ record { host = codes "10.0.0.10"; port = 10152 } ∷ [];
  peers = record { call = codes "T2HUB"; at = record { ip = 10 ∷ 0 ∷ 0 ∷ 8 ∷ []; port = 9000 } } ∷ [];
}

uplink : Addr
uplink = record { ip = 10 ∷ 0 ∷ 0 ∷ 9 ∷ []; port = 10152 }

peer_at : ℕ → Addr
peer_at port = record { ip = 10 ∷ 0 ∷ 0 ∷ 8 ∷ []; port = port }

abbrev says : ℕ → List ℕ → Happening
says link line = did.Event (event.Bytes link (line ++ crlf))

abbrev opens : ℕ → ℕ → Happening
opens listener link = did.Event (event.Opened listener link client)

abbrev joins : ℕ → ℕ → Happening
joins n link = did.Event (event.Joined n link uplink)

listening : History
listening = did.Listen 3 ∷ did.Listen 2 ∷ did.Listen 1 ∷ did.Listen 0 ∷ []

listened : due network [] ≡ Listens 0 ∷ Listens 1 ∷ Listens 2 ∷ Listens 3 ∷ []
unfolding due network
listened = refl

-- ---- what histories show

-- the packets of a link's text
abbrev packet_lines : LineKind → List (List ℕ)
packet_lines (Relayed packet) = packet.line ∷ []
packet_lines (Shown packet) = packet.line ∷ []
packet_lines kind = []

abbrev packets_to : ℕ → History → List (List ℕ)
packets_to link history = flat_map (λ text. packet_lines text.kind) (text_to network (trace_of network history) link).lines

-- why lines were refused, the last first
abbrev refusals_in : Trace → List Refusal
refusals_in [] = []
refusals_in (Said from cut (Refused why) ∷ trace) = why ∷ refusals_in trace
refusals_in (entry ∷ trace) = refusals_in trace

abbrev refusals : History → List Refusal
refusals history = refusals_in (trace_of network history)

abbrev casts : History → List CastSeen
casts history = casts_of network (trace_of network history)

abbrev to_peer : List ℕ → CastSeen
to_peer line = record { peer = 0; line = line }

-- ---- dialling

-- the first uplink is dialled at the first tick, and the next ten seconds after that came to nothing
first_tick : History
first_tick = at_moment 1000 ∷ listening

first_dial : due network first_tick ≡ Dials 0 ∷ []
unfolding due trace_of network first_tick listening
first_dial = refl

dialling : History
dialling = did.Dialled 0 ∷ first_tick

unjoined : History
unjoined = did.Event (event.Unjoined 0) ∷ dialling

no_dial_yet : due network (at_moment 1009 ∷ unjoined) ≡ []
unfolding due trace_of network unjoined dialling first_tick listening
no_dial_yet = refl

next_dial : due network (at_moment 1010 ∷ unjoined) ≡ Dials 1 ∷ []
unfolding due trace_of network unjoined dialling first_tick listening
next_dial = refl

-- while one is being dialled no other is, whatever becomes of others
one_at_a_time : due network (at_moment 1010 ∷ did.Event (event.Unjoined 1) ∷ dialling) ≡ []
unfolding due trace_of network dialling first_tick listening
one_at_a_time = refl

-- an uplink that has joined is told who logs in
joined : History
joined = joins 1 1 ∷ did.Dialled 1 ∷ at_moment 1010 ∷ unjoined

login : lines_of network (trace_of network (at_moment 1011 ∷ joined)) 1 ≡ codes "user T2TEST pass 8385 vers aprsc 1.0" ∷ []
unfolding trace_of network joined unjoined dialling first_tick listening digits
login = refl

login_offered : due network (at_moment 1011 ∷ joined) ≡ Offers 1 (codes "user T2TEST pass 8385 vers aprsc 1.0" ++ crlf) ∷ []
unfolding due trace_of network joined unjoined dialling first_tick listening digits crlf
login_offered = refl

-- it ends where it brings nothing for a quarter of a minute, and ten seconds later it is the turn of the first again
silent : History
silent = at_moment 1025 ∷ joined

silent_ends : ends network silent ≡ (1, Silent) ∷ []
unfolding trace_of network silent joined unjoined dialling first_tick listening
silent_ends = refl

silent_closed : due network silent ≡ Closes 1 ∷ []
unfolding due trace_of network silent joined unjoined dialling first_tick listening
silent_closed = refl

silent_stays : ends network (at_moment 1025 ∷ did.Event (event.Bytes 1 (codes "#")) ∷ at_moment 1024 ∷ joined) ≡ []
unfolding trace_of network joined unjoined dialling first_tick listening
silent_stays = refl

rests : due network (at_moment 1034 ∷ did.Closed 1 ∷ silent) ≡ []
unfolding due trace_of network silent joined unjoined dialling first_tick listening
rests = refl

first_again : due network (at_moment 1035 ∷ did.Closed 1 ∷ silent) ≡ Dials 0 ∷ []
unfolding due trace_of network silent joined unjoined dialling first_tick listening
first_again = refl

-- an uplink that its peer ends rests as long
ended : History
ended = at_moment 1012 ∷ did.Event (event.Ended 1) ∷ at_moment 1011 ∷ joined

no_dial_after_the_end : due network (at_moment 1020 ∷ ended) ≡ []
unfolding due trace_of network ended joined unjoined dialling first_tick listening
no_dial_after_the_end = refl

dial_after_the_end : due network (at_moment 1021 ∷ ended) ≡ Dials 0 ∷ []
unfolding due trace_of network ended joined unjoined dialling first_tick listening
dial_after_the_end = refl

-- nobody had asked for the second: it has no text, its lines don't count, and it is closed; the first may still join
strange : History
strange = at_moment 1001 ∷ says 1 (codes "K1ABC>APRS:>x") ∷ joins 1 1 ∷ dialling

strange_ends : ends network strange ≡ (1, Unasked) ∷ []
unfolding trace_of network strange dialling first_tick listening crlf
strange_ends = refl

strange_untold : lines_of network (trace_of network strange) 1 ≡ []
unfolding trace_of network strange dialling first_tick listening crlf
strange_untold = refl

strange_closed : due network strange ≡ Closes 1 ∷ []
unfolding due trace_of network strange dialling first_tick listening crlf
strange_closed = refl

first_joins : live_links (trace_of network (joins 0 2 ∷ did.Closed 1 ∷ strange)) ≡ 2 ∷ []
unfolding trace_of network strange dialling first_tick listening crlf
first_joins = refl

-- an uplink isn't told the date, and isn't one of the clients of which there may be so many
not_told_the_date : lines_of network (trace_of network (at_moment 1020 ∷ joined)) 1 ≡ codes "user T2TEST pass 8385 vers aprsc 1.0" ∷ []
unfolding trace_of network joined unjoined dialling first_tick listening digits
not_told_the_date = refl

abbrev for_one : Setting
for_one = record network { max_clients = 1 }

counted_apart : live_links (trace_of for_one (opens 0 3 ∷ opens 0 2 ∷ joined)) ≡ 1 ∷ 2 ∷ []
unfolding trace_of network joined unjoined dialling first_tick listening client
counted_apart = refl

-- ---- packets of an uplink, a peer and a client

-- the uplink is link 1, and K1XYZ on the full port link 2
connected : History
connected = says 2 (codes "user K1XYZ pass 14986") ∷ opens 0 2 ∷ joins 0 1 ∷ dialling

from_uplink : History
from_uplink = says 1 (codes "K1ABC>APRS:>x") ∷ connected

uplink_to_client : packets_to 2 from_uplink ≡ codes "K1ABC>APRS,qAS,0A000009:>x" ∷ []
unfolding trace_of network from_uplink connected dialling first_tick listening uplink client crlf parts_of text_of via_of head_of login_of passcode_of process_of given_drops built_drops built_row rows body_of
uplink_to_client = refl

uplink_not_back : packets_to 1 from_uplink ≡ []
unfolding trace_of network from_uplink connected dialling first_tick listening uplink client crlf parts_of text_of via_of head_of login_of passcode_of process_of given_drops built_drops built_row rows body_of
uplink_not_back = refl

uplink_to_no_peer : casts from_uplink ≡ []
unfolding trace_of network from_uplink connected dialling first_tick listening uplink client crlf parts_of text_of via_of head_of login_of passcode_of process_of given_drops built_drops built_row rows body_of
uplink_to_no_peer = refl

-- a packet that this server had sent on doesn't come back
came_round : refusals (says 1 (codes "K1ABC>APRS,qAR,GATE,T2TEST:>x") ∷ connected) ≡ refusal.Path drop_for.NamesServer ∷ []
unfolding trace_of network connected dialling first_tick listening uplink client crlf parts_of text_of via_of head_of login_of passcode_of process_of given_drops built_drops built_row rows
came_round = refl

-- an uplink's comment is passed over, and its login is no packet
uplink_comment : refusals (says 1 (codes "# hello") ∷ says 1 (codes "#filter b/K") ∷ connected) ≡ []
unfolding trace_of network connected dialling first_tick listening uplink client crlf login_of passcode_of
uplink_comment = refl

uplink_login : refusals (says 1 (codes "user N0CALL pass 13023") ∷ connected) ≡ refusal.Packet line_fault.NoColon ∷ []
unfolding trace_of network connected dialling first_tick listening uplink client crlf parts_of text_of via_of head_of login_of passcode_of process_of given_drops built_drops built_row rows
uplink_login = refl

-- a client's packet goes to the uplink and to the peer, and not back
from_client : History
from_client = says 2 (codes "K1XYZ>APRS:>hi") ∷ connected

client_to_uplink : packets_to 1 from_client ≡ codes "K1XYZ>APRS,TCPIP*,qAC,T2TEST:>hi" ∷ []
unfolding trace_of network from_client connected dialling first_tick listening uplink client crlf parts_of text_of via_of head_of login_of passcode_of process_of given_drops built_drops built_row rows body_of digits
client_to_uplink = refl

client_to_peer : casts from_client ≡ to_peer (codes "K1XYZ>APRS,TCPIP*,qAC,T2TEST:>hi") ∷ []
unfolding trace_of network from_client connected dialling first_tick listening uplink client crlf parts_of text_of via_of head_of login_of passcode_of process_of given_drops built_drops built_row rows body_of
client_to_peer = refl

client_not_back : packets_to 2 from_client ≡ []
unfolding trace_of network from_client connected dialling first_tick listening uplink client crlf parts_of text_of via_of head_of login_of passcode_of process_of given_drops built_drops built_row rows body_of
client_not_back = refl

-- a peer's packet goes to clients alone
from_peer : History
from_peer = did.Event (event.Datagram 3 (peer_at 9000) (codes "K1ABC>APRS:>x")) ∷ connected

peer_to_client : packets_to 2 from_peer ≡ codes "K1ABC>APRS,qAS,T2HUB:>x" ∷ []
unfolding trace_of network from_peer peer_at connected dialling first_tick listening uplink client crlf parts_of text_of via_of head_of login_of passcode_of process_of given_drops built_drops built_row rows body_of
peer_to_client = refl

peer_to_no_uplink : packets_to 1 from_peer ≡ []
unfolding trace_of network from_peer peer_at connected dialling first_tick listening uplink client crlf parts_of text_of via_of head_of login_of passcode_of process_of given_drops built_drops built_row rows body_of
peer_to_no_uplink = refl

peer_to_no_peer : casts from_peer ≡ []
unfolding trace_of network from_peer peer_at connected dialling first_tick listening uplink client crlf parts_of text_of via_of head_of login_of passcode_of process_of given_drops built_drops built_row rows body_of
peer_to_no_peer = refl

-- a datagram of none of the peers is refused whole, once
from_stranger : History
from_stranger = did.Event (event.Datagram 3 (peer_at 9001) (codes "K1ABC>APRS:>x" ++ crlf ++ codes "K1ABC>APRS:>y")) ∷ connected

stranger_refused : refusals from_stranger ≡ refusal.Stranger ∷ []
unfolding trace_of network from_stranger peer_at connected dialling first_tick listening uplink client crlf login_of passcode_of
stranger_refused = refl

stranger_to_nobody : packets_to 2 from_stranger ≡ []
unfolding trace_of network from_stranger peer_at connected dialling first_tick listening uplink client crlf login_of passcode_of
stranger_to_nobody = refl

-- ---- submissions

abbrev submits : List ℕ → History
submits bytes = did.Event (event.Datagram 1 client bytes) ∷ connected

submitted : History
submitted = submits (codes "user N0CALL pass 13023 vers t 1" ++ crlf ++ codes "N0CALL>APRS:>hi")

submitted_to_client : packets_to 2 submitted ≡ codes "N0CALL>APRS,TCPIP*,qAU,T2TEST:>hi" ∷ []
unfolding trace_of network submitted connected dialling first_tick listening uplink client crlf parts_of text_of via_of head_of login_of passcode_of process_of given_drops built_drops built_row rows body_of
submitted_to_client = refl

submitted_to_uplink : packets_to 1 submitted ≡ codes "N0CALL>APRS,TCPIP*,qAU,T2TEST:>hi" ∷ []
unfolding trace_of network submitted connected dialling first_tick listening uplink client crlf parts_of text_of via_of head_of login_of passcode_of process_of given_drops built_drops built_row rows body_of digits
submitted_to_uplink = refl

submitted_to_peer : casts submitted ≡ to_peer (codes "N0CALL>APRS,TCPIP*,qAU,T2TEST:>hi") ∷ []
unfolding trace_of network submitted connected dialling first_tick listening uplink client crlf parts_of text_of via_of head_of login_of passcode_of process_of given_drops built_drops built_row rows body_of
submitted_to_peer = refl

-- the first line decides on the whole
unverified : History
unverified = submits (codes "user N0CALL pass 13024 vers t 1" ++ crlf ++ codes "N0CALL>APRS:>hi")

unverified_refused : refusals unverified ≡ refusal.Path drop_for.Unverified ∷ []
unfolding trace_of network unverified connected dialling first_tick listening uplink client crlf login_of passcode_of
unverified_refused = refl

unverified_to_nobody : packets_to 2 unverified ≡ []
unfolding trace_of network unverified connected dialling first_tick listening uplink client crlf login_of passcode_of
unverified_to_nobody = refl

comment_first : refusals (submits (codes "# hello" ++ crlf ++ codes "user N0CALL pass 13023" ++ crlf ++ codes "N0CALL>APRS:>hi")) ≡ refusal.Login login_fault.NotUser ∷ []
unfolding trace_of network connected dialling first_tick listening uplink client crlf login_of passcode_of
comment_first = refl

own_name : refusals (submits (codes "user T2TEST pass 8385" ++ crlf ++ codes "T2TEST>APRS:>hi")) ≡ refusal.OwnName ∷ []
unfolding trace_of network connected dialling first_tick listening uplink client crlf login_of passcode_of
own_name = refl

-- a later line decides on itself alone
one_bad_line : History
one_bad_line = submits (codes "user N0CALL pass 13023" ++ crlf ++ codes "hello" ++ crlf ++ codes "# hello" ++ crlf ++ codes "N0CALL>APRS:>hi" ++ crlf)

bad_line_refused : refusals one_bad_line ≡ refusal.Packet line_fault.NoColon ∷ []
unfolding trace_of network one_bad_line connected dialling first_tick listening uplink client crlf parts_of text_of via_of head_of login_of passcode_of process_of given_drops built_drops built_row rows
bad_line_refused = refl

good_line_passed_on : packets_to 2 one_bad_line ≡ codes "N0CALL>APRS,TCPIP*,qAU,T2TEST:>hi" ∷ []
unfolding trace_of network one_bad_line connected dialling first_tick listening uplink client crlf parts_of text_of via_of head_of login_of passcode_of process_of given_drops built_drops built_row rows body_of
good_line_passed_on = refl

-- a datagram without a line is nothing, and so is one at a port for clients
no_line : trace_of network (submits []) ≡ trace_of network connected
unfolding trace_of network connected dialling first_tick listening uplink client crlf login_of passcode_of
no_line = refl

empty_lines : trace_of network (submits (crlf ++ crlf)) ≡ trace_of network connected
unfolding trace_of network connected dialling first_tick listening uplink client crlf login_of passcode_of
empty_lines = refl

no_port_for_datagrams : trace_of network (did.Event (event.Datagram 0 client (codes "user N0CALL pass 13023")) ∷ connected) ≡ trace_of network connected
unfolding trace_of network connected dialling first_tick listening uplink client crlf login_of passcode_of
no_port_for_datagrams = refl

-- ---- refused duplicates

-- N0CALL and K1XYZ are on the full port, and K1ABC and a stranger on the one that shows duplicates
accepted_once : History
accepted_once =
    says 1 (codes "N0CALL>APRS,WIDE1-1:>hi")
    ∷ opens 2 4
    ∷ says 3 (codes "user K1ABC pass 14993")
    ∷ opens 2 3
    ∷ says 2 (codes "user K1XYZ pass 14986")
    ∷ opens 0 2
    ∷ says 1 (codes "user N0CALL pass 13023")
    ∷ opens 0 1
    ∷ first_tick

twice : History
twice = says 1 (codes "N0CALL>APRS,WIDE2-2:>hi") ∷ at_moment 1005 ∷ accepted_once

not_what_is_accepted : packets_to 3 accepted_once ≡ []
unfolding trace_of network accepted_once first_tick listening client crlf parts_of text_of via_of head_of login_of passcode_of process_of given_drops built_drops built_row rows body_of
not_what_is_accepted = refl

duplicate_shown : packets_to 3 twice ≡ codes "N0CALL>APRS,TCPIP*,qAC,T2TEST:>hi" ∷ []
unfolding trace_of network twice accepted_once first_tick listening client crlf parts_of text_of via_of head_of login_of passcode_of process_of given_drops built_drops built_row rows body_of
duplicate_shown = refl

-- others get the accepted packet alone, and who hasn't logged in gets none
once_to_full : packets_to 2 twice ≡ codes "N0CALL>APRS,TCPIP*,qAC,T2TEST:>hi" ∷ []
unfolding trace_of network twice accepted_once first_tick listening client crlf parts_of text_of via_of head_of login_of passcode_of process_of given_drops built_drops built_row rows body_of
once_to_full = refl

not_before_login : packets_to 4 twice ≡ []
unfolding trace_of network twice accepted_once first_tick listening client crlf parts_of text_of via_of head_of login_of passcode_of process_of given_drops built_drops built_row rows body_of
not_before_login = refl

-- such a link only reads, and has no filter
only_reads : refusals (says 3 (codes "K1ABC>APRS:>x") ∷ accepted_once) ≡ refusal.ReadOnly ∷ []
unfolding trace_of network accepted_once first_tick listening client crlf parts_of text_of via_of head_of login_of passcode_of process_of given_drops built_drops built_row rows
only_reads = refl

no_filter : told_in network (says 3 (codes "#filter b/K1*") ∷ accepted_once) 3
    ≡ banner ∷ codes "# logresp K1ABC verified, server T2TEST" ∷ codes "# filter refused, this port has no filter" ∷ []
unfolding trace_of network accepted_once first_tick listening client crlf parts_of text_of via_of head_of login_of passcode_of process_of given_drops built_drops built_row rows body_of
no_filter = refl

-- ---- messages and positions that come in datagrams

-- an igate port, one for submissions and the peer group
gates : Setting
gates = record network { listens = listen kind.Igate 14580 ∷ listen kind.Submit 8080 ∷ listen kind.Core 9000 ∷ [] }

-- K1XYZ has no filter, and has heard N0CALL; then a peer has a message for N0CALL
message : History
message =
    did.Event (event.Datagram 2 (peer_at 9000) (codes "OH7LZB>APRS::N0CALL   :hello"))
    ∷ says 1 (codes "N0CALL>APRS,K1XYZ,I:>x")
    ∷ says 1 (codes "user K1XYZ pass 14986")
    ∷ opens 0 1
    ∷ at_moment 1000
    ∷ did.Listen 2 ∷ did.Listen 1 ∷ did.Listen 0 ∷ []

positions : List ℕ → List ℕ
positions login = login ++ crlf ++ codes "OH7LZB>APRS:!4903.50N/07201.75W-" ++ crlf ++ codes "OH7LZB>APRS:!4903.50N/07201.76W-"

greeted : List (List ℕ)
greeted = banner ∷ codes "# logresp K1XYZ verified, server T2TEST" ∷ codes "OH7LZB>APRS,qAS,T2HUB::N0CALL   :hello" ∷ []

message_to_heard : told_in gates message 1 ≡ greeted
unfolding trace_of gates network message greeted peer_at client crlf parts_of text_of via_of head_of login_of passcode_of process_of given_drops built_drops built_row rows body_of either_place plain_place written_of mark_after finest place_with fits passes_of
message_to_heard = refl

-- the sender's next position goes along, and no other
next_position : told_in gates (did.Event (event.Datagram 1 client (positions (codes "user OH7LZB pass 20900"))) ∷ message) 1
    ≡ greeted ++ codes "OH7LZB>APRS,TCPIP*,qAU,T2TEST:!4903.50N/07201.75W-" ∷ []
unfolding trace_of gates network message greeted positions peer_at client crlf parts_of text_of via_of head_of login_of passcode_of process_of given_drops built_drops built_row rows body_of either_place plain_place written_of mark_after finest place_with fits passes_of
next_position = refl

-- ---- the order of the acts

-- a dial, the packets for the peers, the offers, and then the closes
busy_round : History
busy_round =
    at_moment 1010
    ∷ opens 0 2
    ∷ says 1 (codes "N0CALL>APRS:>b" ++ crlf ++ codes "N0CALL>APRS:>a")
    ∷ says 1 (codes "user N0CALL pass 13023")
    ∷ opens 0 1
    ∷ unjoined

acts_in_order : due for_one busy_round
    ≡ Dials 1
    ∷ Casts 0 (codes "N0CALL>APRS,TCPIP*,qAC,T2TEST:>b" ++ crlf)
    ∷ Casts 0 (codes "N0CALL>APRS,TCPIP*,qAC,T2TEST:>a" ++ crlf)
    ∷ Offers 1 (codes "# aprsc 1.0" ++ crlf ++ codes "# logresp N0CALL verified, server T2TEST" ++ crlf)
    ∷ Closes 2
    ∷ []
unfolding due trace_of network busy_round unjoined dialling first_tick listening client crlf parts_of text_of via_of head_of login_of passcode_of process_of given_drops built_drops built_row rows body_of
acts_in_order = refl

-- they are all done, and then there is nothing more to do
busy : History
busy =
    did.Closed 2
    ∷ did.Sent 1 (codes "# aprsc 1.0" ++ crlf ++ codes "# logresp N0CALL verified, server T2TEST" ++ crlf) sent.Gone
    ∷ did.Cast 0 (codes "N0CALL>APRS,TCPIP*,qAC,T2TEST:>a" ++ crlf)
    ∷ did.Cast 0 (codes "N0CALL>APRS,TCPIP*,qAC,T2TEST:>b" ++ crlf)
    ∷ did.Dialled 1
    ∷ busy_round

dialling_is_run : IsRun for_one unjoined
unfolding due trace_of network unjoined dialling first_tick listening
dialling_is_run = (((((((tt, refl), refl), refl), refl), (refl, tt)), refl), (refl, tt))

busy_is_run : IsRun for_one busy
unfolding due trace_of network busy busy_round unjoined dialling first_tick listening client crlf parts_of text_of via_of head_of login_of passcode_of process_of given_drops built_drops built_row rows body_of
busy_is_run = ((((((((((dialling_is_run, (refl, tt)), (refl, tt)), (refl, tt)), (refl, tt)), (refl, tt)), refl), (refl, refl)), (refl, refl)), (refl, refl, tt)), refl)

nothing_more : due for_one busy ≡ []
unfolding due trace_of network busy busy_round unjoined dialling first_tick listening client crlf parts_of text_of via_of head_of login_of passcode_of process_of given_drops built_drops built_row rows body_of
nothing_more = refl

-- the peer was sent what was submitted
submitted_in_order : submitted_lines (trace_of for_one busy) ≡ codes "N0CALL>APRS,TCPIP*,qAC,T2TEST:>b" ∷ codes "N0CALL>APRS,TCPIP*,qAC,T2TEST:>a" ∷ []
unfolding trace_of network busy busy_round unjoined dialling first_tick listening client crlf parts_of text_of via_of head_of login_of passcode_of process_of given_drops built_drops built_row rows body_of
submitted_in_order = refl

cast_to_peer : casts_to_peer busy 0 ≡ (codes "N0CALL>APRS,TCPIP*,qAC,T2TEST:>b" ++ crlf) ∷ (codes "N0CALL>APRS,TCPIP*,qAC,T2TEST:>a" ++ crlf) ∷ []
unfolding busy busy_round unjoined dialling first_tick listening
cast_to_peer = refl

-- where it listened, whom it dialled and to whom it cast are those of the setting
abbrev told : Told
told = told_after for_one for_one (record { done = []; listened = []; dialled = []; cast_to = [] }) busy busy

told_listens : told.listened ≡ for_one.listens
unfolding network busy busy_round unjoined dialling first_tick listening
told_listens = refl

told_dials : told.dialled ≡ for_one.uplinks
unfolding network busy busy_round unjoined dialling first_tick listening
told_dials = refl

told_casts : told.cast_to ≡ peer_at 9000 ∷ peer_at 9000 ∷ []
unfolding trace_of network peer_at busy busy_round unjoined dialling first_tick listening client crlf parts_of text_of via_of head_of login_of passcode_of downlink_of process_of given_drops built_drops built_row rows body_of
told_casts = refl
