-- Small histories, and the lines of their journals.
use Rattle.std.proofs.Common.{◌≡◌, refl, ℕ, List, [], ◌∷◌, ◌++◌, codes}
use Rattle.std.specs.Fmt.{digits}
use Rattle.aprs_base.specs.Journals.{JournalLineSeen}
use Rattle.aprs_base.specs.declared.journals.Kind.TheVariants as kind
use Rattle.aprs_base.specs.declared.texts.Addr.{Addr}
use Rattle.aprs_base.specs.declared.events.Event.TheVariants as event
use Rattle.aprs_base.specs.declared.events.Sent.TheVariants as sent
use Rattle.aprs_base.specs.declared.events.Happening.{Happening}
use Rattle.aprs_base.specs.declared.events.Happening.TheVariants as did
use Rattle.aprs_base.specs.declared.packets.PortKind.TheVariants as port
use Rattle.aprs_body.specs.Bodies.{body_of}
use Rattle.login_pass.specs.Login.{login_of}
use Rattle.login_pass.specs.Passcode.{passcode_of}
use Rattle.q_construct.specs.Rule.{process_of, given_drops, built_drops, built_row, rows}
use Rattle.tnc2_line.specs.Packet.{parts_of, text_of, via_of, head_of}
use Rattle.aprs_history.specs.Setting.{Setting}
use Rattle.aprs_history.specs.History.{History, trace_of}
use Rattle.aprs_history.specs.Journal.{journal_of, line_of}
use Rattle.aprs_history.specs.Refusing.{lines_in}
use Rattle.aprs_history.proofs.EndingRows.{at_moment}
use Rattle.aprs_history.proofs.Rows.{client, crlf, listen, server_on}

-- a full port, one with filters, one for submissions, and the peer group; an uplink, and a peer
unfoldable pub setting : Setting
setting = record (server_on (listen port.Full 10152 ∷ listen port.Igate 14580 ∷ listen port.Submit 8080 ∷ listen port.Core 9000 ∷ [])) {
  uplinks = record { host = codes "10.0.0.9"; port = 10152 } ∷ [];
  peers = record { call = codes "T2HUB"; at = record { ip = 10 ∷ 0 ∷ 0 ∷ 8 ∷ []; port = 9000 } } ∷ [];
}

uplink : Addr
uplink = record { ip = 10 ∷ 0 ∷ 0 ∷ 9 ∷ []; port = 10152 }

abbrev pub says : ℕ → List ℕ → Happening
says link line = did.Event (event.Bytes link (line ++ crlf))

abbrev pub opens : ℕ → ℕ → Happening
opens listener link = did.Event (event.Opened listener link client)

abbrev submits : ℕ → List ℕ → Happening
submits listener text = did.Event (event.Datagram listener client text)

unfoldable pub listening : History
listening = did.Listen 3 ∷ did.Listen 2 ∷ did.Listen 1 ∷ did.Listen 0 ∷ []

-- the steps of sessions, the refusals and the loops
abbrev step : ℕ → List ℕ → JournalLineSeen
step moment text = line_of kind.Session moment text

abbrev refused : ℕ → List ℕ → JournalLineSeen
refused moment text = line_of kind.Refusal moment text

abbrev loop : ℕ → List ℕ → JournalLineSeen
loop moment text = line_of kind.Loop moment text

-- ---- sessions

unfoldable pub two_clients : History
two_clients =
    says 1 (codes "N0CALL>APRS,WIDE1-1:>hi") ∷ says 2 (codes "user K1ABC pass 14993 vers t 1") ∷ says 1 (codes "user N0CALL pass 13023 vers t 1")
    ∷ opens 0 2 ∷ opens 0 1 ∷ at_moment 1000 ∷ listening

-- a stop ends the two links after the lines of the round
sessions_of_two : journal_of setting (did.Event event.Stop ∷ two_clients)
    ≡ step 1000 (codes "open 1 0") ∷ step 1000 (codes "open 2 0") ∷ step 1000 (codes "login 1 N0CALL verified") ∷ step 1000 (codes "login 2 K1ABC verified")
    ∷ step 1000 (codes "end 1 stop") ∷ step 1000 (codes "end 2 stop") ∷ []
unfolding trace_of setting two_clients listening client crlf digits parts_of text_of via_of head_of login_of passcode_of process_of given_drops built_drops built_row rows body_of
sessions_of_two = refl

-- a round that isn't finished has no lines yet
unfinished : journal_of setting two_clients ≡ []
unfolding trace_of setting two_clients listening
unfinished = refl

-- a link that a send found gone ends as the next round begins, before its tick
found_gone : journal_of setting (at_moment 1002 ∷ did.Sent 1 (codes "# aprsc 1.0" ++ crlf) sent.Gone ∷ at_moment 1001 ∷ opens 0 1 ∷ at_moment 1000 ∷ listening)
    ≡ step 1000 (codes "open 1 0") ∷ step 1001 (codes "end 1 gone") ∷ []
unfolding trace_of setting listening client crlf digits
found_gone = refl

-- the lines by the entries, of which the outcome of a send is one, tell of that end, too
found_gone_entries : lines_in setting (trace_of setting (at_moment 1002 ∷ did.Sent 1 (codes "# aprsc 1.0" ++ crlf) sent.Gone ∷ at_moment 1001 ∷ opens 0 1 ∷ at_moment 1000 ∷ listening))
    ≡ step 1000 (codes "open 1 0") ∷ step 1001 (codes "end 1 gone") ∷ []
unfolding trace_of setting listening client crlf digits
found_gone_entries = refl

-- one that doesn't log in ends at the tick, with its moment
nameless : journal_of setting (at_moment 1030 ∷ opens 0 1 ∷ at_moment 1000 ∷ listening) ≡ step 1000 (codes "open 1 0") ∷ step 1030 (codes "end 1 nologin") ∷ []
unfolding trace_of setting listening client digits
nameless = refl

-- one that was turned away ends with its round
turned_away : journal_of (record setting { max_clients = 0 }) (at_moment 1001 ∷ did.Event (event.Ended 1) ∷ opens 0 1 ∷ at_moment 1000 ∷ listening)
    ≡ step 1000 (codes "open 1 0") ∷ step 1001 (codes "end 1 full") ∷ []
unfolding trace_of setting listening client digits
turned_away = refl

-- a listener that isn't one for clients has no line
no_port : journal_of setting (at_moment 1001 ∷ opens 2 1 ∷ at_moment 1000 ∷ listening) ≡ []
unfolding trace_of setting listening client digits
no_port = refl

-- ---- logins and filters

-- a login whose filter is refused, as its port has none
login_and_filter : journal_of setting (at_moment 1000 ∷ says 1 (codes "user N0CALL pass 13024 vers t 1 filter b/K1") ∷ opens 0 1 ∷ at_moment 1000 ∷ listening)
    ≡ step 1000 (codes "open 1 0") ∷ step 1000 (codes "login 1 N0CALL unverified") ∷ refused 1000 (codes "refused 1 filter") ∷ []
unfolding trace_of setting listening client crlf digits login_of passcode_of
login_and_filter = refl

no_login : journal_of setting (at_moment 1000 ∷ says 1 (codes "user N0CALL") ∷ opens 0 1 ∷ at_moment 1000 ∷ listening)
    ≡ step 1000 (codes "open 1 0") ∷ refused 1000 (codes "refused 1 no-pass") ∷ []
unfolding trace_of setting listening client crlf digits login_of
no_login = refl

-- ---- packets

-- a repeated packet, and one whose second element is none
packets : journal_of setting (at_moment 1000 ∷ says 1 (codes "N0CALL>APRS,WIDE1-1,:>hi") ∷ says 1 (codes "N0CALL>APRS:>hi") ∷ two_clients)
    ≡ step 1000 (codes "open 1 0") ∷ step 1000 (codes "open 2 0") ∷ step 1000 (codes "login 1 N0CALL verified") ∷ step 1000 (codes "login 2 K1ABC verified")
    ∷ refused 1000 (codes "refused 1 duplicate") ∷ refused 1000 (codes "refused 1 bad-via 2") ∷ []
unfolding trace_of setting two_clients listening client crlf digits parts_of text_of via_of head_of login_of passcode_of process_of given_drops built_drops built_row rows body_of
packets = refl

-- ---- other servers

dialling : History
dialling = did.Dialled 0 ∷ at_moment 1000 ∷ listening

-- an uplink joins, and sends back what this server has sent
looped : journal_of setting (at_moment 1000 ∷ says 1 (codes "K1ABC>APRS,qAR,GATE,T2TEST:>x") ∷ did.Event (event.Joined 0 1 uplink) ∷ dialling)
    ≡ step 1000 (codes "join 1 0") ∷ loop 1000 (codes "loop 1 names-server") ∷ []
unfolding trace_of setting dialling listening crlf digits parts_of text_of via_of head_of process_of given_drops built_drops built_row rows
looped = refl

-- a dial that comes to nothing, and one that nobody made
unjoined : journal_of setting (at_moment 1001 ∷ did.Event (event.Unjoined 0) ∷ did.Event (event.Unjoined 0) ∷ dialling) ≡ step 1000 (codes "unjoined 0") ∷ []
unfolding trace_of setting dialling listening digits
unjoined = refl

-- nobody had asked for the link: another uplink is being dialled
unasked : journal_of setting (at_moment 1001 ∷ did.Event (event.Joined 1 1 uplink) ∷ dialling)
    ≡ step 1000 (codes "join 1 1") ∷ step 1001 (codes "end 1 unasked") ∷ []
unfolding trace_of setting dialling listening digits
unasked = refl

-- ---- datagrams

-- a datagram whose login isn't verified is refused once, and a good one gives no line
submission : journal_of setting (at_moment 1000 ∷ submits 2 (codes "user N0CALL pass 13023 vers t 1" ++ crlf ++ codes "N0CALL>APRS:>hi") ∷ submits 2 (codes "user N0CALL pass 13024 vers t 1" ++ crlf ++ codes "N0CALL>APRS:>hi") ∷ at_moment 1000 ∷ listening)
    ≡ refused 1000 (codes "refused u2 unverified") ∷ []
unfolding trace_of setting listening client crlf digits parts_of text_of via_of head_of login_of passcode_of process_of given_drops built_drops built_row rows body_of
submission = refl

-- one that isn't a peer's, and a line of a peer's that is no packet
stranger : journal_of setting (at_moment 1000 ∷ submits 3 (codes "K1ABC>APRS:>x") ∷ at_moment 1000 ∷ listening) ≡ refused 1000 (codes "refused u3 stranger") ∷ []
unfolding trace_of setting listening client digits
stranger = refl

from_a_peer : journal_of setting (at_moment 1000 ∷ did.Event (event.Datagram 3 (record { ip = 10 ∷ 0 ∷ 0 ∷ 8 ∷ []; port = 9000 }) (codes "K1ABC")) ∷ at_moment 1000 ∷ listening)
    ≡ refused 1000 (codes "refused u3 no-colon") ∷ []
unfolding trace_of setting listening digits parts_of
from_a_peer = refl
