-- Small histories, and what the definitions say of them.
use Rattle.std.proofs.Common.{◌≡◌, refl, ℕ, List, [], ◌∷◌, ◌++◌, ◌+◌, codes, map, Bool, true, false, Option, Some, None}
use Rattle.std.specs.List.{flat_map}
use Rattle.aprs_base.specs.PacketSeen.{PacketSeen}
use Rattle.aprs_base.specs.declared.packets.ListenSpec.{ListenSpec}
use Rattle.aprs_base.specs.declared.packets.PortKind.{PortKind}
use Rattle.aprs_base.specs.declared.packets.PortKind.TheVariants as kind
use Rattle.aprs_base.specs.declared.packets.Source.TheVariants as source
use Rattle.aprs_base.specs.declared.texts.Addr.{Addr}
use Rattle.aprs_base.specs.declared.events.Event.TheVariants as event
use Rattle.aprs_base.specs.declared.events.Sent.TheVariants as sent
use Rattle.aprs_base.specs.declared.events.Happening.TheVariants as did
use Rattle.aprs_history.specs.Setting.{Setting}
use Rattle.aprs_history.specs.History.{History, trace_of}
use Rattle.aprs_history.specs.Texts.{Comment, LineKind, lines_of, banner, text_to}
use Rattle.aprs_history.specs.Acts.{Offers, Closes, Listens, due}
use Rattle.tnc2_line.specs.Packet.{parts_of, text_of, via_of, head_of}
use Rattle.login_pass.specs.Login.{login_of}
use Rattle.q_construct.specs.Rule.{process_of, given_drops, built_drops, built_row, rows}
use Rattle.q_construct.specs.declared.drops.QDrop.TheVariants as drop_for
use Rattle.aprs_body.specs.Bodies.{body_of}
use Rattle.login_pass.specs.declared.login_line.LoginFault.TheVariants as fault
use Rattle.aprs_base.specs.declared.cutting.Cut.TheVariants as cut
use Rattle.aprs_history.specs.Verdicts.{Scene, Visitor, verdict_of, is_duplicate}
use Rattle.aprs_history.specs.Scenes.{accepted_by, accepted_of, scene_of}
use Rattle.aprs_history.specs.declared.verdicts.Verdict.{Verdict}
use Rattle.aprs_history.specs.declared.verdicts.Verdict.TheVariants.{PassedOver, Refused, LoggedIn, Filtered, Accepted}
use Rattle.aprs_history.specs.declared.verdicts.Refusal.TheVariants as refusal
use Rattle.login_pass.specs.Passcode.{passcode_of}

-- a server with these listeners, and else with the values that a configuration has where it says nothing
abbrev pub server_on : List ListenSpec → Setting
server_on listens = record {
  server = codes "T2TEST";
  code = 8385;
  listens = listens;
  downs = [];
  uplinks = [];
  peers = [];
  up_timeout = 15;
  client_timeout = 172800;
  max_clients = 500;
  window = 30;
}

abbrev pub listen : PortKind → ℕ → ListenSpec
listen kind port = record { kind = kind; at = record { ip = 0 ∷ 0 ∷ 0 ∷ 0 ∷ []; port = port } }

setting : Setting
setting = server_on (listen kind.Full 10152 ∷ [])

unfoldable pub crlf : List ℕ
crlf = 13 ∷ 10 ∷ []

unfoldable pub client : Addr
client = record { ip = 10 ∷ 0 ∷ 0 ∷ 7 ∷ []; port = 4000 }

-- what a link is told beside the date
abbrev told_beside : LineKind → List ℕ → List (List ℕ)
told_beside Comment line = []
told_beside kind line = line ∷ []

abbrev pub told_in : Setting → History → ℕ → List (List ℕ)
told_in setting history link = flat_map (λ text. told_beside text.kind text.line) (text_to setting (trace_of setting history) link).lines

listening : History
listening = did.Listen 0 ∷ []

two_serving : History
two_serving =
    did.Event (event.Bytes 1 (codes "N0CALL>APRS,WIDE1-1:>hi" ++ crlf))
    ∷ did.Event (event.Bytes 2 (codes "user K1ABC pass 14993 vers t 1" ++ crlf))
    ∷ did.Event (event.Bytes 1 (codes "user N0CALL pass 13023 vers t 1" ++ crlf))
    ∷ did.Event (event.Opened 0 2 client)
    ∷ did.Event (event.Opened 0 1 client)
    ∷ did.Event (event.Tick 1000)
    ∷ listening

two_clients : History
two_clients = did.Event event.Stop ∷ two_serving

first_due : due setting [] ≡ Listens 0 ∷ []
unfolding due setting
first_due = refl

text_of_second : lines_of setting (trace_of setting two_clients) 2
    ≡ banner ∷ codes "# logresp K1ABC verified, server T2TEST" ∷ codes "N0CALL>APRS,TCPIP*,qAC,T2TEST:>hi" ∷ []
unfolding trace_of setting two_clients two_serving listening client crlf parts_of text_of via_of head_of login_of passcode_of process_of given_drops built_drops built_row rows body_of
text_of_second = refl

-- at a stop each link is offered its whole text and is closed
due_at_stop : due setting two_clients
    ≡ Offers 1 (codes "# aprsc 1.0" ++ crlf ++ codes "# logresp N0CALL verified, server T2TEST" ++ crlf)
    ∷ Offers 2 (codes "# aprsc 1.0" ++ crlf ++ codes "# logresp K1ABC verified, server T2TEST" ++ crlf ++ codes "N0CALL>APRS,TCPIP*,qAC,T2TEST:>hi" ++ crlf)
    ∷ Closes 1 ∷ Closes 2 ∷ []
unfolding due trace_of setting two_clients two_serving listening client crlf parts_of text_of via_of head_of login_of passcode_of process_of given_drops built_drops built_row rows body_of
due_at_stop = refl

-- a part is taken, and the link is blocked until it has room
one_client : History
one_client = did.Event (event.Tick 1001) ∷ did.Event (event.Opened 0 1 client) ∷ did.Event (event.Tick 1000) ∷ listening

offered_whole : due setting one_client ≡ Offers 1 (codes "# aprsc 1.0" ++ crlf) ∷ []
unfolding due trace_of setting one_client listening client crlf
offered_whole = refl

took_five : History
took_five = did.Event (event.Tick 1002) ∷ did.Sent 1 (codes "# aprsc 1.0" ++ crlf) (sent.Took 5) ∷ one_client

offered_nothing : due setting took_five ≡ []
unfolding due trace_of setting took_five one_client listening client crlf
offered_nothing = refl

offered_rest : due setting (did.Event (event.Tick 1003) ∷ did.Event (event.Room 1) ∷ took_five) ≡ Offers 1 (codes "sc 1.0" ++ crlf) ∷ []
unfolding due trace_of setting took_five one_client listening client crlf
offered_rest = refl

-- a link that a send found gone ends as the next round begins, and isn't closed
offered_gone : due setting (did.Event (event.Tick 1002) ∷ did.Sent 1 (codes "# aprsc 1.0" ++ crlf) sent.Gone ∷ one_client) ≡ []
unfolding due trace_of setting one_client listening client crlf
offered_gone = refl

-- bytes of a link, each as an event of its own
abbrev bytes_one_by_one : ℕ → List ℕ → History → History
bytes_one_by_one link [] history = history
bytes_one_by_one link (b ∷ bytes) history = bytes_one_by_one link bytes (did.Event (event.Bytes link (b ∷ [])) ∷ history)

two_slow_clients : History
two_slow_clients =
    did.Event event.Stop
    ∷ bytes_one_by_one 1 (codes "N0CALL>APRS,WIDE1-1:>hi" ++ crlf) (
    bytes_one_by_one 2 (codes "user K1ABC pass 14993 vers t 1" ++ crlf) (
    bytes_one_by_one 1 (codes "user N0CALL pass 13023 vers t 1" ++ crlf) (
    did.Event (event.Opened 0 2 client)
    ∷ did.Event (event.Opened 0 1 client)
    ∷ did.Event (event.Tick 1000)
    ∷ listening)))

same_when_slow : due setting two_slow_clients ≡ due setting two_clients
unfolding due trace_of setting two_clients two_serving two_slow_clients listening client crlf parts_of text_of via_of head_of login_of passcode_of process_of given_drops built_drops built_row rows body_of
same_when_slow = refl

-- ---- single lines

-- a client of a port that has logged in, and one that hasn't
abbrev pub link_of : List ℕ → Bool → PortKind → List (List ℕ) → Scene
link_of login verified port others = record {
  server = codes "T2TEST";
  speaker = Visitor port (Some (record { call = login; verified = verified }));
  others = others;
  copies = is_duplicate 30 1000 [];
}

abbrev pub stranger_on : PortKind → Scene
stranger_on port = record { server = codes "T2TEST"; speaker = Visitor port None; others = []; copies = is_duplicate 30 1000 [] }

abbrev pub stranger : Scene
stranger = stranger_on kind.Full

abbrev pub verdict_on : Scene → List ℕ → Verdict
verdict_on scene text = verdict_of scene (cut.Line text)

-- the line of a packet that is accepted
abbrev sent_on : Verdict → Option (List ℕ)
sent_on PassedOver = None
sent_on (Refused why) = None
sent_on (LoggedIn session answer) = None
sent_on (Filtered answer) = None
sent_on (Accepted parts line) = Some line

logged_in : verdict_on stranger (codes "user N0CALL pass 13023 vers t 1") ≡ LoggedIn (record { call = codes "N0CALL"; verified = true }) None
unfolding login_of passcode_of
logged_in = refl

other_code : verdict_on stranger (codes "user N0CALL pass 13024 vers t 1") ≡ LoggedIn (record { call = codes "N0CALL"; verified = false }) None
unfolding login_of passcode_of
other_code = refl

no_code : verdict_on stranger (codes "USER N0CALL PASS -1") ≡ LoggedIn (record { call = codes "N0CALL"; verified = false }) None
unfolding login_of passcode_of
no_code = refl

no_pass : verdict_on stranger (codes "user N0CALL") ≡ Refused (refusal.Login fault.NoPass)
unfolding login_of
no_pass = refl

own_name : verdict_on stranger (codes "user T2TEST pass 8385") ≡ Refused refusal.OwnName
unfolding login_of passcode_of
own_name = refl

unverified_own : sent_on (verdict_on (link_of (codes "N0CALL") false kind.Full []) (codes "N0CALL>APRS,WIDE1-1:>hi")) ≡ Some (codes "N0CALL>APRS,TCPXX*,qAX,T2TEST:>hi")
unfolding parts_of text_of via_of head_of process_of given_drops built_drops built_row rows
unverified_own = refl

unverified_other : verdict_on (link_of (codes "N0CALL") false kind.Full []) (codes "K1XYZ>APRS:>hi") ≡ Refused (refusal.Path drop_for.Unverified)
unfolding parts_of text_of via_of head_of process_of given_drops built_drops built_row rows
unverified_other = refl

received : sent_on (verdict_on (link_of (codes "OH7LZB") true kind.Full []) (codes "K1ABC>APRS,DIG*,OH7LZB,I:>x")) ≡ Some (codes "K1ABC>APRS,DIG*,qAR,OH7LZB:>x")
unfolding parts_of text_of via_of head_of process_of given_drops built_drops built_row rows
received = refl

received_by_another : sent_on (verdict_on (link_of (codes "K1XYZ") true kind.Full []) (codes "K1ABC>APRS,DIG*,OH7LZB,I:>x")) ≡ Some (codes "K1ABC>APRS,DIG*,qAr,OH7LZB:>x")
unfolding parts_of text_of via_of head_of process_of given_drops built_drops built_row rows
received_by_another = refl

other_is_here : verdict_on (link_of (codes "K1XYZ") true kind.Full (codes "OH7LZB" ∷ [])) (codes "K1ABC>APRS,DIG*,OH7LZB,I:>x") ≡ Refused (refusal.Path (drop_for.OtherLogin (codes "OH7LZB")))
unfolding parts_of text_of via_of head_of process_of given_drops built_drops built_row rows
other_is_here = refl

on_a_client_port : sent_on (verdict_on (link_of (codes "OH7LZB") true kind.Only []) (codes "K1ABC>APRS,DIG*,OH7LZB,I:>x")) ≡ Some (codes "K1ABC>APRS,DIG*,qAo,OH7LZB:>x")
unfolding parts_of text_of via_of head_of process_of given_drops built_drops built_row rows
on_a_client_port = refl

without_a_gate : sent_on (verdict_on (link_of (codes "OH7LZB") true kind.Only []) (codes "K1ABC>APRS,DIG*:>x")) ≡ Some (codes "K1ABC>APRS,DIG*,qAO,OH7LZB:>x")
unfolding parts_of text_of via_of head_of process_of given_drops built_drops built_row rows
without_a_gate = refl

on_a_full_port : sent_on (verdict_on (link_of (codes "OH7LZB") true kind.Full []) (codes "K1ABC>APRS,DIG*:>x")) ≡ Some (codes "K1ABC>APRS,DIG*,qAS,OH7LZB:>x")
unfolding parts_of text_of via_of head_of process_of given_drops built_drops built_row rows
on_a_full_port = refl

-- ---- duplicates

-- the line of a packet that was accepted before, as it would be sent on
abbrev shown_again : Verdict → Option (List ℕ)
shown_again (Refused (refusal.Duplicate parts line)) = Some line
shown_again verdict = None

-- the verdict on a line, some seconds after the packet of the same link was accepted
abbrev later_within : (window seconds : ℕ) → List ℕ → Verdict
later_within window seconds text =
    let first = link_of (codes "N0CALL") true kind.Full [] in
    verdict_on (record first { copies = is_duplicate window (1000 + seconds) (accepted_by (source.Link 1) 1000 (verdict_on first (codes "N0CALL>APRS,WIDE1-1:>hi"))) }) text

abbrev later_on : ℕ → List ℕ → Verdict
later_on seconds text = later_within 30 seconds text

again_by_another_path : shown_again (later_on 5 (codes "N0CALL>APRS,WIDE2-2:>hi")) ≡ Some (codes "N0CALL>APRS,TCPIP*,qAC,T2TEST:>hi")
unfolding parts_of text_of via_of head_of process_of given_drops built_drops built_row rows
again_by_another_path = refl

again_after_29_seconds : shown_again (later_on 29 (codes "N0CALL>APRS,WIDE1-1:>hi")) ≡ Some (codes "N0CALL>APRS,TCPIP*,qAC,T2TEST:>hi")
unfolding parts_of text_of via_of head_of process_of given_drops built_drops built_row rows
again_after_29_seconds = refl

again_after_30_seconds : sent_on (later_on 30 (codes "N0CALL>APRS,WIDE1-1:>hi")) ≡ Some (codes "N0CALL>APRS,TCPIP*,qAC,T2TEST:>hi")
unfolding parts_of text_of via_of head_of process_of given_drops built_drops built_row rows
again_after_30_seconds = refl

-- a window of a minute
again_after_59_seconds : shown_again (later_within 60 59 (codes "N0CALL>APRS,WIDE1-1:>hi")) ≡ Some (codes "N0CALL>APRS,TCPIP*,qAC,T2TEST:>hi")
unfolding parts_of text_of via_of head_of process_of given_drops built_drops built_row rows
again_after_59_seconds = refl

again_after_a_minute : sent_on (later_within 60 60 (codes "N0CALL>APRS,WIDE1-1:>hi")) ≡ Some (codes "N0CALL>APRS,TCPIP*,qAC,T2TEST:>hi")
unfolding parts_of text_of via_of head_of process_of given_drops built_drops built_row rows
again_after_a_minute = refl

again_with_an_ssid : shown_again (later_on 5 (codes "N0CALL>APRS-4,WIDE1-1:>hi")) ≡ Some (codes "N0CALL>APRS-4,TCPIP*,qAC,T2TEST:>hi")
unfolding parts_of text_of via_of head_of process_of given_drops built_drops built_row rows
again_with_an_ssid = refl

again_with_blanks : shown_again (later_on 5 (codes "N0CALL>APRS,WIDE1-1:>hi  ")) ≡ Some (codes "N0CALL>APRS,TCPIP*,qAC,T2TEST:>hi  ")
unfolding parts_of text_of via_of head_of process_of given_drops built_drops built_row rows
again_with_blanks = refl

-- ---- what a line meets in a history

-- each link meets the login of the other, and the packet that was accepted, with its body's class
others_of_first : (scene_of setting (trace_of setting two_serving) 1).others ≡ codes "K1ABC" ∷ []
unfolding trace_of setting two_clients two_serving listening client crlf parts_of text_of via_of head_of login_of passcode_of process_of given_drops built_drops built_row rows body_of
others_of_first = refl

abbrev seen : List PacketSeen → List (ℕ × ℕ × List ℕ)
seen packets = map (λ packet. (packet.moment, packet.body.class, packet.line)) packets

accepted_in_order : seen (accepted_of (trace_of setting two_serving)) ≡ (1000, 32, codes "N0CALL>APRS,TCPIP*,qAC,T2TEST:>hi") ∷ []
unfolding trace_of setting two_clients two_serving listening client crlf parts_of text_of via_of head_of login_of passcode_of process_of given_drops built_drops built_row rows body_of
accepted_in_order = refl
