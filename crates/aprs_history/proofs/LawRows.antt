-- Small histories, and what the laws of every history say of them.
use Rattle.std.specs.Fmt.{digits}
use Rattle.std.proofs.Common.{◌≡◌, ℕ, List, [], ◌∷◌, ◌++◌, codes, map, false, refl, arith, Some, Ok, None}
use Rattle.aprs_base.specs.Cuts.{cuts_of}
use Rattle.aprs_base.specs.PacketSeen.{PacketSeen}
use Rattle.aprs_base.specs.declared.cutting.Cut.TheVariants as cut
use Rattle.aprs_base.specs.declared.events.Event.TheVariants as event
use Rattle.aprs_base.specs.declared.events.Happening.TheVariants as did
use Rattle.aprs_base.specs.declared.packets.PortKind.TheVariants as kind
use Rattle.aprs_body.specs.Bodies.{body_of}
use Rattle.link_queue.specs.Lines.{text_bytes}
use Rattle.login_pass.specs.Login.{login_of}
use Rattle.login_pass.specs.Passcode.{passcode_of}
use Rattle.q_construct.specs.Rule.{process_of, given_drops, built_drops, built_row, rows}
use Rattle.tnc2_line.specs.Packet.{parts_of, text_of, via_of, head_of}
use Rattle.aprs_history.specs.Setting.{Setting}
use Rattle.aprs_history.specs.Links.{brought_by}
use Rattle.aprs_history.specs.Scenes.{accepted_of}
use Rattle.aprs_history.specs.History.{History, trace_of}
use Rattle.aprs_history.specs.Texts.{uplink_login}
use Rattle.aprs_history.specs.Counts.{counted, is_duplicate}
use Rattle.aprs_history.specs.Arriving.{NoneCameEarly, came_to, said_on}
use Rattle.aprs_history.specs.Sound.{IsSound, JoinsHaveAddresses, is_address}
use Rattle.aprs_history.proofs.Rows.{client, crlf, listen, server_on}

setting : Setting
setting = server_on (listen kind.Full 10152 ∷ [])

-- ---- lines arrive

two_lines : List (List ℕ)
two_lines = codes "ab" ∷ codes "c" ∷ []

-- the first of them is there with its CR, before its LF comes
cut_within_an_end : text_bytes two_lines ≡ (codes "ab" ++ 13 ∷ []) ++ (10 ∷ (codes "c" ++ crlf))
unfolding two_lines crlf
cut_within_an_end = refl

come_before_its_end : cuts_of (codes "ab" ++ 13 ∷ []) ≡ cut.Line (codes "ab") ∷ []
come_before_its_end = refl

-- a client logs in and sends a packet twice, the second time as the window has passed; its bytes are cut within a line end
heard : History
heard =
    did.Event (event.Bytes 1 (codes "N0CALL>APRS:>hi" ++ crlf))
    ∷ did.Event (event.Tick 1030)
    ∷ did.Event (event.Bytes 1 (10 ∷ (codes "N0CALL>APRS:>hi" ++ crlf)))
    ∷ did.Event (event.Bytes 1 (codes "user N0CALL pass 13023" ++ 13 ∷ []))
    ∷ did.Event (event.Opened 0 1 client)
    ∷ did.Event (event.Tick 1000)
    ∷ did.Listen 0
    ∷ []

said_in_order : said_on (trace_of setting heard) 1 ≡ cut.Line (codes "user N0CALL pass 13023") ∷ cut.Line (codes "N0CALL>APRS:>hi") ∷ cut.Line (codes "N0CALL>APRS:>hi") ∷ []
unfolding trace_of setting heard client crlf parts_of text_of via_of head_of login_of passcode_of process_of given_drops built_drops built_row rows body_of
said_in_order = refl

abbrev moment_at : PacketSeen → ℕ
moment_at packet = packet.moment

-- both are accepted, just a window apart
accepted_twice : map moment_at (accepted_of (trace_of setting heard)) ≡ 1000 ∷ 1030 ∷ []
unfolding trace_of setting heard client crlf parts_of text_of via_of head_of login_of passcode_of process_of given_drops built_drops built_row rows body_of
accepted_twice = refl

-- a third one comes too early: it is refused, and what was accepted is as it was
repeated : History
repeated = did.Event (event.Bytes 1 (codes "N0CALL>APRS:>hi" ++ crlf)) ∷ heard

refused_once : counted is_duplicate (trace_of setting repeated) ≡ 1
unfolding trace_of setting repeated heard client crlf parts_of text_of via_of head_of login_of passcode_of process_of given_drops built_drops built_row rows body_of
refused_once = refl

accepted_as_before : map moment_at (accepted_of (trace_of setting repeated)) ≡ 1000 ∷ 1030 ∷ []
unfolding trace_of setting repeated heard client crlf parts_of text_of via_of head_of login_of passcode_of process_of given_drops built_drops built_row rows body_of
accepted_as_before = refl

-- what comes once a link has ended isn't brought
ended_between : History
ended_between = did.Event (event.Bytes 1 (codes "b")) ∷ did.Event (event.Ended 1) ∷ did.Event (event.Bytes 1 (codes "a")) ∷ did.Event (event.Opened 0 1 client) ∷ []

none_came_early : NoneCameEarly ended_between 1
unfolding ended_between
none_came_early = ((((tt, λ e. refl), λ e. absurd cc), λ e. absurd cc), λ e. absurd cc)

came_in_all : came_to ended_between 1 ≡ codes "ab"
unfolding ended_between
came_in_all = refl

brought_before_its_end : brought_by (trace_of setting ended_between) 1 ≡ codes "a"
unfolding trace_of setting ended_between client
brought_before_its_end = refl

-- ---- what is sound

is_sound : IsSound setting
unfolding setting
is_sound = record { server = refl; code = omega arith; peers = λ number peer there. absurd cc }

joins_have_addresses : JoinsHaveAddresses (did.Event (event.Joined 0 1 client) ∷ [])
unfolding client
joins_have_addresses = (tt, refl)

three_bytes : is_address (record { ip = 10 ∷ 0 ∷ 0 ∷ []; port = 4000 }) ≡ false
three_bytes = refl

-- ---- the login at an uplink

login_is_read : login_of (uplink_login setting) ≡ Ok (record { call = codes "T2TEST"; code = Some 8385; filter = None })
unfolding setting login_of digits
login_is_read = refl

code_is_passcode : passcode_of (codes "T2TEST") ≡ 8385
unfolding passcode_of
code_is_passcode = refl
