-- Small histories, and the packets that their links wanted.
use Rattle.std.specs.Fmt.{digits}
use Rattle.std.proofs.Common.{◌≡◌, refl, ℕ, List, [], ◌∷◌, ◌++◌, codes, filter, map}
use Rattle.aprs_base.specs.declared.events.Event.TheVariants as event
use Rattle.aprs_base.specs.declared.events.Happening.TheVariants as did
use Rattle.aprs_base.specs.declared.packets.PortKind.TheVariants as kind
use Rattle.aprs_body.specs.Bodies.{body_of}
use Rattle.login_pass.specs.Login.{login_of}
use Rattle.login_pass.specs.Passcode.{passcode_of}
use Rattle.q_construct.specs.Rule.{process_of, given_drops, built_drops, built_row, rows}
use Rattle.tnc2_line.specs.Packet.{parts_of, text_of, via_of, head_of}
use Rattle.aprs_history.specs.Setting.{Setting}
use Rattle.aprs_history.specs.Trace.{Trace}
use Rattle.aprs_history.specs.Texts.{plain}
use Rattle.aprs_history.specs.History.{History, trace_of}
use Rattle.aprs_history.specs.Wanting.{coming_line, comings_since, is_wanted, until_overfull}
use Rattle.aprs_history.proofs.EndingRows.{at_moment, many}
use Rattle.aprs_history.proofs.JournalRows.{opens, says}
use Rattle.aprs_history.proofs.Rows.{client, crlf, listen, server_on}

-- a full port and one for duplicates
setting : Setting
setting = server_on (listen kind.Full 10152 ∷ listen kind.Dupe 10153 ∷ [])

-- the lines of the packets that a link wanted
abbrev wanted_in : Trace → ℕ → List (List ℕ)
wanted_in trace link = plain (map coming_line (filter (is_wanted link) (comings_since trace link)))

-- the first link sends a packet twice; the second has the full feed, the third is shown duplicates, and the fourth has not logged in
repeated : History
repeated =
    says 1 (codes "N0CALL>APRS:>hi") ∷ says 1 (codes "N0CALL>APRS,WIDE1-1:>hi")
    ∷ says 3 (codes "user K1XYZ pass -1") ∷ says 2 (codes "user K1ABC pass 14993") ∷ says 1 (codes "user N0CALL pass 13023")
    ∷ opens 0 4 ∷ opens 1 3 ∷ opens 0 2 ∷ opens 0 1 ∷ at_moment 1000 ∷ did.Listen 1 ∷ did.Listen 0 ∷ []

wanted_by_each : map (wanted_in (trace_of setting repeated)) (1 ∷ 2 ∷ 3 ∷ 4 ∷ [])
    ≡ [] ∷ (codes "N0CALL>APRS,TCPIP*,qAC,T2TEST:>hi" ∷ []) ∷ (codes "N0CALL>APRS,TCPIP*,qAC,T2TEST:>hi" ∷ []) ∷ [] ∷ []
unfolding trace_of setting repeated client crlf digits parts_of text_of via_of head_of login_of passcode_of process_of given_drops built_drops built_row rows body_of
wanted_by_each = refl

-- two packets of the second link, before and after the first one asks for more replies than may wait
overfull_between : History
overfull_between =
    says 2 (codes "K1ABC>APRS:>two") ∷ did.Event (event.Bytes 1 (many 999 (codes "#filter" ++ crlf))) ∷ says 2 (codes "K1ABC>APRS:>one")
    ∷ says 2 (codes "user K1ABC pass 14993") ∷ says 1 (codes "user N0CALL pass 13023") ∷ opens 0 2 ∷ opens 0 1 ∷ at_moment 1000 ∷ did.Listen 1 ∷ did.Listen 0 ∷ []

-- it wanted both, and one came before it was overfull
wanted_in_all : wanted_in (trace_of setting overfull_between) 1 ≡ codes "K1ABC>APRS,TCPIP*,qAC,T2TEST:>one" ∷ codes "K1ABC>APRS,TCPIP*,qAC,T2TEST:>two" ∷ []
unfolding trace_of setting overfull_between client crlf digits parts_of text_of via_of head_of login_of passcode_of process_of given_drops built_drops built_row rows body_of
wanted_in_all = refl

wanted_before : wanted_in (until_overfull setting (trace_of setting overfull_between) 1) 1 ≡ codes "K1ABC>APRS,TCPIP*,qAC,T2TEST:>one" ∷ []
unfolding trace_of setting overfull_between client crlf digits parts_of text_of via_of head_of login_of passcode_of process_of given_drops built_drops built_row rows body_of
wanted_before = refl
