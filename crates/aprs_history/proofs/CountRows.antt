-- Small histories, and what they count.
use Rattle.std.proofs.Common.{◌≡◌, refl, ◌∷◌, [], codes}
use Rattle.std.specs.Fmt.{digits}
use Rattle.aprs_base.specs.declared.packets.PortKind.TheVariants as port
use Rattle.aprs_body.specs.Bodies.{body_of}
use Rattle.login_pass.specs.Login.{login_of}
use Rattle.login_pass.specs.Passcode.{passcode_of}
use Rattle.q_construct.specs.Rule.{process_of, given_drops, built_drops, built_row, rows}
use Rattle.tnc2_line.specs.Packet.{parts_of, text_of, via_of, head_of}
use Rattle.aprs_history.specs.Setting.{Setting}
use Rattle.aprs_history.specs.History.{trace_of}
use Rattle.aprs_history.specs.Counts.{totals_of}
use Rattle.aprs_history.proofs.EndingRows.{at_moment}
use Rattle.aprs_history.proofs.JournalRows.{listening, opens, says, setting, two_clients}
use Rattle.aprs_history.proofs.Rows.{client, crlf, listen}

-- a packet that one other link is sent
sent_on : totals_of setting (trace_of setting two_clients) ≡ record { accepted = 1; duplicate = 0; refused = 0; queued = 1 }
unfolding totals_of trace_of setting two_clients listening client crlf digits parts_of text_of via_of head_of login_of passcode_of process_of given_drops built_drops built_row rows body_of
sent_on = refl

-- a packet said again, one whose second element is none, and a filter at a port that has none
refused : totals_of setting (trace_of setting (says 2 (codes "#filter b/K1") ∷ says 1 (codes "N0CALL>APRS,WIDE1-1,:>hi") ∷ says 1 (codes "N0CALL>APRS:>hi") ∷ two_clients))
    ≡ record { accepted = 1; duplicate = 1; refused = 2; queued = 1 }
unfolding totals_of trace_of setting two_clients listening client crlf digits parts_of text_of via_of head_of login_of passcode_of process_of given_drops built_drops built_row rows body_of
refused = refl

-- a duplicate is put into the texts of those that are shown such
with_dupes : Setting
with_dupes = record setting { listens = listen port.Full 10152 ∷ listen port.Dupe 10153 ∷ [] }

shown : totals_of with_dupes (trace_of with_dupes (
    says 1 (codes "N0CALL>APRS:>hi") ∷ says 1 (codes "N0CALL>APRS,WIDE1-1:>hi") ∷ says 2 (codes "user K1ABC pass 14993 vers t 1") ∷ says 1 (codes "user N0CALL pass 13023 vers t 1")
    ∷ opens 1 2 ∷ opens 0 1 ∷ at_moment 1000 ∷ listening))
    ≡ record { accepted = 1; duplicate = 1; refused = 0; queued = 1 }
unfolding totals_of trace_of with_dupes setting listening client crlf digits parts_of text_of via_of head_of login_of passcode_of process_of given_drops built_drops built_row rows body_of
shown = refl
