-- A run with a downlink, as the wire shows it, and what is told and counted of it.
use Rattle.std.proofs.Common.{◌≡◌, ℕ, List, [], ◌∷◌, ◌++◌, codes, refl, arith}
use Rattle.aprs_base.specs.declared.events.Happening.TheVariants as did
use Rattle.aprs_base.specs.declared.events.Sent.TheVariants as sent
use Rattle.aprs_base.specs.declared.packets.PortKind.TheVariants as port
use Rattle.login_pass.specs.Downlinks.{downlink_of}
use Rattle.login_pass.specs.Login.{login_of}
use Rattle.login_pass.specs.Passcode.{passcode_of}
use Rattle.aprs_history.specs.Setting.{Setting}
use Rattle.aprs_history.specs.History.{History, trace_of}
use Rattle.aprs_history.specs.Acts.{IsRun, due}
use Rattle.aprs_history.specs.Runs.{told_after}
use Rattle.aprs_history.proofs.EndingRows.{at_moment}
use Rattle.aprs_history.proofs.JournalRows.{opens, says}
use Rattle.aprs_history.proofs.Rows.{client, crlf, listen, server_on}
use Rattle.status_page.specs.Counting.{counts_after, no_counts}
use Rattle.aprs_history.specs.Wired.{on_wire}

-- clients come to listener 0, and lines are cast from listener 1
unfoldable setting : Setting
setting = record (server_on (listen port.Full 10152 ∷ listen port.Submit 10152 ∷ [])) { downs = port.Full ∷ [] }

-- its lines go by datagram from the login on
unfoldable logged_in : History
logged_in =
    at_moment 1001
    ∷ says 1 (codes "user K1ABC pass 14993 vers t 1 UDP 9001")
    ∷ did.Sent 1 (codes "# aprsc 1.0" ++ crlf) (sent.Took 13)
    ∷ at_moment 1000
    ∷ opens 0 1
    ∷ at_moment 1000
    ∷ did.Listen 1
    ∷ did.Listen 0
    ∷ []

unfoldable answer : List ℕ
answer = codes "# logresp K1ABC verified, server T2TEST" ++ crlf

-- the server sends the answer to the login, and the link takes it
unfoldable answered : History
answered = did.Sent 1 answer (sent.Took 41) ∷ logged_in

is_run : IsRun setting answered
unfolding due trace_of setting answered answer logged_in client crlf login_of passcode_of downlink_of
is_run = (((((((((tt, refl), refl), (refl, tt)), (refl, tt)), (refl, tt)), (refl, refl, omega arith)), (refl, tt)), (refl, tt)), (refl, refl, refl))

-- the wire casts it, to the first number that no peer has
shown : on_wire setting answered ≡ did.Cast 256 answer ∷ logged_in
unfolding trace_of setting answered answer logged_in client crlf login_of passcode_of downlink_of
shown = refl

-- to the address that the link came from, with the port that it asked for
told : (told_after setting setting (record { done = []; listened = []; dialled = []; cast_to = [] }) (did.Cast 256 answer ∷ logged_in) answered).cast_to ≡ record { ip = 10 ∷ 0 ∷ 0 ∷ 7 ∷ []; port = 9001 } ∷ []
unfolding trace_of setting answered answer logged_in client crlf login_of passcode_of downlink_of
told = refl

-- it is counted as a datagram, and not with the bytes that links took
counted : counts_after no_counts (on_wire setting answered) ≡ record { opened = 1; joined = 0; received = 41; datagrams = 0; taken = 13; casts = 1 }
unfolding trace_of setting answered answer logged_in client crlf login_of passcode_of downlink_of
counted = refl
