-- Small histories with messages, and what the definitions say of them.
use Rattle.std.proofs.Common.{◌≡◌, refl, ℕ, List, [], ◌∷◌, ◌++◌, codes}
use Rattle.aprs_base.specs.declared.packets.PortKind.TheVariants as kind
use Rattle.aprs_base.specs.declared.events.Event.TheVariants as event
use Rattle.aprs_base.specs.declared.events.Happening.{Happening}
use Rattle.aprs_base.specs.declared.events.Happening.TheVariants as did
use Rattle.aprs_body.specs.Bodies.{body_of}
use Rattle.aprs_position.specs.Either.{either_place}
use Rattle.aprs_position.specs.Plain.{mark_after, plain_place, written_of}
use Rattle.aprs_position.specs.Written.{finest, place_with}
use Rattle.filter_eval.specs.Passes.{fits, passes_of}
use Rattle.login_pass.specs.Login.{login_of}
use Rattle.login_pass.specs.Passcode.{passcode_of}
use Rattle.q_construct.specs.Rule.{process_of, given_drops, built_drops, built_row, rows}
use Rattle.tnc2_line.specs.Packet.{parts_of, text_of, via_of, head_of}
use Rattle.aprs_history.specs.Setting.{Setting}
use Rattle.aprs_history.specs.History.{History, trace_of}
use Rattle.aprs_history.specs.Texts.{banner}
use Rattle.aprs_history.proofs.Rows.{client, listen, server_on, told_in}

setting : Setting
setting = server_on (listen kind.Full 10152 ∷ listen kind.Igate 14580 ∷ [])

abbrev said : ℕ → List ℕ → Happening
said link line = did.Event (event.Bytes link (line ++ 13 ∷ 10 ∷ []))

abbrev at_moment : ℕ → Happening
at_moment moment = did.Event (event.Tick moment)

-- K1XYZ is a gate without a filter, and has heard K1ABC; OH7LZB is on a full port
heard : History
heard =
    said 1 (codes "K1ABC>APRS,K1XYZ,I:>x")
    ∷ said 2 (codes "user OH7LZB pass 20900")
    ∷ said 1 (codes "user K1XYZ pass 14986")
    ∷ did.Event (event.Opened 0 2 client)
    ∷ did.Event (event.Opened 1 1 client)
    ∷ at_moment 1000
    ∷ did.Listen 1 ∷ did.Listen 0 ∷ []

greeted : List (List ℕ)
greeted = banner ∷ codes "# logresp K1XYZ verified, server T2TEST" ∷ []

hello : History
hello = said 2 (codes "OH7LZB>APRS::K1ABC    :hello") ∷ at_moment 11800 ∷ heard

told : List (List ℕ)
told = codes "OH7LZB>APRS,TCPIP*,qAC,T2TEST::K1ABC    :hello" ∷ []

placed : List (List ℕ)
placed = codes "OH7LZB>APRS,TCPIP*,qAC,T2TEST:!4903.50N/07201.75W-" ∷ []

-- a message to a station that was heard three hours before goes to the link, and a second later it doesn't
message_to_heard : told_in setting hello 1 ≡ greeted ++ told
unfolding trace_of setting hello heard greeted told client parts_of text_of via_of head_of login_of passcode_of process_of given_drops built_drops built_row rows body_of either_place plain_place written_of mark_after finest place_with fits passes_of
message_to_heard = refl

message_too_late : told_in setting (said 2 (codes "OH7LZB>APRS::K1ABC    :hello") ∷ at_moment 11801 ∷ heard) 1 ≡ greeted
unfolding trace_of setting heard greeted client parts_of text_of via_of head_of login_of passcode_of process_of given_drops built_drops built_row rows body_of either_place plain_place written_of mark_after finest place_with fits passes_of
message_too_late = refl

-- the sender's next position goes along half an hour later, and no other
next_position : told_in setting (said 2 (codes "OH7LZB>APRS:!4903.50N/07201.76W-") ∷ said 2 (codes "OH7LZB>APRS:!4903.50N/07201.75W-") ∷ at_moment 13600 ∷ hello) 1
    ≡ greeted ++ told ++ placed
unfolding trace_of setting hello heard greeted told placed client parts_of text_of via_of head_of login_of passcode_of process_of given_drops built_drops built_row rows body_of either_place plain_place written_of mark_after finest place_with fits passes_of
next_position = refl

position_too_late : told_in setting (said 2 (codes "OH7LZB>APRS:!4903.50N/07201.75W-") ∷ at_moment 13601 ∷ hello) 1 ≡ greeted ++ told
unfolding trace_of setting hello heard greeted told client parts_of text_of via_of head_of login_of passcode_of process_of given_drops built_drops built_row rows body_of either_place plain_place written_of mark_after finest place_with fits passes_of
position_too_late = refl

-- a message to the link's own login goes there, and its sender's next position doesn't
message_to_login : told_in setting (said 2 (codes "OH7LZB>APRS:!4903.50N/07201.75W-") ∷ said 2 (codes "OH7LZB>APRS::K1XYZ    :hello") ∷ heard) 1
    ≡ greeted ++ codes "OH7LZB>APRS,TCPIP*,qAC,T2TEST::K1XYZ    :hello" ∷ []
unfolding trace_of setting heard greeted client parts_of text_of via_of head_of login_of passcode_of process_of given_drops built_drops built_row rows body_of either_place plain_place written_of mark_after finest place_with fits passes_of
message_to_login = refl

-- nothing is kept for a link that has ended
position_after_the_end : told_in setting (said 2 (codes "OH7LZB>APRS:!4903.50N/07201.75W-") ∷ at_moment 13600 ∷ did.Event (event.Ended 1) ∷ hello) 1 ≡ greeted ++ told
unfolding trace_of setting hello heard greeted told client parts_of text_of via_of head_of login_of passcode_of process_of given_drops built_drops built_row rows body_of either_place plain_place written_of mark_after finest place_with fits passes_of
position_after_the_end = refl

-- a position of the sender that the link itself brings spends the promise
position_of_the_link : told_in setting (said 2 (codes "OH7LZB>APRS:!4903.50N/07201.75W-") ∷ said 1 (codes "OH7LZB>APRS,K1XYZ,I:!4903.50N/07201.76W-") ∷ hello) 1
    ≡ greeted ++ told
unfolding trace_of setting hello heard greeted told client parts_of text_of via_of head_of login_of passcode_of process_of given_drops built_drops built_row rows body_of either_place plain_place written_of mark_after finest place_with fits passes_of
position_of_the_link = refl

-- after two messages one position goes along, and no second one
again : History
again = said 2 (codes "OH7LZB>APRS::K1ABC    :again") ∷ hello

two_messages : told_in setting (said 2 (codes "OH7LZB>APRS:!4903.50N/07201.76W-") ∷ said 2 (codes "OH7LZB>APRS:!4903.50N/07201.75W-") ∷ again) 1
    ≡ greeted ++ told ++ codes "OH7LZB>APRS,TCPIP*,qAC,T2TEST::K1ABC    :again" ∷ placed
unfolding trace_of setting again hello heard greeted told placed client parts_of text_of via_of head_of login_of passcode_of process_of given_drops built_drops built_row rows body_of either_place plain_place written_of mark_after finest place_with fits passes_of
two_messages = refl
