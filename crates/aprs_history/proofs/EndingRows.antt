-- Small histories with endings and comment lines, and what the definitions say of them.
use Rattle.std.proofs.Common.{◌≡◌, refl, ℕ, zero, suc, Bool, true, false, List, [], ◌∷◌, ◌++◌, codes}
use Rattle.aprs_base.specs.declared.events.Event.TheVariants as event
use Rattle.aprs_base.specs.declared.events.Happening.{Happening}
use Rattle.aprs_base.specs.declared.events.Happening.TheVariants as did
use Rattle.aprs_base.specs.declared.packets.PortKind.TheVariants as kind
use Rattle.aprs_body.specs.Bodies.{body_of}
use Rattle.login_pass.specs.Login.{login_of}
use Rattle.login_pass.specs.Passcode.{passcode_of}
use Rattle.q_construct.specs.Rule.{process_of, given_drops, built_drops, built_row, rows}
use Rattle.tnc2_line.specs.Packet.{parts_of, text_of, via_of, head_of}
use Rattle.aprs_history.specs.Dates.{comment_text}
use Rattle.aprs_history.specs.Setting.{Setting}
use Rattle.aprs_history.specs.Trace.{Trace, Ended, live_links, served_links}
use Rattle.aprs_history.specs.declared.verdicts.EndReason.{EndReason}
use Rattle.aprs_history.specs.declared.verdicts.EndReason.TheVariants.{NoLogin, Silent, Overfull, Full, ByPeer, ByStop}
use Rattle.aprs_history.specs.Ending.{last_events}
use Rattle.aprs_history.specs.History.{History, open_events, trace_of}
use Rattle.aprs_history.specs.Acts.{Closes, IsRun, Offers, due}
use Rattle.aprs_history.specs.Texts.{banner, lines_of, text_to}
use Rattle.aprs_history.proofs.Rows.{client, crlf, listen, server_on, told_in}

setting : Setting
setting = server_on (listen kind.Full 10152 ∷ [])

abbrev pub at_moment : ℕ → Happening
at_moment moment = did.Event (event.Tick moment)

abbrev opens : ℕ → Happening
opens link = did.Event (event.Opened 0 link client)

abbrev says : ℕ → List ℕ → Happening
says link line = did.Event (event.Bytes link (line ++ crlf))

-- how links ended, the last first
abbrev ends_in : Trace → List (ℕ × EndReason)
ends_in [] = []
ends_in (Ended link reason ∷ trace) = (link, reason) ∷ ends_in trace
ends_in (entry ∷ trace) = ends_in trace

abbrev pub ends : Setting → History → List (ℕ × EndReason)
ends s history = ends_in (trace_of s history)

listening : History
listening = did.Listen 0 ∷ []

-- ---- for want of a login

one_link : History
one_link = opens 1 ∷ at_moment 1000 ∷ listening

nameless : History
nameless = at_moment 1030 ∷ one_link

-- it ends half a minute after its opening, is offered nothing more and is closed
nameless_ends : ends setting nameless ≡ (1, NoLogin) ∷ []
unfolding trace_of setting nameless one_link listening client
nameless_ends = refl

nameless_closed : due setting nameless ≡ Closes 1 ∷ []
unfolding due trace_of setting nameless one_link listening client
nameless_closed = refl

nameless_stays : ends setting (at_moment 1029 ∷ one_link) ≡ []
unfolding trace_of setting one_link listening client
nameless_stays = refl

-- a link that logs in stays, and one that was opened before the first tick counts from 0
logged_in_stays : ends setting (at_moment 1030 ∷ says 1 (codes "user N0CALL pass 13023 vers t 1") ∷ one_link) ≡ []
unfolding trace_of setting one_link listening client crlf login_of passcode_of
logged_in_stays = refl

opened_before_the_first_tick : ends setting (at_moment 1000 ∷ opens 1 ∷ listening) ≡ (1, NoLogin) ∷ []
unfolding trace_of setting listening client
opened_before_the_first_tick = refl

-- ---- silence

abbrev soon_silent : Setting
soon_silent = record setting { client_timeout = 60 }

spoke : History
spoke = says 1 (codes "user N0CALL pass 13023 vers t 1") ∷ one_link

silent_ends : ends soon_silent (at_moment 1060 ∷ spoke) ≡ (1, Silent) ∷ []
unfolding trace_of setting spoke one_link listening client crlf login_of passcode_of
silent_ends = refl

silent_stays : ends soon_silent (at_moment 1059 ∷ spoke) ≡ []
unfolding trace_of setting spoke one_link listening client crlf login_of passcode_of
silent_stays = refl

-- any bytes count, and they alone
bytes_count : ends soon_silent (at_moment 1060 ∷ did.Event (event.Bytes 1 (codes "#")) ∷ at_moment 1001 ∷ spoke) ≡ []
unfolding trace_of setting spoke one_link listening client crlf login_of passcode_of
bytes_count = refl

-- where both rules apply a link ends for want of a login
nameless_first : ends (record setting { client_timeout = 30 }) nameless ≡ (1, NoLogin) ∷ []
unfolding trace_of setting nameless one_link listening client
nameless_first = refl

-- ---- links that are turned away

abbrev for_one : Setting
for_one = record setting { max_clients = 1 }

second_client : History
second_client = at_moment 1001 ∷ says 2 (codes "user N0CALL pass 13023 vers t 1") ∷ opens 2 ∷ one_link

-- it has no text, its login has no effect, and it is closed at the round's end
turned_away : ends for_one second_client ≡ (2, Full) ∷ []
unfolding trace_of setting second_client one_link listening client crlf
turned_away = refl

turned_away_closed : due for_one second_client ≡ Offers 1 (codes "# aprsc 1.0" ++ crlf) ∷ Closes 2 ∷ []
unfolding due trace_of setting second_client one_link listening client crlf
turned_away_closed = refl

-- its end by its peer is passed over, and the links that ended before don't count
turned_away_once : ends for_one (at_moment 1001 ∷ did.Event (event.Ended 2) ∷ opens 2 ∷ one_link) ≡ (2, Full) ∷ []
unfolding trace_of setting one_link listening client
turned_away_once = refl

place_after_an_end : live_links (trace_of for_one (at_moment 1001 ∷ opens 2 ∷ did.Event (event.Ended 1) ∷ one_link)) ≡ 2 ∷ []
unfolding trace_of setting one_link listening client
place_after_an_end = refl

-- ---- comment lines

-- at a tick that passes a border of 20 seconds each client that lives is told the date, logged in or not
told_the_date : lines_of setting (trace_of setting (at_moment 1020 ∷ one_link)) 1 ≡ banner ∷ comment_text (codes "T2TEST") 1020 ∷ []
unfolding trace_of setting one_link listening client
told_the_date = refl

not_told_yet : lines_of setting (trace_of setting (at_moment 1019 ∷ one_link)) 1 ≡ banner ∷ []
unfolding trace_of setting one_link listening client
not_told_yet = refl

told_once : lines_of setting (trace_of setting (at_moment 1021 ∷ at_moment 1020 ∷ one_link)) 1 ≡ banner ∷ comment_text (codes "T2TEST") 1020 ∷ []
unfolding trace_of setting one_link listening client
told_once = refl

-- a link that ends by time at that tick isn't told
late_not_told : lines_of setting (trace_of setting (at_moment 1040 ∷ one_link)) 1 ≡ banner ∷ []
unfolding trace_of setting one_link listening client
late_not_told = refl

-- ---- overfull links

-- whether the first link is overfull, and the links that live
abbrev text_over : History → Bool × List ℕ
text_over history = ((text_to setting (trace_of setting history) 1).over, live_links (trace_of setting history))

abbrev pub many : ℕ → List ℕ → List ℕ
many zero line = []
many (suc n) line = line ++ many n line

-- a link that takes nothing, and asks for so many replies
asked : ℕ → History
asked n = did.Event (event.Bytes 1 (many n (codes "#filter" ++ crlf))) ∷ says 1 (codes "user N0CALL pass 13023 vers t 1") ∷ one_link

asking : ℕ → History
asking n = at_moment 1000 ∷ asked n

-- the banner, the reply to the login and 998 more are as many as may wait
as_many_as_may : ends setting (asking 998) ≡ []
unfolding trace_of setting asking asked one_link listening client crlf login_of passcode_of
as_many_as_may = refl

one_too_many : ends setting (asking 999) ≡ (1, Overfull) ∷ []
unfolding trace_of setting asking asked one_link listening client crlf login_of passcode_of
one_too_many = refl

-- within the round it is overfull and lives, and once that is finished it doesn't
overfull_within : text_over (asked 999) ≡ (true, 1 ∷ [])
unfolding trace_of setting asked one_link listening client crlf login_of passcode_of
overfull_within = refl

round_is_finished : open_events (asking 999) ≡ 0
unfolding asking asked one_link listening
round_is_finished = refl

ended_with_its_round : live_links (trace_of setting (asking 999)) ≡ []
unfolding trace_of setting asking asked one_link listening client crlf login_of passcode_of
ended_with_its_round = refl

-- the other one lives on, and has room
fits_between : text_over (asking 998) ≡ (false, 1 ∷ [])
unfolding trace_of setting asking asked one_link listening client crlf login_of passcode_of
fits_between = refl

-- it lives to the round's end: what it says still counts, but it is told nothing more
said_after : History
said_after = at_moment 1000 ∷ says 1 (codes "N0CALL>APRS:>hi") ∷ did.Event (event.Bytes 1 (many 999 (codes "#filter" ++ crlf)))
    ∷ says 2 (codes "user K1ABC pass 14993 vers t 1") ∷ opens 2 ∷ says 1 (codes "user N0CALL pass 13023 vers t 1") ∷ one_link

lives_to_the_end : told_in setting said_after 2 ≡ banner ∷ codes "# logresp K1ABC verified, server T2TEST" ∷ codes "N0CALL>APRS,TCPIP*,qAC,T2TEST:>hi" ∷ []
unfolding trace_of setting said_after one_link listening client crlf login_of passcode_of parts_of text_of via_of head_of process_of given_drops built_drops built_row rows body_of
lives_to_the_end = refl

-- its peer's end comes first, and a stop later
ended_first : ends setting (at_moment 1000 ∷ did.Event (event.Ended 1) ∷ did.Event (event.Bytes 1 (many 999 (codes "#filter" ++ crlf))) ∷ spoke) ≡ (1, ByPeer) ∷ []
unfolding trace_of setting spoke one_link listening client crlf login_of passcode_of
ended_first = refl

stopped_later : due setting (did.Event event.Stop ∷ did.Event (event.Bytes 1 (many 999 (codes "#filter" ++ crlf))) ∷ opens 2 ∷ spoke)
    ≡ Offers 2 (codes "# aprsc 1.0" ++ crlf) ∷ Closes 1 ∷ Closes 2 ∷ []
unfolding due trace_of setting spoke one_link listening client crlf login_of passcode_of
stopped_later = refl

-- ---- by an event of the round

-- the peer's end is among the events of the round in which the link ended, and not of the next
peer_ended : History
peer_ended = at_moment 1001 ∷ did.Event (event.Ended 1) ∷ one_link

ended_by_peer : ends setting peer_ended ≡ (1, ByPeer) ∷ []
unfolding trace_of setting peer_ended one_link listening client
ended_by_peer = refl

events_of_its_round : last_events peer_ended ≡ event.Tick 1001 ∷ event.Ended 1 ∷ event.Opened 0 1 client ∷ []
unfolding peer_ended one_link listening
events_of_its_round = refl

events_of_the_next : last_events (at_moment 1002 ∷ peer_ended) ≡ event.Tick 1002 ∷ []
unfolding peer_ended one_link listening
events_of_the_next = refl

stop_ended : ends setting (did.Event event.Stop ∷ one_link) ≡ (1, ByStop) ∷ []
unfolding trace_of setting one_link listening client
stop_ended = refl

events_up_to_a_stop : last_events (did.Event event.Stop ∷ one_link) ≡ event.Stop ∷ event.Opened 0 1 client ∷ []
unfolding one_link listening
events_up_to_a_stop = refl

-- a run that a stop ends: the link that it ended is still served, and has room
stopped : History
stopped = did.Event event.Stop ∷ did.Event (event.Opened 0 1 client) ∷ did.Listen 0 ∷ []

is_run : IsRun setting stopped
unfolding due trace_of setting stopped client
is_run = (((tt, refl), (refl, tt)), (refl, tt))

served_with_room : (served_links (trace_of setting stopped) ≡ 1 ∷ []) × ((text_to setting (trace_of setting stopped) 1).over ≡ false)
unfolding trace_of setting stopped client
served_with_room = (refl, refl)
