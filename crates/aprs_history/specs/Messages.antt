-- Who is sent a message, and whose next position goes along with it (aprs-is.net, IGate Details).
use Rattle.std.specs.Prelude.{ℕ, ◌==◌, ◌&&◌, ◌||◌, Bool, false, not, List, [], ◌∷◌, Option, Some, None, if◌then◌else◌}
use Rattle.aprs_base.specs.Bytes.{is_call}
use Rattle.aprs_base.specs.PacketSeen.{PacketSeen}
use Rattle.aprs_base.specs.declared.packets.Source.{Source}
use Rattle.aprs_body.specs.Classes.{message_bit, position_bit}
use Rattle.filter_eval.specs.Passes.{has_class, is_some_and}
use Rattle.heard_routing.specs.Heard.{heard_age, is_recent, promise_age}
use Rattle.dupe_window.specs.Keys.{is_text}
use Rattle.aprs_history.specs.declared.verdicts.Session.{Session}
use Rattle.aprs_history.specs.declared.verdicts.Verdict.{Verdict}
use Rattle.aprs_history.specs.declared.verdicts.Verdict.TheVariants.{Accepted}
use Rattle.aprs_history.specs.Trace.{Trace, Opened, Said, is_from, is_live, moment_of}
use Rattle.aprs_history.specs.Links.{has_filters, opening_of, session_of}
use Rattle.aprs_history.specs.Scenes.{packet_of}

abbrev pub is_message : PacketSeen → Bool
is_message packet = has_class packet.body.class message_bit

abbrev pub is_position : PacketSeen → Bool
is_position packet = has_class packet.body.class position_bit

-- ---- what a link heard

abbrev pub heard_after : ℕ → Source → Verdict → ℕ → List ℕ → Option ℕ → Option ℕ
heard_after now from (Accepted parts line) link call before = if is_from link from && is_text call parts.source then Some now else before
heard_after now from verdict link call before = before

-- when a packet of that source was last accepted from a link
abbrev pub heard_of : Trace → ℕ → List ℕ → Option ℕ
heard_of [] link call = None
heard_of (Opened door admission opened from ∷ earlier) link call = if link == opened then None else heard_of earlier link call
heard_of (Said from cut verdict ∷ earlier) link call = heard_after (moment_of earlier) from verdict link call (heard_of earlier link call)
heard_of (entry ∷ earlier) link call = heard_of earlier link call

-- at most three hours before
abbrev pub has_heard : Trace → ℕ → List ℕ → Bool
has_heard trace link call = is_call call && is_some_and (is_recent heard_age (moment_of trace)) (heard_of trace link call)

-- ---- messages

-- a message to the link's own login
abbrev pub is_to_login : PacketSeen → Option Session → Bool
is_to_login packet None = false
is_to_login packet (Some session) = is_message packet && is_some_and (λ to. is_text to session.call) packet.body.to

-- a message to a station that the link has heard
abbrev pub is_to_heard : Trace → PacketSeen → ℕ → Bool
is_to_heard trace packet link = is_message packet && is_some_and (has_heard trace link) packet.body.to

-- ---- courtesy

-- a message went to a link since it had heard the receiver: its sender's next position is to go there too
abbrev pub promises : Trace → PacketSeen → ℕ → Bool
promises trace packet link =
    not (is_from link packet.from) && is_live trace link && has_filters (opening_of trace link) && is_to_heard trace packet link

-- a message makes a promise, and a position spends it
abbrev pub promise_after : Bool → Bool → ℕ → Option ℕ → Option ℕ
promise_after promised spent now before = if promised then Some now else if spent then None else before

abbrev pub promise_by : Trace → Source → Verdict → ℕ → List ℕ → Option ℕ → Option ℕ
promise_by earlier from (Accepted parts line) link sender before =
    let packet = packet_of from (moment_of earlier) parts line in
    if is_text sender parts.source then promise_after (promises earlier packet link) (is_position packet) (moment_of earlier) before else before
promise_by earlier from verdict link sender before = before

-- when a message of that sender last went to a link by hearing, with no position of the sender since
abbrev pub promise_of : Trace → ℕ → List ℕ → Option ℕ
promise_of [] link sender = None
promise_of (Opened door admission opened from ∷ earlier) link sender = if link == opened then None else promise_of earlier link sender
promise_of (Said from cut verdict ∷ earlier) link sender = promise_by earlier from verdict link sender (promise_of earlier link sender)
promise_of (entry ∷ earlier) link sender = promise_of earlier link sender

-- a position that is owed to a link, at most half an hour after the message
abbrev pub is_owed : Trace → PacketSeen → ℕ → Bool
is_owed trace packet link =
    is_position packet && is_some_and (is_recent promise_age (moment_of trace)) (promise_of trace link packet.parts.source)

-- ---- the rule

-- whether a link is sent a packet whatever its filter: a message to its login or to a station that it heard, or a position that is owed
abbrev pub is_asked : Trace → PacketSeen → ℕ → Bool
is_asked trace packet link = is_to_login packet (session_of trace link) || is_to_heard trace packet link || is_owed trace packet link
