-- Where stations were last seen as a link's filter meets them, and which packets it passes (aprs-is.net, Server-side Filter
-- Commands).
use Rattle.std.specs.Prelude.{ℕ, Bool, List, map, Option, Some, None}
use Rattle.std.specs.Option.{option_and_then}
use Rattle.aprs_base.specs.PacketSeen.{PacketSeen}
use Rattle.filter_lang.specs.Terms.{TermSeen}
use Rattle.filter_lang.specs.declared.terms.What.{What}
use Rattle.filter_lang.specs.declared.terms.What.TheVariants as what
use Rattle.filter_eval.specs.Passes.{fresh, is_some_and, is_young, passes_of}
use Rattle.filter_eval.specs.declared.seen.Seen.{Seen}
use Rattle.station_table.specs.Last.{last_gate, last_place}
use Rattle.aprs_history.specs.declared.verdicts.Session.{Session}
use Rattle.aprs_history.specs.Trace.{Trace, moment_of}
use Rattle.aprs_history.specs.Links.{filter_of, session_of}
use Rattle.aprs_history.specs.Scenes.{accepted_of}

-- the call whose position a term asks for
abbrev pub named_call : What → Option (List ℕ)
named_call (what.Friend call km) = Some call
named_call (what.ClassNear mask call km) = Some call
named_call _ = None

-- where a call was last seen, among these packets and less than two days before
abbrev pub sighting : List PacketSeen → ℕ → List ℕ → Option Seen
sighting accepted now call = fresh now (last_place accepted call)

-- whether it is a gate
abbrev pub is_gate_at : List PacketSeen → ℕ → List ℕ → Bool
is_gate_at accepted now call = is_some_and (is_young now) (last_gate accepted call)

-- where the call that a term names was last seen
abbrev pub friend_in : List PacketSeen → ℕ → TermSeen → Option Seen
friend_in accepted now term = option_and_then (sighting accepted now) (named_call term.what)

abbrev pub login_in : List PacketSeen → ℕ → Option Session → Option Seen
login_in accepted now None = None
login_in accepted now (Some session) = sighting accepted now session.call

-- where the calls of its filter were last seen
abbrev pub friends_of : Trace → ℕ → List (Option Seen)
friends_of trace link = map (friend_in (accepted_of trace) (moment_of trace)) (filter_of trace link)

-- where its own login was
abbrev pub own_place : Trace → ℕ → Option Seen
own_place trace link = login_in (accepted_of trace) (moment_of trace) (session_of trace link)

-- whether its filter passes a packet, by what was accepted before
abbrev pub filter_passes : Trace → PacketSeen → ℕ → Bool
filter_passes trace packet link =
    passes_of (filter_of trace link) packet (friends_of trace link) (own_place trace link)
    (sighting (accepted_of trace) (moment_of trace) packet.parts.source) (is_gate_at (accepted_of trace) (moment_of trace) packet.parts.source)
