-- What each line meets at its place in a trace: the packets accepted before it, and the logins of the other links.
use Rattle.std.specs.Prelude.{ℕ, List, [], ◌∷◌, ◌++◌, Option, Some, None, filter, if◌then◌else◌}
use Rattle.std.specs.List.{flat_map}
use Rattle.aprs_base.specs.PacketSeen.{PacketSeen}
use Rattle.aprs_base.specs.declared.packets.PortKind.TheVariants as kind
use Rattle.aprs_base.specs.declared.packets.Source.{Source}
use Rattle.aprs_base.specs.declared.texts.Addr.{Addr}
use Rattle.aprs_body.specs.Bodies.{body_of}
use Rattle.aprs_base.specs.declared.packets.Parts.{Parts}
use Rattle.q_construct.specs.declared.origins.Origin.{Origin}
use Rattle.q_construct.specs.declared.origins.Origin.TheVariants as origin
use Rattle.aprs_history.specs.Setting.{Setting}
use Rattle.aprs_history.specs.declared.verdicts.LinkKind.{LinkKind}
use Rattle.aprs_history.specs.declared.verdicts.LinkKind.TheVariants.{Client, Uplink}
use Rattle.aprs_history.specs.declared.verdicts.Session.{Session}
use Rattle.aprs_history.specs.declared.verdicts.Verdict.{Verdict}
use Rattle.aprs_history.specs.declared.verdicts.Verdict.TheVariants.{Accepted}
use Rattle.aprs_history.specs.Trace.{Trace, RoundBegan, Said, live_links, is_other, moment_of}
use Rattle.aprs_history.specs.Links.{Opening, opening_of, session_of}
use Rattle.aprs_history.specs.Verdicts.{Carrier, Scene, Speaker, Visitor, is_duplicate}

-- a packet as it is accepted from there
abbrev pub packet_of : Source → ℕ → Parts → List ℕ → PacketSeen
packet_of from moment parts line =
    record { from = from; moment = moment; parts = parts; body = body_of parts.dest parts.body; line = line }

-- the packet that a verdict accepts
abbrev pub accepted_by : Source → ℕ → Verdict → List PacketSeen
accepted_by from moment (Accepted parts line) = packet_of from moment parts line ∷ []
accepted_by from moment verdict = []

-- the accepted packets, in order
abbrev pub accepted_of : Trace → List PacketSeen
accepted_of [] = []
accepted_of (Said from cut verdict ∷ earlier) = accepted_of earlier ++ accepted_by from (moment_of earlier) verdict
accepted_of (entry ∷ earlier) = accepted_of earlier

-- those that the last round accepted, in order
abbrev pub accepted_lately : Trace → List PacketSeen
accepted_lately [] = []
accepted_lately (RoundBegan ∷ earlier) = []
accepted_lately (Said from cut verdict ∷ earlier) = accepted_lately earlier ++ accepted_by from (moment_of earlier) verdict
accepted_lately (entry ∷ earlier) = accepted_lately earlier

-- a login that is verified
abbrev pub verified_login : Option Session → List (List ℕ)
verified_login None = []
verified_login (Some session) = if session.verified then session.call ∷ [] else []

-- the logins of those of these links that are verified
abbrev pub logins_of : Trace → List ℕ → List (List ℕ)
logins_of trace links = flat_map (λ link. verified_login (session_of trace link)) links

-- the logins of the verified links that live, but this one
abbrev pub others_of : Trace → ℕ → List (List ℕ)
others_of trace link = logins_of trace (filter (is_other link) (live_links trace))

-- who speaks on a link
abbrev pub speaker_by : LinkKind → Addr → Option Session → Speaker
speaker_by (Client kind) from session = Visitor kind session
speaker_by (Uplink uplink) from session = Carrier (origin.Uplink from)

abbrev pub speaker_of : Option Opening → Option Session → Speaker
speaker_of None session = Visitor kind.Full session
speaker_of (Some opening) session = speaker_by opening.kind opening.from session

-- what a line of a link meets
abbrev pub scene_of : Setting → Trace → ℕ → Scene
scene_of setting trace link = record {
  server = setting.server;
  speaker = speaker_of (opening_of trace link) (session_of trace link);
  others = others_of trace link;
  copies = is_duplicate setting.window (moment_of trace) (accepted_of trace);
}

-- what a line of a datagram meets
abbrev pub datagram_scene : Setting → Origin → Trace → Scene
datagram_scene setting origin trace = record {
  server = setting.server;
  speaker = Carrier origin;
  others = logins_of trace (live_links trace);
  copies = is_duplicate setting.window (moment_of trace) (accepted_of trace);
}
