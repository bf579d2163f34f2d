-- What is accepted: of which line each packet is, who said it, when its like was accepted before, and whose call its path doesn't have.
use Rattle.std.specs.Prelude.{◌≡◌, ℕ, ◌+◌, ◌≤◌, List, ◌∷◌, ◌++◌, Some, None, Ok, slice_get, IsTrue, IsFalse}
use Rattle.std.specs.List.{All}
use Rattle.aprs_base.specs.Bytes.{IsLine}
use Rattle.aprs_base.specs.PacketSeen.{PacketSeen}
use Rattle.aprs_base.specs.PartsSeen.{PartsSeen}
use Rattle.aprs_base.specs.declared.cutting.Cut.{Cut}
use Rattle.aprs_base.specs.declared.cutting.Cut.TheVariants as cut
use Rattle.aprs_base.specs.declared.packets.Source.{Source}
use Rattle.aprs_base.specs.declared.packets.Source.TheVariants as source
use Rattle.tnc2_line.specs.Packet.{parts_of, text_of}
use Rattle.q_construct.specs.Rule.{among, names_after, process_of}
use Rattle.q_construct.specs.declared.origins.Origin.{Origin}
use Rattle.q_construct.specs.declared.origins.Origin.TheVariants as origin
use Rattle.dupe_window.specs.Keys.{is_same_key, key_of}
use Rattle.aprs_history.specs.declared.verdicts.Verdict.TheVariants.{Accepted}
use Rattle.aprs_history.specs.Setting.{Peer, Setting, is_only_kind}
use Rattle.aprs_history.specs.Trace.{Trace, Said, live_links, moment_of}
use Rattle.aprs_history.specs.Links.{opening_of, session_of}
use Rattle.aprs_history.specs.Verdicts.{Carrier, Speaker, Visitor, client_origin, submitter_of}
use Rattle.aprs_history.specs.Scenes.{accepted_of, logins_of, others_of, speaker_of}
use Rattle.aprs_history.specs.History.{History, trace_of}

-- ---- who said it

-- a client speaks by its login, once it has one, and all others by what they are
abbrev pub SpeaksAs : Speaker → Origin → Type 0
SpeaksAs (Visitor kind None) by = ⊥
SpeaksAs (Visitor kind (Some session)) by = by ≡ client_origin (is_only_kind kind) session
SpeaksAs (Carrier from) by = by ≡ from

-- the peer of this number in the setting
pub record IsOfPeer (setting : Setting) (number : ℕ) (by : Origin) : Type 0 where
  pub peer : Peer
  pub there : slice_get setting.peers number ≡ Some peer
  pub its : by ≡ origin.Peer peer.call

-- a station that sends a datagram, by a first line that is its verified login
pub record IsSubmitter (setting : Setting) (by : Origin) : Type 0 where
  pub first : Cut
  pub login : List ℕ
  pub verified : submitter_of setting.server first ≡ Ok login
  pub its : by ≡ origin.Udp login

-- what is said from there is said by this origin, with these logins of other links at that moment
abbrev pub IsSaidAs : Setting → Trace → Source → Origin → List (List ℕ) → Type 0
IsSaidAs setting trace (source.Link link) by others = SpeaksAs (speaker_of (opening_of trace link) (session_of trace link)) by × (others ≡ others_of trace link)
IsSaidAs setting trace (source.Peer peer) by others = IsOfPeer setting peer by × (others ≡ logins_of trace (live_links trace))
IsSaidAs setting trace (source.Submit listener) by others = IsSubmitter setting by × (others ≡ logins_of trace (live_links trace))

-- ---- of which line it is

-- what was said is a line, it reads as a packet, and what is accepted is that packet by the q construct rule
pub record IsAcceptedOf (setting : Setting) (earlier : Trace) (from : Source) (said : Cut) (parts : PartsSeen) (line : List ℕ) : Type 0 where
  pub text : List ℕ
  pub before : PartsSeen
  pub by : Origin
  pub others : List (List ℕ)
  pub is : said ≡ cut.Line text
  pub whole : IsLine text
  pub reads : parts_of text ≡ Ok before
  pub comes : IsSaidAs setting earlier from by others
  pub goes : process_of before by setting.server others ≡ Ok parts
  pub its : line ≡ text_of parts

-- each accepted packet is that of a line that was said there
abbrev pub PacketsComeFromLines : Type 0
PacketsComeFromLines = (setting : Setting) (history : History) (later earlier : Trace) (from : Source) (said : Cut) (parts : PartsSeen) (line : List ℕ)
    → trace_of setting history ≡ later ++ Said from said (Accepted parts line) ∷ earlier → IsAcceptedOf setting earlier from said parts line

-- ---- when its like was accepted before

-- where a packet has the same key, it was accepted a window earlier, or before that
abbrev pub IsPast : Setting → ℕ → PartsSeen → PacketSeen → Type 0
IsPast setting now parts packet = IsTrue (is_same_key (key_of parts) (key_of packet.parts)) → packet.moment + setting.window ≤ now

-- two acceptances of one key are at least a window apart
abbrev pub AcceptancesAreApart : Type 0
AcceptancesAreApart = (setting : Setting) (history : History) (later earlier : Trace) (from : Source) (said : Cut) (parts : PartsSeen) (line : List ℕ)
    → trace_of setting history ≡ later ++ Said from said (Accepted parts line) ∷ earlier → All (IsPast setting (moment_of earlier) parts) (accepted_of earlier)

-- ---- whose call its path doesn't have

-- no line is accepted in which the server stands after the construct
abbrev pub NoneNamesTheServer : Type 0
NoneNamesTheServer = (setting : Setting) (history : History) (later earlier : Trace) (from : Source) (text : List ℕ) (before parts : PartsSeen) (line : List ℕ)
    → trace_of setting history ≡ later ++ Said from (cut.Line text) (Accepted parts line) ∷ earlier → parts_of text ≡ Ok before
    → IsFalse (among setting.server (names_after before.vias))
