-- What every run keeps: the bytes that links take, whose packets their texts have, why links end and are closed, and what goes to
-- other servers.
use Rattle.std.specs.Prelude.{◌≡◌, ◌≢◌, ℕ, ◌==◌, ◌<◌, List, [], ◌∷◌, ◌++◌, length, take, Bool, true, false, Option, Some, None, IfSome, IsTrue, IsFalse, if◌then◌else◌, ⊤}
use Rattle.std.specs.List.{All, list_any}
use Rattle.aprs_base.specs.Outside.{new_link}
use Rattle.aprs_base.specs.PacketSeen.{PacketSeen}
use Rattle.aprs_base.specs.declared.packets.Source.TheVariants as source
use Rattle.aprs_base.specs.declared.texts.Addr.{Addr}
use Rattle.aprs_base.specs.declared.events.Event.TheVariants as event
use Rattle.aprs_base.specs.declared.events.Sent.{Sent}
use Rattle.aprs_base.specs.declared.events.Sent.TheVariants as sent
use Rattle.aprs_base.specs.declared.events.Happening.{Happening}
use Rattle.aprs_base.specs.declared.events.Happening.TheVariants as did
use Rattle.aprs_history.specs.declared.verdicts.LinkKind.TheVariants.{Uplink}
use Rattle.aprs_history.specs.declared.verdicts.Verdict.TheVariants.{Accepted}
use Rattle.aprs_history.specs.Setting.{Setting}
use Rattle.aprs_history.specs.Trace.{Trace, Entry, RoundBegan, Said, Ended, is_closing, is_member, is_unasked, moment_of, turned_links}
use Rattle.aprs_history.specs.declared.verdicts.EndReason.{EndReason}
use Rattle.aprs_history.specs.declared.verdicts.EndReason.TheVariants.{ByPeer, FoundGone, NoLogin, Silent, Overfull, Full, Unasked, ByStop}
use Rattle.aprs_history.specs.Links.{is_gone, is_nameless, is_silent, is_submitted, opening_of}
use Rattle.aprs_history.specs.Scenes.{packet_of}
use Rattle.link_queue.specs.Lines.{ended_line, text_bytes}
use Rattle.aprs_history.specs.Texts.{LineKind, TextLine, Login, Relayed, Shown, lines_of, text_to, untaken, uplink_login}
use Rattle.aprs_history.specs.History.{History, greatest_link, is_stopped, trace_of}
use Rattle.aprs_history.specs.Acts.{IsRun}

-- each link that an event brings has a number above all before it
abbrev pub HasFreshLinks : History → Type 0
HasFreshLinks [] = ⊤
HasFreshLinks (did.Event e ∷ earlier) = HasFreshLinks earlier × IfSome (new_link e) (λ link. greatest_link earlier < link)
HasFreshLinks (x ∷ earlier) = HasFreshLinks earlier

-- the bytes that were taken of those that were sent
abbrev pub taken_of : List ℕ → Sent → List ℕ
taken_of bytes (sent.Took n) = take n bytes
taken_of bytes sent.Gone = []

-- the bytes that a link took, in order
abbrev pub taken_bytes : History → ℕ → List ℕ
taken_bytes [] link = []
taken_bytes (did.Sent to bytes outcome ∷ earlier) link = if link == to then taken_bytes earlier link ++ taken_of bytes outcome else taken_bytes earlier link
taken_bytes (x ∷ earlier) link = taken_bytes earlier link

-- the bytes that a link took are a prefix of its text, and the rest is what it hasn't taken
abbrev pub TakesPrefix : Setting → History → ℕ → Type 0
TakesPrefix setting history link =
    text_bytes (lines_of setting (trace_of setting history) link) ≡ taken_bytes history link ++ untaken setting (trace_of setting history) link

abbrev pub LinksTakePrefixes : Type 0
LinksTakePrefixes = (setting : Setting) (history : History) → IsRun setting history → HasFreshLinks history → (link : ℕ) → TakesPrefix setting history link

-- the packet that a line of a text is
abbrev pub packet_in : LineKind → Option PacketSeen
packet_in (Relayed packet) = Some packet
packet_in (Shown packet) = Some packet
packet_in other = None

-- a line isn't a packet that the link sent itself
abbrev pub IsOfAnother : ℕ → TextLine → Type 0
IsOfAnother link line = IfSome (packet_in line.kind) (λ packet. packet.from ≢ source.Link link)

abbrev pub NoneHearThemselves : Type 0
NoneHearThemselves = (setting : Setting) (trace : Trace) (link : ℕ) → All (IsOfAnother link) (text_to setting trace link).lines

abbrev pub is_round_start : Entry → Bool
is_round_start RoundBegan = true
is_round_start entry = false

-- the link ended in the round at which a trace stands, by a reason for which the server closes it
pub record HasEnded (trace : Trace) (link : ℕ) : Type 0 where
  pub later : Trace
  pub earlier : Trace
  pub reason : EndReason
  pub split : trace ≡ later ++ Ended link reason ∷ earlier
  pub same_round : IsFalse (list_any is_round_start later)
  pub closing : IsTrue (is_closing reason)

-- a link is closed only where it has ended so
abbrev pub ClosesHaveReasons : Type 0
ClosesHaveReasons = (setting : Setting) (later earlier : History) (link : ℕ) → IsRun setting (later ++ did.Closed link ∷ earlier) → HasEnded (trace_of setting earlier) link

-- the peer of a link ended it
abbrev pub is_end_by_peer : ℕ → Happening → Bool
is_end_by_peer link (did.Event (event.Ended other)) = other == link
is_end_by_peer link x = false

-- the rule of each reason for which a link ends: by what happened, and by what came before the end
abbrev pub EndsBy : Setting → History → Trace → ℕ → EndReason → Type 0
EndsBy setting history earlier link ByPeer = IsTrue (list_any (is_end_by_peer link) history)
EndsBy setting history earlier link FoundGone = IsTrue (is_gone earlier link)
EndsBy setting history earlier link NoLogin = IsTrue (is_nameless earlier link)
EndsBy setting history earlier link Silent = IsTrue (is_silent setting earlier link)
EndsBy setting history earlier link Overfull = IsTrue (text_to setting earlier link).over
EndsBy setting history earlier link Full = IsTrue (is_member link (turned_links earlier))
EndsBy setting history earlier link Unasked = IsTrue (is_unasked earlier link)
EndsBy setting history earlier link ByStop = IsTrue (is_stopped history)

-- a link ends only by its reason's rule
abbrev pub LinksEndByRules : Type 0
LinksEndByRules = (setting : Setting) (history : History) (later earlier : Trace) (link : ℕ) (reason : EndReason) → trace_of setting history ≡ later ++ Ended link reason ∷ earlier
    → EndsBy setting history earlier link reason

-- ---- what goes to other servers

-- the packet that an entry accepts, where it was submitted here: by a client, or in a datagram of its own
abbrev pub submission_in : Trace → Entry → Option PacketSeen
submission_in earlier (Said from cut (Accepted parts line)) = if is_submitted earlier from then Some (packet_of from (moment_of earlier) parts line) else None
submission_in earlier entry = None

-- a packet was accepted at some point of a trace, and had been submitted here
pub record WasSubmitted (trace : Trace) (packet : PacketSeen) : Type 0 where
  pub later : Trace
  pub earlier : Trace
  pub entry : Entry
  pub split : trace ≡ later ++ entry ∷ earlier
  pub accepted : submission_in earlier entry ≡ Some packet

-- a line is the login at an uplink, or a packet that was submitted here
abbrev pub IsLineForUplink : Setting → Trace → LineKind → List ℕ → Type 0
IsLineForUplink setting trace Login line = line ≡ uplink_login setting
IsLineForUplink setting trace (Relayed packet) line = (line ≡ packet.line) × WasSubmitted trace packet
IsLineForUplink setting trace other line = ⊥

abbrev pub IsForUplink : Setting → Trace → TextLine → Type 0
IsForUplink setting trace text = IsLineForUplink setting trace text.kind text.line

-- a link that the uplink has joined has nothing else in its text
abbrev pub UplinksGetSubmissions : Type 0
UplinksGetSubmissions = (setting : Setting) (history : History) (link uplink : ℕ) (at : Addr) (moment : ℕ)
    → opening_of (trace_of setting history) link ≡ Some (record { kind = Uplink uplink; from = at; moment = moment })
    → All (IsForUplink setting (trace_of setting history)) (text_to setting (trace_of setting history) link).lines

-- what is dialled is one of the uplinks
abbrev pub DialsAreOfUplinks : Type 0
DialsAreOfUplinks = (setting : Setting) (later earlier : History) (uplink : ℕ) → IsRun setting (later ++ did.Dialled uplink ∷ earlier) → uplink < length setting.uplinks

-- a line for a peer is that of a packet that was submitted here and accepted in the last round
pub record IsForPeer (trace : Trace) (line : List ℕ) : Type 0 where
  pub packet : PacketSeen
  pub its : line ≡ packet.line
  pub submitted : WasSubmitted trace packet
  pub same_round : IsFalse (list_any is_round_start submitted.later)

abbrev pub PeersGetSubmissions : Type 0
PeersGetSubmissions = (setting : Setting) (later earlier : History) (peer : ℕ) (bytes : List ℕ) → IsRun setting (later ++ did.Cast peer bytes ∷ earlier)
    → (peer < length setting.peers) × ((line : List ℕ) × (bytes ≡ ended_line line) × IsForPeer (trace_of setting earlier) line)
