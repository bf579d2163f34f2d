-- Which packets the text of a link has: those that it wanted as they came, up to where it was overfull.
use Rattle.std.specs.Prelude.{◌≡◌, ◌≢◌, ℕ, ◌==◌, ◌↔◌, ◌⊎◌, Bool, true, false, is_some, List, [], ◌∷◌, ◌++◌, filter, map, Some, IsTrue, if◌then◌else◌}
use Rattle.aprs_base.specs.PacketSeen.{PacketSeen}
use Rattle.aprs_base.specs.declared.packets.PortKind.TheVariants as kind
use Rattle.aprs_base.specs.declared.packets.Source.{Source}
use Rattle.aprs_base.specs.declared.packets.Source.TheVariants as source
use Rattle.aprs_history.specs.declared.verdicts.LinkKind.{LinkKind}
use Rattle.aprs_history.specs.declared.verdicts.LinkKind.TheVariants.{Client, Uplink}
use Rattle.aprs_history.specs.declared.verdicts.Refusal.TheVariants as refusal
use Rattle.aprs_history.specs.declared.verdicts.Verdict.{Verdict}
use Rattle.aprs_history.specs.declared.verdicts.Verdict.TheVariants.{Refused, Accepted}
use Rattle.aprs_history.specs.Setting.{Setting}
use Rattle.aprs_history.specs.Trace.{Trace, Opened, Said, is_live, moment_of}
use Rattle.aprs_history.specs.Links.{Opening, is_submitted, opening_of, session_of}
use Rattle.aprs_history.specs.Scenes.{packet_of}
use Rattle.aprs_history.specs.Sights.{filter_passes}
use Rattle.aprs_history.specs.Messages.{is_asked}
use Rattle.aprs_history.specs.Counts.{is_packet_line}
use Rattle.aprs_history.specs.Texts.{TextLine, is_shown, relayed, shown, text_to, wants}

-- ---- the packets that come

-- a packet that was accepted, or refused as one that came again; and all that had happened before
pub record Coming : Type 0 where
  pub before : Trace
  pub again : Bool
  pub packet : PacketSeen

abbrev pub coming_by : Trace → Source → Verdict → List Coming
coming_by before from (Accepted parts line) = record { before = before; again = false; packet = packet_of from (moment_of before) parts line } ∷ []
coming_by before from (Refused (refusal.Duplicate parts line)) = record { before = before; again = true; packet = packet_of from (moment_of before) parts line } ∷ []
coming_by before from verdict = []

-- those that came since a link was opened, in order
abbrev pub comings_since : Trace → ℕ → List Coming
comings_since [] link = []
comings_since (Opened door admission opened from ∷ earlier) link = if link == opened then [] else comings_since earlier link
comings_since (Said from said verdict ∷ earlier) link = comings_since earlier link ++ coming_by earlier from verdict
comings_since (entry ∷ earlier) link = comings_since earlier link

-- a link wants an accepted packet, or is shown those that came again
abbrev pub is_wanted : ℕ → Coming → Bool
is_wanted link coming = if coming.again then is_shown coming.before coming.packet.from link else wants coming.before coming.packet link

abbrev pub coming_line : Coming → TextLine
coming_line coming = if coming.again then shown coming.packet else relayed coming.packet

-- ---- the packets of a text

-- what happened before the link was overfull; all, where it isn't
abbrev pub until_overfull : Setting → Trace → ℕ → Trace
until_overfull setting [] link = []
until_overfull setting (entry ∷ earlier) link =
    if (text_to setting (entry ∷ earlier) link).over then until_overfull setting earlier link else entry ∷ earlier

-- the packet lines of a text are those of the packets that the link wanted as they came, each once and in order, until it was overfull
abbrev pub TextsHaveWhatLinksWant : Type 0
TextsHaveWhatLinksWant = (setting : Setting) (trace : Trace) (link : ℕ)
    → filter is_packet_line (text_to setting trace link).lines ≡ map coming_line (filter (is_wanted link) (comings_since (until_overfull setting trace link) link))

-- ---- what a link wants

abbrev pub HasLoggedIn : Trace → ℕ → Type 0
HasLoggedIn trace link = IsTrue (is_some (session_of trace link))

-- by what it is: a client of a full feed that has logged in wants all, one with a filter what that passes or what the message rule
-- asks for, and an uplink what was submitted here
abbrev pub WantsBy : LinkKind → Trace → PacketSeen → ℕ → Type 0
WantsBy (Client kind.Full) trace packet link = HasLoggedIn trace link
WantsBy (Client kind.Igate) trace packet link = HasLoggedIn trace link × (IsTrue (filter_passes trace packet link) ⊎ IsTrue (is_asked trace packet link))
WantsBy (Client kind.Only) trace packet link = HasLoggedIn trace link × (IsTrue (filter_passes trace packet link) ⊎ IsTrue (is_asked trace packet link))
WantsBy (Client other) trace packet link = ⊥
WantsBy (Uplink uplink) trace packet link = IsTrue (is_submitted trace packet.from)

-- a packet is for a link that lives, isn't the one from which it came, and wants it by what it is
pub record IsFor (trace : Trace) (packet : PacketSeen) (link : ℕ) : Type 0 where
  pub another : packet.from ≢ source.Link link
  pub lives : IsTrue (is_live trace link)
  pub opening : Opening
  pub opened : opening_of trace link ≡ Some opening
  pub asks : WantsBy opening.kind trace packet link

abbrev pub LinksWantWhatIsForThem : Type 0
LinksWantWhatIsForThem = (trace : Trace) (packet : PacketSeen) (link : ℕ) → IsTrue (wants trace packet link) ↔ IsFor trace packet link

-- a packet that came again is shown to a client of a port for that, which lives and has logged in, and isn't the one from which it came
pub record IsShownTo (trace : Trace) (from : Source) (link : ℕ) : Type 0 where
  pub another : from ≢ source.Link link
  pub lives : IsTrue (is_live trace link)
  pub opening : Opening
  pub opened : opening_of trace link ≡ Some opening
  pub dupes : opening.kind ≡ Client kind.Dupe
  pub named : HasLoggedIn trace link

abbrev pub DuplicatesAreShown : Type 0
DuplicatesAreShown = (trace : Trace) (from : Source) (link : ℕ) → IsTrue (is_shown trace from link) ↔ IsShownTo trace from link
