-- Where packets come from: the line that was submitted, and the servers that accepted it on its way.
use Rattle.std.specs.Prelude.{◌≡◌, ◌≢◌, ℕ, Bool, true, false, List, Result, Ok, ⊤, IsTrue}
use Rattle.aprs_base.specs.Bytes.{is_station}
use Rattle.aprs_base.specs.PartsSeen.{PartsSeen}
use Rattle.tnc2_line.specs.Packet.{IsPacket, parts_of, text_of}
use Rattle.tnc2_line.specs.declared.reading.LineFault.{LineFault}
use Rattle.q_construct.specs.declared.origins.Origin.{Origin}
use Rattle.q_construct.specs.Rule.{among, keeps_names, name_of, names_after, process_of}

-- a server accepted a packet: by whom it was said and which other logins there were, and its parts as they are sent on
pub record Acceptance : Type 0 where
  pub server : ℕ
  pub call : List ℕ
  pub moment : ℕ
  pub origin : Origin
  pub others : List (List ℕ)
  pub parts : PartsSeen

-- a line that was submitted, and the acceptances of it on its way, the last one outermost
pub data Trail : Type 0 where
  Submitted : (line : List ℕ) → Trail
  Passed : (before : Trail) → (by : Acceptance) → Trail

-- the packet that it is at the end of its trail
abbrev pub parts_at : Trail → Result PartsSeen LineFault
parts_at (Submitted line) = parts_of line
parts_at (Passed before by) = Ok by.parts

-- each rewritten path is the rule's of the one before
abbrev pub IsByRule : Trail → Type 0
IsByRule (Submitted line) = ⊤
IsByRule (Passed before by) = IsByRule before × ((parts : PartsSeen) × (parts_at before ≡ Ok parts) × (process_of parts by.origin by.call by.others ≡ Ok by.parts))

abbrev pub IsSame : PartsSeen → PartsSeen → Type 0
IsSame a b = (a.source ≡ b.source) × (a.dest ≡ b.dest) × (a.body ≡ b.body)

-- source, destination and body are these all along
abbrev pub StaysSame : PartsSeen → Trail → Type 0
StaysSame parts (Submitted line) = (first : PartsSeen) × (parts_of line ≡ Ok first) × IsSame parts first
StaysSame parts (Passed before by) = StaysSame parts before × IsSame parts by.parts

-- the call stands after the construct
abbrev pub names : List ℕ → PartsSeen → Bool
names call parts = among call (names_after parts.vias)

-- each server that stood after the construct as it sent the packet on stands there still
abbrev pub StaysNamed : PartsSeen → Trail → Type 0
StaysNamed parts (Submitted line) = ⊤
StaysNamed parts (Passed before by) = StaysNamed parts before × (names by.call by.parts ≡ true → names by.call parts ≡ true)

-- a line with a trail is sound: it is the packet at the trail's end, rewritten by the rule alone
pub record IsSoundLine (line : List ℕ) (trail : Trail) : Type 0 where
  pub parts : PartsSeen
  pub packet : IsPacket line parts
  pub ends : parts_at trail ≡ Ok parts
  pub ruled : IsByRule trail
  pub same : StaysSame parts trail
  pub named : StaysNamed parts trail

-- no server of that call has sent it on with its call after the construct
abbrev pub IsNewTo : List ℕ → Trail → Type 0
IsNewTo call (Submitted line) = ⊤
IsNewTo call (Passed before by) = IsNewTo call before × (names by.call by.parts ≡ true → by.call ≢ call)

-- at each acceptance of a trail, no server of that call had sent it on with its call after the construct
abbrev pub NeverReturns : Trail → Type 0
NeverReturns (Submitted line) = ⊤
NeverReturns (Passed before by) = NeverReturns before × IsNewTo by.call before

abbrev pub comes_from_server : Trail → Bool
comes_from_server (Submitted line) = false
comes_from_server (Passed before by) = true

-- what is accepted of a sound line is sound again: what comes from another server is said by one that keeps the calls after the construct
abbrev pub AcceptedStaysSound : Type 0
AcceptedStaysSound = (line : List ℕ) (trail : Trail) (by : Acceptance) (before : PartsSeen)
    → IsSoundLine line trail → IsTrue (is_station by.call) → IsTrue (is_station (name_of by.origin)) → (comes_from_server trail ≡ true → keeps_names by.origin ≡ true)
    → parts_of line ≡ Ok before → process_of before by.origin by.call by.others ≡ Ok by.parts
    → IsSoundLine (text_of by.parts) (Passed trail by)

-- no server by which a sound line passed with its call after the construct accepts it again
abbrev pub NoneAcceptAgain : Type 0
NoneAcceptAgain = (line : List ℕ) (trail : Trail) (before : PartsSeen) (origin : Origin) (call : List ℕ) (others : List (List ℕ)) (parts : PartsSeen)
    → IsSoundLine line trail → parts_of line ≡ Ok before → process_of before origin call others ≡ Ok parts → IsNewTo call trail
