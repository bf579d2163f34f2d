-- Which servers the construct of an accepted packet keeps it away from.
use Rattle.std.specs.Prelude.{◌≡◌, ◌≢◌, ℕ, true, List, ◌∷◌, codes, Some, ◌⊎◌, slice_get}
use Rattle.aprs_base.specs.PacketSeen.{PacketSeen}
use Rattle.q_construct.specs.Rule.{construct_of, names_after}
use Rattle.aprs_history.specs.Scenes.{accepted_of}
use Rattle.net_history.specs.declared.events.NetEvent.{NetEvent}
use Rattle.net_history.specs.Network.{Layout, ServerSeen, trace_at}
use Rattle.net_history.specs.Steps.{network_of}
use Rattle.net_history.specs.Premises.{IsLaidOut}
use Rattle.net_history.specs.Trails.{Acceptance, Passed, Submitted, Trail, names}
use Rattle.net_history.specs.DescentLaws.{descent_of}

-- the acceptance is one of the trail
abbrev pub IsIn : Acceptance → Trail → Type 0
IsIn by (Submitted line) = ⊥
IsIn by (Passed before last) = (by ≡ last) ⊎ IsIn by before

-- both are acceptances of the trail, and the later one came after the earlier one
abbrev pub ComesLater : (earlier later : Acceptance) → Trail → Type 0
ComesLater earlier later (Submitted line) = ⊥
ComesLater earlier later (Passed before last) = ((later ≡ last) × IsIn earlier before) ⊎ ComesLater earlier later before

-- the packet goes on with this construct
abbrev pub HasConstruct : List ℕ → Acceptance → Type 0
HasConstruct construct by = construct_of by.parts.vias ≡ construct

-- and right behind it stands the call of the server that accepted it
abbrev pub IsMarked : List ℕ → Acceptance → Type 0
IsMarked construct by = HasConstruct construct by × ((rest : List (List ℕ)) × (names_after by.parts.vias ≡ by.call ∷ rest))

-- the trail is the descent of a packet that a server of the network accepted
pub record Descended (layout : Layout) (steps : List NetEvent) (trail : Trail) : Type 0 where
  pub server : ℕ
  pub place : ℕ
  pub s : ServerSeen
  pub packet : PacketSeen
  pub at : slice_get (network_of layout steps).servers server ≡ Some s
  pub there : slice_get (accepted_of (trace_at s)) place ≡ Some packet
  pub is : descent_of layout steps server place ≡ Some trail

-- what a server sent on with qAC or qAX and its call is accepted by none of that call later on
abbrev pub MarkedStayAway : Type 0
MarkedStayAway = (layout : Layout) (steps : List NetEvent) (trail : Trail) (earlier later : Acceptance) → IsLaidOut layout → Descended layout steps trail → ComesLater earlier later trail
    → IsMarked (codes "qAC") earlier ⊎ IsMarked (codes "qAX") earlier → later.call ≢ earlier.call

-- what a server sends on with qAI has its call after the construct
abbrev pub TracedAreNamed : Type 0
TracedAreNamed = (layout : Layout) (steps : List NetEvent) (trail : Trail) (by : Acceptance) → IsLaidOut layout → Descended layout steps trail → IsIn by trail
    → HasConstruct (codes "qAI") by → names by.call by.parts ≡ true

-- what a server sent on with qAI is accepted by none of its call later on: what each server traces visits none twice
abbrev pub TracedStayAway : Type 0
TracedStayAway = (layout : Layout) (steps : List NetEvent) (trail : Trail) (earlier later : Acceptance) → IsLaidOut layout → Descended layout steps trail → ComesLater earlier later trail
    → HasConstruct (codes "qAI") earlier → later.call ≢ earlier.call
