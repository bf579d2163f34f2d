-- Where the accepted packets of a network come from, and that none of them comes back to a server that left its call in them.
use Rattle.std.specs.Prelude.{◌≡◌, ℕ, List, Option, Some, slice_get}
use Rattle.aprs_base.specs.PacketSeen.{PacketSeen}
use Rattle.aprs_history.specs.Setting.{Setting}
use Rattle.aprs_history.specs.Scenes.{accepted_of}
use Rattle.net_history.specs.declared.events.NetEvent.{NetEvent}
use Rattle.net_history.specs.Network.{Layout, ServerSeen, trace_at}
use Rattle.net_history.specs.Steps.{network_of}
use Rattle.net_history.specs.Premises.{IsLaidOut}
use Rattle.net_history.specs.Trails.{IsSoundLine, NeverReturns, Passed, Submitted, Trail}
use Rattle.net_history.specs.Descents.{descent_at, known_of}

-- the last acceptance of a trail is that of this packet, at this server
abbrev pub IsLast : ℕ → Setting → PacketSeen → Trail → Type 0
IsLast server setting packet (Submitted line) = ⊥
IsLast server setting packet (Passed before by) = (by.server ≡ server) × (by.call ≡ setting.server) × (by.moment ≡ packet.moment) × (by.parts ≡ packet.parts)

-- a packet descends from the line that was submitted: source, destination and body stay, and each path is the rule's of the one before
pub record IsDescent (server : ℕ) (setting : Setting) (packet : PacketSeen) (trail : Trail) : Type 0 where
  pub last : IsLast server setting packet trail
  pub sound : IsSoundLine packet.line trail

-- the descent of the packet at that place among those that a server accepted
abbrev pub descent_of : Layout → List NetEvent → ℕ → ℕ → Option Trail
descent_of layout steps server place = descent_at (slice_get (known_of layout steps) server) (Some place)

-- each accepted packet has one
abbrev pub PacketsDescend : Type 0
PacketsDescend = (layout : Layout) (steps : List NetEvent) (server place : ℕ) (s : ServerSeen) (packet : PacketSeen) → IsLaidOut layout → slice_get (network_of layout steps).servers server ≡ Some s
    → slice_get (accepted_of (trace_at s)) place ≡ Some packet → (trail : Trail) × (descent_of layout steps server place ≡ Some trail) × IsDescent server s.setting packet trail

-- along it no server accepts a packet that it sent on before with its call after the construct
abbrev pub NoneComesBack : Type 0
NoneComesBack = (layout : Layout) (steps : List NetEvent) (server place : ℕ) (s : ServerSeen) (packet : PacketSeen) (trail : Trail) → IsLaidOut layout → slice_get (network_of layout steps).servers server ≡ Some s
    → slice_get (accepted_of (trace_at s)) place ≡ Some packet → descent_of layout steps server place ≡ Some trail → NeverReturns trail
