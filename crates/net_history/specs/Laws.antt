-- What every network keeps, whatever its steps are.
use Rattle.std.specs.Prelude.{◌≡◌, ℕ, ◌+◌, false, List, [], ◌∷◌, length, Some, IfSome, slice_get, ⊤}
use Rattle.aprs_base.specs.Outside.{new_link}
use Rattle.aprs_base.specs.declared.events.Sent.TheVariants as sent
use Rattle.aprs_base.specs.declared.events.Happening.TheVariants as did
use Rattle.aprs_history.specs.History.{History, greatest_link, is_stopped}
use Rattle.aprs_history.specs.Acts.{IsRun, due}
use Rattle.net_history.specs.declared.events.NetEvent.{NetEvent}
use Rattle.net_history.specs.Network.{Layout, ServerSeen}
use Rattle.net_history.specs.Steps.{is_there, network_of}

-- every offer was taken whole
abbrev pub TakesAll : History → Type 0
TakesAll [] = ⊤
TakesAll (did.Sent link bytes outcome ∷ earlier) = TakesAll earlier × (outcome ≡ sent.Took (length bytes))
TakesAll (x ∷ earlier) = TakesAll earlier

-- each link that came has the next number, from 1 on
abbrev pub CountsLinks : History → Type 0
CountsLinks [] = ⊤
CountsLinks (did.Event e ∷ earlier) = CountsLinks earlier × IfSome (new_link e) (λ link. link ≡ greatest_link earlier + 1)
CountsLinks (x ∷ earlier) = CountsLinks earlier

-- a server's history is a run that has come to rest
pub record Rests (s : ServerSeen) : Type 0 where
  pub run : IsRun s.setting s.history
  pub none : due s.setting s.history ≡ []
  pub going : is_stopped s.history ≡ false
  pub takes : TakesAll s.history
  pub counts : CountsLinks s.history

-- each server has come to rest, with the configuration that the network was made with
abbrev pub ServersRun : Type 0
ServersRun = (layout : Layout) (steps : List NetEvent) (place : ℕ) (s : ServerSeen) → slice_get (network_of layout steps).servers place ≡ Some s
    → Rests s × (slice_get layout.servers place ≡ Some s.setting)

-- a step that isn't there changes nothing
abbrev pub StepsElsewhereChangeNothing : Type 0
StepsElsewhereChangeNothing = (layout : Layout) (steps : List NetEvent) (e : NetEvent) → is_there layout (network_of layout steps) e ≡ false
    → network_of layout (e ∷ steps) ≡ network_of layout steps
