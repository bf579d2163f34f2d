use Rattle.std.proofs.Common.{◌≡◌, ◌≤◌, sym, ap, ◌∙◌, subst, refl, List, Option, Some, None, []}
use Rattle.std.specs.Prelude.{slice_get, IfSome}
use Rattle.net_history.specs.declared.events.NetEvent.{NetEvent}
use Rattle.net_history.specs.Network.{ServerSeen}
use Rattle.net_history.specs.Steps.{network_of, next_link}
use Rattle.net_schedule.specs.Running.{NetKept, layout_of}
use Rattle.net_schedule.specs.Standing.{Keeps, StandsFor}
use Rattle.net_schedule.proofs.KeepLemmas.{next_same, zip_at}
use Rattle.net_schedule.proofs.network.Network.next_link.Goals as goal

pub returns : goal.returns
returns c = λ steps stands. of steps stands (slice_get (network_of (layout_of c.args.self.now) steps).servers c.args.server) refl
  where
    of : (steps : List NetEvent) (stands : StandsFor c.args.self.now steps) (o : Option ServerSeen) → slice_get (network_of (layout_of c.args.self.now) steps).servers c.args.server ≡ o → IfSome o (λ s. next_link s ≤ 4294967295 → c.next_number.result ≡ next_link s)
    of steps stands None none = tt
    of steps stands (Some s) at = λ room.
        let found = zip_at (Keeps []) c.args.server c.args.self.now.servers (network_of (layout_of c.args.self.now) steps).servers s stands.servers at in
        let same = next_same found.0 s found.2 in
        c.next_number.ensures found.0 (ap (λ xs. slice_get xs c.args.server) (c.as_slice.ensures.value ∙ ap (λ (n : NetKept). n.servers) c.self.view_is) ∙ found.1) (subst (λ k. k ≤ 4294967295) same room) ∙ sym same
