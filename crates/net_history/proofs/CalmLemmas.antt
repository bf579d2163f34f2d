-- No round of a server ends by what waits for it.
use Rattle.std.proofs.Common.{◌≡◌, ℕ, Bool, true, false, List, [], ◌∷◌, ◌++◌, map, refl, Option, Some, None, if◌then◌else◌}
use Rattle.std.specs.Prelude.{slice_get}
use Rattle.aprs_base.specs.declared.events.Event.{Event}
use Rattle.aprs_base.specs.declared.events.Event.TheVariants as event
use Rattle.aprs_base.specs.declared.events.Happening.TheVariants as did
use Rattle.aprs_history.specs.Acts.{Act, Listens, Dials, Casts, Offers, SendsLine, Closes}
use Rattle.aprs_history.specs.History.{is_round_event}
use Rattle.net_history.specs.declared.events.NetEvent.{NetEvent}
use Rattle.net_history.specs.declared.events.NetEvent.TheVariants as net
use Rattle.net_history.specs.declared.events.Pair.{Pair}
use Rattle.net_history.specs.Network.{End, JoinedSeen, Layout, NetSeen, ServerSeen, address_of, at_server, end_beyond, new_server, number_of, parted_at, with_arrival}
use Rattle.net_history.specs.Serving.{arrivals_at, due_at, happening_of, told_of_end, with_act, with_acts, with_all, with_dial, with_effect, with_event, with_happening, with_round, without_arrivals}
use Rattle.net_history.specs.Steps.{datagram_at, ends_at, high_end, is_there, joined_at, low_end, network_of, peering, with_carry, with_cast, with_client, with_cut, with_datagram, with_downlink, with_join, with_mail, with_step, with_uplink}
use Rattle.net_history.proofs.PlaceLemmas.{Each, all_at, all_changed, all_mapped}

abbrev IsCalm : ServerSeen → Type 0
IsCalm s = Each (λ e. is_round_event e ≡ false) s.arrivals

calm_more : (events : List Event) (e : Event) → is_round_event e ≡ false → Each (λ e. is_round_event e ≡ false) events → Each (λ e. is_round_event e ≡ false) (events ++ e ∷ [])
calm_more [] e calm all = (calm, tt)
calm_more (x ∷ events) e calm all = (all.0, calm_more events e calm all.1)

arrives : (e : Event) (s : ServerSeen) → is_round_event e ≡ false → IsCalm s → IsCalm (with_arrival e s)
arrives e s calm all = calm_more s.arrivals e calm all

change : (f : ServerSeen → ServerSeen) → ((s : ServerSeen) → IsCalm s → IsCalm (f s)) → (server : ℕ) (n : NetSeen) → Each IsCalm n.servers → Each IsCalm (at_server f server n).servers
change f keeps server n all = all_changed IsCalm f keeps server n.servers all

told : (end : Option End) (n : NetSeen) → Each IsCalm n.servers → Each IsCalm (told_of_end end n).servers
told None n all = all
told (Some end) n all = change (with_arrival (event.Ended (number_of end))) (λ s. arrives (event.Ended (number_of end)) s refl) end.server n all

effect : (server : ℕ) (act : Act) (n : NetSeen) → Each IsCalm n.servers → Each IsCalm (with_effect server act n).servers
effect server (Listens number) n all = all
effect server (Dials uplink) n all = change (with_dial uplink) (λ s calm. calm) server n all
effect server (Casts peer bytes) n all = all
effect server (Offers link bytes) n all = all
effect server (SendsLine link line) n all = all
effect server (Closes link) n all = told (end_beyond server link n.pairs) (record n { pairs = map (parted_at server link) n.pairs }) all

acts_calm : (server : ℕ) (acts : List Act) (n : NetSeen) → Each IsCalm n.servers → Each IsCalm (with_acts server acts n).servers
acts_calm server [] n all = all
acts_calm server (act ∷ acts) n all =
    acts_calm server acts (with_act server act n) (effect server act (at_server (with_happening (happening_of act)) server n) (change (with_happening (happening_of act)) (λ s calm. calm) server n all))

all_calm : (server : ℕ) (events : List Event) (n : NetSeen) → Each IsCalm n.servers → Each IsCalm (with_all server events n).servers
all_calm server [] n all = all
all_calm server (e ∷ events) n all =
    let after = at_server (with_happening (did.Event e)) server n in
    all_calm server events (with_event server e n) (acts_calm server (due_at (slice_get after.servers server)) after (change (with_happening (did.Event e)) (λ s calm. calm) server n all))

round_calm : (server moment : ℕ) (n : NetSeen) → Each IsCalm n.servers → Each IsCalm (with_round server moment n).servers
round_calm server moment n all = all_calm server (arrivals_at (slice_get n.servers server) ++ event.Tick moment ∷ []) (at_server without_arrivals server n) (change without_arrivals (λ s calm. tt) server n all)

client_calm : (listener : ℕ) (server : ℕ) (call : List ℕ) (s : ServerSeen) → IsCalm s → IsCalm (with_client listener (address_of server) call s)
client_calm listener server call s calm = calm_more (s.arrivals ++ _ ∷ []) _ refl (calm_more s.arrivals _ refl calm)

join_calm : (number : ℕ) (pair : Option Pair) (n : NetSeen) → Each IsCalm n.servers → Each IsCalm (with_join number pair n).servers
join_calm number None n all = all
join_calm number (Some pair) n all =
    change (with_downlink pair.listener (address_of pair.low) (low_end pair n)) (λ s calm. calm_more s.arrivals _ refl calm) pair.high (at_server (with_uplink pair.uplink (address_of pair.high) (high_end pair n)) pair.low n)
    (change (with_uplink pair.uplink (address_of pair.high) (high_end pair n)) (λ s calm. calm_more s.arrivals _ refl calm) pair.low n all)

cut_calm : (number : ℕ) (joined : Option JoinedSeen) (n : NetSeen) → Each IsCalm n.servers → Each IsCalm (with_cut number joined n).servers
cut_calm number None n all = all
cut_calm number (Some joined) n all =
    change (with_arrival (event.Ended (number_of joined.high))) (λ s. arrives (event.Ended (number_of joined.high)) s refl) joined.high.server (ends_at joined.low n)
    (change (with_arrival (event.Ended (number_of joined.low))) (λ s. arrives (event.Ended (number_of joined.low)) s refl) joined.low.server n all)

carry_calm : (up : Bool) (k : ℕ) (joined : Option JoinedSeen) (n : NetSeen) → Each IsCalm n.servers → Each IsCalm (with_carry up k joined n).servers
carry_calm up k None n all = all
carry_calm up k (Some joined) n all = change (with_arrival _) (λ s. arrives _ s refl) _ n all

cast_calm : (from to k : ℕ) (numbers : Option (ℕ × ℕ)) (n : NetSeen) → Each IsCalm n.servers → Each IsCalm (with_cast from to k numbers n).servers
cast_calm from to k None n all = all
cast_calm from to k (Some numbers) n all = of (datagram_at numbers.0 k (slice_get n.servers from))
  where
    of : (bytes : Option (List ℕ)) → Each IsCalm (with_mail to numbers.1 bytes n).servers
    of None = all
    of (Some bytes) = change (with_datagram numbers.1 bytes) (λ s. arrives _ s refl) to n all

step_calm : (layout : Layout) (e : NetEvent) (n : NetSeen) → Each IsCalm n.servers → Each IsCalm (with_step layout e n).servers
step_calm layout (net.Open server listener call) n all = change (with_client listener (address_of server) call) (client_calm listener server call) server n all
step_calm layout (net.Say server link line) n all = change (with_arrival _) (λ s. arrives _ s refl) server n all
step_calm layout (net.Round server moment) n all = round_calm server moment n all
step_calm layout (net.Join pair) n all = join_calm pair (slice_get layout.pairs pair) n all
step_calm layout (net.Cut pair) n all = cut_calm pair (joined_at pair n) n all
step_calm layout (net.Carry pair up k) n all = carry_calm up k (joined_at pair n) n all
step_calm layout (net.Cast from to k) n all = cast_calm from to k (peering from to layout.peers) n all

all_networks : (layout : Layout) (steps : List NetEvent) → Each IsCalm (network_of layout steps).servers
unfolding network_of
all_networks layout [] = all_mapped IsCalm new_server (λ s. tt) layout.servers
all_networks layout (e ∷ steps) =
    let n = network_of layout steps in
    chosen (is_there layout n e) (with_step layout e n) n (step_calm layout e n (all_networks layout steps)) (all_networks layout steps)
  where
    chosen : (b : Bool) (after before : NetSeen) → Each IsCalm after.servers → Each IsCalm before.servers → Each IsCalm (if b then after else before).servers
    chosen true after before all same = all
    chosen false after before all same = same

pub networks_are_calm : (layout : Layout) (steps : List NetEvent) (place : ℕ) (s : ServerSeen) → slice_get (network_of layout steps).servers place ≡ Some s → Each (λ e. is_round_event e ≡ false) s.arrivals
networks_are_calm layout steps place s at = all_at IsCalm place (network_of layout steps).servers s at (all_networks layout steps)
