-- Between its rounds no round of a server goes on.
use Rattle.std.proofs.Common.{◌≡◌, ℕ, zero, suc, ◌+◌, Bool, true, false, List, [], ◌∷◌, ◌++◌, map, refl, sym, ◌∙◌, subst, Option, Some, None, if◌then◌else◌}
use Rattle.std.specs.Bool.{⊤}
use Rattle.std.specs.Prelude.{slice_get}
use Rattle.aprs_base.specs.declared.events.Event.{Event}
use Rattle.aprs_base.specs.declared.events.Event.TheVariants as event
use Rattle.aprs_base.specs.declared.events.Happening.TheVariants as did
use Rattle.aprs_base.specs.declared.packets.ListenSpec.{ListenSpec}
use Rattle.aprs_history.specs.Acts.{Act, Listens, Dials, Casts, Offers, SendsLine, Closes}
use Rattle.aprs_history.specs.History.{History, open_events}
use Rattle.aprs_history.specs.Rounds.{listens_after}
use Rattle.net_history.specs.declared.events.Pair.{Pair}
use Rattle.net_history.specs.declared.events.NetEvent.{NetEvent}
use Rattle.net_history.specs.declared.events.NetEvent.TheVariants as net
use Rattle.net_history.specs.Network.{End, JoinedSeen, Layout, NetSeen, ServerSeen, address_of, at_server, end_beyond, new_server, number_of, parted_at, with_arrival}
use Rattle.net_history.specs.Serving.{arrivals_at, due_at, happening_of, told_of_end, with_act, with_acts, with_all, with_dial, with_effect, with_event, with_happening, with_round, without_arrivals}
use Rattle.net_history.specs.Steps.{datagram_at, ends_at, high_end, is_there, joined_at, low_end, network_of, peering, with_carry, with_cast, with_client, with_cut, with_datagram, with_downlink, with_join, with_mail, with_step, with_uplink}
use Rattle.net_history.proofs.PlaceLemmas.{AllBut, Each, all_at, all_changed, all_mapped, but_all, but_changed, one_changed}

abbrev IsFinished : ServerSeen → Type 0
IsFinished s = open_events s.history ≡ 0

abbrev IsAny : ServerSeen → Type 0
IsAny s = ⊤

-- ---- a round

act_leaves : (act : Act) (h : History) → open_events (happening_of act ∷ h) ≡ open_events h
act_leaves (Listens number) h = refl
act_leaves (Dials uplink) h = refl
act_leaves (Casts peer bytes) h = refl
act_leaves (Offers link bytes) h = refl
act_leaves (SendsLine link line) h = refl
act_leaves (Closes link) h = refl

-- what holds of the one server, whatever waits there and whatever it does
record Stays (Q : ServerSeen → Type 0) : Type 0 where
  acted : (act : Act) (s : ServerSeen) → Q s → Q (with_happening (happening_of act) s)
  dialled : (uplink : ℕ) (s : ServerSeen) → Q s → Q (with_dial uplink s)
  told : (e : Event) (s : ServerSeen) → Q s → Q (with_arrival e s)

any_stays : Stays IsAny
any_stays = record { acted = λ act s any. tt; dialled = λ uplink s any. tt; told = λ e s any. tt }

finished_stays : Stays IsFinished
finished_stays = record { acted = λ act s is. act_leaves act s.history ∙ is; dialled = λ uplink s is. is; told = λ e s is. is }

module _ (Q : ServerSeen → Type 0) (stays : Stays Q) (server : ℕ) where
  told_stays : (end : Option End) (n : NetSeen) → AllBut IsFinished Q server n.servers → AllBut IsFinished Q server (told_of_end end n).servers
  told_stays None n all = all
  told_stays (Some end) n all =
      but_changed IsFinished Q (with_arrival (event.Ended (number_of end))) (finished_stays.told (event.Ended (number_of end))) (stays.told (event.Ended (number_of end))) server end.server n.servers all

  effect_stays : (act : Act) (n : NetSeen) → AllBut IsFinished Q server n.servers → AllBut IsFinished Q server (with_effect server act n).servers
  effect_stays (Listens number) n all = all
  effect_stays (Dials uplink) n all = one_changed IsFinished Q Q (with_dial uplink) (stays.dialled uplink) server n.servers all
  effect_stays (Casts peer bytes) n all = all
  effect_stays (Offers link bytes) n all = all
  effect_stays (SendsLine link line) n all = all
  effect_stays (Closes link) n all = told_stays (end_beyond server link n.pairs) (record n { pairs = map (parted_at server link) n.pairs }) all

  acts_stay : (acts : List Act) (n : NetSeen) → AllBut IsFinished Q server n.servers → AllBut IsFinished Q server (with_acts server acts n).servers
  acts_stay [] n all = all
  acts_stay (act ∷ acts) n all =
      acts_stay acts (with_act server act n)
      (effect_stays act (at_server (with_happening (happening_of act)) server n) (one_changed IsFinished Q Q (with_happening (happening_of act)) (stays.acted act) server n.servers all))

all_stay : (server : ℕ) (events : List Event) (n : NetSeen) → AllBut IsFinished IsAny server n.servers → AllBut IsFinished IsAny server (with_all server events n).servers
all_stay server [] n all = all
all_stay server (e ∷ events) n all =
    let after = at_server (with_happening (did.Event e)) server n in
    all_stay server events (with_event server e n)
    (acts_stay IsAny any_stays server (due_at (slice_get after.servers server)) after (one_changed IsFinished IsAny IsAny (with_happening (did.Event e)) (λ s any. tt) server n.servers all))

-- the tick ends it
tick_finishes : (server moment : ℕ) (n : NetSeen) → AllBut IsFinished IsAny server n.servers → AllBut IsFinished IsFinished server (with_event server (event.Tick moment) n).servers
tick_finishes server moment n all =
    let after = at_server (with_happening (did.Event (event.Tick moment))) server n in
    acts_stay IsFinished finished_stays server (due_at (slice_get after.servers server)) after
    (one_changed IsFinished IsAny IsFinished (with_happening (did.Event (event.Tick moment))) (λ s any. refl) server n.servers all)

last_event : (server : ℕ) (events : List Event) (e : Event) (n : NetSeen) → with_all server (events ++ e ∷ []) n ≡ with_event server e (with_all server events n)
last_event server [] e n = refl
last_event server (x ∷ events) e n = last_event server events e (with_event server x n)

weaker : (server : ℕ) (servers : List ServerSeen) → Each IsFinished servers → AllBut IsFinished IsAny server servers
weaker server [] all = tt
weaker zero (s ∷ servers) all = (tt, all.1)
weaker (suc server) (s ∷ servers) all = (all.0, weaker server servers all.1)

round_finishes : (server moment : ℕ) (n : NetSeen) → Each IsFinished n.servers → Each IsFinished (with_round server moment n).servers
round_finishes server moment n all =
    let start = at_server without_arrivals server n in
    let waiting = arrivals_at (slice_get n.servers server) in
    subst (λ m. Each IsFinished m.servers) (sym (last_event server waiting (event.Tick moment) start))
    (but_all IsFinished server (with_event server (event.Tick moment) (with_all server waiting start)).servers
    (tick_finishes server moment (with_all server waiting start)
    (all_stay server waiting start (weaker server start.servers (all_changed IsFinished without_arrivals (λ s is. is) server n.servers all)))))

-- ---- the other steps

quiet_change : (change : ServerSeen → ServerSeen) → ((s : ServerSeen) → IsFinished s → IsFinished (change s)) → (server : ℕ) (n : NetSeen) → Each IsFinished n.servers → Each IsFinished (at_server change server n).servers
quiet_change change keeps server n all = all_changed IsFinished change keeps server n.servers all

join_finished : (number : ℕ) (pair : Option Pair) (n : NetSeen) → Each IsFinished n.servers → Each IsFinished (with_join number pair n).servers
join_finished number None n all = all
join_finished number (Some pair) n all =
    quiet_change (with_downlink pair.listener (address_of pair.low) (low_end pair n)) (λ s is. is) pair.high (at_server (with_uplink pair.uplink (address_of pair.high) (high_end pair n)) pair.low n)
    (quiet_change (with_uplink pair.uplink (address_of pair.high) (high_end pair n)) (λ s is. is) pair.low n all)

cut_finished : (number : ℕ) (joined : Option JoinedSeen) (n : NetSeen) → Each IsFinished n.servers → Each IsFinished (with_cut number joined n).servers
cut_finished number None n all = all
cut_finished number (Some joined) n all =
    quiet_change (with_arrival (event.Ended (number_of joined.high))) (λ s is. is) joined.high.server (ends_at joined.low n)
    (quiet_change (with_arrival (event.Ended (number_of joined.low))) (λ s is. is) joined.low.server n all)

carry_finished : (up : Bool) (k : ℕ) (joined : Option JoinedSeen) (n : NetSeen) → Each IsFinished n.servers → Each IsFinished (with_carry up k joined n).servers
carry_finished up k None n all = all
carry_finished up k (Some joined) n all = quiet_change (with_arrival _) (λ s is. is) _ n all

cast_finished : (from to k : ℕ) (numbers : Option (ℕ × ℕ)) (n : NetSeen) → Each IsFinished n.servers → Each IsFinished (with_cast from to k numbers n).servers
cast_finished from to k None n all = all
cast_finished from to k (Some numbers) n all = of (datagram_at numbers.0 k (slice_get n.servers from))
  where
    of : (bytes : Option (List ℕ)) → Each IsFinished (with_mail to numbers.1 bytes n).servers
    of None = all
    of (Some bytes) = quiet_change (with_datagram numbers.1 bytes) (λ s is. is) to n all

step_finished : (layout : Layout) (e : NetEvent) (n : NetSeen) → Each IsFinished n.servers → Each IsFinished (with_step layout e n).servers
step_finished layout (net.Open server listener call) n all = quiet_change (with_client listener (address_of server) call) (λ s is. is) server n all
step_finished layout (net.Say server link line) n all = quiet_change (with_arrival _) (λ s is. is) server n all
step_finished layout (net.Round server moment) n all = round_finishes server moment n all
step_finished layout (net.Join pair) n all = join_finished pair (slice_get layout.pairs pair) n all
step_finished layout (net.Cut pair) n all = cut_finished pair (joined_at pair n) n all
step_finished layout (net.Carry pair up k) n all = carry_finished up k (joined_at pair n) n all
step_finished layout (net.Cast from to k) n all = cast_finished from to k (peering from to layout.peers) n all

listens_finished : (number : ℕ) (specs : List ListenSpec) (h : History) → open_events h ≡ 0 → open_events (listens_after number specs h) ≡ 0
listens_finished number [] h is = is
listens_finished number (spec ∷ specs) h is = listens_finished (number + 1) specs (did.Listen number ∷ h) is

networks_finished : (layout : Layout) (steps : List NetEvent) → Each IsFinished (network_of layout steps).servers
unfolding network_of
networks_finished layout [] = all_mapped IsFinished new_server (λ s. listens_finished 0 s.listens [] refl) layout.servers
networks_finished layout (e ∷ steps) =
    let n = network_of layout steps in
    chosen (is_there layout n e) (with_step layout e n) n (step_finished layout e n (networks_finished layout steps)) (networks_finished layout steps)
  where
    chosen : (b : Bool) (after before : NetSeen) → Each IsFinished after.servers → Each IsFinished before.servers → Each IsFinished (if b then after else before).servers
    chosen true after before all same = all
    chosen false after before all same = same

pub rounds_are_finished : (layout : Layout) (steps : List NetEvent) (place : ℕ) (s : ServerSeen) → slice_get (network_of layout steps).servers place ≡ Some s → open_events s.history ≡ 0
rounds_are_finished layout steps place s at = all_at IsFinished place (network_of layout steps).servers s at (networks_finished layout steps)
