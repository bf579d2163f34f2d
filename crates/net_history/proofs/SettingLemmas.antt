-- The servers of a network keep the configurations that it was made with.
use Rattle.std.proofs.Common.{◌≡◌, ℕ, Bool, true, false, List, [], ◌∷◌, ◌++◌, map, refl, ap, ◌∙◌, Option, Some, None, if◌then◌else◌}
use Rattle.std.specs.Prelude.{slice_get}
use Rattle.aprs_base.specs.declared.events.Event.{Event}
use Rattle.aprs_base.specs.declared.events.Event.TheVariants as event
use Rattle.aprs_base.specs.declared.events.Happening.TheVariants as did
use Rattle.aprs_history.specs.Setting.{Setting}
use Rattle.aprs_history.specs.Acts.{Act, Listens, Dials, Casts, Offers, SendsLine, Closes}
use Rattle.net_history.specs.declared.events.Pair.{Pair}
use Rattle.net_history.specs.declared.events.NetEvent.{NetEvent}
use Rattle.net_history.specs.declared.events.NetEvent.TheVariants as net
use Rattle.net_history.specs.Network.{End, JoinedSeen, Layout, NetSeen, ServerSeen, address_of, at_server, end_beyond, new_server, number_of, parted_at, with_arrival}
use Rattle.net_history.specs.Serving.{arrivals_at, due_at, happening_of, told_of_end, with_act, with_acts, with_all, with_dial, with_effect, with_event, with_happening, with_round, without_arrivals}
use Rattle.net_history.specs.Steps.{datagram_at, ends_at, high_end, is_there, joined_at, low_end, network_of, peering, with_cast, with_carry, with_cut, with_downlink, with_join, with_mail, with_step, with_uplink}
use Rattle.net_history.proofs.PlaceLemmas.{map_changed}

abbrev pub setting_at : ServerSeen → Setting
setting_at s = s.setting

abbrev pub settings : NetSeen → List Setting
settings n = map setting_at n.servers

kept_at : (change : ServerSeen → ServerSeen) → ((s : ServerSeen) → setting_at (change s) ≡ setting_at s) → (server : ℕ) (n : NetSeen) → settings (at_server change server n) ≡ settings n
kept_at change keeps server n = map_changed setting_at change keeps server n.servers

told_keeps : (end : Option End) (n : NetSeen) → settings (told_of_end end n) ≡ settings n
told_keeps None n = refl
told_keeps (Some end) n = kept_at (with_arrival (event.Ended (number_of end))) (λ s. refl) end.server n

effect_keeps : (server : ℕ) (act : Act) (n : NetSeen) → settings (with_effect server act n) ≡ settings n
effect_keeps server (Listens number) n = refl
effect_keeps server (Dials uplink) n = kept_at (with_dial uplink) (λ s. refl) server n
effect_keeps server (Casts peer bytes) n = refl
effect_keeps server (Offers link bytes) n = refl
effect_keeps server (SendsLine link line) n = refl
effect_keeps server (Closes link) n = told_keeps (end_beyond server link n.pairs) (record n { pairs = map (parted_at server link) n.pairs })

acts_keep : (server : ℕ) (acts : List Act) (n : NetSeen) → settings (with_acts server acts n) ≡ settings n
acts_keep server [] n = refl
acts_keep server (act ∷ acts) n =
    acts_keep server acts (with_act server act n)
    ∙ effect_keeps server act (at_server (with_happening (happening_of act)) server n)
    ∙ kept_at (with_happening (happening_of act)) (λ s. refl) server n

all_keep : (server : ℕ) (events : List Event) (n : NetSeen) → settings (with_all server events n) ≡ settings n
all_keep server [] n = refl
all_keep server (e ∷ events) n =
    let after = at_server (with_happening (did.Event e)) server n in
    all_keep server events (with_event server e n)
    ∙ acts_keep server (due_at (slice_get after.servers server)) after
    ∙ kept_at (with_happening (did.Event e)) (λ s. refl) server n

round_keeps : (server moment : ℕ) (n : NetSeen) → settings (with_round server moment n) ≡ settings n
round_keeps server moment n =
    all_keep server (arrivals_at (slice_get n.servers server) ++ event.Tick moment ∷ []) (at_server without_arrivals server n)
    ∙ kept_at without_arrivals (λ s. refl) server n

join_keeps : (number : ℕ) (pair : Option Pair) (n : NetSeen) → settings (with_join number pair n) ≡ settings n
join_keeps number None n = refl
join_keeps number (Some pair) n =
    kept_at (with_downlink pair.listener (address_of pair.low) (low_end pair n)) (λ s. refl) pair.high (at_server (with_uplink pair.uplink (address_of pair.high) (high_end pair n)) pair.low n)
    ∙ kept_at (with_uplink pair.uplink (address_of pair.high) (high_end pair n)) (λ s. refl) pair.low n

cut_keeps : (number : ℕ) (joined : Option JoinedSeen) (n : NetSeen) → settings (with_cut number joined n) ≡ settings n
cut_keeps number None n = refl
cut_keeps number (Some joined) n =
    kept_at (with_arrival (event.Ended (number_of joined.high))) (λ s. refl) joined.high.server (ends_at joined.low n)
    ∙ kept_at (with_arrival (event.Ended (number_of joined.low))) (λ s. refl) joined.low.server n

carry_keeps : (up : Bool) (k : ℕ) (joined : Option JoinedSeen) (n : NetSeen) → settings (with_carry up k joined n) ≡ settings n
carry_keeps up k None n = refl
carry_keeps up k (Some joined) n = kept_at (with_arrival _) (λ s. refl) _ n

mail_keeps : (to peer : ℕ) (bytes : Option (List ℕ)) (n : NetSeen) → settings (with_mail to peer bytes n) ≡ settings n
mail_keeps to peer None n = refl
mail_keeps to peer (Some bytes) n = kept_at _ (λ s. refl) to n

cast_keeps : (from to k : ℕ) (numbers : Option (ℕ × ℕ)) (n : NetSeen) → settings (with_cast from to k numbers n) ≡ settings n
cast_keeps from to k None n = refl
cast_keeps from to k (Some numbers) n = mail_keeps to numbers.1 (datagram_at numbers.0 k (slice_get n.servers from)) n

step_keeps : (layout : Layout) (e : NetEvent) (n : NetSeen) → settings (with_step layout e n) ≡ settings n
step_keeps layout (net.Open server listener call) n = kept_at _ (λ s. refl) server n
step_keeps layout (net.Say server link line) n = kept_at _ (λ s. refl) server n
step_keeps layout (net.Round server moment) n = round_keeps server moment n
step_keeps layout (net.Join pair) n = join_keeps pair (slice_get layout.pairs pair) n
step_keeps layout (net.Cut pair) n = cut_keeps pair (joined_at pair n) n
step_keeps layout (net.Carry pair up k) n = carry_keeps up k (joined_at pair n) n
step_keeps layout (net.Cast from to k) n = cast_keeps from to k (peering from to layout.peers) n

new_settings : (all : List Setting) → map setting_at (map new_server all) ≡ all
new_settings [] = refl
new_settings (s ∷ all) = ap (λ more. s ∷ more) (new_settings all)

pub networks_keep : (layout : Layout) (steps : List NetEvent) → settings (network_of layout steps) ≡ layout.servers
unfolding network_of
networks_keep layout [] = new_settings layout.servers
networks_keep layout (e ∷ steps) =
    let n = network_of layout steps in
    chosen (is_there layout n e) (with_step layout e n) n (step_keeps layout e n ∙ networks_keep layout steps) (networks_keep layout steps)
  where
    chosen : (b : Bool) (after before : NetSeen) → settings after ≡ layout.servers → settings before ≡ layout.servers → settings (if b then after else before) ≡ layout.servers
    chosen true after before kept same = kept
    chosen false after before kept same = same
