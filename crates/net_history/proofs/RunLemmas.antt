-- The servers of a network run.
use Rattle.std.proofs.Common.{◌≡◌, ℕ, ◌+◌, Bool, true, false, ◌||◌, List, [], ◌∷◌, ◌++◌, length, map, max, refl, sym, ap, ◌∙◌, arith, subst, append-nil, append_assoc, Option, Some, None, if◌then◌else◌}
use Rattle.std.proofs.lemmas.List.{length-append}
use Rattle.std.specs.Prelude.{IfSome, slice_get}
use Rattle.aprs_base.specs.Outside.{new_link}
use Rattle.aprs_base.specs.declared.events.Event.{Event}
use Rattle.aprs_base.specs.declared.events.Event.TheVariants as event
use Rattle.aprs_base.specs.declared.events.Happening.TheVariants as did
use Rattle.aprs_base.specs.declared.packets.ListenSpec.{ListenSpec}
use Rattle.aprs_base.specs.declared.texts.Addr.{Addr}
use Rattle.aprs_history.specs.Setting.{Setting}
use Rattle.aprs_history.specs.History.{History, greater_link, greatest_link, is_stop, is_stopped}
use Rattle.aprs_history.specs.Rounds.{listens_after}
use Rattle.aprs_history.specs.Acts.{Act, Listens, Dials, Casts, Offers, SendsLine, Closes, IsRun, MayCome, but_first, due, listens_from}
use Rattle.link_queue.specs.Lines.{ended_line}
use Rattle.net_history.specs.declared.events.Pair.{Pair}
use Rattle.net_history.specs.declared.events.NetEvent.{NetEvent}
use Rattle.net_history.specs.declared.events.NetEvent.TheVariants as net
use Rattle.net_history.specs.Network.{End, ForClient, ForPair, JoinedSeen, Layout, Made, NetSeen, ServerSeen, address_of, at_server, end_beyond, far_end, new_server, number_of, parted_at, with_arrival}
use Rattle.net_history.specs.Serving.{arrivals_at, due_at, happening_of, told_of_end, with_act, with_acts, with_all, with_dial, with_effect, with_event, with_happening, with_round, without_arrivals}
use Rattle.net_history.specs.Steps.{datagram_at, ends_at, high_end, is_there, joined_at, login_line, low_end, network_of, next_link, peering, with_cast, with_carry, with_client, with_cut, with_datagram, with_downlink, with_join, with_link, with_mail, with_step, with_uplink}
use Rattle.net_history.specs.Laws.{CountsLinks, ServersRun, StepsElsewhereChangeNothing, TakesAll}
use Rattle.net_history.proofs.SettingLemmas.{networks_keep, setting_at}
use Rattle.net_history.proofs.PlaceLemmas.{AllBut, Each, all_at, all_but, all_changed, all_mapped, but_all, but_changed, map_at, one_changed, one_known}

-- ---- what is kept of a server

-- the links of these events have the numbers after the first, up to the last, and none of them is a stop
abbrev pub Comes : ℕ → List Event → ℕ → Type 0
Comes first [] last = first ≡ last
Comes first (e ∷ events) last = (is_stop e ≡ false) × IfSome (new_link e) (λ link. link ≡ first + 1) × Comes (greater_link (new_link e) first) events last

-- its history has come so far: these acts are owed, and these events come before those that wait
pub record Goes (rest : List Event) (owed : List Act) (s : ServerSeen) : Type 0 where
  pub run : IsRun s.setting s.history
  pub owes : due s.setting s.history ≡ owed
  pub going : is_stopped s.history ≡ false
  pub takes : TakesAll s.history
  pub counts : CountsLinks s.history
  pub comes : Comes (greatest_link s.history) (rest ++ s.arrivals) (length s.made)

abbrev pub Good : ServerSeen → Type 0
Good = Goes [] []

-- ---- events that come

comes_more : (first last : ℕ) (events : List Event) (e : Event) → is_stop e ≡ false → IfSome (new_link e) (λ link. link ≡ last + 1) → Comes first events last
    → Comes first (events ++ e ∷ []) (greater_link (new_link e) last)
comes_more first last [] e calm next comes = (calm, subst (λ n. IfSome (new_link e) (λ link. link ≡ n + 1)) (sym comes) next, ap (greater_link (new_link e)) comes)
comes_more first last (x ∷ events) e calm next comes = (comes.0, comes.1, comes_more (greater_link (new_link x) first) last events e calm next comes.2)

-- something comes that opens no link
arrives : (rest : List Event) (owed : List Act) (e : Event) (s : ServerSeen) → is_stop e ≡ false → new_link e ≡ None → Goes rest owed s → Goes rest owed (with_arrival e s)
arrives rest owed e s calm none goes = record {
  run = goes.run;
  owes = goes.owes;
  going = goes.going;
  takes = goes.takes;
  counts = goes.counts;
  comes = subst (λ events. Comes (greatest_link s.history) events (length s.made)) (append_assoc rest s.arrivals (e ∷ []))
      (subst (Comes (greatest_link s.history) ((rest ++ s.arrivals) ++ e ∷ [])) (ap (λ link. greater_link link (length s.made)) none)
      (comes_more (greatest_link s.history) (length s.made) (rest ++ s.arrivals) e calm (subst (λ link. IfSome link (λ number. number ≡ length s.made + 1)) (sym none) tt) goes.comes));
}

one_longer : (n : ℕ) → max (n + 1) n ≡ n + 1
one_longer n = omega arith

made_longer : (made : Made) (s : ServerSeen) → length (s.made ++ made ∷ []) ≡ length s.made + 1
made_longer made s = length-append s.made (made ∷ [])

-- a link comes, with the next number
opens : (rest : List Event) (owed : List Act) (e : Event) (made : Made) (s : ServerSeen) → is_stop e ≡ false → new_link e ≡ Some (next_link s) → Goes rest owed s
    → Goes rest owed (with_link made (with_arrival e s))
opens rest owed e made s calm next goes = record {
  run = goes.run;
  owes = goes.owes;
  going = goes.going;
  takes = goes.takes;
  counts = goes.counts;
  comes = subst (λ events. Comes (greatest_link s.history) events (length (s.made ++ made ∷ []))) (append_assoc rest s.arrivals (e ∷ []))
      (subst (Comes (greatest_link s.history) ((rest ++ s.arrivals) ++ e ∷ []))
      (ap (λ link. greater_link link (length s.made)) next ∙ one_longer (length s.made) ∙ sym (made_longer made s))
      (comes_more (greatest_link s.history) (length s.made) (rest ++ s.arrivals) e calm (subst (λ link. IfSome link (λ number. number ≡ length s.made + 1)) (sym next) refl) goes.comes));
}

client_good : (rest : List Event) (owed : List Act) (listener : ℕ) (from : Addr) (call : List ℕ) (s : ServerSeen) → Goes rest owed s → Goes rest owed (with_client listener from call s)
client_good rest owed listener from call s goes =
    let opened = event.Opened listener (next_link s) from in
    arrives rest owed (event.Bytes (next_link s) (ended_line (login_line call))) (with_link ForClient (with_arrival opened s)) refl refl (opens rest owed opened ForClient s refl refl goes)

uplink_good : (rest : List Event) (owed : List Act) (uplink : ℕ) (at : Addr) (other : End) (s : ServerSeen) → Goes rest owed s → Goes rest owed (with_uplink uplink at other s)
uplink_good rest owed uplink at other s goes =
    let now = opens rest owed (event.Joined uplink (next_link s) at) (ForPair other) s refl refl goes in
    record { run = now.run; owes = now.owes; going = now.going; takes = now.takes; counts = now.counts; comes = now.comes }

downlink_good : (rest : List Event) (owed : List Act) (listener : ℕ) (from : Addr) (other : End) (s : ServerSeen) → Goes rest owed s → Goes rest owed (with_downlink listener from other s)
downlink_good rest owed listener from other s goes = opens rest owed (event.Opened listener (next_link s) from) (ForPair other) s refl refl goes

dial_good : (rest : List Event) (owed : List Act) (uplink : ℕ) (s : ServerSeen) → Goes rest owed s → Goes rest owed (with_dial uplink s)
dial_good rest owed uplink s goes = record { run = goes.run; owes = goes.owes; going = goes.going; takes = goes.takes; counts = goes.counts; comes = goes.comes }

-- ---- a round

begun : (moment : ℕ) (s : ServerSeen) → Good s → Goes (s.arrivals ++ event.Tick moment ∷ []) [] (without_arrivals s)
begun moment s goes = record {
  run = goes.run;
  owes = goes.owes;
  going = goes.going;
  takes = goes.takes;
  counts = goes.counts;
  comes = subst (λ events. Comes (greatest_link s.history) events (length s.made)) (sym (append-nil (s.arrivals ++ event.Tick moment ∷ [])))
      (comes_more (greatest_link s.history) (length s.made) s.arrivals (event.Tick moment) refl tt goes.comes);
}

came : (e : Event) (rest : List Event) (s : ServerSeen) → Goes (e ∷ rest) [] s
    → Goes rest (due s.setting (did.Event e ∷ s.history)) (with_happening (did.Event e) s)
came e rest s goes = record {
  run = (goes.run, subst (λ owed. MayCome owed (is_stopped s.history) (did.Event e)) (sym goes.owes) (goes.going, tt));
  owes = refl;
  going = ap (λ b. b || is_stopped s.history) goes.comes.0 ∙ goes.going;
  takes = goes.takes;
  counts = (goes.counts, goes.comes.1);
  comes = goes.comes.2;
}

-- an act is done: what is left is the rest of what is due
acted : (rest : List Event) (act : Act) (acts : List Act) (s : ServerSeen) → Goes rest (act ∷ acts) s → Goes rest acts (with_happening (happening_of act) s)
unfolding due
acted rest (Listens number) acts s goes = record {
  run = (goes.run, subst (λ owed. MayCome owed (is_stopped s.history) (did.Listen number)) (sym goes.owes) refl);
  owes = ap but_first goes.owes;
  going = goes.going;
  takes = goes.takes;
  counts = goes.counts;
  comes = goes.comes;
}
acted rest (Dials uplink) acts s goes = record {
  run = (goes.run, subst (λ owed. MayCome owed (is_stopped s.history) (did.Dialled uplink)) (sym goes.owes) refl);
  owes = ap but_first goes.owes;
  going = goes.going;
  takes = goes.takes;
  counts = goes.counts;
  comes = goes.comes;
}
acted rest (Casts peer bytes) acts s goes = record {
  run = (goes.run, subst (λ owed. MayCome owed (is_stopped s.history) (did.Cast peer bytes)) (sym goes.owes) (refl, refl));
  owes = ap but_first goes.owes;
  going = goes.going;
  takes = goes.takes;
  counts = goes.counts;
  comes = goes.comes;
}
acted rest (Offers link bytes) acts s goes = record {
  run = (goes.run, subst (λ owed. MayCome owed (is_stopped s.history) (happening_of (Offers link bytes))) (sym goes.owes) (refl, refl, omega arith));
  owes = ap but_first goes.owes;
  going = goes.going;
  takes = (goes.takes, refl);
  counts = goes.counts;
  comes = goes.comes;
}
acted rest (SendsLine link line) acts s goes = record {
  run = (goes.run, subst (λ owed. MayCome owed (is_stopped s.history) (happening_of (SendsLine link line))) (sym goes.owes) (refl, refl, refl));
  owes = ap but_first goes.owes;
  going = goes.going;
  takes = (goes.takes, refl);
  counts = goes.counts;
  comes = goes.comes;
}
acted rest (Closes link) acts s goes = record {
  run = (goes.run, subst (λ owed. MayCome owed (is_stopped s.history) (did.Closed link)) (sym goes.owes) refl);
  owes = ap but_first goes.owes;
  going = goes.going;
  takes = goes.takes;
  counts = goes.counts;
  comes = goes.comes;
}

told_good : (rest : List Event) (owed : List Act) (server : ℕ) (end : Option End) (n : NetSeen) → AllBut Good (Goes rest owed) server n.servers
    → AllBut Good (Goes rest owed) server (told_of_end end n).servers
told_good rest owed server None n good = good
told_good rest owed server (Some end) n good =
    but_changed Good (Goes rest owed) (with_arrival (event.Ended (number_of end)))
    (λ s goes. arrives [] [] (event.Ended (number_of end)) s refl refl goes)
    (λ s goes. arrives rest owed (event.Ended (number_of end)) s refl refl goes)
    server end.server n.servers good

effect_good : (rest : List Event) (owed : List Act) (server : ℕ) (act : Act) (n : NetSeen) → AllBut Good (Goes rest owed) server n.servers
    → AllBut Good (Goes rest owed) server (with_effect server act n).servers
effect_good rest owed server (Listens number) n good = good
effect_good rest owed server (Dials uplink) n good = one_changed Good (Goes rest owed) (Goes rest owed) (with_dial uplink) (dial_good rest owed uplink) server n.servers good
effect_good rest owed server (Casts peer bytes) n good = good
effect_good rest owed server (Offers link bytes) n good = good
effect_good rest owed server (SendsLine link line) n good = good
effect_good rest owed server (Closes link) n good = told_good rest owed server (end_beyond server link n.pairs) (record n { pairs = map (parted_at server link) n.pairs }) good

acts_good : (rest : List Event) (server : ℕ) (acts : List Act) (n : NetSeen) → AllBut Good (Goes rest acts) server n.servers → AllBut Good (Goes rest []) server (with_acts server acts n).servers
acts_good rest server [] n good = good
acts_good rest server (act ∷ acts) n good =
    let done = at_server (with_happening (happening_of act)) server n in
    acts_good rest server acts (with_act server act n)
    (effect_good rest acts server act done (one_changed Good (Goes rest (act ∷ acts)) (Goes rest acts) (with_happening (happening_of act)) (acted rest act acts) server n.servers good))

-- what is owed is what is due at that server
owed_known : (rest : List Event) (s : ServerSeen) → Goes rest (due s.setting s.history) s → Goes rest (due_at (Some s)) s
owed_known rest s goes = goes

event_good : (e : Event) (rest : List Event) (server : ℕ) (n : NetSeen) → AllBut Good (Goes (e ∷ rest) []) server n.servers → AllBut Good (Goes rest []) server (with_event server e n).servers
event_good e rest server n good =
    let after = at_server (with_happening (did.Event e)) server n in
    acts_good rest server (due_at (slice_get after.servers server)) after
    (one_known Good (λ s. Goes rest (due s.setting s.history) s) (λ found s. Goes rest (due_at found) s) (owed_known rest) server after.servers
    (one_changed Good (Goes (e ∷ rest) []) (λ s. Goes rest (due s.setting s.history) s) (with_happening (did.Event e)) (came e rest) server n.servers good))

all_good : (events : List Event) (server : ℕ) (n : NetSeen) → AllBut Good (Goes events []) server n.servers → AllBut Good Good server (with_all server events n).servers
all_good [] server n good = good
all_good (e ∷ events) server n good = all_good events server (with_event server e n) (event_good e events server n good)

round_begins : (moment server : ℕ) (n : NetSeen) → Each Good n.servers
    → AllBut Good (Goes (arrivals_at (slice_get n.servers server) ++ event.Tick moment ∷ []) []) server (at_server without_arrivals server n).servers
round_begins moment server n good =
    let waiting : List Event = arrivals_at (slice_get n.servers server) ++ event.Tick moment ∷ [] in
    one_changed Good (λ s. (waiting ≡ s.arrivals ++ event.Tick moment ∷ []) × Good s) (Goes waiting []) without_arrivals
    (λ s known. subst (λ events. Goes events [] (without_arrivals s)) (sym known.0) (begun moment s known.1)) server n.servers
    (one_known Good Good (λ found s. (arrivals_at found ++ event.Tick moment ∷ [] ≡ s.arrivals ++ event.Tick moment ∷ []) × Good s) (λ s goes. (refl, goes)) server n.servers (all_but Good server n.servers good))

round_good : (moment server : ℕ) (n : NetSeen) → Each Good n.servers → Each Good (with_round server moment n).servers
round_good moment server n good =
    but_all Good server (with_round server moment n).servers
    (all_good (arrivals_at (slice_get n.servers server) ++ event.Tick moment ∷ []) server (at_server without_arrivals server n) (round_begins moment server n good))

-- ---- the other steps

arrive_good : (e : Event) (server : ℕ) (n : NetSeen) → is_stop e ≡ false → new_link e ≡ None → Each Good n.servers → Each Good (at_server (with_arrival e) server n).servers
arrive_good e server n calm none good = all_changed Good (with_arrival e) (λ s goes. arrives [] [] e s calm none goes) server n.servers good

join_good : (number : ℕ) (pair : Option Pair) (n : NetSeen) → Each Good n.servers → Each Good (with_join number pair n).servers
join_good number None n good = good
join_good number (Some pair) n good =
    let dialled = at_server (with_uplink pair.uplink (address_of pair.high) (high_end pair n)) pair.low n in
    all_changed Good (with_downlink pair.listener (address_of pair.low) (low_end pair n)) (downlink_good [] [] pair.listener (address_of pair.low) (low_end pair n)) pair.high dialled.servers
    (all_changed Good (with_uplink pair.uplink (address_of pair.high) (high_end pair n)) (uplink_good [] [] pair.uplink (address_of pair.high) (high_end pair n)) pair.low n.servers good)

cut_good : (number : ℕ) (joined : Option JoinedSeen) (n : NetSeen) → Each Good n.servers → Each Good (with_cut number joined n).servers
cut_good number None n good = good
cut_good number (Some joined) n good =
    arrive_good (event.Ended (number_of joined.high)) joined.high.server (ends_at joined.low n) refl refl
    (arrive_good (event.Ended (number_of joined.low)) joined.low.server n refl refl good)

carry_good : (up : Bool) (k : ℕ) (joined : Option JoinedSeen) (n : NetSeen) → Each Good n.servers → Each Good (with_carry up k joined n).servers
carry_good up k None n good = good
carry_good up k (Some joined) n good = arrive_good _ (far_end up joined).server n refl refl good

mail_good : (to peer : ℕ) (bytes : Option (List ℕ)) (n : NetSeen) → Each Good n.servers → Each Good (with_mail to peer bytes n).servers
mail_good to peer None n good = good
mail_good to peer (Some bytes) n good = all_changed Good (with_datagram peer bytes) (λ s goes. arrives [] [] _ s refl refl goes) to n.servers good

cast_good : (from to k : ℕ) (numbers : Option (ℕ × ℕ)) (n : NetSeen) → Each Good n.servers → Each Good (with_cast from to k numbers n).servers
cast_good from to k None n good = good
cast_good from to k (Some numbers) n good = mail_good to numbers.1 (datagram_at numbers.0 k (slice_get n.servers from)) n good

step_good : (layout : Layout) (e : NetEvent) (n : NetSeen) → Each Good n.servers → Each Good (with_step layout e n).servers
step_good layout (net.Open server listener call) n good = all_changed Good (with_client listener (address_of server) call) (client_good [] [] listener (address_of server) call) server n.servers good
step_good layout (net.Say server link line) n good = arrive_good (event.Bytes link (ended_line line)) server n refl refl good
step_good layout (net.Round server moment) n good = round_good moment server n good
step_good layout (net.Join pair) n good = join_good pair (slice_get layout.pairs pair) n good
step_good layout (net.Cut pair) n good = cut_good pair (joined_at pair n) n good
step_good layout (net.Carry pair up k) n good = carry_good up k (joined_at pair n) n good
step_good layout (net.Cast from to k) n good = cast_good from to k (peering from to layout.peers) n good

-- ---- a new server

listens_run : (s : Setting) (number : ℕ) (specs : List ListenSpec) (h : History) → due s h ≡ listens_from number specs → IsRun s h → IsRun s (listens_after number specs h) × (due s (listens_after number specs h) ≡ [])
unfolding due
listens_run s number [] h is run = (run, is)
listens_run s number (spec ∷ specs) h is run =
    listens_run s (number + 1) specs (did.Listen number ∷ h) (ap but_first is) (run, subst (λ owed. MayCome owed (is_stopped h) (did.Listen number)) (sym is) refl)

-- nothing but listeners was opened
abbrev OnlyListens : History → Type 0
OnlyListens h = (is_stopped h ≡ false) × TakesAll h × CountsLinks h × (greatest_link h ≡ 0)

listens_alone : (number : ℕ) (specs : List ListenSpec) (h : History) → OnlyListens h → OnlyListens (listens_after number specs h)
listens_alone number [] h alone = alone
listens_alone number (spec ∷ specs) h alone = listens_alone (number + 1) specs (did.Listen number ∷ h) alone

new_good : (s : Setting) → Good (new_server s)
unfolding due
new_good s =
    let run = listens_run s 0 s.listens [] refl tt in
    let alone = listens_alone 0 s.listens [] (refl, tt, tt, refl) in
    record { run = run.0; owes = run.1; going = alone.0; takes = alone.1; counts = alone.2; comes = alone.3 }

-- ---- every network

pub networks_good : (layout : Layout) (steps : List NetEvent) → Each Good (network_of layout steps).servers
unfolding network_of
networks_good layout [] = all_mapped Good new_server new_good layout.servers
networks_good layout (e ∷ steps) =
    let n = network_of layout steps in
    chosen (is_there layout n e) (with_step layout e n) n (step_good layout e n (networks_good layout steps)) (networks_good layout steps)
  where
    chosen : (b : Bool) (after before : NetSeen) → Each Good after.servers → Each Good before.servers → Each Good (if b then after else before).servers
    chosen true after before good same = good
    chosen false after before good same = same

pub servers_run : ServersRun
servers_run layout steps place s at =
    let goes : Good s = all_at Good place (network_of layout steps).servers s at (networks_good layout steps) in (
      record { run = goes.run; none = goes.owes; going = goes.going; takes = goes.takes; counts = goes.counts },
      ap (λ servers. slice_get servers place) (sym (networks_keep layout steps)) ∙ map_at setting_at place (network_of layout steps).servers s at,
    )

pub steps_elsewhere_change_nothing : StepsElsewhereChangeNothing
unfolding network_of
steps_elsewhere_change_nothing layout steps e missing =
    ap (λ b. if b then with_step layout e (network_of layout steps) else network_of layout steps) missing
