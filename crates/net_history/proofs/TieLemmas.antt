-- Each link that was made for a pair is tied to the link at its other end.
use Rattle.std.proofs.Common.{◌≡◌, ℕ, zero, suc, Bool, true, false, List, [], ◌∷◌, ◌++◌, length, map, refl, sym, ap, ◌∙◌, subst, Option, Some, None, ◌⊎◌, inl, inr, ⊎_elim, if◌then◌else◌}
use Rattle.std.specs.Prelude.{slice_get}
use Rattle.aprs_base.specs.declared.events.Event.{Event}
use Rattle.aprs_base.specs.declared.events.Event.TheVariants as event
use Rattle.aprs_base.specs.declared.events.Happening.TheVariants as did
use Rattle.aprs_history.specs.Acts.{Act, Listens, Dials, Casts, Offers, SendsLine, Closes}
use Rattle.net_history.specs.declared.events.Pair.{Pair}
use Rattle.net_history.specs.declared.events.NetEvent.{NetEvent}
use Rattle.net_history.specs.declared.events.NetEvent.TheVariants as net
use Rattle.net_history.specs.Network.{End, ForClient, ForPair, JoinedSeen, Layout, Made, NetSeen, ServerSeen, address_of, at_server, changed_at, end_beyond, new_server, number_of, parted_at, with_arrival}
use Rattle.net_history.specs.Serving.{arrivals_at, due_at, happening_of, told_of_end, with_act, with_acts, with_all, with_dial, with_effect, with_event, with_happening, with_round, without_arrivals}
use Rattle.net_history.specs.Steps.{datagram_at, ends_at, high_end, is_there, joined_at, low_end, may_join, network_of, next_place, peering, with_carry, with_cast, with_client, with_cut, with_datagram, with_downlink, with_join, with_mail, with_step, with_uplink}
use Rattle.net_history.proofs.PlaceLemmas.{map_at, map_changed}
use Rattle.net_history.proofs.BetweenLemmas.{at_changed, at_longer, at_mapped, none_some}
use Rattle.net_history.proofs.StreamLemmas.{high_has, high_there, low_has, low_there, opener}

abbrev pub made_at : ServerSeen → List Made
made_at s = s.made

abbrev pub mades : NetSeen → List (List Made)
mades n = map made_at n.servers

-- ---- most steps make no link

same_made : (change : ServerSeen → ServerSeen) → ((s : ServerSeen) → made_at (change s) ≡ made_at s) → (server : ℕ) (n : NetSeen) → mades (at_server change server n) ≡ mades n
same_made change same server n = map_changed made_at change same server n.servers

told_same : (end : Option End) (n : NetSeen) → mades (told_of_end end n) ≡ mades n
told_same None n = refl
told_same (Some end) n = same_made (with_arrival (event.Ended (number_of end))) (λ s. refl) end.server n

effect_same : (server : ℕ) (act : Act) (n : NetSeen) → mades (with_effect server act n) ≡ mades n
effect_same server (Listens number) n = refl
effect_same server (Dials uplink) n = same_made (with_dial uplink) (λ s. refl) server n
effect_same server (Casts peer bytes) n = refl
effect_same server (Offers link bytes) n = refl
effect_same server (SendsLine link line) n = refl
effect_same server (Closes link) n = told_same (end_beyond server link n.pairs) (record n { pairs = map (parted_at server link) n.pairs })

acts_same : (server : ℕ) (acts : List Act) (n : NetSeen) → mades (with_acts server acts n) ≡ mades n
acts_same server [] n = refl
acts_same server (act ∷ acts) n =
    acts_same server acts (with_act server act n) ∙ effect_same server act (at_server (with_happening (happening_of act)) server n) ∙ same_made (with_happening (happening_of act)) (λ s. refl) server n

all_same : (server : ℕ) (events : List Event) (n : NetSeen) → mades (with_all server events n) ≡ mades n
all_same server [] n = refl
all_same server (e ∷ events) n =
    let after = at_server (with_happening (did.Event e)) server n in
    all_same server events (with_event server e n) ∙ acts_same server (due_at (slice_get after.servers server)) after ∙ same_made (with_happening (did.Event e)) (λ s. refl) server n

pub round_same : (server moment : ℕ) (n : NetSeen) → mades (with_round server moment n) ≡ mades n
round_same server moment n = all_same server (arrivals_at (slice_get n.servers server) ++ event.Tick moment ∷ []) (at_server without_arrivals server n) ∙ same_made without_arrivals (λ s. refl) server n

cut_same : (number : ℕ) (joined : Option JoinedSeen) (n : NetSeen) → mades (with_cut number joined n) ≡ mades n
cut_same number None n = refl
cut_same number (Some joined) n =
    same_made (with_arrival (event.Ended (number_of joined.high))) (λ s. refl) joined.high.server (ends_at joined.low n)
    ∙ same_made (with_arrival (event.Ended (number_of joined.low))) (λ s. refl) joined.low.server n

carry_same : (up : Bool) (k : ℕ) (joined : Option JoinedSeen) (n : NetSeen) → mades (with_carry up k joined n) ≡ mades n
carry_same up k None n = refl
carry_same up k (Some joined) n = same_made (with_arrival _) (λ s. refl) _ n

cast_same : (from to k : ℕ) (numbers : Option (ℕ × ℕ)) (n : NetSeen) → mades (with_cast from to k numbers n) ≡ mades n
cast_same from to k None n = refl
cast_same from to k (Some numbers) n = of (datagram_at numbers.0 k (slice_get n.servers from))
  where
    of : (bytes : Option (List ℕ)) → mades (with_mail to numbers.1 bytes n) ≡ mades n
    of None = refl
    of (Some bytes) = same_made (with_datagram numbers.1 bytes) (λ s. refl) to n

-- ---- ties

abbrev pub IsTied : List (List Made) → End → End → Type 0
IsTied all end other = (made : List Made) × (slice_get all end.server ≡ Some made) × (slice_get made end.place ≡ Some (ForPair other))

abbrev pub Tied : List (List Made) → Type 0
Tied all = (server place : ℕ) (made : List Made) (end : End) → slice_get all server ≡ Some made → slice_get made place ≡ Some (ForPair end) → IsTied all end (record { server = server; place = place })

-- one link more
abbrev more : Made → List Made → List Made
more m made = made ++ m ∷ []

map_more : (change : ServerSeen → ServerSeen) (m : Made) → ((s : ServerSeen) → made_at (change s) ≡ more m (made_at s)) → (server : ℕ) (xs : List ServerSeen) → map made_at (changed_at change server xs) ≡ changed_at (more m) server (map made_at xs)
map_more change m is server [] = refl
map_more change m is zero (x ∷ xs) = ap (λ y. y ∷ map made_at xs) (is x)
map_more change m is (suc server) (x ∷ xs) = ap (λ ys. made_at x ∷ ys) (map_more change m is server xs)

pub at_last : {X : Type 0} (xs : List X) (x : X) (place : ℕ) (z : X) → slice_get (xs ++ x ∷ []) place ≡ Some z → (slice_get xs place ≡ Some z) ⊎ ((place ≡ length xs) × (x ≡ z))
at_last [] x zero z e = let same : x ≡ z = cc in inr (refl, same)
at_last [] x (suc place) z e = absurd (none_some z e)
at_last (y ∷ xs) x zero z e = inl e
at_last (y ∷ xs) x (suc place) z e = ⊎_elim (λ l. inl l) (λ is. inr (ap suc is.0, is.1)) (at_last xs x place z e)

-- what was there is there still
made_still : (m : Made) (i j place : ℕ) (all : List (List Made)) (made : List Made) (x : Made) → slice_get all j ≡ Some made → slice_get made place ≡ Some x
    → (made' : List Made) × (slice_get (changed_at (more m) i all) j ≡ Some made') × (slice_get made' place ≡ Some x)
made_still m i j place [] made x at there = absurd (none_some made at)
made_still m zero zero place (y ∷ all) made x at there = let same : y ≡ made = cc in (more m y, refl, at_longer y (m ∷ []) place x (subst (λ z. slice_get z place ≡ Some x) (sym same) there))
made_still m zero (suc j) place (y ∷ all) made x at there = (made, at, there)
made_still m (suc i) zero place (y ∷ all) made x at there = (made, at, there)
made_still m (suc i) (suc j) place (y ∷ all) made x at there = made_still m i j place all made x at there

tie_still : (m : Made) (i : ℕ) (all : List (List Made)) (end other : End) → IsTied all end other → IsTied (changed_at (more m) i all) end other
tie_still m i all end other tied = made_still m i end.server end.place all tied.0 (ForPair other) tied.1 tied.2

-- a link of one with one more is an old one, or that one
record WasOrIs (m : Made) (i : ℕ) (all : List (List Made)) (server place : ℕ) (x : Made) : Type 0 where
  before : List Made
  at : slice_get all server ≡ Some before
  it : (slice_get before place ≡ Some x) ⊎ ((i ≡ server) × (place ≡ length before) × (m ≡ x))

was_or_is : (m : Made) (i : ℕ) (all : List (List Made)) (server place : ℕ) (made : List Made) (x : Made) → slice_get (changed_at (more m) i all) server ≡ Some made → slice_get made place ≡ Some x → WasOrIs m i all server place x
was_or_is m i all server place made x at there =
    let was = at_changed (more m) i server all made at in
    record {
      before = was.0;
      at = was.1;
      it = ⊎_elim
          (λ here. ⊎_elim (λ old. inl old) (λ new. inr (here.0, new.0, new.1)) (at_last was.0 m place x (ap (λ z. slice_get z place) (sym here.1) ∙ there)))
          (λ other. inl (ap (λ z. slice_get z place) (sym other.1) ∙ there))
          was.2;
    }

open_tied : (server listener : ℕ) (call : List ℕ) (n : NetSeen) → Tied (mades n) → Tied (mades (at_server (with_client listener (address_of server) call) server n))
open_tied server listener call n tied = subst Tied (sym (map_more (with_client listener (address_of server) call) ForClient (λ s. refl) server n.servers)) (λ at place made end there is.
    let was = was_or_is ForClient server (mades n) at place made (ForPair end) there is in
    ⊎_elim
    (λ old. tie_still ForClient server (mades n) end (record { server = at; place = place }) (tied at place was.before end was.at old))
    (λ new. absurd (differ end new.2))
    was.it)
  where
    differ : (end : End) → ForClient ≡ ForPair end → ⊥
    differ end e = cc

module _ (number : ℕ) (pair : Pair) (n : NetSeen) (may : may_join n (Some pair) ≡ true) (tied : Tied (mades n)) where
  abbrev low : End
  low = low_end pair n

  abbrev high : End
  high = high_end pair n

  abbrev one : List (List Made)
  one = changed_at (more (ForPair high)) pair.low (mades n)

  abbrev two : List (List Made)
  two = changed_at (more (ForPair low)) pair.high one

  abbrev with_low : List ServerSeen
  with_low = changed_at (with_uplink pair.uplink (address_of pair.high) high) pair.low n.servers

  one_is : map made_at with_low ≡ one
  one_is = map_more (with_uplink pair.uplink (address_of pair.high) high) (ForPair high) (λ s. refl) pair.low n.servers

  two_is : mades (with_join number (Some pair) n) ≡ two
  two_is = map_more (with_downlink pair.listener (address_of pair.low) low) (ForPair low) (λ s. refl) pair.high with_low ∙ ap (changed_at (more (ForPair low)) pair.high) one_is

  at_low : (s : ServerSeen) × (slice_get n.servers pair.low ≡ Some s)
  at_low = low_there n pair may

  at_high : (s : ServerSeen) × (slice_get n.servers pair.high ≡ Some s)
  at_high = high_there n pair may

  pair_same : (a b : End) → ForPair a ≡ ForPair b → a ≡ b
  pair_same a b e = cc

  end_is : (server place : ℕ) (end : End) → server ≡ end.server → place ≡ end.place → ◌≡◌ {A = End} (record { server = server; place = place }) end
  end_is server place end e f = ap (λ i. record { server = i; place = place }) e ∙ ap (λ p. record { server = end.server; place = p }) f

  low_tied : IsTied two low high
  low_tied =
      let has = low_has number pair n at_low.0 at_high.0 at_low.1 at_high.1 in
      (has.0.made, ap (λ all. slice_get all pair.low) (sym two_is) ∙ map_at made_at pair.low (with_join number (Some pair) n).servers has.0 has.1, has.2)

  high_tied : IsTied two high low
  high_tied =
      let has = high_has number pair n at_low.0 at_high.0 at_low.1 at_high.1 in
      (has.0.made, ap (λ all. slice_get all pair.high) (sym two_is) ∙ map_at made_at pair.high (with_join number (Some pair) n).servers has.0 has.1, has.2)

  opens_at : (made : List Made) → slice_get one pair.high ≡ Some made → length made ≡ high.place
  opens_at made at =
      let u = opener number pair n at_low.0 at_high.0 at_low.1 at_high.1 in
      let same : Some u.0.made ≡ Some made = sym (map_at made_at pair.high with_low u.0 u.1) ∙ ap (λ all. slice_get all pair.high) one_is ∙ at in
      let its : u.0.made ≡ made = cc in
      ap length (sym its) ∙ u.2

  joins_at : (made : List Made) → slice_get (mades n) pair.low ≡ Some made → length made ≡ low.place
  joins_at made at =
      let same : Some at_low.0.made ≡ Some made = sym (map_at made_at pair.low n.servers at_low.0 at_low.1) ∙ at in
      let its : at_low.0.made ≡ made = cc in
      ap length (sym its) ∙ ap next_place (sym at_low.1)

  tied_before : (server place : ℕ) (made : List Made) (end : End) → slice_get one server ≡ Some made → slice_get made place ≡ Some (ForPair end) → IsTied two end (record { server = server; place = place })
  tied_before server place made end at its =
      let was = was_or_is (ForPair high) pair.low (mades n) server place made (ForPair end) at its in
      ⊎_elim
      (λ old. tie_still (ForPair low) pair.high one end (record { server = server; place = place })
      (tie_still (ForPair high) pair.low (mades n) end (record { server = server; place = place }) (tied server place was.before end was.at old)))
      (λ new.
      let here = end_is server place low (sym new.0) (new.1 ∙ joins_at was.before (ap (slice_get (mades n)) new.0 ∙ was.at)) in
      subst (λ e. IsTied two e (record { server = server; place = place })) (pair_same high end new.2) (subst (λ e. IsTied two high e) (sym here) high_tied))
      was.it

  tied_after : Tied two
  tied_after server place made end at its =
      let was = was_or_is (ForPair low) pair.high one server place made (ForPair end) at its in
      ⊎_elim
      (λ old. tied_before server place was.before end was.at old)
      (λ new.
      let here = end_is server place high (sym new.0) (new.1 ∙ opens_at was.before (ap (slice_get one) new.0 ∙ was.at)) in
      subst (λ e. IsTied two e (record { server = server; place = place })) (pair_same low end new.2) (subst (λ e. IsTied two low e) (sym here) low_tied))
      was.it

join_tied : (number : ℕ) (pair : Option Pair) (n : NetSeen) → may_join n pair ≡ true → Tied (mades n) → Tied (mades (with_join number pair n))
join_tied number None n may tied = tied
join_tied number (Some pair) n may tied = subst Tied (sym (two_is number pair n may tied)) (tied_after number pair n may tied)

step_tied : (layout : Layout) (e : NetEvent) (n : NetSeen) → is_there layout n e ≡ true → Tied (mades n) → Tied (mades (with_step layout e n))
step_tied layout (net.Open server listener call) n there tied = open_tied server listener call n tied
step_tied layout (net.Say server link line) n there tied = subst Tied (sym (same_made (with_arrival _) (λ s. refl) server n)) tied
step_tied layout (net.Round server moment) n there tied = subst Tied (sym (round_same server moment n)) tied
step_tied layout (net.Join pair) n there tied = join_tied pair (slice_get layout.pairs pair) n there tied
step_tied layout (net.Cut pair) n there tied = subst Tied (sym (cut_same pair (joined_at pair n) n)) tied
step_tied layout (net.Carry pair up k) n there tied = subst Tied (sym (carry_same up k (joined_at pair n) n)) tied
step_tied layout (net.Cast from to k) n there tied = subst Tied (sym (cast_same from to k (peering from to layout.peers) n)) tied

-- at first no link is made
new_tied : (layout : Layout) → Tied (mades (network_of layout []))
unfolding network_of
new_tied layout server place made end at there =
    let s = at_mapped made_at (map new_server layout.servers) server made at in
    let setting = at_mapped new_server layout.servers server s.0 s.1 in
    let none : [] ≡ made = ap made_at setting.2 ∙ s.2 in
    absurd (nowhere place (ForPair end) (ap (λ m. slice_get m place) none ∙ there))
  where
    nowhere : (place : ℕ) (m : Made) → slice_get {X = Made} [] place ≡ Some m → ⊥
    nowhere place m e = none_some m e

pub networks_tied : (layout : Layout) (steps : List NetEvent) → Tied (mades (network_of layout steps))
unfolding network_of
networks_tied layout [] = new_tied layout
networks_tied layout (e ∷ steps) =
    let n = network_of layout steps in
    chosen (is_there layout n e) (with_step layout e n) n (λ there. step_tied layout e n there (networks_tied layout steps)) (networks_tied layout steps)
  where
    chosen : (b : Bool) (after before : NetSeen) → (b ≡ true → Tied (mades after)) → Tied (mades before) → Tied (mades (if b then after else before))
    chosen true after before tied same = tied refl
    chosen false after before tied same = same
