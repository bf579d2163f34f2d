-- What is kept after each kind of step is the network after it.
use Rattle.std.proofs.Common.{◌≡◌, ℕ, Bool, true, List, [], ◌∷◌, ◌++◌, length, map, take, refl, sym, ap, ◌∙◌, subst, ◌≤◌, Option, Some, None, OnOk, Result, Ok, Err}
use Rattle.std.specs.Prelude.{slice_get}
use Rattle.std.specs.Option.{option_map}
use Rattle.std.proofs.lemmas.Bool.{false≢true}
use Rattle.aprs_base.specs.declared.events.Event.TheVariants as event
use Rattle.aprs_base.specs.declared.packets.ListenSpec.{ListenSpec}
use Rattle.link_queue.specs.Lines.{ended_line}
use Rattle.std.specs.List.{AllZip}
use Rattle.aprs_history.specs.Setting.{Setting}
use Rattle.net_history.specs.Places.{Each}
use Rattle.net_schedule.specs.Waiting.{Waits}
use Rattle.net_history.specs.declared.events.NetEvent.{NetEvent}
use Rattle.net_history.specs.declared.events.NetEvent.TheVariants as net
use Rattle.net_history.specs.declared.events.Pair.{Pair}
use Rattle.net_history.specs.Network.{Layout, NetSeen, ServerSeen, address_of, at_server, changed_at}
use Rattle.net_history.specs.Serving.{arrivals_at, with_round, without_arrivals}
use Rattle.net_history.proofs.StreamLemmas.{all_fewer, round_grows}
use Rattle.net_history.specs.Steps.{is_there, joined_at, may_carry, network_of, peering, with_carry, with_cut, with_join, with_cast, with_step}
use Rattle.net_schedule.specs.Asked.{HaveFewListens, HavePeers, kept_datagram, kept_is_there, kept_may_carry, kept_may_join, kept_opens, way_at}
use Rattle.net_schedule.specs.Joined.{HasFewListens, after_carry, after_cut, after_join, after_mail, way_carried, way_joined}
use Rattle.net_schedule.specs.Kept.{kept_arrival, kept_client}
use Rattle.net_schedule.specs.Running.{NetKept, ServerKept, WayKept, joined_of, layout_of, setting_in}
use Rattle.net_schedule.specs.Standing.{Goes, IsNetwork, IsOnItsWay, Keeps, StandsFor, brought_in, taken_in}
use Rattle.net_schedule.proofs.CarryLemmas.{carry_goes, mail_goes}
use Rattle.net_schedule.proofs.FactLemmas.{Facts, facts_of, waits_for}
use Rattle.net_schedule.proofs.FlowLemmas.{all_places, places_all, same_brought, way_joins}
use Rattle.net_schedule.proofs.ListLemmas.{on_ok}
use Rattle.net_schedule.proofs.StandLemmas.{told_there}
use Rattle.net_schedule.proofs.StepLemmas.{cut_goes, join_goes, open_goes, say_goes}
use Rattle.net_schedule.proofs.ThereLemmas.{joined_same, sender_has, way_there}

-- of a list whose first elements were written, as many as it has
pub rebuilt : {X : Type 0} (len : ℕ) (xs ys : List X) → length xs ≡ len → take len (xs ++ ys) ≡ xs
rebuilt len xs ys is = ap (λ k. take k (xs ++ ys)) (sym is) ∙ whole xs ys
  where
    whole : {X : Type 0} (xs ys : List X) → take (length xs) (xs ++ ys) ≡ xs
    whole [] ys = refl
    whole (x ∷ xs) ys = ap (λ zs. x ∷ zs) (whole xs ys)

-- a result, and what was and is kept, by their other names
pub moved : {T E X : Type 0} (f : X → X) (was old now new : X) (r called : Result T E) → r ≡ called → new ≡ now → was ≡ old → OnOk called (now ≡ f was) → OnOk r (new ≡ f old)
moved f was old now new r called is new_is was_is done = subst (λ q. OnOk q (new ≡ f old)) (sym is) (on_ok called (λ eq. new_is ∙ eq ∙ ap f was_is) done)

pub both_moved : {T E X Y : Type 0} (P : X → Y → Type 0) (x x' : X) (y y' : Y) (r called : Result T E) → r ≡ called → x' ≡ x → y' ≡ y → OnOk called (P x y) → OnOk r (P x' y')
both_moved P x x' y y' r called is xs ys done = subst (λ q. OnOk q (P x' y')) (sym is) (on_ok called (λ p. subst (λ z. P z y') (sym xs) (subst (P x) (sym ys) p)) done)

both_ok : {T E : Type 0} (P Q : Type 0) (r : Result T E) → OnOk r P → OnOk r Q → OnOk r (P × Q)
both_ok P Q (Ok x) p q = (p, q)
both_ok P Q (Err e) p q = tt

pub two_moved : {T E X Y : Type 0} (f : X → X) (g : X → Y → Y) (was old now new : X) (was' old' now' new' : Y) (r called : Result T E) → r ≡ called → new ≡ now → new' ≡ now' → was ≡ old → was' ≡ old' → OnOk called (now ≡ f was) → OnOk called (now' ≡ g was was')
    → OnOk r ((new ≡ f old) × (new' ≡ g old old'))
two_moved f g was old now new was' old' now' new' r called is new_is new_is' was_is was_is' done done' =
    subst (λ q. OnOk q ((new ≡ f old) × (new' ≡ g old old'))) (sym is)
    (both_ok _ _ called (on_ok called (λ eq. new_is ∙ eq ∙ ap f was_is) done) (on_ok called (λ eq. new_is' ∙ eq ∙ ap (λ x. g x was') was_is ∙ ap (g old) was_is') done'))

pub two_by : {T E X Y : Type 0} (f : Y → X → X) (g : Y → Y) (was old now new : X) (was' old' now' new' : Y) (r called : Result T E) → r ≡ called → new ≡ now → new' ≡ now' → was ≡ old → was' ≡ old' → OnOk called (now ≡ f was' was) → OnOk called (now' ≡ g was')
    → OnOk r ((new ≡ f old' old) × (new' ≡ g old'))
two_by f g was old now new was' old' now' new' r called is new_is new_is' was_is was_is' done done' =
    subst (λ q. OnOk q ((new ≡ f old' old) × (new' ≡ g old'))) (sym is)
    (both_ok _ _ called (on_ok called (λ eq. new_is ∙ eq ∙ ap (λ y. f y was) was_is' ∙ ap (f old') was_is) done) (on_ok called (λ eq. new_is' ∙ eq ∙ ap g was_is') done'))

fits : (new : NetKept) (m : NetSeen) (servers : List ServerKept) (ways : List (Option WayKept)) → new.servers ≡ servers → new.ways ≡ ways → Goes (brought_in m) servers ways m → IsNetwork new m
fits new m servers ways same same' goes =
    subst (λ xs. Goes (brought_in m) xs new.ways m) (sym same) (subst (λ xs. Goes (brought_in m) servers xs m) (sym same') goes)

round_goes : (layout : Layout) (n : NetSeen) (facts : Facts layout n) (server moment : ℕ) (servers : List ServerKept) (ways : List (Option WayKept)) → let after = with_round server moment n in
    Goes (brought_in n) servers ways after → Goes (brought_in after) servers ways after
round_goes layout n facts server moment servers ways goes =
    let after = with_round server moment n in
    record {
      servers = goes.servers;
      joins = goes.joins;
      flows = places_all (IsOnItsWay (brought_in after) (taken_in after)) ways (λ i way at. one i way at (all_places (IsOnItsWay (brought_in n) (taken_in after)) ways goes.flows i way at));
    }
  where
    one : (i : ℕ) (way : Option WayKept) → slice_get ways i ≡ Some way → IsOnItsWay (brought_in n) (taken_in (with_round server moment n)) way → IsOnItsWay (brought_in (with_round server moment n)) (taken_in (with_round server moment n)) way
    one i None at flows = tt
    one i (Some way) at flows =
        let after = with_round server moment n in
        let grow = round_grows server moment n in
        let fewer = all_fewer server (arrivals_at (slice_get n.servers server) ++ event.Tick moment ∷ []) (at_server without_arrivals server n) in
        let ends = facts.kept.ends i (joined_of way) (fewer i (joined_of way) (ap (λ pairs. slice_get pairs i) (sym goes.joins) ∙ way_joins ways i way at)) in (
          ap (λ bytes. bytes ++ way.up) (same_brought n after way.high way.low grow ends.1) ∙ flows.0,
          ap (λ bytes. bytes ++ way.down) (same_brought n after way.low way.high grow ends.0) ∙ flows.1,
        )

module _ (self : NetKept) (steps : List NetEvent) (stands : StandsFor self steps) (peers : HavePeers (layout_of self)) (e : NetEvent) (told : kept_is_there self e ≡ true) {T E : Type 0} (r : Result T E) (new : NetKept) where
  abbrev layout : Layout
  layout = layout_of self

  abbrev n : NetSeen
  n = network_of layout steps

  facts : Facts layout n
  facts = facts_of layout steps

  there : is_there layout n e ≡ true
  there = sym (told_there self steps stands peers e) ∙ told

  abbrev After : Type 0
  After = OnOk r (IsNetwork new (with_step layout e n))

  pub opened : (server listener : ℕ) (call : List ℕ) → e ≡ net.Open server listener call → new.ways ≡ self.ways
      → (kept_opens listener (slice_get self.servers server) ≡ true → OnOk r (new.servers ≡ changed_at (kept_client listener (address_of server) call) server self.servers)) → After
  opened server listener call is ways done =
      on_ok r (λ servers. subst (λ x. IsNetwork new (with_step layout x n)) (sym is) (fits new _ _ self.ways servers ways (open_goes layout self n facts stands server listener call)))
      (done (sym (ap (kept_is_there self) is) ∙ told))

  pub said : (server link : ℕ) (line : List ℕ) → e ≡ net.Say server link line → new.ways ≡ self.ways → OnOk r (new.servers ≡ changed_at (kept_arrival (event.Bytes link (ended_line line))) server self.servers) → After
  said server link line is ways done =
      on_ok r (λ servers. subst (λ x. IsNetwork new (with_step layout x n)) (sym is)
      (fits new _ _ self.ways servers ways (say_goes layout self n facts stands server link (ended_line line) (sym (ap (is_there layout n) is) ∙ there)))) done

  pub joined : (number : ℕ) (pair : Pair) → e ≡ net.Join number → slice_get self.pairs number ≡ Some pair
      → (kept_may_join self.servers (Some pair) ≡ true → OnOk r ((new.servers ≡ after_join pair self.servers) × (new.ways ≡ changed_at (way_joined pair self.servers) number self.ways))) → After
  joined number pair is at done =
      let may = ap (kept_may_join self.servers) (sym at) ∙ sym (ap (kept_is_there self) is) ∙ told in
      let may' = ap (Rattle.net_history.specs.Steps.may_join n) (sym at) ∙ sym (ap (is_there layout n) is) ∙ there in
      on_ok r (λ both. subst (λ x. IsNetwork new (with_step layout x n)) (sym is)
      (subst (λ p. IsNetwork new (with_join number p n)) (sym at) (fits new _ _ _ both.0 both.1 (join_goes layout self n facts stands number pair may')))) (done may)

  pub came_round : (server moment : ℕ) → e ≡ net.Round server moment → OnOk r (Goes (brought_in n) new.servers new.ways (with_round server moment n)) → After
  came_round server moment is done = on_ok r (λ goes. subst (λ x. IsNetwork new (with_step layout x n)) (sym is) (round_goes layout n facts server moment new.servers new.ways goes)) done

  pub unpaired : (number : ℕ) → e ≡ net.Join number → slice_get self.pairs number ≡ None → After
  unpaired number is none = absurd (false≢true (ap (kept_may_join self.servers) (sym none) ∙ sym (ap (kept_is_there self) is) ∙ told))

  cut_at : (number : ℕ) (o : Option WayKept) → way_at number self.ways ≡ o → Rattle.std.specs.Prelude.is_some o ≡ true
      → OnOk r ((new.servers ≡ after_cut o self.servers) × (new.ways ≡ changed_at (λ way. None) number self.ways)) → OnOk r (IsNetwork new (with_cut number (joined_at number n) n))
  cut_at number None at some done = absurd (false≢true some)
  cut_at number (Some way) at some done =
      on_ok r (λ both. subst (λ o. IsNetwork new (with_cut number o n)) (sym (joined_same layout self n facts stands number ∙ ap (option_map joined_of) at)) (fits new _ _ _ both.0 both.1 (cut_goes layout self n facts stands number way))) done

  pub parted : (number : ℕ) → e ≡ net.Cut number → OnOk r ((new.servers ≡ after_cut (way_at number self.ways) self.servers) × (new.ways ≡ changed_at (λ way. None) number self.ways)) → After
  parted number is done = subst (λ x. OnOk r (IsNetwork new (with_step layout x n))) (sym is) (cut_at number (way_at number self.ways) refl (sym (ap (kept_is_there self) is) ∙ told) done)

  carry_at : (number : ℕ) (up : Bool) (k : ℕ) (o : Option WayKept) → way_at number self.ways ≡ o → kept_may_carry up k o ≡ true
      → OnOk r ((new.servers ≡ after_carry up k o self.servers) × (new.ways ≡ changed_at (way_carried up k) number self.ways)) → OnOk r (IsNetwork new (with_carry up k (joined_at number n) n))
  carry_at number up k None at may done = absurd (false≢true may)
  carry_at number up k (Some way) at may done =
      on_ok r (λ both. subst (λ o. IsNetwork new (with_carry up k o n)) (sym (joined_same layout self n facts stands number ∙ ap (option_map joined_of) at))
      (fits new _ _ _ both.0 both.1 (carry_goes layout self n facts stands number way (way_there layout self n facts stands number way at) up k))) done

  pub carried : (number : ℕ) (up : Bool) (k : ℕ) → e ≡ net.Carry number up k
      → (kept_may_carry up k (way_at number self.ways) ≡ true → OnOk r ((new.servers ≡ after_carry up k (way_at number self.ways) self.servers) × (new.ways ≡ changed_at (way_carried up k) number self.ways))) → After
  carried number up k is done =
      let may = sym (ap (kept_is_there self) is) ∙ told in
      subst (λ x. OnOk r (IsNetwork new (with_step layout x n))) (sym is) (carry_at number up k (way_at number self.ways) refl may (done may))

  pub mailed : (from to k : ℕ) (numbers : ℕ × ℕ) → e ≡ net.Cast from to k → peering from to self.peers ≡ Some numbers → new.ways ≡ self.ways
      → OnOk r (new.servers ≡ after_mail to numbers.1 (option_map ended_line (kept_datagram k (slice_get self.servers from))) self.servers) → After
  mailed from to k numbers is at ways done =
      on_ok r (λ servers. subst (λ x. IsNetwork new (with_step layout x n)) (sym is) (subst (λ o. IsNetwork new (with_cast from to k o n)) (sym at)
      (fits new _ _ self.ways servers ways (mail_goes layout self n facts stands from to k numbers (sender_has layout self n facts stands peers from to numbers at))))) done

  pub unpeered : (from to k : ℕ) → e ≡ net.Cast from to k → peering from to self.peers ≡ None → After
  unpeered from to k is none = absurd (false≢true (ap (Rattle.net_schedule.specs.Asked.kept_may_cast self.servers from k) (sym none) ∙ sym (ap (kept_is_there self) is) ∙ told))

-- ---- what the steps ask for

pub waits_round : (self : NetKept) (steps : List NetEvent) → StandsFor self steps → HavePeers (layout_of self) → (e : NetEvent) → kept_is_there self e ≡ true → (server moment : ℕ) → e ≡ net.Round server moment → Waits server (network_of (layout_of self) steps)
waits_round self steps stands peers e told server moment is =
    let n = network_of (layout_of self) steps in
    waits_for (layout_of self) n (facts_of (layout_of self) steps) server (sym (ap (is_there (layout_of self) n) is) ∙ (sym (told_there self steps stands peers e) ∙ told))

few_each : (servers : List ServerKept) (ss : List ServerSeen) → AllZip (Keeps []) servers ss → Each (λ (setting : Setting). length setting.listens ≤ 65536) (map setting_in servers) → Each HasFewListens servers
few_each [] [] all few = tt
few_each [] (s ∷ ss) all few = absurd all
few_each (kept ∷ servers) [] all few = absurd all
few_each (kept ∷ servers) (s ∷ ss) all few =
    (subst (λ (xs : List ListenSpec). length xs ≤ 65536) (ap (λ (setting : Setting). setting.listens) all.0.setting ∙ sym all.0.listens) few.0, few_each servers ss all.1 few.1)

pub few_listens : (self : NetKept) (steps : List NetEvent) → StandsFor self steps → HaveFewListens (layout_of self) → Each HasFewListens self.servers
few_listens self steps stands few = few_each self.servers (network_of (layout_of self) steps).servers stands.servers few
