-- Each link is an end of one pair at most, and the two ends of a pair are two links.
use Rattle.std.proofs.Common.{◌≡◌, ◌≢◌, ℕ, ◌+◌, ◌<◌, ◌≤◌, ◌==◌, Bool, true, false, List, [], ◌∷◌, ◌++◌, refl, sym, ap, ◌∙◌, subst, arith, Option, Some, None, ◌⊎◌, inl, inr, ⊎_elim, if◌then◌else◌}
use Rattle.std.specs.Prelude.{slice_get}
use Rattle.aprs_base.specs.declared.events.Event.TheVariants as event
use Rattle.net_history.specs.declared.events.Pair.{Pair}
use Rattle.net_history.specs.declared.events.NetEvent.{NetEvent}
use Rattle.net_history.specs.declared.events.NetEvent.TheVariants as net
use Rattle.net_history.specs.Apart.{Apart, HasTwoEnds, IsEndOf}
use Rattle.net_history.specs.Network.{End, ForPair, JoinedSeen, Layout, NetSeen, at_server, changed_at, new_network, unjoined}
use Rattle.net_history.specs.Serving.{arrivals_at, without_arrivals}
use Rattle.net_history.specs.Steps.{datagram_at, high_end, is_there, joined_at, joined_by, low_end, network_of, next_place, peering, with_carry, with_cast, with_cut, with_join, with_mail, with_step}
use Rattle.net_history.proofs.PlaceLemmas.{some_same}
use Rattle.net_history.proofs.BetweenLemmas.{at_changed, at_mapped, none_some, place_below}
use Rattle.net_history.proofs.GrowthLemmas.{Ends, HasEnd}
use Rattle.net_history.proofs.StreamLemmas.{Fewer, all_fewer, cut_fewer, eqb_same, networks_kept}

record Parts (n : NetSeen) : Type 0 where
  apart : Apart n
  two : HasTwoEnds n

parts_fewer : (n m : NetSeen) → Fewer n.pairs m.pairs → Parts n → Parts m
parts_fewer n m fewer parts = record {
  apart = λ i j a b at_i at_j other end of_a of_b. parts.apart i j a b (fewer i a at_i) (fewer j b at_j) other end of_a of_b;
  two = λ i joined there. parts.two i joined (fewer i joined there);
}

parts_same : (n m : NetSeen) → m.pairs ≡ n.pairs → Parts n → Parts m
parts_same n m same parts = parts_fewer n m (λ pair joined there. ap (λ pairs. slice_get pairs pair) (sym same) ∙ there) parts

-- ---- a pair joins, at places that no link has yet

clash : (place next : ℕ) → place < next → next ≤ place → ⊥
clash place next below past = omega (arith, below, past)

module _ (number : ℕ) (pair : Pair) (n : NetSeen) (ends : Ends n) (parts : Parts n) where
  abbrev new : JoinedSeen
  new = record { low = low_end pair n; high = high_end pair n }

  abbrev next_of : End → ℕ
  next_of end = next_place (slice_get n.servers end.server)

  above : (k : ℕ) (b : Bool) → k ≤ k + (if b then 1 else 0)
  above k true = omega arith
  above k false = omega arith

  new_past : (end : End) → IsEndOf end new → next_of end ≤ end.place
  new_past end (inl is) = subst (λ e. next_of e ≤ e.place) (sym is) (omega arith)
  new_past end (inr is) = subst (λ e. next_of e ≤ e.place) (sym is) (above (next_place (slice_get n.servers pair.high)) (pair.low == pair.high))

  has_below : (end other : End) → HasEnd n.servers end other → end.place < next_of end
  has_below end other has = subst (λ found. end.place < next_place found) (sym has.1) (place_below has.0.made end.place (ForPair other) has.2)

  old_below : (i : ℕ) (joined : JoinedSeen) → slice_get n.pairs i ≡ Some (Some joined) → (end : End) → IsEndOf end joined → end.place < next_of end
  old_below i joined there end (inl is) = subst (λ e. e.place < next_of e) (sym is) (has_below joined.low joined.high (ends i joined there).0)
  old_below i joined there end (inr is) = subst (λ e. e.place < next_of e) (sym is) (has_below joined.high joined.low (ends i joined there).1)

  -- a joined pair is one from before, or this one
  was_or_new : (i : ℕ) (joined : JoinedSeen) → slice_get (changed_at (joined_by new.low new.high) number n.pairs) i ≡ Some (Some joined)
      → (slice_get n.pairs i ≡ Some (Some joined)) ⊎ ((number ≡ i) × (joined ≡ new))
  was_or_new i joined there =
      let was = at_changed (joined_by new.low new.high) number i n.pairs (Some joined) there in
      ⊎_elim
      (λ here. inr (here.0, some_same joined new here.1))
      (λ other. inl (was.1 ∙ ap Some (sym other.1)))
      was.2

  join_apart : Apart (with_join number (Some pair) n)
  join_apart i j a b at_i at_j other end of_a of_b = of (was_or_new i a at_i) (was_or_new j b at_j)
    where
      of : (slice_get n.pairs i ≡ Some (Some a)) ⊎ ((number ≡ i) × (a ≡ new)) → (slice_get n.pairs j ≡ Some (Some b)) ⊎ ((number ≡ j) × (b ≡ new)) → ⊥
      of (inl old) (inl also) = parts.apart i j a b old also other end of_a of_b
      of (inl old) (inr its) = clash end.place (next_of end) (old_below i a old end of_a) (new_past end (subst (IsEndOf end) its.1 of_b))
      of (inr its) (inl old) = clash end.place (next_of end) (old_below j b old end of_b) (new_past end (subst (IsEndOf end) its.1 of_a))
      of (inr its) (inr also) = other (sym its.0 ∙ also.0)

  -- where a server joins itself, the high end is the next link
  new_two : new.low ≢ new.high
  new_two is =
      let same : pair.low ≡ pair.high = ap (λ (e : End). e.server) is in
      let places : next_place (slice_get n.servers pair.low) ≡ next_place (slice_get n.servers pair.high) + (if pair.low == pair.high then 1 else 0) = ap (λ (e : End). e.place) is in
      let next : next_place (slice_get n.servers pair.low) ≡ next_place (slice_get n.servers pair.high) = ap (λ i. next_place (slice_get n.servers i)) same in
      let one : ◌≡◌ {A = ℕ} (if pair.low == pair.high then 1 else 0) 1 = ap {B = ℕ} (λ b. if b then 1 else 0) (ap (λ i. i == pair.high) same ∙ eqb_same pair.high) in
      omega (arith, places, next, one)

  join_two : HasTwoEnds (with_join number (Some pair) n)
  join_two i joined there = ⊎_elim
      (λ old. parts.two i joined old)
      (λ its. subst (λ j. j.low ≢ j.high) (sym its.1) new_two)
      (was_or_new i joined there)

-- ---- all steps

join_parts : (number : ℕ) (pair : Option Pair) (n : NetSeen) → Ends n → Parts n → Parts (with_join number pair n)
join_parts number None n ends parts = parts
join_parts number (Some pair) n ends parts = record { apart = join_apart number pair n ends parts; two = join_two number pair n ends parts }

cut_parts : (number : ℕ) (joined : Option JoinedSeen) (n : NetSeen) → Parts n → Parts (with_cut number joined n)
cut_parts number None n parts = parts
cut_parts number (Some joined) n parts = parts_fewer n (with_cut number (Some joined) n) (cut_fewer number n.pairs) parts

carry_parts : (up : Bool) (k : ℕ) (joined : Option JoinedSeen) (n : NetSeen) → Parts n → Parts (with_carry up k joined n)
carry_parts up k None n parts = parts
carry_parts up k (Some joined) n parts = parts_same n (with_carry up k (Some joined) n) refl parts

mail_parts : (to peer : ℕ) (bytes : Option (List ℕ)) (n : NetSeen) → Parts n → Parts (with_mail to peer bytes n)
mail_parts to peer None n parts = parts
mail_parts to peer (Some bytes) n parts = parts_same n (with_mail to peer (Some bytes) n) refl parts

cast_parts : (from to k : ℕ) (numbers : Option (ℕ × ℕ)) (n : NetSeen) → Parts n → Parts (with_cast from to k numbers n)
cast_parts from to k None n parts = parts
cast_parts from to k (Some numbers) n parts = mail_parts to numbers.1 (datagram_at numbers.0 k (slice_get n.servers from)) n parts

step_parts : (layout : Layout) (e : NetEvent) (n : NetSeen) → Ends n → Parts n → Parts (with_step layout e n)
step_parts layout (net.Open server listener call) n ends parts = parts_same n (with_step layout (net.Open server listener call) n) refl parts
step_parts layout (net.Say server link line) n ends parts = parts_same n (with_step layout (net.Say server link line) n) refl parts
step_parts layout (net.Round server moment) n ends parts =
    parts_fewer n (with_step layout (net.Round server moment) n) (all_fewer server (arrivals_at (slice_get n.servers server) ++ event.Tick moment ∷ []) (at_server without_arrivals server n)) parts
step_parts layout (net.Join pair) n ends parts = join_parts pair (slice_get layout.pairs pair) n ends parts
step_parts layout (net.Cut pair) n ends parts = cut_parts pair (joined_at pair n) n parts
step_parts layout (net.Carry pair up k) n ends parts = carry_parts up k (joined_at pair n) n parts
step_parts layout (net.Cast from to k) n ends parts = cast_parts from to k (peering from to layout.peers) n parts

-- at first no pair is joined
new_parts : (layout : Layout) → Parts (new_network layout)
new_parts layout = record {
  apart = λ i j a b at_i at_j other end of_a of_b. none i a at_i;
  two = λ i joined there. absurd (none i joined there);
}
  where
    none : (i : ℕ) (joined : JoinedSeen) → slice_get (new_network layout).pairs i ≡ Some (Some joined) → ⊥
    none i joined there = none_some joined (at_mapped unjoined layout.pairs i (Some joined) there).2

networks_part : (layout : Layout) (steps : List NetEvent) → Parts (network_of layout steps)
unfolding network_of
networks_part layout [] = new_parts layout
networks_part layout (e ∷ steps) =
    let n = network_of layout steps in
    chosen (is_there layout n e) (with_step layout e n) n (step_parts layout e n (networks_kept layout steps).ends (networks_part layout steps)) (networks_part layout steps)
  where
    chosen : (b : Bool) (after before : NetSeen) → Parts after → Parts before → Parts (if b then after else before)
    chosen true after before parts same = parts
    chosen false after before parts same = same

pub networks_apart : (layout : Layout) (steps : List NetEvent) → Apart (network_of layout steps)
networks_apart layout steps = (networks_part layout steps).apart

pub networks_part_ends : (layout : Layout) (steps : List NetEvent) → HasTwoEnds (network_of layout steps)
networks_part_ends layout steps = (networks_part layout steps).two
