-- Bytes and datagrams arrive in a running network as they do in the model.
use Rattle.std.proofs.Common.{◌≡◌, ◌≢◌, ℕ, zero, suc, ◌+◌, ◌-◌, ◌==◌, Bool, true, false, List, [], ◌∷◌, ◌++◌, length, map, take, drop, refl, sym, ap, ◌∙◌, subst, arith, Option, Some, None, inl, inr, ⊎_elim, append-nil, append_assoc}
use Rattle.std.specs.Prelude.{slice_get, if◌then◌else◌}
use Rattle.std.specs.Option.{option_map}
use Rattle.std.proofs.lemmas.List.{take-append-drop}
use Rattle.aprs_base.specs.declared.events.Event.{Event}
use Rattle.aprs_base.specs.declared.events.Event.TheVariants as event
use Rattle.link_queue.specs.Lines.{ended_line}
use Rattle.aprs_history.specs.Casting.{casts_to_peer}
use Rattle.aprs_history.proofs.CastingLemmas.{submissions_are_cast}
use Rattle.net_history.specs.Apart.{IsEndOf}
use Rattle.net_history.specs.Network.{End, Layout, NetSeen, ServerSeen, at_server, brought_at, changed_at, far_end, number_of, on_its_way, with_arrival}
use Rattle.net_history.specs.Steps.{address_in, datagram_at, with_carry, with_cast, with_datagram, with_mail}
use Rattle.net_history.proofs.BetweenLemmas.{at_changed, changed_here}
use Rattle.net_history.proofs.GrowthLemmas.{one_grows}
use Rattle.net_history.proofs.PlaceLemmas.{some_same}
use Rattle.net_history.proofs.StreamLemmas.{arrival_grows, brought_more, eqb_other, eqb_same}
use Rattle.net_schedule.specs.Asked.{HasPeer, kept_datagram, on_way}
use Rattle.net_schedule.specs.Joined.{after_carry, after_mail, far_of, kept_mail, way_carried, without_first}
use Rattle.net_schedule.specs.Kept.{kept_arrival}
use Rattle.net_schedule.specs.Running.{NetKept, ServerKept, WayKept, joined_of, joins_of}
use Rattle.net_schedule.specs.Standing.{Goes, IsNetwork, IsOnItsWay, Keeps, brought_in, taken_in}
use Rattle.net_schedule.proofs.FactLemmas.{Facts}
use Rattle.net_schedule.proofs.FlowLemmas.{all_places, have_ends, places_all, quiet, same_taken, way_joins}
use Rattle.net_schedule.proofs.KeepLemmas.{arrives, zip_at, zip_changed, zip_nowhere}

-- ---- bytes arrive

joins_kept : (up : Bool) (k i : ℕ) (ways : List (Option WayKept)) → joins_of (changed_at (way_carried up k) i ways) ≡ joins_of ways
joins_kept up k i [] = refl
joins_kept up k zero (way ∷ ways) = ap (λ x. x ∷ joins_of ways) (of up way)
  where
    of : (up : Bool) (way : Option WayKept) → option_map joined_of (way_carried up k way) ≡ option_map joined_of way
    of true None = refl
    of true (Some way) = refl
    of false None = refl
    of false (Some way) = refl
joins_kept up k (suc i) (way ∷ ways) = ap (λ xs. option_map joined_of way ∷ xs) (joins_kept up k i ways)

drop_past : (xs ys : List ℕ) → drop (length xs) (xs ++ ys) ≡ ys
drop_past [] ys = refl
drop_past (x ∷ xs) ys = drop_past xs ys

-- what is on its way is what is kept of it
pub flight_kept : (up : Bool) (way : WayKept) (n : NetSeen) → IsOnItsWay (brought_in n) (taken_in n) (Some way) → on_its_way n up (joined_of way) ≡ on_way up way
flight_kept true way n flows = ap (drop (length (brought_in n way.high))) (sym flows.0) ∙ drop_past (brought_in n way.high) way.up
flight_kept false way n flows = ap (drop (length (brought_in n way.low))) (sym flows.1) ∙ drop_past (brought_in n way.low) way.down

module _ (to : End) (bytes : List ℕ) (n : NetSeen) where
  abbrev arrival : Event
  arrival = event.Bytes (number_of to) bytes

  abbrev brings : ServerSeen → ServerSeen
  brings = with_arrival arrival

  abbrev after : NetSeen
  after = at_server brings to.server n

  -- the link has more of them, and no other has
  brought_here : (s : ServerSeen) → slice_get n.servers to.server ≡ Some s → brought_in after to ≡ brought_in n to ++ bytes
  brought_here s at =
      ap (λ o. brought_at o (number_of to)) (changed_here brings to.server n.servers s at)
      ∙ brought_more s arrival (number_of to)
      ∙ ap (λ b. brought_at (Some s) (number_of to) ++ (if b then bytes else [])) (eqb_same (number_of to))
      ∙ ap (λ o. brought_at o (number_of to) ++ bytes) (sym at)

  elsewhere_at : (servers : List ServerSeen) (i j link : ℕ) → (i ≡ j → link ≢ number_of to) → brought_at (slice_get (changed_at brings i servers) j) link ≡ brought_at (slice_get servers j) link
  elsewhere_at [] i j link other = refl
  elsewhere_at (s ∷ servers) zero zero link other =
      brought_more s arrival link ∙ ap (λ b. brought_at (Some s) link ++ (if b then bytes else [])) (eqb_other link (number_of to) (other refl)) ∙ append-nil (brought_at (Some s) link)
  elsewhere_at (s ∷ servers) zero (suc j) link other = refl
  elsewhere_at (s ∷ servers) (suc i) zero link other = refl
  elsewhere_at (s ∷ servers) (suc i) (suc j) link other = elsewhere_at servers i j link (λ is. other (ap suc is))

  brought_elsewhere : (end : End) → end ≢ to → brought_in after end ≡ brought_in n end
  brought_elsewhere end other = elsewhere_at n.servers to.server end.server (number_of end) (λ is link. other (end_is is (let same : end.place + 1 ≡ to.place + 1 = link in omega (arith, same))))
    where
      end_is : to.server ≡ end.server → end.place ≡ to.place → end ≡ to
      end_is is place = ap (λ p. record { server = end.server; place = p }) place ∙ ap (λ i. record { server = i; place = to.place }) (sym is)

  taken_same : (end : End) → taken_in after end ≡ taken_in n end
  taken_same end = same_taken brings (λ s. refl) to.server end.server (number_of end) n.servers

-- the end to which bytes go, and the one from which they come
abbrev near_of : Bool → WayKept → End
near_of true way = way.low
near_of false way = way.high

module _ (layout : Layout) (net : NetKept) (n : NetSeen) (facts : Facts layout n) (goes : IsNetwork net n) where
  module _ (number : ℕ) (way : WayKept) (at : slice_get net.ways number ≡ Some (Some way)) where
    pair_at : slice_get n.pairs number ≡ Some (Some (joined_of way))
    pair_at = ap (λ pairs. slice_get pairs number) (sym goes.joins) ∙ way_joins net.ways number way at

    flows_here : IsOnItsWay (brought_in n) (taken_in n) (Some way)
    flows_here = all_places (IsOnItsWay (brought_in n) (taken_in n)) net.ways goes.flows number (Some way) at

    -- what is on its way of a joined pair
    pub kept_flight : (up : Bool) → on_its_way n up (joined_of way) ≡ on_way up way
    kept_flight up = flight_kept up way n flows_here

    module _ (up : Bool) (k : ℕ) where
      abbrev piece : List ℕ
      piece = take k (on_way up way)

      abbrev m : NetSeen
      m = after (far_of up way) piece n

      abbrev Flows : Option WayKept → Type 0
      Flows = IsOnItsWay (brought_in m) (taken_in m)

      other_way : (i : ℕ) (v : Option WayKept) → number ≢ i → slice_get net.ways i ≡ Some v → Flows v
      other_way i None apart there = tt
      other_way i (Some v) apart there =
          let flows = all_places (IsOnItsWay (brought_in n) (taken_in n)) net.ways goes.flows i (Some v) there in
          let its : slice_get n.pairs i ≡ Some (Some (joined_of v)) = ap (λ pairs. slice_get pairs i) (sym goes.joins) ∙ way_joins net.ways i v there in
          let differs : (end : End) → IsEndOf end (joined_of v) → end ≢ far_of up way = λ end is same. facts.apart number i (joined_of way) (joined_of v) pair_at its apart (far_of up way) (far_is up) (subst (λ e. IsEndOf e (joined_of v)) same is) in (
            ap (λ bytes. bytes ++ v.up) (brought_elsewhere (far_of up way) piece n v.high (differs v.high (inr refl))) ∙ flows.0 ∙ sym (taken_same (far_of up way) piece n v.low),
            ap (λ bytes. bytes ++ v.down) (brought_elsewhere (far_of up way) piece n v.low (differs v.low (inl refl))) ∙ flows.1 ∙ sym (taken_same (far_of up way) piece n v.high),
          )
        where
          far_is : (up : Bool) → IsEndOf (far_of up way) (joined_of way)
          far_is true = inr refl
          far_is false = inl refl

      rest_flows : (up : Bool) (k : ℕ) → IsOnItsWay (brought_in (after (far_of up way) (take k (on_way up way)) n)) (taken_in (after (far_of up way) (take k (on_way up way)) n)) (Some (without_first up k way))
      rest_flows true k =
          let has = (facts.kept.ends number (joined_of way) pair_at).1 in (
            ap (λ bytes. bytes ++ drop k way.up) (brought_here way.high (take k way.up) n has.0 has.1) ∙ append_assoc (brought_in n way.high) (take k way.up) (drop k way.up)
                ∙ ap (λ bytes. brought_in n way.high ++ bytes) (take-append-drop k way.up) ∙ flows_here.0 ∙ sym (taken_same way.high (take k way.up) n way.low),
            ap (λ bytes. bytes ++ way.down) (brought_elsewhere way.high (take k way.up) n way.low (facts.two number (joined_of way) pair_at)) ∙ flows_here.1 ∙ sym (taken_same way.high (take k way.up) n way.high),
          )
      rest_flows false k =
          let has = (facts.kept.ends number (joined_of way) pair_at).0 in (
            ap (λ bytes. bytes ++ way.up) (brought_elsewhere way.low (take k way.down) n way.high (λ same. facts.two number (joined_of way) pair_at (sym same))) ∙ flows_here.0 ∙ sym (taken_same way.low (take k way.down) n way.low),
            ap (λ bytes. bytes ++ drop k way.down) (brought_here way.low (take k way.down) n has.0 has.1) ∙ append_assoc (brought_in n way.low) (take k way.down) (drop k way.down)
                ∙ ap (λ bytes. brought_in n way.low ++ bytes) (take-append-drop k way.down) ∙ flows_here.1 ∙ sym (taken_same way.low (take k way.down) n way.high),
          )

      each_flows : (i : ℕ) (w : Option WayKept) → slice_get (changed_at (way_carried up k) number net.ways) i ≡ Some w → Flows w
      each_flows i w is =
          let was = at_changed (way_carried up k) number i net.ways w is in
          ⊎_elim
          (λ here.
          let old : was.0 ≡ Some way = some_same was.0 (Some way) (sym was.1 ∙ ap (slice_get net.ways) (sym here.0) ∙ at) in
          subst Flows (sym (here.1 ∙ ap (way_carried up k) old)) (rest_flows up k))
          (λ other. subst Flows (sym other.1) (other_way i was.0 other.0 was.1))
          was.2

      carried_is : with_carry up k (Some (joined_of way)) n ≡ m
      carried_is = ap (λ bytes. after (far_end up (joined_of way)) (take k bytes) n) (kept_flight up) ∙ ap (λ end. after end piece n) (far_same up)
        where
          far_same : (up : Bool) → far_end up (joined_of way) ≡ far_of up way
          far_same true = refl
          far_same false = refl

      pub carry_goes : let then' = with_carry up k (Some (joined_of way)) n in Goes (brought_in then') (after_carry up k (Some way) net.servers) (changed_at (way_carried up k) number net.ways) then'
      carry_goes = subst (λ x. Goes (brought_in x) (after_carry up k (Some way) net.servers) (changed_at (way_carried up k) number net.ways) x) (sym carried_is) (record {
        servers = zip_changed (Keeps []) (kept_arrival (event.Bytes (number_of (far_of up way)) piece)) (with_arrival (event.Bytes (number_of (far_of up way)) piece)) (far_of up way).server net.servers n.servers
            (λ kept s there keeps. arrives kept (event.Bytes (number_of (far_of up way)) piece) s keeps) goes.servers;
        joins = joins_kept up k number net.ways ∙ goes.joins;
        flows = places_all Flows (changed_at (way_carried up k) number net.ways) each_flows;
      })

  -- ---- a datagram arrives

  get_mapped : {X Y : Type 0} (f : X → Y) (xs : List X) (i : ℕ) → slice_get (map f xs) i ≡ option_map f (slice_get xs i)
  get_mapped f [] i = refl
  get_mapped f (x ∷ xs) zero = refl
  get_mapped f (x ∷ xs) (suc i) = get_mapped f xs i

  -- each peer was cast the same
  cast_same : (server : ℕ) (s : ServerSeen) (kept : ServerKept) (peer : ℕ) → slice_get n.servers server ≡ Some s → Keeps [] kept s → HasPeer layout server peer → casts_to_peer s.history peer ≡ map ended_line kept.casts
  cast_same server s kept peer at keeps has =
      let there = facts.servers server s at in
      let in_range = has s.setting there.setting in
      submissions_are_cast s.setting s.history peer there.rests.run in_range there.finished there.rests.none
      ∙ sym (submissions_are_cast s.setting s.history 0 there.rests.run (omega (arith, in_range)) there.finished there.rests.none) ∙ keeps.casts

  pub datagram_kept : (from peer k : ℕ) → HasPeer layout from peer → datagram_at peer k (slice_get n.servers from) ≡ option_map ended_line (kept_datagram k (slice_get net.servers from))
  datagram_kept from peer k has = of (slice_get n.servers from) refl
    where
      of : (o : Option ServerSeen) → slice_get n.servers from ≡ o → datagram_at peer k o ≡ option_map ended_line (kept_datagram k (slice_get net.servers from))
      of None none = ap (λ o. option_map ended_line (kept_datagram k o)) (sym (zip_nowhere (Keeps []) from net.servers n.servers goes.servers none))
      of (Some s) at =
          let kept = zip_at (Keeps []) from net.servers n.servers s goes.servers at in
          by (k == 0) (casts_to_peer s.history peer) kept.0 (cast_same from s kept.0 peer at kept.2 has) ∙ ap (λ o. option_map ended_line (kept_datagram k o)) (sym kept.1)
        where
          by : (first : Bool) (casts : List (List ℕ)) (kept : ServerKept) → casts ≡ map ended_line kept.casts
              → (if first then None else slice_get casts (k - 1)) ≡ option_map ended_line (if first then None else slice_get kept.casts (k - 1))
          by true casts kept is = refl
          by false casts kept is = ap (λ xs. slice_get xs (k - 1)) is ∙ get_mapped ended_line kept.casts (k - 1)

  mail_keeps : (peer : ℕ) (bytes : List ℕ) (kept : ServerKept) (s : ServerSeen) → Keeps [] kept s → Keeps [] (kept_mail peer bytes kept) (with_datagram peer bytes s)
  mail_keeps peer bytes kept s keeps =
      subst (λ e. Keeps [] (kept_arrival e kept) (with_datagram peer bytes s))
      (ap (λ listens. event.Datagram (length listens - 1) (address_in (slice_get s.setting.peers peer)) bytes) (sym keeps.listens)
      ∙ ap (λ setting. event.Datagram (length kept.listens - 1) (address_in (slice_get setting.peers peer)) bytes) (sym keeps.setting))
      (arrives kept (event.Datagram (length s.setting.listens - 1) (address_in (slice_get s.setting.peers peer)) bytes) s keeps)

  -- a change of one server for which a datagram waits
  mailed : (to peer : ℕ) (bytes : Option (List ℕ)) → let m = with_mail to peer bytes n in Goes (brought_in m) (after_mail to peer bytes net.servers) net.ways m
  mailed to peer None = goes
  mailed to peer (Some bytes) = record {
    servers = zip_changed (Keeps []) (kept_mail peer bytes) (with_datagram peer bytes) to net.servers n.servers (λ kept s there keeps. mail_keeps peer bytes kept s keeps) goes.servers;
    joins = goes.joins;
    flows = quiet n (at_server (with_datagram peer bytes) to n) net.ways
        (one_grows (with_datagram peer bytes) to n.servers (λ s there. arrival_grows (event.Datagram (length s.setting.listens - 1) (address_in (slice_get s.setting.peers peer)) bytes) (λ link. refl) s))
        (λ end. same_taken (with_datagram peer bytes) (λ s. refl) to end.server (number_of end) n.servers)
        (have_ends n net.ways goes.joins facts.kept.ends) goes.flows;
  }

  pub mail_goes : (from to k : ℕ) (numbers : ℕ × ℕ) → HasPeer layout from numbers.0 → let m = with_cast from to k (Some numbers) n in
      Goes (brought_in m) (after_mail to numbers.1 (option_map ended_line (kept_datagram k (slice_get net.servers from))) net.servers) net.ways m
  mail_goes from to k numbers has =
      subst (λ bytes. Goes (brought_in (with_cast from to k (Some numbers) n)) (after_mail to numbers.1 bytes net.servers) net.ways (with_cast from to k (Some numbers) n)) (datagram_kept from numbers.0 k has)
      (mailed to numbers.1 (datagram_at numbers.0 k (slice_get n.servers from)))
