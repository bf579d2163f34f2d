-- A running network tells which steps are there as the model does.
use Rattle.std.proofs.Common.{◌≡◌, ℕ, zero, suc, ◌+◌, ◌-◌, ◌<◌, ◌≤◌, ◌==◌, ◌&&◌, Bool, true, false, not, List, [], ◌∷◌, ◌++◌, length, refl, sym, ap, ◌∙◌, subst, arith, Option, Some, None, ◌⊎◌, inl, inr, nat_le, nat_lt}
use Rattle.std.specs.Prelude.{slice_get, is_some, if◌then◌else◌}
use Rattle.std.specs.List.{list_any}
use Rattle.net_history.specs.Places.{Each}
use Rattle.std.specs.Option.{option_and_then, option_map}
use Rattle.std.proofs.lemmas.Bool.{and_parts, eqb-true, leb-false, leb-true}
use Rattle.aprs_base.specs.Outside.{new_link}
use Rattle.aprs_base.specs.declared.events.Event.{Event}
use Rattle.aprs_base.specs.declared.events.Event.TheVariants as event
use Rattle.link_queue.specs.Lines.{ended_line}
use Rattle.aprs_history.specs.History.{greater_link, greatest_link, trace_of}
use Rattle.aprs_history.specs.Trace.{is_live, is_member, live_links, served_links}
use Rattle.server_core.specs.LinkSteps.{has_number, numbers}
use Rattle.server_core.proofs.LinkLemmas.{served_numbers}
use Rattle.server_core.proofs.RoundLemmas.{history_going}
use Rattle.server_core.proofs.WalkLemmas.{numbers_seen}
use Rattle.net_history.specs.declared.events.NetEvent.{NetEvent}
use Rattle.net_history.specs.declared.events.NetEvent.TheVariants as net
use Rattle.net_history.specs.declared.events.Pair.{Pair}
use Rattle.net_history.specs.declared.events.PeerPair.{PeerPair}
use Rattle.net_history.specs.Network.{ForClient, ForPair, Layout, Made, NetSeen, ServerSeen, trace_at}
use Rattle.net_history.specs.Openings.{WasOpened, is_heard, serves_clients}
use Rattle.net_history.specs.Steps.{has_ended, has_room, is_dialled, is_for_client, is_there, joined_at, may_carry, may_cast, may_join, may_open, may_say, peering}
use Rattle.net_schedule.specs.declared.servers.MadeFor.{MadeFor}
use Rattle.net_schedule.specs.declared.servers.MadeFor.TheVariants as made_for
use Rattle.net_schedule.specs.Asked.{HasPeer, HavePeers, kept_datagram, kept_has_room, kept_is_dialled, kept_is_there, kept_may_carry, kept_may_cast, kept_may_join, kept_opens, kept_says, way_at}
use Rattle.net_schedule.specs.Kept.{is_heard_by, kept_ended, kept_may_say, kept_speaks}
use Rattle.net_schedule.specs.Running.{NetKept, ServerKept, WayKept, joined_of, joins_of, setting_in}
use Rattle.net_schedule.specs.Standing.{IsMadeFor, IsNetwork, Keeps, WaitsToOpen}
use Rattle.net_history.proofs.BetweenLemmas.{none_some}
use Rattle.net_history.proofs.CountLemmas.{not_less}
use Rattle.net_history.proofs.PlaceLemmas.{some_same}
use Rattle.net_history.proofs.PlainLemmas.{kind_at_plain}
use Rattle.net_history.proofs.RunLemmas.{Comes}
use Rattle.net_schedule.proofs.CarryLemmas.{datagram_kept, kept_flight}
use Rattle.net_schedule.proofs.FactLemmas.{AtServer, Facts}
use Rattle.net_schedule.proofs.KeepLemmas.{same_links, zip_at, zip_nowhere}

-- ---- a client says a line

module _ (layout : Layout) (place : ℕ) (s : ServerSeen) (facts : AtServer layout place s) (kept : ServerKept) (keeps : Keeps [] kept s) where
  -- the links that are served are those that live
  served_live : (link : ℕ) → has_number link kept.core.seen.links ≡ is_live (trace_at s) link
  served_live link =
      let trace = trace_of (setting_in kept) s.history in
      served_numbers link kept.core.seen.links
      ∙ ap (λ links. is_member link (numbers links)) keeps.stands.follows.links
      ∙ ap (is_member link) (numbers_seen (setting_in kept) trace (served_links trace))
      ∙ ap (λ stopped. is_member link (stopped ++ live_links trace)) (history_going (setting_in kept) s.history facts.rests.going)
      ∙ ap (λ setting. is_live (trace_of setting s.history) link) keeps.setting

  -- what waits opens links above all that came
  waits_above : (first last : ℕ) (events : List Event) (listener link : ℕ) → Comes first events last → WaitsToOpen listener link events → first < link
  waits_above first last [] listener link comes waits = absurd waits
  waits_above first last (e ∷ events) listener link comes (inr later) =
      let le = not_less (new_link e) first in
      let lt = waits_above (greater_link (new_link e) first) last events listener link comes.2 later in
      omega (arith, le, lt)
  waits_above first last (event.Opened at opened from ∷ events) listener link comes (inl here) = let next = comes.1 in let is = here.1 in omega (arith, next, is)
  waits_above first last (event.Tick moment ∷ events) listener link comes (inl here) = absurd here
  waits_above first last (event.Joined uplink opened at ∷ events) listener link comes (inl here) = absurd here
  waits_above first last (event.Unjoined uplink ∷ events) listener link comes (inl here) = absurd here
  waits_above first last (event.Bytes to bytes ∷ events) listener link comes (inl here) = absurd here
  waits_above first last (event.Ended to ∷ events) listener link comes (inl here) = absurd here
  waits_above first last (event.Room to ∷ events) listener link comes (inl here) = absurd here
  waits_above first last (event.Datagram at from bytes ∷ events) listener link comes (inl here) = absurd here
  waits_above first last (event.Stop ∷ events) listener link comes (inl here) = absurd here

  came : (listener link : ℕ) → WasOpened listener link s.history ⊎ WaitsToOpen listener link s.arrivals → link ≤ greatest_link s.history → WasOpened listener link s.history
  came listener link (inl was) le = was
  came listener link (inr waits) le = let lt = waits_above (greatest_link s.history) (length s.made) s.arrivals listener link facts.come waits in absurd (omega (arith, le, lt))

  heard_same : (listener : ℕ) → is_heard_by (slice_get kept.listens listener) ≡ is_heard s.setting listener
  heard_same listener = ap (λ listens. is_heard_by (slice_get listens listener)) keeps.listens ∙ sym (ap serves_clients (kind_at_plain s.setting keeps.plain listener))

  ended_same : (listener link : ℕ) → WasOpened listener link s.history ⊎ WaitsToOpen listener link s.arrivals → kept_ended listener link kept ≡ has_ended (trace_at s) link
  ended_same listener link opened = of (nat_le link kept.core.seen.greatest) refl
    where
      of : (b : Bool) → nat_le link kept.core.seen.greatest ≡ b → (b && (is_heard_by (slice_get kept.listens listener) && not (has_number link kept.core.seen.links))) ≡ has_ended (trace_at s) link
      of true le =
          ap (λ b. b && not (has_number link kept.core.seen.links)) (heard_same listener)
          ∙ ap (λ b. is_heard s.setting listener && not b) (served_live link)
          ∙ sym (facts.ended listener link (came listener link opened (let most = leb-true link kept.core.seen.greatest le in let same = keeps.stands.greatest in omega (arith, most, same))))
      of false gt = sym (facts.unknown link (let more = leb-false link kept.core.seen.greatest gt in let same = keeps.stands.greatest in omega (arith, more, same)))

  speaks_same : (at : ℕ) (m : Option MadeFor) (made : Option Made) → slice_get kept.made at ≡ m → slice_get s.made at ≡ made → (link : ℕ) → link ≡ at + 1
      → kept_speaks link kept m ≡ (is_for_client made && not (has_ended (trace_at s) link))
  speaks_same at m (Some made) is made_is link next = of (zip_at IsMadeFor at kept.made s.made made keeps.made made_is)
    where
      by : (x : MadeFor) (y : Made) → IsMadeFor x y → slice_get kept.made at ≡ Some x → kept_speaks link kept (Some x) ≡ (is_for_client (Some y) && not (has_ended (trace_at s) link))
      by (made_for.Client listener) ForClient for here =
          ap not (ended_same listener link (subst (λ l. WasOpened listener l s.history ⊎ WaitsToOpen listener l s.arrivals) (sym next) (keeps.opened at listener here)))
      by (made_for.Client listener) (ForPair other) for here = absurd for
      by made_for.Pair ForClient for here = absurd for
      by made_for.Pair (ForPair other) for here = refl

      of : (x : MadeFor) × (slice_get kept.made at ≡ Some x) × IsMadeFor x made → kept_speaks link kept m ≡ (is_for_client (Some made) && not (has_ended (trace_at s) link))
      of found = ap (kept_speaks link kept) (sym is ∙ found.1) ∙ by found.0 made found.2 found.1
  speaks_same at m None is made_is link next = ap (kept_speaks link kept) (sym is ∙ zip_nowhere IsMadeFor at kept.made s.made keeps.made made_is)

  pub say_same : (link : ℕ) → kept_may_say link kept ≡ may_say link (Some s)
  say_same zero = refl
  say_same (suc at) =
      let before : suc at - 1 ≡ at = omega arith in
      ap (λ p. nat_lt 0 (suc at) && kept_speaks (suc at) kept (slice_get kept.made p)) before
      ∙ ap (λ b. nat_lt 0 (suc at) && b) (speaks_same at (slice_get kept.made at) (slice_get s.made at) refl refl (suc at) (omega arith))
      ∙ ap (λ p. nat_lt 0 (suc at) && (is_for_client (slice_get s.made p) && not (has_ended (trace_at s) (suc at)))) (sym before)

-- ---- all steps

module _ (layout : Layout) (kept : NetKept) (n : NetSeen) (facts : Facts layout n) (goes : IsNetwork kept n) where
  -- what is asked of a server, where it is there
  asked : (a : Option ServerKept → Bool) (b : Option ServerSeen → Bool) → a None ≡ b None → (place : ℕ) → ((k : ServerKept) (s : ServerSeen) → slice_get n.servers place ≡ Some s → Keeps [] k s → a (Some k) ≡ b (Some s))
      → a (slice_get kept.servers place) ≡ b (slice_get n.servers place)
  asked a b none place some = of (slice_get n.servers place) refl
    where
      of : (o : Option ServerSeen) → slice_get n.servers place ≡ o → a (slice_get kept.servers place) ≡ b o
      of None nowhere = ap a (zip_nowhere (Keeps []) place kept.servers n.servers goes.servers nowhere) ∙ none
      of (Some s) at = let k = zip_at (Keeps []) place kept.servers n.servers s goes.servers at in ap a k.1 ∙ some k.0 s at k.2

  open_there : (server listener : ℕ) → kept_opens listener (slice_get kept.servers server) ≡ may_open listener (slice_get n.servers server)
  open_there server listener = asked (kept_opens listener) (may_open listener) refl server (λ k s at keeps.
      ap (λ listens. nat_lt listener (length listens) && nat_le (length k.made + 1) 4294967295) keeps.listens ∙ ap (λ links. nat_lt listener (length s.setting.listens) && nat_le (links + 1) 4294967295) (same_links k s keeps))

  say_there : (server link : ℕ) → kept_says link (slice_get kept.servers server) ≡ may_say link (slice_get n.servers server)
  say_there server link = asked (kept_says link) (may_say link) refl server (λ k s at keeps. say_same layout server s (facts.servers server s at) k keeps link)

  round_there : (server : ℕ) → is_some (slice_get kept.servers server) ≡ is_some (slice_get n.servers server)
  round_there server = asked is_some is_some refl server (λ k s at keeps. refl)

  dialled_same : (uplink server : ℕ) → kept_is_dialled uplink (slice_get kept.servers server) ≡ is_dialled uplink (slice_get n.servers server)
  dialled_same uplink server = asked (kept_is_dialled uplink) (is_dialled uplink) refl server (λ k s at keeps. ap (list_any (λ other. other == uplink)) keeps.dialled)

  room_same : (more server : ℕ) → kept_has_room more (slice_get kept.servers server) ≡ has_room more (slice_get n.servers server)
  room_same more server = asked (kept_has_room more) (has_room more) refl server (λ k s at keeps. ap (λ links. nat_le (links + more) 4294967295) (same_links k s keeps))

  join_there : (pair : Option Pair) → kept_may_join kept.servers pair ≡ may_join n pair
  join_there None = refl
  join_there (Some pair) =
      ap (λ b. b && (if pair.low == pair.high then kept_has_room 2 (slice_get kept.servers pair.low) else kept_has_room 1 (slice_get kept.servers pair.low) && kept_has_room 1 (slice_get kept.servers pair.high)))
      (dialled_same pair.uplink pair.low)
      ∙ ap (λ b. is_dialled pair.uplink (slice_get n.servers pair.low) && (if pair.low == pair.high then b else kept_has_room 1 (slice_get kept.servers pair.low) && kept_has_room 1 (slice_get kept.servers pair.high))) (room_same 2 pair.low)
      ∙ ap (λ b. is_dialled pair.uplink (slice_get n.servers pair.low) && (if pair.low == pair.high then has_room 2 (slice_get n.servers pair.low) else b && kept_has_room 1 (slice_get kept.servers pair.high))) (room_same 1 pair.low)
      ∙ ap (λ b. is_dialled pair.uplink (slice_get n.servers pair.low) && (if pair.low == pair.high then has_room 2 (slice_get n.servers pair.low) else has_room 1 (slice_get n.servers pair.low) && b)) (room_same 1 pair.high)

  way_joined_at : (ways : List (Option WayKept)) (pair : ℕ) → option_and_then (λ joined. joined) (slice_get (joins_of ways) pair) ≡ option_map joined_of (way_at pair ways)
  way_joined_at [] pair = refl
  way_joined_at (way ∷ ways) zero = refl
  way_joined_at (way ∷ ways) (suc pair) = way_joined_at ways pair

  -- a pair is joined in the model as it is kept
  pub joined_same : (pair : ℕ) → joined_at pair n ≡ option_map joined_of (way_at pair kept.ways)
  joined_same pair = ap (λ pairs. option_and_then (λ joined. joined) (slice_get pairs pair)) (sym goes.joins) ∙ way_joined_at kept.ways pair

  pub way_there : (pair : ℕ) (way : WayKept) → way_at pair kept.ways ≡ Some way → slice_get kept.ways pair ≡ Some (Some way)
  way_there pair way is = of (slice_get kept.ways pair) is
    where
      of : (o : Option (Option WayKept)) → option_and_then (λ w. w) o ≡ Some way → o ≡ Some (Some way)
      of None none = absurd (none_some way none)
      of (Some w) same = ap Some same

  cut_there : (pair : ℕ) → is_some (way_at pair kept.ways) ≡ is_some (joined_at pair n)
  cut_there pair = of (way_at pair kept.ways) ∙ ap is_some (sym (joined_same pair))
    where
      of : (o : Option WayKept) → is_some o ≡ is_some (option_map joined_of o)
      of None = refl
      of (Some way) = refl

  carry_there : (pair : ℕ) (up : Bool) (k : ℕ) → kept_may_carry up k (way_at pair kept.ways) ≡ may_carry n up k (joined_at pair n)
  carry_there pair up k = of (way_at pair kept.ways) refl ∙ ap (may_carry n up k) (sym (joined_same pair))
    where
      of : (o : Option WayKept) → way_at pair kept.ways ≡ o → kept_may_carry up k o ≡ may_carry n up k (option_map joined_of o)
      of None none = refl
      of (Some way) is = ap (λ bytes. nat_le 1 k && (nat_le k 1460 && nat_le k (length bytes))) (sym (kept_flight layout kept n facts goes pair way (way_there pair way is) up))

  -- the peers by which two servers cast
  peering_has : (from to : ℕ) (peers : List PeerPair) → Each (λ pair. HasPeer layout pair.a pair.at_a × HasPeer layout pair.b pair.at_b) peers → (numbers : ℕ × ℕ) → peering from to peers ≡ Some numbers → HasPeer layout from numbers.0
  peering_has from to [] all numbers is = absurd (none_some numbers is)
  peering_has from to (pair ∷ peers) all numbers is = of (pair.a == from && pair.b == to) refl (pair.a == to && pair.b == from) refl (λ same. peering_has from to peers all.1 numbers same) is
    where
      of : (x : Bool) → (pair.a == from && pair.b == to) ≡ x → (y : Bool) → (pair.a == to && pair.b == from) ≡ y → (peering from to peers ≡ Some numbers → HasPeer layout from numbers.0)
          → (if x then Some (pair.at_a, pair.at_b) else if y then Some (pair.at_b, pair.at_a) else peering from to peers) ≡ Some numbers → HasPeer layout from numbers.0
      of true here y other later same =
          let number : (pair.at_a, pair.at_b) ≡ numbers = some_same _ _ same in
          subst (λ (x : ℕ × ℕ). HasPeer layout from x.0) number (subst (λ a. HasPeer layout a pair.at_a) (eqb-true pair.a from (and_parts _ _ here).0) all.0.0)
      of false here true other later same =
          let number : (pair.at_b, pair.at_a) ≡ numbers = some_same _ _ same in
          subst (λ (x : ℕ × ℕ). HasPeer layout from x.0) number (subst (λ b. HasPeer layout b pair.at_b) (eqb-true pair.b from (and_parts _ _ other).1) all.0.1)
      of false here false other later same = later same

  module _ (peers : HavePeers layout) where
    pub sender_has : (from to : ℕ) (numbers : ℕ × ℕ) → peering from to layout.peers ≡ Some numbers → HasPeer layout from numbers.0
    sender_has from to numbers is = peering_has from to layout.peers peers numbers is

    cast_there : (from to k : ℕ) → kept_may_cast kept.servers from k (peering from to layout.peers) ≡ may_cast n from k (peering from to layout.peers)
    cast_there from to k = of (peering from to layout.peers) refl
      where
        of : (o : Option (ℕ × ℕ)) → peering from to layout.peers ≡ o → kept_may_cast kept.servers from k o ≡ may_cast n from k o
        of None none = refl
        of (Some numbers) is = by (kept_datagram k (slice_get kept.servers from)) ∙ ap is_some (sym (datagram_kept layout kept n facts goes from numbers.0 k (sender_has from to numbers is)))
          where
            by : (o : Option (List ℕ)) → is_some o ≡ is_some (option_map ended_line o)
            by None = refl
            by (Some line) = refl

    -- a step is there in the model as it is told
    pub there_same : kept.pairs ≡ layout.pairs → kept.peers ≡ layout.peers → (e : NetEvent) → kept_is_there kept e ≡ is_there layout n e
    there_same pairs peers_are (net.Open server listener call) = open_there server listener
    there_same pairs peers_are (net.Say server link line) = say_there server link
    there_same pairs peers_are (net.Round server moment) = round_there server
    there_same pairs peers_are (net.Join pair) = ap (λ xs. kept_may_join kept.servers (slice_get xs pair)) pairs ∙ join_there (slice_get layout.pairs pair)
    there_same pairs peers_are (net.Cut pair) = cut_there pair
    there_same pairs peers_are (net.Carry pair up k) = carry_there pair up k
    there_same pairs peers_are (net.Cast from to k) = ap (λ xs. kept_may_cast kept.servers from k (peering from to xs)) peers_are ∙ cast_there from to k
