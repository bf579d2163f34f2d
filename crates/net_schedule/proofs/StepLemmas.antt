-- A running network goes on as the model does by each step but a round.
use Rattle.std.proofs.Common.{◌≡◌, ℕ, zero, suc, ◌+◌, ◌<◌, ◌≤◌, ◌==◌, true, List, [], ◌∷◌, ◌++◌, length, refl, sym, ap, ◌∙◌, subst, arith, Option, Some, None}
use Rattle.std.specs.Prelude.{slice_get, if◌then◌else◌}
use Rattle.net_history.specs.Places.{Each}
use Rattle.std.specs.Option.{option_map}
use Rattle.aprs_base.specs.declared.events.Event.{Event}
use Rattle.aprs_base.specs.declared.events.Event.TheVariants as event
use Rattle.aprs_history.specs.Arriving.{bytes_for}
use Rattle.net_history.specs.declared.events.Pair.{Pair}
use Rattle.net_history.specs.Network.{End, JoinedSeen, Layout, NetSeen, ServerSeen, address_of, at_server, brought_at, changed_at, number_of, taken_at, with_arrival}
use Rattle.net_history.specs.Steps.{ends_at, high_end, joined_by, low_end, may_join, may_say, next_place, with_client, with_cut, with_downlink, with_join, with_uplink}
use Rattle.net_history.proofs.GrowthLemmas.{AllGrow, HasEnd, all_both, one_grows}
use Rattle.net_history.proofs.PlaceLemmas.{some_same}
use Rattle.net_history.proofs.StreamLemmas.{arrival_grows, high_has, high_there, join_grows, low_has, low_there, opened_grows, say_grows}
use Rattle.net_schedule.specs.Joined.{after_cut, after_join, links_at, way_joined}
use Rattle.net_schedule.specs.Kept.{kept_arrival, kept_client, kept_downlink, kept_uplink}
use Rattle.net_schedule.specs.Running.{NetKept, WayKept, joined_of, joins_of}
use Rattle.net_schedule.specs.Standing.{Goes, IsNetwork, IsOnItsWay, Keeps, brought_in, taken_in}
use Rattle.net_schedule.proofs.FactLemmas.{Facts}
use Rattle.net_schedule.proofs.FlowLemmas.{HasItsEnds, have_ends, quiet, same_taken}
use Rattle.net_schedule.proofs.KeepLemmas.{arrives, client_kept, downlink_kept, same_links, uplink_kept, zip_at, zip_changed}

none_past : {X : Type 0} (xs : List X) (place : ℕ) → length xs ≤ place → slice_get xs place ≡ None
none_past [] place past = refl
none_past (x ∷ xs) zero past = absurd (omega arith)
none_past (x ∷ xs) (suc place) past = none_past xs place (omega (arith, past))

module _ (layout : Layout) (net : NetKept) (n : NetSeen) (facts : Facts layout n) (goes : IsNetwork net n) where
  ends : Each (HasItsEnds n.servers) net.ways
  ends = have_ends n net.ways goes.joins facts.kept.ends

  -- a client connects
  pub open_goes : (server listener : ℕ) (call : List ℕ) → let m = at_server (with_client listener (address_of server) call) server n in
      Goes (brought_in m) (changed_at (kept_client listener (address_of server) call) server net.servers) net.ways m
  open_goes server listener call =
      let client = with_client listener (address_of server) call in
      record {
        servers = zip_changed (Keeps []) (kept_client listener (address_of server) call) client server net.servers n.servers (λ kept s at keeps. client_kept kept listener (address_of server) call s keeps) goes.servers;
        joins = goes.joins;
        flows = quiet n (at_server client server n) net.ways (one_grows client server n.servers (λ s at. opened_grows listener (address_of server) call s))
            (λ end. same_taken client (λ s. refl) server end.server (number_of end) n.servers) ends goes.flows;
      }

  -- an event waits that brings no link of a pair anything
  waits : (e : Event) (server : ℕ) → AllGrow n.servers (at_server (with_arrival e) server n).servers → let m = at_server (with_arrival e) server n in
      Goes (brought_in m) (changed_at (kept_arrival e) server net.servers) net.ways m
  waits e server grow = record {
    servers = zip_changed (Keeps []) (kept_arrival e) (with_arrival e) server net.servers n.servers (λ kept s at keeps. arrives kept e s keeps) goes.servers;
    joins = goes.joins;
    flows = quiet n (at_server (with_arrival e) server n) net.ways grow (λ end. same_taken (with_arrival e) (λ s. refl) server end.server (number_of end) n.servers) ends goes.flows;
  }

  -- a client says a line
  pub say_goes : (server link : ℕ) (bytes : List ℕ) → may_say link (slice_get n.servers server) ≡ true → let m = at_server (with_arrival (event.Bytes link bytes)) server n in
      Goes (brought_in m) (changed_at (kept_arrival (event.Bytes link bytes)) server net.servers) net.ways m
  say_goes server link bytes may = waits (event.Bytes link bytes) server (one_grows (with_arrival (event.Bytes link bytes)) server n.servers (λ s at. say_grows link bytes s (ap (may_say link) (sym at) ∙ may)))

  -- something without bytes for a link
  pub arrive_goes : (server : ℕ) (e : Event) → ((link : ℕ) → bytes_for link e ≡ []) → let m = at_server (with_arrival e) server n in
      Goes (brought_in m) (changed_at (kept_arrival e) server net.servers) net.ways m
  arrive_goes server e silent = waits e server (one_grows (with_arrival e) server n.servers (λ s at. arrival_grows e silent s))

  -- ---- a pair is cut

  joins_changed : (f : Option WayKept → Option WayKept) (g : Option JoinedSeen → Option JoinedSeen) → ((way : Option WayKept) → option_map joined_of (f way) ≡ g (option_map joined_of way)) → (i : ℕ) (ways : List (Option WayKept))
      → joins_of (changed_at f i ways) ≡ changed_at g i (joins_of ways)
  joins_changed f g is i [] = refl
  joins_changed f g is zero (way ∷ ways) = ap (λ x. x ∷ joins_of ways) (is way)
  joins_changed f g is (suc i) (way ∷ ways) = ap (λ xs. option_map joined_of way ∷ xs) (joins_changed f g is i ways)

  all_changed_at : {X : Type 0} (P : X → Type 0) (f : X → X) (i : ℕ) (xs : List X) → ((x : X) → P (f x)) → Each P xs → Each P (changed_at f i xs)
  all_changed_at P f i [] new all = all
  all_changed_at P f zero (x ∷ xs) new all = (new x, all.1)
  all_changed_at P f (suc i) (x ∷ xs) new all = (all.0, all_changed_at P f i xs new all.1)

  abbrev cut_way : Option WayKept → Option WayKept
  cut_way way = None

  pub cut_goes : (number : ℕ) (way : WayKept) → let m = with_cut number (Some (joined_of way)) n in
      Goes (brought_in m) (after_cut (Some way) net.servers) (changed_at (λ way. None) number net.ways) m
  cut_goes number way =
      let low = way.low in
      let high = way.high in
      let first = event.Ended (number_of low) in
      let then' = event.Ended (number_of high) in
      let one = ends_at low n in
      let two = ends_at high one in
      record {
        servers = zip_changed (Keeps []) (kept_arrival then') (with_arrival then') high.server _ one.servers (λ kept s at keeps. arrives kept then' s keeps)
            (zip_changed (Keeps []) (kept_arrival first) (with_arrival first) low.server net.servers n.servers (λ kept s at keeps. arrives kept first s keeps) goes.servers);
        joins = joins_changed (λ way. None) (λ joined. None) (λ way. refl) number net.ways ∙ ap (changed_at (λ joined. None) number) goes.joins;
        flows = all_changed_at (IsOnItsWay (brought_in two) (taken_in two)) (λ way. None) number net.ways (λ way. tt)
            (quiet n two net.ways
            (all_both n.servers one.servers two.servers (one_grows (with_arrival first) low.server n.servers (λ s at. arrival_grows first (λ link. refl) s))
            (one_grows (with_arrival then') high.server one.servers (λ s at. arrival_grows then' (λ link. refl) s)))
            (λ end. same_taken (with_arrival then') (λ s. refl) high.server end.server (number_of end) one.servers ∙ same_taken (with_arrival first) (λ s. refl) low.server end.server (number_of end) n.servers)
            ends goes.flows);
      }

  -- ---- a pair joins

  places_same : (server : ℕ) (s : ServerSeen) → slice_get n.servers server ≡ Some s → links_at (slice_get net.servers server) ≡ next_place (slice_get n.servers server)
  places_same server s at =
      let kept = zip_at (Keeps []) server net.servers n.servers s goes.servers at in
      ap links_at kept.1 ∙ same_links kept.0 s kept.2 ∙ ap next_place (sym at)

  module _ (number : ℕ) (pair : Pair) (may : may_join n (Some pair) ≡ true) where
    abbrev joined : NetSeen
    joined = with_join number (Some pair) n

    abbrev low : End
    low = low_end pair n

    abbrev high : End
    high = high_end pair n

    abbrev at_low : (s : ServerSeen) × (slice_get n.servers pair.low ≡ Some s)
    at_low = low_there n pair may

    abbrev at_high : (s : ServerSeen) × (slice_get n.servers pair.high ≡ Some s)
    at_high = high_there n pair may

    abbrev grow : AllGrow n.servers joined.servers
    grow = join_grows number pair n at_low.0 at_high.0 at_low.1 at_high.1

    abbrev uplink : ServerSeen → ServerSeen
    uplink = with_uplink pair.uplink (address_of pair.high) high

    abbrev downlink : ServerSeen → ServerSeen
    downlink = with_downlink pair.listener (address_of pair.low) low

    taken_same : (end : End) → taken_in joined end ≡ taken_in n end
    taken_same end =
        same_taken downlink (λ s. refl) pair.high end.server (number_of end) (changed_at uplink pair.low n.servers)
        ∙ same_taken uplink (λ s. refl) pair.low end.server (number_of end) n.servers

    abbrev new_way : WayKept
    new_way = record { low = low; high = high; up = []; down = [] }

    way_is : (before : Option WayKept) → way_joined pair net.servers before ≡ Some new_way
    way_is before =
        ap (λ p. Some (record {
          low = record { server = pair.low; place = p };
          high = record { server = pair.high; place = links_at (slice_get net.servers pair.high) + (if pair.low == pair.high then 1 else 0) };
          up = [];
          down = [];
        })) (places_same pair.low at_low.0 at_low.1)
        ∙ ap (λ p. Some (record { low = low; high = record { server = pair.high; place = p + (if pair.low == pair.high then 1 else 0) }; up = []; down = [] })) (places_same pair.high at_high.0 at_high.1)

    -- nothing is brought to a link that is new
    new_brought : (end other : End) (s : ServerSeen) → slice_get n.servers end.server ≡ Some s → length s.made < end.place + 1
        → HasEnd joined.servers end other → brought_in joined end ≡ []
    new_brought end other s at new has =
        let later = grow.on end.server s at in
        let same : later.0 ≡ has.0 = some_same later.0 has.0 (sym later.1 ∙ has.1) in
        ap (λ o. brought_at o (number_of end)) later.1
        ∙ later.2.fresh (facts.kept.unmade end.server s at) end.place other (none_past s.made end.place (omega (arith, new))) (ap (λ (u : ServerSeen). slice_get u.made end.place) same ∙ has.2)

    new_taken : (end : End) (s : ServerSeen) → slice_get n.servers end.server ≡ Some s → length s.made < end.place + 1 → taken_in joined end ≡ []
    new_taken end s at new = taken_same end ∙ ap (λ o. taken_at o (number_of end)) at ∙ (facts.servers end.server s at).unmade (number_of end) new

    low_new : length at_low.0.made < low.place + 1
    low_new = let is : next_place (slice_get n.servers pair.low) ≡ length at_low.0.made = ap next_place at_low.1 in omega (arith, is)

    high_new : length at_high.0.made < high.place + 1
    high_new = let is : next_place (slice_get n.servers pair.high) ≡ length at_high.0.made = ap next_place at_high.1 in omega (arith, is)

    new_flows : IsOnItsWay (brought_in joined) (taken_in joined) (Some new_way)
    new_flows =
        let low_end' = low_has number pair n at_low.0 at_high.0 at_low.1 at_high.1 in
        let high_end' = high_has number pair n at_low.0 at_high.0 at_low.1 at_high.1 in (
          ap (λ bytes. bytes ++ []) (new_brought high low at_high.0 at_high.1 high_new high_end') ∙ sym (new_taken low at_low.0 at_low.1 low_new),
          ap (λ bytes. bytes ++ []) (new_brought low high at_low.0 at_low.1 low_new low_end') ∙ sym (new_taken high at_high.0 at_high.1 high_new),
        )

    pub join_goes : Goes (brought_in joined) (after_join pair net.servers) (changed_at (way_joined pair net.servers) number net.ways) joined
    join_goes =
        let middle = at_server uplink pair.low n in
        record {
          servers = zip_changed (Keeps []) (kept_downlink pair.listener (address_of pair.low)) downlink pair.high (changed_at (kept_uplink pair.uplink (address_of pair.high)) pair.low net.servers) middle.servers
              (λ kept s at keeps. downlink_kept kept pair.listener (address_of pair.low) low s keeps)
              (zip_changed (Keeps []) (kept_uplink pair.uplink (address_of pair.high)) uplink pair.low net.servers n.servers (λ kept s at keeps. uplink_kept kept pair.uplink (address_of pair.high) high s keeps) goes.servers);
          joins = joins_changed (way_joined pair net.servers) (joined_by low high) (λ before. ap (option_map joined_of) (way_is before)) number net.ways ∙ ap (changed_at (joined_by low high) number) goes.joins;
          flows = all_changed_at (IsOnItsWay (brought_in joined) (taken_in joined)) (way_joined pair net.servers) number net.ways (λ before. subst (IsOnItsWay (brought_in joined) (taken_in joined)) (sym (way_is before)) new_flows)
              (quiet n joined net.ways grow taken_same ends goes.flows);
        }
