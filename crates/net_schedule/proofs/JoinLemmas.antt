-- A pair that may join has room for its links at both ends.
use Rattle.std.proofs.Common.{◌≡◌, ◌≢◌, ℕ, ◌+◌, ◌≤◌, ◌==◌, ◌&&◌, Bool, true, false, List, [], ◌∷◌, ◌++◌, length, refl, sym, ap, ◌∙◌, subst, arith, length-append, Option, Some, None}
use Rattle.std.specs.Prelude.{slice_get, if◌then◌else◌}
use Rattle.std.proofs.lemmas.Bool.{and_parts, eqb-true, false≢true, leb-true}
use Rattle.net_history.specs.declared.events.Pair.{Pair}
use Rattle.net_history.specs.Network.{End, address_of, changed_at}
use Rattle.net_history.proofs.BetweenLemmas.{changed_here, same_elsewhere}
use Rattle.net_history.proofs.StreamLemmas.{eqb_same}
use Rattle.net_schedule.specs.declared.servers.MadeFor.{MadeFor}
use Rattle.net_schedule.specs.declared.servers.MadeFor.TheVariants as made_for
use Rattle.net_schedule.specs.Asked.{kept_has_room, kept_is_dialled, kept_may_join}
use Rattle.net_schedule.specs.Joined.{links_at, new_way}
use Rattle.net_schedule.specs.Kept.{kept_uplink}
use Rattle.net_schedule.specs.Running.{ServerKept, WayKept}

-- a server is there, and has room for so many links more
record HasRoom (more : ℕ) (o : Option ServerKept) : Type 0 where
  kept : ServerKept
  there : o ≡ Some kept
  room : length kept.made + more ≤ 4294967295

has_room : (more : ℕ) (o : Option ServerKept) → kept_has_room more o ≡ true → HasRoom more o
has_room more None has = absurd (false≢true has)
has_room more (Some kept) has = record { kept = kept; there = refl; room = leb-true (length kept.made + more) 4294967295 has }

pub record CanJoin (servers : List ServerKept) (pair : Pair) : Type 0 where
  pub low : ServerKept
  pub low_at : slice_get servers pair.low ≡ Some low
  pub low_room : length low.made + 1 ≤ 4294967295
  pub low_place : length low.made ≡ links_at (slice_get servers pair.low)
  -- the high end, once the low one has joined
  pub high : ServerKept
  pub high_at : slice_get (changed_at (kept_uplink pair.uplink (address_of pair.high)) pair.low servers) pair.high ≡ Some high
  pub high_room : length high.made + 1 ≤ 4294967295
  pub high_place : length high.made ≡ links_at (slice_get servers pair.high) + (if pair.low == pair.high then 1 else 0)

made_more : (made : List MadeFor) → length (made ++ made_for.Pair ∷ []) ≡ length made + 1
made_more made = length-append made (made_for.Pair ∷ [])

pub can_join : (servers : List ServerKept) (pair : Pair) → kept_may_join servers (Some pair) ≡ true → CanJoin servers pair
can_join servers pair may = of (pair.low == pair.high) refl (and_parts (kept_is_dialled pair.uplink (slice_get servers pair.low)) _ may).1
  where
    joins : ServerKept → ServerKept
    joins = kept_uplink pair.uplink (address_of pair.high)

    of : (b : Bool) → (pair.low == pair.high) ≡ b
        → (if b then kept_has_room 2 (slice_get servers pair.low) else kept_has_room 1 (slice_get servers pair.low) && kept_has_room 1 (slice_get servers pair.high)) ≡ true → CanJoin servers pair
    of true is has =
        let a = has_room 2 (slice_get servers pair.low) has in
        let same : pair.low ≡ pair.high = eqb-true pair.low pair.high is in
        let more : length (joins a.kept).made ≡ length a.kept.made + 1 = made_more a.kept.made in
        record {
          low = a.kept;
          low_at = a.there;
          low_room = let room = a.room in omega (arith, room);
          low_place = ap links_at (sym a.there);
          high = joins a.kept;
          high_at = subst (λ i. slice_get (changed_at joins pair.low servers) i ≡ Some (joins a.kept)) same (changed_here joins pair.low servers a.kept a.there);
          high_room = let room = a.room in omega (arith, room, more);
          high_place = more ∙ ap (λ o. links_at o + 1) (sym a.there ∙ ap (slice_get servers) same) ∙ ap (λ b. links_at (slice_get servers pair.high) + (if b then 1 else 0)) (sym is);
        }
    of false is has =
        let parts = and_parts (kept_has_room 1 (slice_get servers pair.low)) (kept_has_room 1 (slice_get servers pair.high)) has in
        let a = has_room 1 (slice_get servers pair.low) parts.0 in
        let b = has_room 1 (slice_get servers pair.high) parts.1 in
        record {
          low = a.kept;
          low_at = a.there;
          low_room = a.room;
          low_place = ap links_at (sym a.there);
          high = b.kept;
          high_at = same_elsewhere joins pair.low pair.high servers (differ is) ∙ b.there;
          high_room = b.room;
          high_place = no_more (length b.kept.made) ∙ ap (λ o. links_at o + 0) (sym b.there) ∙ ap (λ c. links_at (slice_get servers pair.high) + (if c then 1 else 0)) (sym is);
        }
      where
        no_more : (k : ℕ) → k ≡ k + 0
        no_more k = omega arith

        differ : (pair.low == pair.high) ≡ false → pair.low ≢ pair.high
        differ other same = false≢true (sym other ∙ ap (λ i. i == pair.high) same ∙ eqb_same pair.high)

pub way_is_new : (servers : List ServerKept) (pair : Pair) (can : CanJoin servers pair) (low high : End) (up down : List ℕ) → low ≡ record { server = pair.low; place = length can.low.made } → high ≡ record { server = pair.high; place = length can.high.made } → up ≡ [] → down ≡ []
    → ◌≡◌ {A = WayKept} (record { low = low; high = high; up = up; down = down }) (new_way pair servers)
way_is_new servers pair can low high up down low_is high_is none none' =
    ap (λ (e : End). record { low = e; high = high; up = up; down = down }) (low_is ∙ ap (λ p. record { server = pair.low; place = p }) can.low_place)
    ∙ ap (λ (e : End). record { low = record { server = pair.low; place = links_at (slice_get servers pair.low) }; high = e; up = up; down = down }) (high_is ∙ ap (λ p. record { server = pair.high; place = p }) can.high_place)
    ∙ ap (λ (bytes : List ℕ). record (new_way pair servers) { up = bytes; down = down }) none
    ∙ ap (λ (bytes : List ℕ). record (new_way pair servers) { down = bytes }) none'
