-- Links that wait for the page, and those that are owed a reply, rise by their numbers.
use Rattle.std.proofs.Common.{◌≡◌, ℕ, if◌then◌else◌, ◌==◌, List, [], length, refl, sym, ap, subst, inl, inr, Option, Some, None}
use Rattle.std.specs.Prelude.{nat_le}
use Rattle.std.specs.List.{find}
use Rattle.std.proofs.lemmas.Bool.{cases_Bool}
use Rattle.aprs_base.specs.Outside.{CountsLink, new_link}
use Rattle.aprs_base.specs.declared.events.Event.{Event}
use Rattle.aprs_base.specs.declared.events.Event.TheVariants as event
use Rattle.aprs_base.specs.declared.texts.Addr.{Addr}
use Rattle.http_submit.specs.Fronts.{FrontSeen}
use Rattle.http_submit.specs.Laws.{IsInOrder, Rises}
use Rattle.http_submit.specs.Pools.{PoolSeen, WaitingSeen, added, heard, is_link, most_bytes, opened, settled, without}
use Rattle.http_submit.proofs.OrderLemmas.{found_within, grown_links, replies_rise}
use Rattle.status_page.specs.Laws.{PagesRise}
use Rattle.status_page.specs.PageFronts.{Hears, PageSeen, PoolTurns, PoolTurnsAt, judged, moment_after}
use Rattle.status_page.specs.declared.requests.Get.{Get}
use Rattle.status_page.specs.declared.requests.Get.TheVariants.{Whole, More, Refused}

-- a front for packets with this pool
abbrev front : (v moment : ℕ) → PoolSeen → FrontSeen
front v moment pool = record { at = Some v; moment = moment; pool = pool }

abbrev paid : PoolSeen → PoolSeen
paid pool = record pool { owed = [] }

-- ---- bytes come: no link is made

module _ (made : ℕ) (pool : PoolSeen) (order : IsInOrder made pool) where
  same_order : IsInOrder made (paid pool)
  same_order = replies_rise made made (front 0 0 pool) (front 0 0 (paid pool)) event.Stop event.Stop order refl (refl, refl)

  without_order : (link : ℕ) → IsInOrder made (without link (paid pool))
  without_order link = replies_rise made made (front 0 0 pool) (front 0 0 (without link (paid pool))) (event.Ended link) (event.Ended link) order refl (refl, refl)

  settled_order : (link status : ℕ) (w : WaitingSeen) → find (is_link link) pool.waiting ≡ Some w → IsInOrder made (settled link status (paid pool))
  settled_order link status w found = ((without_order link).0, found_within link 0 made pool.waiting w order.0 found)

  added_order : (link : ℕ) (bytes : List ℕ) → IsInOrder made (added link bytes (paid pool))
  added_order link bytes = (subst (λ links. Rises 0 links made) (sym (grown_links link bytes pool.waiting)) order.0, same_order.1)

  judged_order : (link : ℕ) (bytes so_far : List ℕ) (get : Get) (w : WaitingSeen) → find (is_link link) pool.waiting ≡ Some w → IsInOrder made (judged link bytes so_far get (paid pool))
  judged_order link bytes so_far Whole w found = settled_order link 200 w found
  judged_order link bytes so_far (Refused status) w found = settled_order link status w found
  judged_order link bytes so_far More w found = elim (cases_Bool (nat_le most_bytes (length so_far))) [
    | inl full ↦ rw full (settled_order link 413 w found)
    | inr room ↦ rw room (added_order link bytes)
  ]

  heard_order : (link : ℕ) (bytes : List ℕ) (found : Option WaitingSeen) (after : PoolSeen) → find (is_link link) pool.waiting ≡ found → Hears link bytes found (paid pool) after → IsInOrder made after
  heard_order link bytes None after found hears = subst (λ p. IsInOrder made p) (sym hears) same_order
  heard_order link bytes (Some w) after found hears = subst (λ p. IsInOrder made p) (sym hears.2) (judged_order link bytes (heard w bytes) hears.0 w found)

-- ---- any event comes

opened_order : (v listener link moment made now : ℕ) (from : Addr) (pool after : PoolSeen) → IsInOrder made pool → CountsLink (Some link) made now
    → after ≡ (if listener == v then opened link from moment (paid pool) else paid pool) → IsInOrder now after
opened_order v listener link moment made now from pool after order counts is =
    replies_rise made now (front v moment pool) (front v moment after) (event.Opened listener link from) (event.Opened listener link from) order counts (turned, refl)
  where
    turned : front v moment after ≡ (if listener == v then record (front v moment (paid pool)) { pool = opened link from moment (paid pool) } else front v moment (paid pool))
    turned = elim (cases_Bool (listener == v)) [
      | inl own ↦ rw own (ap (front v moment) (rw own at is))
      | inr other ↦ rw other (ap (front v moment) (rw other at is))
    ]

same_after : (made now : ℕ) (pool after : PoolSeen) (e : Event) → IsInOrder made pool → now ≡ made → after ≡ paid pool → IsInOrder now after
same_after made now pool after e order counts is =
    subst (λ p. IsInOrder now p) (sym is) (subst (λ n. IsInOrder n (paid pool)) (sym counts) (same_order made pool order))

turned : (v moment made now : ℕ) (pool after : PoolSeen) (e : Event) → IsInOrder made pool → CountsLink (new_link e) made now → PoolTurnsAt v (moment_after e moment) (paid pool) e after → IsInOrder now after
turned v moment made now pool after (event.Tick tick) order counts is =
    replies_rise made now (front v moment pool) (front v (moment_after (event.Tick tick) moment) after) (event.Tick tick) (event.Tick tick) order counts (ap (front v (moment_after (event.Tick tick) moment)) is, refl)
turned v moment made now pool after (event.Opened listener link from) order counts is = opened_order v listener link moment made now from pool after order counts is
turned v moment made now pool after (event.Bytes link bytes) order counts hears =
    subst (λ n. IsInOrder n after) (sym counts) (heard_order made pool order link bytes (find (is_link link) pool.waiting) after refl hears)
turned v moment made now pool after (event.Ended link) order counts is =
    subst (λ p. IsInOrder now p) (sym is) (subst (λ n. IsInOrder n (without link (paid pool))) (sym counts) (without_order made pool order link))
turned v moment made now pool after (event.Joined uplink link at) order counts is =
    replies_rise made now (front v moment pool) (front v moment after) (event.Joined uplink link at) (event.Joined uplink link at) order counts (ap (front v moment) is, refl)
turned v moment made now pool after (event.Unjoined uplink) order counts is = same_after made now pool after (event.Unjoined uplink) order counts is
turned v moment made now pool after (event.Room link) order counts is = same_after made now pool after (event.Room link) order counts is
turned v moment made now pool after (event.Datagram listener from bytes) order counts is = same_after made now pool after (event.Datagram listener from bytes) order counts is
turned v moment made now pool after event.Stop order counts is = same_after made now pool after event.Stop order counts is

by_port : (at : Option ℕ) (moment made now : ℕ) (pool after : PoolSeen) (e : Event) → IsInOrder made pool → CountsLink (new_link e) made now → PoolTurns at (moment_after e moment) (paid pool) e after → IsInOrder now after
by_port None moment made now pool after e order counts is =
    replies_rise made now (record { at = None; moment = moment; pool = pool }) (record { at = None; moment = moment; pool = after }) e e order counts
    (ap (λ (p : PoolSeen). record { at = None; moment = moment; pool = p }) is, refl)
by_port (Some v) moment made now pool after e order counts turns = turned v moment made now pool after e order counts turns

pub pages_rise : PagesRise
pages_rise made now before after e order counts turns =
    by_port before.at before.moment made now before.pool after.pool e order counts
    (subst (λ moment. PoolTurns before.at moment (paid before.pool) e after.pool) (ap (λ (p : PageSeen). p.moment) turns.kept) turns.pool)
