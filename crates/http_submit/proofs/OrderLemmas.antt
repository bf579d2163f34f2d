-- Links that wait, and replies that are owed, rise by their numbers.
use Rattle.std.proofs.Common.{◌≡◌, ℕ, ◌+◌, ◌<◌, ◌≤◌, Bool, not, if◌then◌else◌, ◌==◌, List, [], ◌∷◌, ◌++◌, length, map, filter, refl, sym, ap, subst, inl, inr, arith, Option, Some, None}
use Rattle.std.specs.Prelude.{nat_le, nat_lt}
use Rattle.std.specs.List.{find}
use Rattle.std.proofs.lemmas.Bool.{cases_Bool, eqb-true}
use Rattle.aprs_base.specs.Outside.{CountsLink, new_link}
use Rattle.aprs_base.specs.declared.events.Event.{Event}
use Rattle.aprs_base.specs.declared.events.Event.TheVariants as event
use Rattle.aprs_base.specs.declared.texts.Addr.{Addr}
use Rattle.http_submit.specs.Fronts.{FrontSeen, Hears, TurnsAt, TurnsBy, judged, paid_front}
use Rattle.http_submit.specs.Laws.{IsInOrder, RepliesRise, Rises, links_of, owed_links}
use Rattle.http_submit.specs.Pools.{PoolSeen, WaitingSeen, added, grown, heard, is_late, is_link, most_bytes, most_waiting, opened, owed_late, settled, ticked, without}
use Rattle.http_submit.specs.declared.requests.Post.{Post}
use Rattle.http_submit.specs.declared.requests.Post.TheVariants.{Whole, More, Refused}

-- ---- numbers that rise

up_to_more : (n made now : ℕ) (xs : List ℕ) → made ≤ now → Rises n xs made → Rises n xs now
up_to_more n made now [] more rises = omega (arith, rises, more)
up_to_more n made now (x ∷ xs) more rises = (rises.0, up_to_more x made now xs more rises.1)

from_less : (m n made : ℕ) (xs : List ℕ) → m ≤ n → Rises n xs made → Rises m xs made
from_less m n made [] less rises = omega (arith, rises, less)
from_less m n made (x ∷ xs) less rises = let here = rises.0 in (omega (arith, here, less), rises.1)

bounded : (n made : ℕ) (xs : List ℕ) → Rises n xs made → n ≤ made
bounded n made [] rises = rises
bounded n made (x ∷ xs) rises = let here = rises.0 in let rest = bounded x made xs rises.1 in omega (arith, here, rest)

with_next : (n made : ℕ) (xs : List ℕ) → Rises n xs made → Rises n (xs ++ (made + 1) ∷ []) (made + 1)
with_next n made [] rises = (omega (arith, rises), omega arith)
with_next n made (x ∷ xs) rises = (rises.0, with_next x made xs rises.1)

-- ---- links that wait

kept_rise : (test : WaitingSeen → Bool) (n made : ℕ) (waiting : List WaitingSeen) → Rises n (links_of waiting) made → Rises n (links_of (filter test waiting)) made
kept_rise test n made [] rises = rises
kept_rise test n made (w ∷ waiting) rises =
    let rest = kept_rise test w.link made waiting rises.1 in
    let here = rises.0 in
    elim (cases_Bool (test w)) [
      | inl holds ↦ rw holds (here, rest)
      | inr fails ↦ rw fails (from_less n w.link made (links_of (filter test waiting)) (omega (arith, here)) rest)
    ]

late_rise : (now n made : ℕ) (waiting : List WaitingSeen) → Rises n (links_of waiting) made → Rises n (owed_links (map owed_late (filter (is_late now) waiting))) made
late_rise now n made [] rises = rises
late_rise now n made (w ∷ waiting) rises =
    let rest = late_rise now w.link made waiting rises.1 in
    let here = rises.0 in
    elim (cases_Bool (is_late now w)) [
      | inl holds ↦ rw holds (here, rest)
      | inr fails ↦ rw fails (from_less n w.link made (owed_links (map owed_late (filter (is_late now) waiting))) (omega (arith, here)) rest)
    ]

grown_link : (link : ℕ) (bytes : List ℕ) (w : WaitingSeen) → (grown link bytes w).link ≡ w.link
grown_link link bytes w = elim (cases_Bool (is_link link w)) [ inl holds ↦ rw holds refl | inr fails ↦ rw fails refl ]

pub grown_links : (link : ℕ) (bytes : List ℕ) (waiting : List WaitingSeen) → links_of (map (grown link bytes) waiting) ≡ links_of waiting
grown_links link bytes [] = refl
grown_links link bytes (w ∷ waiting) = rw (grown_link link bytes w) (ap (λ links. w.link ∷ links) (grown_links link bytes waiting))

none_is_none : (w : WaitingSeen) → None ≡ Some w → ⊥
none_is_none w e = cc

pub found_within : (link n made : ℕ) (waiting : List WaitingSeen) (w : WaitingSeen) → Rises n (links_of waiting) made → find (is_link link) waiting ≡ Some w → (n < link) × (link ≤ made)
found_within link n made [] w rises found = absurd (none_is_none w found)
found_within link n made (v ∷ waiting) w rises found =
    let here = rises.0 in
    elim (cases_Bool (is_link link v)) [
      | inl holds ↦
          let same = eqb-true v.link link holds in
          let rest = bounded v.link made (links_of waiting) rises.1 in
          (omega (arith, here, same), omega (arith, rest, same))
      | inr fails ↦
          let later = found_within link v.link made waiting w rises.1 (rw fails at found) in
          let low = later.0 in
          (omega (arith, here, low), later.1)
    ]

-- ---- what an event makes of a pool in which nothing is owed

counted_up : (link : Option ℕ) (made now : ℕ) → CountsLink link made now → made ≤ now
counted_up None made now counts = omega (arith, counts)
counted_up (Some link) made now counts = let is = counts.1 in omega (arith, is)

module _ (made now : ℕ) (more : made ≤ now) (pool : PoolSeen) (paid : pool.owed ≡ []) (rises : Rises 0 (links_of pool.waiting) made) where
  waits : Rises 0 (links_of pool.waiting) now
  waits = up_to_more 0 made now (links_of pool.waiting) more rises

  none_owed : Rises 0 (owed_links pool.owed) now
  none_owed = subst (λ owed. Rises 0 (owed_links owed) now) (sym paid) (omega arith)

  owed_one : (link status : ℕ) → 0 < link → link ≤ now → Rises 0 (owed_links (pool.owed ++ record { link = link; status = status } ∷ [])) now
  owed_one link status some made' = subst (λ owed. Rises 0 (owed_links (owed ++ record { link = link; status = status } ∷ [])) now) (sym paid) (some, made')

  same_order : IsInOrder now pool
  same_order = (waits, none_owed)

  ticked_order : (moment : ℕ) → IsInOrder now (ticked moment pool)
  ticked_order moment = (
    kept_rise (λ w. not (is_late moment w)) 0 now pool.waiting waits,
    subst (λ owed. Rises 0 (owed_links (owed ++ map owed_late (filter (is_late moment) pool.waiting))) now) (sym paid) (late_rise moment 0 now pool.waiting waits),
  )

  without_order : (link : ℕ) → Rises 0 (links_of (without link pool).waiting) now
  without_order link = kept_rise (λ w. not (is_link link w)) 0 now pool.waiting waits

  settled_order : (link status : ℕ) (w : WaitingSeen) → find (is_link link) pool.waiting ≡ Some w → IsInOrder now (settled link status pool)
  settled_order link status w found =
      let at = found_within link 0 now pool.waiting w waits found in
      (without_order link, owed_one link status at.0 at.1)

  added_order : (link : ℕ) (bytes : List ℕ) → IsInOrder now (added link bytes pool)
  added_order link bytes = (subst (λ links. Rises 0 links now) (sym (grown_links link bytes pool.waiting)) waits, none_owed)

  judged_order : (link : ℕ) (bytes so_far : List ℕ) (post : Post) (w : WaitingSeen) → find (is_link link) pool.waiting ≡ Some w → IsInOrder now (judged link bytes so_far post pool)
  judged_order link bytes so_far (Whole start len known) w found = settled_order link (if known then 202 else 403) w found
  judged_order link bytes so_far (Refused status) w found = settled_order link status w found
  judged_order link bytes so_far More w found = elim (cases_Bool (nat_le most_bytes (length so_far))) [
    | inl full ↦ rw full (settled_order link 413 w found)
    | inr room ↦ rw room (added_order link bytes)
  ]

  opened_order : (link : ℕ) (from : Addr) (moment : ℕ) → link ≡ made + 1 → now ≡ made + 1 → IsInOrder now (opened link from moment pool)
  opened_order link from moment next is = elim (cases_Bool (nat_lt (length pool.waiting) most_waiting)) [
    | inl room ↦ rw room (
      subst (λ links. Rises 0 links now) (sym (links_more pool.waiting))
          (subst (λ n. Rises 0 (links_of pool.waiting ++ n ∷ []) now) (sym next) (subst (λ n. Rises 0 (links_of pool.waiting ++ (made + 1) ∷ []) n) (sym is) (with_next 0 made (links_of pool.waiting) rises))),
      none_owed,
    )
    | inr full ↦ rw full (waits, owed_one link 503 (omega (arith, next)) (omega (arith, next, is)))
  ]
    where
      links_more : (waiting : List WaitingSeen) → links_of (waiting ++ record { link = link; from = from; moment = moment; bytes = [] } ∷ []) ≡ links_of waiting ++ link ∷ []
      links_more [] = refl
      links_more (w ∷ waiting) = ap (λ links. w.link ∷ links) (links_more waiting)

-- ---- an event comes to a front to which nothing is owed

heard_order : (u link made now : ℕ) (bytes : List ℕ) (before after : FrontSeen) (up : Event) (found : Option WaitingSeen) → before.pool.owed ≡ [] → Rises 0 (links_of before.pool.waiting) made
    → find (is_link link) before.pool.waiting ≡ found → Hears u link bytes found before after up → made ≤ now → IsInOrder now after.pool
heard_order u link made now bytes before after up None paid rises found hears more = subst (λ (f : FrontSeen). IsInOrder now f.pool) (sym hears.0) (same_order made now more before.pool paid rises)
heard_order u link made now bytes before after up (Some w) paid rises found hears more =
    subst (λ (f : FrontSeen). IsInOrder now f.pool) (sym hears.2)
    (judged_order made now more before.pool paid rises link bytes (heard w bytes) hears.0 w found)

same_after : (made now : ℕ) (before after : FrontSeen) (up : Event) → before.pool.owed ≡ [] → Rises 0 (links_of before.pool.waiting) made → CountsLink (new_link up) made now → after ≡ before → IsInOrder now after.pool
same_after made now before after up paid rises counts is =
    subst (λ (f : FrontSeen). IsInOrder now f.pool) (sym is) (same_order made now (counted_up (new_link up) made now counts) before.pool paid rises)

opened_after : (u listener link made now : ℕ) (from : Addr) (before after : FrontSeen) → before.pool.owed ≡ [] → Rises 0 (links_of before.pool.waiting) made → CountsLink (Some link) made now
    → after ≡ (if listener == u then record before { pool = opened link from before.moment before.pool } else before) → IsInOrder now after.pool
opened_after u listener link made now from before after paid rises counts is =
    let more = counted_up (Some link) made now counts in
    subst (λ (f : FrontSeen). IsInOrder now f.pool) (sym is)
    (elim (cases_Bool (listener == u)) [
      | inl own ↦ rw own (opened_order made now more before.pool paid rises link from before.moment counts.0 counts.1)
      | inr other ↦ rw other (same_order made now more before.pool paid rises)
    ])

turned : (u made now : ℕ) (before after : FrontSeen) (came up : Event) → before.pool.owed ≡ [] → Rises 0 (links_of before.pool.waiting) made → CountsLink (new_link up) made now
    → TurnsAt u before came after up → IsInOrder now after.pool
turned u made now before after (event.Tick moment) up paid rises counts turns =
    subst (λ (f : FrontSeen). IsInOrder now f.pool) (sym turns.0) (ticked_order made now (counted_up (new_link up) made now counts) before.pool paid rises _)
turned u made now before after (event.Opened listener link from) up paid rises counts turns =
    opened_after u listener link made now from before after paid rises (subst (λ e. CountsLink (new_link e) made now) turns.1 counts) turns.0
turned u made now before after (event.Bytes link bytes) up paid rises counts turns =
    heard_order u link made now bytes before after up (find (is_link link) before.pool.waiting) paid rises refl turns (counted_up (new_link up) made now counts)
turned u made now before after (event.Ended link) up paid rises counts turns =
    let more = counted_up (new_link up) made now counts in
    subst (λ (f : FrontSeen). IsInOrder now f.pool) (sym turns.0) (without_order made now more before.pool paid rises link, none_owed made now more before.pool paid rises)
turned u made now before after (event.Joined uplink link at) up paid rises counts turns = same_after made now before after up paid rises counts turns.0
turned u made now before after (event.Unjoined uplink) up paid rises counts turns = same_after made now before after up paid rises counts turns.0
turned u made now before after (event.Room link) up paid rises counts turns = same_after made now before after up paid rises counts turns.0
turned u made now before after (event.Datagram listener from bytes) up paid rises counts turns = same_after made now before after up paid rises counts turns.0
turned u made now before after event.Stop up paid rises counts turns = same_after made now before after up paid rises counts turns.0

by_port : (at : Option ℕ) (made now : ℕ) (before after : FrontSeen) (came up : Event) → before.pool.owed ≡ [] → Rises 0 (links_of before.pool.waiting) made → CountsLink (new_link up) made now
    → TurnsBy at before came after up → IsInOrder now after.pool
by_port None made now before after came up paid rises counts turns = same_after made now before after up paid rises counts turns.0
by_port (Some u) made now before after came up paid rises counts turns = turned u made now before after came up paid rises counts turns

pub replies_rise : RepliesRise
replies_rise made now before after came up order counts turns = by_port before.at made now (paid_front before) after came up refl order.0 counts turns
