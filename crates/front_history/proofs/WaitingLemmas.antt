-- What the pool of a front holds of the history so far: the links of its port that wait, and those that are owed a reply.
use Rattle.std.proofs.Common.{◌≡◌, ℕ, ◌+◌, ◌-◌, ◌≤◌, ◌<◌, ◌==◌, ◌&&◌, ◌||◌, nat_lt, Bool, true, false, not, List, [], ◌∷◌, ◌++◌, length, filter, max, map, take, cond, if◌then◌else◌, refl, sym, ap, ◌∙◌, subst, arith, eq-eqb, leb-false, leb-true, ltb-false, ltb-true, Option, Some, None, ◌⊎◌, inl, inr}
use Rattle.std.specs.Prelude.{⊤, IfSome, is_some}
use Rattle.std.specs.List.{AllByRecursion as Each, find}
use Rattle.std.proofs.lemmas.Bool.{and_from, and_parts, and_right, cases_Bool, eqb-true, false_from_ne_true, true≢false}
use Rattle.std.proofs.lemmas.List.{length-append, length-map}
use Rattle.std.proofs.lemmas.List.Sums.{count_by-le-length, length-filter}
use Rattle.std.proofs.lemmas.Option.{none-some, same_Some}
use Rattle.aprs_base.specs.Outside.{new_link}
use Rattle.aprs_base.specs.declared.texts.Addr.{Addr}
use Rattle.aprs_base.specs.declared.events.Event.{Event}
use Rattle.aprs_base.specs.declared.events.Event.TheVariants as event
use Rattle.aprs_base.specs.declared.events.Sent.{Sent}
use Rattle.aprs_base.specs.declared.events.Happening.{Happening}
use Rattle.aprs_base.specs.declared.events.Happening.TheVariants as did
use Rattle.aprs_history.specs.History.{History, greatest_link}
use Rattle.aprs_history.specs.Headline.{HasFreshLinks}
use Rattle.aprs_history.specs.Trace.{Rises}
use Rattle.aprs_history.proofs.NumberLemmas.{differs_above, rises_higher, rises_lower, rises_pushed}
use Rattle.http_submit.specs.Fronts.{is_at}
use Rattle.http_submit.specs.Pools.{PoolSeen, WaitingSeen, added, grown, heard, is_late, is_link, most_bytes, most_seconds, most_waiting, opened as with_opened, owed_late, settled, ticked, without}
use Rattle.http_submit.specs.declared.pool.Owed.{Owed}
use Rattle.front_history.specs.Replies.{IsPart, LastSettles, NoneIsDue, IsNotDue, SettlesNone, moment_in, opened_links, opened_when, waiting_links}
use Rattle.front_history.specs.Views.{IsNotTo, came_since, is_waiting, opened_at, opened_from, request_of}
use Rattle.front_history.proofs.OtherLemmas.{opened_within}
use Rattle.front_history.proofs.PoolLemmas.{all_filtered, found_within, grown_links, late_links, length_links, link_of, listed, listed_but, listed_found, listed_grown, listed_late, listed_none, listed_pushed, listed_times, one, one_either, owed_link, owed_to, pushed_links, rises_kept, same_length, take_joined, times, times_filtered, times_pushed, waiting_if, all_pushed}
use Rattle.front_history.proofs.ServesLemmas.{IsAct}

-- a pool that owes nothing
abbrev pub idle : List WaitingSeen → PoolSeen
idle ws = record { waiting = ws; owed = [] }

-- an event brings no link that was there
abbrev pub IsFresh : History → Event → Type 0
IsFresh h e = IfSome (new_link e) (λ link. greatest_link h < link)

-- ---- what an act leaves as it was

pub act_opens : (u : Option ℕ) (x : Happening) → IsAct x → (h : History) (k : ℕ) → opened_from u (x ∷ h) k ≡ opened_from u h k
act_opens u (did.Event e) act h k = absurd act
act_opens u x act h k = refl

pub act_moment : (x : Happening) → IsAct x → (h : History) → moment_in (x ∷ h) ≡ moment_in h
act_moment (did.Event e) act h = absurd act
act_moment x act h = refl

pub act_greatest : (x : Happening) → IsAct x → (h : History) → greatest_link (x ∷ h) ≡ greatest_link h
act_greatest (did.Event e) act h = absurd act
act_greatest x act h = refl

pub act_fresh : (x : Happening) → IsAct x → (h : History) → HasFreshLinks (x ∷ h) → HasFreshLinks h
act_fresh (did.Event e) act h fresh = absurd act
act_fresh x act h fresh = fresh

pub fresh_act : (x : Happening) → IsAct x → (h : History) → HasFreshLinks h → HasFreshLinks (x ∷ h)
fresh_act (did.Event e) act h fresh = absurd act
fresh_act x act h fresh = fresh

module _ (u : Option ℕ) where
  -- ---- who waits

  pub waiting_opened : (h : History) (k : ℕ) → is_waiting u h k ≡ true → opened_at u h k ≡ true
  waiting_opened [] k waits = waits
  waiting_opened (did.Event (event.Opened listener link from) ∷ h) k waits = of (is_at u listener && link == k) waits (waiting_opened h k)
    where
      of : (b : Bool) → (b || is_waiting u h k) ≡ true → (is_waiting u h k ≡ true → opened_at u h k ≡ true) → is_some (if b then Some from else opened_from u h k) ≡ true
      of true waits earlier = refl
      of false waits earlier = earlier waits
  waiting_opened (did.Event (event.Ended link) ∷ h) k waits = waiting_opened h k (and_parts (not (link == k)) (is_waiting u h k) waits).1
  waiting_opened (did.Sent link bytes outcome ∷ h) k waits = waiting_opened h k (and_parts (not (link == k)) (is_waiting u h k) waits).1
  waiting_opened (did.Event e ∷ h) k waits = waiting_opened h k waits
  waiting_opened (x ∷ h) k waits = waiting_opened h k waits

  -- each link stands there once, where it waits
  abbrev pub Counts : History → PoolSeen → Type 0
  Counts h pool = (k : ℕ) → listed k pool.waiting + owed_to k pool.owed ≡ one (is_waiting u h k)

  -- each link was opened once
  times_opening : (h : History) (k listener link : ℕ) (from : Addr) → greatest_link h < link → times k (opened_links u h) ≡ one (opened_at u h k)
      → times k (if is_at u listener then opened_links u h ++ link ∷ [] else opened_links u h) ≡ one (is_some (if is_at u listener && link == k then Some from else opened_from u h k))
  times_opening h k listener link from above before = at_port (is_at u listener)
    where
      new : (b : Bool) → (link == k) ≡ b → times k (opened_links u h ++ link ∷ []) ≡ one (is_some (if b then Some from else opened_from u h k))
      new true same =
          let unopened : opened_at u h k ≡ false = false_from_ne_true (opened_at u h k) (λ opened. let within = opened_within u k h opened in let is : link ≡ k = eqb-true link k same in absurd (omega arith)) in
          let none : one (opened_at u h k) ≡ 0 = ap one unopened in
          let pushed = times_pushed k link (opened_links u h) in
          let here : one (link == k) ≡ 1 = ap one same in
          omega arith
      new false other = let pushed = times_pushed k link (opened_links u h) in let here : one (link == k) ≡ 0 = ap one other in omega arith

      at_port : (b : Bool) → times k (if b then opened_links u h ++ link ∷ [] else opened_links u h) ≡ one (is_some (if b && link == k then Some from else opened_from u h k))
      at_port true = new (link == k) refl
      at_port false = before

  times_opened : (h : History) (k : ℕ) → HasFreshLinks h → times k (opened_links u h) ≡ one (opened_at u h k)
  times_opened [] k fresh = refl
  times_opened (did.Event (event.Opened listener link from) ∷ h) k fresh = times_opening h k listener link from fresh.1 (times_opened h k fresh.0)
  times_opened (did.Event e ∷ h) k fresh = times_opened h k fresh.0
  times_opened (x ∷ h) k fresh = times_opened h k fresh

  times_waiting : (h : History) (k : ℕ) → HasFreshLinks h → times k (waiting_links u h) ≡ one (is_waiting u h k)
  times_waiting h k fresh = times_filtered (is_waiting u h) k (opened_links u h) ∙ of (is_waiting u h k) refl
    where
      of : (b : Bool) → is_waiting u h k ≡ b → (if b then times k (opened_links u h) else 0) ≡ one b
      of true waits = times_opened h k fresh ∙ ap one (waiting_opened h k waits)
      of false none = refl

  -- so many wait as the pool has
  as_many_wait : (h : History) (ws : List WaitingSeen) → HasFreshLinks h → Counts h (idle ws) → length (waiting_links u h) ≡ length ws
  as_many_wait h ws fresh counts =
      same_length (waiting_links u h) (map link_of ws) (λ k. let was = counts k in let links = listed_times k ws in let times_are = times_waiting h k fresh in omega arith) ∙ length_links ws

  few_filtered : (p : WaitingSeen → Bool) (ws : List WaitingSeen) → length ws ≤ most_waiting → length (filter p ws) ≤ most_waiting
  few_filtered p ws few = let counted = length-filter p ws in let less = count_by-le-length p ws in omega arith

  -- ---- counts after an event

  counts_opened : (h : History) (listener link : ℕ) (from : Addr) (ws : List WaitingSeen) → greatest_link h < link → Counts h (idle ws)
      → Counts (did.Event (event.Opened listener link from) ∷ h) (if is_at u listener then with_opened link from (moment_in h) (idle ws) else idle ws)
  counts_opened h listener link from ws fresh counts k = at_port (is_at u listener)
    where
      unopened : (link == k) ≡ true → is_waiting u h k ≡ false
      unopened same = false_from_ne_true (is_waiting u h k) (λ waits. let within = opened_within u k h (waiting_opened h k waits) in let is : link ≡ k = eqb-true link k same in absurd (omega arith))

      joined : one ((link == k) || is_waiting u h k) ≡ one (link == k) + one (is_waiting u h k)
      joined = one_either (link == k) (is_waiting u h k) unopened

      with_room : (b : Bool) →
          let after = if b then idle (ws ++ record { link = link; from = from; moment = moment_in h; bytes = [] } ∷ []) else record { waiting = ws; owed = record { link = link; status = 503 } ∷ [] } in
          listed k after.waiting + owed_to k after.owed ≡ one (link == k) + one (is_waiting u h k)
      with_room true = let pushed = listed_pushed k ws (record { link = link; from = from; moment = moment_in h; bytes = [] }) in let was = counts k in omega arith
      with_room false = let was = counts k in omega arith

      at_port : (b : Bool) → let after = if b then with_opened link from (moment_in h) (idle ws) else idle ws in
          listed k after.waiting + owed_to k after.owed ≡ one ((b && link == k) || is_waiting u h k)
      at_port true = with_room (nat_lt (length ws) most_waiting) ∙ sym joined
      at_port false = counts k

  counts_settled : (h : History) (link status : ℕ) (bytes : List ℕ) (w : WaitingSeen) (ws : List WaitingSeen) → Counts h (idle ws) → find (is_link link) ws ≡ Some w
      → Counts (did.Event (event.Bytes link bytes) ∷ h) (settled link status (idle ws))
  counts_settled h link status bytes w ws counts found k = of (cases_Bool (link == k))
    where
      of : ((link == k) ≡ true) ⊎ ((link == k) ≡ false) → listed k (filter (λ x. not (is_link link x)) ws) + (one (link == k) + 0) ≡ one (is_waiting u h k)
      of (inl same) =
          let is : link ≡ k = eqb-true link k same in
          let none_left : listed k (filter (λ x. not (is_link link x)) ws) ≡ 0 = ap (λ n. listed n (filter (λ x. not (is_link link x)) ws)) (sym is) ∙ listed_none link ws in
          let some = subst (λ n. 0 < listed n ws) is (listed_found link ws w found) in
          let was = counts k in
          let waits : one (is_waiting u h k) ≡ 1 = ap one (waiting_if (is_waiting u h k) (omega arith)) in
          let here : one (link == k) ≡ 1 = ap one same in
          omega arith
      of (inr other) =
          let left = listed_but k link other ws in
          let was = counts k in
          let here : one (link == k) ≡ 0 = ap one other in
          omega arith

  counts_ended : (h : History) (link : ℕ) (ws : List WaitingSeen) → Counts h (idle ws) → Counts (did.Event (event.Ended link) ∷ h) (without link (idle ws))
  counts_ended h link ws counts k = of (cases_Bool (link == k))
    where
      of : ((link == k) ≡ true) ⊎ ((link == k) ≡ false) → listed k (filter (λ w. not (is_link link w)) ws) + 0 ≡ one (not (link == k) && is_waiting u h k)
      of (inl same) =
          let none_left : listed k (filter (λ w. not (is_link link w)) ws) ≡ 0 = ap (λ n. listed n (filter (λ w. not (is_link link w)) ws)) (sym (eqb-true link k same)) ∙ listed_none link ws in
          let gone : one (not (link == k) && is_waiting u h k) ≡ 0 = ap (λ b. one (not b && is_waiting u h k)) same in
          omega arith
      of (inr other) =
          let left = listed_but k link other ws in
          let was = counts k in
          let as_before : one (not (link == k) && is_waiting u h k) ≡ one (is_waiting u h k) = ap (λ b. one (not b && is_waiting u h k)) other in
          omega arith

  -- ---- counts after an act

  counts_paid : (h : History) (ws : List WaitingSeen) (owed : Owed) (owing : List Owed) (to : ℕ) (bytes : List ℕ) (outcome : Sent) → to ≡ owed.link → Counts h (record { waiting = ws; owed = owed ∷ owing })
      → Counts (did.Sent to bytes outcome ∷ h) (record { waiting = ws; owed = owing })
  counts_paid h ws owed owing to bytes outcome is counts k = of (cases_Bool (owed.link == k))
    where
      was : listed k ws + (one (owed.link == k) + owed_to k owing) ≡ one (is_waiting u h k)
      was = counts k

      of : ((owed.link == k) ≡ true) ⊎ ((owed.link == k) ≡ false) → listed k ws + owed_to k owing ≡ one (not (to == k) && is_waiting u h k)
      of (inl same) =
          let here : one (owed.link == k) ≡ 1 = ap one same in
          let before = was in
          let waits : one (is_waiting u h k) ≡ 1 = ap one (waiting_if (is_waiting u h k) (omega arith)) in
          let after : one (not (to == k) && is_waiting u h k) ≡ 0 = ap (λ b. one (not b && is_waiting u h k)) (ap (λ n. n == k) is ∙ same) in
          omega arith
      of (inr other) =
          let here : one (owed.link == k) ≡ 0 = ap one other in
          let before = was in
          let after : one (not (to == k) && is_waiting u h k) ≡ one (is_waiting u h k) = ap (λ b. one (not b && is_waiting u h k)) (ap (λ n. n == k) is ∙ other) in
          omega arith

  -- nobody waits less, where nothing is sent to a link of the port
  counts_beside : (x : Happening) → IsAct x → (h : History) (pool : PoolSeen) → IsNotTo u h x → Counts h pool → Counts (x ∷ h) pool
  counts_beside (did.Event e) act h pool other counts = absurd act
  counts_beside (did.Sent link bytes outcome) act h pool other counts = λ k. counts k ∙ ap one (sym (of k (cases_Bool (link == k))))
    where
      of : (k : ℕ) → ((link == k) ≡ true) ⊎ ((link == k) ≡ false) → (not (link == k) && is_waiting u h k) ≡ is_waiting u h k
      of k (inl here) =
          let is : link ≡ k = eqb-true link k here in
          let none : is_waiting u h k ≡ false = false_from_ne_true (is_waiting u h k) (λ waits. true≢false (sym (subst (λ n. opened_at u h n ≡ true) (sym is) (waiting_opened h k waits)) ∙ other)) in
          ap (λ b. not b && is_waiting u h k) here ∙ sym none
      of k (inr elsewhere) = ap (λ b. not b && is_waiting u h k) elsewhere
  counts_beside x act h pool other counts = counts

  -- ---- links and their requests

  module _ (HasStatus : List ℕ → ℕ → Type 0) (MayGoOn : List ℕ → Type 0) (apart : (request : List ℕ) (status : ℕ) → HasStatus request status → MayGoOn request → ⊥) where
    -- a link that waits was opened there, and its bytes are its request so far; it isn't late, and the last event didn't settle it
    pub record Waits (h : History) (w : WaitingSeen) : Type 0 where
      pub opened : opened_from u h w.link ≡ Some w.from
      pub moment : w.moment ≡ opened_when u h w.link
      pub bytes : w.bytes ≡ request_of h w.link
      pub soon : moment_in h < w.moment + most_seconds
      pub part : (w.bytes ≡ []) ⊎ MayGoOn w.bytes
      pub unsettled : (status : ℕ) → LastSettles HasStatus u h w.link status → ⊥

    -- one that is owed a reply was opened there, and the last event settled it
    abbrev pub IsOwed : History → Owed → Type 0
    IsOwed h owed = (opened_at u h owed.link ≡ true) × LastSettles HasStatus u h owed.link owed.status

    pub record Pooled (h : History) (pool : PoolSeen) : Type 0 where
      pub waits : Each (Waits h) pool.waiting
      pub few : length pool.waiting ≤ most_waiting
      pub counts : Counts h pool
      pub rises : Rises 0 (map link_of pool.waiting) (greatest_link h)
      pub owed : Each (IsOwed h) pool.owed
      pub owing : Rises 0 (map owed_link pool.owed) (greatest_link h)

    -- what bytes that came on a link that waits make of a pool
    abbrev pub Judged : ℕ → (bytes so_far : List ℕ) → PoolSeen → PoolSeen → Type 0
    Judged link bytes so_far before after = ((status : ℕ) × HasStatus so_far status × (after ≡ settled link status before)) ⊎ (MayGoOn so_far × (after ≡ added link bytes before))

    abbrev pub PoolHears : ℕ → List ℕ → Option WaitingSeen → PoolSeen → PoolSeen → Type 0
    PoolHears link bytes None before after = after ≡ before
    PoolHears link bytes (Some w) before after = Judged link bytes (heard w bytes) before after

    -- what an event makes of it, at that moment
    abbrev pub PoolGoes : ℕ → PoolSeen → Event → PoolSeen → Type 0
    PoolGoes now before (event.Tick moment) after = after ≡ ticked now before
    PoolGoes now before (event.Opened listener link from) after = after ≡ (if is_at u listener then with_opened link from now before else before)
    PoolGoes now before (event.Bytes link bytes) after = PoolHears link bytes (find (is_link link) before.waiting) before after
    PoolGoes now before (event.Ended link) after = after ≡ without link before
    PoolGoes now before e after = after ≡ before

    -- ---- an event that brings no bytes and no moment

    abbrev IsQuiet : Event → Type 0
    IsQuiet (event.Bytes link bytes) = ⊥
    IsQuiet (event.Tick moment) = ⊥
    IsQuiet e = ⊤

    waits_after : (h : History) (e : Event) (w : WaitingSeen) → IsFresh h e → IsQuiet e → Waits h w → Waits (did.Event e ∷ h) w
    waits_after h (event.Bytes link bytes) w fresh quiet was = absurd quiet
    waits_after h (event.Tick moment) w fresh quiet was = absurd quiet
    waits_after h (event.Opened listener link from) w fresh quiet was =
        let within = opened_within u w.link h (ap is_some was.opened) in
        let other : (link == w.link) ≡ false = differs_above w.link link (omega arith) in
        let unlike = and_right (is_at u listener) (link == w.link) other in
        record {
          opened = ap (λ b. if b then Some from else opened_from u h w.link) unlike ∙ was.opened;
          moment = was.moment ∙ ap (λ b. if b then moment_in h else opened_when u h w.link) (sym unlike);
          bytes = was.bytes ∙ ap (λ b. take most_bytes (if b then [] else came_since h w.link)) (sym other);
          soon = was.soon;
          part = was.part;
          unsettled = λ status settles. true≢false (sym (eq-eqb link w.link settles.1) ∙ other);
        }
    waits_after h e w fresh quiet was = record { opened = was.opened; moment = was.moment; bytes = was.bytes; soon = was.soon; part = was.part; unsettled = λ status settles. settles }

    all_after : (h : History) (e : Event) (ws : List WaitingSeen) → IsFresh h e → IsQuiet e → Each (Waits h) ws → Each (Waits (did.Event e ∷ h)) ws
    all_after h e [] fresh quiet all = tt
    all_after h e (w ∷ ws) fresh quiet all = (waits_after h e w fresh quiet all.0, all_after h e ws fresh quiet all.1)

    -- ---- a moment

    module _ (h : History) (moment : ℕ) where
      abbrev tick : History
      tick = did.Event (event.Tick moment) ∷ h

      abbrev late : WaitingSeen → Bool
      late w = is_late (moment_in (did.Event (event.Tick moment) ∷ h)) w

      waits_on : (w : WaitingSeen) → is_late (moment_in tick) w ≡ false → Waits h w → Waits tick w
      waits_on w early was =
          let less = leb-false most_seconds (moment_in tick - w.moment) early in
          let since = was.moment in
          record { opened = was.opened; moment = was.moment; bytes = was.bytes; soon = omega arith; part = was.part; unsettled = λ status settles. let long = settles.1 in omega arith }

      all_on : (ws : List WaitingSeen) → Each (Waits h) ws → Each (Waits tick) (filter (λ w. not (late w)) ws)
      all_on [] all = tt
      all_on (w ∷ ws) all = of (late w) refl (all_on ws all.1)
        where
          of : (b : Bool) → late w ≡ b → Each (Waits tick) (filter (λ w. not (late w)) ws) → Each (Waits tick) (cond (not b) (w ∷ filter (λ w. not (late w)) ws) (filter (λ w. not (late w)) ws))
          of true past rest = rest
          of false early rest = (waits_on w early all.0, rest)

      owed_of_late : (ws : List WaitingSeen) → Each (Waits h) ws → Each (IsOwed tick) (map owed_late (filter late ws))
      owed_of_late [] all = tt
      owed_of_late (w ∷ ws) all = of (late w) refl (owed_of_late ws all.1)
        where
          long_ago : late w ≡ true → opened_when u h w.link + most_seconds ≤ moment_in tick
          long_ago is = let past : most_seconds ≤ moment_in tick - w.moment = leb-true most_seconds (moment_in tick - w.moment) is in let since = all.0.moment in omega arith

          of : (b : Bool) → late w ≡ b → Each (IsOwed tick) (map owed_late (filter late ws)) → Each (IsOwed tick) (map owed_late (cond b (w ∷ filter late ws) (filter late ws)))
          of true is rest = ((ap is_some all.0.opened, (refl, long_ago is)), rest)
          of false early rest = rest

      pooled_ticked : (ws : List WaitingSeen) → Pooled h (idle ws) → Pooled tick (ticked (moment_in tick) (idle ws))
      pooled_ticked ws was = record {
        waits = all_on ws was.waits;
        few = few_filtered (λ w. not (late w)) ws was.few;
        counts = λ k. let all = listed_late k late ws in let counted = was.counts k in omega arith;
        rises = rises_kept 0 (greatest_link h) (λ w. not (late w)) ws was.rises;
        owed = owed_of_late ws was.waits;
        owing = subst (λ ns. Rises 0 ns (greatest_link h)) (sym (late_links (filter late ws))) (rises_kept 0 (greatest_link h) late ws was.rises);
      }

    -- ---- bytes

    module _ (h : History) (link : ℕ) (bytes : List ℕ) where
      abbrev brought : History
      brought = did.Event (event.Bytes link bytes) ∷ h

      came_on : Bool → ℕ → List ℕ
      came_on same k = take most_bytes (if same then came_since h k ++ bytes else came_since h k)

      waits_beside : (w : WaitingSeen) → is_link link w ≡ false → Waits h w → Waits brought w
      unfolding came_on
      waits_beside w other was = record {
        opened = was.opened;
        moment = was.moment;
        bytes = was.bytes ∙ ap (λ b. came_on b w.link) (sym other);
        soon = was.soon;
        part = was.part;
        unsettled = λ status settles. true≢false (sym (eq-eqb w.link link (sym settles.0)) ∙ other);
      }

      pub heard_is : (w : WaitingSeen) → is_link link w ≡ true → Waits h w → heard w bytes ≡ request_of brought w.link
      unfolding came_on
      heard_is w same was = ap (λ xs. xs ++ take (most_bytes - length xs) bytes) was.bytes ∙ take_joined most_bytes (came_since h w.link) bytes ∙ ap (λ b. came_on b w.link) (sym same)

      waits_grown : (w : WaitingSeen) → MayGoOn (request_of brought link) → Waits h w → Waits brought (grown link bytes w)
      waits_grown w part was = of (cases_Bool (is_link link w))
        where
          of : (is_link link w ≡ true) ⊎ (is_link link w ≡ false) → Waits brought (grown link bytes w)
          of (inl same) =
              let is_link_itself : w.link ≡ link = eqb-true w.link link same in
              rw same
              (record {
                opened = was.opened;
                moment = was.moment;
                bytes = heard_is w same was;
                soon = was.soon;
                part = inr (subst MayGoOn (sym (heard_is w same was ∙ ap (request_of brought) is_link_itself)) part);
                unsettled = λ status settles. apart (request_of brought link) status (subst (λ k. HasStatus (request_of brought k) status) is_link_itself settles.1) part;
              })
          of (inr other) = rw other (waits_beside w other was)

      all_grown : (ws : List WaitingSeen) → MayGoOn (request_of brought link) → Each (Waits h) ws → Each (Waits brought) (map (grown link bytes) ws)
      all_grown [] part all = tt
      all_grown (w ∷ ws) part all = (waits_grown w part all.0, all_grown ws part all.1)

      all_but : (ws : List WaitingSeen) → Each (Waits h) ws → Each (Waits brought) (filter (λ w. not (is_link link w)) ws)
      all_but [] all = tt
      all_but (w ∷ ws) all = of (is_link link w) refl (all_but ws all.1)
        where
          of : (b : Bool) → is_link link w ≡ b → Each (Waits brought) (filter (λ w. not (is_link link w)) ws)
              → Each (Waits brought) (cond (not b) (w ∷ filter (λ w. not (is_link link w)) ws) (filter (λ w. not (is_link link w)) ws))
          of true is rest = rest
          of false is rest = (waits_beside w is all.0, rest)

      none_found : (ws : List WaitingSeen) → find (is_link link) ws ≡ None → Each (Waits h) ws → Each (Waits brought) ws
      none_found [] none all = tt
      none_found (w ∷ ws) none all = of (is_link link w) refl none (λ later. none_found ws later all.1)
        where
          of : (b : Bool) → is_link link w ≡ b → cond b (Some w) (find (is_link link) ws) ≡ None → (find (is_link link) ws ≡ None → Each (Waits brought) ws) → Each (Waits brought) (w ∷ ws)
          of true is none rest = absurd (none-some _ (sym none))
          of false is none rest = (waits_beside w is all.0, rest none)

      pub found_waits : (ws : List WaitingSeen) (found : WaitingSeen) → find (is_link link) ws ≡ Some found → Each (Waits h) ws → Waits h found × (is_link link found ≡ true)
      found_waits [] found is all = absurd (none-some _ is)
      found_waits (w ∷ ws) found is all = of (is_link link w) refl is (λ later. found_waits ws found later all.1)
        where
          of : (b : Bool) → is_link link w ≡ b → cond b (Some w) (find (is_link link) ws) ≡ Some found → (find (is_link link) ws ≡ Some found → Waits h found × (is_link link found ≡ true))
              → Waits h found × (is_link link found ≡ true)
          of true same is rest = subst (λ x. Waits h x × (is_link link x ≡ true)) (same_Some w found is) (all.0, same)
          of false other is rest = rest is

      -- what a link that waits has said is its request
      pub heard_found : (ws : List WaitingSeen) (found : WaitingSeen) → find (is_link link) ws ≡ Some found → Each (Waits h) ws → heard found bytes ≡ request_of brought link
      heard_found ws found is all = let waits = found_waits ws found is all in heard_is found waits.1 waits.0 ∙ ap (request_of brought) (eqb-true found.link link waits.1)

      pooled_settled : (status : ℕ) (w : WaitingSeen) (ws : List WaitingSeen) → Pooled h (idle ws) → find (is_link link) ws ≡ Some w → HasStatus (request_of brought link) status → Pooled brought (settled link status (idle ws))
      pooled_settled status w ws was found has =
          let waits = found_waits ws w found was.waits in
          record {
            waits = all_but ws was.waits;
            few = few_filtered (λ x. not (is_link link x)) ws was.few;
            counts = counts_settled h link status bytes w ws was.counts found;
            rises = rises_kept 0 (greatest_link h) (λ x. not (is_link link x)) ws was.rises;
            owed = ((ap is_some (subst (λ k. opened_from u h k ≡ Some w.from) (eqb-true w.link link waits.1) waits.0.opened), (refl, has)), tt);
            owing = found_within 0 (greatest_link h) link ws w found was.rises;
          }

      pooled_grown : (ws : List WaitingSeen) → Pooled h (idle ws) → MayGoOn (request_of brought link) → Pooled brought (added link bytes (idle ws))
      pooled_grown ws was part = record {
        waits = all_grown ws part was.waits;
        few = subst (λ n. n ≤ most_waiting) (sym (length-map ws (grown link bytes))) was.few;
        counts = λ k. let same = listed_grown k link bytes ws in let counted = was.counts k in omega arith;
        rises = subst (λ ns. Rises 0 ns (greatest_link h)) (sym (grown_links link bytes ws)) was.rises;
        owed = tt;
        owing = omega arith;
      }

      pooled_heard : (ws : List WaitingSeen) (found : Option WaitingSeen) (after : PoolSeen) → find (is_link link) ws ≡ found → Pooled h (idle ws) → PoolHears link bytes found (idle ws) after → Pooled brought after
      pooled_heard ws None after none was hears =
          subst (Pooled brought) (sym hears) (record { waits = none_found ws none was.waits; few = was.few; counts = was.counts; rises = was.rises; owed = tt; owing = was.owing })
      pooled_heard ws (Some w) after found was (inl settles) =
          subst (Pooled brought) (sym settles.2) (pooled_settled settles.0 w ws was found (subst (λ xs. HasStatus xs settles.0) (heard_found ws w found was.waits) settles.1))
      pooled_heard ws (Some w) after found was (inr goes) =
          subst (Pooled brought) (sym goes.1) (pooled_grown ws was (subst MayGoOn (heard_found ws w found was.waits) goes.0))

    -- ---- an opening

    module _ (h : History) (listener link : ℕ) (from : Addr) where
      abbrev then_opened : History
      then_opened = did.Event (event.Opened listener link from) ∷ h

      abbrev new : WaitingSeen
      new = record { link = link; from = from; moment = moment_in h; bytes = [] }

      opened_here : is_at u listener ≡ true → opened_from u then_opened link ≡ Some from
      opened_here here = ap (λ b. if b then Some from else opened_from u h link) (and_from (is_at u listener) (link == link) here (eq-eqb link link refl))

      waits_first : is_at u listener ≡ true → length (waiting_links u h) < most_waiting → Waits then_opened new
      waits_first here room = record {
        opened = opened_here here;
        moment = ap (λ b. if b then moment_in h else opened_when u h link) (sym (and_from (is_at u listener) (link == link) here (eq-eqb link link refl)));
        bytes = ap (λ b. take most_bytes (if b then [] else came_since h link)) (sym (eq-eqb link link refl));
        soon = omega arith;
        part = inl refl;
        unsettled = λ status settles. let many = settles.3 in omega arith;
      }

      higher : (ws : List WaitingSeen) → Rises 0 (map link_of ws) (greatest_link h) → Rises 0 (map link_of ws) (max link (greatest_link h))
      higher ws rises = rises_higher 0 (greatest_link h) (max link (greatest_link h)) (map link_of ws) (omega arith) rises

      pushed : (ws : List WaitingSeen) → greatest_link h < link → Rises 0 (map link_of ws) (greatest_link h) → Rises 0 (map link_of (ws ++ new ∷ [])) (max link (greatest_link h))
      pushed ws above rises =
          subst (λ ns. Rises 0 ns (max link (greatest_link h))) (sym (pushed_links ws new))
          (rises_higher 0 link (max link (greatest_link h)) (map link_of ws ++ link ∷ []) (omega arith) (rises_pushed 0 (greatest_link h) link (map link_of ws) above rises))

      pooled_opened : (ws : List WaitingSeen) → HasFreshLinks h → greatest_link h < link → Pooled h (idle ws) → Pooled then_opened (if is_at u listener then with_opened link from (moment_in h) (idle ws) else idle ws)
      pooled_opened ws fresh above was = of (is_at u listener) refl (counts_opened h listener link from ws above was.counts)
        where
          all : Each (Waits then_opened) ws
          all = all_after h (event.Opened listener link from) ws above tt was.waits

          as_many : length (waiting_links u h) ≡ length ws
          as_many = as_many_wait h ws fresh was.counts

          full_or : (b : Bool) → nat_lt (length ws) most_waiting ≡ b → is_at u listener ≡ true
              → Counts then_opened (if b then idle (ws ++ new ∷ []) else record { waiting = ws; owed = record { link = link; status = 503 } ∷ [] })
              → Pooled then_opened (if b then idle (ws ++ new ∷ []) else record { waiting = ws; owed = record { link = link; status = 503 } ∷ [] })
          full_or true room here counts =
              let less = ltb-true (length ws) most_waiting room in
              let same = as_many in
              record {
                waits = all_pushed (Waits then_opened) ws new all (waits_first here (omega arith));
                few = let long = length-append ws (new ∷ []) in omega arith;
                counts = counts;
                rises = pushed ws above was.rises;
                owed = tt;
                owing = omega arith;
              }
          full_or false full here counts =
              let most = ltb-false (length ws) most_waiting full in
              let same = as_many in
              record {
                waits = all;
                few = was.few;
                counts = counts;
                rises = higher ws was.rises;
                owed = ((ap is_some (opened_here here), (here, refl, refl, omega arith)), tt);
                owing = (omega arith, omega arith);
              }

          of : (b : Bool) → is_at u listener ≡ b → Counts then_opened (if b then with_opened link from (moment_in h) (idle ws) else idle ws) → Pooled then_opened (if b then with_opened link from (moment_in h) (idle ws) else idle ws)
          of true here counts = full_or (nat_lt (length ws) most_waiting) refl here counts
          of false other counts = record { waits = all; few = was.few; counts = counts; rises = higher ws was.rises; owed = tt; owing = omega arith }

    -- ---- what an event makes of a pool that owes nothing

    pooled_ended : (h : History) (link : ℕ) (ws : List WaitingSeen) → Pooled h (idle ws) → Pooled (did.Event (event.Ended link) ∷ h) (without link (idle ws))
    pooled_ended h link ws was = record {
      waits = all_filtered (Waits (did.Event (event.Ended link) ∷ h)) (λ w. not (is_link link w)) ws (all_after h (event.Ended link) ws tt tt was.waits);
      few = few_filtered (λ w. not (is_link link w)) ws was.few;
      counts = counts_ended h link ws was.counts;
      rises = rises_kept 0 (greatest_link h) (λ w. not (is_link link w)) ws was.rises;
      owed = tt;
      owing = was.owing;
    }

    pooled_joined : (h : History) (uplink link : ℕ) (at : Addr) (ws : List WaitingSeen) → greatest_link h < link → Pooled h (idle ws) → Pooled (did.Event (event.Joined uplink link at) ∷ h) (idle ws)
    pooled_joined h uplink link at ws above was = record {
      waits = all_after h (event.Joined uplink link at) ws above tt was.waits;
      few = was.few;
      counts = was.counts;
      rises = rises_higher 0 (greatest_link h) (max link (greatest_link h)) (map link_of ws) (omega arith) was.rises;
      owed = tt;
      owing = omega arith;
    }

    pub pooled_after : (h : History) (e : Event) (ws : List WaitingSeen) (after : PoolSeen) → HasFreshLinks h → IsFresh h e → Pooled h (idle ws) → PoolGoes (moment_in (did.Event e ∷ h)) (idle ws) e after → Pooled (did.Event e ∷ h) after
    pooled_after h (event.Tick moment) ws after all_fresh fresh was goes = subst (Pooled (did.Event (event.Tick moment) ∷ h)) (sym goes) (pooled_ticked h moment ws was)
    pooled_after h (event.Opened listener link from) ws after all_fresh fresh was goes = subst (Pooled (did.Event (event.Opened listener link from) ∷ h)) (sym goes) (pooled_opened h listener link from ws all_fresh fresh was)
    pooled_after h (event.Bytes link bytes) ws after all_fresh fresh was goes = pooled_heard h link bytes ws (find (is_link link) ws) after refl was goes
    pooled_after h (event.Ended link) ws after all_fresh fresh was goes = subst (Pooled (did.Event (event.Ended link) ∷ h)) (sym goes) (pooled_ended h link ws was)
    pooled_after h (event.Joined uplink link at) ws after all_fresh fresh was goes = subst (Pooled (did.Event (event.Joined uplink link at) ∷ h)) (sym goes) (pooled_joined h uplink link at ws fresh was)
    pooled_after h (event.Unjoined uplink) ws after all_fresh fresh was goes =
        subst (Pooled (did.Event (event.Unjoined uplink) ∷ h)) (sym goes) (record { waits = all_after h (event.Unjoined uplink) ws tt tt was.waits; few = was.few; counts = was.counts; rises = was.rises; owed = tt; owing = was.owing })
    pooled_after h (event.Room link) ws after all_fresh fresh was goes =
        subst (Pooled (did.Event (event.Room link) ∷ h)) (sym goes) (record { waits = all_after h (event.Room link) ws tt tt was.waits; few = was.few; counts = was.counts; rises = was.rises; owed = tt; owing = was.owing })
    pooled_after h (event.Datagram listener from bytes) ws after all_fresh fresh was goes =
        subst (Pooled (did.Event (event.Datagram listener from bytes) ∷ h)) (sym goes) (record { waits = all_after h (event.Datagram listener from bytes) ws tt tt was.waits; few = was.few; counts = was.counts; rises = was.rises; owed = tt; owing = was.owing })
    pooled_after h event.Stop ws after all_fresh fresh was goes =
        subst (Pooled (did.Event event.Stop ∷ h)) (sym goes) (record { waits = all_after h event.Stop ws tt tt was.waits; few = was.few; counts = was.counts; rises = was.rises; owed = tt; owing = was.owing })

    -- ---- what an act makes of it

    act_waits : (x : Happening) → IsAct x → (h : History) (ws : List WaitingSeen) → Each (Waits h) ws → Each (Waits (x ∷ h)) ws
    act_waits x act h [] all = tt
    act_waits x act h (w ∷ ws) all = (of x act, act_waits x act h ws all.1)
      where
        of : (x : Happening) → IsAct x → Waits (x ∷ h) w
        of (did.Event e) act = absurd act
        of x act = record { opened = all.0.opened; moment = all.0.moment; bytes = all.0.bytes; soon = all.0.soon; part = all.0.part; unsettled = all.0.unsettled }

    act_owed : (x : Happening) → IsAct x → (h : History) (owed : List Owed) → Each (IsOwed h) owed → Each (IsOwed (x ∷ h)) owed
    act_owed x act h [] all = tt
    act_owed x act h (first ∷ owed) all = ((ap is_some (act_opens u x act h first.link) ∙ all.0.0, of x act), act_owed x act h owed all.1)
      where
        of : (x : Happening) → IsAct x → LastSettles HasStatus u (x ∷ h) first.link first.status
        of (did.Event e) act = absurd act
        of x act = all.0.1

    -- nothing is sent to a link of the port
    pub pooled_beside : (x : Happening) → IsAct x → (h : History) (pool : PoolSeen) → IsNotTo u h x → Pooled h pool → Pooled (x ∷ h) pool
    pooled_beside x act h pool other was = record {
      waits = act_waits x act h pool.waiting was.waits;
      few = was.few;
      counts = counts_beside x act h pool other was.counts;
      rises = subst (Rises 0 (map link_of pool.waiting)) (sym (act_greatest x act h)) was.rises;
      owed = act_owed x act h pool.owed was.owed;
      owing = subst (Rises 0 (map owed_link pool.owed)) (sym (act_greatest x act h)) was.owing;
    }

    -- the first that is owed a reply gets it
    pub pooled_paid : (h : History) (ws : List WaitingSeen) (first : Owed) (owing : List Owed) (to : ℕ) (bytes : List ℕ) (outcome : Sent) → to ≡ first.link → Pooled h (record { waiting = ws; owed = first ∷ owing })
        → Pooled (did.Sent to bytes outcome ∷ h) (record { waiting = ws; owed = owing })
    pooled_paid h ws first owing to bytes outcome is was = record {
      waits = act_waits (did.Sent to bytes outcome) tt h ws was.waits;
      few = was.few;
      counts = counts_paid h ws first owing to bytes outcome is was.counts;
      rises = was.rises;
      owed = act_owed (did.Sent to bytes outcome) tt h owing was.owed.1;
      owing = rises_lower 0 first.link (greatest_link h) (map owed_link owing) (omega arith) was.owing.1;
    }

    -- a link is closed
    pub pooled_closed : (h : History) (pool : PoolSeen) (link : ℕ) → Pooled h pool → Pooled (did.Closed link ∷ h) pool
    pooled_closed h pool link was = record {
      waits = act_waits (did.Closed link) tt h pool.waiting was.waits;
      few = was.few;
      counts = was.counts;
      rises = was.rises;
      owed = act_owed (did.Closed link) tt h pool.owed was.owed;
      owing = was.owing;
    }

    -- ---- what it says of the history

    -- a link that waits there isn't settled
    settled_unlisted : (h : History) (k status : ℕ) (ws : List WaitingSeen) → Each (Waits h) ws → LastSettles HasStatus u h k status → listed k ws ≡ 0
    settled_unlisted h k status [] all settles = refl
    settled_unlisted h k status (w ∷ ws) all settles = of (cases_Bool (w.link == k)) (settled_unlisted h k status ws all.1 settles)
      where
        of : ((w.link == k) ≡ true) ⊎ ((w.link == k) ≡ false) → listed k ws ≡ 0 → one (w.link == k) + listed k ws ≡ 0
        of (inl same) later = absurd (all.0.unsettled status (subst (λ n. LastSettles HasStatus u h n status) (sym (eqb-true w.link k same)) settles))
        of (inr other) later = let here : one (w.link == k) ≡ 0 = ap one other in omega arith

    -- who waits and was settled is owed its reply
    settled_owed : (h : History) (pool : PoolSeen) (k status : ℕ) → Pooled h pool → is_waiting u h k ≡ true → LastSettles HasStatus u h k status → 0 < owed_to k pool.owed
    settled_owed h pool k status was waits settles =
        let none = settled_unlisted h k status pool.waiting was.waits settles in
        let counted = was.counts k in
        let here : one (is_waiting u h k) ≡ 1 = ap one waits in
        omega arith

    pub none_settled : (h : History) (ws : List WaitingSeen) → Pooled h (idle ws) → SettlesNone HasStatus u (λ link. ⊤) h
    none_settled h ws was = λ link status any waits settles. let some = settled_owed h (idle ws) link status was waits settles in omega arith

    none_owed_above : (k low high : ℕ) (owing : List Owed) → k ≤ low → Rises low (map owed_link owing) high → owed_to k owing ≡ 0
    none_owed_above k low high [] below rises = refl
    none_owed_above k low high (owed ∷ owing) below rises =
        let above = rises.0 in
        let here : one (owed.link == k) ≡ 0 = ap one (differs_above k owed.link (omega arith)) in
        let later = none_owed_above k owed.link high owing (omega arith) rises.1 in
        omega arith

    -- no link below the first that is owed a reply was settled with it
    pub none_lower : (h : History) (ws : List WaitingSeen) (first : Owed) (owing : List Owed) → Pooled h (record { waiting = ws; owed = first ∷ owing }) → SettlesNone HasStatus u (λ other. other < first.link) h
    none_lower h ws first owing was = λ other status below waits settles.
        let some = settled_owed h (record { waiting = ws; owed = first ∷ owing }) other status was waits settles in
        let here : one (first.link == other) ≡ 0 = ap one (differs_above other first.link below) in
        let later = none_owed_above other first.link (greatest_link h) owing (omega arith) was.owing.1 in
        omega arith

    pub owed_waits : (h : History) (ws : List WaitingSeen) (owed : Owed) (owing : List Owed) → Pooled h (record { waiting = ws; owed = owed ∷ owing }) → is_waiting u h owed.link ≡ true
    owed_waits h ws owed owing was =
        let counted = was.counts owed.link in
        let here : one (owed.link == owed.link) ≡ 1 = ap one (eq-eqb owed.link owed.link refl) in
        waiting_if (is_waiting u h owed.link) (omega arith)

    module _ (IsText : History → ℕ → List ℕ → Type 0) where
      not_due : (h : History) (k : ℕ) (ws : List WaitingSeen) → Each (Waits h) ws → 0 < listed k ws → IsNotDue HasStatus MayGoOn IsText u h k
      not_due h k [] waits some = absurd (omega arith)
      not_due h k (w ∷ ws) waits some = of (w.link == k) refl some (not_due h k ws waits.1)
        where
          own : IsNotDue HasStatus MayGoOn IsText u h w.link
          own = record { soon = let less = waits.0.soon in let since = waits.0.moment in omega arith; part = subst (IsPart HasStatus MayGoOn IsText) waits.0.bytes waits.0.part }

          of : (b : Bool) → (w.link == k) ≡ b → 0 < one b + listed k ws → (0 < listed k ws → IsNotDue HasStatus MayGoOn IsText u h k) → IsNotDue HasStatus MayGoOn IsText u h k
          of true same some later = subst (IsNotDue HasStatus MayGoOn IsText u h) (eqb-true w.link k same) own
          of false other some later = later (omega arith)

      pub none_is_due : (h : History) (ws : List WaitingSeen) → HasFreshLinks h → Pooled h (idle ws) → NoneIsDue HasStatus MayGoOn IsText u h
      none_is_due h ws fresh was = record {
        few = subst (λ n. n ≤ most_waiting) (sym (as_many_wait h ws fresh was.counts)) was.few;
        early = λ k waiting. not_due h k ws was.waits (let counted = was.counts k in let here : one (is_waiting u h k) ≡ 1 = ap one waiting in omega arith);
      }
