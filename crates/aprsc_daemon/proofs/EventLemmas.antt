-- Events that come one after another, up to the end of a round.
use Rattle.std.proofs.Common.{◌≡◌, ℕ, zero, suc, ◌+◌, ◌<◌, ◌≤◌, Bool, true, false, not, ◌&&◌, List, [], ◌∷◌, ◌++◌, length, refl, sym, ap, ◌∙◌, subst, arith, Option, Some, None, max, IfSome, if◌then◌else◌, ◌==◌, length-append, Result, Ok, Err, IfErr, IsErrAnd, OnErr, OnOk, ◌||◌, ◌-◌, eq-eqb, ⊎_elim}
use Rattle.std.proofs.Math.Bool.{or-true}
use Rattle.std.proofs.Math.Nat.{eq-or-lt_of_le}
use Rattle.std.specs.Bool.{MatchBool}
use Rattle.std.proofs.lemmas.Bool.{and_parts, false≢true, not-true}
use Rattle.std.proofs.lemmas.Bool.Decides.{nat_tests}
use Rattle.aprs_base.specs.Outside.{Told, CountsLink, new_link}
use Rattle.aprs_base.specs.declared.events.Event.{Event}
use Rattle.aprs_base.specs.declared.events.Happening.TheVariants as did
use Rattle.aprs_base.specs.declared.events.WireError.TheVariants as wire_error
use Rattle.aprs_base.specs.Journals.{JournalLineSeen}
use Rattle.aprs_history.specs.Setting.{Setting}
use Rattle.aprs_history.specs.History.{History, ends_round, is_round_event, is_stop, is_stopped, open_events, greater_link, greatest_link, trace_of}
use Rattle.aprs_history.specs.Rounds.{is_whole, with_events, AreFresh, greatest_after}
use Rattle.aprs_history.specs.Headline.{HasFreshLinks}
use Rattle.aprs_history.specs.Acts.{due, acts_after}
use Rattle.aprs_history.specs.Counts.{totals_of}
use Rattle.aprs_base.specs.declared.totals.Totals.{Totals}
use Rattle.http_submit.specs.Fronts.{paid_front}
use Rattle.status_page.specs.Paying.{TakesPageTurn}
use Rattle.front_history.specs.Answers.{finished, published}
use Rattle.front_history.specs.Serving.{GoesOn, ports_of}
use Rattle.front_history.proofs.FrontLemmas.{turn_taken, turns_keep}
use Rattle.front_history.proofs.ServesLemmas.{IsIdle, finished_all}
use Rattle.server_core.specs.Meaning.{CoreMeaning, setting_of}
use Rattle.server_core.proofs.RoundLemmas.{more_events}
use Rattle.server_core.proofs.RoundLemmas.{no_stop}
use Rattle.aprsc_daemon.specs.Fronts.{state_of}
use Rattle.aprsc_daemon.specs.declared.fronts.Fronts.{Fronts}
use Rattle.aprsc_daemon.specs.Phases.{is_partial, Counted, Gathering, Idle}

pub with_push : (events : List Event) (e : Event) (h : History) → with_events (events ++ e ∷ []) h ≡ did.Event e ∷ with_events events h
with_push [] e h = refl
with_push (x ∷ events) e h = with_push events e (did.Event x ∷ h)

pub parts_of : (n : ℕ) (e : Event) (events : List Event) → is_partial n (e ∷ events) ≡ true → (ends_round n e ≡ false) × (is_partial (n + 1) events ≡ true)
parts_of n e events partial =
    let parts = and_parts (not (ends_round n e)) (is_partial (n + 1) events) partial in (not-true (ends_round n e) parts.0, parts.1)

due_partial : (s : Setting) (n : ℕ) (events : List Event) (h : History) → is_partial n events ≡ true → open_events h ≡ n → due s h ≡ [] → due s (with_events events h) ≡ []
unfolding due
due_partial s n [] h partial open_is none = none
due_partial s n (e ∷ events) h partial open_is none =
    let parts = parts_of n e events partial in
    due_partial s (n + 1) events (did.Event e ∷ h) parts.1 (more_events n e h parts.0 open_is)
    (ap (λ m. if ends_round m e then acts_after s (Rattle.aprs_history.specs.History.trace_of s (did.Event e ∷ h)) else []) open_is
    ∙ ap (λ b. if b then acts_after s (Rattle.aprs_history.specs.History.trace_of s (did.Event e ∷ h)) else []) parts.0)

stopped_partial : (n : ℕ) (events : List Event) (h : History) → is_partial n events ≡ true → is_stopped h ≡ false → is_stopped (with_events events h) ≡ false
stopped_partial n [] h partial going = going
stopped_partial n (e ∷ events) h partial going =
    let parts = parts_of n e events partial in
    stopped_partial (n + 1) events (did.Event e ∷ h) parts.1 (ap (λ b. Rattle.std.proofs.Common.◌||◌ b (is_stopped h)) (no_stop n e parts.0) ∙ going)

-- no part of a round finishes one
finished_stays : (n : ℕ) (events : List Event) (h : History) → is_partial n events ≡ true → open_events h ≡ n → finished (with_events events h) ≡ finished h
finished_stays n [] h partial open_is = refl
finished_stays n (e ∷ events) h partial open_is =
    let parts = parts_of n e events partial in
    let apart : (n + 1 == 0) ≡ false = grind (arith, nat_tests) in
    finished_stays (n + 1) events (did.Event e ∷ h) parts.1 (more_events n e h parts.0 open_is)
    ∙ ap (λ m. if m == 0 then did.Event e ∷ h else finished h) (more_events n e h parts.0 open_is)
    ∙ ap (λ b. if b then did.Event e ∷ h else finished h) apart

-- where a part of a round is there, nothing is to be done, no stop has come, and the totals are those before it
pub gathered_idles : {lines : List JournalLineSeen} (s : Setting) (core : CoreMeaning) (events : List Event) (totals : Totals) (more : History) → setting_of core.conf ≡ s → totals ≡ core.seen.totals → is_partial 0 events ≡ true
    → Gathering lines core events more → IsIdle s totals more
gathered_idles s core events totals more same told partial phase =
    let before = phase.before in
    let stands = phase.resting.stands in
    record {
      none = ap (due s) phase.since ∙ due_partial s 0 events before partial stands.finished (subst (λ t. due t before ≡ []) same phase.resting.none);
      going = ap is_stopped phase.since ∙ stopped_partial 0 events before partial phase.going;
      told =
          ap (published s) phase.since
          ∙ ap (λ h. totals_of s (trace_of s h)) (finished_stays 0 events before partial stands.finished ∙ finished_all before stands.finished)
          ∙ ap (λ t. totals_of t (trace_of t before)) (sym same)
          ∙ sym stands.follows.totals
          ∙ sym told;
    }

-- one event more of the same round
pub gathers_next : {lines : List JournalLineSeen} (core : CoreMeaning) (events : List Event) (e : Event) (more : History) → Gathering lines core events more → Gathering lines core (events ++ e ∷ []) (did.Event e ∷ more)
gathers_next core events e more phase = record {
  before = phase.before;
  since = ap (λ h. did.Event e ∷ h) phase.since ∙ sym (with_push events e phase.before);
  resting = phase.resting;
  going = phase.going;
  all = phase.all;
}

pub run_gathers : (lines : List JournalLineSeen) (s : Setting) (now next : Option Told) (before after : Fronts) (core : CoreMeaning) (events : List Event) (e : Event) → setting_of core.conf ≡ s → before.page.totals ≡ core.seen.totals
    → is_partial 0 events ≡ true → TakesPageTurn now next before.page after.page before.http after.http e
    → GoesOn s now (state_of before) next (state_of after) (Gathering lines core events) (Gathering lines core (events ++ e ∷ []))
run_gathers lines s now next before after core events e same told partial turn =
    turn_taken s now next before.page after.page before.http after.http e (Gathering lines core events) (Gathering lines core (events ++ e ∷ [])) turn
    (λ more phase. (gathered_idles s core events before.page.totals more same told partial phase, gathers_next core events e more phase))

pub turn_ports : (now next : Option Told) (before after : Fronts) (e : Event) → TakesPageTurn now next before.page after.page before.http after.http e → ports_of (state_of after) ≡ ports_of (state_of before)
turn_ports now next before after e turn =
    ap (λ page. record { page = page; upload = after.http.at }) (ap (λ p. p.at) turn.turns.kept)
    ∙ ap (λ upload. record { page = before.page.at; upload = upload }) (sym (turns_keep (paid_front before.http) turn.front.came after.http e turn.front.turns))

-- where a part of a round is there, no act is due
pub gathered_none : {lines : List JournalLineSeen} (s : Setting) (core : CoreMeaning) (events : List Event) (more : History) → setting_of core.conf ≡ s → is_partial 0 events ≡ true → Gathering lines core events more → due s more ≡ []
gathered_none s core events more same partial phase =
    ap (due s) phase.since ∙ due_partial s 0 events phase.before partial phase.resting.stands.finished (subst (λ t. due t phase.before ≡ []) same phase.resting.none)

whole_from : (n : ℕ) (events : List Event) (e : Event) → is_partial n events ≡ true → ends_round (n + length events) e ≡ true → is_whole n (events ++ e ∷ []) ≡ true
whole_from n [] e partial ends = let zero_is : n + 0 ≡ n = omega arith in subst (λ m. ends_round m e ≡ true) zero_is ends
whole_from n (x ∷ []) e partial ends =
    let parts = parts_of n x [] partial in
    rw parts.0 (whole_from (n + 1) [] e refl (let same : n + 1 + 0 ≡ n + 1 = omega arith in subst (λ m. ends_round m e ≡ true) (sym same) ends))
whole_from n (x ∷ y ∷ events) e partial ends =
    let parts = parts_of n x (y ∷ events) partial in
    let same : n + 1 + length (y ∷ events) ≡ n + length (x ∷ y ∷ events) = omega arith in
    rw parts.0 (whole_from (n + 1) (y ∷ events) e parts.1 (subst (λ m. ends_round m e ≡ true) (sym same) ends))

partial_from : (n : ℕ) (events : List Event) (e : Event) → is_partial n events ≡ true → ends_round (n + length events) e ≡ false → is_partial n (events ++ e ∷ []) ≡ true
partial_from n [] e partial goes = let zero_is : n + 0 ≡ n = omega arith in rw (subst (λ m. ends_round m e ≡ false) zero_is goes) refl
partial_from n (x ∷ events) e partial goes =
    let parts = parts_of n x events partial in
    let same : n + 1 + length events ≡ n + length (x ∷ events) = omega arith in
    rw parts.0 (partial_from (n + 1) events e parts.1 (subst (λ m. ends_round m e ≡ false) (sym same) goes))

pub whole_next : (events : List Event) (e : Event) → is_partial 0 events ≡ true → ends_round (length events) e ≡ true → is_whole 0 (events ++ e ∷ []) ≡ true
whole_next events e partial ends = let same : 0 + length events ≡ length events = omega arith in whole_from 0 events e partial (subst (λ m. ends_round m e ≡ true) (sym same) ends)

pub partial_next : (events : List Event) (e : Event) → is_partial 0 events ≡ true → ends_round (length events) e ≡ false → is_partial 0 (events ++ e ∷ []) ≡ true
partial_next events e partial goes = let same : 0 + length events ≡ length events = omega arith in partial_from 0 events e partial (subst (λ m. ends_round m e ≡ false) (sym same) goes)

-- ---- the numbers of links

fresh_push : (g : ℕ) (events : List Event) (e : Event) → AreFresh g events → IfSome (new_link e) (λ link. greatest_after events g < link) → AreFresh g (events ++ e ∷ [])
fresh_push g [] e fresh next = (next, tt)
fresh_push g (x ∷ events) e fresh next = (fresh.0, fresh_push (greater_link (new_link x) g) events e fresh.1 next)

greatest_push : (g : ℕ) (events : List Event) (e : Event) → greatest_after (events ++ e ∷ []) g ≡ greater_link (new_link e) (greatest_after events g)
greatest_push g [] e = refl
greatest_push g (x ∷ events) e = greatest_push (greater_link (new_link x) g) events e

link_above : (new : Option ℕ) (before now greatest : ℕ) → greatest ≤ before → CountsLink new before now → IfSome new (λ link. greatest < link)
link_above None before now greatest le counts = tt
link_above (Some link) before now greatest le counts = let is = counts.0 in omega arith

link_greatest : (new : Option ℕ) (before now greatest : ℕ) → greatest ≡ before → CountsLink new before now → greater_link new greatest ≡ now
link_greatest None before now greatest is counts = is ∙ sym counts
link_greatest (Some link) before now greatest is counts = let new_is = counts.0 in let now_is = counts.1 in omega arith

pub counted_next : (first : ℕ) (events : List Event) (e : Event) (before now : ℕ) → Counted first events before → CountsLink (new_link e) before now → Counted first (events ++ e ∷ []) now
counted_next first events e before now counted counts = record {
  fresh = fresh_push first events e counted.fresh (link_above (new_link e) before now (greatest_after events first) (let is = counted.greatest in omega arith) counts);
  greatest = greatest_push first events e ∙ link_greatest (new_link e) before now (greatest_after events first) counted.greatest counts;
}

-- what is fresh above some number is fresh above a smaller one
greater_fresh : (new : Option ℕ) (g h : ℕ) → g ≤ h → IfSome new (λ link. h < link) → (IfSome new (λ link. g < link)) × (greater_link new g ≤ greater_link new h)
greater_fresh None g h le above = (tt, le)
greater_fresh (Some link) g h le above = (let lt : h < link = above in omega arith, let lt : h < link = above in omega arith)

pub fresh_above : (events : List Event) (g h : ℕ) → g ≤ h → AreFresh h events → (AreFresh g events) × (greatest_after events g ≤ greatest_after events h)
fresh_above [] g h le fresh = (tt, le)
fresh_above (e ∷ events) g h le fresh =
    let first = greater_fresh (new_link e) g h le fresh.0 in
    let later = fresh_above events (greater_link (new_link e) g) (greater_link (new_link e) h) first.1 fresh.1 in
    ((first.0, later.0), later.1)

pub whole_or_partial : (last : Bool) (events : List Event) (e : Event) (new : List Event) → is_partial 0 events ≡ true → last ≡ ends_round (length events) e → new ≡ events ++ e ∷ []
    → MatchBool last (is_whole 0 new ≡ true) (is_partial 0 new ≡ true)
whole_or_partial true events e new partial is new_is = ap (is_whole 0) new_is ∙ whole_next events e partial (sym is)
whole_or_partial false events e new partial is new_is = ap (is_partial 0) new_is ∙ partial_next events e partial (sym is)

pub err_any : {T E P : Type 0} (result : Result T E) → P → OnErr result P
err_any (Ok x) p = tt
err_any (Err e) p = p

last_ends : (n : ℕ) (e : Event) → n ≡ 511 → ends_round n e ≡ true
last_ends n e is = ap (λ b. is_round_event e || b) (eq-eqb n 511 is) ∙ or-true (is_round_event e)

not_last : (n : ℕ) (e : Event) → n ≤ 511 → ends_round n e ≡ false → n + 1 ≤ 511
not_last n e le goes = ⊎_elim (λ is. absurd (false≢true (sym goes ∙ last_ends n e is))) (λ lt. omega arith) (eq-or-lt_of_le le)

part_short : (n : ℕ) (events : List Event) → n ≤ 511 → is_partial n events ≡ true → n + length events ≤ 511
part_short n [] le partial = omega arith
part_short n (e ∷ events) le partial =
    let parts = parts_of n e events partial in
    let next = part_short (n + 1) events (not_last n e le parts.0) parts.1 in
    omega arith

-- a part of a round is shorter than a round may be
pub partial_short : (events : List Event) → is_partial 0 events ≡ true → length events ≤ 511
partial_short events partial = let short = part_short 0 events (omega arith) partial in omega arith

smaller : (was now : Bool) (n more : ℕ) → was ≡ false → n ≤ 511 → more ≡ n + 1 → (if now then 0 else 513 - more) < (if was then 0 else 513 - n)
smaller true now n more is le next = absurd (false≢true (sym is))
smaller false true n more is le next = omega arith
smaller false false n more is le next = omega arith

-- with each event of a round, fewer may come
pub gathers_less : (was now : Bool) (events new : List Event) → was ≡ false → MatchBool was (is_whole 0 events ≡ true) (is_partial 0 events ≡ true) → length new ≡ length events + 1
    → (if now then 0 else 513 - length new) < (if was then 0 else 513 - length events)
gathers_less was now events new is kept more =
    smaller was now (length events) (length new) is (partial_short events (subst (λ b. MatchBool b (is_whole 0 events ≡ true) (is_partial 0 events ≡ true)) is kept)) more

-- events that bring links with numbers above all before keep the numbers fresh
events_fresh : (events : List Event) (h : History) → HasFreshLinks h → AreFresh (greatest_link h) events → HasFreshLinks (with_events events h)
events_fresh [] h fresh above = fresh
events_fresh (e ∷ events) h fresh above = events_fresh events (did.Event e ∷ h) (fresh, above.0) above.1

pub gathered_fresh : {lines : List JournalLineSeen} (core : CoreMeaning) (events : List Event) (more : History) → AreFresh core.seen.greatest events → Gathering lines core events more → HasFreshLinks more
gathered_fresh core events more fresh phase =
    subst HasFreshLinks (sym phase.since) (events_fresh events phase.before phase.resting.fresh (subst (λ g. AreFresh g events) phase.resting.stands.greatest fresh))

-- and so do events that a wire counted
pub counted_fresh : {lines : List JournalLineSeen} (core : CoreMeaning) (events : List Event) (first last : ℕ) (more : History) → core.seen.greatest ≤ first → Counted first events last → Gathering lines core events more → HasFreshLinks more
counted_fresh core events first last more le counted = gathered_fresh core events more (fresh_above events core.seen.greatest first le counted.fresh).0

-- where the wire failed within a round, no act is due
pub gathering_idle : {lines : List JournalLineSeen} (core : CoreMeaning) (events : List Event) (first last : ℕ) (s : Setting) (more : History) → setting_of core.conf ≡ s → is_partial 0 events ≡ true → core.seen.greatest ≤ first → Counted first events last
    → Gathering lines core events more → Idle s more
gathering_idle core events first last s more same partial le counted phase = record {
  none = gathered_none s core events more same partial phase;
  all = phase.all ∙ ap (λ s. length s.listens) same;
  fresh = counted_fresh core events first last more le counted phase;
}

pub ok_is_no_err : {T E : Type 0} (result : Result T E) (x : T) (y : E) → result ≡ Ok x → result ≡ Err y → ⊥
ok_is_no_err result x y is also = cc

pub memory_is_no_fault : wire_error.Memory ≡ wire_error.Failed → ⊥
memory_is_no_fault is = cc

pub no_ok : {T E : Type 0} (P : Type 0) (result : Result T E) (y : E) → result ≡ Err y → OnOk result P
no_ok P (Ok x) y is = absurd (ok_is_no_err (Ok x) x y refl is)
no_ok P (Err e) y is = tt

-- what holds of a call that ended by an error
pub ends_so : {T E : Type 0} (A B : Type 0) (Q : E → Type 0) (result : Result T E) → IsErrAnd result Q → B → OnOk result A × OnErr result B
ends_so A B Q (Ok x) is b = absurd is
ends_so A B Q (Err e) is b = (tt, b)

pub err_inside : {T E : Type 0} (result : Result T E) (y x : E) → result ≡ Err y → result ≡ Err x → y ≡ x
err_inside result y x is also = cc

pub numbered_after : (new old before now after : ℕ) (slice events : List Event) → slice ≡ events → old ≤ before → Counted before events now → new ≡ greatest_after slice old → after ≡ now → new ≤ after
numbered_after new old before now after slice events same le counted is stays =
    let below = (fresh_above events old before le counted.fresh).1 in
    let greatest = counted.greatest in
    let is_here : new ≡ greatest_after events old = is ∙ ap (λ xs. greatest_after xs old) same in
    omega arith

pub err_of : {T E : Type 0} → (P : E → Type 0) (result : Result T E) (y z : E) → result ≡ Err y → y ≡ z → P z → IfErr result P
err_of P result y z is same p = subst (λ r. IfErr r P) (sym is) (subst P (sym same) p)
