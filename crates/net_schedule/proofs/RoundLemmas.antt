-- A round of a running network is that of the model.
use Rattle.std.proofs.Common.{◌≡◌, ℕ, zero, suc, ◌+◌, ◌<◌, ◌==◌, ◌&&◌, ◌||◌, Bool, true, false, not, List, [], ◌∷◌, ◌++◌, length, take, drop, refl, sym, ap, ◌∙◌, arith, Some, eq-eqb}
use Rattle.std.specs.Prelude.{slice_get, if◌then◌else◌}
use Rattle.net_history.specs.Places.{Each}
use Rattle.std.proofs.lemmas.Bool.{and_parts, false≢true, not-true, true≢false}
use Rattle.aprs_base.specs.declared.events.Event.{Event}
use Rattle.aprs_base.specs.declared.events.Event.TheVariants as event
use Rattle.aprs_base.specs.declared.events.Happening.TheVariants as did
use Rattle.aprs_history.specs.Acts.{Act, Casts, Closes, Dials, Listens, Offers, SendsLine, acts_after, due}
use Rattle.aprs_history.specs.History.{History, ends_round, is_round_event, open_events, trace_of}
use Rattle.aprs_history.specs.Rounds.{is_whole, with_events}
use Rattle.aprs_history.specs.Setting.{Setting}
use Rattle.net_history.specs.Network.{NetSeen, ServerSeen, at_server, changed_at}
use Rattle.net_history.specs.Serving.{due_at, with_act, with_acts, with_all, with_dial, with_event, with_happening}
use Rattle.net_history.proofs.BetweenLemmas.{changed_here}
use Rattle.net_history.proofs.PlaceLemmas.{some_same}
use Rattle.net_history.proofs.StreamLemmas.{eqb_other}
use Rattle.net_schedule.specs.Waiting.{EndsByTick}
use Rattle.net_schedule.specs.Rounds.{acted, all_acted, with_round_events}

-- ---- lists of acts and events

pub acts_both : (server : ℕ) (first then' : List Act) (n : NetSeen) → with_acts server (first ++ then') n ≡ with_acts server then' (with_acts server first n)
acts_both server [] then' n = refl
acts_both server (act ∷ first) then' n = acts_both server first then' (with_act server act n)

pub all_both_events : (server : ℕ) (first then' : List Event) (n : NetSeen) → with_all server (first ++ then') n ≡ with_all server then' (with_all server first n)
all_both_events server [] then' n = refl
all_both_events server (e ∷ first) then' n = all_both_events server first then' (with_event server e n)

pub acted_both : (first then' : List Act) (s : ServerSeen) → all_acted (first ++ then') s ≡ all_acted then' (all_acted first s)
acted_both [] then' s = refl
acted_both (act ∷ first) then' s = acted_both first then' (acted act s)

-- ---- changes of one server, one after another

changed_twice : {X : Type 0} (f g : X → X) (i : ℕ) (xs : List X) → changed_at f i (changed_at g i xs) ≡ changed_at (λ x. f (g x)) i xs
changed_twice f g i [] = refl
changed_twice f g zero (x ∷ xs) = refl
changed_twice f g (suc i) (x ∷ xs) = ap (λ ys. x ∷ ys) (changed_twice f g i xs)

pub changed_as : {X : Type 0} (f g : X → X) (i : ℕ) (xs : List X) (x : X) → slice_get xs i ≡ Some x → f x ≡ g x → changed_at f i xs ≡ changed_at g i xs
changed_as f g i [] x at same = refl
changed_as f g zero (y ∷ xs) x at same = let is : y ≡ x = some_same y x at in ap (λ z. z ∷ xs) (ap f is ∙ same ∙ ap g (sym is))
changed_as f g (suc i) (y ∷ xs) x at same = ap (λ ys. y ∷ ys) (changed_as f g i xs x at same)

changed_always : {X : Type 0} (f g : X → X) → ((x : X) → f x ≡ g x) → (i : ℕ) (xs : List X) → changed_at f i xs ≡ changed_at g i xs
changed_always f g same i [] = refl
changed_always f g same zero (x ∷ xs) = ap (λ z. z ∷ xs) (same x)
changed_always f g same (suc i) (x ∷ xs) = ap (λ ys. x ∷ ys) (changed_always f g same i xs)

at_servers : (n : NetSeen) (xs ys : List ServerSeen) → xs ≡ ys → ◌≡◌ {A = NetSeen} (record n { servers = xs }) (record n { servers = ys })
at_servers n xs ys same = ap (λ (zs : List ServerSeen). record n { servers = zs }) same

pub at_twice : (f g : ServerSeen → ServerSeen) (server : ℕ) (n : NetSeen) → at_server f server (at_server g server n) ≡ at_server (λ s. f (g s)) server n
at_twice f g server n = at_servers n _ _ (changed_twice f g server n.servers)

-- ---- acts that close no link

abbrev pub is_close : Act → Bool
is_close (Closes link) = true
is_close act = false

abbrev pub NoCloses : List Act → Type 0
NoCloses acts = Each (λ act. is_close act ≡ false) acts

act_alone : (server : ℕ) (act : Act) (n : NetSeen) → is_close act ≡ false → with_act server act n ≡ at_server (acted act) server n
act_alone server (Listens number) n alone = refl
act_alone server (Dials uplink) n alone = at_twice (with_dial uplink) (with_happening (did.Dialled uplink)) server n
act_alone server (Casts peer bytes) n alone = refl
act_alone server (Offers link bytes) n alone = refl
act_alone server (SendsLine link line) n alone = refl
act_alone server (Closes link) n alone = absurd (true≢false alone)

pub changed_none : {X : Type 0} (i : ℕ) (xs : List X) → changed_at (λ x. x) i xs ≡ xs
changed_none i [] = refl
changed_none zero (x ∷ xs) = refl
changed_none (suc i) (x ∷ xs) = ap (λ ys. x ∷ ys) (changed_none i xs)

pub acts_alone : (server : ℕ) (acts : List Act) (n : NetSeen) → NoCloses acts → with_acts server acts n ≡ at_server (all_acted acts) server n
acts_alone server [] n none = sym (at_servers n _ n.servers (changed_none server n.servers))
acts_alone server (act ∷ acts) n none =
    ap (with_acts server acts) (act_alone server act n none.0) ∙ acts_alone server acts (at_server (acted act) server n) none.1 ∙ at_twice (all_acted acts) (acted act) server n

-- ---- a whole round comes

next_whole : (before : ℕ) (e next : Event) (events : List Event) → is_whole before (e ∷ next ∷ events) ≡ true → (ends_round before e ≡ false) × (is_whole (before + 1) (next ∷ events) ≡ true)
next_whole before e next events whole = let parts = and_parts (not (ends_round before e)) (is_whole (before + 1) (next ∷ events)) whole in (not-true (ends_round before e) parts.0, parts.1)

open_next : (e : Event) (h : History) → ends_round (open_events h) e ≡ false → open_events (did.Event e ∷ h) ≡ open_events h + 1
open_next e h goes = ap (λ b. if b then 0 else open_events h + 1) goes

due_event : (s : Setting) (e : Event) (h : History) → due s (did.Event e ∷ h) ≡ (if ends_round (open_events h) e then acts_after s (trace_of s (did.Event e ∷ h)) else [])
unfolding due
due_event s e h = refl

-- all of it comes, and then the server does what is due
pub whole_round : (server : ℕ) (events : List Event) (n : NetSeen) (s : ServerSeen) → slice_get n.servers server ≡ Some s → is_whole (open_events s.history) events ≡ true
    → with_all server events n ≡ with_acts server (due s.setting (with_events events s.history)) (at_server (with_round_events events) server n)
whole_round server [] n s at whole = absurd (false≢true whole)
whole_round server (e ∷ []) n s at whole =
    ap (λ o. with_acts server (due_at o) (at_server (with_happening (did.Event e)) server n)) (changed_here (with_happening (did.Event e)) server n.servers s at)
whole_round server (e ∷ next ∷ events) n s at whole =
    let parts = next_whole (open_events s.history) e next events whole in
    let first = with_happening (did.Event e) in
    let after = at_server first server n in
    let none : due s.setting (did.Event e ∷ s.history) ≡ [] = due_event s.setting e s.history ∙ ap (λ b. if b then acts_after s.setting (trace_of s.setting (did.Event e ∷ s.history)) else []) parts.0 in
    ap (with_all server (next ∷ events))
    (ap (λ o. with_acts server (due_at o) after) (changed_here first server n.servers s at) ∙ ap (λ acts. with_acts server acts after) none)
    ∙ whole_round server (next ∷ events) after (first s) (changed_here first server n.servers s at) (ap (λ k. is_whole k (next ∷ events)) (open_next e s.history parts.0) ∙ parts.1)
    ∙ ap (with_acts server (due s.setting (with_events (e ∷ next ∷ events) s.history))) (at_twice (with_round_events (next ∷ events)) first server n)

-- ---- parts of what waits are whole rounds

pub ticks_last : (events : List Event) (moment : ℕ) → Each (λ e. is_round_event e ≡ false) events → EndsByTick (events ++ event.Tick moment ∷ [])
ticks_last [] moment calm = (refl, refl)
ticks_last (e ∷ []) moment calm = (calm.0, (refl, refl))
ticks_last (e ∷ next ∷ events) moment calm = (calm.0, ticks_last (next ∷ events) moment calm.1)

pub rest_ticks : (k : ℕ) (events : List Event) → EndsByTick events → EndsByTick (drop k events)
rest_ticks zero events ends = ends
rest_ticks (suc k) [] ends = ends
rest_ticks (suc k) (e ∷ []) ends = rest_ticks k [] tt
rest_ticks (suc k) (e ∷ next ∷ events) ends = rest_ticks k (next ∷ events) ends.1

-- as many of them as a round has, from the first on
part_whole : (before left : ℕ) (e : Event) (events : List Event) → before + suc left ≡ 512 → EndsByTick (e ∷ events) → is_whole before (take (suc left) (e ∷ events)) ≡ true
part_whole before left e [] room ends = of left
  where
    of : (left : ℕ) → is_whole before (take (suc left) (e ∷ [])) ≡ true
    of zero = ap (λ b. b || before == 511) ends.0
    of (suc left) = ap (λ b. b || before == 511) ends.0
part_whole before zero e (next ∷ events) room ends =
    ap (λ b. b || before == 511) ends.0 ∙ eq-eqb before 511 (omega (arith, room))
part_whole before (suc left) e (next ∷ events) room ends =
    ap (λ b. not (b || before == 511) && is_whole (before + 1) (next ∷ take left events)) ends.0
    ∙ ap (λ b. not b && is_whole (before + 1) (next ∷ take left events)) (eqb_other before 511 (λ is. let same : before ≡ 511 = is in absurd (omega (arith, same, room))))
    ∙ part_whole (before + 1) left next events (omega (arith, room)) ends.1

pub first_whole : (events : List Event) → EndsByTick events → 0 < length events → is_whole 0 (take 512 events) ≡ true
first_whole [] ends some = absurd (omega (arith, some))
first_whole (e ∷ events) ends some = part_whole 0 511 e events refl ends
