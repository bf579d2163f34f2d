-- What is left of a drill at its beginning is the whole, and each event that comes is the first of what is left.
use Rattle.std.proofs.Common.{◌≡◌, ◌∙◌, ℕ, zero, suc, ◌+◌, ◌-◌, ◌*◌, ◌%◌, ◌<◌, ◌≤◌, min, true, false, List, [], ◌∷◌, ◌++◌, map, Some, None, refl, ap, sym, append_assoc, arith}
use Rattle.std.specs.Prelude.{◌==◌}
use Rattle.std.specs.Fork.{slice_chunk}
use Rattle.std.specs.Int.{div_ceil}
use Rattle.std.specs.List.{flat_map, range_with_len}
use Rattle.std.proofs.lemmas.Bool.Decides.{nat_tests}
use Rattle.std.proofs.lemmas.Grind.{div_ceil_times}
use Rattle.aprs_base.specs.declared.events.Event.{Event}
use Rattle.aprs_base.specs.declared.events.Event.TheVariants as event
use Rattle.drill_plan.specs.Drill.{drill_events, hundred_of, line_of, login_of, next_state, opening_of, state_after, states}
use Rattle.drill_plan.specs.declared.plan.Plan.{Plan}
use Rattle.drill_plan.specs.Left.{lines_left, links_left, tick_after}
use Rattle.drill_plan.proofs.StateLemmas.{chunk_is, state_then}

-- the next link, and those after it
pub link_first : (f : ℕ → Event) (done links : ℕ) → done < links → links_left f done links ≡ f (done + 1) ∷ links_left f (done + 1) links
link_first f done links lt =
    let e : links - done ≡ suc (links - (done + 1)) = omega arith in
    rw e refl

-- within a hundred no tick comes
no_tick : (n j left : ℕ) → 0 < j → j < 100 → tick_after (n * 100 + j) (suc left) ≡ None
no_tick n j left some few =
    let more : (suc left == 0) ≡ false = grind (arith, nat_tests) in
    let within : ((n * 100 + j) % 100 == 0) ≡ false = grind (arith, nat_tests) in
    rw (more, within) refl

moment_at : (n sent : ℕ) → n * 100 < sent → sent ≤ n * 100 + 100 → 1000000 + div_ceil sent 100 ≡ 1000001 + n
moment_at n sent lt le = omega (arith, div_ceil_times sent 100)

-- after a whole hundred one comes, and after the last line
a_tick : (n lines sent left : ℕ) → n * 100 < lines → sent ≡ min lines ((n + 1) * 100) → left ≡ lines - (n + 1) * 100 → tick_after sent left ≡ Some (1000001 + n)
a_tick n lines sent zero some at is = ap Some (moment_at n sent (omega arith) (omega arith))
a_tick n lines sent (suc left) some at is =
    let more : (suc left == 0) ≡ false = grind (arith, nat_tests) in
    let whole : (sent % 100 == 0) ≡ true = grind (arith, nat_tests) in
    rw (more, whole) (ap Some (moment_at n sent (omega arith) (omega arith)))

-- the lines up to the next tick, and what comes after it
to_the_tick : (n j k left x : ℕ) → j + k < 100 → tick_after (n * 100 + (j + k + 1)) left ≡ Some (1000001 + n)
    → lines_left (n * 100 + j) (suc (k + left)) x ≡ map line_of (states (suc k) x) ++ (event.Tick (1000001 + n) ∷ lines_left (n * 100 + (j + k + 1)) left (state_after (suc k) x))
to_the_tick n j zero left x few ends =
    let e : 0 + left ≡ left = omega arith in
    let p : n * 100 + j + 1 ≡ n * 100 + (j + 0 + 1) = omega arith in
    rw (e, p, ends) refl
to_the_tick n j (suc k) left x few ends =
    let e : suc k + left ≡ suc (k + left) = omega arith in
    let p : n * 100 + j + 1 ≡ n * 100 + (j + 1) = omega arith in
    let q : j + suc k + 1 ≡ j + 1 + k + 1 = omega arith in
    rw (e, p, no_tick n (j + 1) (k + left) (omega arith) (omega arith), q)
    (ap (λ xs. line_of (next_state x) ∷ xs) (to_the_tick n (j + 1) k left (next_state x) (omega arith) (rw q at ends)))

-- a hundred, or the last part of one
hundred_first : (n lines seed k left : ℕ) (more : List Event) → n * 100 < lines → suc k ≡ min (lines - n * 100) 100 → left ≡ lines - (n + 1) * 100
    → lines_left (min lines ((n + 1) * 100)) left (state_after (min lines ((n + 1) * 100)) seed) ≡ more
    → lines_left (min lines (n * 100)) (lines - n * 100) (state_after (min lines (n * 100)) seed) ≡ hundred_of (states lines seed) n ++ more
hundred_first n lines seed k left more begun count is after =
    let x = state_after (n * 100) seed in
    let tick = event.Tick (1000001 + n) in
    let first : min lines (n * 100) ≡ n * 100 + 0 = omega arith in
    let before : min lines (n * 100) ≡ n * 100 = omega arith in
    let all : lines - n * 100 ≡ suc (k + left) = omega arith in
    let then : n * 100 + (0 + k + 1) ≡ min lines ((n + 1) * 100) = omega arith in
    let ticks : tick_after (n * 100 + (0 + k + 1)) left ≡ Some (1000001 + n) = a_tick n lines (n * 100 + (0 + k + 1)) left begun then is in
    let chunk : states (suc k) x ≡ slice_chunk (states lines seed) 100 n = ap (λ j. states j x) count ∙ sym (chunk_is n lines seed (omega arith)) in
    let state : state_after (suc k) x ≡ state_after (min lines ((n + 1) * 100)) seed = ap (λ j. state_after j x) count ∙ state_then n lines seed (omega arith) in
    ap (λ j. lines_left j (lines - n * 100) (state_after (min lines (n * 100)) seed)) first
    ∙ ap (λ j. lines_left (n * 100 + 0) j (state_after (min lines (n * 100)) seed)) all
    ∙ ap (λ j. lines_left (n * 100 + 0) (suc (k + left)) (state_after j seed)) before
    ∙ to_the_tick n 0 k left x (omega arith) ticks
    ∙ ap (λ ys. map line_of ys ++ (tick ∷ lines_left (n * 100 + (0 + k + 1)) left (state_after (suc k) x))) chunk
    ∙ ap (λ ys. map line_of (slice_chunk (states lines seed) 100 n) ++ (tick ∷ ys)) (ap (λ j. lines_left j left (state_after (suc k) x)) then ∙ ap (lines_left (min lines ((n + 1) * 100)) left) state ∙ after)
    ∙ sym (append_assoc (map line_of (slice_chunk (states lines seed) 100 n)) (tick ∷ []) more)

-- all hundreds from one on
hundreds_left : (c n lines seed : ℕ) → c ≡ div_ceil (lines - n * 100) 100
    → lines_left (min lines (n * 100)) (lines - n * 100) (state_after (min lines (n * 100)) seed) ≡ flat_map (hundred_of (states lines seed)) (range_with_len n c)
hundreds_left zero n lines seed is =
    let none : lines - n * 100 ≡ 0 = omega (arith, div_ceil_times (lines - n * 100) 100) in
    rw none refl
hundreds_left (suc c) n lines seed is =
    let begun : n * 100 < lines = omega (arith, div_ceil_times (lines - n * 100) 100) in
    let fewer : c ≡ div_ceil (lines - (n + 1) * 100) 100 = omega (arith, div_ceil_times (lines - n * 100) 100, div_ceil_times (lines - (n + 1) * 100) 100) in
    hundred_first n lines seed (min (lines - n * 100) 100 - 1) (lines - (n + 1) * 100) _ begun (omega arith) refl (hundreds_left c (n + 1) lines seed fewer)

pub all_lines : (lines seed : ℕ) → lines_left 0 (lines - 0) seed ≡ flat_map (hundred_of (states lines seed)) (range_with_len 0 (div_ceil lines 100))
all_lines lines seed =
    let none : min lines (0 * 100) ≡ 0 = omega arith in
    let all : lines - 0 * 100 ≡ lines - 0 = omega arith in
    let same : div_ceil lines 100 ≡ div_ceil (lines - 0 * 100) 100 = ap (λ n. div_ceil n 100) (omega arith) in
    rw (none, all) at (hundreds_left (div_ceil lines 100) 0 lines seed same)

-- at the beginning
abbrev pub all_events : Plan → List Event
all_events plan = event.Tick 1000000 ∷ (links_left opening_of 0 plan.links ++ (links_left login_of 0 plan.links ++ (lines_left 0 (plan.lines - 0) plan.seed ++ event.Stop ∷ [])))

pub all_left : (plan : Plan) → all_events plan ≡ drill_events plan
all_left plan =
    let links : plan.links - 0 ≡ plan.links = omega arith in
    rw (links, all_lines plan.lines plan.seed) refl
