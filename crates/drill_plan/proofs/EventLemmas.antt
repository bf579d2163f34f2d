-- The links of a drill are numbered in order.
use Rattle.std.proofs.Common.{◌≡◌, ◌∙◌, ℕ, zero, suc, ◌+◌, true, List, [], ◌∷◌, ◌++◌, map, refl, ap, append_assoc, add-zero, arith}
use Rattle.std.specs.Prelude.{◌==◌}
use Rattle.std.specs.Fork.{slice_chunk}
use Rattle.std.specs.Int.{div_ceil}
use Rattle.std.specs.List.{flat_map, range_with_len}
use Rattle.std.proofs.lemmas.Bool.Decides.{nat_tests}
use Rattle.std.proofs.lemmas.List.Concat.{flat_map-cons}
use Rattle.aprs_base.specs.Outside.{are_numbered}
use Rattle.aprs_base.specs.declared.events.Event.{Event}
use Rattle.aprs_base.specs.declared.events.Event.TheVariants as event
use Rattle.drill_plan.specs.declared.plan.Plan.{Plan}
use Rattle.drill_plan.specs.Drill.{drill_events, hundred_of, line_of, login_of, opening_of, states}

-- these events bring no link
abbrev pub IsQuiet : List Event → Type 0
IsQuiet xs = (n : ℕ) (rest : List Event) → are_numbered n (xs ++ rest) ≡ are_numbered n rest

quiet_both : (xs ys : List Event) → IsQuiet xs → IsQuiet ys → IsQuiet (xs ++ ys)
quiet_both xs ys h k n rest = rw append_assoc (h n (ys ++ rest) ∙ k n rest)

quiet_logins : (links : List ℕ) → IsQuiet (map login_of links)
quiet_logins [] n rest = refl
quiet_logins (link ∷ links) n rest = quiet_logins links n rest

quiet_lines : (xs : List ℕ) → IsQuiet (map line_of xs)
quiet_lines [] n rest = refl
quiet_lines (x ∷ xs) n rest = quiet_lines xs n rest

quiet_tick : (moment : ℕ) → IsQuiet (event.Tick moment ∷ [])
quiet_tick moment n rest = refl

quiet_hundred : (xs : List ℕ) (h : ℕ) → IsQuiet (hundred_of xs h)
quiet_hundred xs h = quiet_both (map line_of (slice_chunk xs 100 h)) (event.Tick (1000001 + h) ∷ []) (quiet_lines (slice_chunk xs 100 h)) (quiet_tick (1000001 + h))

quiet_hundreds : (xs hundreds : List ℕ) → IsQuiet (flat_map (hundred_of xs) hundreds)
quiet_hundreds xs [] n rest = refl
quiet_hundreds xs (h ∷ hundreds) n rest =
    rw (flat_map-cons (hundred_of xs) h hundreds)
    (quiet_both (hundred_of xs h) (flat_map (hundred_of xs) hundreds) (quiet_hundred xs h) (quiet_hundreds xs hundreds) n rest)

openings_numbered : (links n : ℕ) (rest : List Event) → are_numbered n (map opening_of (range_with_len (n + 1) links) ++ rest) ≡ are_numbered (n + links) rest
openings_numbered zero n rest = rw (add-zero n) refl
openings_numbered (suc links) n rest =
    let same : (n + 1 == n + 1) ≡ true = grind (arith, nat_tests) in
    let more : n + 1 + links ≡ n + suc links = omega arith in
    rw same (openings_numbered links (n + 1) rest ∙ ap (λ m. are_numbered m rest) more)

pub drill_numbered : (plan : Plan) → are_numbered 0 (drill_events plan) ≡ true
drill_numbered plan =
    let links = range_with_len 1 plan.links in
    let xs = states plan.lines plan.seed in
    let hundreds = range_with_len 0 (div_ceil plan.lines 100) in
    let traffic = flat_map (hundred_of xs) hundreds ++ event.Stop ∷ [] in
    openings_numbered plan.links 0 (map login_of links ++ traffic)
    ∙ quiet_logins links (0 + plan.links) traffic
    ∙ quiet_hundreds xs hundreds (0 + plan.links) (event.Stop ∷ [])
