-- A text told in two steps.
use Rattle.std.proofs.Common.{◌≡◌, ℕ, ◌+◌, ◌-◌, ◌≤◌, arith, List, ◌++◌, take, drop, length, refl, sym, ap, append_assoc, ◌∙◌}
use Rattle.std.specs.Prelude.{Option, Some, None, Ok, ◌<◌, ◌&&◌, nat_lt, if◌then◌else◌}
use Rattle.std.specs.Option.{option_map}
use Rattle.std.proofs.lemmas.List.{take_rest, length-drop, take-append-drop}
use Rattle.std.proofs.Math.Seq.{take-add}
use Rattle.std.proofs.lemmas.Bool.{lt-ltb, ne_eqb}
use Rattle.aprs_base.specs.Outside.{one_more}
use Rattle.aprs_base.specs.Stores.{failed_writes_after}

-- what is written after what was written
pub grown : (old : Option (List ℕ)) (xs ys : List ℕ) → option_map (λ t. t ++ ys) (option_map (λ t. t ++ xs) old) ≡ option_map (λ t. t ++ (xs ++ ys)) old
grown None xs ys = refl
grown (Some t) xs ys = ap Some (append_assoc t xs ys)

-- the next bytes of what is left are the next bytes of the whole
pub takes_on : (bytes : List ℕ) (done count : ℕ)
    → take done bytes ++ take count (take (length bytes - done) (drop done bytes)) ≡ take (done + count) bytes
takes_on bytes done count = rw (take_rest bytes done) (sym (take-add done count bytes))

-- so after a further write the sink has the bytes so far
pub writes_on : (old new newest : Option (List ℕ)) (bytes : List ℕ) (done count : ℕ)
    → new ≡ option_map (λ t. t ++ take done bytes) old
    → newest ≡ option_map (λ t. t ++ take count (take (length bytes - done) (drop done bytes))) new
    → newest ≡ option_map (λ t. t ++ take (done + count) bytes) old
writes_on old new newest bytes done count first second =
    second ∙ ap (option_map (λ t. t ++ take count (take (length bytes - done) (drop done bytes)))) first
    ∙ grown old (take done bytes) (take count (take (length bytes - done) (drop done bytes)))
    ∙ ap (λ xs. option_map (λ t. t ++ xs) old) (takes_on bytes done count)

-- a write that took nothing of something counts as a fault, and one that took something doesn't
pub took_none : (bytes : List ℕ) (old new : ℕ) → 0 < length bytes → new ≡ failed_writes_after (Ok 0) bytes old → new ≡ one_more old
took_none bytes old new some is = is ∙ ap (λ b. if b then one_more old else old) (lt-ltb 0 (length bytes) some)

pub took_some : (n : ℕ) (bytes : List ℕ) (old new : ℕ) → (n ≡ 0 → ⊥) → new ≡ failed_writes_after (Ok n) bytes old → new ≡ old
took_some n bytes old new not is = is ∙ ap (λ b. if b && nat_lt 0 (length bytes) then one_more old else old) (ne_eqb n 0 not)

-- and they are within the whole
pub still_within : (bytes : List ℕ) (done count : ℕ) → done ≤ length bytes → count ≤ length (take (length bytes - done) (drop done bytes)) → done + count ≤ length bytes
still_within bytes done count within short =
    let rest : length (take (length bytes - done) (drop done bytes)) ≡ length bytes - done = rw (take_rest bytes done) (length-drop done bytes) in
    omega arith

-- a text that begins with another goes on by the rest
pub goes_on : (before after : List ℕ) (count limit : ℕ) → take (length before) after ≡ before → length after ≡ length before + count → count ≤ limit
    → (bytes : List ℕ) × Unit {0} × (length bytes ≤ limit) × (after ≡ before ++ bytes)
goes_on before after count limit starts grew short =
    let rest : length (drop (length before) after) ≡ length after - length before = length-drop (length before) after in
    let left : length (drop (length before) after) ≤ limit = omega arith in
    (drop (length before) after, tt, left, sym (take-append-drop (length before) after) ∙ ap (λ p. p ++ drop (length before) after) starts)
