-- Lists of numbers: members, and numbers that rise.
use Rattle.std.proofs.Common.{◌≡◌, ℕ, ◌≤◌, ◌<◌, ◌==◌, Bool, true, false, not, ◌||◌, nat_le, List, [], ◌∷◌, ◌++◌, filter, refl, sym, ap, ◌∙◌, arith, ⊎_elim, cond, eq-eqb, if◌then◌else◌}
use Rattle.std.proofs.lemmas.Bool.{eqb-true, cases_Bool, false_from_ne_true, true≢false}
use Rattle.aprs_history.specs.Trace.{Rises, is_member, is_other, placed}

pub rises_within : (low high : ℕ) (ns : List ℕ) → Rises low ns high → low ≤ high
rises_within low high [] rises = rises
rises_within low high (n ∷ ns) rises = let above = rises.0 in let later = rises_within n high ns rises.1 in omega arith

pub rises_lower : (less low high : ℕ) (ns : List ℕ) → less ≤ low → Rises low ns high → Rises less ns high
rises_lower less low high [] le rises = omega arith
rises_lower less low high (n ∷ ns) le rises = let above = rises.0 in (omega arith, rises.1)

pub rises_higher : (low high more : ℕ) (ns : List ℕ) → high ≤ more → Rises low ns high → Rises low ns more
rises_higher low high more [] le rises = omega arith
rises_higher low high more (n ∷ ns) le rises = (rises.0, rises_higher n high more ns le rises.1)

pub rises_pushed : (low high k : ℕ) (ns : List ℕ) → high < k → Rises low ns high → Rises low (ns ++ k ∷ []) k
rises_pushed low high k [] above rises = (omega arith, omega arith)
rises_pushed low high k (n ∷ ns) above rises = (rises.0, rises_pushed n high k ns above rises.1)

pub rises_filtered : (p : ℕ → Bool) (low high : ℕ) (ns : List ℕ) → Rises low ns high → Rises low (filter p ns) high
rises_filtered p low high [] rises = rises
rises_filtered p low high (n ∷ ns) rises = of (p n) (rises_filtered p n high ns rises.1)
  where
    of : (b : Bool) → Rises n (filter p ns) high → Rises low (cond b (n ∷ filter p ns) (filter p ns)) high
    of true later = (rises.0, later)
    of false later = let above = rises.0 in rises_lower low n high (filter p ns) (omega arith) later

pub differs_above : (low n : ℕ) → low < n → (n == low) ≡ false
differs_above low n above = false_from_ne_true _ (λ is. let same : n ≡ low = eqb-true n low is in absurd (omega arith))

-- numbers above one are others than it
others_left : (k low high : ℕ) (ns : List ℕ) → k ≤ low → Rises low ns high → filter (is_other k) ns ≡ ns
others_left k low high [] le rises = refl
others_left k low high (n ∷ ns) le rises =
    let above = rises.0 in
    ap (λ b. cond (not b) (n ∷ filter (is_other k) ns) (filter (is_other k) ns)) (differs_above k n (omega arith)) ∙ ap (λ ms. n ∷ ms) (others_left k n high ns (omega arith) rises.1)

pub first_left : (low high k : ℕ) (ns : List ℕ) → Rises low (k ∷ ns) high → filter (is_other k) (k ∷ ns) ≡ ns
first_left low high k ns rises =
    ap (λ b. cond (not b) (k ∷ filter (is_other k) ns) (filter (is_other k) ns)) (eq-eqb k k refl) ∙ others_left k k high ns (omega arith) rises.1

-- ---- members

pub member_first : (k : ℕ) (ks : List ℕ) → is_member k (k ∷ ks) ≡ true
member_first k ks = ap (λ b. b || is_member k ks) (eq-eqb k k refl)

-- what a filter leaves passes its test
pub member_passes : (p : ℕ → Bool) (k : ℕ) (ns : List ℕ) → is_member k (filter p ns) ≡ true → p k ≡ true
member_passes p k [] member = absurd (true≢false (sym member))
member_passes p k (n ∷ ns) member =
    let later = member_passes p k ns in
    ⊎_elim
    (λ passes.
    let kept : ((n == k) || is_member k (filter p ns)) ≡ true = sym (ap (λ b. is_member k (cond b (n ∷ filter p ns) (filter p ns))) passes) ∙ member in
    ⊎_elim
    (λ here. let same : n ≡ k = eqb-true n k here in sym (ap p same) ∙ passes)
    (λ other. later (sym (ap (λ b. b || is_member k (filter p ns)) other) ∙ kept))
    (cases_Bool (n == k)))
    (λ left. later (sym (ap (λ b. is_member k (cond b (n ∷ filter p ns) (filter p ns))) left) ∙ member))
    (cases_Bool (p n))

pub member_placed : (link n : ℕ) (ns : List ℕ) → is_member link (placed n ns) ≡ true → ((n == link) || is_member link ns) ≡ true
member_placed link n [] member = member
member_placed link n (m ∷ ns) member = of (nat_le m n) member (member_placed link n ns)
  where
    turned : (a b c : Bool) → (b || (a || c)) ≡ true → (a || (b || c)) ≡ true
    turned true b c is = refl
    turned false b c is = is

    of : (b : Bool) → is_member link (if b then m ∷ placed n ns else n ∷ m ∷ ns) ≡ true → (is_member link (placed n ns) ≡ true → ((n == link) || is_member link ns) ≡ true)
        → ((n == link) || ((m == link) || is_member link ns)) ≡ true
    of false is later = is
    of true is later =
        turned (n == link) (m == link) (is_member link ns)
        (⊎_elim (λ here. rw here refl) (λ other. rw other (later (sym (ap (λ b. b || is_member link (placed n ns)) other) ∙ is))) (cases_Bool (m == link)))
