-- Members of lists of numbers.
use Rattle.std.proofs.Common.{◌≡◌, ℕ, length, ◌<◌, get_or, ◌==◌, Bool, true, false, ◌||◌, ◌&&◌, List, [], ◌∷◌, ◌++◌, filter, refl, sym, ap, ◌∙◌, ⊎_elim, eq-eqb, cond}
use Rattle.std.proofs.Math.Bool.{and-false, and-true, or-false, or-true}
use Rattle.std.proofs.lemmas.Bool.{eqb-true, cases_Bool, false_from_ne_true, true≢false}
use Rattle.std.specs.List.{list_all}
use Rattle.std.proofs.lemmas.List.Folds.{list_all_at}
use Rattle.aprs_history.specs.Trace.{is_member}

pub eqb_turned : (a b : ℕ) → (a == b) ≡ (b == a)
eqb_turned a b =
    ⊎_elim
    (λ same. let is : a ≡ b = eqb-true a b same in same ∙ sym (eq-eqb b a (sym is)))
    (λ differ. differ ∙ sym (false_from_ne_true _ (λ is. true≢false (sym (eq-eqb a b (sym (eqb-true b a is))) ∙ differ))))
    (cases_Bool (a == b))

-- a number that is put at the end
pub member_push : (x k : ℕ) (xs : List ℕ) → is_member x (xs ++ k ∷ []) ≡ is_member x xs || (k == x)
member_push x k [] = or-false (k == x)
member_push x k (y ∷ xs) = ap (λ b. (y == x) || b) (member_push x k xs) ∙ grouped (y == x) (is_member x xs) (k == x)
  where
    grouped : (a b c : Bool) → a || (b || c) ≡ (a || b) || c
    grouped true b c = refl
    grouped false b c = refl

-- the members of what a filter leaves
pub member_filter : (p : ℕ → Bool) (xs : List ℕ) (x : ℕ) → is_member x (filter p xs) ≡ p x && is_member x xs
member_filter p [] x = sym (and-false (p x))
member_filter p (y ∷ xs) x = by (p y) (y == x) refl refl (member_filter p xs x)
  where
    by : (b c : Bool) → p y ≡ b → (y == x) ≡ c → is_member x (filter p xs) ≡ p x && is_member x xs → is_member x (cond b (y ∷ filter p xs) (filter p xs)) ≡ p x && (c || is_member x xs)
    by true true passes here later = rw here (sym (and-true (p x) ∙ ap p (sym (eqb-true y x here)) ∙ passes))
    by true false passes other later = rw other later
    by false true fails here later =
        let none : p x ≡ false = ap p (sym (eqb-true y x here)) ∙ fails in
        later ∙ ap (λ b. b && is_member x xs) none ∙ sym (ap (λ b. b && true) none)
    by false false fails other later = later

-- a member passes a filter exactly where it passes the test
pub member_filtered : (p : ℕ → Bool) (xs : List ℕ) (x : ℕ) → is_member x xs ≡ true → is_member x (filter p xs) ≡ p x
member_filtered p xs x member = member_filter p xs x ∙ ap (λ b. p x && b) member ∙ and-true (p x)

-- a member of the second list is one of both together
pub member_later : (x : ℕ) (xs ys : List ℕ) → is_member x ys ≡ true → is_member x (xs ++ ys) ≡ true
member_later x [] ys member = member
member_later x (y ∷ xs) ys member = ap (λ b. (y == x) || b) (member_later x xs ys member) ∙ or-true (y == x)

pub member_here : (before after : List ℕ) (x : ℕ) → is_member x (before ++ x ∷ after) ≡ true
member_here before after x = member_later x before (x ∷ after) (ap (λ b. b || is_member x after) (eq-eqb x x refl))

-- what holds of each holds of that at a place
pub all_at : {X : Type 0} (p : X → Bool) (xs : List X) (i : ℕ) (x : X) → i < length xs → x ≡ get_or xs i x → list_all p xs ≡ true → p x ≡ true
all_at p xs i x within at all = ⊎_elim
    (λ passes. passes)
    (λ fails. absurd (true≢false (sym all ∙ list_all_at p xs i x within (ap p (sym at) ∙ fails))))
    (cases_Bool (p x))
