-- Lists that grow at their end, and what each element keeps to those before it.
use Rattle.std.proofs.Common.{◌≡◌, ℕ, zero, suc, ◌+◌, ◌<◌, ◌≤◌, Bool, true, false, cond, List, [], ◌∷◌, ◌++◌, length, take, Option, Some, None, refl, sym, ap, arith, ◌∙◌, inl, inr, ◌⊎◌, subst, one-add, zero-add}
use Rattle.std.specs.Prelude.{slice_get, ◌||◌}
use Rattle.std.specs.List.{cons_option, count_by, filter_map, list_any}
use Rattle.std.proofs.lemmas.List.Sums.{sum_by-append, sum_by-cons}

-- of the elements of a list each keeps to those before it
abbrev pub Each : {A : Type 0} → (List A → A → Type 0) → List A → Type 0
Each {A} P xs = (n : ℕ) (x : A) → slice_get xs n ≡ Some x → P (take n xs) x

-- where a list grows, an element was there before, or is the new one
pub record WasThere {A : Type 0} (xs : List A) (x y : A) (n : ℕ) : Type 0 where
  pub same : slice_get xs n ≡ Some y
  pub before : take n (xs ++ x ∷ []) ≡ take n xs

pub record IsNew {A : Type 0} (xs : List A) (x y : A) (n : ℕ) : Type 0 where
  pub same : y ≡ x
  pub before : take n (xs ++ x ∷ []) ≡ xs

old_or_new : {A : Type 0} (xs : List A) (x : A) (n : ℕ) (y : A) → slice_get (xs ++ x ∷ []) n ≡ Some y → WasThere xs x y n ⊎ IsNew xs x y n
old_or_new [] x zero y e = inr (record { same = cc; before = refl })
old_or_new [] x (suc n) y e = cc
old_or_new (z ∷ xs) x zero y e = inl (record { same = e; before = refl })
old_or_new (z ∷ xs) x (suc n) y e = elim (old_or_new xs x n y e) [
  | inl was ↦ inl (record { same = was.same; before = ap (λ ys. z ∷ ys) was.before })
  | inr new ↦ inr (record { same = new.same; before = ap (λ ys. z ∷ ys) new.before })
]

pub each_of_none : {A : Type 0} (P : List A → A → Type 0) → Each P []
each_of_none P n x e = cc

pub each_with : {A : Type 0} (P : List A → A → Type 0) (xs : List A) (x : A) → Each P xs → P xs x → Each P (xs ++ x ∷ [])
each_with P xs x each new n y e = elim (old_or_new xs x n y e) [
  | inl was ↦ subst (λ before. P before y) (sym was.before) (each n y was.same)
  | inr is ↦ subst (λ z. P (take n (xs ++ x ∷ [])) z) (sym is.same) (subst (λ before. P before x) (sym is.before) new)
]

pub each_then : {A : Type 0} (P Q : List A → A → Type 0) (xs : List A) → ((before : List A) (x : A) → P before x → Q before x) → Each P xs → Each Q xs
each_then P Q xs then each n x e = then (take n xs) x (each n x e)

-- ---- counts

pub count_yes : {A : Type 0} (test : A → Bool) (x : A) (xs : List A) → test x ≡ true → count_by test (x ∷ xs) ≡ suc (count_by test xs)
count_yes test x xs is = sum_by-cons (λ y. cond (test y) 1 0) x xs ∙ ap (λ b. cond b 1 0 + count_by test xs) is ∙ one-add (count_by test xs)

pub count_no : {A : Type 0} (test : A → Bool) (x : A) (xs : List A) → test x ≡ false → count_by test (x ∷ xs) ≡ count_by test xs
count_no test x xs is = sum_by-cons (λ y. cond (test y) 1 0) x xs ∙ ap (λ b. cond b 1 0 + count_by test xs) is ∙ zero-add (count_by test xs)

pub count_with : {A : Type 0} (test : A → Bool) (xs : List A) (x : A) → count_by test (xs ++ x ∷ []) ≡ count_by test xs + count_by test (x ∷ [])
count_with test xs x = sum_by-append (λ y. cond (test y) 1 0) xs (x ∷ [])

-- an element counts
pub counts_itself : {A : Type 0} (test : A → Bool) (xs : List A) (n : ℕ) (x : A) → slice_get xs n ≡ Some x → test x ≡ true → count_by test (take n xs) < count_by test xs
counts_itself test [] n x e is = cc
counts_itself test (y ∷ xs) zero x e is =
    let same : y ≡ x = cc in
    let so = count_yes test y xs (ap test same ∙ is) in
    subst (λ k. 0 < k) (sym so) (omega arith)
counts_itself test (y ∷ xs) (suc n) x e is = by (test y) refl (counts_itself test xs n x e is)
  where
    by : (b : Bool) → test y ≡ b → count_by test (take n xs) < count_by test xs → count_by test (y ∷ take n xs) < count_by test (y ∷ xs)
    by true so less = rw (count_yes test y (take n xs) so, count_yes test y xs so) (omega (arith, less))
    by false not_so less = rw (count_no test y (take n xs) not_so, count_no test y xs not_so) less

-- two elements that count have other numbers of such before them
pub counts_apart : {A : Type 0} (test : A → Bool) (xs : List A) (m n : ℕ) (x y : A) → slice_get xs m ≡ Some x → slice_get xs n ≡ Some y → test x ≡ true → test y ≡ true
    → count_by test (take m xs) ≡ count_by test (take n xs) → m ≡ n
counts_apart test [] m n x y at_m at_n is_x is_y same = cc
counts_apart test (z ∷ xs) zero zero x y at_m at_n is_x is_y same = refl
counts_apart test (z ∷ xs) zero (suc n) x y at_m at_n is_x is_y same =
    let here : z ≡ x = cc in
    let more = same ∙ count_yes test z (take n xs) (ap test here ∙ is_x) in absurd (omega (arith, more))
counts_apart test (z ∷ xs) (suc m) zero x y at_m at_n is_x is_y same =
    let here : z ≡ y = cc in
    let more = sym same ∙ count_yes test z (take m xs) (ap test here ∙ is_y) in absurd (omega (arith, more))
counts_apart test (z ∷ xs) (suc m) (suc n) x y at_m at_n is_x is_y same = by (test z) refl same (λ fewer. ap suc (counts_apart test xs m n x y at_m at_n is_x is_y fewer))
  where
    by : (b : Bool) → test z ≡ b → count_by test (z ∷ take m xs) ≡ count_by test (z ∷ take n xs) → (count_by test (take m xs) ≡ count_by test (take n xs) → suc m ≡ suc n) → suc m ≡ suc n
    by true so whole then = (let fewer = sym (count_yes test z (take m xs) so) ∙ whole ∙ count_yes test z (take n xs) so in then (omega (arith, fewer)))
    by false not_so whole then = then (sym (count_no test z (take m xs) not_so) ∙ whole ∙ count_no test z (take n xs) not_so)

-- the element of that number is among those before a later one
or_true : (b : Bool) → b || true ≡ true
or_true true = refl
or_true false = refl

pub among_earlier : {A : Type 0} (test : A → Bool) (xs : List A) (m n : ℕ) (x : A) → slice_get xs m ≡ Some x → m < n → test x ≡ true → list_any test (take n xs) ≡ true
among_earlier test [] m n x e less is = cc
among_earlier test (y ∷ xs) m zero x e less is = absurd (omega (arith, less))
among_earlier test (y ∷ xs) zero (suc n) x e less is = (let here : y ≡ x = cc in ap (λ b. b || list_any test (take n xs)) (ap test here ∙ is))
among_earlier test (y ∷ xs) (suc m) (suc n) x e less is = ap (λ b. test y || b) (among_earlier test xs m n x e (omega (arith, less)) is) ∙ or_true (test y)

-- where a value is made of just those that count, that of an element stands at the number of such before it
pub made_at : {A B : Type 0} (make : A → Option B) (test : A → Bool) (xs : List A) (n : ℕ) (x : A) (made : B)
    → ((k : ℕ) (y : A) → slice_get xs k ≡ Some y → test y ≡ false → make y ≡ None)
    → ((k : ℕ) (y : A) → slice_get xs k ≡ Some y → test y ≡ true → (b : B) × (make y ≡ Some b))
    → slice_get xs n ≡ Some x → test x ≡ true → make x ≡ Some made → slice_get (filter_map make xs) (count_by test (take n xs)) ≡ Some made
made_at make test [] n x made none some e is makes = cc
made_at make test (y ∷ xs) zero x made none some e is makes =
    let here : y ≡ x = cc in
    ap (λ o. slice_get (cons_option o (filter_map make xs)) 0) (ap make here ∙ makes)
made_at make test (y ∷ xs) (suc n) x made none some e is makes =
    by (test y) refl (made_at make test xs n x made (λ k z at. none (suc k) z at) (λ k z at. some (suc k) z at) e is makes)
  where
    by : (b : Bool) → test y ≡ b → slice_get (filter_map make xs) (count_by test (take n xs)) ≡ Some made
        → slice_get (cons_option (make y) (filter_map make xs)) (count_by test (y ∷ take n xs)) ≡ Some made
    by true so rest = (let first = some 0 y refl so in rw (first.1, count_yes test y (take n xs) so) rest)
    by false not_so rest = rw (none 0 y refl not_so, count_no test y (take n xs) not_so) rest

-- of those that don't count nothing is made, and there are at most as many as count
pub few_made : {A B : Type 0} (make : A → Option B) (test : A → Bool) (xs : List A) → ((y : A) → test y ≡ false → make y ≡ None) → length (filter_map make xs) ≤ count_by test xs
few_made make test [] none = omega arith
few_made {B = B} make test (y ∷ xs) none = by (test y) refl (make y) refl (few_made make test xs none)
  where
    by : (b : Bool) → test y ≡ b → (o : Option B) → make y ≡ o → length (filter_map make xs) ≤ count_by test xs → length (cons_option (make y) (filter_map make xs)) ≤ count_by test (y ∷ xs)
    by true so None made rest = rw (made, count_yes test y xs so) (omega (arith, rest))
    by true so (Some z) made rest = rw (made, count_yes test y xs so) (omega (arith, rest))
    by false not_so o made rest = rw (none y not_so, count_no test y xs not_so) rest
