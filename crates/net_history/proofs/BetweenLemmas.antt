-- Two lists, element by element: the one is the other after a change.
use Rattle.std.proofs.Common.{◌≡◌, ◌≢◌, ℕ, zero, suc, ◌<◌, ◌≤◌, List, [], ◌∷◌, ◌++◌, length, map, refl, sym, ap, ◌∙◌, subst, arith, Option, Some, None, ◌⊎◌, inl, inr, ⊎_elim}
use Rattle.std.specs.Prelude.{slice_get}
use Rattle.net_history.specs.Network.{changed_at}
use Rattle.net_history.proofs.PlaceLemmas.{some_same}

pub none_some : {X : Type 0} (x : X) → ◌≡◌ {A = Option X} None (Some x) → ⊥
none_some x e = cc

-- ---- an element by its place

pub at_changed : {X : Type 0} (f : X → X) (i j : ℕ) (xs : List X) (y : X) → slice_get (changed_at f i xs) j ≡ Some y
    → (x : X) × (slice_get xs j ≡ Some x) × (((i ≡ j) × (y ≡ f x)) ⊎ ((i ≢ j) × (y ≡ x)))
at_changed f i j [] y e = absurd (none_some y e)
at_changed f zero zero (x ∷ xs) y e = (x, refl, inl (refl, sym (some_same (f x) y e)))
at_changed f zero (suc j) (x ∷ xs) y e = (y, e, inr (λ is. cc, refl))
at_changed f (suc i) zero (x ∷ xs) y e = (x, refl, inr (λ is. cc, sym (some_same x y e)))
at_changed f (suc i) (suc j) (x ∷ xs) y e =
    let later = at_changed f i j xs y e in
    (later.0, later.1, ⊎_elim (λ l. inl (ap suc l.0, l.1)) (λ r. inr (λ is. r.0 cc, r.1)) later.2)

pub changed_here : {X : Type 0} (f : X → X) (i : ℕ) (xs : List X) (x : X) → slice_get xs i ≡ Some x → slice_get (changed_at f i xs) i ≡ Some (f x)
changed_here f i [] x e = absurd (none_some x e)
changed_here f zero (y ∷ xs) x e = ap (λ z. Some (f z)) (some_same y x e)
changed_here f (suc i) (y ∷ xs) x e = changed_here f i xs x e

pub same_elsewhere : {X : Type 0} (f : X → X) (i j : ℕ) (xs : List X) → i ≢ j → slice_get (changed_at f i xs) j ≡ slice_get xs j
same_elsewhere f i j [] other = refl
same_elsewhere f zero zero (x ∷ xs) other = absurd (other refl)
same_elsewhere f zero (suc j) (x ∷ xs) other = refl
same_elsewhere f (suc i) zero (x ∷ xs) other = refl
same_elsewhere f (suc i) (suc j) (x ∷ xs) other = same_elsewhere f i j xs (λ is. other (ap suc is))

pub at_longer : {X : Type 0} (xs ys : List X) (place : ℕ) (x : X) → slice_get xs place ≡ Some x → slice_get (xs ++ ys) place ≡ Some x
at_longer [] ys place x e = absurd (none_some x e)
at_longer (y ∷ xs) ys zero x e = e
at_longer (y ∷ xs) ys (suc place) x e = at_longer xs ys place x e

pub place_below : {X : Type 0} (xs : List X) (place : ℕ) (x : X) → slice_get xs place ≡ Some x → place < length xs
place_below [] place x e = absurd (none_some x e)
place_below (y ∷ xs) zero x e = omega arith
place_below (y ∷ xs) (suc place) x e = let later = place_below xs place x e in omega arith

pub place_past : {X : Type 0} (xs : List X) (place : ℕ) → slice_get xs place ≡ None → length xs ≤ place
place_past [] place e = omega arith
place_past (y ∷ xs) zero e = absurd (none_some y (sym e))
place_past (y ∷ xs) (suc place) e = let later = place_past xs place e in omega arith

pub at_end : {X : Type 0} (xs : List X) (x : X) → slice_get (xs ++ x ∷ []) (length xs) ≡ Some x
at_end [] x = refl
at_end (y ∷ xs) x = at_end xs x

pub at_mapped : {X Y : Type 0} (f : X → Y) (xs : List X) (place : ℕ) (y : Y) → slice_get (map f xs) place ≡ Some y → (x : X) × (slice_get xs place ≡ Some x) × (f x ≡ y)
at_mapped f [] place y e = absurd (none_some y e)
at_mapped f (x ∷ xs) zero y e = (x, refl, some_same (f x) y e)
at_mapped f (x ∷ xs) (suc place) y e = at_mapped f xs place y e

pub some_or_none : {X : Type 0} (o : Option X) → ((x : X) × (o ≡ Some x)) ⊎ (o ≡ None)
some_or_none None = inr refl
some_or_none (Some x) = inl (x, refl)

pub same_or_other : (i j : ℕ) → (i ≡ j) ⊎ (i ≢ j)
same_or_other zero zero = inl refl
same_or_other zero (suc j) = inr (λ e. cc)
same_or_other (suc i) zero = inr (λ e. cc)
same_or_other (suc i) (suc j) = ⊎_elim (λ e. inl (ap suc e)) (λ other. inr (λ e. other cc)) (same_or_other i j)

-- ---- lists of which each has as many elements as the other, with a relation between those at one place

pub record Between {X : Type 0} (R : ℕ → X → X → Type 0) (before after : List X) : Type 0 where
  pub back : (j : ℕ) (u : X) → slice_get after j ≡ Some u → (s : X) × (slice_get before j ≡ Some s) × R j s u
  pub on : (j : ℕ) (s : X) → slice_get before j ≡ Some s → (u : X) × (slice_get after j ≡ Some u) × R j s u

pub between_same : {X : Type 0} (R : ℕ → X → X → Type 0) (xs : List X) → ((j : ℕ) (s : X) → R j s s) → Between R xs xs
between_same R xs same = record { back = λ j u e. (u, e, same j u); on = λ j s e. (s, e, same j s) }

pub between_both : {X : Type 0} (P Q R : ℕ → X → X → Type 0) (xs ys zs : List X) → ((j : ℕ) (s u v : X) → P j s u → Q j u v → R j s v) → Between P xs ys → Between Q ys zs → Between R xs zs
between_both P Q R xs ys zs both first then' = record {
  back = λ j v e. let later = then'.back j v e in let was = first.back j later.0 later.1 in (was.0, was.1, both j was.0 later.0 v was.2 later.2);
  on = λ j s e. let was = first.on j s e in let later = then'.on j was.0 was.1 in (later.0, later.1, both j s was.0 later.0 was.2 later.2);
}

-- one element is changed
module _ {X : Type 0} (R : ℕ → X → X → Type 0) (f : X → X) (i : ℕ) (xs : List X) (changed : (s : X) → slice_get xs i ≡ Some s → R i s (f s)) (same : (j : ℕ) → i ≢ j → (s : X) → R j s s) where
  changed_by : (j : ℕ) (s u : X) → slice_get xs j ≡ Some s → ((i ≡ j) × (u ≡ f s)) ⊎ ((i ≢ j) × (u ≡ s)) → R j s u
  changed_by j s u e = ⊎_elim
      (λ here. subst (λ k. R k s u) here.0 (subst (R i s) (sym here.1) (changed s (ap (slice_get xs) here.0 ∙ e))))
      (λ other. subst (R j s) (sym other.1) (same j other.0 s))

  at_place : (j : ℕ) (s : X) → slice_get xs j ≡ Some s → (i ≡ j) ⊎ (i ≢ j) → (u : X) × (slice_get (changed_at f i xs) j ≡ Some u) × R j s u
  at_place j s e (inl here) =
      (f s, subst (λ k. slice_get (changed_at f i xs) k ≡ Some (f s)) here (changed_here f i xs s (ap (slice_get xs) here ∙ e)), changed_by j s (f s) e (inl (here, refl)))
  at_place j s e (inr other) = (s, same_elsewhere f i j xs other ∙ e, same j other s)

  pub between_one : Between R xs (changed_at f i xs)
  between_one = record {
    back = λ j u e. let was = at_changed f i j xs u e in (was.0, was.1, changed_by j was.0 u was.1 was.2);
    on = λ j s e. at_place j s e (same_or_other i j);
  }
