-- Lists with one element changed.
use Rattle.std.proofs.Common.{◌≡◌, ℕ, zero, suc, ◌+◌, ◌<◌, ◌≤◌, ◌==◌, Bool, true, false, not, cond, List, [], ◌∷◌, ◌++◌, length, map, take, drop, get_or, refl, sym, ap, ◌∙◌, arith, nat_lt, Option, Some, None, Result, Ok, Err, OnOk}
use Rattle.std.specs.Prelude.{slice_get, slice_set, if◌then◌else◌}
use Rattle.net_history.specs.Network.{changed_at}
use Rattle.std.specs.List.{position, position_or_len, remove}
use Rattle.std.proofs.lemmas.Bool.{ltb-false, ltb-true}
use Rattle.net_history.specs.Steps.{but_first_of}
use Rattle.net_history.proofs.BetweenLemmas.{none_some}
use Rattle.net_history.proofs.PlaceLemmas.{some_same}

pub set_changed : {X : Type 0} (f : X → X) (xs : List X) (i : ℕ) (x y : X) → i < length xs → x ≡ get_or xs i x → y ≡ f x → slice_set xs i y ≡ changed_at f i xs
set_changed f [] i x y lt is new = absurd (omega arith)
set_changed f (z ∷ xs) zero x y lt is new = ap (λ w. w ∷ xs) (new ∙ ap f is)
set_changed f (z ∷ xs) (suc i) x y lt is new = ap (λ ws. z ∷ ws) (set_changed f xs i x y (omega (arith, lt)) is new)

pub change_set : {X : Type 0} (f : X → X) (xs : List X) (i : ℕ) (d y : X) → i < length xs → y ≡ f (get_or xs i d) → slice_set xs i y ≡ changed_at f i xs
change_set f [] i d y lt new = absurd (omega arith)
change_set f (z ∷ xs) zero d y lt new = ap (λ w. w ∷ xs) new
change_set f (z ∷ xs) (suc i) d y lt new = ap (λ ws. z ∷ ws) (change_set f xs i d y (omega (arith, lt)) new)

pub past_changed : {X : Type 0} (f : X → X) (xs : List X) (i : ℕ) → length xs ≤ i → changed_at f i xs ≡ xs
past_changed f [] i past = refl
past_changed f (z ∷ xs) zero past = absurd (omega arith)
past_changed f (z ∷ xs) (suc i) past = ap (λ ws. z ∷ ws) (past_changed f xs i (omega (arith, past)))

-- a change that is made only where all goes well
pub on_ok : {T E P Q : Type 0} (r : Result T E) → (P → Q) → OnOk r P → OnOk r Q
on_ok (Ok x) f p = f p
on_ok (Err e) f p = tt

-- one element of a list that is mapped from the front on
pub mapped_more : {X : Type 0} (f : X → X) (xs ys : List X) (i : ℕ) (new d : X) → i < length xs → ys ≡ map f (take i xs) ++ drop i xs → new ≡ f (get_or ys i d)
    → slice_set ys i new ≡ map f (take (i + 1) xs) ++ drop (i + 1) xs
mapped_more f xs ys i new d lt so_far is =
    let one : i + 1 ≡ suc i = omega arith in
    ap (λ zs. slice_set zs i new) so_far ∙ go f xs i new d lt (is ∙ ap (λ zs. f (get_or zs i d)) so_far) ∙ ap (λ n. map f (take n xs) ++ drop n xs) (sym one)
  where
    go : {X : Type 0} (f : X → X) (xs : List X) (i : ℕ) (new d : X) → i < length xs → new ≡ f (get_or (map f (take i xs) ++ drop i xs) i d) → slice_set (map f (take i xs) ++ drop i xs) i new ≡ map f (take (suc i) xs) ++ drop (suc i) xs
    go f [] i new d lt is = absurd (omega arith)
    go f (x ∷ xs) zero new d lt is = ap (λ y. y ∷ xs) is
    go f (x ∷ xs) (suc i) new d lt is = ap (λ ys. f x ∷ ys) (go f xs i new d (omega (arith, lt)) is)

-- so many elements, each seen as the same
pub same_more : {X Y : Type 0} (f : X → Y) (y : Y) → ((x : X) → f x ≡ y) → (xs : List X) (i : ℕ) → i < length xs → map f (take (i + 1) xs) ≡ map f (take i xs) ++ y ∷ []
same_more f y same xs i lt = let one : i + 1 ≡ suc i = omega arith in ap (λ n. map f (take n xs)) one ∙ go f y same xs i lt
  where
    go : {X Y : Type 0} (f : X → Y) (y : Y) → ((x : X) → f x ≡ y) → (xs : List X) (i : ℕ) → i < length xs → map f (take (suc i) xs) ≡ map f (take i xs) ++ y ∷ []
    go f y same [] i lt = absurd (omega arith)
    go f y same (x ∷ xs) zero lt = ap (λ z. z ∷ []) (same x)
    go f y same (x ∷ xs) (suc i) lt = ap (λ zs. f x ∷ zs) (go f y same xs i (omega (arith, lt)))

-- what is kept of a longer beginning is kept of a shorter one
pub kept_shorter : (new out a x : List ℕ) → take (length out) new ≡ out → out ≡ a ++ x → take (length a) new ≡ a
kept_shorter new out [] x kept is = refl
kept_shorter [] out (y ∷ a) x kept is = absurd (empty (length out) out kept is)
  where
    empty : (n : ℕ) (out : List ℕ) → take n [] ≡ out → out ≡ y ∷ (a ++ x) → ⊥
    empty zero out kept is = cc
    empty (suc n) out kept is = cc
kept_shorter (z ∷ new) [] (y ∷ a) x kept is = absurd (nothing is)
  where
    nothing : [] ≡ y ∷ (a ++ x) → ⊥
    nothing e = cc
kept_shorter (z ∷ new) (o ∷ out) (y ∷ a) x kept is =
    let first : z ≡ o = cc in
    let others : take (length out) new ≡ out = cc in
    let same : o ≡ y = cc in
    let rest : out ≡ a ++ x = cc in
    ap (λ w. w ∷ take (length a) new) (first ∙ same) ∙ ap (λ ws. y ∷ ws) (kept_shorter new out a x others rest)

-- an element by its place
pub get_there : {X : Type 0} (xs : List X) (i : ℕ) (x d : X) → slice_get xs i ≡ Some x → get_or xs i d ≡ x
get_there [] i x d at = absurd (none_some x at)
get_there (z ∷ xs) zero x d at = some_same z x at
get_there (z ∷ xs) (suc i) x d at = get_there xs i x d at

pub get_some : {X : Type 0} (xs : List X) (i : ℕ) (d : X) → i < length xs → slice_get xs i ≡ Some (get_or xs i d)
get_some [] i d lt = absurd (omega arith)
get_some (z ∷ xs) zero d lt = refl
get_some (z ∷ xs) (suc i) d lt = get_some xs i d (omega (arith, lt))

-- the first of such elements is left out
abbrev first_at : ℕ → List ℕ → ℕ
first_at u xs = position_or_len (λ other. other == u) xs

first_gone : (u : ℕ) (xs : List ℕ) → first_at u xs < length xs → remove xs (first_at u xs) ≡ but_first_of u xs
first_gone u [] lt = absurd (omega arith)
first_gone u (x ∷ xs) lt = of (x == u) lt (first_gone u xs)
  where
    of : (b : Bool) → cond (not b) (1 + first_at u xs) 0 < suc (length xs) → (first_at u xs < length xs → remove xs (first_at u xs) ≡ but_first_of u xs)
        → remove (x ∷ xs) (cond (not b) (1 + first_at u xs) 0) ≡ (if b then xs else x ∷ but_first_of u xs)
    of true lt later = refl
    of false lt later = let one : 1 + first_at u xs ≡ suc (first_at u xs) = omega arith in ap (remove (x ∷ xs)) one ∙ ap (λ ys. x ∷ ys) (later (omega (arith, lt)))

none_gone : (u : ℕ) (xs : List ℕ) → length xs ≤ first_at u xs → xs ≡ but_first_of u xs
none_gone u [] past = refl
none_gone u (x ∷ xs) past = of (x == u) past (none_gone u xs)
  where
    of : (b : Bool) → suc (length xs) ≤ cond (not b) (1 + first_at u xs) 0 → (length xs ≤ first_at u xs → xs ≡ but_first_of u xs) → x ∷ xs ≡ (if b then xs else x ∷ but_first_of u xs)
    of true past later = absurd (omega (arith, past))
    of false past later = ap (λ ys. x ∷ ys) (later (omega (arith, past)))

pub first_left : (u : ℕ) (xs : List ℕ) (i : ℕ) → position (λ other. other == u) xs ≡ Some i → remove xs i ≡ but_first_of u xs
first_left u xs i is = of (nat_lt (first_at u xs) (length xs)) refl is
  where
    of : (b : Bool) → nat_lt (first_at u xs) (length xs) ≡ b → ◌≡◌ {A = Option ℕ} (cond b (Some (first_at u xs)) None) (Some i) → remove xs i ≡ but_first_of u xs
    of true lt at = ap (remove xs) (sym (some_same (first_at u xs) i at)) ∙ first_gone u xs (ltb-true (first_at u xs) (length xs) lt)
    of false none at = absurd (none_some i at)

pub none_left : (u : ℕ) (xs : List ℕ) → position (λ other. other == u) xs ≡ None → xs ≡ but_first_of u xs
none_left u xs is = of (nat_lt (first_at u xs) (length xs)) refl is
  where
    of : (b : Bool) → nat_lt (first_at u xs) (length xs) ≡ b → ◌≡◌ {A = Option ℕ} (cond b (Some (first_at u xs)) None) None → xs ≡ but_first_of u xs
    of true lt at = absurd (none_some (first_at u xs) (sym at))
    of false past at = none_gone u xs (ltb-false (first_at u xs) (length xs) past)

-- all of a list
pub take_past : {X : Type 0} (xs : List X) (i : ℕ) → length xs ≤ i → take i xs ≡ xs
take_past [] zero past = refl
take_past [] (suc i) past = refl
take_past (x ∷ xs) zero past = absurd (omega (arith, past))
take_past (x ∷ xs) (suc i) past = ap (λ ys. x ∷ ys) (take_past xs i (omega (arith, past)))

pub drop_past : {X : Type 0} (xs : List X) (i : ℕ) → length xs ≤ i → drop i xs ≡ []
drop_past [] zero past = refl
drop_past [] (suc i) past = refl
drop_past (x ∷ xs) zero past = absurd (omega (arith, past))
drop_past (x ∷ xs) (suc i) past = drop_past xs i (omega (arith, past))
