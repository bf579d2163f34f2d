-- Lists with one element changed: what holds of all elements, and of all but one.
use Rattle.std.proofs.Common.{◌≡◌, ℕ, zero, suc, List, [], ◌∷◌, map, refl, ap, subst, Option, Some, None}
use Rattle.std.specs.Prelude.{slice_get, ⊤}
use Rattle.net_history.specs.Network.{changed_at}
pub use Rattle.net_history.specs.Places.{Each}

-- the one holds of the element at this place, where there is one, and the other of all others
abbrev pub AllBut : {X : Type 0} → (X → Type 0) → (X → Type 0) → ℕ → List X → Type 0
AllBut P Q i [] = ⊤
AllBut P Q zero (x ∷ xs) = Q x × Each P xs
AllBut P Q (suc i) (x ∷ xs) = P x × AllBut P Q i xs

pub all_changed : {X : Type 0} (P : X → Type 0) (f : X → X) → ((x : X) → P x → P (f x)) → (i : ℕ) (xs : List X) → Each P xs → Each P (changed_at f i xs)
all_changed P f keeps i [] all = tt
all_changed P f keeps zero (x ∷ xs) all = (keeps x all.0, all.1)
all_changed P f keeps (suc i) (x ∷ xs) all = (all.0, all_changed P f keeps i xs all.1)

pub but_changed : {X : Type 0} (P Q : X → Type 0) (f : X → X) → ((x : X) → P x → P (f x)) → ((x : X) → Q x → Q (f x)) → (i j : ℕ) (xs : List X) → AllBut P Q i xs → AllBut P Q i (changed_at f j xs)
but_changed P Q f keeps here i j [] all = tt
but_changed P Q f keeps here zero zero (x ∷ xs) all = (here x all.0, all.1)
but_changed P Q f keeps here zero (suc j) (x ∷ xs) all = (all.0, all_changed P f keeps j xs all.1)
but_changed P Q f keeps here (suc i) zero (x ∷ xs) all = (keeps x all.0, all.1)
but_changed P Q f keeps here (suc i) (suc j) (x ∷ xs) all = (all.0, but_changed P Q f keeps here i j xs all.1)

-- that one alone is changed
pub one_changed : {X : Type 0} (P Q R : X → Type 0) (f : X → X) → ((x : X) → Q x → R (f x)) → (i : ℕ) (xs : List X) → AllBut P Q i xs → AllBut P R i (changed_at f i xs)
one_changed P Q R f turns i [] all = tt
one_changed P Q R f turns zero (x ∷ xs) all = (turns x all.0, all.1)
one_changed P Q R f turns (suc i) (x ∷ xs) all = (all.0, one_changed P Q R f turns i xs all.1)

-- what holds of that one by what it is
pub one_known : {X : Type 0} (P Q : X → Type 0) (R : Option X → X → Type 0) → ((x : X) → Q x → R (Some x) x) → (i : ℕ) (xs : List X) → AllBut P Q i xs → AllBut P (R (slice_get xs i)) i xs
one_known P Q R turns i [] all = tt
one_known P Q R turns zero (x ∷ xs) all = (turns x all.0, all.1)
one_known P Q R turns (suc i) (x ∷ xs) all = (all.0, one_known P Q R turns i xs all.1)

pub but_all : {X : Type 0} (P : X → Type 0) (i : ℕ) (xs : List X) → AllBut P P i xs → Each P xs
but_all P i [] all = tt
but_all P zero (x ∷ xs) all = all
but_all P (suc i) (x ∷ xs) all = (all.0, but_all P i xs all.1)

pub all_but : {X : Type 0} (P : X → Type 0) (i : ℕ) (xs : List X) → Each P xs → AllBut P P i xs
all_but P i [] all = tt
all_but P zero (x ∷ xs) all = all
all_but P (suc i) (x ∷ xs) all = (all.0, all_but P i xs all.1)

pub all_mapped : {X Y : Type 0} (P : Y → Type 0) (f : X → Y) → ((x : X) → P (f x)) → (xs : List X) → Each P (map f xs)
all_mapped P f holds [] = tt
all_mapped P f holds (x ∷ xs) = (holds x, all_mapped P f holds xs)

pub some_same : {X : Type 0} (x y : X) → ◌≡◌ {A = Option X} (Some x) (Some y) → x ≡ y
some_same x y e = cc

none_is_some : {X : Type 0} (x : X) → ◌≡◌ {A = Option X} None (Some x) → ⊥
none_is_some x e = cc

pub all_at : {X : Type 0} (P : X → Type 0) (i : ℕ) (xs : List X) (x : X) → slice_get xs i ≡ Some x → Each P xs → P x
all_at P i [] x e all = absurd (none_is_some x e)
all_at P zero (y ∷ xs) x e all = subst P (some_same y x e) all.0
all_at P (suc i) (y ∷ xs) x e all = all_at P i xs x e all.1

-- a change that keeps what is told of an element keeps what is told of all
pub map_changed : {X Y : Type 0} (told : X → Y) (f : X → X) → ((x : X) → told (f x) ≡ told x) → (i : ℕ) (xs : List X) → map told (changed_at f i xs) ≡ map told xs
map_changed told f keeps i [] = refl
map_changed told f keeps zero (x ∷ xs) = ap (λ y. y ∷ map told xs) (keeps x)
map_changed told f keeps (suc i) (x ∷ xs) = ap (λ ys. told x ∷ ys) (map_changed told f keeps i xs)

pub map_at : {X Y : Type 0} (told : X → Y) (i : ℕ) (xs : List X) (x : X) → slice_get xs i ≡ Some x → slice_get (map told xs) i ≡ Some (told x)
map_at told i [] x e = absurd (none_is_some x e)
map_at told zero (y ∷ xs) x e = ap (λ z. Some (told z)) (some_same y x e)
map_at told (suc i) (y ∷ xs) x e = map_at told i xs x e
