-- Two lists of one length, with a relation between the elements at each place.
use Rattle.std.proofs.Common.{◌≡◌, ℕ, zero, suc, List, [], ◌∷◌, ◌++◌, refl, subst, Some}
use Rattle.std.specs.Bool.{⊤}
use Rattle.std.specs.Prelude.{slice_get}
use Rattle.net_history.proofs.BetweenLemmas.{none_some}
use Rattle.net_history.proofs.PlaceLemmas.{some_same}

abbrev pub Zip : {X Y : Type 0} → (X → Y → Type 0) → List X → List Y → Type 0
Zip R [] [] = ⊤
Zip R [] (y ∷ ys) = ⊥
Zip R (x ∷ xs) [] = ⊥
Zip R (x ∷ xs) (y ∷ ys) = R x y × Zip R xs ys

pub zip_both : {X Y : Type 0} (R : X → Y → Type 0) (xs xs' : List X) (ys ys' : List Y) → Zip R xs ys → Zip R xs' ys' → Zip R (xs ++ xs') (ys ++ ys')
zip_both R [] xs' [] ys' first second = second
zip_both R [] xs' (y ∷ ys) ys' first second = absurd first
zip_both R (x ∷ xs) xs' [] ys' first second = absurd first
zip_both R (x ∷ xs) xs' (y ∷ ys) ys' first second = (first.0, zip_both R xs xs' ys ys' first.1 second)

pub zip_at : {X Y : Type 0} (R : X → Y → Type 0) (xs : List X) (ys : List Y) (place : ℕ) (x : X) → Zip R xs ys → slice_get xs place ≡ Some x → (y : Y) × (slice_get ys place ≡ Some y) × R x y
zip_at R [] ys place x zip e = absurd (none_some x e)
zip_at R (x' ∷ xs) [] place x zip e = absurd zip
zip_at R (x' ∷ xs) (y ∷ ys) zero x zip e = (y, refl, subst (λ z. R z y) (some_same x' x e) zip.0)
zip_at R (x' ∷ xs) (y ∷ ys) (suc place) x zip e = zip_at R xs ys place x zip.1 e

pub zip_weaker : {X Y : Type 0} (R S : X → Y → Type 0) → ((x : X) (y : Y) → R x y → S x y) → (xs : List X) (ys : List Y) → Zip R xs ys → Zip S xs ys
zip_weaker R S weaker [] [] zip = tt
zip_weaker R S weaker [] (y ∷ ys) zip = absurd zip
zip_weaker R S weaker (x ∷ xs) [] zip = absurd zip
zip_weaker R S weaker (x ∷ xs) (y ∷ ys) zip = (weaker x y zip.0, zip_weaker R S weaker xs ys zip.1)
