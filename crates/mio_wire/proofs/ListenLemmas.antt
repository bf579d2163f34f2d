-- Listeners by their places.
use Rattle.std.proofs.Common.{◌≡◌, ◌<◌, ℕ, zero, suc, set, List, [], ◌∷◌, length, get_or, subst, arith}
use Rattle.std.specs.List.{slice_get}
use Rattle.std.specs.Option.{IfSome}

-- what is set at a place, where there is such a place
pub set_at : {X : Type 0} (P : X → Type 0) (xs : List X) (i : ℕ) (x : X) → P x → IfSome (slice_get (set xs i x) i) P
set_at P [] i x is = tt
set_at P (y ∷ xs) zero x is = is
set_at P (y ∷ xs) (suc i) x is = set_at P xs i x is

-- what holds of what stands at a place
pub some_at : {X : Type 0} (P : X → Type 0) (xs : List X) (place : ℕ) (x : X) → place < length xs → x ≡ get_or xs place x → P x → IfSome (slice_get xs place) P
some_at P [] place x lt is p = tt
some_at P (y ∷ xs) zero x lt is p = subst P is p
some_at P (y ∷ xs) (suc place) x lt is p = some_at P xs place x (omega arith) is p
