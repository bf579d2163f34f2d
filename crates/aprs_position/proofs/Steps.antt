-- Steps turned round: what a value at the end says of each step.
use Rattle.std.proofs.Common.{◌≡◌, ℕ, Bool, true, false, cond, ◌⊎◌, inl, inr, List, [], ◌∷◌, length, Some, None, refl, sym, arith}
use Rattle.std.specs.declared.option.Option.{Option}
use Rattle.std.specs.Option.{IfSome}

pub chosen : {A : Type 0} (b : Bool) (x y z : A) → cond b x y ≡ z → ((b ≡ true) × (x ≡ z)) ⊎ ((b ≡ false) × (y ≡ z))
chosen true x y z h = inl (refl, h)
chosen false x y z h = inr (refl, h)

pub two : (xs : List ℕ) → length xs ≡ 2 → (a b : ℕ) × (xs ≡ a ∷ b ∷ [])
two (a ∷ b ∷ []) h = (a, b, refl)
two _ h = absurd (omega arith)

pub three : (xs : List ℕ) → length xs ≡ 3 → (a b c : ℕ) × (xs ≡ a ∷ b ∷ c ∷ [])
three (a ∷ b ∷ c ∷ []) h = (a, b, c, refl)
three _ h = absurd (omega arith)

-- what is known of the value that a function gives, where it may give none
pub if_some : {A : Type 0} (o f : Option A) (P : A → Type 0) → o ≡ f → ((x : A) → f ≡ Some x → P x) → IfSome o P
if_some (Some x) f P e law = law x (sym e)
if_some None f P e law = tt
