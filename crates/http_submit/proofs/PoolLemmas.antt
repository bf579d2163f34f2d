-- A loop that changes each link that waits.
use Rattle.std.proofs.Common.{◌≡◌, ℕ, zero, suc, ◌+◌, ◌<◌, List, [], ◌∷◌, ◌++◌, length, get_or, map, refl, ap, ◌∙◌, arith, slice_set, take, drop, add-one}

module _ {X : Type 0} (f : X → X) where
  mapped_at : (xs : List X) (i : ℕ) (new d : X) → i < length xs → new ≡ f (get_or xs i d)
      → slice_set (map f (take i xs) ++ drop i xs) i new ≡ map f (take (suc i) xs) ++ drop (suc i) xs
  mapped_at [] i new d less is = absurd (omega arith)
  mapped_at (x ∷ xs) zero new d less is = ap (λ y. y ∷ xs) is
  mapped_at (x ∷ xs) (suc i) new d less is = ap (λ ys. f x ∷ ys) (mapped_at xs i new d (omega arith) is)

  get_mapped : (xs : List X) (i : ℕ) (d : X) → i < length xs → get_or (map f (take i xs) ++ drop i xs) i d ≡ get_or xs i d
  get_mapped [] i d less = absurd (omega arith)
  get_mapped (x ∷ xs) zero d less = refl
  get_mapped (x ∷ xs) (suc i) d less = get_mapped xs i d (omega arith)

  pub mapped_more : (xs ys : List X) (i : ℕ) (new d : X) → i < length xs → ys ≡ map f (take i xs) ++ drop i xs → new ≡ f (get_or ys i d)
      → slice_set ys i new ≡ map f (take (i + 1) xs) ++ drop (i + 1) xs
  mapped_more xs ys i new d less so_far is =
      rw add-one (ap (λ zs. slice_set zs i new) so_far
      ∙ mapped_at xs i new d less (is ∙ ap f (ap (λ zs. get_or zs i d) so_far ∙ get_mapped xs i d less)))
