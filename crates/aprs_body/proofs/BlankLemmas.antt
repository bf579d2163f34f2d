-- Blanks at the end of a text.
use Rattle.std.proofs.Common.{◌≡◌, ℕ, zero, suc, ◌-◌, ◌≤◌, false, eqb, List, [], ◌∷◌, length, take, get_or, refl, ap, arith}
use Rattle.aprs_body.specs.Bodies.{put, without_trailing_blanks}

cut_at : (xs : List ℕ) (n : ℕ) → length xs ≡ suc n → get_or xs n 0 ≡ 32 → without_trailing_blanks (take n xs) ≡ without_trailing_blanks xs
cut_at [] n len blank = absurd (omega arith)
cut_at (x ∷ []) zero len blank = rw blank refl
cut_at (x ∷ []) (suc n) len blank = absurd (omega arith)
cut_at (x ∷ y ∷ ys) zero len blank = absurd (omega arith)
cut_at (x ∷ y ∷ ys) (suc n) len blank = ap (put x) (cut_at (y ∷ ys) n (omega arith) blank)

-- a blank at the end may go
pub cut_blank : (xs : List ℕ) → 1 ≤ length xs → get_or xs (length xs - 1) 0 ≡ 32 →
    without_trailing_blanks (take (length xs - 1) xs) ≡ without_trailing_blanks xs
cut_blank xs some blank = cut_at xs (length xs - 1) (omega arith) blank

kept_at : (xs : List ℕ) (n : ℕ) → length xs ≡ suc n → eqb (get_or xs n 0) 32 ≡ false → xs ≡ without_trailing_blanks xs
kept_at [] n len other = absurd (omega arith)
kept_at (x ∷ []) zero len other = rw other refl
kept_at (x ∷ []) (suc n) len other = absurd (omega arith)
kept_at (x ∷ y ∷ ys) zero len other = absurd (omega arith)
kept_at (x ∷ y ∷ ys) (suc n) len other = ap (put x) (kept_at (y ∷ ys) n (omega arith) other)

-- a text that doesn't end in a blank stays
pub kept : (xs : List ℕ) → 1 ≤ length xs → eqb (get_or xs (length xs - 1) 0) 32 ≡ false → xs ≡ without_trailing_blanks xs
kept xs some other = kept_at xs (length xs - 1) (omega arith) other
