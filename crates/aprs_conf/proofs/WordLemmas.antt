-- The first word of a line: behind its blanks and tabs, up to the next of them or to its last quote.
use Rattle.std.proofs.Common.{◌≡◌, ℕ, ◌+◌, ◌<◌, ◌≤◌, true, false, cond, not, List, [], ◌∷◌, Some, None, take, drop, length, refl, ap, arith, one-add}
use Rattle.std.specs.List.{prefix_len, position_or_len}
use Rattle.login_pass.proofs.Cuts.{skipped}
use Rattle.aprs_conf.specs.Words.{is_gap, is_quote, with_byte, words_from, words_of}
use Rattle.aprs_conf.specs.Words.Place.{Plain, Quoted}

-- leading gaps have no word
pub skip : (xs : List ℕ) → words_of xs ≡ words_of (drop (prefix_len is_gap xs) xs)
skip xs = skipped is_gap (λ _. words_of) (λ n x more e. rw e refl) 0 xs

-- a plain word ends at the first gap
pub plain_cut : (xs : List ℕ) → let p = position_or_len is_gap xs in words_from Plain xs ≡ Some (take p xs) ∷ words_of (drop p xs)
plain_cut [] = refl
plain_cut (x ∷ xs) =
    elim (is_gap x) as (λ b. is_gap x ≡ b → cond b (Some [] ∷ words_of xs) (with_byte x (words_from Plain xs))
    ≡ Some (take (cond (not b) (1 + position_or_len is_gap xs) 0) (x ∷ xs)) ∷ words_of (drop (cond (not b) (1 + position_or_len is_gap xs) 0) (x ∷ xs))) [
      | true ↦ λ e. rw e refl
      | false ↦ λ _. rw (one-add, plain_cut xs) refl
    ] refl

-- a word between quotes ends at the next quote
pub quoted_cut : (xs : List ℕ) → let p = position_or_len is_quote xs in p < length xs → words_from Quoted xs ≡ Some (take p xs) ∷ words_of (drop (p + 1) xs)
quoted_cut [] less = absurd (omega arith)
quoted_cut (x ∷ xs) less =
    elim (is_quote x) as (λ b. is_quote x ≡ b → cond (not b) (1 + position_or_len is_quote xs) 0 < length (x ∷ xs) → cond b (Some [] ∷ words_of xs) (with_byte x (words_from Quoted xs))
    ≡ Some (take (cond (not b) (1 + position_or_len is_quote xs) 0) (x ∷ xs)) ∷ words_of (drop (cond (not b) (1 + position_or_len is_quote xs) 0 + 1) (x ∷ xs))) [
      | true ↦ λ e _. refl
      | false ↦ λ _ within.
          let more : (1 + position_or_len is_quote xs) + 1 ≡ 1 + (position_or_len is_quote xs + 1) = omega arith in
          let inside : position_or_len is_quote xs < length xs = omega arith in
          rw (more, one-add (position_or_len is_quote xs), one-add (position_or_len is_quote xs + 1), quoted_cut xs inside) refl
    ] refl less

-- without one it stays open
pub quoted_open : (xs : List ℕ) → length xs ≤ position_or_len is_quote xs → words_from Quoted xs ≡ None ∷ []
quoted_open [] le = refl
quoted_open (x ∷ xs) le =
    elim (is_quote x) as (λ b. length (x ∷ xs) ≤ cond (not b) (1 + position_or_len is_quote xs) 0 → cond b (Some [] ∷ words_of xs) (with_byte x (words_from Quoted xs)) ≡ None ∷ []) [
      | true ↦ λ more. absurd (omega arith)
      | false ↦ λ more. ap (with_byte x) (quoted_open xs (omega arith))
    ] le
