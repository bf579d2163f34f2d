-- The first place of a byte, as a search by `memchr` gives it.
use Rattle.std.proofs.Common.{◌≡◌, ℕ, ◌<◌, Bool, List, length, sym, arith}
use Rattle.std.specs.List.{position_or_len}
use Rattle.std.proofs.lemmas.Bool.{false_from_ne_true}
use Rattle.std.proofs.lemmas.List.Sums.{position_or_len_is}
use Rattle.memchr.specs.Find.{NoneBefore, Nowhere, Passes}

module _ (test : ℕ → Bool) (hay : List ℕ) where
  pub place_found : (i : ℕ) → NoneBefore (Passes test hay) 0 (length hay) i → Passes test hay i → i ≡ position_or_len test hay
  place_found i none passes =
      let high : i < length hay = none.high in
      sym (position_or_len_is test hay i 0 (omega arith) (λ k lt. false_from_ne_true _ (none.before k (omega arith) lt)) (λ _. passes))

  pub place_missing : Nowhere (Passes test hay) 0 (length hay) → length hay ≡ position_or_len test hay
  place_missing none =
      sym (position_or_len_is test hay (length hay) 0 (omega arith) (λ k lt. false_from_ne_true _ (none k (omega arith) lt)) (λ lt. absurd (omega arith)))
