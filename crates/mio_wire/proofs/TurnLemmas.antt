-- What a turn is made of.
use Rattle.std.proofs.Common.{◌≡◌, ℕ, ◌+◌, ◌<◌, Bool, List, [], ◌∷◌, ◌++◌, length, get_or, take, ap, ◌∙◌}
use Rattle.std.specs.List.{filter}
use Rattle.std.proofs.lemmas.List.{append_assoc, take_more}
use Rattle.std.proofs.lemmas.List.Elements.{filter-append}

-- one more of those that a test keeps
pub one_more : {X : Type 0} (p : X → Bool) (was before now sources : List X) (i : ℕ) (d : X) → i < length sources →
    before ≡ was ++ filter p (take i sources) → now ≡ before ++ filter p (get_or sources i d ∷ []) → now ≡ was ++ filter p (take (i + 1) sources)
one_more p was before now sources i d lt so_far more =
    let last = filter p (get_or sources i d ∷ []) in
    let next : filter p (take (i + 1) sources) ≡ filter p (take i sources) ++ last = ap (filter p) (take_more sources i d lt) ∙ filter-append p (take i sources) (get_or sources i d ∷ []) in
    rw next (more ∙ ap (λ xs. xs ++ last) so_far ∙ append_assoc was (filter p (take i sources)) last)
