-- Texts that are written piece by piece.
use Rattle.std.proofs.Common.{◌≡◌, ℕ, zero, suc, ◌+◌, ◌-◌, ◌*◌, ◌/◌, ◌%◌, ◌<◌, Bool, true, false, cond, ◌==◌, List, [], ◌∷◌, ◌++◌, map, filter, drop, get_or, refl, sym, ap, ◌∙◌, arith, append_assoc, append-nil, drop-cons, add-one}
use Rattle.std.specs.Prelude.{bit_and, slice_index_or, if◌then◌else◌}
use Rattle.std.specs.List.{range_with_len}
use Rattle.std.proofs.lemmas.Bool.{ne_eqb}
use Rattle.filter_lang.specs.Names.{spelled}
use Rattle.filter_lang.specs.Numbers.{dotted_text, fraction_digits, fraction_text, places}
use Rattle.filter_lang.specs.Sets.{is_set, mask_text, classes}

pub places_tens : (i : ℕ) → i < 5 → get_or places i 0 ≡ 10 * get_or places (i + 1) 0
places_tens zero h = refl
places_tens (suc zero) h = refl
places_tens (suc (suc zero)) h = refl
places_tens (suc (suc (suc zero))) h = refl
places_tens (suc (suc (suc (suc zero)))) h = refl
places_tens (suc (suc (suc (suc (suc i))))) h = absurd (omega arith)

pub places_some : (i : ℕ) → i < 6 → 0 < get_or places i 0
places_some zero h = omega arith
places_some (suc zero) h = omega arith
places_some (suc (suc zero)) h = omega arith
places_some (suc (suc (suc zero))) h = omega arith
places_some (suc (suc (suc (suc zero)))) h = omega arith
places_some (suc (suc (suc (suc (suc zero))))) h = omega arith
places_some (suc (suc (suc (suc (suc (suc i)))))) h = absurd (omega arith)

pub fraction_put : (out new : List ℕ) (i rest : ℕ) → i < 6 → (rest ≡ 0 → ⊥) → new ≡ out ++ (48 + rest / get_or places i 0) ∷ [] → new ++ fraction_text (drop (i + 1) places) (rest % get_or places i 0) ≡ out ++ fraction_text (drop i places) rest
fraction_put out new i rest h some e =
    rw (drop-cons places i 0 h, add-one i, ne_eqb rest 0 some, e) (append_assoc out ((48 + rest / get_or places i 0) ∷ []) (fraction_text (drop (suc i) places) (rest % get_or places i 0)))

pub fraction_small : (i rest : ℕ) → i + 1 < 6 → 0 < get_or places i 0 → rest % get_or places i 0 < 10 * get_or places (i + 1) 0
fraction_small i rest h p = rw (← places_tens i (omega arith)) (omega arith)

pub fraction_zero : (ps : List ℕ) → fraction_text ps 0 ≡ []
fraction_zero [] = refl
fraction_zero (p ∷ ps) = refl

some_dotted : (n : ℕ) → (n ≡ 0 → ⊥) → dotted_text n ≡ 46 ∷ fraction_digits n
some_dotted n some = rw (ne_eqb n 0 some) refl

pub dotted_put : (old new : List ℕ) (n : ℕ) → (n ≡ 0 → ⊥) → new ≡ old ++ 46 ∷ [] → new ++ fraction_text places n ≡ old ++ dotted_text n
unfolding fraction_digits
dotted_put old new n some e = ap (λ text. text ++ fraction_text places n) e ∙ append_assoc old (46 ∷ []) (fraction_text places n) ∙ ap (λ text. old ++ text) (sym (some_dotted n some))

pub mask_put : (out new : List ℕ) (i mask : ℕ) → i < 10 → new ≡ out ++ (if bit_and mask (slice_index_or classes i (0, 0)).1 == 0 then [] else (slice_index_or classes i (0, 0)).0 ∷ []) → new ++ mask_text (drop (i + 1) classes) mask ≡ out ++ mask_text (drop i classes) mask
mask_put out new i mask h e = rw (drop-cons classes i (0, 0) h, add-one i, e) (append_assoc out _ (mask_text (drop (suc i) classes) mask))

pub bits_put : (out new : List ℕ) (bits b : ℕ) → b < 128 → new ≡ out ++ map spelled (filter (is_set bits) (b ∷ [])) → new ++ map spelled (filter (is_set bits) (range_with_len (b + 1) (128 - (b + 1)))) ≡ out ++ map spelled (filter (is_set bits) (range_with_len b (128 - b)))
bits_put out new bits b h e =
    let left : 128 - b ≡ suc (128 - (b + 1)) = omega arith in
    rw (left, e) (put (is_set bits b) (128 - (b + 1)))
  where
    put : (c : Bool) (n : ℕ) → (out ++ map spelled (cond c (b ∷ []) [])) ++ map spelled (filter (is_set bits) (range_with_len (b + 1) n)) ≡ out ++ map spelled (cond c (b ∷ filter (is_set bits) (range_with_len (b + 1) n)) (filter (is_set bits) (range_with_len (b + 1) n)))
    put true n = append_assoc out (spelled b ∷ []) _
    put false n = rw (append-nil out) refl
