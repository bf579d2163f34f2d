-- Elements of a path that were used.
use Rattle.std.proofs.Common.{◌≡◌, true, false, ◌||◌, List, [], ◌∷◌, ◌++◌, refl, ap, ◌∙◌}
use Rattle.std.specs.List.{list_any}
use Rattle.std.proofs.Math.Bool.{and-false, and-true, or-false}
use Rattle.std.proofs.lemmas.Bool.{or_left, or_right}
use Rattle.std.proofs.lemmas.List.Folds.{list_any-append}
use Rattle.aprs_base.specs.declared.packets.Via.{Via}
use Rattle.filter_lang.specs.Seen.{NameSeen}
use Rattle.filter_eval.specs.Passes.{has_star, matches_via, used_match}

star_last : (front : List Via) (last : Via) → last.star ≡ true → list_any has_star (front ++ last ∷ []) ≡ true
star_last front last h = list_any-append has_star front (last ∷ []) ∙ or_right _ _ (or_left last.star false h)

no_star_last : (front : List Via) (last : Via) → last.star ≡ false → list_any has_star (front ++ last ∷ []) ≡ list_any has_star front
no_star_last front last h = list_any-append has_star front (last ∷ []) ∙ rw h (or-false (list_any has_star front))

-- up to a last element with `*` all were used
pub used_all : (names : List NameSeen) (front : List Via) (last : Via) → last.star ≡ true → used_match names (front ++ last ∷ []) ≡ list_any (matches_via names) (front ++ last ∷ [])
used_all names [] last h = rw h (ap (λ b. b || false) (and-true (matches_via names last)))
used_all names (via ∷ front) last h = rw (star_last (via ∷ front) last h, used_all names front last h, and-true (matches_via names via)) refl

-- a last element without `*` was not
pub used_front : (names : List NameSeen) (front : List Via) (last : Via) → last.star ≡ false → used_match names (front ++ last ∷ []) ≡ used_match names front
used_front names [] last h = rw h (ap (λ b. b || false) (and-false (matches_via names last)))
used_front names (via ∷ front) last h = rw (no_star_last (via ∷ front) last h, used_front names front last h) refl
