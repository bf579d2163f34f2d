-- What bytes are cut into are lines.
use Rattle.std.proofs.Common.{◌≡◌, ℕ, nat_lt, Bool, true, false, List, [], ◌∷◌, length, refl, sym, arith, subst, Some, if◌then◌else◌, ⊎_elim}
use Rattle.std.specs.Bool.{⊤}
use Rattle.std.specs.List.{cons_option, filter_map, onto_first}
use Rattle.std.proofs.lemmas.Bool.{and_from, cases_Bool, le-leb, ltb-false}
use Rattle.std.proofs.lemmas.List.Splits.{slice_split-cons_yes, slice_split-cons_no}
use Rattle.aprs_base.specs.Bytes.{is_line_end, IsInner, IsLine}
use Rattle.aprs_base.specs.Cuts.{all_but_last, cut_of, cuts_of, pieces_of}
use Rattle.aprs_base.specs.declared.cutting.Cut.{Cut}
use Rattle.aprs_base.specs.declared.cutting.Cut.TheVariants as cut

abbrev pub IsWhole : Cut → Type 0
IsWhole cut.Long = ⊤
IsWhole (cut.Line text) = IsLine text

abbrev pub AreWhole : List Cut → Type 0
AreWhole [] = ⊤
AreWhole (said ∷ cuts) = IsWhole said × AreWhole cuts

abbrev AllInner : List (List ℕ) → Type 0
AllInner [] = ⊤
AllInner (piece ∷ pieces) = IsInner piece × AllInner pieces

inner_onto : (b : ℕ) (pieces : List (List ℕ)) → is_line_end b ≡ false → AllInner pieces → AllInner (onto_first b pieces)
inner_onto b [] goes all = (rw goes refl, tt)
inner_onto b (piece ∷ pieces) goes all = (rw goes all.0, all.1)

pieces_inner : (bytes : List ℕ) → AllInner (pieces_of bytes)
pieces_inner [] = (refl, tt)
pieces_inner (b ∷ bytes) = ⊎_elim
    (λ ends. subst AllInner (sym (slice_split-cons_yes is_line_end b bytes ends)) (refl, pieces_inner bytes))
    (λ goes. subst AllInner (sym (slice_split-cons_no is_line_end b bytes goes)) (inner_onto b (pieces_of bytes) goes (pieces_inner bytes)))
    (cases_Bool (is_line_end b))

ended_inner : (pieces : List (List ℕ)) → AllInner pieces → AllInner (all_but_last pieces)
ended_inner [] all = tt
ended_inner (piece ∷ []) all = tt
ended_inner (piece ∷ next ∷ pieces) all = (all.0, ended_inner (next ∷ pieces) all.1)

pieces_whole : (pieces : List (List ℕ)) → AllInner pieces → AreWhole (filter_map cut_of pieces)
pieces_whole [] all = tt
pieces_whole ([] ∷ pieces) all = pieces_whole pieces all.1
pieces_whole ((b ∷ more) ∷ pieces) all = of (nat_lt 510 (length (b ∷ more))) refl (pieces_whole pieces all.1)
  where
    of : (long : Bool) → nat_lt 510 (length (b ∷ more)) ≡ long → AreWhole (filter_map cut_of pieces)
        → AreWhole (cons_option (if long then Some cut.Long else Some (cut.Line (b ∷ more))) (filter_map cut_of pieces))
    of true is later = (tt, later)
    of false is later = (and_from _ _ (and_from _ _ (le-leb 1 (length (b ∷ more)) (omega arith)) (le-leb (length (b ∷ more)) 510 (ltb-false 510 (length (b ∷ more)) is))) all.0, later)

pub cuts_whole : (bytes : List ℕ) → AreWhole (cuts_of bytes)
cuts_whole bytes = pieces_whole (all_but_last (pieces_of bytes)) (ended_inner (pieces_of bytes) (pieces_inner bytes))
