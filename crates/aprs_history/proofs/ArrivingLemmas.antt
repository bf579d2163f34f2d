-- Lines arrive whole, wherever the bytes of their text are cut.
use Rattle.std.proofs.Common.{◌≡◌, ℕ, List, [], ◌∷◌, ◌++◌, length, refl, sym, ap, ◌∙◌, arith, append_assoc, append-nil, ◌⊎◌, inl, inr, ⊎_elim, Some}
use Rattle.std.specs.List.{list_all, cons_option}
use Rattle.std.proofs.lemmas.Bool.{and_parts, leb-true}
use Rattle.std.proofs.lemmas.List.Elements.{All-head, All-tail}
use Rattle.std.proofs.lemmas.List.Folds.{list_all-append}
use Rattle.aprs_base.specs.Bytes.{is_inner, IsInner, IsLine}
use Rattle.aprs_base.specs.Cuts.{cut_of, cuts_of}
use Rattle.aprs_base.specs.declared.cutting.Cut.TheVariants as cut
use Rattle.aprs_base.proofs.CutLemmas.{cuts_of-first, cuts_of-inner, cut_short}
use Rattle.link_queue.specs.Lines.{text_bytes}
use Rattle.aprs_history.specs.Arriving.{Arrives, LinesArriveWhole}

-- the first of two lists ends within the third or at its end, or reaches into the fourth
abbrev Splits : List ℕ → List ℕ → List ℕ → List ℕ → Type 0
Splits a b c d = ((x : List ℕ) × (a ≡ c ++ x) × (d ≡ x ++ b)) ⊎ ((y : ℕ) × (x : List ℕ) × (c ≡ a ++ y ∷ x) × (b ≡ y ∷ (x ++ d)))

splits : (a b c d : List ℕ) → a ++ b ≡ c ++ d → Splits a b c d
splits [] b [] d e = inl ([], refl, sym e)
splits [] b (y ∷ c) d e = inr (y, c, refl, e)
splits (p ∷ a) b [] d e = inl (p ∷ a, refl, sym e)
splits (p ∷ a) b (q ∷ c) d e =
    let head : p ≡ q = cc in
    let tail : a ++ b ≡ c ++ d = cc in
    ⊎_elim
    (λ l. inl (l.0, rw (head, l.1) refl, l.2))
    (λ r. inr (r.0, r.1, rw (sym head, r.2) refl, r.3))
    (splits a b c d tail)

line_cut : (line : List ℕ) → IsLine line → cut_of line ≡ Some (cut.Line line)
line_cut line is =
    let both = and_parts _ _ is in
    let sizes = and_parts _ _ both.0 in
    cut_short line (leb-true 1 (length line) sizes.0) (leb-true (length line) 510 sizes.1)

line_inner : (line : List ℕ) → IsLine line → IsInner line
line_inner line is = (and_parts _ _ is).1

-- a line with the first byte of its end, and the second one
first_end : (line more : List ℕ) → IsLine line → cuts_of (line ++ 13 ∷ more) ≡ cut.Line line ∷ cuts_of more
first_end line more is =
    cuts_of-first line (13 ∷ more) (line_inner line is) (omega arith)
    ∙ ap (λ l. cons_option (cut_of l) (cuts_of more)) (append-nil line)
    ∙ ap (λ c. cons_option c (cuts_of more)) (line_cut line is)

second_end : (more : List ℕ) → cuts_of (10 ∷ more) ≡ cuts_of more
second_end more = cuts_of-first [] (10 ∷ more) refl (omega arith)

-- all the more where something is still to come
still_coming : (x y : List ℕ) (b : ℕ) (lines : List (List ℕ)) → x ++ b ∷ y ≡ [] → lines ≡ []
still_coming [] y b lines e = absurd cc
still_coming (a ∷ x) y b lines e = absurd cc

pub lines_arrive_whole : LinesArriveWhole
lines_arrive_whole [] [] left are e = record { there = []; more = []; split = refl; cuts = refl; whole = λ none. refl }
lines_arrive_whole [] (b ∷ come) left are e = absurd cc
lines_arrive_whole (line ∷ lines) come left are e =
    let all : line ++ (13 ∷ 10 ∷ text_bytes lines) ≡ come ++ left = sym (append_assoc line (13 ∷ 10 ∷ []) (text_bytes lines)) ∙ e in
    of (All-head IsLine line lines are) (splits line (13 ∷ 10 ∷ text_bytes lines) come left all) (λ rest e'. lines_arrive_whole lines rest left (All-tail IsLine line lines are) e')
  where
    ended : IsLine line → (y : ℕ) (x : List ℕ) → come ≡ line ++ y ∷ x → 13 ∷ 10 ∷ text_bytes lines ≡ y ∷ (x ++ left)
        → ((rest : List ℕ) → text_bytes lines ≡ rest ++ left → Arrives lines rest left) → Arrives (line ∷ lines) come left
    ended is y [] came ends later =
        let cr : y ≡ 13 = cc in
        let lf : 10 ∷ text_bytes lines ≡ left = cc in
        record {
          there = line ∷ [];
          more = lines;
          split = refl;
          cuts = ap cuts_of came ∙ ap (λ b. cuts_of (line ++ b ∷ [])) cr ∙ first_end line [] is;
          whole = λ none. still_coming [] (text_bytes lines) 10 lines (lf ∙ none);
        }
    ended is y (z ∷ x) came ends later =
        let cr : y ≡ 13 = cc in
        let lf : z ≡ 10 = cc in
        let next = later x cc in
        record {
          there = line ∷ next.there;
          more = next.more;
          split = ap (λ ls. line ∷ ls) next.split;
          cuts = ap cuts_of came ∙ ap (λ b. cuts_of (line ++ b ∷ z ∷ x)) cr ∙ ap (λ b. cuts_of (line ++ 13 ∷ b ∷ x)) lf ∙ first_end line (10 ∷ x) is
              ∙ ap (λ cs. cut.Line line ∷ cs) (second_end x ∙ next.cuts);
          whole = next.whole;
        }

    of : IsLine line → Splits line (13 ∷ 10 ∷ text_bytes lines) come left → ((rest : List ℕ) → text_bytes lines ≡ rest ++ left → Arrives lines rest left) → Arrives (line ∷ lines) come left
    of is (inl l) later =
        let inner : IsInner come = (and_parts _ _ (sym (list_all-append is_inner come l.0) ∙ ap (list_all is_inner) (sym l.1) ∙ line_inner line is)).0 in
        record { there = []; more = line ∷ lines; split = refl; cuts = cuts_of-inner come inner; whole = λ none. still_coming l.0 (10 ∷ text_bytes lines) 13 (line ∷ lines) (sym l.2 ∙ none) }
    of is (inr r) later = ended is r.0 r.1 r.2 r.3 later
