-- The cutting of bytes into lines, one line end after another.
use Rattle.std.proofs.Common.{◌≡◌, ℕ, ◌<◌, ◌+◌, true, false, List, [], ◌∷◌, ◌++◌, length, take, drop, get_or, refl, sym, ap, arith, zero, suc, ⊎_elim, subst, ◌∙◌, append-nil, append_assoc, Option, Some, None, take_all, le_refl}
use Rattle.std.specs.List.{position_or_len, before_first, after_first, onto_first, list_all, cons_option, filter_map}
use Rattle.std.specs.Prelude.{◌≤◌, Bool, nat_lt, if◌then◌else◌}
use Rattle.std.proofs.lemmas.Bool.{false_from_ne_true, cases_Bool, false≢true, true≢false, le-ltb, lt-ltb, ltb-true}
use Rattle.std.proofs.lemmas.List.{length-append}
use Rattle.aprs_base.specs.Held.{Held, held_of}
use Rattle.aprs_base.specs.declared.cutting.Cut.TheVariants as cut
use Rattle.std.proofs.lemmas.List.Folds.{list_all-append}
use Rattle.std.proofs.lemmas.List.Elements.{filter_map-append}
use Rattle.std.proofs.lemmas.List.Splits.{slice_split_first, slice_split-cons_yes, slice_split-cons_no}
use Rattle.memchr.specs.Find.{Nowhere, Passes}
use Rattle.aprs_base.specs.declared.cutting.Cut.{Cut}
use Rattle.aprs_base.specs.Bytes.{is_line_end, is_inner, IsInner}
use Rattle.aprs_base.specs.Cuts.{pieces_of, all_but_last, last_of, cut_of, cuts_of, rest_of, cuts_by}

pub inner_head : (x : ℕ) (xs : List ℕ) → IsInner (x ∷ xs) → is_line_end x ≡ false
inner_head x xs h = grind arith

pub inner_tail : (x : ℕ) (xs : List ℕ) → IsInner (x ∷ xs) → IsInner xs
inner_tail x xs h = grind arith

inner_cons : (x : ℕ) (xs : List ℕ) → is_line_end x ≡ false → IsInner xs → IsInner (x ∷ xs)
inner_cons x xs goes inner = rw (goes, inner) refl

-- a text without a line end is one piece
pub pieces_of-inner : (xs : List ℕ) → IsInner xs → pieces_of xs ≡ xs ∷ []
pieces_of-inner [] h = refl
pieces_of-inner (x ∷ xs) h = rw (inner_head x xs h, pieces_of-inner xs (inner_tail x xs h)) refl

-- a line that goes on up to the first line end
pub pieces_of-line : (line bytes : List ℕ) → IsInner line → position_or_len is_line_end bytes < length bytes
    → pieces_of (line ++ bytes) ≡ (line ++ before_first is_line_end bytes) ∷ pieces_of (after_first is_line_end bytes)
pieces_of-line [] bytes h lt = slice_split_first is_line_end bytes 0 lt
pieces_of-line (x ∷ line) bytes h lt = rw (inner_head x line h, pieces_of-line line bytes (inner_tail x line h) lt) refl

-- the bytes before a place have no line end where no place before it has one
pub inner_below : (bytes : List ℕ) (n : ℕ) → ((k : ℕ) → k < n → is_line_end (get_or bytes k 0) ≡ true → ⊥) → IsInner (take n bytes)
inner_below [] zero none = refl
inner_below [] (suc n) none = refl
inner_below (x ∷ bytes) zero none = refl
inner_below (x ∷ bytes) (suc n) none =
    let here : is_line_end x ≡ false = false_from_ne_true _ (none 0 (omega arith)) in
    rw here (inner_below bytes n (λ k lt passes. none (suc k) (omega arith) passes))

-- there is always a piece
some_piece : (bytes : List ℕ) → (first : List ℕ) × (more : List (List ℕ)) × (pieces_of bytes ≡ first ∷ more)
some_piece [] = ([], [], refl)
some_piece (x ∷ bytes) =
    let here = some_piece bytes in
    ⊎_elim
    (λ ends. ([], pieces_of bytes, slice_split-cons_yes is_line_end x bytes ends))
    (λ goes. (x ∷ here.0, here.1, slice_split-cons_no is_line_end x bytes goes ∙ ap (onto_first x) here.2))
    (cases_Bool (is_line_end x))

all_but_last-cons : (line bytes : List ℕ) → all_but_last (line ∷ pieces_of bytes) ≡ line ∷ all_but_last (pieces_of bytes)
all_but_last-cons line bytes = let here = some_piece bytes in rw here.2 refl

last_of-cons : (line bytes : List ℕ) → last_of (line ∷ pieces_of bytes) ≡ last_of (pieces_of bytes)
last_of-cons line bytes = let here = some_piece bytes in rw here.2 refl

-- where a line ends its cut comes first, then the cuts of what follows
pub cuts_of-first : (line bytes : List ℕ) → IsInner line → position_or_len is_line_end bytes < length bytes
    → cuts_of (line ++ bytes) ≡ cons_option (cut_of (line ++ before_first is_line_end bytes)) (cuts_of (after_first is_line_end bytes))
cuts_of-first line bytes h lt =
    rw (pieces_of-line line bytes h lt, all_but_last-cons (line ++ before_first is_line_end bytes) (after_first is_line_end bytes)) refl

pub rest_of-first : (line bytes : List ℕ) → IsInner line → position_or_len is_line_end bytes < length bytes
    → rest_of (line ++ bytes) ≡ rest_of (after_first is_line_end bytes)
rest_of-first line bytes h lt =
    rw (pieces_of-line line bytes h lt, last_of-cons (line ++ before_first is_line_end bytes) (after_first is_line_end bytes)) refl

inner_onto_first : (x : ℕ) (pieces : List (List ℕ)) → is_line_end x ≡ false → IsInner (last_of pieces) → IsInner (last_of (onto_first x pieces))
inner_onto_first x [] goes h = rw goes refl
inner_onto_first x (a ∷ []) goes h = rw goes h
inner_onto_first x (a ∷ b ∷ more) goes h = h

-- the rest has no line end
pub inner_rest : (bytes : List ℕ) → IsInner (rest_of bytes)
inner_rest [] = refl
inner_rest (x ∷ bytes) =
    ⊎_elim
    (λ ends. subst IsInner (sym (ap last_of (slice_split-cons_yes is_line_end x bytes ends) ∙ last_of-cons [] bytes)) (inner_rest bytes))
    (λ goes. subst IsInner (sym (ap last_of (slice_split-cons_no is_line_end x bytes goes))) (inner_onto_first x (pieces_of bytes) goes (inner_rest bytes)))
    (cases_Bool (is_line_end x))

pub inner_append : (xs ys : List ℕ) → IsInner xs → IsInner ys → IsInner (xs ++ ys)
inner_append xs ys p q = rw (list_all-append is_inner xs ys, p, q) refl

put_one : (out more : List Cut) (one : Option Cut) → (out ++ cons_option one []) ++ more ≡ out ++ cons_option one more
put_one out more None = ap (λ xs. xs ++ more) (append-nil out)
put_one out more (Some cut) = append_assoc out (cut ∷ []) more

-- the cuts before and after one line's end
pub cut_step : (line bytes : List ℕ) (place : ℕ) (out new : List Cut) → IsInner line → place ≡ position_or_len is_line_end bytes → place < length bytes
    → new ≡ out ++ cons_option (cut_of (line ++ take place bytes)) [] → out ++ cuts_of (line ++ bytes) ≡ new ++ cuts_of (drop (place + 1) bytes)
cut_step line bytes place out new inner is lt =
    let P : ℕ → Type 0 = λ n. new ≡ out ++ cons_option (cut_of (line ++ take n bytes)) [] → out ++ cuts_of (line ++ bytes) ≡ new ++ cuts_of (drop (n + 1) bytes) in
    subst P (sym is)
    (λ put. ap (λ cuts. out ++ cuts) (cuts_of-first line bytes inner (omega arith)) ∙ sym (put_one out (cuts_of (after_first is_line_end bytes)) (cut_of (line ++ before_first is_line_end bytes)))
    ∙ ap (λ cuts. cuts ++ cuts_of (after_first is_line_end bytes)) (sym put))

pub rest_step : (line bytes : List ℕ) (place : ℕ) → IsInner line → place ≡ position_or_len is_line_end bytes → place < length bytes
    → rest_of (line ++ bytes) ≡ rest_of (drop (place + 1) bytes)
rest_step line bytes place inner is lt =
    let P : ℕ → Type 0 = λ n. rest_of (line ++ bytes) ≡ rest_of (drop (n + 1) bytes) in
    subst P (sym is) (rest_of-first line bytes inner (omega arith))

-- a text without a line end cuts nothing, and is its own rest
pub cuts_of-inner : (xs : List ℕ) → IsInner xs → cuts_of xs ≡ []
cuts_of-inner xs h = ap (λ pieces. filter_map cut_of (all_but_last pieces)) (pieces_of-inner xs h)

pub rest_of-inner : (xs : List ℕ) → IsInner xs → rest_of xs ≡ xs
rest_of-inner xs h = ap last_of (pieces_of-inner xs h)

-- where a search finds no line end there is none
pub inner_all : (bytes : List ℕ) → Nowhere (Passes is_line_end bytes) 0 (length bytes) → IsInner bytes
inner_all bytes none =
    subst IsInner (take_all (length bytes) bytes (le_refl (length bytes))) (inner_below bytes (length bytes) (λ k lt passes. none k (omega arith) lt passes))

-- bytes with a line end have two pieces or more
two_pieces : (bytes : List ℕ) → list_all is_inner bytes ≡ false → (first second : List ℕ) × (more : List (List ℕ)) × (pieces_of bytes ≡ first ∷ second ∷ more)
two_pieces [] h = absurd (false≢true (sym h))
two_pieces (x ∷ bytes) h =
    ⊎_elim
    (λ ends. let later = some_piece bytes in ([], later.0, later.1, slice_split-cons_yes is_line_end x bytes ends ∙ ap (λ pieces. [] ∷ pieces) later.2))
    (λ goes.
    let later = two_pieces bytes (rw goes at h) in
    (x ∷ later.0, later.1, later.2, slice_split-cons_no is_line_end x bytes goes ∙ ap (onto_first x) later.3))
    (cases_Bool (is_line_end x))

-- the pieces that have ended
abbrev ended_of : List ℕ → List (List ℕ)
ended_of bytes = all_but_last (pieces_of bytes)

-- a byte that is no line end goes to the front of the first ended piece
ended_with : ℕ → List (List ℕ) → List (List ℕ)
ended_with x [] = []
ended_with x (first ∷ more) = (x ∷ first) ∷ more

ended_onto_first : (x : ℕ) (pieces : List (List ℕ)) → all_but_last (onto_first x pieces) ≡ ended_with x (all_but_last pieces)
unfolding ended_with
ended_onto_first x [] = refl
ended_onto_first x (a ∷ []) = refl
ended_onto_first x (a ∷ b ∷ more) = refl

ended_of-goes : (x : ℕ) (bytes : List ℕ) → is_line_end x ≡ false → ended_of (x ∷ bytes) ≡ ended_with x (ended_of bytes)
ended_of-goes x bytes goes = ap all_but_last (slice_split-cons_no is_line_end x bytes goes) ∙ ended_onto_first x (pieces_of bytes)

ended_of-ends : (x : ℕ) (bytes : List ℕ) → is_line_end x ≡ true → ended_of (x ∷ bytes) ≡ [] ∷ ended_of bytes
ended_of-ends x bytes ends = ap all_but_last (slice_split-cons_yes is_line_end x bytes ends) ∙ all_but_last-cons [] bytes

rest_of-ends : (x : ℕ) (bytes : List ℕ) → is_line_end x ≡ true → rest_of (x ∷ bytes) ≡ rest_of bytes
rest_of-ends x bytes ends = ap last_of (slice_split-cons_yes is_line_end x bytes ends) ∙ last_of-cons [] bytes

-- where a line end follows, a byte before it is not of the rest
rest_of-goes : (x : ℕ) (bytes : List ℕ) → is_line_end x ≡ false → list_all is_inner bytes ≡ false → rest_of (x ∷ bytes) ≡ rest_of bytes
rest_of-goes x bytes goes h =
    let two = two_pieces bytes h in
    ap last_of (slice_split-cons_no is_line_end x bytes goes ∙ ap (onto_first x) two.3) ∙ sym (ap last_of two.3)

has_end-append : (before piece : List ℕ) → list_all is_inner before ≡ false → list_all is_inner (before ++ piece) ≡ false
has_end-append before piece h = rw (list_all-append is_inner before piece, h) refl

ended_with-append : (x : ℕ) (before : List ℕ) (more : List (List ℕ)) → list_all is_inner before ≡ false → ended_with x (ended_of before ++ more) ≡ ended_with x (ended_of before) ++ more
unfolding ended_with
ended_with-append x before more h = let two = two_pieces before h in rw two.3 refl

pub record GoesOn (before piece : List ℕ) : Type 0 where
  pub rest : rest_of (before ++ piece) ≡ rest_of (rest_of before ++ piece)
  pub ended : all_but_last (pieces_of (before ++ piece)) ≡ all_but_last (pieces_of before) ++ all_but_last (pieces_of (rest_of before ++ piece))

goes_on-inner : (before piece : List ℕ) → IsInner before → GoesOn before piece
goes_on-inner before piece inner = record {
  rest = ap (λ xs. rest_of (xs ++ piece)) (sym (rest_of-inner before inner));
  ended = ap (λ xs. ended_of (xs ++ piece)) (sym (rest_of-inner before inner)) ∙ sym (ap (λ pieces. all_but_last pieces ++ ended_of (rest_of before ++ piece)) (pieces_of-inner before inner));
}

-- cutting goes on where it stopped, from the rest that was left
pub goes_on : (before piece : List ℕ) → GoesOn before piece
goes_on [] piece = goes_on-inner [] piece refl
goes_on (x ∷ before) piece =
    let later = goes_on before piece in
    ⊎_elim
    (λ ends. record {
      rest = rest_of-ends x (before ++ piece) ends ∙ later.rest ∙ ap (λ xs. rest_of (xs ++ piece)) (sym (rest_of-ends x before ends));
      ended = ended_of-ends x (before ++ piece) ends ∙ ap (λ pieces. [] ∷ pieces) later.ended
          ∙ ap (λ pieces. pieces ++ ended_of (rest_of before ++ piece)) (sym (ended_of-ends x before ends))
          ∙ ap (λ xs. ended_of (x ∷ before) ++ ended_of (xs ++ piece)) (sym (rest_of-ends x before ends));
    })
    (λ goes. ⊎_elim
    (λ inner. goes_on-inner (x ∷ before) piece (inner_cons x before goes inner))
    (λ ended. let kept = rest_of-goes x before goes ended in record {
      rest = rest_of-goes x (before ++ piece) goes (has_end-append before piece ended) ∙ later.rest ∙ ap (λ xs. rest_of (xs ++ piece)) (sym kept);
      ended = ended_of-goes x (before ++ piece) goes ∙ ap (ended_with x) later.ended ∙ ended_with-append x before (ended_of (rest_of before ++ piece)) ended
          ∙ ap (λ pieces. pieces ++ ended_of (rest_of before ++ piece)) (sym (ended_of-goes x before goes))
          ∙ ap (λ xs. ended_of (x ∷ before) ++ ended_of (xs ++ piece)) (sym kept);
    })
    (cases_Bool (list_all is_inner before)))
    (cases_Bool (is_line_end x))

pub rest_of-append : (before piece : List ℕ) → rest_of (before ++ piece) ≡ rest_of (rest_of before ++ piece)
rest_of-append before piece = (goes_on before piece).rest

-- all cuts together are those of the whole stream
pub cuts_of-append : (before piece : List ℕ) → cuts_of (before ++ piece) ≡ cuts_of before ++ cuts_by before piece
cuts_of-append before piece =
    ap (filter_map cut_of) (goes_on before piece).ended ∙ filter_map-append cut_of (all_but_last (pieces_of before)) (all_but_last (pieces_of (rest_of before ++ piece)))

-- what a line's end cuts off, by the line's length
pub cut_long : (text : List ℕ) → 510 < length text → cut_of text ≡ Some cut.Long
cut_long [] long = absurd (omega (arith, long))
cut_long (b ∷ more) long = rw (lt-ltb 510 (length (b ∷ more)) long) refl

pub cut_short : (text : List ℕ) → 0 < length text → length text ≤ 510 → cut_of text ≡ Some (cut.Line text)
cut_short [] some short = absurd (omega (arith, some))
cut_short (b ∷ more) some short = rw (le-ltb (510) (length (b ∷ more)) short) refl

-- a line of which only that it is long is kept goes on to be long
long_line : (line : List ℕ) (held : Held) → held ≡ held_of line → held.long ≡ true → 510 < length line
long_line line held is long = by (nat_lt 510 (length line)) refl is
  where
    by : (b : Bool) → nat_lt 510 (length line) ≡ b → held ≡ (if b then record { text = []; long = true } else record { text = line; long = false }) → 510 < length line
    by true over same = ltb-true 510 (length line) over
    by false over same = absurd (true≢false (sym long ∙ ap (λ (h : Held). h.long) same))

pub long_cut : (line bytes : List ℕ) (held : Held) → held ≡ held_of line → held.long ≡ true → cut_of (line ++ bytes) ≡ Some cut.Long
long_cut line bytes held is long = cut_long (line ++ bytes) (omega (arith, length-append line bytes, long_line line held is long))
