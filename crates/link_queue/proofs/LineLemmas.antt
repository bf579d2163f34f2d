-- The first bytes of lines one after another, and what is left of them.
use Rattle.std.proofs.Common.{◌≡◌, ℕ, zero, suc, ◌+◌, ◌-◌, ◌*◌, ◌≤◌, ◌<◌, ◌⊎◌, inl, inr, List, [], ◌∷◌, ◌++◌, length, take, drop, min, refl, sym, ap, subst, ◌∙◌, arith, append_assoc, length-append, length-drop, append-nil}
use Rattle.std.proofs.Math.Seq.{drop-append-add, drop-nil}
use Rattle.std.proofs.lemmas.Bool.{cases_lt, le-leb, lt-leb}
use Rattle.std.proofs.lemmas.Bool.Decides.{nat_tests}
use Rattle.aprs_base.specs.Bytes.{IsLine}
use Rattle.std.proofs.lemmas.List.{drop-append-le, drop-drop}
use Rattle.std.proofs.lemmas.Grind.{flat_map-append}
use Rattle.link_queue.specs.Lines.{AreShort, IsWithinFirst, ended_line, queued, text_bytes}

take-append : (n : ℕ) (xs ys : List ℕ) → take n (xs ++ ys) ≡ take n xs ++ take (n - length xs) ys
take-append zero [] ys = refl
take-append (suc n) [] ys = let e : suc n - 0 ≡ suc n = omega arith in rw e refl
take-append zero (x ∷ xs) ys = let e : 0 - length (x ∷ xs) ≡ 0 = omega arith in rw e refl
take-append (suc n) (x ∷ xs) ys = let e : suc n - length (x ∷ xs) ≡ n - length xs = omega arith in rw e (ap (λ zs. x ∷ zs) (take-append n xs ys))

-- two parts written one after the other
pub put_twice : (room : ℕ) (before xs ys : List ℕ) → (before ++ take room xs) ++ take (room - min room (length xs)) ys ≡ before ++ take room (xs ++ ys)
put_twice room before xs ys =
    let e : room - min room (length xs) ≡ room - length xs = omega arith in
    rw e (append_assoc before (take room xs) (take (room - length xs) ys) ∙ ap (λ zs. before ++ zs) (sym (take-append room xs ys)))

-- what is the same from one place on is the same from any further one on
pub same_further : (n m : ℕ) (xs ys : List ℕ) → n ≤ m → drop n xs ≡ drop n ys → drop m xs ≡ drop m ys
same_further n m xs ys le same =
    let e : n + (m - n) ≡ m = omega arith in
    ap (λ k. drop k xs) (sym e) ∙ sym (drop-drop (m - n) n xs) ∙ ap (drop (m - n)) same ∙ drop-drop (m - n) n ys ∙ ap (λ k. drop k ys) e

-- a line with its end has two bytes more
pub ended_length : (line : List ℕ) → length (ended_line line) ≡ length line + 2
ended_length line = length-append line (13 ∷ 10 ∷ [])

pub line_short : (text : List ℕ) → IsLine text → length text ≤ 510
line_short text is = grind (arith, nat_tests, is)

pub text_short : (lines : List (List ℕ)) → AreShort lines → length (text_bytes lines) ≤ 512 * length lines
text_short [] all = omega arith
text_short (line ∷ lines) all =
    let more = text_short lines all.1 in
    let size : length (text_bytes (line ∷ lines)) ≡ length (ended_line line) + length (text_bytes lines) = length-append (ended_line line) (text_bytes lines) in
    let end = ended_length line in
    let first = all.0 in
    omega arith

pub all_append : (lines more : List (List ℕ)) → AreShort lines → AreShort more → AreShort (lines ++ more)
all_append [] more all short = short
all_append (x ∷ lines) more all short = (all.0, all_append lines more all.1 short)

pub all_drop : (n : ℕ) (lines : List (List ℕ)) → AreShort lines → AreShort (drop n lines)
all_drop zero lines all = all
all_drop (suc n) [] all = tt
all_drop (suc n) (x ∷ lines) all = all_drop n lines all.1

pub all_take : (n : ℕ) (lines : List (List ℕ)) → AreShort lines → AreShort (take n lines)
all_take zero lines all = tt
all_take (suc n) [] all = tt
all_take (suc n) (x ∷ lines) all = (all.0, all_take n lines all.1)

pub text_more : (lines more : List (List ℕ)) → length (text_bytes (lines ++ more)) ≡ length (text_bytes lines) + length (text_bytes more)
text_more lines more = ap length (flat_map-append ended_line lines more) ∙ length-append (text_bytes lines) (text_bytes more)

pub one_text : (line : List ℕ) → text_bytes (line ∷ []) ≡ ended_line line
one_text line = append-nil (ended_line line)

pub one_length : (line : List ℕ) → length (text_bytes (line ∷ [])) ≡ length line + 2
one_length line = ap length (one_text line) ∙ ended_length line

pub begun_anew : (lines : List (List ℕ)) → IsWithinFirst lines 0
begun_anew [] = tt
begun_anew (line ∷ lines) = omega arith

pub begun_more : (lines more : List (List ℕ)) (offset pending : ℕ) → offset + pending ≡ length (text_bytes lines) → IsWithinFirst lines offset → IsWithinFirst (lines ++ more) offset
begun_more [] more offset pending counted begun = let none : 0 ≡ offset = omega arith in subst (IsWithinFirst more) none (begun_anew more)
begun_more (x ∷ lines) more offset pending counted begun = begun

-- the first part that is left is begun at most
pub first_begun : (lines some more : List (List ℕ)) (skip : ℕ) → lines ≡ some ++ more → 1 ≤ length some → IsWithinFirst lines skip → skip < length (text_bytes some)
first_begun lines [] more skip is many begun = absurd (omega arith)
first_begun lines (line ∷ some) more skip is many begun =
    let part : skip < length line + 2 = subst (λ xs. IsWithinFirst xs skip) is begun in
    let sum = length-append (ended_line line) (text_bytes some) in
    let end = ended_length line in
    omega arith

-- what is left behind the first part
rest_of : (lines some more : List (List ℕ)) (skip : ℕ) → lines ≡ some ++ more → skip < length (text_bytes some) →
    drop skip (text_bytes lines) ≡ drop skip (text_bytes some) ++ text_bytes more
rest_of lines some more skip is lt =
    ap (λ xs. drop skip (text_bytes xs)) is
    ∙ ap (drop skip) (flat_map-append ended_line some more)
    ∙ drop-append-le skip (text_bytes some) (text_bytes more) (omega arith)

-- one part more is written
pub written_more : (lines some more : List (List ℕ)) (before : List ℕ) (skip room : ℕ) → lines ≡ some ++ more → skip < length (text_bytes some) →
    (before ++ take room (drop skip (text_bytes some))) ++ take (room - min room (length (text_bytes some) - skip)) (text_bytes more) ≡ before ++ take room (drop skip (text_bytes lines))
written_more lines some more before skip room is lt =
    ap (λ n. (before ++ take room (drop skip (text_bytes some))) ++ take (room - min room n) (text_bytes more)) (sym (length-drop skip (text_bytes some)))
    ∙ put_twice room before (drop skip (text_bytes some)) (text_bytes more)
    ∙ ap (λ bytes. before ++ take room bytes) (sym (rest_of lines some more skip is lt))

pub length_more : (lines some more : List (List ℕ)) (skip : ℕ) → lines ≡ some ++ more → skip < length (text_bytes some) →
    length (drop skip (text_bytes lines)) ≡ (length (text_bytes some) - skip) + length (text_bytes more)
length_more lines some more skip is lt =
    ap length (rest_of lines some more skip is lt) ∙ length-append (drop skip (text_bytes some)) (text_bytes more)
    ∙ ap (λ n. n + length (text_bytes more)) (length-drop skip (text_bytes some))

-- taking whole lines, and a part of one
pub queued_step : (lines more : List (List ℕ)) (line : List ℕ) (left : ℕ) → lines ≡ line ∷ more → length line + 2 ≤ left → queued lines left ≡ queued more (left - (length line + 2))
queued_step lines more line left is le = rw (is, le-leb (length line + 2) left le) refl

pub queued_stop : (lines more : List (List ℕ)) (line : List ℕ) (left : ℕ) → lines ≡ line ∷ more → left < length line + 2 → queued lines left ≡ record { lines = lines; offset = left }
queued_stop lines more line left is lt = rw (is, lt-leb (length line + 2) left lt) refl

pub queued_all : (lines : List (List ℕ)) (taken : ℕ) → taken ≡ length (text_bytes lines) → queued lines taken ≡ record { lines = []; offset = 0 }
queued_all [] taken is = rw is refl
queued_all (line ∷ lines) taken is =
    let sum = length-append (ended_line line) (text_bytes lines) in
    let end = ended_length line in
    queued_step (line ∷ lines) lines line taken refl (omega arith) ∙ queued_all lines (taken - (length line + 2)) (omega arith)

-- what is left after so many bytes
pub queued_rest : (lines : List (List ℕ)) (taken : ℕ) → drop (queued lines taken).offset (text_bytes (queued lines taken).lines) ≡ drop taken (text_bytes lines)
queued_rest [] taken = refl
queued_rest (line ∷ lines) taken =
    elim (cases_lt taken (length line + 2)) [
      | inl part ↦ let stop = queued_stop (line ∷ lines) lines line taken refl part in
          ap (λ q. drop q.offset (text_bytes q.lines)) stop
      | inr whole ↦ let step = queued_step (line ∷ lines) lines line taken refl whole in
          ap (λ q. drop q.offset (text_bytes q.lines)) step ∙ queued_rest lines (taken - (length line + 2)) ∙ sym (dropped line lines taken whole)
    ]
  where
    dropped : (line : List ℕ) (lines : List (List ℕ)) (taken : ℕ) → length line + 2 ≤ taken → drop taken (text_bytes (line ∷ lines)) ≡ drop (taken - (length line + 2)) (text_bytes lines)
    dropped line lines taken whole =
        let e : length (ended_line line) + (taken - (length line + 2)) ≡ taken = let size = ended_length line in omega arith in
        subst (λ n. drop n (text_bytes (line ∷ lines)) ≡ drop (taken - (length line + 2)) (text_bytes lines)) e
        (drop-append-add (ended_line line) (text_bytes lines) (taken - (length line + 2)))

pub queued_begun : (lines : List (List ℕ)) (taken : ℕ) → IsWithinFirst (queued lines taken).lines (queued lines taken).offset
queued_begun [] taken = tt
queued_begun (line ∷ lines) taken =
    elim (cases_lt taken (length line + 2)) [
      | inl part ↦ subst (λ q. IsWithinFirst q.lines q.offset) (sym (queued_stop (line ∷ lines) lines line taken refl part)) part
      | inr whole ↦ subst (λ q. IsWithinFirst q.lines q.offset) (sym (queued_step (line ∷ lines) lines line taken refl whole))
          (queued_begun lines (taken - (length line + 2)))
    ]

pub queued_counted : (lines : List (List ℕ)) (taken pending : ℕ) → taken + pending ≡ length (text_bytes lines) →
    (queued lines taken).offset + pending ≡ length (text_bytes (queued lines taken).lines)
queued_counted [] taken pending counted = counted
queued_counted (line ∷ lines) taken pending counted =
    let sum = length-append (ended_line line) (text_bytes lines) in
    let end = ended_length line in
    elim (cases_lt taken (length line + 2)) [
      | inl part ↦ subst (λ q. q.offset + pending ≡ length (text_bytes q.lines)) (sym (queued_stop (line ∷ lines) lines line taken refl part)) counted
      | inr whole ↦ subst (λ q. q.offset + pending ≡ length (text_bytes q.lines)) (sym (queued_step (line ∷ lines) lines line taken refl whole))
          (queued_counted lines (taken - (length line + 2)) pending (omega arith))
    ]

pub queued_fewer : (lines : List (List ℕ)) (taken : ℕ) → length (queued lines taken).lines ≤ length lines
queued_fewer [] taken = omega arith
queued_fewer (line ∷ lines) taken =
    elim (cases_lt taken (length line + 2)) [
      | inl part ↦ subst (λ q. length q.lines ≤ length (line ∷ lines)) (sym (queued_stop (line ∷ lines) lines line taken refl part)) (omega arith)
      | inr whole ↦ let more = queued_fewer lines (taken - (length line + 2)) in
          subst (λ q. length q.lines ≤ length (line ∷ lines)) (sym (queued_step (line ∷ lines) lines line taken refl whole)) (omega arith)
    ]

pub queued_short : (lines : List (List ℕ)) (taken : ℕ) → AreShort lines → AreShort (queued lines taken).lines
queued_short [] taken short = tt
queued_short (line ∷ lines) taken short =
    elim (cases_lt taken (length line + 2)) [
      | inl part ↦ subst (λ q. AreShort q.lines) (sym (queued_stop (line ∷ lines) lines line taken refl part)) short
      | inr whole ↦ subst (λ q. AreShort q.lines) (sym (queued_step (line ∷ lines) lines line taken refl whole)) (queued_short lines (taken - (length line + 2)) short.1)
    ]

-- lines in two parts, of which the first is begun
pub two_parts : (front back : List (List ℕ)) (offset skip : ℕ) → ((length front ≡ 0) × (skip ≡ offset)) ⊎ ((1 ≤ length front) × (skip ≡ 0)) →
    IsWithinFirst (front ++ back) offset → drop offset (text_bytes front) ++ drop skip (text_bytes back) ≡ drop offset (text_bytes (front ++ back))
two_parts [] back offset skip (inl e) begun = rw (drop-nil {A = ℕ} offset, e.1) refl
two_parts [] back offset skip (inr e) begun = absurd (omega arith)
two_parts (x ∷ front) back offset skip (inl e) begun = absurd (omega arith)
two_parts (x ∷ front) back offset skip (inr e) begun =
    let size = ended_length x in
    let more = length-append (ended_line x) (text_bytes front) in
    ap (λ n. drop offset (text_bytes (x ∷ front)) ++ drop n (text_bytes back)) e.1
    ∙ sym (drop-append-le offset (text_bytes (x ∷ front)) (text_bytes back) (omega arith))
    ∙ ap (drop offset) (sym (flat_map-append ended_line (x ∷ front) back))

-- a whole part is taken, or some of one
pub queued_whole : (some more : List (List ℕ)) (taken : ℕ) → length (text_bytes some) ≤ taken → queued (some ++ more) taken ≡ queued more (taken - length (text_bytes some))
queued_whole [] more taken le = let same : taken - 0 ≡ taken = omega arith in rw same refl
queued_whole (line ∷ some) more taken le =
    let sum = length-append (ended_line line) (text_bytes some) in
    let end = ended_length line in
    let less : taken - (length line + 2) - length (text_bytes some) ≡ taken - length (text_bytes (line ∷ some)) = omega arith in
    queued_step (line ∷ (some ++ more)) (some ++ more) line taken refl (omega arith)
    ∙ queued_whole some more (taken - (length line + 2)) (omega arith)
    ∙ ap (queued more) less

pub queued_part : (some more rest : List (List ℕ)) (taken offset : ℕ) → taken < length (text_bytes some) → queued some taken ≡ record { lines = rest; offset = offset } →
    queued (some ++ more) taken ≡ record { lines = rest ++ more; offset = offset }
queued_part some more rest taken offset lt is = cut some taken lt ∙ ap (λ q. record { lines = q.lines ++ more; offset = q.offset }) is
  where
    cut : (some : List (List ℕ)) (taken : ℕ) → taken < length (text_bytes some) → queued (some ++ more) taken ≡ record { lines = (queued some taken).lines ++ more; offset = (queued some taken).offset }
    cut [] taken lt = absurd (omega arith)
    cut (line ∷ some) taken lt =
        let sum = length-append (ended_line line) (text_bytes some) in
        let end = ended_length line in
        elim (cases_lt taken (length line + 2)) [
          | inl part ↦ queued_stop (line ∷ (some ++ more)) (some ++ more) line taken refl part ∙ ap (λ q. record { lines = q.lines ++ more; offset = q.offset }) (sym (queued_stop (line ∷ some) some line taken refl part))
          | inr whole ↦ queued_step (line ∷ (some ++ more)) (some ++ more) line taken refl whole
              ∙ cut some (taken - (length line + 2)) (omega arith)
              ∙ ap (λ q. record { lines = q.lines ++ more; offset = q.offset }) (sym (queued_step (line ∷ some) some line taken refl whole))
        ]

-- so many lines are wholly taken, and the next one isn't
pub queued_at : (lines : List (List ℕ)) (k taken : ℕ) → k < length lines → length (text_bytes (take k lines)) ≤ taken → taken < length (text_bytes (take (k + 1) lines)) →
    queued lines taken ≡ record { lines = drop k lines; offset = taken - length (text_bytes (take k lines)) }
queued_at [] k taken within whole part = absurd (omega arith)
queued_at (line ∷ lines) zero taken within whole part =
    let size = one_length line in
    let whole : taken ≡ taken - 0 = omega arith in
    queued_stop (line ∷ lines) lines line taken refl (omega arith) ∙ ap (λ (n : ℕ). record { lines = line ∷ lines; offset = n }) whole
queued_at (line ∷ lines) (suc k) taken within whole part =
    let end = ended_length line in
    let before = length-append (ended_line line) (text_bytes (take k lines)) in
    let after = length-append (ended_line line) (text_bytes (take (k + 1) lines)) in
    let next : suc k + 1 ≡ suc (k + 1) = omega arith in
    let more = subst (λ n. taken < length (text_bytes (take n (line ∷ lines)))) next part in
    let less : taken - (length line + 2) - length (text_bytes (take k lines)) ≡ taken - length (text_bytes (take (suc k) (line ∷ lines))) = omega arith in
    queued_step (line ∷ lines) lines line taken refl (omega arith)
    ∙ queued_at lines k (taken - (length line + 2)) (omega arith) (omega arith) (omega arith)
    ∙ ap (λ (n : ℕ). record { lines = drop k lines; offset = n }) less
