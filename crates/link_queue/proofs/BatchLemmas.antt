-- The text of a batch, and where its lines are in it.
use Rattle.std.proofs.Common.{◌≡◌, ℕ, suc, refl, ◌+◌, ◌-◌, ◌≤◌, ◌<◌, List, [], ◌∷◌, ◌++◌, length, get_or, take, drop, sym, ap, subst, ◌∙◌, arith, append_assoc, length-append, below_more}
use Rattle.std.proofs.Math.ListN.{get_or-append}
use Rattle.std.proofs.Math.Seq.{drop-append_seam, get_or-append_seam, take-add, take-append_seam}
use Rattle.std.proofs.lemmas.Grind.{flat_map-append}
use Rattle.std.proofs.lemmas.List.{drop-append-le, drop-drop, drop-take, length-drop, length-take, take-append-drop, take-append-le, take-take, take_all}
use Rattle.link_queue.specs.Batches.{IsBatch, lines_at}
use Rattle.std.specs.List.{slice_range}
use Rattle.link_queue.specs.Lines.{ended_line, queued, text_bytes}
use Rattle.link_queue.proofs.LineLemmas.{all_append, ended_length, one_text, queued_at, text_more}

-- lines up to a place, as those up to an earlier one and those between
parts : (lines : List (List ℕ)) (from to : ℕ) → from ≤ to → take to lines ≡ take from lines ++ take (to - from) (drop from lines)
parts lines from to le = let same : from + (to - from) ≡ to = omega arith in ap (λ n. take n lines) (sym same) ∙ take-add from (to - from) lines

pub size_between : (lines : List (List ℕ)) (from to : ℕ) → from ≤ to →
    length (text_bytes (take to lines)) ≡ length (text_bytes (take from lines)) + length (text_bytes (take (to - from) (drop from lines)))
size_between lines from to le = ap (λ xs. length (text_bytes xs)) (parts lines from to le) ∙ text_more (take from lines) (take (to - from) (drop from lines))

pub size_within : (lines : List (List ℕ)) (place : ℕ) → length (text_bytes (take place lines)) ≤ length (text_bytes lines)
size_within lines place =
    let sum = ap (λ xs. length (text_bytes xs)) (sym (take-append-drop place lines)) ∙ text_more (take place lines) (drop place lines) in
    omega arith

pub text_between : (lines : List (List ℕ)) (bytes : List ℕ) (from to start end : ℕ) → from ≤ to → bytes ≡ text_bytes lines →
    start ≡ length (text_bytes (take from lines)) → end ≡ length (text_bytes (take to lines)) → take (end - start) (drop start bytes) ≡ text_bytes (take (to - from) (drop from lines))
text_between lines bytes from to start end le is starts ends =
    let before = text_bytes (take from lines) in
    let between = text_bytes (take (to - from) (drop from lines)) in
    let after = text_bytes (drop to lines) in
    let whole : bytes ≡ before ++ (between ++ after) =
    is ∙ ap text_bytes (sym (take-append-drop to lines)) ∙ flat_map-append ended_line (take to lines) (drop to lines)
    ∙ ap (λ xs. text_bytes xs ++ after) (parts lines from to le)
    ∙ ap (λ xs. xs ++ after) (flat_map-append ended_line (take from lines) (take (to - from) (drop from lines)))
    ∙ append_assoc before between after in
    let sum = size_between lines from to le in
    let size : end - start ≡ length between = omega arith in
    rw (size, starts, whole, drop-append_seam before (between ++ after)) (take-append_seam between after)

pub run_length : {X : Type 0} (lines : List X) (from to : ℕ) → to ≤ length lines → length (take (to - from) (drop from lines)) ≡ to - from
run_length lines from to within =
    let rest = length-drop from lines in
    let first = length-take (to - from) (drop from lines) in
    omega arith

-- the first of these lines that isn't wholly taken
pub left_between : (lines : List (List ℕ)) (from low high to taken size : ℕ) → from ≤ low → low < to → to ≤ length lines → high ≡ low + 1 →
    size ≡ length (text_bytes (take (low - from) (drop from lines))) → size ≤ taken → taken < length (text_bytes (take (high - from) (drop from lines))) →
    queued (take (to - from) (drop from lines)) taken ≡ record { lines = take (to - low) (drop low lines); offset = taken - size }
left_between lines from low high to taken size le lt within next is whole part =
    let run = take (to - from) (drop from lines) in
    let k = low - from in
    let many = run_length lines from to within in
    let more : k + 1 ≡ high - from = omega arith in
    let before : take k run ≡ take k (drop from lines) = take-take k (to - from) (drop from lines) (omega arith) in
    let after : take (k + 1) run ≡ take (high - from) (drop from lines) = take-take (k + 1) (to - from) (drop from lines) (omega arith) ∙ ap (λ n. take n (drop from lines)) more in
    let split : k + (to - low) ≡ to - from = omega arith in
    let place : from + k ≡ low = omega arith in
    let rest : drop k run ≡ take (to - low) (drop low lines) =
    ap (λ n. drop k (take n (drop from lines))) (sym split) ∙ drop-take k (to - low) (drop from lines)
    ∙ ap (take (to - low)) (drop-drop k from lines ∙ ap (λ n. drop n lines) place) in
    let same : length (text_bytes (take k run)) ≡ size = ap (λ xs. length (text_bytes xs)) before ∙ sym is in
    let left = queued_at run k taken (omega arith) (omega arith) (subst (λ xs. taken < length (text_bytes xs)) (sym after) part) in
    rw (rest, same) at left

-- a line more
line_added : (lines : List (List ℕ)) (bytes ends : List ℕ) → IsBatch lines bytes ends → (line text places : List ℕ) → length line ≤ 510 → length lines < 1000 →
    text ≡ bytes ++ ended_line line → places ≡ ends ++ length text ∷ [] → IsBatch (lines ++ line ∷ []) text places
line_added lines bytes ends is line text places small room added ended =
    let all = lines ++ line ∷ [] in
    let many : length all ≡ length lines + 1 = length-append lines (line ∷ []) in
    let whole : text ≡ text_bytes all =
    added ∙ ap (λ xs. xs ++ ended_line line) is.text ∙ ap (λ xs. text_bytes lines ++ xs) (sym (one_text line)) ∙ sym (flat_map-append ended_line lines (line ∷ [])) in
    let counted = is.counted in
    let more = length-append ends (length text ∷ []) in
    record {
      text = whole;
      ended = λ k lt. below_more (λ n. get_or places n 0 ≡ length (text_bytes (take (n + 1) all))) (length lines)
          (λ n h. ap (λ xs. get_or xs n 0) ended ∙ get_or-append ends (length text ∷ []) 0 n (omega arith) ∙ is.ended n h
          ∙ ap (λ xs. length (text_bytes xs)) (sym (take-append-le (n + 1) lines (line ∷ []) (omega arith))))
          (ap (λ xs. get_or xs (length lines) 0) ended ∙ ap (λ n. get_or (ends ++ length text ∷ []) n 0) (sym is.counted) ∙ get_or-append_seam ends (length text) [] 0
          ∙ ap length whole ∙ ap (λ xs. length (text_bytes xs)) (sym (take_all (length lines + 1) all (omega arith))))
          k (omega arith);
      counted = ap length ended ∙ more ∙ ap (λ n. n + 1) is.counted ∙ sym many;
      short = all_append lines (line ∷ []) is.short (small, tt);
      few = omega arith;
    }

-- where the last line ends
abbrev last : ℕ → List ℕ → ℕ
last start [] = start
last start (end ∷ ends) = last end ends

last_is : (start end : ℕ) (ends : List ℕ) → last start (end ∷ ends) ≡ get_or (end ∷ ends) (length ends) 0
last_is start end [] = refl
last_is start end (next ∷ ends) = last_is end next ends

ends_last : (lines : List (List ℕ)) (bytes ends : List ℕ) → IsBatch lines bytes ends → last 0 ends ≡ length bytes
ends_last [] bytes [] is = ap length (sym is.text)
ends_last (x ∷ lines) bytes [] is = let counted = is.counted in absurd (omega arith)
ends_last lines bytes (end ∷ ends) is =
    let counted = is.counted in
    last_is 0 end ends ∙ is.ended (length ends) (omega arith) ∙ ap (λ xs. length (text_bytes xs)) (take_all (length ends + 1) lines (omega arith)) ∙ ap length (sym is.text)

end_within : (lines : List (List ℕ)) (bytes ends : List ℕ) → IsBatch lines bytes ends → (k : ℕ) → k < length ends → get_or ends k 0 ≤ length bytes
end_within lines bytes ends is k lt =
    let counted = is.counted in
    let end = is.ended k (omega arith) in
    let within = size_within lines (k + 1) in
    omega (arith, ap length is.text)

-- the lines of a text with one more behind it
lines_more : (start : ℕ) (ends bytes line : List ℕ) → start ≤ length bytes → ((k : ℕ) → k < length ends → get_or ends k 0 ≤ length bytes) → last start ends ≡ length bytes →
    lines_at start (ends ++ length (bytes ++ ended_line line) ∷ []) (bytes ++ ended_line line) ≡ lines_at start ends bytes ++ line ∷ []
lines_more start [] bytes line le within is =
    let sum = length-append bytes (ended_line line) in
    let end = ended_length line in
    let size : length (bytes ++ ended_line line) - 2 - start ≡ length line = omega arith in
    ap (λ xs. xs ∷ []) (rw (size, is, drop-append_seam bytes (ended_line line)) (take-append_seam line (13 ∷ 10 ∷ [])))
lines_more start (end ∷ ends) bytes line le within is =
    let before = within 0 (omega arith) in
    let rest = length-drop start bytes in
    let first : slice_range (bytes ++ ended_line line) start (end - 2) ≡ slice_range bytes start (end - 2) =
    ap (take (end - 2 - start)) (drop-append-le start bytes (ended_line line) le) ∙ take-append-le (end - 2 - start) (drop start bytes) (ended_line line) (omega arith) in
    rw (first, lines_more end ends bytes line before (λ k lt. within (suc k) (omega arith)) is) refl

pub batch_more : (bytes ends line text places : List ℕ) → IsBatch (lines_at 0 ends bytes) bytes ends → length line ≤ 510 → length ends < 1000 → text ≡ bytes ++ ended_line line →
    places ≡ ends ++ length text ∷ [] → (lines_at 0 places text ≡ lines_at 0 ends bytes ++ line ∷ []) × IsBatch (lines_at 0 places text) text places
batch_more bytes ends line text places is small room added ended =
    let counted = is.counted in
    let lines : lines_at 0 places text ≡ lines_at 0 ends bytes ++ line ∷ [] =
    rw (ended, added) (lines_more 0 ends bytes line (omega arith) (end_within _ bytes ends is) (ends_last _ bytes ends is)) in
    (lines, rw lines (line_added (lines_at 0 ends bytes) bytes ends is line text places small (omega arith) added ended))
