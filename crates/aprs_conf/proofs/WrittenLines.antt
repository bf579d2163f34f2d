-- Lines that are written read as themselves; and no word or line that is read holds a line feed.
use Rattle.std.proofs.Common.{◌≡◌, ℕ, ◌-◌, ◌==◌, Bool, true, false, cond, List, [], ◌∷◌, ◌++◌, Some, None, take, drop, get_or, length, All, ◌&&◌, refl, sym, ap, subst, ◌∙◌, arith, append_assoc, append-nil}
use Rattle.std.specs.Prelude.{not, slice_index}
use Rattle.std.specs.List.{flat_map, list_all, slice_split, onto_first}
use Rattle.std.proofs.Math.Seq.{get_or-append_seam}
use Rattle.std.proofs.lemmas.Bool.{and_parts, cond_both, not-true}
use Rattle.std.proofs.lemmas.List.{length-append, take-append-drop}
use Rattle.std.proofs.lemmas.List.Folds.{list_all-append}
use Rattle.std.proofs.lemmas.List.Splits.{slice_split_at}
use Rattle.std.proofs.lemmas.List.Sums.{AllPass-from_list_all}
use Rattle.aprs_conf.specs.Words.{is_feed, is_gap, is_quote, with_byte, words_from, words_of, Word, closed, ended, lines_of, without_return}
use Rattle.aprs_conf.specs.Words.Place.{Between, Plain, Quoted}
use Rattle.aprs_conf.specs.Writing.{in_quotes, is_bare, spelled, word_text, line_text}
use Rattle.aprs_conf.proofs.LineLemmas.{line_first}
use Rattle.aprs_conf.proofs.WrittenWords.{no_feed, no_gap, no_quote, is_word}

-- ---- writing

-- a text without a byte, as the parts of a text take it
pub without : (test : ℕ → Bool) (xs : List ℕ) → list_all (λ x. not (test x)) xs ≡ true → All (λ x. test x ≡ false) xs
without test xs h k d less = not-true (test (get_or xs k d)) (AllPass-from_list_all (λ x. not (test x)) xs h k d less)

-- what is written of a word has no line feed
spelled_feed : (bare : Bool) (word : List ℕ) → list_all no_feed word ≡ true → list_all no_feed (cond bare word (in_quotes word) ++ 32 ∷ []) ≡ true
spelled_feed true word h = rw (list_all-append no_feed word (32 ∷ []), h) refl
spelled_feed false word h = rw (append_assoc word (34 ∷ []) (32 ∷ []), list_all-append no_feed word (34 ∷ 32 ∷ []), h) refl

line_feed : (words : List (List ℕ)) → list_all is_word words ≡ true → list_all no_feed (flat_map word_text words) ≡ true
unfolding word_text
line_feed [] h = refl
line_feed (word ∷ words) h =
    let parts = and_parts (is_word word) (list_all is_word words) h in
    let fed = and_parts (list_all no_feed word) _ parts.0 in
    rw (list_all-append no_feed (word_text word) (flat_map word_text words), spelled_feed (is_bare word) word fed.0, line_feed words parts.1) refl

-- and ends in a blank
ends : (words : List (List ℕ)) (word : List ℕ) → (front : List ℕ) × (flat_map word_text (word ∷ words) ≡ front ++ 32 ∷ [])
unfolding word_text
ends [] word = (spelled word, append-nil (word_text word))
ends (next ∷ words) word =
    let more = ends words next in
    (word_text word ++ more.0, ap (λ text. word_text word ++ text) more.1 ∙ sym (append_assoc (word_text word) more.0 (32 ∷ [])))

keeps_blank : (front : List ℕ) → without_return (front ++ 32 ∷ []) ≡ front ++ 32 ∷ []
keeps_blank front =
    let size : length (front ++ 32 ∷ []) - 1 ≡ length front = omega (arith, length-append front (32 ∷ [])) in
    let last : slice_index (front ++ 32 ∷ []) (length (front ++ 32 ∷ []) - 1) ≡ 32 = rw size (get_or-append_seam front 32 [] 0) in
    ap (λ b. cond (b == 13) (take (length (front ++ 32 ∷ []) - 1) (front ++ 32 ∷ [])) (front ++ 32 ∷ [])) last

-- so a written line is a line
pub line_read : (word : List ℕ) (words : List (List ℕ)) (rest : List ℕ) → list_all is_word (word ∷ words) ≡ true → lines_of (line_text (word ∷ words) ++ rest) ≡ flat_map word_text (word ∷ words) ∷ lines_of rest
unfolding line_text
line_read word words rest h =
    let line : List ℕ = flat_map word_text (word ∷ words) in
    let end = ends words word in
    let kept : without_return line ≡ line = subst (λ text. without_return text ≡ text) (sym end.1) (keeps_blank end.0) in
    ap lines_of (append_assoc line (10 ∷ []) rest)
    ∙ ap ended (slice_split_at is_feed line 10 rest (without is_feed line (line_feed (word ∷ words) h)) refl)
    ∙ line_first line rest
    ∙ ap (λ first. first ∷ lines_of rest) kept

-- ---- reading

-- no line has a line feed
abbrev pub is_feedless : List ℕ → Bool
is_feedless line = list_all no_feed line

onto_feedless : (x : ℕ) (parts : List (List ℕ)) → no_feed x ≡ true → list_all is_feedless parts ≡ true → list_all is_feedless (onto_first x parts) ≡ true
onto_feedless x [] fine h = rw fine refl
onto_feedless x (part ∷ parts) fine h = rw fine h

parts_feedless : (text : List ℕ) → list_all is_feedless (slice_split is_feed text) ≡ true
parts_feedless [] = refl
parts_feedless (x ∷ xs) =
    let more = parts_feedless xs in
    cond_both (is_feed x) ([] ∷ slice_split is_feed xs) (onto_first x (slice_split is_feed xs)) (λ parts. list_all is_feedless parts ≡ true) (λ _. more) (λ e. onto_feedless x (slice_split is_feed xs) (ap not e) more)

return_feedless : (line : List ℕ) → is_feedless line ≡ true → is_feedless (without_return line) ≡ true
return_feedless line h =
    let n = length line - 1 in
    let parts : (is_feedless (take n line) && is_feedless (drop n line)) ≡ true = rw (← list_all-append no_feed (take n line) (drop n line), take-append-drop) h in
    cond_both (slice_index line n == 13) (take n line) line (λ kept. is_feedless kept ≡ true) (λ _. (and_parts _ _ parts).0) (λ _. h)

ended_feedless : (parts : List (List ℕ)) → list_all is_feedless parts ≡ true → list_all is_feedless (ended parts) ≡ true
ended_feedless [] h = refl
ended_feedless (last ∷ []) h = h
ended_feedless (line ∷ next ∷ more) h =
    let parts = and_parts (is_feedless line) (list_all is_feedless (next ∷ more)) h in
    rw (return_feedless line parts.0, ended_feedless (next ∷ more) parts.1) refl

pub lines_feedless : (text : List ℕ) → list_all is_feedless (lines_of text) ≡ true
lines_feedless text = ended_feedless (slice_split is_feed text) (parts_feedless text)

-- what each of the words is, where the first is what is left of one
abbrev Sound : List Word → Type 0
Sound words = list_all is_word (closed words) ≡ true

abbrev SoundPlain : List Word → Type 0
SoundPlain [] = ⊥
SoundPlain (None ∷ words) = ⊥
SoundPlain (Some word ∷ words) = (list_all no_feed word ≡ true) × (list_all no_gap word ≡ true) × Sound words

abbrev SoundQuoted : List Word → Type 0
SoundQuoted [] = ⊥
SoundQuoted (None ∷ words) = Sound words
SoundQuoted (Some word ∷ words) = (list_all no_feed word ≡ true) × (list_all no_quote word ≡ true) × Sound words

plain_more : (b : ℕ) (words : List Word) → no_feed b ≡ true → is_gap b ≡ false → SoundPlain words → SoundPlain (with_byte b words)
plain_more b [] fine gap h = h
plain_more b (None ∷ words) fine gap h = h
plain_more b (Some word ∷ words) fine gap h = (rw fine h.0, rw gap h.1, h.2)

quoted_more : (b : ℕ) (words : List Word) → no_feed b ≡ true → is_quote b ≡ false → SoundQuoted words → SoundQuoted (with_byte b words)
quoted_more b [] fine quote h = h
quoted_more b (None ∷ words) fine quote h = h
quoted_more b (Some word ∷ words) fine quote h = (rw fine h.0, rw quote h.1, h.2)

pub cond_same : (b : Bool) → cond b true true ≡ true
cond_same true = refl
cond_same false = refl

quoted_sound : (words : List Word) → SoundQuoted words → Sound words
quoted_sound [] h = absurd h
quoted_sound (None ∷ words) h = h
quoted_sound (Some word ∷ words) h = rw (h.0, h.1, cond_same (is_bare word), h.2) refl

-- a plain word, behind its first byte
begun_sound : (b : ℕ) (words : List Word) → no_feed b ≡ true → is_gap b ≡ false → is_quote b ≡ false → SoundPlain words → Sound (with_byte b words)
begun_sound b [] fine gap quote h = absurd h
begun_sound b (None ∷ words) fine gap quote h = absurd h
begun_sound b (Some word ∷ words) fine gap quote h = rw (fine, h.0, gap, quote, h.1, h.2) refl

sound : (xs : List ℕ) → list_all no_feed xs ≡ true → Sound (words_from Between xs) × SoundPlain (words_from Plain xs) × SoundQuoted (words_from Quoted xs)
sound [] h = (refl, (refl, refl, refl), refl)
sound (b ∷ xs) h =
    let parts = and_parts (no_feed b) (list_all no_feed xs) h in
    let more = sound xs parts.1 in
    let own = words_from Plain xs in
    let between = cond_both (is_gap b) (words_from Between xs) (cond (is_quote b) (words_from Quoted xs) (with_byte b own)) Sound (λ _. more.0)
    (λ gap. cond_both (is_quote b) (words_from Quoted xs) (with_byte b own) Sound (λ _. quoted_sound (words_from Quoted xs) more.2) (λ quote. begun_sound b own parts.0 gap quote more.1)) in
    let plain = cond_both (is_gap b) (Some [] ∷ words_from Between xs) (with_byte b own) SoundPlain (λ _. (refl, refl, more.0)) (λ gap. plain_more b own parts.0 gap more.1) in
    let quoted = cond_both (is_quote b) (Some [] ∷ words_from Between xs) (with_byte b (words_from Quoted xs)) SoundQuoted (λ _. (refl, refl, more.0)) (λ quote. quoted_more b (words_from Quoted xs) parts.0 quote more.2) in
    (between, plain, quoted)

-- the words of a line are words that a line can have
pub words_are : (line : List ℕ) → is_feedless line ≡ true → list_all is_word (closed (words_of line)) ≡ true
words_are line h = (sound line h).0
