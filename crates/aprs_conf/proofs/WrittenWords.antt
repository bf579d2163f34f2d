-- Words that are written read as themselves.
use Rattle.std.proofs.Common.{◌≡◌, ℕ, ◌&&◌, Bool, true, false, cond, List, [], ◌∷◌, ◌++◌, Some, map, refl, ap, append_assoc}
use Rattle.std.specs.Prelude.{not}
use Rattle.std.specs.List.{flat_map, list_all}
use Rattle.std.proofs.lemmas.Bool.{and_parts, not-true}
use Rattle.aprs_conf.specs.Words.{is_feed, is_gap, is_quote, words_from, words_of, closed, has_open}
use Rattle.aprs_conf.specs.Words.Place.{Plain, Quoted}
use Rattle.aprs_conf.specs.Writing.{in_quotes, is_bare, spelled, word_text}

abbrev pub no_feed : ℕ → Bool
no_feed b = not (is_feed b)

abbrev pub no_gap : ℕ → Bool
no_gap b = not (is_gap b)

abbrev pub no_quote : ℕ → Bool
no_quote b = not (is_quote b)

-- a word that a line can have
abbrev pub is_word : List ℕ → Bool
is_word word = list_all no_feed word && cond (is_bare word) true (list_all no_quote word)

-- a word without gaps ends at the blank
bare_read : (word rest : List ℕ) → list_all no_gap word ≡ true → words_from Plain (word ++ 32 ∷ rest) ≡ Some word ∷ words_of rest
bare_read [] rest h = refl
bare_read (b ∷ word) rest h =
    let parts = and_parts (no_gap b) (list_all no_gap word) h in
    rw (not-true (is_gap b) parts.0, bare_read word rest parts.1) refl

-- and one between quotes at the last
quoted_read : (word rest : List ℕ) → list_all no_quote word ≡ true → words_from Quoted (word ++ 34 ∷ rest) ≡ Some word ∷ words_of rest
quoted_read [] rest h = refl
quoted_read (b ∷ word) rest h =
    let parts = and_parts (no_quote b) (list_all no_quote word) h in
    rw (not-true (is_quote b) parts.0, quoted_read word rest parts.1) refl

-- a word that begins with no gap and no quote
bare_first : (word rest : List ℕ) → is_bare word ≡ true → words_of (word ++ 32 ∷ rest) ≡ Some word ∷ words_of rest
bare_first [] rest h = cc
bare_first (b ∷ word) rest h =
    let parts = and_parts (no_quote b) (list_all no_gap (b ∷ word)) h in
    let gaps = and_parts (no_gap b) (list_all no_gap word) parts.1 in
    rw (not-true (is_gap b) gaps.0, not-true (is_quote b) parts.0, bare_read word rest gaps.1) refl

written_by : (bare : Bool) (word rest : List ℕ) → is_bare word ≡ bare → cond bare true (list_all no_quote word) ≡ true → words_of (cond bare word (in_quotes word) ++ 32 ∷ rest) ≡ Some word ∷ words_of rest
written_by true word rest is h = bare_first word rest is
written_by false word rest is h = rw (append_assoc word (34 ∷ []) (32 ∷ rest)) (quoted_read word (32 ∷ rest) h)

pub word_read : (word rest : List ℕ) → is_word word ≡ true → words_of (word_text word ++ rest) ≡ Some word ∷ words_of rest
unfolding word_text
word_read word rest h =
    let parts = and_parts (list_all no_feed word) _ h in
    rw (append_assoc (spelled word) (32 ∷ []) rest) (written_by (is_bare word) word rest refl parts.1)

-- the words of a written line
pub words_read : (words : List (List ℕ)) → list_all is_word words ≡ true → words_of (flat_map word_text words) ≡ map Some words
words_read [] h = refl
words_read (word ∷ words) h =
    let parts = and_parts (is_word word) (list_all is_word words) h in
    rw (word_read word (flat_map word_text words) parts.0, words_read words parts.1) refl

-- all have their end
pub all_closed : (words : List (List ℕ)) → closed (map Some words) ≡ words
all_closed [] = refl
all_closed (word ∷ words) = ap (λ more. word ∷ more) (all_closed words)

pub none_open : (words : List (List ℕ)) → has_open (map Some words) ≡ false
none_open [] = refl
none_open (word ∷ words) = none_open words
