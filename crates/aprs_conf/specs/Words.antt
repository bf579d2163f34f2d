-- The lines of a configuration, and the words of a line (aprsc manual, Configuration).
use Rattle.std.specs.Prelude.{ℕ, ◌-◌, ◌==◌, ◌||◌, Bool, true, false, if◌then◌else◌, List, [], ◌∷◌, length, take, slice_index, Option, Some, None}
use Rattle.std.specs.List.{slice_split, list_any}
use Rattle.std.specs.Str.{byte}

-- ---- lines

abbrev pub is_feed : ℕ → Bool
is_feed b = b == byte "\n"

-- a line end is LF or CR LF, so a line loses one CR at its end
abbrev pub without_return : List ℕ → List ℕ
without_return line = if slice_index line (length line - 1) == byte "\r" then take (length line - 1) line else line

-- the texts between the line feeds; behind the last of them there is no line end
abbrev pub ended : List (List ℕ) → List (List ℕ)
ended [] = []
ended (last ∷ []) = last ∷ []
ended (line ∷ next ∷ more) = without_return line ∷ ended (next ∷ more)

abbrev pub lines_of : List ℕ → List (List ℕ)
lines_of text = ended (slice_split is_feed text)

-- ---- words

-- blanks and tabs part words
abbrev pub is_gap : ℕ → Bool
is_gap b = b == byte " " || b == byte "\t"

abbrev pub is_quote : ℕ → Bool
is_quote b = b == byte "\""

-- where a byte may stand: between words, in a plain word, or in a word between quotes
pub data Place : Type 0 where
  Between : Place
  Plain : Place
  Quoted : Place

-- a word, of which None stands for one without its last quote
abbrev pub Word : Type 0
Word = Option (List ℕ)

-- a byte before what is left of a word
abbrev pub with_byte : ℕ → List Word → List Word
with_byte b [] = []
with_byte b (None ∷ words) = None ∷ words
with_byte b (Some word ∷ words) = Some (b ∷ word) ∷ words

-- what is left of the word, if the text begins in one, and the words behind it
abbrev pub words_from : Place → List ℕ → List Word
words_from Between [] = []
words_from Plain [] = Some [] ∷ []
words_from Quoted [] = None ∷ []
words_from Between (b ∷ more) =
    if is_gap b then words_from Between more
    else if is_quote b then words_from Quoted more
    else with_byte b (words_from Plain more)
words_from Plain (b ∷ more) = if is_gap b then Some [] ∷ words_from Between more else with_byte b (words_from Plain more)
words_from Quoted (b ∷ more) = if is_quote b then Some [] ∷ words_from Between more else with_byte b (words_from Quoted more)

-- the words of a line, of which only the last may want its end
abbrev pub words_of : List ℕ → List Word
words_of line = words_from Between line

abbrev pub is_open : Word → Bool
is_open None = true
is_open (Some word) = false

abbrev pub has_open : List Word → Bool
has_open words = list_any is_open words

-- the words that have their end
abbrev pub closed : List Word → List (List ℕ)
closed [] = []
closed (None ∷ words) = closed words
closed (Some word ∷ words) = word ∷ closed words

abbrev pub arguments_of : List ℕ → List (List ℕ)
arguments_of text = closed (words_of text)

-- a first word that begins with `#`, whatever follows it
abbrev pub is_remark : List Word → Bool
is_remark (Some (b ∷ more) ∷ words) = b == byte "#"
is_remark _ = false
