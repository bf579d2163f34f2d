-- The words of a text and the fields of a term (aprs-is.net, Server-side Filter Commands).
use Rattle.std.specs.Prelude.{ℕ, ◌==◌, ◌-◌, Bool, not, List, [], ◌∷◌, length, take, filter, slice_index, Option, Some, None, option_map, if◌then◌else◌}
use Rattle.std.specs.List.{slice_split}
use Rattle.std.specs.Str.{byte}
use Rattle.aprs_base.specs.Bytes.{is_blank}
use Rattle.aprs_base.specs.OptionSteps.{◌>>=◌}

abbrev pub is_empty : {T : Type 0} → List T → Bool
is_empty xs = length xs == 0

abbrev pub is_used : List ℕ → Bool
is_used word = not (is_empty word)

-- the words, parted by blanks
abbrev pub words_of : List ℕ → List (List ℕ)
words_of text = filter is_used (slice_split is_blank text)

-- the words after a first one, which counts if it has bytes
abbrev pub words_from : List ℕ → List (List ℕ) → List (List ℕ)
words_from word words = if is_used word then word ∷ words else words

-- the fields, parted by slashes
abbrev pub is_slash : ℕ → Bool
is_slash b = b == byte "/"

abbrev pub fields_of : List ℕ → List (List ℕ)
fields_of text = slice_split is_slash text

-- the fields after a slash, where there is one
abbrev pub fields_after : Option (List ℕ) → List (List ℕ)
fields_after None = []
fields_after (Some text) = fields_of text

abbrev pub ends_in : ℕ → List ℕ → Bool
ends_in c text = slice_index text (length text - 1) == c

-- the text without its last byte, where that is c
abbrev pub without_last : ℕ → List ℕ → List ℕ
without_last c text = if ends_in c text then take (length text - 1) text else text

-- each of them by f, or none
abbrev pub all_by : {A B : Type 0} → (A → Option B) → List A → Option (List B)
all_by f [] = Some []
all_by f (x ∷ xs) = f x >>= λ y. option_map (λ ys. y ∷ ys) (all_by f xs)

-- so many fields, and no more
abbrev pub one_of : List (List ℕ) → Option (List ℕ)
one_of (a ∷ []) = Some a
one_of _ = None

abbrev pub two_of : List (List ℕ) → Option (List ℕ × List ℕ)
two_of [] = None
two_of (a ∷ rest) = option_map (λ b. (a, b)) (one_of rest)

abbrev pub three_of : List (List ℕ) → Option (List ℕ × List ℕ × List ℕ)
three_of [] = None
three_of (a ∷ rest) = option_map (λ x. (a, x.0, x.1)) (two_of rest)

abbrev pub four_of : List (List ℕ) → Option (List ℕ × List ℕ × List ℕ × List ℕ)
four_of [] = None
four_of (a ∷ rest) = option_map (λ x. (a, x.0, x.1, x.2)) (three_of rest)
