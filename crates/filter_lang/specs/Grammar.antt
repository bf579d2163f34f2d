-- The grammar of a filter text: which terms a text reads as, or its first fault (aprs-is.net, Server-side Filter
-- Commands).
use Rattle.std.specs.Prelude.{◌≡◌, ℕ, ◌==◌, ◌+◌, Bool, true, false, not, nat_le, nat_lt, ◌&&◌, ◌||◌, List, [], ◌∷◌, ◌++◌, length, map, count_by, drop, Option, Some, None, option_map, Result, Ok, Err, if◌then◌else◌}
use Rattle.std.specs.Char.{is_ascii_alphabetic}
use Rattle.std.specs.List.{list_all}
use Rattle.std.specs.Str.{byte}
use Rattle.aprs_base.specs.Bytes.{is_call}
use Rattle.filter_lang.specs.declared.terms.What.{What}
use Rattle.filter_lang.specs.declared.terms.What.TheVariants as what
use Rattle.filter_lang.specs.declared.errors.FilterError.{FilterError}
use Rattle.filter_lang.specs.declared.errors.FilterError.TheVariants as fault
use Rattle.filter_lang.specs.Terms.{TermSeen}
use Rattle.filter_lang.specs.Parts.{words_of, fields_of, without_last, is_empty, one_of, two_of, three_of, four_of}
use Rattle.aprs_base.specs.OptionSteps.{◌>>=◌}
use Rattle.filter_lang.specs.Numbers.{degrees_of, kilometres_of, has_minus}
use Rattle.filter_lang.specs.Names.{names_of, starless, meant}
use Rattle.filter_lang.specs.Sets.{set_of, mask_of}

abbrev pub call_of : List ℕ → Option (List ℕ)
call_of field = if is_call field then Some field else None

-- r/lat/lon/km
unfoldable pub range_of : List (List ℕ) → Option What
range_of fields = do
  three ← three_of fields
  lat ← degrees_of 90000000 three.0
  lon ← degrees_of 180000000 three.1
  km ← kilometres_of three.2
  Some (what.Range lat lon km)

-- a/latN/lonW/latS/lonE
unfoldable pub area_of : List (List ℕ) → Option What
area_of fields = do
  four ← four_of fields
  north ← degrees_of 90000000 four.0
  west ← degrees_of 180000000 four.1
  south ← degrees_of 90000000 four.2
  east ← degrees_of 180000000 four.3
  Some (what.Area north west south east)

-- call/km
unfoldable pub near_of : List (List ℕ) → Option (List ℕ × ℕ)
near_of fields = do
  two ← two_of fields
  call ← call_of two.0
  km ← kilometres_of two.1
  Some (call, km)

-- f/call/km
unfoldable pub friend_of : List (List ℕ) → Option What
friend_of fields = option_map (λ near. what.Friend near.0 near.1) (near_of fields)

-- m/km
unfoldable pub mine_of : List (List ℕ) → Option What
mine_of fields = do
  field ← one_of fields
  km ← kilometres_of field
  Some (what.Mine km)

-- t/letters, t/letters/call/km
abbrev pub class_near : ℕ → List (List ℕ) → Option What
class_near mask fields =
    if is_empty fields then Some (what.Class mask) else option_map (λ near. what.ClassNear mask near.0 near.1) (near_of fields)

unfoldable pub class_of : List (List ℕ) → Option What
class_of [] = None
class_of (letters ∷ fields) = mask_of letters >>= λ mask. class_near mask fields

-- printing bytes, with the two that stand for others
abbrev pub is_printing : ℕ → Bool
is_printing b = nat_le (byte "!") b && nat_le b (byte "~")

unfoldable pub symbols_of : List ℕ → Option (List ℕ)
symbols_of field = if list_all is_printing field then Some (set_of (map meant field)) else None

unfoldable pub symbol_if : List ℕ → List ℕ → List ℕ → Option What
symbol_if pri alt over =
    if is_empty pri && is_empty alt && is_empty over then None
    else (symbols_of pri >>= λ first. symbols_of alt >>= λ second. symbols_of over >>= λ third. Some (what.Symbol first second third))

-- s/pri/alt/over, of which the last may be missing
unfoldable pub symbol_of : List (List ℕ) → Option What
symbol_of (pri ∷ []) = symbol_if pri [] []
symbol_of (pri ∷ alt ∷ []) = symbol_if pri alt []
symbol_of (pri ∷ alt ∷ over ∷ []) = symbol_if pri alt over
symbol_of _ = None

unfoldable pub construct_if : List ℕ → Bool → Option What
construct_if letters gates =
    if list_all is_ascii_alphabetic letters && (gates || not (is_empty letters)) then Some (what.Construct (set_of letters) gates) else None

abbrev pub is_gates : List ℕ → Bool
is_gates (b ∷ []) = b == byte "I"
is_gates _ = false

-- q/letters, q/letters/I
unfoldable pub construct_of : List (List ℕ) → Option What
construct_of (letters ∷ []) = construct_if letters false
construct_of (letters ∷ gates ∷ []) = if is_gates gates then construct_if letters true else None
construct_of _ = None

-- a letter without case
abbrev pub lower : ℕ → ℕ
lower b = if nat_le (byte "A") b && nat_le b (byte "Z") then b + 32 else b

-- the terms of names
unfoldable pub named_of : ℕ → List (List ℕ) → Option What
named_of letter fields =
    if letter == byte "p" then option_map (λ names. what.Prefix (map starless names)) (names_of fields)
    else if letter == byte "b" then option_map what.Buddy (names_of fields)
    else if letter == byte "o" then option_map what.Object (names_of fields)
    else if letter == byte "d" then option_map what.Digi (names_of fields)
    else if letter == byte "e" then option_map what.Entry (names_of fields)
    else if letter == byte "g" then option_map what.Group (names_of fields)
    else if letter == byte "u" then option_map what.Dest (names_of fields)
    else None

unfoldable pub other_of : ℕ → List (List ℕ) → Option What
other_of letter fields =
    if letter == byte "r" then range_of fields
    else if letter == byte "a" then area_of fields
    else if letter == byte "f" then friend_of fields
    else if letter == byte "m" then mine_of fields
    else if letter == byte "t" then class_of fields
    else if letter == byte "s" then symbol_of fields
    else if letter == byte "q" then construct_of fields
    else named_of letter fields

abbrev pub what_of_fields : List (List ℕ) → Option What
what_of_fields ((letter ∷ []) ∷ field ∷ fields) = other_of (lower letter) (field ∷ fields)
what_of_fields _ = None

-- one slash at the end is dropped
unfoldable pub what_of : List ℕ → Option What
what_of body = what_of_fields (fields_of (without_last (byte "/") body))

abbrev pub term_if : Bool → List ℕ → Option TermSeen
term_if exclude body = option_map (λ w. record { exclude = exclude; what = w }) (what_of body)

-- a term; a minus before it excludes
unfoldable pub term_of : List ℕ → Option TermSeen
term_of word = if has_minus word then term_if true (drop 1 word) else term_if false word

-- the letter of a kind of which there may be only nine
abbrev pub limited : What → Option ℕ
limited (what.Range lat lon km) = Some (byte "r")
limited (what.Friend call km) = Some (byte "f")
limited (what.Area north west south east) = Some (byte "a")
limited _ = None

abbrev pub is_letter_of : ℕ → Option ℕ → Bool
is_letter_of letter None = false
is_letter_of letter (Some other) = other == letter

-- how many terms have the letter, also excluding ones
abbrev pub count_of : ℕ → List TermSeen → ℕ
count_of letter terms = count_by (λ t. is_letter_of letter (limited t.what)) terms

-- the letter of what there would be too many with one more: a tenth of its kind, or a 65th of all
abbrev pub excess_of_all : List TermSeen → Option ℕ
excess_of_all terms = if nat_le 64 (length terms) then Some (byte "*") else None

abbrev pub excess_by : List TermSeen → Option ℕ → Option ℕ
excess_by terms None = excess_of_all terms
excess_by terms (Some letter) = if nat_le 9 (count_of letter terms) then Some letter else excess_of_all terms

unfoldable pub excess_of : List TermSeen → What → Option ℕ
excess_of terms w = excess_by terms (limited w)

abbrev pub added_unless : List TermSeen → TermSeen → Option ℕ → Result (List TermSeen) FilterError
added_unless terms t None = Ok (terms ++ t ∷ [])
added_unless terms t (Some letter) = Err (fault.TooMany letter)

-- the terms with what a word reads as, or the fault of that word
abbrev pub added : List TermSeen → Option TermSeen → Result (List TermSeen) FilterError
added terms None = Err (fault.Term (length terms + 1))
added terms (Some t) = added_unless terms t (excess_of terms t.what)

abbrev pub and_then : Result (List TermSeen) FilterError → (List TermSeen → Result (List TermSeen) FilterError) → Result (List TermSeen) FilterError
and_then (Ok terms) f = f terms
and_then (Err e) f = Err e

abbrev pub added_all : List TermSeen → List (List ℕ) → Result (List TermSeen) FilterError
added_all terms [] = Ok terms
added_all terms (word ∷ words) = and_then (added terms (term_of word)) (λ more. added_all more words)

-- the terms of a text, or its first fault
unfoldable pub terms_of : List ℕ → Result (List TermSeen) FilterError
terms_of text = if nat_lt 480 (length text) then Err fault.Long else added_all [] (words_of text)

-- what was read is what the text reads as, unless memory ran out
abbrev pub Fails : FilterError → Result (List TermSeen) FilterError → Type 0
Fails fault.Memory read = Unit {0}
Fails fault.Long read = read ≡ Err fault.Long
Fails (fault.Term n) read = read ≡ Err (fault.Term n)
Fails (fault.TooMany letter) read = read ≡ Err (fault.TooMany letter)

abbrev pub Gives : Result (List TermSeen) FilterError → Result (List TermSeen) FilterError → Type 0
Gives (Ok terms) read = read ≡ Ok terms
Gives (Err e) read = Fails e read
