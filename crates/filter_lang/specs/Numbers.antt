-- Degrees and kilometres, as filters spell them (aprs-is.net, Server-side Filter Commands).
use Rattle.std.specs.Prelude.{ℕ, ℤ, pos, ◌==◌, ◌+◌, ◌-◌, ◌*◌, ◌/◌, ◌%◌, Bool, not, nat_le, ◌&&◌, List, [], ◌∷◌, ◌++◌, length, drop, slice_index, Option, Some, None, option_map, if◌then◌else◌, unsigned_abs}
use Rattle.std.specs.List.{list_all, before_first, after_first}
use Rattle.std.specs.Str.{byte}
use Rattle.std.specs.Str.Parse.{digits_value}
use Rattle.std.specs.Fmt.{decimal}
use Rattle.std.proofs.Math.IntN.{neg_ℤ}
use Rattle.std.specs.Char.{is_ascii_digit}
use Rattle.filter_lang.specs.Parts.{is_empty}
use Rattle.aprs_base.specs.OptionSteps.{◌>>=◌}

abbrev pub are_digits : List ℕ → Bool
are_digits text = list_all is_ascii_digit text && not (is_empty text)

-- the digits before and after the dot; without a dot the second are none
abbrev pub is_dot : ℕ → Bool
is_dot b = b == byte "."

abbrev pub digits_if : List ℕ → List ℕ → Option (List ℕ × List ℕ)
digits_if whole more = if are_digits whole && are_digits more then Some (whole, more) else None

unfoldable pub dotted_of : List ℕ → Option (List ℕ × List ℕ)
dotted_of text =
    if length (before_first is_dot text) == length text then (if are_digits text then Some (text, []) else None)
    else digits_if (before_first is_dot text) (after_first is_dot text)

-- how much a one counts in each of six places after the dot
abbrev pub places : List ℕ
places = 100000 ∷ 10000 ∷ 1000 ∷ 100 ∷ 10 ∷ 1 ∷ []

-- the digits after the dot, each by its place; digits after the last place are dropped
abbrev pub fraction_of : List ℕ → List ℕ → ℕ
fraction_of [] digits = 0
fraction_of (place ∷ more) [] = 0
fraction_of (place ∷ more) (d ∷ digits) = (d - byte "0") * place + fraction_of more digits

-- at most so many digits before the dot
abbrev pub shorter : ℕ → List ℕ × List ℕ → Option (List ℕ × List ℕ)
shorter most number = if nat_le (length number.0) most then Some number else None

-- millionths, without a sign
unfoldable pub millionths_of : List ℕ → Option ℕ
millionths_of text = do
  number ← dotted_of text
  short ← shorter 3 number
  Some (digits_value 10 short.0 * 1000000 + fraction_of places short.1)

abbrev pub at_most : ℕ → ℕ → Option ℕ
at_most most n = if nat_le n most then Some n else None

abbrev pub size_of : ℕ → List ℕ → Option ℕ
size_of limit text = millionths_of text >>= at_most limit

abbrev pub has_minus : List ℕ → Bool
has_minus text = slice_index text 0 == byte "-"

-- degrees, in millionths, within a limit
unfoldable pub degrees_of : ℕ → List ℕ → Option ℤ
degrees_of limit text =
    if has_minus text then option_map (λ n. neg_ℤ (pos n)) (size_of limit (drop 1 text)) else option_map pos (size_of limit text)

-- kilometres; what follows a dot is dropped
unfoldable pub kilometres_of : List ℕ → Option ℕ
kilometres_of text = do
  number ← dotted_of text
  short ← shorter 5 number
  Some (digits_value 10 short.0)

-- the digits after the dot, up to the last that isn't 0
abbrev pub fraction_text : List ℕ → ℕ → List ℕ
fraction_text [] rest = []
fraction_text (place ∷ more) rest = if rest == 0 then [] else (byte "0" + rest / place) ∷ fraction_text more (rest % place)

unfoldable pub fraction_digits : ℕ → List ℕ
fraction_digits rest = fraction_text places rest

abbrev pub dotted_text : ℕ → List ℕ
dotted_text rest = if rest == 0 then [] else byte "." ∷ fraction_digits rest

unfoldable pub millionths_text : ℕ → List ℕ
millionths_text n = decimal (n / 1000000) ++ dotted_text (n % 1000000)

unfoldable pub degrees_text : ℤ → List ℕ
degrees_text (pos n) = millionths_text n
degrees_text z = byte "-" ∷ millionths_text (unsigned_abs z)
