-- The bytes and the short texts of APRS-IS: calls, lines, and the limits of their lengths.
use Rattle.std.specs.Prelude.{ℕ, ◌≡◌, ◌==◌, ◌&&◌, ◌||◌, Bool, true, false, nat_le, not, List, [], ◌∷◌, ◌++◌, length, drop, replicate, IsTrue}
use Rattle.std.specs.Char.{is_ascii_alphabetic, is_ascii_alphanumeric}
use Rattle.std.specs.List.{list_all, before_first, after_first}
use Rattle.std.specs.Str.{byte}

-- CR, LF and the blank
abbrev pub is_line_end : ℕ → Bool
is_line_end b = b == byte "\r" || b == byte "\n"

abbrev pub is_blank : ℕ → Bool
is_blank b = b == byte " "

abbrev pub is_dash : ℕ → Bool
is_dash b = b == byte "-"

-- the part of a call before its first dash, or the whole
abbrev pub base_of : List ℕ → List ℕ
base_of call = before_first is_dash call

-- the part after the first dash
abbrev pub ssid_of : List ℕ → List ℕ
ssid_of call = after_first is_dash call

-- one or two letters or digits
abbrev pub is_ssid_text : List ℕ → Bool
is_ssid_text text = nat_le 1 (length text) && nat_le (length text) 2 && list_all is_ascii_alphanumeric text

-- no dash, or such a text after the first
abbrev pub has_no_bad_ssid : List ℕ → Bool
has_no_bad_ssid call = length (base_of call) == length call || is_ssid_text (ssid_of call)

-- a call: letters and digits, perhaps a dash and one or two more, at most nine bytes (aprs-is.net, Connecting)
abbrev pub is_call : List ℕ → Bool
is_call text = nat_le (length text) 9 && nat_le 1 (length (base_of text)) && list_all is_ascii_alphanumeric (base_of text) && has_no_bad_ssid text

abbrev pub IsCall : List ℕ → Type 0
IsCall text = IsTrue (is_call text)

-- a text in the room of two words, with zeros behind it
abbrev pub as_words : List ℕ → List ℕ
as_words text = text ++ drop (length text) (replicate 16 0)

-- a construct: `q`, `A` and one letter (aprs-is.net, q Construct)
abbrev pub is_construct : List ℕ → Bool
is_construct [] = false
is_construct (a ∷ []) = false
is_construct (a ∷ b ∷ []) = false
is_construct (a ∷ b ∷ c ∷ []) = a == byte "q" && b == byte "A" && is_ascii_alphabetic c
is_construct (a ∷ b ∷ c ∷ d ∷ more) = false

-- a call that may name a station, so not a construct
abbrev pub is_station : List ℕ → Bool
is_station text = is_call text && not (is_construct text)

-- a line without its end: 1 to 510 bytes, none of them CR or LF
abbrev pub is_inner : ℕ → Bool
is_inner b = not (is_line_end b)

abbrev pub IsInner : List ℕ → Type 0
IsInner text = list_all is_inner text ≡ true

abbrev pub is_line : List ℕ → Bool
is_line text = nat_le 1 (length text) && nat_le (length text) 510 && list_all is_inner text

abbrev pub IsLine : List ℕ → Type 0
IsLine text = IsTrue (is_line text)
