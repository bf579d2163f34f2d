-- The login line, on the list of its words (aprs-is.net, Connecting).
use Rattle.std.specs.Prelude.{ℕ, ◌+◌, ◌-◌, ◌*◌, ◌==◌, ◌&&◌, Bool, false, if◌then◌else◌, nat_le, not, List, [], ◌∷◌, length, drop, map, codes, Option, Some, None, Result, Ok, Err}
use Rattle.std.specs.List.{list_all, slice_split, prefix_len, suffix_len}
use Rattle.std.specs.Char.{is_ascii_digit, to_ascii_lowercase}
use Rattle.std.specs.Str.{byte}
use Rattle.std.specs.Cmp.Lexicographic.{pointwise}
use Rattle.aprs_base.specs.Bytes.{is_blank, is_station}
use Rattle.login_pass.specs.Passcode.{passcode_of}
use Rattle.login_pass.specs.declared.login_line.Login.{Login}
use Rattle.login_pass.specs.declared.login_line.LoginFault.{LoginFault}
use Rattle.login_pass.specs.declared.login_line.LoginFault.TheVariants as fault

-- ---- words

-- a word, and its place in the line
pub record Word : Type 0 where
  pub start : ℕ
  pub text : List ℕ

-- the words among the texts between single blanks, of which the first text begins at this place
abbrev pub words_in : ℕ → List (List ℕ) → List Word
words_in start [] = []
words_in start (text ∷ texts) =
    if length text == 0 then words_in (start + 1) texts else record { start = start; text = text } ∷ words_in (start + length text + 1) texts

abbrev pub words_of : List ℕ → List Word
words_of line = words_in 0 (slice_split is_blank line)

-- the text of the first word, which is empty where there is none
abbrev pub first_text : List Word → List ℕ
first_text [] = []
first_text (word ∷ words) = word.text

-- the words after the first
abbrev pub later : List Word → List Word
later [] = []
later (word ∷ words) = words

-- a text is the keyword, letters taken without their case
abbrev pub is_keyword : List ℕ → List ℕ → Bool
is_keyword keyword text = pointwise ◌==◌ (map to_ascii_lowercase text) (map to_ascii_lowercase keyword)

-- ---- the parts of a login

-- the number that decimal digits spell
abbrev pub number_from : ℕ → List ℕ → ℕ
number_from before [] = before
number_from before (digit ∷ digits) = number_from (before * 10 + (digit - byte "0")) digits

abbrev pub is_code_number : List ℕ → Bool
is_code_number text = nat_le 1 (length text) && nat_le (length text) 5 && list_all is_ascii_digit text

-- a code: `-1`, which is none, or one to five digits
abbrev pub code_of : List ℕ → Option (Option ℕ)
code_of text =
    if pointwise ◌==◌ text (codes "-1") then Some None else (if is_code_number text then Some (Some (number_from 0 text)) else None)

-- place and length of a text without the blanks at both ends, where the text begins at this place
abbrev pub trimmed : ℕ → List ℕ → ℕ × ℕ
trimmed start text = let blanks = prefix_len is_blank text in (start + blanks, length text - blanks - suffix_len is_blank text)

-- the filter: what follows the first of these words that is `filter`
abbrev pub filter_in : List ℕ → List Word → Option (ℕ × ℕ)
filter_in line [] = None
filter_in line (word ∷ words) =
    if is_keyword (codes "filter") word.text then (let start = word.start + length word.text in Some (trimmed start (drop start line))) else filter_in line words

-- the login of these parts, where there is a code
abbrev pub login_with : List ℕ → Option (Option ℕ) → Option (ℕ × ℕ) → Result Login LoginFault
login_with call None filter = Err fault.BadPass
login_with call (Some code) filter = Ok (record { call = call; code = code; filter = filter })

-- `user`, a call that may name a station, `pass`, a code, and then perhaps a filter; the first fault
abbrev pub login_in : List ℕ → List Word → Result Login LoginFault
login_in line words =
    let call = later words in
    let pass = later call in
    let code = later pass in
    if not (is_keyword (codes "user") (first_text words)) then Err fault.NotUser
    else (if not (is_station (first_text call)) then Err fault.BadCall
    else (if not (is_keyword (codes "pass") (first_text pass)) then Err fault.NoPass
    else login_with (first_text call) (code_of (first_text code)) (filter_in line (later code))))

unfoldable pub login_of : List ℕ → Result Login LoginFault
login_of line = login_in line (words_of line)

-- a login is verified where it has a code, and the code is the passcode of its call
abbrev pub is_passcode : List ℕ → Option ℕ → Bool
is_passcode call None = false
is_passcode call (Some code) = code == passcode_of call

abbrev pub is_verified : Login → Bool
is_verified login = is_passcode login.call login.code
