-- What a body says (APRS Protocol Reference 1.0.1, APRS Data Type Identifiers, and the formats of each).
use Rattle.std.specs.Prelude.{ℕ, ◌+◌, ◌==◌, ◌&&◌, ◌||◌, Bool, true, false, nat_le, nat_lt, List, [], ◌∷◌, length, take, drop, slice_index, slice_range, codes, bit_or, Some, None, if◌then◌else◌}
use Rattle.std.specs.List.{list_any, position_or_len, starts_with}
use Rattle.std.specs.Str.{byte}
use Rattle.std.specs.declared.option.Option.{Option}
use Rattle.aprs_base.specs.Bytes.{is_blank}
use Rattle.aprs_base.specs.declared.packets.Body.{Body}
use Rattle.aprs_base.specs.declared.packets.Place.{Place}
use Rattle.aprs_position.specs.Either.{either_place}
use Rattle.mic_e.specs.MicE.{mic_e_place}
use Rattle.aprs_body.specs.Classes.{item_bit, message_bit, nws_bit, object_bit, position_bit, query_bit, status_bit, telemetry_bit, user_bit, weather_bit}

-- a body that says no more than its class
abbrev pub bare : ℕ → Body
bare class = record { class = class; place = None; name = None; live = false; to = None }

-- the code `_` is a weather station's
abbrev pub weather_of : Place → ℕ
weather_of place = if place.code == byte "_" then weather_bit else 0

-- a name that begins with `NWS` is the National Weather Service's
abbrev pub nws_of : List ℕ → ℕ
nws_of name = if starts_with ◌==◌ name (codes "NWS") then nws_bit else 0

-- a text without the blanks at its end
abbrev pub put : ℕ → List ℕ → List ℕ
put b [] = if is_blank b then [] else b ∷ []
put b (x ∷ xs) = b ∷ x ∷ xs

abbrev pub without_trailing_blanks : List ℕ → List ℕ
without_trailing_blanks [] = []
without_trailing_blanks (b ∷ bs) = put b (without_trailing_blanks bs)

-- a position report, also one whose position can't be read
abbrev pub positioned : Option Place → Body
positioned None = bare position_bit
positioned (Some place) = record { class = bit_or position_bit (weather_of place); place = Some place; name = None; live = false; to = None }

-- an object or an item, which is nothing without its position
abbrev pub named : (class : ℕ) (name : List ℕ) (live : Bool) → Option Place → Body
named class name live None = bare 0
named class name live (Some place) = record { class = bit_or class (weather_of place); place = Some place; name = Some name; live = live; to = None }

-- the mark of an object or an item: its sign says that it is live, and `_` that it is killed
abbrev pub life_of : (sign mark : ℕ) → Option Bool
life_of sign mark = if mark == sign then Some true else if mark == byte "_" then Some false else None

-- nothing, where the mark is neither
abbrev pub if_marked : Option Bool → (Bool → Body) → Body
if_marked None reading = bare 0
if_marked (Some live) reading = reading live

-- nine bytes of name, `*` or `_`, seven bytes of time, and a position (Object Report Format)
abbrev pub object_of : List ℕ → Body
object_of text = if nat_lt (length text) 18 then bare 0 else if_marked (life_of (byte "*") (slice_index text 10)) (λ live.
    named (bit_or object_bit (nws_of (slice_range text 1 10))) (without_trailing_blanks (slice_range text 1 10)) live (either_place (drop 18 text)))

-- the end of an item's name, live or killed
abbrev pub is_item_mark : ℕ → Bool
is_item_mark b = b == byte "!" || b == byte "_"

-- how long a name is: up to its mark
abbrev pub name_len : List ℕ → ℕ
name_len text = position_or_len is_item_mark text

-- a name of three to nine bytes up to its mark, and a position (Item Report Format)
abbrev pub item_in : List ℕ → Body
item_in text =
    if nat_le 3 (name_len text) && nat_le (name_len text) 9 && nat_lt (name_len text) (length text)
    then named item_bit (take (name_len text) text) (slice_index text (name_len text) == byte "!") (either_place (drop (name_len text + 1) text))
    else bare 0

-- an item after the first byte, which says what the text is
abbrev pub item_of : List ℕ → Body
item_of text = item_in (drop 1 text)

-- the words that begin a telemetry station's definitions (On-Air Definition of Telemetry Parameters)
abbrev pub telemetry_words : List (List ℕ)
telemetry_words = codes "PARM." ∷ codes "UNIT." ∷ codes "EQNS." ∷ codes "BITS." ∷ []

-- the class of a message by its text
abbrev pub message_class : List ℕ → ℕ
message_class text = if list_any (starts_with ◌==◌ text) telemetry_words then telemetry_bit else message_bit

-- nine bytes of receiver, `:` and a text (Message Format)
abbrev pub message_of : List ℕ → Body
message_of text =
    if slice_index text 10 == byte ":"
    then record { class = bit_or (message_class (drop 11 text)) (nws_of (slice_range text 1 10)); place = None; name = None; live = false; to = Some (without_trailing_blanks (slice_range text 1 10)) }
    else bare 0

-- a telemetry report (Telemetry Report Format)
abbrev pub telemetry_of : List ℕ → Body
telemetry_of text = if starts_with ◌==◌ text (codes "T#") then bare telemetry_bit else bare 0

-- A row of the class table: its first bytes, and what is read of a destination and a body that begins with one.
pub record Row : Type 0 where
  pub firsts : List ℕ
  pub reads : List ℕ → List ℕ → Body

abbrev pub row : List ℕ → (List ℕ → List ℕ → Body) → Row
row firsts reads = record { firsts = firsts; reads = reads }

-- the class table (APRS Data Type Identifiers)
abbrev pub rows : List Row
rows =
    row (codes "!=") (λ dest text. positioned (either_place (drop 1 text)))
    ∷ row (codes "/@") (λ dest text. positioned (either_place (drop 8 text)))
    ∷ row (codes "`'") (λ dest text. positioned (mic_e_place dest text))
    ∷ row (codes ";") (λ dest text. object_of text)
    ∷ row (codes ")") (λ dest text. item_of text)
    ∷ row (codes ":") (λ dest text. message_of text)
    ∷ row (codes ">") (λ dest text. bare status_bit)
    ∷ row (codes "T") (λ dest text. telemetry_of text)
    ∷ row (codes "_") (λ dest text. bare weather_bit)
    ∷ row (codes "{") (λ dest text. bare user_bit)
    ∷ row (codes "?") (λ dest text. bare query_bit)
    ∷ []

-- the row that has the first byte, if there is one
abbrev pub read_by : List Row → ℕ → (dest text : List ℕ) → Body
read_by [] b dest text = bare 0
read_by (r ∷ more) b dest text = if list_any (λ first. b == first) r.firsts then r.reads dest text else read_by more b dest text

-- what a packet's destination and body say
unfoldable pub body_of : (dest body : List ℕ) → Body
body_of dest [] = bare 0
body_of dest (b ∷ more) = read_by rows b dest (b ∷ more)
