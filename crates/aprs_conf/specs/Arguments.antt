-- What an argument of a line may be (aprsc manual, Configuration).
use Rattle.std.specs.Prelude.{ℕ, ◌-◌, ◌*◌, ◌==◌, ◌&&◌, ◌||◌, Bool, true, false, if◌then◌else◌, nat_le, not, List, [], ◌∷◌, length, take, codes, Option, Some, None, slice_index}
use Rattle.std.specs.Char.{is_ascii_digit}
use Rattle.std.specs.List.{list_all, slice_split, find}
use Rattle.std.specs.Option.{option_map}
use Rattle.std.specs.Str.{byte}
use Rattle.std.specs.Cmp.Lexicographic.{pointwise}
use Rattle.aprs_base.specs.Bytes.{is_station}
use Rattle.aprs_base.specs.declared.packets.PortKind.{PortKind}
use Rattle.aprs_base.specs.declared.packets.PortKind.TheVariants as kind
use Rattle.aprs_conf.specs.declared.arguments.Service.{Service}
use Rattle.login_pass.specs.Login.{is_code_number, number_from}

abbrev pub same : List ℕ → List ℕ → Bool
same a b = pointwise ◌==◌ a b

-- a call that may name a station
abbrev pub station_of : List ℕ → Option (List ℕ)
station_of text = if is_station text then Some text else None

-- ---- numbers

-- a passcode: one to five digits
abbrev pub code_of : List ℕ → Option ℕ
code_of text = if is_code_number text then Some (number_from 0 text) else None

-- one to five digits, of which the first of several isn't zero
abbrev pub is_plain : List ℕ → Bool
is_plain text = is_code_number text && (length text == 1 || not (slice_index text 0 == byte "0"))

abbrev pub number_within : ℕ → ℕ → List ℕ → Option ℕ
number_within least most text =
    let number = number_from 0 text in
    if is_plain text && nat_le least number && nat_le number most then Some number else None

abbrev pub port_of : List ℕ → Option ℕ
port_of text = number_within 1 65535 text

abbrev pub clients_of : List ℕ → Option ℕ
clients_of text = number_within 1 10000 text

-- ---- times

abbrev pub are_digits : List ℕ → Bool
are_digits text = nat_le 1 (length text) && list_all is_ascii_digit text

-- the seconds of a unit: s, m, h or d
abbrev pub unit_of : ℕ → Option ℕ
unit_of b = if b == byte "s" then Some 1 else if b == byte "m" then Some 60 else if b == byte "h" then Some 3600 else if b == byte "d" then Some 86400 else None

abbrev pub seconds_of : ℕ → List ℕ → Option ℕ
seconds_of unit digits =
    let seconds = number_from 0 digits * unit in
    if are_digits digits && nat_le 1 seconds && nat_le seconds 10000000 then Some seconds else None

abbrev pub time_in : List ℕ → Option ℕ → Option ℕ
time_in text None = seconds_of 1 text
time_in text (Some unit) = seconds_of unit (take (length text - 1) text)

-- a time in seconds: digits, and perhaps a unit as the last byte
abbrev pub time_of : List ℕ → Option ℕ
time_of text = time_in text (unit_of (slice_index text (length text - 1)))

-- a time that is that long
abbrev pub if_within : ℕ → ℕ → Option ℕ → Option ℕ
if_within least most None = None
if_within least most (Some time) = if nat_le least time && nat_le time most then Some time else None

-- the seconds of a duplicate window
abbrev pub window_of : List ℕ → Option ℕ
window_of text = if_within 10 300 (time_of text)

-- ---- addresses

abbrev pub octet_of : List ℕ → Option ℕ
octet_of text = number_within 0 255 text

abbrev pub four : Option ℕ → Option ℕ → Option ℕ → Option ℕ → Option (List ℕ)
four (Some a) (Some b) (Some c) (Some d) = Some (a ∷ b ∷ c ∷ d ∷ [])
four None b c d = None
four (Some a) None c d = None
four (Some a) (Some b) None d = None
four (Some a) (Some b) (Some c) None = None

-- the number of the last part
abbrev pub last_in : List (List ℕ) → Option ℕ
last_in (part ∷ []) = octet_of part
last_in _ = None

-- four numbers between single dots
abbrev pub octets_in : List (List ℕ) → Option (List ℕ)
octets_in (a ∷ b ∷ c ∷ last) = four (octet_of a) (octet_of b) (octet_of c) (last_in last)
octets_in _ = None

abbrev pub is_dot : ℕ → Bool
is_dot b = b == byte "."

-- an IPv4 address, or `::`, which stands for every address
abbrev pub ip_of : List ℕ → Option (List ℕ)
ip_of text = if same text (codes "::") then Some (0 ∷ 0 ∷ 0 ∷ 0 ∷ []) else octets_in (slice_split is_dot text)

-- a host to dial: 1 to 64 bytes
abbrev pub host_of : List ℕ → Option (List ℕ)
host_of text = if nat_le 1 (length text) && nat_le (length text) 64 then Some text else None

-- ---- kinds

-- a kind and a protocol, and what they stand for
pub record PortRow : Type 0 where
  pub word : List ℕ
  pub proto : List ℕ
  pub service : Service

abbrev pub port_row : List ℕ → List ℕ → PortKind → Bool → PortRow
port_row word proto kind idle = record { word = word; proto = proto; service = record { kind = kind; idle = idle } }

abbrev pub tcp : List ℕ
tcp = codes "tcp"

abbrev pub udp : List ℕ
udp = codes "udp"

-- those that serve clients take no datagrams, and are idle there
abbrev pub ports : List PortRow
ports =
    port_row (codes "fullfeed") tcp kind.Full false
    ∷ port_row (codes "igate") tcp kind.Igate false
    ∷ port_row (codes "clientonly") tcp kind.Only false
    ∷ port_row (codes "dupefeed") tcp kind.Dupe false
    ∷ port_row (codes "udpsubmit") udp kind.Submit false
    ∷ port_row (codes "fullfeed") udp kind.Full true
    ∷ port_row (codes "igate") udp kind.Igate true
    ∷ port_row (codes "clientonly") udp kind.Only true
    ∷ []

abbrev pub kind_of : List ℕ → List ℕ → Option Service
kind_of word proto = option_map (λ row. row.service) (find (λ row. same word row.word && same proto row.proto) ports)
