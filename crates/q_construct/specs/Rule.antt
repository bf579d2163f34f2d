-- The q construct rule, as tables on lists of elements (aprs-is.net, q Construct).
use Rattle.std.specs.Prelude.{ℕ, ◌+◌, ◌-◌, ◌/◌, ◌%◌, ◌==◌, ◌&&◌, ◌||◌, Bool, true, false, if◌then◌else◌, nat_le, nat_lt, not, List, [], ◌∷◌, ◌++◌, length, take, drop, map, codes, Option, Some, None, Result, Ok, Err, slice_index}
use Rattle.std.specs.List.{list_any, before_first, after_first, find}
use Rattle.std.specs.Option.{option_map}
use Rattle.std.specs.Str.{byte}
use Rattle.std.specs.Cmp.Lexicographic.{pointwise}
use Rattle.aprs_base.specs.Bytes.{is_station}
use Rattle.aprs_base.specs.declared.texts.Addr.{Addr}
use Rattle.aprs_base.specs.declared.packets.Via.{Via}
use Rattle.aprs_base.specs.PartsSeen.{PartsSeen}
use Rattle.tnc2_line.specs.Packet.{names_construct, from_construct, text_of}
use Rattle.aprs_base.specs.ResultSteps.{◌>>=◌}
use Rattle.q_construct.specs.declared.origins.Origin.{Origin}
use Rattle.q_construct.specs.declared.origins.Origin.TheVariants.{Udp, Client, Uplink, Peer}
use Rattle.q_construct.specs.declared.drops.QDrop.{QDrop}
use Rattle.q_construct.specs.declared.drops.QDrop.TheVariants as drop_for

-- ---- names and elements

abbrev pub same : List ℕ → List ℕ → Bool
same a b = pointwise ◌==◌ a b

abbrev pub among : List ℕ → List (List ℕ) → Bool
among name names = list_any (same name) names

-- elements without and with `*`
abbrev pub plain : List ℕ → Via
plain call = record { call = call; star = false }

abbrev pub starred : List ℕ → Via
starred call = record { call = call; star = true }

-- a construct with a name behind it
abbrev pub ending : List ℕ → List ℕ → List Via
ending construct name = plain construct ∷ plain name ∷ []

-- ---- the parts of a path

abbrev pub before : List Via → List Via
before path = before_first names_construct path

-- the calls after the construct
abbrev pub names_after : List Via → List (List ℕ)
names_after path = map (λ via. via.call) (after_first names_construct path)

-- the call of the first of these elements, empty where there is none
abbrev pub first_call : List Via → List ℕ
first_call [] = []
first_call (via ∷ vias) = via.call

-- the construct, empty where there is none
abbrev pub construct_of : List Via → List ℕ
construct_of path = first_call (from_construct path)

abbrev pub has_construct : List Via → Bool
has_construct path = list_any names_construct path

-- the path as it is looked at: a construct that stands last is deleted
abbrev pub given_path : List Via → List Via
given_path path = let front = length path - 1 in if has_construct (drop front path) then take front path else path

-- the element `I`, which marks the one before it as the gate
abbrev pub is_gate_mark : Via → Bool
is_gate_mark via = same via.call (codes "I") && not via.star

-- the path without its last two elements, and the call of the last but one
abbrev pub gate_front : List Via → List Via
gate_front path = take (length path - 2) path

abbrev pub gate_call : List Via → List ℕ
gate_call path = first_call (drop (length path - 2) path)

-- whether a path ends in an element and `I`
abbrev pub ends_in_gate : List Via → Bool
ends_in_gate path = nat_le 2 (length path) && list_any is_gate_mark (drop (length path - 1) path)

abbrev pub ends_in_gate_of : List ℕ → List Via → Bool
ends_in_gate_of call path = ends_in_gate path && same (gate_call path) call

-- ---- the origin

abbrev pub hex_digit : ℕ → ℕ
hex_digit d = if nat_lt d 10 then byte "0" + d else byte "A" - 10 + d

abbrev pub hex_byte : ℕ → List ℕ
hex_byte b = hex_digit (b / 16) ∷ hex_digit (b % 16) ∷ []

-- an address in eight hexadecimal digits
abbrev pub hex_of : Addr → List ℕ
hex_of addr = hex_byte (slice_index addr.ip 0) ++ (hex_byte (slice_index addr.ip 1) ++ (hex_byte (slice_index addr.ip 2) ++ hex_byte (slice_index addr.ip 3)))

-- the login, the address or the peer's call
abbrev pub name_of : Origin → List ℕ
name_of (Udp login) = login
name_of (Client login verified only) = login
name_of (Uplink addr) = hex_of addr
name_of (Peer call) = call

abbrev pub is_udp : Origin → Bool
is_udp (Udp login) = true
is_udp (Client login verified only) = false
is_udp (Uplink addr) = false
is_udp (Peer call) = false

abbrev pub is_client : Origin → Bool
is_client (Udp login) = false
is_client (Client login verified only) = true
is_client (Uplink addr) = false
is_client (Peer call) = false

abbrev pub is_unverified : Origin → Bool
is_unverified (Udp login) = false
is_unverified (Client login verified only) = not verified
is_unverified (Uplink addr) = false
is_unverified (Peer call) = false

abbrev pub is_only : Origin → Bool
is_only (Udp login) = false
is_only (Client login verified only) = only
is_only (Uplink addr) = false
is_only (Peer call) = false

-- what a user of this server sends, and not another server
abbrev pub is_submission : Origin → Bool
is_submission origin = is_udp origin || is_client origin

-- a name of an origin that is to be a station's call
abbrev pub has_station : Origin → Bool
has_station (Udp login) = is_station login
has_station (Client login verified only) = is_station login
has_station (Uplink addr) = true
has_station (Peer call) = is_station call

-- whether what comes from there keeps the calls after its construct
abbrev pub keeps_names : Origin → Bool
keeps_names origin = not (is_udp origin) && not (is_unverified origin)

-- whether the name is the link's own login
abbrev pub is_own : Origin → List ℕ → Bool
is_own origin name = is_client origin && same name (name_of origin)

-- ---- the path that is built: the first row that fits

pub record Row : Type 0 where
  pub fits : Bool
  pub path : List Via
  -- whether the calls after its construct are checked
  pub checked : Bool

abbrev pub row : Bool → List Via → Bool → Row
row fits path checked = record { fits = fits; path = path; checked = checked }

abbrev pub first_row : List Row → Row
first_row [] = row true [] false
first_row (r ∷ rows) = if r.fits then r else first_row rows

-- whether these are the login alone
abbrev pub is_alone : List ℕ → List (List ℕ) → Bool
is_alone login [] = false
is_alone login (name ∷ []) = same name login
is_alone login (name ∷ next ∷ names) = false

-- what a gateway that only receives sends for others, on a port for clients alone
abbrev pub receive_rows : Bool → List ℕ → List Via → List Row
receive_rows relays name given =
    row (relays && same (construct_of given) (codes "qAR") && is_alone name (names_after given)) (before given ++ ending (codes "qAo") name) true
    ∷ row (relays && not (has_construct given) && ends_in_gate_of name given) (gate_front given ++ ending (codes "qAo") name) true
    ∷ row (relays && not (has_construct given) && not (ends_in_gate given)) (given ++ ending (codes "qAO") name) true
    ∷ []

-- what else goes on
abbrev pub common_rows : List ℕ → Origin → List ℕ → List Via → List Row
common_rows source origin server given =
    let name = name_of origin in
    row (has_construct given) given true
    ∷ row (is_client origin && ends_in_gate_of name given) (gate_front given ++ ending (codes "qAR") name) true
    ∷ row (ends_in_gate given) (gate_front given ++ ending (codes "qAr") (gate_call given)) true
    ∷ row (is_client origin && same source name) (starred (codes "TCPIP") ∷ ending (codes "qAC") server) false
    ∷ row true (given ++ ending (codes "qAS") name) true
    ∷ []

unfoldable pub rows : List ℕ → Origin → List ℕ → List Via → List Row
rows source origin server given =
    let name = name_of origin in
    row (is_udp origin && same source name) (starred (codes "TCPIP") ∷ ending (codes "qAU") server) false
    ∷ row (is_udp origin) (before given ++ ending (codes "qAU") server) false
    ∷ row (is_unverified origin) (starred (codes "TCPXX") ∷ ending (codes "qAX") server) false
    ∷ (receive_rows (is_only origin && not (same source name)) name given ++ common_rows source origin server given)

unfoldable pub built_row : List ℕ → Origin → List ℕ → List Via → Row
built_row source origin server given = first_row (rows source origin server given)

-- the path with this name behind its construct
abbrev pub with_name : List ℕ → List Via → List Via
with_name name path = if among name (names_after path) then path else path ++ plain name ∷ []

-- behind qAI each server of the way leaves its name, and the one before it if it hasn't
abbrev pub traced : List ℕ → List ℕ → List Via → List Via
traced name server path = if same (construct_of path) (codes "qAI") then with_name server (with_name name path) else path

abbrev pub with_path : PartsSeen → List Via → PartsSeen
with_path parts path = record parts { vias = path }

-- ---- the drops: the first that applies

abbrev pub when : Bool → QDrop → Option QDrop
when test drop' = if test then Some drop' else None

abbrev pub only_if : Bool → Option QDrop → Option QDrop
only_if test drop' = if test then drop' else None

abbrev pub refused : List (Option QDrop) → Result (Unit {0}) QDrop
refused [] = Ok tt
refused (None ∷ rest) = refused rest
refused (Some drop' ∷ rest) = Err drop'

-- an element that keeps a packet off the network
abbrev pub bars : Via → Bool
bars via = same via.call (codes "NOGATE") || same via.call (codes "RFONLY") || same via.call (codes "TCPXX")

abbrev pub begins_with : ℕ → List ℕ → Bool
begins_with first [] = false
begins_with first (b ∷ body) = b == first

-- the first name that equals one before it
abbrev pub first_twice : List (List ℕ) → List (List ℕ) → Option (List ℕ)
first_twice earlier [] = None
first_twice earlier (name ∷ names) = if among name earlier then Some name else first_twice (earlier ++ name ∷ []) names

-- the first name that another link has logged in with
abbrev pub first_other : Origin → List (List ℕ) → List (List ℕ) → Option (List ℕ)
first_other origin others names = find (λ name. among name others && not (is_own origin name)) names

-- whether the link's own login stands before the last of these
abbrev pub is_login_not_last : Origin → List (List ℕ) → Bool
is_login_not_last origin names = list_any (is_own origin) (take (length names - 1) names)

-- the drops by what is given
unfoldable pub given_drops : PartsSeen → Origin → List ℕ → List Via → List (Option QDrop)
given_drops parts origin server given =
    when (is_unverified origin && not (same parts.source (name_of origin))) drop_for.Unverified
    ∷ when (is_submission origin && list_any bars (before given)) drop_for.NoGate
    ∷ when (is_submission origin && begins_with (byte "}") parts.body) drop_for.ThirdParty
    ∷ when (is_submission origin && begins_with (byte "?") parts.body) drop_for.Query
    ∷ when (same (construct_of given) (codes "qAZ")) drop_for.QAZ
    ∷ when (among server (names_after given)) drop_for.NamesServer
    ∷ []

-- the drops by the path that is built
unfoldable pub built_drops : Origin → List ℕ → List (List ℕ) → Bool → List Via → List (Option QDrop)
built_drops origin server others checked path =
    let names = names_after path in
    only_if checked (when (among server names) drop_for.NamesServer)
    ∷ only_if checked (option_map drop_for.Twice (first_twice [] names))
    ∷ only_if checked (option_map drop_for.OtherLogin (first_other origin others names))
    ∷ only_if checked (when (is_login_not_last origin names) drop_for.LoginNotLast)
    ∷ []

-- 32 elements at most, and 510 bytes
abbrev pub is_long : PartsSeen → Bool
is_long parts = nat_lt 32 (length parts.vias) || nat_lt 510 (length (text_of parts))

-- the packet as it goes on, or the first drop
unfoldable pub process_of : PartsSeen → Origin → List ℕ → List (List ℕ) → Result PartsSeen QDrop
process_of parts origin server others = do
  given ← Ok (given_path parts.vias)
  _ ← refused (given_drops parts origin server given)
  built ← Ok (built_row parts.source origin server given)
  _ ← refused (built_drops origin server others built.checked built.path)
  whole ← Ok (with_path parts (traced (name_of origin) server built.path))
  if is_long whole then Err drop_for.Long else Ok whole
