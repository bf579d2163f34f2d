-- Packet lines: the reading of a text as a function of the whole text, and the texts of parts as a relation.
use Rattle.std.specs.Prelude.{ℕ, ◌+◌, ◌==◌, ◌&&◌, ◌||◌, ◌≡◌, Bool, if◌then◌else◌, nat_le, nat_lt, not, List, [], ◌∷◌, ◌++◌, length, IsTrue, Option, Some, None, Result, Ok, Err, count_by, position}
use Rattle.std.specs.List.{list_all, list_any, before_first, after_first, slice_split, flat_map}
use Rattle.std.specs.Option.{ok_or, option_and_then}
use Rattle.std.specs.Str.{byte}
use Rattle.aprs_base.specs.Bytes.{is_call, is_construct, is_inner}
use Rattle.aprs_base.specs.declared.packets.Via.{Via}
use Rattle.aprs_base.specs.PartsSeen.{PartsSeen}
use Rattle.aprs_base.specs.ResultSteps.{◌>>=◌}
use Rattle.tnc2_line.specs.declared.reading.LineFault.{LineFault}
use Rattle.tnc2_line.specs.declared.reading.LineFault.TheVariants as fault

abbrev pub is_colon : ℕ → Bool
is_colon b = b == byte ":"

abbrev pub is_arrow : ℕ → Bool
is_arrow b = b == byte ">"

abbrev pub is_comma : ℕ → Bool
is_comma b = b == byte ","

abbrev pub is_star : ℕ → Bool
is_star b = b == byte "*"

-- ---- the texts of parts (aprs-is.net, Connecting)

-- an element: its call, and perhaps `*`
abbrev pub via_text : Via → List ℕ
via_text via = via.call ++ (if via.star then byte "*" ∷ [] else [])

-- an element with the comma before it
abbrev pub with_comma : Via → List ℕ
with_comma via = byte "," ∷ via_text via

-- source, `>`, destination, the elements, `:`, body
unfoldable pub text_of : PartsSeen → List ℕ
text_of parts = parts.source ++ (byte ">" ∷ (parts.dest ++ (flat_map with_comma parts.vias ++ (byte ":" ∷ parts.body))))

-- an element whose call is a construct (aprs-is.net, q Construct)
abbrev pub names_construct : Via → Bool
names_construct via = is_construct via.call

abbrev pub is_element : Via → Bool
is_element via = is_call via.call

abbrev pub has_no_star : Via → Bool
has_no_star via = not via.star

-- the path from its first construct on
abbrev pub from_construct : List Via → List Via
from_construct [] = []
from_construct (via ∷ vias) = if names_construct via then via ∷ vias else from_construct vias

-- a path: 32 elements at most, one construct at most, and no `*` on a construct or after it
abbrev pub is_path : List Via → Bool
is_path vias = nat_le (length vias) 32 && list_all is_element vias && nat_le (count_by names_construct vias) 1 && list_all has_no_star (from_construct vias)

-- parts of some text, of whatever length
unfoldable pub is_parts : PartsSeen → Bool
is_parts parts =
    is_call parts.source && is_call parts.dest && is_path parts.vias && nat_le 1 (length parts.body) && list_all is_inner parts.body

abbrev pub IsParts : PartsSeen → Type 0
IsParts parts = IsTrue (is_parts parts)

-- a packet: a text, and its parts
pub record IsPacket (line : List ℕ) (parts : PartsSeen) : Type 0 where
  pub spelled : text_of parts ≡ line
  pub sound : IsParts parts

-- the place of the first construct in the path, an element `qA` and one letter without `*`
abbrev pub is_construct_via : Via → Bool
is_construct_via via = names_construct via && has_no_star via

abbrev pub construct_at : PartsSeen → Option ℕ
construct_at parts = position is_construct_via parts.vias

-- ---- the reading of a text, with the first fault

-- the text before and the text after its first such byte, where there is one
abbrev pub cut_at : (ℕ → Bool) → List ℕ → Option (List ℕ × List ℕ)
cut_at test text = if list_any test text then Some (before_first test text, after_first test text) else None

abbrev pub call_of : LineFault → List ℕ → Result (List ℕ) LineFault
call_of fault text = if is_call text then Ok text else Err fault

-- the element that a text is: a call, and perhaps `*`
unfoldable pub via_of : List ℕ → Option Via
via_of text =
    let call = before_first is_star text in
    if is_call call && nat_le (length text) (length call + 1) then Some (record { call = call; star = list_any is_star text }) else None

-- whether the element may follow these: they are not 32 yet, and it has no `*` on a construct or after one
abbrev pub may_follow : List Via → Via → Bool
may_follow earlier via = nat_lt (length earlier) 32 && not (via.star && (names_construct via || list_any names_construct earlier))

abbrev pub next_via : List Via → List ℕ → Option Via
next_via earlier text = option_and_then (λ via. if may_follow earlier via then Some via else None) (via_of text)

-- these elements and those of the texts, up to the first text that is none
abbrev pub vias_of : List Via → List (List ℕ) → Result (List Via) LineFault
vias_of earlier [] = Ok earlier
vias_of earlier (text ∷ texts) = ok_or (next_via earlier text) (fault.BadVia (length earlier + 1)) >>= λ via. vias_of (earlier ++ via ∷ []) texts

-- the destination and the elements, from the texts between the commas
abbrev pub path_of : List (List ℕ) → Result (List ℕ × List Via) LineFault
path_of [] = Err fault.BadDest
path_of (text ∷ texts) = do
  dest ← call_of fault.BadDest text
  vias ← vias_of [] texts
  Ok (dest, vias)

abbrev pub checked_path : List Via → Result (List Via) LineFault
checked_path vias = if nat_lt 1 (count_by names_construct vias) then Err fault.TwoConstructs else Ok vias

abbrev pub checked_body : List ℕ → Result (List ℕ) LineFault
checked_body text = if nat_lt 0 (length text) then Ok text else Err fault.NoBody

-- source, destination and path of a head: the first `>` ends the source, and the rest is parted by commas
unfoldable pub head_of : List ℕ → Result (List ℕ × List ℕ × List Via) LineFault
head_of head = do
  head_cut ← ok_or (cut_at is_arrow head) fault.NoArrow
  source ← call_of fault.BadSource head_cut.0
  path ← path_of (slice_split is_comma head_cut.1)
  vias ← checked_path path.1
  Ok (source, path.0, vias)

-- the parts of a line: the first `:` ends the head
unfoldable pub parts_of : List ℕ → Result PartsSeen LineFault
parts_of line = do
  line_cut ← ok_or (cut_at is_colon line) fault.NoColon
  head ← head_of line_cut.0
  body ← checked_body line_cut.1
  Ok (record { source = head.0; dest = head.1; vias = head.2; body = body })
