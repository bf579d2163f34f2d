-- Which packets a filter passes (aprs-is.net, Server-side Filter Commands).
use Rattle.std.specs.Prelude.{ℕ, ℤ, int_le, ◌+◌, ◌-◌, ◌==◌, ◌&&◌, ◌||◌, Bool, false, not, nat_lt, bit_and, List, [], ◌∷◌, take, slice_get, Option, Some, None, option_map, if◌then◌else◌}
use Rattle.std.specs.List.{list_any, starts_with, zip}
use Rattle.std.specs.Option.{option_and_then}
use Rattle.std.specs.Str.{byte}
use Rattle.std.specs.Cmp.Lexicographic.{pointwise}
use Rattle.aprs_base.specs.PacketSeen.{PacketSeen}
use Rattle.aprs_base.specs.PartsSeen.{PartsSeen}
use Rattle.aprs_base.specs.declared.packets.Place.{Place}
use Rattle.aprs_base.specs.declared.packets.Via.{Via}
use Rattle.tnc2_line.specs.Packet.{construct_at}
use Rattle.aprs_body.specs.Classes.{message_bit, position_bit}
use Rattle.fixed_distance.specs.Distance.{is_within}
use Rattle.filter_lang.specs.Parts.{is_empty}
use Rattle.filter_lang.specs.Seen.{NameSeen}
use Rattle.filter_lang.specs.Sets.{has}
use Rattle.filter_lang.specs.Terms.{TermSeen}
use Rattle.filter_lang.specs.declared.terms.What.{What}
use Rattle.filter_lang.specs.declared.terms.What.TheVariants as what
use Rattle.filter_eval.specs.declared.seen.Seen.{Seen}

-- for how long a position counts, in seconds: two days
abbrev pub position_age : ℕ
position_age = 172800

-- a moment less than two days before
abbrev pub is_young : ℕ → ℕ → Bool
is_young now moment = nat_lt (now - moment) position_age

abbrev pub is_fresh : ℕ → Seen → Bool
is_fresh now seen = is_young now seen.moment

abbrev pub fresh : ℕ → Option Seen → Option Seen
fresh now None = None
fresh now (Some seen) = if is_fresh now seen then Some seen else None

abbrev pub place_seen : Seen → Place
place_seen seen = seen.place

-- where that was
abbrev pub fresh_place : ℕ → Option Seen → Option Place
fresh_place now seen = option_map place_seen (fresh now seen)

-- what is known of stations where a packet is tested: where the link's login and the packet's source were last seen, and
-- whether that source is a gate
pub record Sight : Type 0 where
  pub mine : Option Place
  pub source : Option Place
  pub gate : Bool

-- ---- names

abbrev pub is_text : List ℕ → List ℕ → Bool
is_text a b = pointwise ◌==◌ a b

abbrev pub begins_with : List ℕ → NameSeen → Bool
begins_with text name = starts_with ◌==◌ text name.text

-- a wild name matches what it is a beginning of
abbrev pub matches : List ℕ → NameSeen → Bool
matches text name = if name.wild then begins_with text name else is_text text name.text

abbrev pub matches_one : List NameSeen → List ℕ → Bool
matches_one names text = list_any (matches text) names

abbrev pub is_some_and : {A : Type 0} → (A → Bool) → Option A → Bool
is_some_and test None = false
is_some_and test (Some x) = test x

-- ---- places

-- a place within so many kilometres of a point
abbrev pub is_by : ℤ → ℤ → ℕ → Option Place → Bool
is_by lat lon km None = false
is_by lat lon km (Some place) = is_within lat lon place.lat place.lon km

-- two places that are known and within so many kilometres of each other
abbrev pub is_near : Option Place → ℕ → Option Place → Bool
is_near None km place = false
is_near (Some centre) km place = is_by centre.lat centre.lon km place

unfoldable pub is_from_to : ℤ → ℤ → ℤ → Bool
is_from_to low high z = int_le low z && int_le z high

-- a longitude from west to east, by the way over the 180th degree where west is greater
unfoldable pub is_between : ℤ → ℤ → ℤ → Bool
is_between west east lon = if int_le west east then is_from_to west east lon else int_le west lon || int_le lon east

abbrev pub is_inside : ℤ → ℤ → ℤ → ℤ → Place → Bool
is_inside north west south east place = is_from_to south north place.lat && is_between west east place.lon

-- a symbol of the first table by its code; of another by its code and, where tables are given, its table
abbrev pub is_shown : List ℕ → List ℕ → List ℕ → Place → Bool
is_shown pri alt over place =
    if place.table == byte "/" then has pri place.code else has alt place.code && (is_empty over || has over place.table)

-- ---- classes

abbrev pub has_class : ℕ → ℕ → Bool
has_class class mask = not (bit_and class mask == 0)

-- the packet's own place, or else where its source was last seen
abbrev pub place_or : Option Place → Option Place → Option Place
place_or None known = known
place_or (Some place) known = Some place

-- ---- the path and its construct (aprs-is.net, q Construct)

abbrev pub before : List Via → Option ℕ → List Via
before vias None = []
before vias (Some place) = take place vias

-- the elements before the construct
abbrev pub before_construct : PartsSeen → List Via
before_construct parts = before parts.vias (construct_at parts)

abbrev pub call_of : Via → List ℕ
call_of via = via.call

abbrev pub call_at : PartsSeen → ℕ → Option (List ℕ)
call_at parts place = option_map call_of (slice_get parts.vias place)

-- the call right after the construct
abbrev pub entry_of : PartsSeen → Option (List ℕ)
entry_of parts = option_and_then (λ place. call_at parts (place + 1)) (construct_at parts)

abbrev pub third : List ℕ → Option ℕ
third call = slice_get call 2

-- the construct's letter, its third byte
abbrev pub letter_of : PartsSeen → Option ℕ
letter_of parts = option_and_then third (option_and_then (call_at parts) (construct_at parts))

abbrev pub has_star : Via → Bool
has_star via = via.star

abbrev pub matches_via : List NameSeen → Via → Bool
matches_via names via = matches_one names via.call

-- an element that was used, which has `*` or stands before one that has, and matches
abbrev pub used_match : List NameSeen → List Via → Bool
used_match names [] = false
used_match names (via ∷ vias) = (matches_via names via && list_any has_star (via ∷ vias)) || used_match names vias

-- a construct of one of these letters, or, where gates are asked for too, a position of a gate
abbrev pub comes_by : PacketSeen → Bool → List ℕ → Bool → Bool
comes_by packet gate letters gates =
    is_some_and (has letters) (letter_of packet.parts) || (gates && has_class packet.body.class position_bit && gate)

-- ---- terms

-- whether a packet is what a term asks for, with what is known of the call that the term names
unfoldable pub fits : PacketSeen → Sight → Option Place → What → Bool
fits packet sight friend (what.Range lat lon km) = is_by lat lon km packet.body.place
fits packet sight friend (what.Prefix names) = list_any (begins_with packet.parts.source) names
fits packet sight friend (what.Buddy names) = matches_one names packet.parts.source
fits packet sight friend (what.Object names) = is_some_and (matches_one names) packet.body.name
fits packet sight friend (what.Class mask) = has_class packet.body.class mask
fits packet sight friend (what.ClassNear mask call km) =
    has_class packet.body.class mask && is_near friend km (place_or packet.body.place sight.source)
fits packet sight friend (what.Symbol pri alt over) = is_some_and (is_shown pri alt over) packet.body.place
fits packet sight friend (what.Digi names) = used_match names (before_construct packet.parts)
fits packet sight friend (what.Entry names) = is_some_and (matches_one names) (entry_of packet.parts)
fits packet sight friend (what.Group names) = has_class packet.body.class message_bit && is_some_and (matches_one names) packet.body.to
fits packet sight friend (what.Dest names) = matches_one names packet.parts.dest
fits packet sight friend (what.Friend call km) = is_near friend km packet.body.place
fits packet sight friend (what.Mine km) = is_near sight.mine km packet.body.place
fits packet sight friend (what.Area north west south east) = is_some_and (is_inside north west south east) packet.body.place
fits packet sight friend (what.Construct letters gates) = comes_by packet sight.gate letters gates

-- whether a packet fits a term, which is given with where its call was last seen
abbrev pub term_fits : PacketSeen → Sight → TermSeen × Option Seen → Bool
term_fits packet sight term = fits packet sight (fresh_place packet.moment term.1) term.0.what

abbrev pub is_passing : PacketSeen → Sight → TermSeen × Option Seen → Bool
is_passing packet sight term = not term.0.exclude && term_fits packet sight term

abbrev pub is_excluding : PacketSeen → Sight → TermSeen × Option Seen → Bool
is_excluding packet sight term = term.0.exclude && term_fits packet sight term

-- an ordinary term fits, and no excluding one
abbrev pub passes_in : PacketSeen → Sight → List (TermSeen × Option Seen) → Bool
passes_in packet sight terms = list_any (is_passing packet sight) terms && not (list_any (is_excluding packet sight) terms)

abbrev pub sight_at : ℕ → Option Seen → Option Seen → Bool → Sight
sight_at now mine known gate = record { mine = fresh_place now mine; source = fresh_place now known; gate = gate }

-- whether a filter passes a packet, where its terms' calls, the link's login and the packet's source were last seen as given
unfoldable pub passes_of : List TermSeen → PacketSeen → List (Option Seen) → Option Seen → Option Seen → Bool → Bool
passes_of terms packet friends mine known gate = passes_in packet (sight_at packet.moment mine known gate) (zip terms friends)
