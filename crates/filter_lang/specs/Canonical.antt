-- The canonical text of a filter (aprs-is.net, Server-side Filter Commands).
use Rattle.std.specs.Prelude.{ℕ, ℤ, ◌&&◌, Bool, List, [], ◌∷◌, ◌++◌, map, if◌then◌else◌}
use Rattle.std.specs.Str.{byte}
use Rattle.std.specs.Fmt.{decimal}
use Rattle.filter_lang.specs.declared.terms.What.{What}
use Rattle.filter_lang.specs.declared.terms.What.TheVariants as what
use Rattle.filter_lang.specs.Terms.{TermSeen}
use Rattle.filter_lang.specs.Parts.{is_empty}
use Rattle.filter_lang.specs.Numbers.{degrees_text}
use Rattle.filter_lang.specs.Names.{names_text, starless, spelled}
use Rattle.filter_lang.specs.Sets.{letters_of}

-- a field after its slash
abbrev pub field : List ℕ → List ℕ
field text = byte "/" ∷ text

abbrev pub near_text : List ℕ → ℕ → List ℕ
near_text call km = field call ++ field (decimal km)

abbrev pub set_text : List ℕ → List ℕ
set_text set = field (map spelled set)

-- the sets of a symbol without the empty ones at the end
abbrev pub over_text : List ℕ → List ℕ
over_text over = if is_empty over then [] else set_text over

abbrev pub alt_text : List ℕ → List ℕ → List ℕ
alt_text alt over = if is_empty alt && is_empty over then [] else set_text alt ++ over_text over

abbrev pub symbols_text : List ℕ → List ℕ → List ℕ → List ℕ
symbols_text pri alt over = set_text pri ++ alt_text alt over

abbrev pub classes_text : ℕ → List ℕ
classes_text mask = field (letters_of mask)

abbrev pub gates_text : Bool → List ℕ
gates_text gates = if gates then field (byte "I" ∷ []) else []

abbrev pub point_text : ℤ → ℤ → List ℕ
point_text lat lon = field (degrees_text lat) ++ field (degrees_text lon)

-- the letter of a term
abbrev pub kind_letter : What → ℕ
kind_letter (what.Range lat lon km) = byte "r"
kind_letter (what.Prefix names) = byte "p"
kind_letter (what.Buddy names) = byte "b"
kind_letter (what.Object names) = byte "o"
kind_letter (what.Class mask) = byte "t"
kind_letter (what.ClassNear mask call km) = byte "t"
kind_letter (what.Symbol pri alt over) = byte "s"
kind_letter (what.Digi names) = byte "d"
kind_letter (what.Entry names) = byte "e"
kind_letter (what.Group names) = byte "g"
kind_letter (what.Dest names) = byte "u"
kind_letter (what.Friend call km) = byte "f"
kind_letter (what.Mine km) = byte "m"
kind_letter (what.Area north west south east) = byte "a"
kind_letter (what.Construct letters gates) = byte "q"

-- its fields, each after its slash
abbrev pub what_fields : What → List ℕ
what_fields (what.Range lat lon km) = point_text lat lon ++ field (decimal km)
what_fields (what.Prefix names) = names_text (map starless names)
what_fields (what.Buddy names) = names_text names
what_fields (what.Object names) = names_text names
what_fields (what.Class mask) = classes_text mask
what_fields (what.ClassNear mask call km) = classes_text mask ++ near_text call km
what_fields (what.Symbol pri alt over) = symbols_text pri alt over
what_fields (what.Digi names) = names_text names
what_fields (what.Entry names) = names_text names
what_fields (what.Group names) = names_text names
what_fields (what.Dest names) = names_text names
what_fields (what.Friend call km) = near_text call km
what_fields (what.Mine km) = field (decimal km)
what_fields (what.Area north west south east) = point_text north west ++ point_text south east
what_fields (what.Construct letters gates) = set_text letters ++ gates_text gates

abbrev pub what_text : What → List ℕ
what_text w = kind_letter w ∷ what_fields w

unfoldable pub term_text : TermSeen → List ℕ
term_text t = if t.exclude then byte "-" ∷ what_text t.what else what_text t.what

-- each term after a blank
abbrev pub more_text : List TermSeen → List ℕ
more_text [] = []
more_text (t ∷ terms) = (byte " " ∷ term_text t) ++ more_text terms

-- the terms in order, with one blank between
unfoldable pub canonical : List TermSeen → List ℕ
canonical [] = []
canonical (t ∷ terms) = term_text t ++ more_text terms
