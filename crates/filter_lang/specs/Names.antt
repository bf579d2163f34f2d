-- Names, as filters spell them (aprs-is.net, Server-side Filter Commands).
use Rattle.std.specs.Prelude.{ℕ, ◌==◌, Bool, not, nat_le, nat_lt, ◌&&◌, ◌||◌, List, [], ◌∷◌, ◌++◌, length, map, Option, Some, None, if◌then◌else◌}
use Rattle.std.specs.List.{list_all}
use Rattle.std.specs.Str.{byte}
use Rattle.filter_lang.specs.Seen.{NameSeen}
use Rattle.filter_lang.specs.Parts.{is_empty, ends_in, without_last, all_by}

-- what a byte stands for, and how it is written
abbrev pub meant : ℕ → ℕ
meant b = if b == byte "|" then byte "/" else if b == byte "~" then byte "*" else b

abbrev pub spelled : ℕ → ℕ
spelled b = if b == byte "/" then byte "|" else if b == byte "*" then byte "~" else b

-- bytes above the blank that aren't `*`
abbrev pub is_plain : ℕ → Bool
is_plain b = nat_lt (byte " ") b && not (b == byte "*")

abbrev pub is_name : List ℕ → Bool → Bool
is_name body wild = list_all is_plain body && nat_le (length body) 9 && (wild || not (is_empty body))

abbrev pub name_if : List ℕ → Bool → Option NameSeen
name_if body wild = if is_name body wild then Some (record { text = map meant body; wild = wild }) else None

-- a name; one last `*` makes it wild
unfoldable pub name_of : List ℕ → Option NameSeen
name_of field = name_if (without_last (byte "*") field) (ends_in (byte "*") field)

-- one or more names
abbrev pub names_of : List (List ℕ) → Option (List NameSeen)
names_of fields = if is_empty fields then None else all_by name_of fields

-- where every name is a beginning, a last `*` says nothing but after no bytes
abbrev pub starless : NameSeen → NameSeen
starless n = record { text = n.text; wild = n.wild && is_empty n.text }

abbrev pub star_text : Bool → List ℕ
star_text wild = if wild then byte "*" ∷ [] else []

-- a name after its slash
abbrev pub name_text : NameSeen → List ℕ
name_text n = byte "/" ∷ (map spelled n.text ++ star_text n.wild)

abbrev pub names_text : List NameSeen → List ℕ
names_text [] = []
names_text (n ∷ names) = name_text n ++ names_text names
