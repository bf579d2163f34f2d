-- How the bytes of a link are cut into lines: at each CR and each LF, empty lines left out,
-- and a line of more than 510 bytes as one long line (aprs-is.net, Connecting).
use Rattle.std.specs.Prelude.{ℕ, List, [], ◌∷◌, ◌++◌, length, nat_lt, if◌then◌else◌, Option, Some, None}
use Rattle.std.specs.List.{slice_split, filter_map}
use Rattle.aprs_base.specs.Bytes.{is_line_end}
use Rattle.aprs_base.specs.declared.cutting.Cut.{Cut}
use Rattle.aprs_base.specs.declared.cutting.Cut.TheVariants as cut

-- the pieces between the line ends, the last one being what no end has followed yet
abbrev pub pieces_of : List ℕ → List (List ℕ)
pieces_of bytes = slice_split is_line_end bytes

-- all but the last of a list, and its last
abbrev pub all_but_last : List (List ℕ) → List (List ℕ)
all_but_last [] = []
all_but_last (x ∷ []) = []
all_but_last (x ∷ y ∷ more) = x ∷ all_but_last (y ∷ more)

abbrev pub last_of : List (List ℕ) → List ℕ
last_of [] = []
last_of (x ∷ []) = x
last_of (x ∷ y ∷ more) = last_of (y ∷ more)

-- an ended line as it is handed on: nothing where it is empty
abbrev pub cut_of : List ℕ → Option Cut
cut_of [] = None
cut_of (b ∷ more) = if nat_lt 510 (length (b ∷ more)) then Some cut.Long else Some (cut.Line (b ∷ more))

-- the cuts that the bytes complete
abbrev pub cuts_of : List ℕ → List Cut
cuts_of bytes = filter_map cut_of (all_but_last (pieces_of bytes))

-- what follows the last line end
abbrev pub rest_of : List ℕ → List ℕ
rest_of bytes = last_of (pieces_of bytes)

-- the cuts that a piece completes, after the bytes that came before
abbrev pub cuts_by : List ℕ → List ℕ → List Cut
cuts_by before piece = cuts_of (rest_of before ++ piece)
