-- What the steps of the reading answer.
use Rattle.std.specs.Prelude.{ℕ, ◌≡◌, List, [], Option, Some, None, Result, Ok, Err}
use Rattle.std.specs.List.{slice_split}
use Rattle.aprs_base.specs.declared.packets.Via.{Via}
use Rattle.tnc2_line.specs.Packet.{checked_path, head_of, is_comma, vias_of}
use Rattle.aprs_base.specs.ResultSteps.{◌>>=◌}
use Rattle.tnc2_line.specs.declared.reading.LineFault.{LineFault}

-- the texts between the commas of a text, and none where there is no text
abbrev pub pieces_of : Option (List ℕ) → List (List ℕ)
pieces_of None = []
pieces_of (Some text) = slice_split is_comma text

-- what a call answered, seen by `view`, is what the definition gives
abbrev pub Gives : {X Y : Type 0} → (X → Y) → Result X LineFault → Result Y LineFault → Type 0
Gives view (Ok x) read = read ≡ Ok (view x)
Gives view (Err fault) read = read ≡ Err fault

-- what a call left, where it gave no fault, is what the definition gives
abbrev pub Fills : {X Y E : Type 0} → Result X E → Y → Result Y E → Type 0
Fills (Ok _) left read = read ≡ Ok left
Fills (Err fault) left read = read ≡ Err fault

-- the path of these texts
abbrev pub path_at : List (List ℕ) → Result (List Via) LineFault
path_at texts = vias_of [] texts >>= checked_path

-- a head with these calls, and with the path of these texts
abbrev pub with_vias : List ℕ → List ℕ → List (List ℕ) → Result (List ℕ × List ℕ × List Via) LineFault
with_vias source dest texts = path_at texts >>= λ vias. Ok (source, dest, vias)

-- the calls that a head begins with, and the text of its path
abbrev pub Begins : {X : Type 0} → (X → Option (List ℕ)) → Result (List ℕ × List ℕ × X) LineFault → List ℕ → Type 0
Begins view (Ok calls) head = head_of head ≡ with_vias calls.0 calls.1 (pieces_of (view calls.2))
Begins view (Err fault) head = head_of head ≡ Err fault
