-- What the steps of the building answer.
use Rattle.std.specs.Prelude.{ℕ, ◌≡◌, Bool, true, false, List, ◌++◌}
use Rattle.aprs_base.specs.declared.packets.Via.{Via}
use Rattle.q_construct.specs.Rule.{Row, first_row, receive_rows}
use Rattle.q_construct.specs.declared.building.Built.{Built}

-- the path of this row
abbrev pub IsBuilt : Built → Row → Type 0
IsBuilt built row = (built.path.items ≡ row.path) × (built.checked ≡ row.checked)

-- the row that fits of a gateway's and of those that follow, or that none of a gateway's fits
abbrev pub Receives : Bool → Built → Bool → List ℕ → List Via → Type 0
Receives true built relays login given = (rest : List Row) → IsBuilt built (first_row (receive_rows relays login given ++ rest))
Receives false built relays login given = (rest : List Row) → first_row (receive_rows relays login given ++ rest) ≡ first_row rest
