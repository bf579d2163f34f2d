-- Lists in pieces.
use Rattle.std.specs.Prelude.{List}
use Rattle.std.specs.List.{flat_map}
use Rattle.std.specs.declared.vec.Vec.{Vec}

-- what is in the pieces, in order
abbrev pub joined : {T A : Type 0} → List (Vec T A) → List T
joined pieces = flat_map (λ piece. piece.items) pieces
