use Rattle.std.proofs.Common.{◌≡◌, length}
use Rattle.std.specs.Option.{option_map}
use Rattle.tnc2_line.specs.Packet.{vias_of}
use Rattle.tnc2_line.specs.Pieces.{pieces_of}
use Rattle.tnc2_line.proofs.reading.read_vias.Given as goal

-- what is read so far, followed by what the rest gives, is what the whole gives
abbrev pub invariant-loop-path : goal.invariant-loop-path
invariant-loop-path l =
    vias_of l.vias.items (pieces_of (option_map (λ rest. rest.now) l.path)) ≡ vias_of l.fn.vias.items (pieces_of (option_map (λ rest. rest.now) l.fn.first))

-- the pieces that are left
abbrev pub decreases-loop-path : goal.decreases-loop-path
decreases-loop-path l = length (pieces_of (option_map (λ rest. rest.now) l.path))
