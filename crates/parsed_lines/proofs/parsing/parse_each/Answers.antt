use Rattle.std.proofs.Common.{◌∙◌}
use Rattle.rayon.proofs.ListFacts.{IfOk-then}
use Rattle.parsed_lines.proofs.ParsedLemmas.{all_sound, each_parsed}
use Rattle.parsed_lines.specs.Pieces.{joined}
use Rattle.parsed_lines.proofs.parsing.parse_each.Goals as goal

pub returns-clause-exact : goal.returns-clause-exact
returns-clause-exact g c =
    let pieces = c.in_ok-pieces in
    IfOk-then c.join.result _ _ c.join.ensures (λ parsed h. h ∙ each_parsed c.args.lines.now (joined pieces.pieces.items) pieces.ensures)

pub returns-clause-sound : goal.returns-clause-sound
returns-clause-sound g c =
    let pieces = c.in_ok-pieces in
    IfOk-then c.join.result _ _ c.join.ensures (λ parsed h. rw h (all_sound c.args.lines.now (joined pieces.pieces.items) pieces.ensures))
