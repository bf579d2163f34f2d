use Rattle.std.proofs.Common.{take}
use Rattle.std.specs.List.{AllZip}
use Rattle.parsed_lines.specs.Lines.{IsParsed}
use Rattle.parsed_lines.proofs.parsing.parse_piece.Given as goal

abbrev pub invariant-loop-line : goal.invariant-loop-line
invariant-loop-line l = AllZip IsParsed (take l.line-index l.lines) l.parsed.items
