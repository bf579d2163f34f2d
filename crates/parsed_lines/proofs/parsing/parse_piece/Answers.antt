use Rattle.parsed_lines.proofs.ParsedLemmas.{one_more_parsed}
use Rattle.parsed_lines.proofs.parsing.parse_piece.Goals as goal

pub loop-line-preserved : goal.loop-line-preserved
loop-line-preserved c =
    let before = c.loop-line in
    rw c.in_ok-push.ensures.items (one_more_parsed c.args.lines.now before.line-index c.line-item.result before.parsed.items c.parse.result
    c.loop-line-test.true c.line-item.is before.invariant c.parse.ensures)
