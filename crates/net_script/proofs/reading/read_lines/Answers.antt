use Rattle.std.proofs.Common.{sym, ap, ◌∙◌, arith}
use Rattle.net_script.specs.Grammar.{lines_of}
use Rattle.net_script.specs.Reading.{drafted}
use Rattle.net_script.proofs.GrowthLemmas.{drafted_on, grows_to}
use Rattle.net_script.proofs.reading.read_lines.Goals as goal

pub loop-rest-preserved : goal.loop-rest-preserved
loop-rest-preserved c =
    let said = c.in_default.ensures in
    let growth = grows_to c.loop-rest.number _ _ c.cut_line.result.0.now said in
    let held = c.loop-rest.invariant in
    let number = c.loop-rest.number in
    let behind = lines_of c.cut_line.result.1.now in (
      sym (drafted_on number c.loop-rest.script c.add_line.new.script c.cut_line.result.0.now behind said)
          ∙ ap (drafted number c.loop-rest.script) (sym c.cut_line.ensures.lines) ∙ held.0,
      omega (arith, held.1, c.cut_line.ensures.shorter),
      omega (arith, held.2, growth.servers),
      omega (arith, held.3, growth.pairs),
    )
