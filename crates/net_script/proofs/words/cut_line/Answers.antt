use Rattle.std.proofs.Common.{◌+◌, ◌-◌, take, drop, length, arith, ap, ◌∙◌}
use Rattle.login_pass.proofs.Cuts.{uncut, cut}
use Rattle.net_script.specs.Grammar.{ended, is_feed}
use Rattle.net_script.proofs.LineLemmas.{line_first, line_last}
use Rattle.net_script.proofs.words.cut_line.Goals as goal

pub returns-then-end-text-clause-lines : goal.returns-then-end-text-clause-lines
returns-then-end-text-clause-lines c = ap ended (uncut is_feed c.args.text.now (omega arith)) ∙ line_last c.args.text.now c.requires

pub returns-clause-lines : goal.returns-clause-lines
returns-clause-lines c =
    let place = c.first_place-end.result in
    let rest = take (length c.args.text.now - (place + 1)) (drop (place + 1) c.args.text.now) in
    ap ended (cut is_feed c.args.text.now place c.first_place-end.ensures.place (omega arith))
    ∙ line_first (take place c.args.text.now) rest
