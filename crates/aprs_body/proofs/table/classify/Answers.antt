use Rattle.std.proofs.Common.{subst, sym, ◌∙◌}
use Rattle.aprs_body.specs.Grammar.{IsBody}
use Rattle.aprs_body.proofs.SaidLemmas.{body_only, body_said}
use Rattle.aprs_body.proofs.table.classify.Goals as goal

pub returns-clause-said : goal.returns-clause-said
returns-clause-said c = subst (IsBody c.args.dest.now c.args.body.now) (sym c.look_up.ensures) (body_said c.args.dest.now c.args.body.now)

pub returns-clause-only : goal.returns-clause-only
returns-clause-only c = λ other is. c.look_up.ensures ∙ body_only c.args.dest.now c.args.body.now other is
