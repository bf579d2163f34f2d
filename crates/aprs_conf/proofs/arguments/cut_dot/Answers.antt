use Rattle.std.proofs.Common.{arith}
use Rattle.aprs_conf.specs.Arguments.{is_dot}
use Rattle.login_pass.proofs.Cuts.{uncut, cut}
use Rattle.aprs_conf.proofs.arguments.cut_dot.Goals as goal

pub returns-then-place-text : goal.returns-then-place-text
returns-then-place-text c = uncut is_dot c.args.text.now (omega arith)

pub returns-else-place-text : goal.returns-else-place-text
returns-else-place-text c = cut is_dot c.args.text.now c.first_place-place.result c.first_place-place.ensures.place (omega arith)
