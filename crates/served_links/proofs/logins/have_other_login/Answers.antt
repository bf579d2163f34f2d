use Rattle.std.proofs.Common.{◌≤◌, ap, arith, sym, ◌∙◌}
use Rattle.std.proofs.lemmas.Bool.{le-ltb}
use Rattle.q_construct.specs.Rule.{among}
use Rattle.served_links.specs.Counts.{having}
use Rattle.served_links.specs.Links.{here, other_here, others_at}
use Rattle.served_links.proofs.CountLemmas.{none_others}
use Rattle.served_links.proofs.HereLemmas.{others_here}
use Rattle.served_links.proofs.LoginLemmas.{any_of}
use Rattle.served_links.proofs.logins.have_other_login.Goals as goal

pub returns-then-count_login-gt0 : goal.returns-then-count_login-gt0
returns-then-count_login-gt0 c =
    let call = c.args.call.now in
    let number = c.args.number in
    c.any_other_has_login.ensures ∙ any_of call (other_here number) c.as_slice.result.now ∙ ap (among call) (others_here number c.as_slice.result.now)
    ∙ ap (λ links. among call (others_at number (here links))) c.as_slice.ensures.value

pub returns-else-count_login-gt0 : goal.returns-else-count_login-gt0
returns-else-count_login-gt0 c =
    let call = c.args.call.now in
    let number = c.args.number in
    let links = c.args.links.now in
    let few = c.if-count_login-gt0.false in
    let none : having call links ≤ 0 = omega (arith, few, c.count_login.ensures) in
    le-ltb 0 c.count_login.result few ∙ sym (none_others number call links none) ∙ any_of call (other_here number) links ∙ ap (among call) (others_here number links)
