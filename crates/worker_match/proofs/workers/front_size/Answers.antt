-- A share by the whole quotient and by what is left is the share of all.
use Rattle.std.proofs.Common.{ap, sym, ◌∙◌, ◌+◌, ◌*◌, ◌/◌, ◌%◌}
use Rattle.std.proofs.Math.Nat.{add-mul, mul-add-div_right, mul_right_comm}
use Rattle.std.proofs.lemmas.Nat.{div-add-mod'}
use Rattle.worker_match.proofs.workers.front_size.Goals as goal

pub returns-clause-exact : goal.returns-clause-exact
returns-clause-exact c =
    let links = c.args.links in
    let parts = c.args.parts in
    let workers = c.args.workers in
    sym (mul-add-div_right c.requires.0 (links / workers * parts) (links % workers * parts))
    ∙ ap (λ n. (n + links % workers * parts) / workers) (mul_right_comm (links / workers) parts workers)
    ∙ ap (λ n. n / workers) (sym (add-mul (links / workers * workers) (links % workers) parts))
    ∙ ap (λ n. n * parts / workers) (div-add-mod' links workers)
