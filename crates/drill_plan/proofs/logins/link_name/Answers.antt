use Rattle.std.proofs.Common.{◌≡◌}
use Rattle.drill_plan.specs.Drill.{link_name}
use Rattle.drill_plan.proofs.NameLemmas.{name_is_call}
use Rattle.drill_plan.proofs.logins.link_name.Goals as goal

pub unwrap-requires : goal.unwrap-requires
unwrap-requires c =
    let e : c.bytes.result.now ≡ link_name c.args.link = simp (c.bytes.ensures.bytes, c.append_number.ensures.text, c.append.ensures, c.empty-name.ensures) in
    c.read.ensures.some.1 (rw e (name_is_call c.args.link c.requires))
