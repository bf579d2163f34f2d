use Rattle.std.proofs.Common.{◌≡◌, Some, None, Option, ℕ, ◌∙◌, ap, sym}
use Rattle.std.specs.Map.{lookup}
use Rattle.std.specs.Option.{option_or}
use Rattle.dupe_window.specs.Keys.{is_same_key}
use Rattle.dupe_window.specs.Windows.{if_inside}
use Rattle.dupe_window.proofs.PartLemmas.{lookup-kept_pairs}
use Rattle.dupe_window.proofs.windows.kept_at.Goals as goal

pub returns-in-Some : goal.returns-in-Some
returns-in-Some c =
    let older : Option ℕ = if_inside c.args.seconds c.args.last (lookup (is_same_key c.args.key.now.key) c.args.older.now.pairs) in
    let told : lookup (is_same_key c.args.key.now.key) c.args.late.now.pairs ≡ Some c.in-Some.moment = sym c.moment_of.ensures ∙ c.in-Some.is in
    sym (lookup-kept_pairs c.args.seconds c.args.last c.args.key.now.key c.args.older.now.pairs c.args.late.now.pairs c.requires.order.0 c.requires.once ∙ ap (λ o. option_or o older) told)

pub returns-in-None : goal.returns-in-None
returns-in-None c =
    let older : Option ℕ = if_inside c.args.seconds c.args.last (lookup (is_same_key c.args.key.now.key) c.args.older.now.pairs) in
    let told : lookup (is_same_key c.args.key.now.key) c.args.late.now.pairs ≡ None = sym c.moment_of.ensures ∙ c.in-None.is in
    c.if_inside.ensures ∙ ap (if_inside c.args.seconds c.args.last) c.moment_of-in-None.ensures
    ∙ sym (lookup-kept_pairs c.args.seconds c.args.last c.args.key.now.key c.args.older.now.pairs c.args.late.now.pairs c.requires.order.0 c.requires.once ∙ ap (λ o. option_or o older) told)
