use Rattle.std.proofs.Common.{◌≡◌, None, is_some, true, ◌∙◌, ap, filter, rules, sym}
use Rattle.dupe_window.specs.Digests.{PairsSeen}
use Rattle.dupe_window.specs.Keys.{is_same_key}
use Rattle.dupe_window.specs.Windows.{is_inside_pair, kept_at}
use Rattle.dupe_window.proofs.PartLemmas.{not_late}
use Rattle.dupe_window.proofs.WindowLemmas.{seen_at-kept, with_new-seen}
use Rattle.dupe_window.proofs.windows.Window.note.Goals as goal

pub put-requires-clause-new : goal.put-requires-clause-new
put-requires-clause-new c =
    let fields = c.self.inside in
    let none : c.kept_at-kept.result ≡ None = search rules in
    not_late (is_same_key c.digested-key.result.key) (filter (is_inside_pair fields.seconds fields.last) fields.older.pairs) fields.late.pairs (sym c.kept_at-kept.ensures ∙ none)

pub invariant_of-self : goal.invariant_of-self
invariant_of-self c =
    let fields = c.self.inside in
    let none : c.kept_at-kept.result ≡ None = search rules in (
      c.self.invariant.0,
      c.put.ensures.order,
      c.self.invariant.2,
      c.put.ensures.once (filter (is_inside_pair fields.seconds fields.last) fields.older.pairs) c.self.invariant.3 (sym c.kept_at-kept.ensures ∙ none),
      c.self.invariant.4 ∙ sym (ap (λ (seen : PairsSeen). seen.hasher) c.in_ok-put.ensures.ok),
    )

pub returns-else-is_none-clause-seen : goal.returns-else-is_none-clause-seen
returns-else-is_none-clause-seen c =
    let kept : c.kept_at-kept.result ≡ kept_at c.args.self.now c.args.key.now = search rules in
    kept ∙ sym (seen_at-kept c.args.now c.args.key.now c.args.self.now c.requires.inside)

pub returns-else-is_none-clause-ok : goal.returns-else-is_none-clause-ok
returns-else-is_none-clause-ok c =
    let kept : c.kept_at-kept.result ≡ kept_at c.args.self.now c.args.key.now = search rules in
    let some : is_some c.kept_at-kept.result ≡ true = search rules in
    with_new-seen c.args.key.now c.args.now c.args.self.now (ap is_some (seen_at-kept c.args.now c.args.key.now c.args.self.now c.requires.inside ∙ sym kept) ∙ some)
