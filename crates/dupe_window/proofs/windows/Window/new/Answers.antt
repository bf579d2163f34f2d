use Rattle.std.proofs.Common.{◌*◌, ◌∙◌, ap, subst, sym}
use Rattle.std.specs.List.{list_all}
use Rattle.dupe_window.specs.Digests.{PairsSeen}
use Rattle.dupe_window.specs.Windows.{IsOnce, is_inside_pair, kept_pairs}
use Rattle.dupe_window.proofs.PartLemmas.{none_in_order}
use Rattle.dupe_window.proofs.windows.Window.new.Goals as goal

pub invariant_of-result : goal.invariant_of-result
invariant_of-result c =
    let pairs = λ (seen : PairsSeen). seen.pairs in
    let hasher = λ (seen : PairsSeen). seen.hasher in
    let late = none_in_order c.new-2.result.pairs (ap pairs c.new-2.ensures) in (
      none_in_order c.new.result.pairs (ap pairs c.new.ensures),
      late,
      ap (λ (seen : PairsSeen). list_all (is_inside_pair (2 * c.args.seconds) 0) seen.pairs) c.new.ensures,
      subst (λ (seen : PairsSeen). IsOnce (kept_pairs c.args.seconds 0 seen.pairs c.new-2.result.pairs)) (sym c.new.ensures) late.0,
      ap hasher c.new.ensures ∙ sym (ap hasher c.new-2.ensures),
    )
