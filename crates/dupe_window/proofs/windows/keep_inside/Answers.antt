use Rattle.std.proofs.Common.{subst, sym}
use Rattle.std.proofs.lemmas.List.Kept.{IsNonDecreasingBy-filter}
use Rattle.std.proofs.lemmas.Map.Made.{IsDistinct-keys_filter}
use Rattle.dupe_window.specs.Digests.{PairsSeen}
use Rattle.dupe_window.specs.Keys.{is_same_key}
use Rattle.dupe_window.specs.Windows.{IsInOrder, is_inside_pair, moment_in}
use Rattle.dupe_window.proofs.windows.keep_inside.Goals as goal

pub returns-clause-order : goal.returns-clause-order
returns-clause-order c =
    subst (λ (seen : PairsSeen). IsInOrder seen.pairs) (sym c.keep_inside.ensures) (
      IsDistinct-keys_filter is_same_key (is_inside_pair c.args.seconds c.args.now) c.args.pairs.now.pairs c.requires.order.0,
      IsNonDecreasingBy-filter moment_in (is_inside_pair c.args.seconds c.args.now) c.args.pairs.now.pairs c.requires.order.1,
    )
