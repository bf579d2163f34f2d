use Rattle.std.proofs.Common.{◌≡◌, ◌*◌, ◌∙◌, ap, filter, subst, sym, true}
use Rattle.std.specs.List.{list_all}
use Rattle.dupe_window.specs.Digests.{PairsSeen}
use Rattle.dupe_window.specs.Windows.{is_inside_pair}
use Rattle.dupe_window.proofs.PartLemmas.{filter_twice, inside_twice, list_all-filter_weaker}
use Rattle.dupe_window.proofs.windows.drop_old.Goals as goal

pub returns-then-not-all_inside-clause-kept : goal.returns-then-not-all_inside-clause-kept
returns-then-not-all_inside-clause-kept c = ap (λ (seen : PairsSeen). filter (is_inside_pair c.args.seconds c.args.now) seen.pairs) c.keep_inside.ensures.kept ∙ filter_twice (is_inside_pair c.args.seconds c.args.now) c.args.pairs.now.pairs

pub returns-then-not-all_inside-clause-inside : goal.returns-then-not-all_inside-clause-inside
returns-then-not-all_inside-clause-inside c =
    subst (λ (seen : PairsSeen). list_all (is_inside_pair (2 * c.args.seconds) c.args.now) seen.pairs ≡ true) (sym c.keep_inside.ensures.kept)
    (list_all-filter_weaker (is_inside_pair c.args.seconds c.args.now) (is_inside_pair (2 * c.args.seconds) c.args.now) (λ pair. inside_twice c.args.seconds c.args.now pair.1) c.args.pairs.now.pairs)
