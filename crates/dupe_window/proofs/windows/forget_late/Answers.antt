use Rattle.std.proofs.Common.{◌≡◌, true, false, ap, sym, rules}
use Rattle.std.specs.List.{list_all, list_any}
use Rattle.dupe_window.specs.Windows.{is_inside_pair, kept_pairs}
use Rattle.dupe_window.proofs.PartLemmas.{turned}
use Rattle.dupe_window.proofs.WindowLemmas.{filter_whole}
use Rattle.dupe_window.proofs.windows.forget_late.Goals as goal

pub returns-then-all_inside-clause-kept : goal.returns-then-all_inside-clause-kept
returns-then-all_inside-clause-kept c =
    let all : list_all (is_inside_pair c.args.seconds c.args.now) c.args.late.now.pairs ≡ true = search rules in
    ap (kept_pairs c.args.seconds c.args.last c.args.older.now.pairs) (sym (filter_whole _ _ all))

pub returns-then-not-any_inside-clause-kept : goal.returns-then-not-any_inside-clause-kept
returns-then-not-any_inside-clause-kept c =
    let none : list_any (is_inside_pair c.args.seconds c.args.now) c.args.older.now.pairs ≡ false = search rules in
    let at : c.args.last ≡ c.args.now = search rules in
    let parts = turned c.args.seconds c.args.now c.args.older.now.pairs c.args.late.now.pairs none in
    rw (at, c.turn.ensures.older, c.turn.ensures.late) parts
