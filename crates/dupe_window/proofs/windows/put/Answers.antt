use Rattle.std.proofs.Common.{◌++◌, ◌∷◌, [], subst, sym}
use Rattle.std.proofs.lemmas.List.{append_assoc}
use Rattle.dupe_window.specs.Digests.{PairsSeen}
use Rattle.dupe_window.specs.Windows.{IsInOrder, IsOnce}
use Rattle.dupe_window.proofs.PartLemmas.{once_push}
use Rattle.dupe_window.proofs.WindowLemmas.{rising_push}
use Rattle.dupe_window.proofs.windows.put.Goals as goal

pub returns-clause-order : goal.returns-clause-order
returns-clause-order c =
    subst (λ (seen : PairsSeen). IsInOrder seen.pairs) (sym c.in_ok-push.ensures.ok) (
      once_push c.args.pairs.now.pairs c.args.key.now.key c.args.now c.requires.order.0 c.requires.new,
      rising_push c.args.pairs.now.pairs c.args.key.now.key c.args.now c.requires.later c.requires.order.1,
    )

pub returns-clause-once : goal.returns-clause-once
returns-clause-once c before once new =
    subst (λ (seen : PairsSeen). IsOnce (before ++ seen.pairs)) (sym c.in_ok-push.ensures.ok)
    (subst IsOnce (append_assoc before c.args.pairs.now.pairs ((c.args.key.now.key, c.args.now) ∷ [])) (once_push (before ++ c.args.pairs.now.pairs) c.args.key.now.key c.args.now once new))
