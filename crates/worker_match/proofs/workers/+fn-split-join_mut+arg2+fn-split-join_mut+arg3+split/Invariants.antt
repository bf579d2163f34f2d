use Rattle.worker_match.proofs.workers.+fn-split-join_mut+arg2+fn-split-join_mut+arg3+split.Given as goal

abbrev pub decreases-join_mut+arg2 : goal.decreases-join_mut+arg2
decreases-join_mut+arg2 g l = l.less

abbrev pub decreases-join_mut+arg3 : goal.decreases-join_mut+arg3
decreases-join_mut+arg3 g l = l.more

abbrev pub decreases-split : goal.decreases-split
decreases-split g l = l.workers
