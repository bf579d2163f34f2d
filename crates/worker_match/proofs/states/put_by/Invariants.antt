use Rattle.std.proofs.Common.{◌≡◌, take}
use Rattle.worker_match.specs.Feeds.{put_in}
use Rattle.worker_match.proofs.states.put_by.Given as goal

abbrev pub invariant-loop-state : goal.invariant-loop-state
invariant-loop-state l = l.sum ≡ put_in (take l.state-index l.states)
