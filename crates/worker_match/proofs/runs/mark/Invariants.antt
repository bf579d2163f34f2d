use Rattle.std.proofs.Common.{◌≡◌, drop}
use Rattle.std.specs.List.{fold}
use Rattle.worker_match.specs.Runs.{mark, mark_step}
use Rattle.worker_match.proofs.runs.mark.Given as goal

abbrev pub invariant-loop-byte : goal.invariant-loop-byte
invariant-loop-byte l = fold mark_step l.so_far (drop l.byte-index l.call) ≡ mark l.call
