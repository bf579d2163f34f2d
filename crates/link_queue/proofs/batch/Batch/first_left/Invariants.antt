use Rattle.std.proofs.Common.{◌-◌, ◌<◌, ◌≤◌, length, take, drop}
use Rattle.link_queue.specs.Lines.{text_bytes}
use Rattle.link_queue.proofs.batch.Batch.first_left.Given as goal

-- the line lies from `low` to before `high`
abbrev pub invariant-loop-high : goal.invariant-loop-high
invariant-loop-high l =
    (l.fn.from ≤ l.low) × (l.low < l.high) × (l.high ≤ l.fn.to)
    × (length (text_bytes (take (l.low - l.fn.from) (drop l.fn.from l.self))) ≤ l.fn.taken)
    × (l.fn.taken < length (text_bytes (take (l.high - l.fn.from) (drop l.fn.from l.self))))

abbrev pub decreases-loop-high : goal.decreases-loop-high
decreases-loop-high l = l.high - l.low
