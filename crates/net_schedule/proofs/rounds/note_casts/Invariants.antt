use Rattle.std.proofs.Common.{◌≡◌, drop, map}
use Rattle.std.specs.Arc.{arc_value}
use Rattle.net_schedule.specs.Rounds.{with_casts}
use Rattle.net_schedule.proofs.rounds.note_casts.Given as goal

abbrev pub invariant-loop-cast : goal.invariant-loop-cast
invariant-loop-cast l = with_casts (drop l.cast-index l.casts) (map arc_value l.lines.items) ≡ with_casts l.casts (map arc_value l.initial.lines.items)
