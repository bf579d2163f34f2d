use Rattle.std.proofs.Common.{◌≡◌, take}
use Rattle.server_core.proofs.reach.copy_casts.Given as goal

abbrev pub invariant-loop-cast : goal.invariant-loop-cast
invariant-loop-cast l = l.copies.items ≡ take l.cast-index l.casts
