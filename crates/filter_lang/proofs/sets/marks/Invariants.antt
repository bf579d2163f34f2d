use Rattle.std.proofs.Common.{◌≡◌, ℕ, take, map}
use Rattle.filter_lang.specs.Names.{meant}
use Rattle.filter_lang.specs.Sets.{has, is_set}
use Rattle.filter_lang.proofs.sets.marks.Given as goal

abbrev pub invariant-loop-byte : goal.invariant-loop-byte
invariant-loop-byte l = (k : ℕ) → is_set l.bits k ≡ has (map meant (take l.byte-index l.text)) k
