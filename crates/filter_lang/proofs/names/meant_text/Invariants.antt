use Rattle.std.proofs.Common.{◌≡◌, take, map}
use Rattle.filter_lang.specs.Names.{meant}
use Rattle.filter_lang.proofs.names.meant_text.Given as goal

abbrev pub invariant-loop-byte : goal.invariant-loop-byte
invariant-loop-byte l = l.text.items ≡ map meant (take l.byte-index l.body)
