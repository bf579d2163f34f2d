use Rattle.std.proofs.Common.{◌≡◌, ◌++◌, take, drop, map}
use Rattle.filter_lang.specs.Names.{starless}
use Rattle.filter_lang.proofs.names.without_stars.Given as goal

abbrev pub invariant-loop-name : goal.invariant-loop-name
invariant-loop-name l = l.name-items ≡ map starless (take l.name-index l.initial.name-items) ++ drop l.name-index l.initial.name-items
