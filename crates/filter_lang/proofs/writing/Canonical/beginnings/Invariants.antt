use Rattle.std.proofs.Common.{◌≡◌, ◌++◌, drop, map}
use Rattle.filter_lang.specs.Names.{names_text, starless}
use Rattle.filter_lang.proofs.writing.Canonical.beginnings.Given as goal

abbrev pub invariant-loop-name : goal.invariant-loop-name
invariant-loop-name l = l.self ++ names_text (map starless (drop l.name-index l.names)) ≡ l.initial.self ++ names_text (map starless l.names)
