use Rattle.std.proofs.Common.{◌≡◌, ◌++◌, drop}
use Rattle.filter_lang.specs.Names.{names_text}
use Rattle.filter_lang.proofs.writing.Canonical.names.Given as goal

abbrev pub invariant-loop-name : goal.invariant-loop-name
invariant-loop-name l = l.self ++ names_text (drop l.name-index l.names) ≡ l.initial.self ++ names_text l.names
