use Rattle.std.proofs.Common.{◌≡◌, ◌++◌, drop}
use Rattle.filter_lang.specs.Canonical.{more_text}
use Rattle.filter_lang.proofs.writing.Canonical.more.Given as goal

abbrev pub invariant-loop-term : goal.invariant-loop-term
invariant-loop-term l = l.self ++ more_text (drop l.term-index l.terms) ≡ l.initial.self ++ more_text l.terms
