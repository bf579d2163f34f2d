use Rattle.std.proofs.Common.{◌≡◌, ◌++◌, take, map}
use Rattle.filter_lang.specs.Names.{spelled}
use Rattle.filter_lang.proofs.writing.Canonical.spelled.Given as goal

abbrev pub invariant-loop-byte : goal.invariant-loop-byte
invariant-loop-byte l = l.self-inside.text.items ≡ l.fn.self ++ map spelled (take l.byte-index l.text)
