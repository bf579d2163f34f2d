use Rattle.std.proofs.Common.{◌≡◌, ◌-◌, ◌++◌, map, filter}
use Rattle.std.specs.List.{range_with_len}
use Rattle.filter_lang.specs.Names.{spelled}
use Rattle.filter_lang.specs.Sets.{is_set, members_of}
use Rattle.filter_lang.proofs.writing.Canonical.members.Given as goal

abbrev pub invariant-loop-byte : goal.invariant-loop-byte
invariant-loop-byte l = l.self ++ map spelled (filter (is_set l.bits) (range_with_len l.byte (128 - l.byte))) ≡ l.initial.self ++ map spelled (members_of l.bits)
