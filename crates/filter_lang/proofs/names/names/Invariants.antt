use Rattle.std.proofs.Common.{◌≡◌, ◌+◌, ◌++◌, length}
use Rattle.std.specs.Prelude.{option_map, option_copied}
use Rattle.std.specs.Option.{option_map_or}
use Rattle.filter_lang.specs.Names.{name_of}
use Rattle.filter_lang.specs.Parts.{all_by, fields_after, fields_of}
use Rattle.filter_lang.proofs.names.names.Given as goal

abbrev pub invariant-loop-rest : goal.invariant-loop-rest
invariant-loop-rest l = option_map (λ more. l.list.items ++ more) (all_by name_of (fields_after (option_copied l.rest))) ≡ all_by name_of (fields_of l.fn.text)

abbrev pub decreases-loop-rest : goal.decreases-loop-rest
decreases-loop-rest l = option_map_or (λ x. length x.now + 1) l.rest 0
