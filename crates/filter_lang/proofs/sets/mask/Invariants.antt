use Rattle.std.proofs.Common.{◌≡◌, ◌+◌, drop}
use Rattle.filter_lang.specs.Sets.{mask_over, classes}
use Rattle.filter_lang.proofs.sets.mask.Given as goal

abbrev pub invariant-loop-letter : goal.invariant-loop-letter
invariant-loop-letter l = record {
  so_far : l.mask + mask_over (drop l.letter-index classes) l.letters ≡ mask_over classes l.letters;
  items : l.letter-items ≡ classes;
}
