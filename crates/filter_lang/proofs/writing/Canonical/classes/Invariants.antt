use Rattle.std.proofs.Common.{◌≡◌, ◌++◌, drop}
use Rattle.filter_lang.specs.Sets.{mask_text, classes, letters_of}
use Rattle.filter_lang.proofs.writing.Canonical.classes.Given as goal

abbrev pub invariant-loop-letter : goal.invariant-loop-letter
invariant-loop-letter l = record {
  so_far : l.self ++ mask_text (drop l.letter-index classes) l.mask ≡ l.initial.self ++ letters_of l.mask;
  items : l.letter-items ≡ classes;
}
