use Rattle.std.proofs.Common.{◌≡◌, ◌+◌, true, drop}
use Rattle.std.specs.Char.{is_ascii_digit}
use Rattle.std.specs.List.{list_all}
use Rattle.filter_lang.specs.Numbers.{fraction_of, places}
use Rattle.filter_lang.proofs.numbers.fraction.Given as goal

abbrev pub invariant-loop-place : goal.invariant-loop-place
invariant-loop-place l = record {
  so_far : l.value + fraction_of (drop l.place-index places) l.rest ≡ fraction_of places l.fn.digits;
  digits : list_all is_ascii_digit l.rest ≡ true;
  items : l.place-items ≡ places;
}
