use Rattle.std.proofs.Common.{◌≡◌, ◌<◌, ◌*◌, ◌++◌, drop, get_or}
use Rattle.filter_lang.specs.Numbers.{dotted_text, fraction_text, places}
use Rattle.filter_lang.proofs.writing.Canonical.dotted.Given as goal

abbrev pub invariant-loop-place : goal.invariant-loop-place
invariant-loop-place l = record {
  so_far : l.self-inside.text.items ++ fraction_text (drop l.place-index places) l.rest ≡ l.fn.self ++ dotted_text l.fn.millionths;
  small : l.place-index < 6 → l.rest < 10 * get_or places l.place-index 0;
  items : l.place-items ≡ places;
}
