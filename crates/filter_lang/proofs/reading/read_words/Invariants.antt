use Rattle.std.proofs.Common.{◌≡◌, ◌≤◌, [], length, vec_len}
use Rattle.filter_lang.specs.Parts.{words_of}
use Rattle.filter_lang.specs.Grammar.{added_all}
use Rattle.filter_lang.proofs.reading.read_words.Given as goal

abbrev pub invariant-loop-rest : goal.invariant-loop-rest
invariant-loop-rest l = record {
  so_far : added_all l.terms.items (words_of l.rest) ≡ added_all [] (words_of l.fn.text);
  room : vec_len l.terms ≤ 64;
}

abbrev pub decreases-loop-rest : goal.decreases-loop-rest
decreases-loop-rest l = length l.rest
