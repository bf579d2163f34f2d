use Rattle.std.proofs.Common.{refl, ◌∙◌}
use Rattle.filter_lang.specs.Sets.{letters_of}
use Rattle.filter_lang.proofs.WriteLemmas.{mask_put}
use Rattle.filter_lang.proofs.writing.Canonical.classes.Goals as goal

pub loop-letter-init : goal.loop-letter-init
unfolding letters_of
loop-letter-init c = record { so_far = refl; items = refl }

pub loop-letter-preserved : goal.loop-letter-preserved
loop-letter-preserved c = record {
  so_far = mask_put c.loop-letter.self c.class.new.self c.loop-letter.letter-index c.args.mask c.loop-letter-test.true c.in_ok-class.ensures ∙ c.loop-letter.invariant.so_far;
  items = c.loop-letter.invariant.items;
}
