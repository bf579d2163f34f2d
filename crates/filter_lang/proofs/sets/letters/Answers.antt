use Rattle.std.proofs.Common.{◌∙◌, ap}
use Rattle.filter_lang.specs.Sets.{set_of}
use Rattle.filter_lang.proofs.SetLemmas.{letters_printing, letters_meant}
use Rattle.filter_lang.proofs.sets.letters.Goals as goal

pub marks-requires : goal.marks-requires
marks-requires c = letters_printing c.args.field.now c.requires

pub returns : goal.returns
returns c = c.marks.ensures ∙ ap set_of (letters_meant c.args.field.now c.requires)
