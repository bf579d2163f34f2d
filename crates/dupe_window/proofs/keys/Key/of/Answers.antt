use Rattle.std.proofs.Common.{◌∙◌, ap, sym}
use Rattle.dupe_window.specs.Keys.{key_of}
use Rattle.dupe_window.specs.Packed.{packed, unpacked}
use Rattle.dupe_window.proofs.PackedLemmas.{unpacked-packed}
use Rattle.dupe_window.proofs.keys.Key.of.Goals as goal

pub invariant_of-result : goal.invariant_of-result
invariant_of-result c = ap (λ text. packed (unpacked text)) c.text_of.ensures ∙ ap packed (unpacked-packed (key_of c.args.parts.now)) ∙ sym c.text_of.ensures

pub returns : goal.returns
returns c = ap unpacked c.text_of.ensures ∙ unpacked-packed (key_of c.args.parts.now)
