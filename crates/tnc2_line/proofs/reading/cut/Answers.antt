use Rattle.tnc2_line.proofs.Cuts.{cut_found, cut_missing}
use Rattle.tnc2_line.proofs.reading.cut.Goals as goal

pub returns-then-place-text : goal.returns-then-place-text
returns-then-place-text c = cut_found _ _ _ c.first_place-place.ensures.place c.if-place-text.true

pub returns-else-place-text : goal.returns-else-place-text
returns-else-place-text c = cut_missing _ _ _ c.first_place-place.ensures.place c.if-place-text.false
