use Rattle.std.proofs.Common.{ap, ◌∙◌}
use Rattle.tnc2_line.specs.Packet.{is_comma}
use Rattle.tnc2_line.proofs.Cuts.{parted, split_cut}
use Rattle.tnc2_line.proofs.reading.first_piece.Goals as goal

pub returns-in-Some : goal.returns-in-Some
returns-in-Some c = ap (parted is_comma c.args.text.now) c.in-Some.ensures ∙ split_cut is_comma c.args.text.now

pub returns-in-None : goal.returns-in-None
returns-in-None c = ap (parted is_comma c.args.text.now) c.in-None.ensures ∙ split_cut is_comma c.args.text.now
