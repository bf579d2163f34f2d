use Rattle.std.proofs.Common.{◌^◌, sym, subst}
use Rattle.std.specs.List.Sorted.{IsStrictlyIncreasing}
use Rattle.served_links.specs.Changes.{is_asked_at}
use Rattle.served_links.proofs.AskedLemmas.{passing_rise}
use Rattle.served_links.proofs.links.offered.Goals as goal

pub returns-clause-ordered : goal.returns-clause-ordered
returns-clause-ordered c =
    subst IsStrictlyIncreasing (sym c.in_ok-extra.ensures)
    (passing_rise (is_asked_at c.args.packet.now c.args.hearers.now c.args.owed.now) (2 ^ 32) c.args.links.now c.requires.rises)
