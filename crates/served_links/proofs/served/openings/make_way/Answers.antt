use Rattle.std.proofs.Common.{refl, subst, sym, List}
use Rattle.aprs_history.specs.Stands.{LinkSeen}
use Rattle.served_links.specs.Links.{Rises, numbers}
use Rattle.served_links.proofs.ServedLemmas.{put_alone}
use Rattle.served_links.proofs.served.openings.make_way.Goals as goal

pub is_below-requires : goal.is_below-requires
is_below-requires c = c.requires.halves.rising

pub returns-then-is_below-clause-swept : goal.returns-then-is_below-clause-swept
returns-then-is_below-clause-swept c = record { halves = c.requires.halves; settled = c.requires.settled; links = refl; put = put_alone c.args.feeds.now.links; whole = λ whole. whole }

pub returns-then-is_below-clause-below : goal.returns-then-is_below-clause-below
returns-then-is_below-clause-below c high rises lt = c.is_below.ensures c.if-is_below.true

pub returns-clause-below : goal.returns-clause-below
returns-clause-below c high rises lt = (high, subst (λ (links : List LinkSeen). Rises 0 (numbers links) high) (sym c.sweep.ensures.here) rises, lt)
