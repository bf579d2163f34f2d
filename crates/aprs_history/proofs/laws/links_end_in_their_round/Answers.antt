use Rattle.aprs_history.proofs.EndingLemmas.{events_end_in_their_round, none_served_is_overfull, none_stays_overfull}
use Rattle.aprs_history.proofs.laws.links_end_in_their_round.Goals as goal

pub returns-clause-events : goal.returns-clause-events
returns-clause-events c = events_end_in_their_round

pub returns-clause-overfull : goal.returns-clause-overfull
returns-clause-overfull c = none_stays_overfull

pub returns-clause-served : goal.returns-clause-served
returns-clause-served c = none_served_is_overfull
