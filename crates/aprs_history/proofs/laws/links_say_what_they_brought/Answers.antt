use Rattle.aprs_history.proofs.SayingLemmas.{links_say_what_they_brought}
use Rattle.aprs_history.proofs.laws.links_say_what_they_brought.Goals as goal

pub returns : goal.returns
returns c = links_say_what_they_brought
