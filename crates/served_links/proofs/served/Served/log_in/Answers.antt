use Rattle.std.proofs.Common.{subst, ◌∙◌}
use Rattle.served_links.specs.Halves.{IsEmptied, ServedSeen}
use Rattle.served_links.proofs.served.Served.log_in.Goals as goal

-- what was matched before counts as it did
settled : (old new : ServedSeen) → IsEmptied (record old { waiting = 0 }) new → IsEmptied old new
settled old new gone = record { links = gone.links; waiting = gone.waiting; queued = gone.queued; rests = gone.rests }

pub returns-in-Err-clause-err : goal.returns-in-Err-clause-err
returns-in-Err-clause-err c =
    settled c.args.self.now c.give_up.new.self (subst (λ (s : ServedSeen). IsEmptied s c.give_up.new.self) (c.in-Err.ensures.err ∙ c.in_ok-settle_alone.ensures.ok) c.give_up.ensures)
