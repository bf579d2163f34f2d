use Rattle.std.proofs.Common.{rules}
use Rattle.heard_routing.proofs.HeardLemmas.{note_goes_on, note_goes_on_at}
use Rattle.heard_routing.proofs.ExactLemmas.{note_goes_on_exactly}
use Rattle.heard_routing.proofs.heard.Heard.note.Goals as goal

pub returns-clause-ok : goal.returns-clause-ok
returns-clause-ok c = search rules

pub returns-clause-last : goal.returns-clause-last
returns-clause-last c = λ lives packets packet. note_goes_on c.set.result lives c.args.self.now _ packets packet c.args.link c.args.call.now c.args.now (returns-clause-ok c)

pub returns-clause-last_at : goal.returns-clause-last_at
returns-clause-last_at c = λ moment lives packets packet. note_goes_on_at c.set.result moment lives c.args.self.now _ packets packet c.args.link c.args.call.now c.args.now (returns-clause-ok c)

pub returns-clause-exactly : goal.returns-clause-exactly
returns-clause-exactly c = λ lives packets packet. note_goes_on_exactly c.set.result lives c.args.self.now _ packets packet c.args.link c.args.call.now c.args.now (returns-clause-ok c)
