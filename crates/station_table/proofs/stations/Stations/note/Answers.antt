use Rattle.std.proofs.Common.{rules}
use Rattle.station_table.proofs.LastSeen.{note_goes_on, note_goes_on_at, note_goes_on_exactly}
use Rattle.station_table.proofs.stations.Stations.note.Goals as goal

pub returns-clause-ok : goal.returns-clause-ok
returns-clause-ok c = search rules

pub returns-clause-last : goal.returns-clause-last
returns-clause-last c = λ packets. note_goes_on c.note_gate.result c.args.self.now _ c.args.packet.now packets (returns-clause-ok c)

pub returns-clause-last_at : goal.returns-clause-last_at
returns-clause-last_at c = λ moment packets. note_goes_on_at c.note_gate.result moment c.args.self.now _ c.args.packet.now packets (returns-clause-ok c)

pub returns-clause-exactly : goal.returns-clause-exactly
returns-clause-exactly c = λ now packets. note_goes_on_exactly c.note_gate.result now c.args.self.now _ c.args.packet.now packets (returns-clause-ok c)
