use Rattle.aprs_history.proofs.RefusingLemmas.{journals_tell_each_entry, refusals_have_one_line}
use Rattle.aprs_history.proofs.laws.journals_tell_each_entry.Goals as goal

pub returns-clause-entries : goal.returns-clause-entries
returns-clause-entries c = journals_tell_each_entry

pub returns-clause-refused : goal.returns-clause-refused
returns-clause-refused c = refusals_have_one_line
