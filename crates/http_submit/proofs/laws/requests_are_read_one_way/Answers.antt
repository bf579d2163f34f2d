use Rattle.http_submit.proofs.KnownLemmas.{known_by_first}
use Rattle.http_submit.proofs.PostLemmas.{asks_once}
use Rattle.http_submit.proofs.laws.requests_are_read_one_way.Goals as goal

pub returns-clause-once : goal.returns-clause-once
returns-clause-once c = asks_once

pub returns-clause-known : goal.returns-clause-known
returns-clause-known c = known_by_first
