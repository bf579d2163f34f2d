use Rattle.std.proofs.Common.{sym, ◌∙◌}
use Rattle.aprs_conf.specs.Words.{arguments_of}
use Rattle.aprs_conf.proofs.PeerLemmas.{one_peer}
use Rattle.aprs_conf.proofs.draft.first_peer.Goals as goal

pub returns-clause-value : goal.returns-clause-value
returns-clause-value c =
    one_peer c.args.name.now c.in-Some.address.now c.in-Some-next_argument.number.now c.in_ok-peer.field-0
    (arguments_of c.args.args.now) (arguments_of c.in-Some.behind.now) (arguments_of c.in-Some-next_argument.behind.now)
    c.in-Some.ensures.words c.in-Some-next_argument.ensures.words (sym c.peer.ensures ∙ c.in_ok-peer.was)
