use Rattle.std.proofs.Common.{◌≡◌, [], length}
use Rattle.aprs_conf.specs.Grammar.{peers_from}
use Rattle.aprs_conf.specs.Words.{arguments_of}
use Rattle.aprs_conf.proofs.draft.read_peers.Given as goal

-- these peers and those of what is left are all
abbrev pub invariant-loop-name : goal.invariant-loop-name
invariant-loop-name l = peers_from l.peers.items (arguments_of l.rest) ≡ peers_from [] (arguments_of l.args)

abbrev pub decreases-loop-name : goal.decreases-loop-name
decreases-loop-name l = length l.rest
