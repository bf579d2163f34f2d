use Rattle.q_construct.proofs.RowLemmas.{verified_first, verified_rest}
use Rattle.q_construct.proofs.building.build_verified.Goals as goal

pub returns-else-not-build_relayed-clause-row : goal.returns-else-not-build_relayed-clause-row
returns-else-not-build_relayed-clause-row c =
    verified_first c.args.source.now c.args.login.now c.args.only c.args.server.now c.args.given.now c.build_relayed.new.built c.if-not-build_relayed.ensures.row

pub returns-then-not-build_relayed-clause-row : goal.returns-then-not-build_relayed-clause-row
returns-then-not-build_relayed-clause-row c =
    verified_rest c.args.source.now c.args.login.now c.args.only c.args.server.now c.args.given.now c.build_sent.new.built c.if-not-build_relayed.ensures.row c.build_sent.ensures.row
