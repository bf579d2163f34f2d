use Rattle.std.proofs.Common.{ap, ◌∙◌}
use Rattle.aprs_history.specs.Downs.{asked_addr}
use Rattle.served_links.specs.Links.{opening_at}
use Rattle.server_core.specs.Meaning.{CoreMeaning, downs_of}
use Rattle.server_core.proofs.ConfLemmas.{address_known, address_unknown}
use Rattle.server_core.proofs.server.State.address_for.Goals as goal

pub returns-in-Some : goal.returns-in-Some
returns-in-Some c =
    c.asked_addr.ensures
    ∙ address_known (downs_of c.self.inside.conf) (opening_at c.args.number c.self.inside.links.links) c.in-Some.opened c.args.port c.in-Some.ensures
    ∙ ap (λ (core : CoreMeaning). asked_addr (downs_of core.conf) (opening_at c.args.number core.seen.links) c.args.port) c.self.view_is

pub returns-in-None : goal.returns-in-None
returns-in-None c =
    address_unknown (downs_of c.self.inside.conf) (opening_at c.args.number c.self.inside.links.links) c.args.port c.in-None.ensures
    ∙ ap (λ (core : CoreMeaning). asked_addr (downs_of core.conf) (opening_at c.args.number core.seen.links) c.args.port) c.self.view_is
