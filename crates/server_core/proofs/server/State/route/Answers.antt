use Rattle.std.proofs.Common.{◌∙◌, ap, subst, List, Result, ℕ}
use Rattle.aprs_base.specs.PartsSeen.{PartsSeen}
use Rattle.tnc2_line.specs.Packet.{parts_of}
use Rattle.aprs_history.specs.Verdicts.{read_and_routed}
use Rattle.aprs_history.specs.declared.verdicts.Refusal.{Refusal}
use Rattle.served_links.specs.Links.{here, others_from}
use Rattle.server_core.specs.Meaning.{CoreMeaning}
use Rattle.server_core.specs.Objections.{Routes}
use Rattle.server_core.proofs.server.State.route.Goals as goal

pub returns-clause-exact : goal.returns-clause-exact
returns-clause-exact c =
    let routed : List ℕ → List (List ℕ) → Result PartsSeen Refusal = λ server others. read_and_routed server c.args.origin.now others (parts_of c.args.line.now) in
    subst (Routes c.route_parsed.result c.route_parsed.new.whole) (
    ap (λ server. routed server (others_from c.logins-others.result.from (here c.logins-others.result.links.now))) c.server_of.ensures
    ∙ ap (routed c.self.inside.conf.server) c.logins-others.ensures
    ∙ ap (λ (core : CoreMeaning). routed core.conf.server (others_from c.args.from core.seen.links)) c.self.view_is)
    (c.route_parsed.ensures.exact c.args.line.now (c.what_it_is-parsed.ensures ∙ c.seek.ensures.parsed.0))

pub returns-clause-body : goal.returns-clause-body
returns-clause-body c = c.route_parsed.ensures.body c.args.line.now (c.what_it_is-parsed.ensures ∙ c.seek.ensures.parsed.0)
