use Rattle.std.proofs.Common.{refl, sym, ◌∙◌}
use Rattle.served_links.specs.Links.{client_kept, clients_in}
use Rattle.served_links.proofs.ServedLemmas.{count_same}
use Rattle.served_links.proofs.ServedSteps.{asked}
use Rattle.served_links.proofs.HereLemmas.{here_clients}
use Rattle.served_links.proofs.served.Served.count_clients.Goals as goal

pub returns : goal.returns
returns c =
    c.count_clients.ensures ∙ sym (here_clients c.self.inside.sessions) ∙ asked c.self.inside c.self.view_is c.self.invariant.0.match refl clients_in
    (count_same client_kept (λ h s. refl))
