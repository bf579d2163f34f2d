use Rattle.std.proofs.Common.{subst, sym, ap, ◌∙◌, true, refl}
use Rattle.std.proofs.lemmas.Result.{on_ok_weaker}
use Rattle.served_links.specs.Links.{numbers}
use Rattle.server_core.specs.Meaning.{CoreMeaning}
use Rattle.server_core.specs.Steps.{Walks}
use Rattle.server_core.proofs.CoreLemmas.{follows_stop}
use Rattle.server_core.proofs.server.State.close_all.Goals as goal

pub returns-clause-follows : goal.returns-clause-follows
returns-clause-follows c = λ t walks ends.
    on_ok_weaker c.place_all.result
    (λ closed. follows_stop _ c.args.self.now.conf true t c.args.ends.now c.place_all.new.numbers.items c.forget_all.new.heard c.end_all.new.self (subst (λ core. Walks core t) (sym c.self.view_is) walks) (ap (λ (core : CoreMeaning). core.conf) c.self.view_is) refl
    (ends ∙ ap (λ (core : CoreMeaning). numbers core.seen.links) (sym c.self.view_is)) c.forget_all.ensures c.end_all.ensures closed)
    c.place_all.ensures
