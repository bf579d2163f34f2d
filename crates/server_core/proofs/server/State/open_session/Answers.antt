use Rattle.std.proofs.Common.{Option, ap, subst, sym, ◌<◌, ◌+◌, ◌∙◌, IfSome}
use Rattle.std.proofs.lemmas.Result.{on_ok_weaker}
use Rattle.aprs_base.specs.declared.texts.Addr.{Addr}
use Rattle.aprs_history.specs.Downs.{DownSeen, one_if}
use Rattle.served_links.specs.Links.{opening_at, starts_line_at}
use Rattle.server_core.specs.LinkSteps.{after_login_at, greeted}
use Rattle.aprs_base.specs.declared.packets.Source.TheVariants as source
use Rattle.server_core.specs.Meaning.{CoreMeaning, downs_of}
use Rattle.server_core.proofs.ConfLemmas.{asked_few}
use Rattle.server_core.proofs.server.State.open_session.Goals as goal

pub new_down-down-requires : goal.new_down-down-requires
new_down-down-requires c =
    let core = c.args.self.now in
    let same = c.in_ok-asked.ensures.same in
    let few = asked_few (downs_of core.conf) (opening_at c.args.number core.seen.links) core.seen.downs 65280 (starts_line_at c.args.number core.seen.links) c.args.port c.in_ok-asked.asked c.in_ok-asked.ensures.asked in
    subst (λ (now : CoreMeaning). IfSome c.in_ok-asked.asked (λ to. now.seen.downs < 65280)) (sym same) few

pub returns : goal.returns
returns c =
    let core = c.args.self.now in
    let asked = c.in_ok-asked.asked in
    let number = c.args.number in
    on_ok_weaker c.greet.result
    (λ is. is
    ∙ ap (λ (now : CoreMeaning). record now { seen = greeted now.conf.server number c.args.session c.new_down-down.result now.seen }) c.new_down-down.ensures.counted
    ∙ ap (λ (down : Option DownSeen). record c.asked_address.new.self { seen = greeted c.asked_address.new.self.conf.server number c.args.session down (record c.asked_address.new.self.seen { downs = c.asked_address.new.self.seen.downs + one_if asked }) }) c.new_down-down.ensures.down
    ∙ ap (λ (now : CoreMeaning). record now { seen = after_login_at now.conf.server (source.Link number) c.args.session asked now.seen }) c.in_ok-asked.ensures.same
    ∙ ap (λ (asked : Option Addr). record core { seen = after_login_at core.conf.server (source.Link number) c.args.session asked core.seen }) c.in_ok-asked.ensures.asked)
    c.greet.ensures
