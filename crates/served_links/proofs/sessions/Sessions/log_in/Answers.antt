use Rattle.std.proofs.Common.{◌+◌, ◌<◌, ◌≡◌, List, Some, ap, arith, length, subst, sym, ◌∙◌}
use Rattle.std.specs.Option.{option_or}
use Rattle.aprs_history.specs.Stands.{LinkSeen}
use Rattle.served_links.specs.Counts.{IsCounted, one_among}
use Rattle.served_links.specs.Fed.{opening_feed}
use Rattle.served_links.specs.Links.{login_here, named_of}
use Rattle.served_links.proofs.CountLemmas.{count_few, counted_logged, one_there}
use Rattle.served_links.proofs.HereLemmas.{kept_right, named_set, same_there, set_there}
use Rattle.served_links.proofs.sessions.Sessions.log_in.Goals as goal

pub raise-requires : goal.raise-requires
raise-requires c call n there =
    let links = c.self.inside.links in
    let few = count_few c.self.inside.counts.entries links.items c.self.invariant.2 call n there in
    omega (arith, few, links.ok.0, links.ok.1, links.small)

pub invariant_of-self-2 : goal.invariant_of-self-2
invariant_of-self-2 c =
    let links = c.self.inside.links.items in
    let place = c.args.place in
    let link = c.index_mut.result.now in
    let old = c.self.inside.counts.entries in
    let more = c.raise.new.counts.entries in
    let two = kept_right _ links (named_set links place c.log_in.new.self link c.index_mut.ensures.value (ap named_of c.log_in.ensures.exact)) c.self.inside.clients c.self.inside.parted (c.self.invariant.0, c.self.invariant.1) in
    let within : place < length links = subst (λ (ls : List LinkSeen). place < length ls) (sym c.self.view_is) c.requires.within in
    let same : c.index-link.result.now ≡ link = one_there links place c.index-link.result.now link within c.index-link.ensures c.index_mut.ensures.value in
    let before = c.verified_call.ensures ∙ ap login_here same in
    let after = c.login_by.ensures ∙ ap (λ (l : LinkSeen). login_here (record l { session = Some c.args.session })) same ∙ ap login_here (sym c.log_in.ensures.exact) in (
      two.0,
      two.1,
      counted_logged old more c.lower.new.counts.entries links place link c.log_in.new.self within c.index_mut.ensures.value c.self.invariant.2
          (λ other n counted. subst (λ logins. IsCounted other (n + one_among other logins) more) after (c.in_ok-raise.ensures.ok other n counted))
          (λ other n counted. c.lower.ensures other n (subst (λ logins. IsCounted other (n + one_among other logins) more) (sym before) counted)),
    )

pub returns-clause-session : goal.returns-clause-session
returns-clause-session c link got =
    set_there c.self.inside.links.items c.args.self.now c.self.view_is c.args.place (λ half. record half { session = Some c.args.session; down = option_or c.args.down half.down }) c.index_mut.result.now c.log_in.new.self link
    c.index_mut.ensures.value c.log_in.ensures.exact got

pub returns-clause-feed : goal.returns-clause-feed
returns-clause-feed c link got =
    c.log_in.ensures.feed
    ∙ ap (λ (half : LinkSeen). opening_feed half.opening (Some c.args.session)) (same_there c.self.inside.links.items c.args.self.now c.self.view_is c.args.place c.index_mut.result.now link c.index_mut.ensures.value got)
