use Rattle.std.proofs.Common.{map, ap, sym, ◌∙◌, None}
use Rattle.aprs_base.specs.declared.packets.Source.TheVariants as source
use Rattle.aprs_history.specs.declared.verdicts.FilterAnswer.TheVariants.{Denied}
use Rattle.aprs_history.specs.declared.verdicts.Verdict.TheVariants.{Filtered}
use Rattle.served_links.specs.Halves.{ServedSeen}
use Rattle.served_links.specs.Changes.{at_link, with_text}
use Rattle.server_core.specs.LinkSteps.{with_refused}
use Rattle.server_core.specs.Meaning.{CoreMeaning}
use Rattle.server_core.specs.Steps.{with_port}
use Rattle.std.specs.Arc.{arc_value}
use Rattle.server_core.proofs.CoreLemmas.{kept_risen, risen_by, with_served}
use Rattle.server_core.proofs.FollowLemmas.{text_number}
use Rattle.server_core.proofs.server.State.answer.Goals as goal

pub returns-in_ok-reply-in-Denied : goal.returns-in_ok-reply-in-Denied
returns-in_ok-reply-in-Denied c =
    let i = c.self.inside in
    let core : CoreMeaning = record { conf = i.conf; seen = record { moment = i.moment; links = i.links.links; turned = i.turned.items; closing = i.closing.items; window = i.window; stations = i.stations; heard = i.heard; reach = i.reach; greatest = i.greatest; downs = i.downs; stopped = i.stopped; totals = record { accepted = i.counts.accepted; duplicate = i.counts.duplicate; refused = i.counts.refused; queued = i.links.queued } }; rests = i.links.rests } in
    c.count_refused.ensures
    ∙ ap (λ (s : ServedSeen). with_served s (record core { seen = record core.seen { totals = with_refused core.seen.totals } })) c.in_ok-reply-in-Denied.ensures.ok
    ∙ ap (λ links. record core { seen = record core.seen { links = links; totals = with_refused core.seen.totals } })
    (ap (λ line. map (at_link c.args.number (with_text line)) i.links.links) (c.in_ok-line-in-Denied.ensures.ok ∙ c.in_ok-denied_line-in-Denied.ensures))
    ∙ ap (with_port (source.Link c.args.number) None (Filtered (Denied c.in-Denied.fault))) c.self.view_is
    ∙ ap (λ answer. with_port (source.Link c.args.number) None (Filtered answer) c.args.self.now) (sym c.in-Denied.is)

pub invariant_of-self : goal.invariant_of-self
invariant_of-self c =
    let line = arc_value c.in_ok-line-in-Denied.line in
    kept_risen _ c.reply.new.self
    (risen_by c.reply.result c.args.number (with_text line) c.self.inside.links c.reply.new.self c.self.inside.greatest (λ link. text_number line link)
    c.reply.ensures.err c.reply.ensures.ok c.self.invariant.rising) c.self.invariant

pub invariant_of-self-in-Denied : goal.invariant_of-self-in-Denied
invariant_of-self-in-Denied c =
    let line = arc_value c.in_ok-line-in-Denied.line in
    kept_risen _ c.reply.new.self
    (risen_by c.reply.result c.args.number (with_text line) c.self.inside.links c.reply.new.self c.self.inside.greatest (λ link. text_number line link)
    c.reply.ensures.err c.reply.ensures.ok c.self.invariant.rising) c.self.invariant
