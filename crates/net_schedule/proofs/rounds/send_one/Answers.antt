use Rattle.std.proofs.Common.{refl, sym, ap, ◌∙◌, subst}
use Rattle.server_core.specs.LinkSteps.{pending_at}
use Rattle.net_schedule.specs.Running.{ServerKept, all_with_taken}
use Rattle.net_schedule.specs.Standing.{Keeps}
use Rattle.net_schedule.proofs.DriveLemmas.{none_down, sent_whole}
use Rattle.net_schedule.proofs.rounds.send_one.Goals as goal

pub returns-clause-keeps : goal.returns-clause-keeps
returns-clause-keeps c = λ s rest round links keeps left.
    let seen = subst (λ (k : ServerKept). Keeps rest k s) (sym c.server.view_is) keeps in
    let whole = sent_whole rest _ _ c.args.link c.offer-count.result c.args.buffer.now c.offer-count.new.out (pending_at c.args.link c.server.inside.core.seen.links) round links s refl c.took.ensures.rest.conf
    c.requires.room c.offer-count.auto.out c.offer-count.ensures.count (c.offer-count.ensures.next s.history seen.stands) (λ bytes long. c.took.ensures.stands s.history bytes (none_down rest _ s seen c.args.link) long seen.stands) left seen in
    (whole.1, c.in_ok-take.ensures ∙ ap (λ bytes. all_with_taken c.args.number c.args.link bytes c.args.ways.now) whole.0)
