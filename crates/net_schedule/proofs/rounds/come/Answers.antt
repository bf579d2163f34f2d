use Rattle.std.proofs.Common.{refl, sym, ap, ◌∙◌, ◌++◌, map, subst}
use Rattle.std.specs.Arc.{arc_value}
use Rattle.aprs_base.specs.PacketSeen.{PacketSeen}
use Rattle.server_core.specs.ActsSeen.{ActsSeen}
use Rattle.server_core.specs.Meaning.{setting_of}
use Rattle.net_schedule.specs.Running.{ServerKept}
use Rattle.net_schedule.specs.Standing.{Keeps}
use Rattle.net_schedule.proofs.DriveLemmas.{accepted_more, came}
use Rattle.net_schedule.proofs.rounds.come.Goals as goal

pub returns-clause-keeps : goal.returns-clause-keeps
returns-clause-keeps g c = λ s rest keeps.
    let seen = subst (λ (k : ServerKept). Keeps (c.args.events.now ++ rest) k s) (sym c.server.view_is) keeps in
    let before = map arc_value c.server.inside.accepted.items in
    came rest c.args.events.now _ _ s refl c.in_ok-acts.ensures.conf (c.in_ok-acts.ensures.stands s.history seen.stands)
    (accepted_more s c.args.events.now (setting_of c.server.inside.core.conf) before (map arc_value c.note_accepted.new.lines.items) c.in_ok-acts.acts.accepted seen.setting seen.accepted
    (c.in_ok-acts.ensures.accepted s.history seen.stands)
    (c.in_ok-note_accepted.ensures
    ∙ ap (λ xs. before ++ map (λ (packet : PacketSeen). packet.line) (map arc_value xs)) c.as_slice.ensures.value
    ∙ ap (λ (acts : ActsSeen). before ++ map (λ (packet : PacketSeen). packet.line) acts.accepted) c.acts.view_is))
    seen
