use Rattle.std.proofs.Common.{subst, sym}
use Rattle.aprs_base.specs.declared.events.Event.{Event}
use Rattle.aprs_history.specs.History.{with_event}
use Rattle.server_core.specs.Meaning.{setting_of}
use Rattle.server_core.specs.Telling.{Tells}
use Rattle.server_core.proofs.TellingLemmas.{tells_ended, tells_unjoined}
use Rattle.server_core.proofs.server.State.take_event.Goals as goal

pub returns-in_ok-tell_unjoined-in-Unjoined-clause-tells : goal.returns-in_ok-tell_unjoined-in-Unjoined-clause-tells
returns-in_ok-tell_unjoined-in-Unjoined-clause-tells c = λ t walks.
    let s = setting_of c.args.self.now.conf in
    subst (λ (e : Event). Tells s t (with_event s e t) c.args.lines.now.items c.tell_unjoined.new.lines.items) (sym c.in-Unjoined.is)
    (tells_unjoined c.args.self.now t walks c.in-Unjoined.uplink c.args.lines.now.items c.tell_unjoined.new.lines.items c.in_ok-tell_unjoined-in-Unjoined.ensures)

pub returns-in_ok-end-in-Ended-clause-tells : goal.returns-in_ok-end-in-Ended-clause-tells
returns-in_ok-end-in-Ended-clause-tells c = λ t walks.
    let s = setting_of c.args.self.now.conf in
    subst (λ (e : Event). Tells s t (with_event s e t) c.args.lines.now.items c.tell_ended.new.lines.items) (sym c.in-Ended.is)
    (tells_ended c.args.self.now t walks c.in-Ended.link c.args.lines.now.items c.tell_ended.new.lines.items c.in_ok-tell_ended-in-Ended.ensures)
