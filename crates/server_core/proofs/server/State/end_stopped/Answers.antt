use Rattle.std.proofs.Common.{◌++◌, map, subst, sym, ap, ◌∙◌}
use Rattle.served_links.specs.EndLines.{stop_line}
use Rattle.aprs_history.specs.History.{end_stopped}
use Rattle.server_core.specs.Meaning.{CoreMeaning, setting_of}
use Rattle.server_core.specs.Telling.{Tells}
use Rattle.server_core.proofs.TellingLemmas.{tells_stopped}
use Rattle.server_core.proofs.server.State.end_stopped.Goals as goal

pub returns-in_ok-close_all-clause-tells : goal.returns-in_ok-close_all-clause-tells
returns-in_ok-close_all-clause-tells c = λ t walks.
    subst (λ stopped. Tells (setting_of c.args.self.now.conf) t (end_stopped stopped t) c.args.lines.now.items c.tell_stopped.new.lines.items)
    (sym (ap (λ (core : CoreMeaning). core.seen.stopped) (sym c.self.view_is) ∙ c.if-self.true))
    (tells_stopped c.args.self.now t walks c.args.lines.now.items c.tell_stopped.new.lines.items
    (c.in_ok-tell_stopped.ensures ∙ ap (λ (core : CoreMeaning). c.args.lines.now.items ++ map (stop_line core.seen.moment) core.seen.links) c.self.view_is))
