use Rattle.std.proofs.Common.{◌∙◌, ap, arith, refl, subst, sym}
use Rattle.aprs_history.specs.Counts.{totals_of}
use Rattle.dupe_window.specs.Windows.{empty_window}
use Rattle.server_core.specs.Meaning.{listeners, setting_of}
use Rattle.served_links.specs.Links.{Rises, numbers}
use Rattle.server_core.proofs.WindowLemmas.{current_empty}
use Rattle.served_links.proofs.ServedSteps.{links_of}
use Rattle.server_core.proofs.SendLemmas.{stands_listening, stands_new}
use Rattle.server_core.proofs.server.State.new.Goals as goal

pub returns-clause-stands : goal.returns-clause-stands
unfolding totals_of
returns-clause-stands c = rw c.new.ensures (stands_listening (setting_of c.args.conf) _ (listeners c.args.conf) 0 _ (stands_new (setting_of c.args.conf) _ c.args.hasher.now refl refl c.new-2.ensures.items c.new-3.ensures.items (c.new-4.ensures ∙ ap empty_window c.dupe_window-seconds.ensures) c.in_ok-new.ensures.empty c.in_ok-new-2.ensures.empty c.reach_for-reach.ensures refl refl refl refl))

pub invariant_of-result : goal.invariant_of-result
invariant_of-result c = record {
  rising = subst (λ links. Rises 0 (numbers links) 0) (sym (ap links_of c.new.ensures)) (omega arith);
  small = omega arith;
  station = c.requires.station;
  group = c.requires.peers;
  few = c.requires.listens;
  window = current_empty c.dupe_window-seconds.result c.new-4.result c.new-4.ensures (omega (arith, c.dupe_window-seconds.ensures, c.requires.window.0));
}
