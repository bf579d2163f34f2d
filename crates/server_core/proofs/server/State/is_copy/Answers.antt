use Rattle.std.proofs.Common.{subst, sym}
use Rattle.server_core.specs.Kept.{IsCurrent}
use Rattle.server_core.proofs.WindowLemmas.{current_with_new}
use Rattle.server_core.proofs.server.State.is_copy.Goals as goal

pub invariant_of-self-2 : goal.invariant_of-self-2
invariant_of-self-2 c = record {
  rising = c.self.invariant.rising;
  small = c.self.invariant.small;
  station = c.self.invariant.station;
  group = c.self.invariant.group;
  few = c.self.invariant.few;
  window = subst (IsCurrent c.self.inside.moment) (sym c.in_ok-seen.ensures.ok) (current_with_new c.self.inside.moment c.of.result c.self.inside.window c.self.invariant.window);
}
