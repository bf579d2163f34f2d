use Rattle.std.proofs.Common.{drop}
use Rattle.std.specs.Bool.{⊤}
use Rattle.aprs_history.specs.Scenes.{datagram_scene}
use Rattle.server_core.proofs.SayingLemmas.{SaidSoFar}
use Rattle.server_core.proofs.server.State.take_datagram_lines.Given as goal

abbrev pub invariant-loop-cut : goal.invariant-loop-cut
invariant-loop-cut l = SaidSoFar l.from (λ s. datagram_scene s l.origin) (λ t. ⊤) l.initial.self l.self l.cuts (drop l.cut-index l.cuts) l.initial.lines.items l.lines.items
