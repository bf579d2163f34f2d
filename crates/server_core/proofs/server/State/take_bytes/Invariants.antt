use Rattle.std.proofs.Common.{drop}
use Rattle.aprs_base.specs.declared.packets.Source.TheVariants as source
use Rattle.server_core.proofs.SayingLemmas.{LinkSpeaks, SaidSoFar, link_scene}
use Rattle.server_core.proofs.server.State.take_bytes.Given as goal

abbrev pub invariant-loop-cut : goal.invariant-loop-cut
invariant-loop-cut l =
    SaidSoFar (source.Link l.number) (link_scene l.number) (LinkSpeaks l.number l.cut-items) l.initial.self l.self l.cut-items (drop l.cut-index l.cut-items) l.initial.lines.items l.lines.items
