use Rattle.std.proofs.Common.{None, ap, sym, ◌∙◌}
use Rattle.aprs_base.specs.declared.packets.PortKind.TheVariants as port
use Rattle.aprs_history.specs.Verdicts.{Visitor}
use Rattle.line_verdict.specs.Voices.{voice_of}
use Rattle.served_links.specs.Links.{speaker_kept}
use Rattle.served_links.proofs.HereLemmas.{picked_missing, picked_there}
use Rattle.served_links.proofs.links.voice_at.Goals as goal

pub returns-in-Some-clause-value : goal.returns-in-Some-clause-value
returns-in-Some-clause-value c =
    c.voice.ensures.value
    ∙ ap voice_of (sym (picked_there speaker_kept (Visitor port.Full None) c.args.number c.args.links.now c.in-Some.place c.index-links-place.result c.in-Some.ensures c.index-links-place.is))

pub returns-in-None-clause-value : goal.returns-in-None-clause-value
returns-in-None-clause-value c = ap voice_of (sym (picked_missing speaker_kept (Visitor port.Full None) c.args.number c.args.links.now c.in-None.ensures))
