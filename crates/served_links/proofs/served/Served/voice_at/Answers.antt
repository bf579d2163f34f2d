use Rattle.std.proofs.Common.{ap, None, refl, ◌∙◌}
use Rattle.aprs_base.specs.declared.packets.PortKind.TheVariants as port
use Rattle.aprs_history.specs.Verdicts.{Visitor}
use Rattle.line_verdict.specs.Voices.{voice_of}
use Rattle.served_links.specs.Links.{speaker_at, speaker_kept}
use Rattle.served_links.proofs.ServedLemmas.{picked_same}
use Rattle.served_links.proofs.ServedSteps.{asked}
use Rattle.served_links.proofs.served.Served.voice_at.Goals as goal

pub returns-clause-value : goal.returns-clause-value
returns-clause-value c =
    c.voice_at.ensures.value
    ∙ asked c.self.inside c.self.view_is c.self.invariant.0.match c.as_slice.ensures.value (λ links. voice_of (speaker_at c.args.number links))
    (λ hs ss all. ap voice_of (picked_same speaker_kept (λ h s. refl) (Visitor port.Full None) c.args.number hs ss all))
