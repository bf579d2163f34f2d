use Rattle.std.proofs.Common.{◌∙◌, ap}
use Rattle.line_verdict.specs.Voices.{voice_of}
use Rattle.served_links.specs.Links.{speaker_at}
use Rattle.server_core.specs.Meaning.{CoreMeaning}
use Rattle.server_core.proofs.server.State.voice.Goals as goal

pub returns-clause-value : goal.returns-clause-value
returns-clause-value c =
    c.voice_at.ensures.value ∙ ap (λ links. voice_of (speaker_at c.args.number links)) (ap (λ (core : CoreMeaning). core.seen.links) c.self.view_is)
