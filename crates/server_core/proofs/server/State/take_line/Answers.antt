use Rattle.std.proofs.Common.{◌++◌, ◌∙◌, ap, sym, if◌then◌else◌}
use Rattle.std.proofs.lemmas.Result.{on_ok_weaker}
use Rattle.aprs_base.specs.declared.packets.Source.TheVariants as source
use Rattle.line_verdict.specs.Voices.{comment_verdict, line_verdict}
use Rattle.server_core.specs.Steps.{scene_at}
use Rattle.server_core.specs.Telling.{said_lines}
use Rattle.server_core.proofs.SayingLemmas.{line_says}
use Rattle.server_core.proofs.server.State.take_line.Goals as goal

pub returns-then-is_comment_line-clause-lines : goal.returns-then-is_comment_line-clause-lines
returns-then-is_comment_line-clause-lines c =
    let core = c.args.self.now in
    let line = c.in-Line.line in
    let voice = c.voice-voice.result in
    let says = line_says core c.args.number c.args.cut.now line voice c.in-Line.is c.voice-voice.ensures.value
    ∙ ap (λ b. if b then comment_verdict voice line else line_verdict (scene_at core c.args.number) voice line) (sym c.is_comment_line.ensures ∙ c.if-is_comment_line.true) in
    on_ok_weaker c.take_comment.result
    (λ told. told ∙ ap (λ verdict. c.args.lines.now.items ++ said_lines core (source.Link c.args.number) verdict) (sym says))
    c.take_comment.ensures.lines
