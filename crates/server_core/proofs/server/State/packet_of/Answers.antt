use Rattle.std.proofs.Common.{ap, ◌∙◌, List, ℕ}
use Rattle.aprs_base.specs.PacketSeen.{PacketSeen}
use Rattle.aprs_base.specs.declared.packets.Body.{Body}
use Rattle.aprs_history.specs.Scenes.{packet_of}
use Rattle.server_core.specs.Meaning.{CoreMeaning}
use Rattle.server_core.proofs.server.State.packet_of.Goals as goal

pub returns : goal.returns
returns c =
    let packet : Body → List ℕ → PacketSeen = λ body line. record { from = c.args.from; moment = c.self.inside.moment; parts = c.args.parts; body = body; line = line } in
    c.in_ok-new.ensures.ok
    ∙ ap (λ line. packet c.args.body line) c.in_ok-line.ensures.ok
    ∙ ap (λ body. packet body c.args.line) c.requires
    ∙ ap (λ (core : CoreMeaning). packet_of c.args.from core.seen.moment c.args.parts c.args.line) c.self.view_is
