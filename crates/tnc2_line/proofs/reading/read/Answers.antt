use Rattle.std.proofs.Common.{◌∙◌}
use Rattle.std.proofs.lemmas.Result.{IfOk-weaker}
use Rattle.tnc2_line.specs.Packet.{IsPacket, IsParts}
use Rattle.tnc2_line.proofs.Laws.{packet_of, packet_reads}
use Rattle.tnc2_line.proofs.reading.read.Goals as goal

pub returns-clause-packet : goal.returns-clause-packet
returns-clause-packet c = packet_of _ _ c.read_parts.ensures.exact c.read_parts.ensures.grammar

pub returns-clause-only : goal.returns-clause-only
returns-clause-only c = λ parts packet. c.read_parts.ensures.exact ∙ packet_reads _ parts packet

pub returns-clause-sound : goal.returns-clause-sound
returns-clause-sound c =
    IfOk-weaker c.read_parts.result (λ parts. IsPacket c.args.line.now parts) (λ parts. IsParts parts) (λ parts packet. packet.sound)
    (packet_of c.args.line.now c.read_parts.result c.read_parts.ensures.exact c.read_parts.ensures.grammar)
