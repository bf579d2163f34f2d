use Rattle.std.proofs.Common.{◌≡◌, ◌∙◌, ◌++◌, ap, subst, sym}
use Rattle.std.specs.Arc.{arc_value}
use Rattle.aprs_base.specs.PacketSeen.{PacketSeen}
use Rattle.tnc2_line.specs.Packet.{text_of}
use Rattle.dupe_window.specs.Windows.{has_copy}
use Rattle.server_core.specs.Objections.{Makes}
use Rattle.server_core.proofs.PacketLemmas.{copy_told, looked, new_shared, shared}
use Rattle.server_core.proofs.WholeRoundLemmas.{stands_ok}
use Rattle.server_core.proofs.server.State.take_packet.Goals as goal

pub returns-in_ok-show-in-Ok-clause-lines : goal.returns-in_ok-show-in-Ok-clause-lines
returns-in_ok-show-in-Ok-clause-lines c =
    let core = c.args.self.now in
    let now = c.made_of.new.self in
    let packet : PacketSeen = arc_value c.in-Ok.packet in
    let made = subst (λ made. Makes arc_value made core c.args.from c.args.origin.now c.args.line.now) c.in-Ok.is c.in_ok-objection.ensures.exact in
    let parts : c.behind-packet.inside.parts ≡ packet.parts = ap (λ (p : PacketSeen). p.parts) (c.behind-packet.view_is ∙ c.deref.ensures) in
    let copy = sym c.if-branch.true ∙ c.in_ok-is_copy-in-Ok.ensures.copy ∙ ap (has_copy now.seen.moment now.seen.window) parts in
    let kept = c.in_ok-is_copy-in-Ok.ensures.kept ∙ ap (λ parts. looked parts now) parts in
    stands_ok c.give_back.result
    (c.in_ok-tell_duplicate-in-Ok.ensures packet.parts (text_of packet.parts)
    ∙ ap (λ said. c.args.lines.now.items ++ said)
    (copy_told core now c.is_copy.new.self c.args.from c.args.origin.now c.args.line.now packet c.in_ok-objection.ensures.same made copy kept))

pub returns-in_ok-accept-in-Ok-clause-core : goal.returns-in_ok-accept-in-Ok-clause-core
returns-in_ok-accept-in-Ok-clause-core c =
    let core = c.args.self.now in
    let now = c.made_of.new.self in
    let packet : PacketSeen = arc_value c.in-Ok.packet in
    let made = subst (λ made. Makes arc_value made core c.args.from c.args.origin.now c.args.line.now) c.in-Ok.is c.in_ok-objection.ensures.exact in
    let parts : c.behind-packet.inside.parts ≡ packet.parts = ap (λ (p : PacketSeen). p.parts) (c.behind-packet.view_is ∙ c.deref.ensures) in
    let new = sym c.if-branch.false ∙ c.in_ok-is_copy-in-Ok.ensures.copy ∙ ap (has_copy now.seen.moment now.seen.window) parts in
    let kept = c.in_ok-is_copy-in-Ok.ensures.kept ∙ ap (λ parts. looked parts now) parts in
    stands_ok c.keep.result
    (c.self-else-branch.view_is ∙ c.in_ok-accept-in-Ok.ensures
    ∙ ap (λ (p : PacketSeen). shared p c.is_copy.new.self) c.deref-else-branch.ensures
    ∙ new_shared core now c.is_copy.new.self c.args.from c.args.origin.now c.args.line.now packet c.in_ok-objection.ensures.same made new kept)
