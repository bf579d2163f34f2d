-- What a packet that a line was made into comes to.
use Rattle.std.proofs.Common.{◌≡◌, ◌∙◌, ℕ, Bool, true, false, List, Ok, ap, map, sym, if◌then◌else◌}
use Rattle.aprs_base.specs.PacketSeen.{PacketSeen}
use Rattle.aprs_base.specs.PartsSeen.{PartsSeen}
use Rattle.aprs_base.specs.declared.cutting.Cut.TheVariants as cut
use Rattle.aprs_base.specs.declared.packets.Source.{Source}
use Rattle.tnc2_line.specs.Packet.{text_of}
use Rattle.q_construct.specs.declared.origins.Origin.{Origin}
use Rattle.dupe_window.specs.Keys.{key_of}
use Rattle.dupe_window.specs.Windows.{WindowSeen, has_copy, with_key, with_new}
use Rattle.dupe_window.proofs.WindowLemmas.{with_new-seen, with_new-unseen}
use Rattle.aprs_history.specs.Scenes.{packet_of}
use Rattle.aprs_history.specs.Verdicts.{packet_verdict}
use Rattle.aprs_history.specs.declared.verdicts.Refusal.TheVariants as refusal
use Rattle.aprs_history.specs.declared.verdicts.Verdict.{Verdict}
use Rattle.aprs_history.specs.declared.verdicts.Verdict.TheVariants.{Refused, Accepted}
use Rattle.server_core.specs.LinkSteps.{after_packet}
use Rattle.server_core.specs.Meaning.{CoreMeaning, peer_of}
use Rattle.server_core.specs.Objections.{Makes, routed_in}
use Rattle.server_core.specs.Steps.{with_verdict}
use Rattle.server_core.specs.Telling.{said_lines}

abbrev whole : PacketSeen → PacketSeen
whole packet = packet

abbrev with_window : CoreMeaning → WindowSeen → CoreMeaning
with_window core window = record core { seen = record core.seen { window = window } }

-- after the look whether a packet with these parts is a copy
abbrev pub looked : PartsSeen → CoreMeaning → CoreMeaning
looked parts core = with_window core (with_new (key_of parts) core.seen.moment core.seen.window)

-- accepted, where its key is kept before
abbrev pub shared : PacketSeen → CoreMeaning → CoreMeaning
shared packet core = record core { seen = record (after_packet (map peer_of core.conf.peers) packet core.seen) { window = core.seen.window } }

abbrev verdict_in : CoreMeaning → Source → Origin → List ℕ → Verdict
verdict_in core from origin line = packet_verdict (has_copy core.seen.moment core.seen.window) (routed_in core from origin line)

abbrev verdict_on : Bool → PartsSeen → Verdict
verdict_on copy parts = if copy then Refused (refusal.Duplicate parts (text_of parts)) else Accepted parts (text_of parts)

-- the packet is made of its parts
made_whole : (old now : CoreMeaning) (from : Source) (origin : Origin) (line : List ℕ) (packet : PacketSeen)
    → now ≡ old → Makes whole (Ok packet) old from origin line
    → packet ≡ packet_of from now.seen.moment packet.parts (text_of packet.parts)
made_whole old now from origin line packet same made =
    made.2
    ∙ ap (λ parts. packet_of from old.seen.moment parts (text_of parts)) (sym (ap (λ (p : PacketSeen). p.parts) made.2))
    ∙ ap (λ (core : CoreMeaning). packet_of from core.seen.moment packet.parts (text_of packet.parts)) (sym same)

-- it is refused as a copy, or accepted
verdict_is : (old now : CoreMeaning) (from : Source) (origin : Origin) (line : List ℕ) (packet : PacketSeen) (copy : Bool)
    → now ≡ old → Makes whole (Ok packet) old from origin line → copy ≡ has_copy now.seen.moment now.seen.window packet.parts
    → verdict_on copy packet.parts ≡ verdict_in old from origin line
verdict_is old now from origin line packet copy same made is =
    ap (λ b. verdict_on b packet.parts) (is ∙ ap (λ (core : CoreMeaning). has_copy core.seen.moment core.seen.window packet.parts) same)
    ∙ ap (λ parts. verdict_on (has_copy old.seen.moment old.seen.window parts) parts) (ap (λ (p : PacketSeen). p.parts) made.2)
    ∙ ap (packet_verdict (has_copy old.seen.moment old.seen.window)) (sym made.1)

-- what is told of a copy
pub copy_told : (old now after : CoreMeaning) (from : Source) (origin : Origin) (line : List ℕ) (packet : PacketSeen)
    → now ≡ old → Makes whole (Ok packet) old from origin line → true ≡ has_copy now.seen.moment now.seen.window packet.parts → after ≡ looked packet.parts now
    → said_lines after from (verdict_on true packet.parts) ≡ said_lines old from (verdict_in old from origin line)
copy_told old now after from origin line packet same made copy is =
    ap (λ (core : CoreMeaning). said_lines core from (verdict_on true packet.parts))
    (is ∙ ap (with_window now) (sym (with_new-seen (key_of packet.parts) now.seen.moment now.seen.window (sym copy))) ∙ same)
    ∙ ap (said_lines old from) (verdict_is old now from origin line packet true same made copy)

-- one that is new is accepted
pub new_shared : (old now after : CoreMeaning) (from : Source) (origin : Origin) (line : List ℕ) (packet : PacketSeen)
    → now ≡ old → Makes whole (Ok packet) old from origin line → false ≡ has_copy now.seen.moment now.seen.window packet.parts → after ≡ looked packet.parts now
    → shared packet after ≡ with_verdict from (cut.Line line) (verdict_in old from origin line) old
new_shared old now after from origin line packet same made new is =
    ap (shared packet) (is ∙ ap (with_window now) (sym (with_new-unseen (key_of packet.parts) now.seen.moment now.seen.window (sym new))))
    ∙ ap (λ (p : PacketSeen). shared p (with_window now (with_key (key_of p.parts) now.seen.moment now.seen.window))) (made_whole old now from origin line packet same made)
    ∙ ap (with_verdict from (cut.Line line) (verdict_on false packet.parts)) same
    ∙ ap (λ verdict. with_verdict from (cut.Line line) verdict old) (verdict_is old now from origin line packet false same made new)
