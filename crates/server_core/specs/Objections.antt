-- What there is against a line, and the refusal that it is.
use Rattle.std.specs.Prelude.{◌≡◌, ℕ, List, Result, Ok, Err}
use Rattle.aprs_base.specs.declared.packets.Source.{Source}
use Rattle.aprs_base.specs.PacketSeen.{PacketSeen}
use Rattle.aprs_base.specs.PartsSeen.{PartsSeen}
use Rattle.tnc2_line.specs.Packet.{parts_of, text_of}
use Rattle.q_construct.specs.declared.origins.Origin.{Origin}
use Rattle.aprs_history.specs.Scenes.{packet_of}
use Rattle.aprs_history.specs.Verdicts.{read_and_routed}
use Rattle.aprs_history.specs.declared.verdicts.Refusal.{Refusal}
use Rattle.aprs_history.specs.declared.verdicts.Refusal.TheVariants as refusal
use Rattle.served_links.specs.Links.{others_from}
use Rattle.server_core.specs.Meaning.{CoreMeaning}
use Rattle.server_core.specs.declared.server.verdicts.Objection.{Objection}
use Rattle.server_core.specs.declared.server.verdicts.Objection.TheVariants as objection

abbrev pub refusal_for : Objection → Refusal
refusal_for objection.Long = refusal.Long
refusal_for objection.ReadOnly = refusal.ReadOnly
refusal_for (objection.Packet fault) = refusal.Packet fault
refusal_for (objection.Path drop') = refusal.Path drop'

-- what the packet of a line from there goes on as
abbrev pub routed_in : CoreMeaning → Source → Origin → List ℕ → Result PartsSeen Refusal
routed_in core from origin line = read_and_routed core.conf.server origin (others_from from core.seen.links) (parts_of line)

-- what a call left of a packet, where there is nothing against it, is what the definition gives
abbrev pub Routes : {X : Type 0} → Result X Objection → PartsSeen → Result PartsSeen Refusal → Type 0
Routes (Ok _) left read = read ≡ Ok left
Routes (Err against) left read = read ≡ Err (refusal_for against)

-- what was made of a line from there now is the packet that it goes on as, or what there is against it
abbrev pub Makes : {X : Type 0} → (X → PacketSeen) → Result X Objection → CoreMeaning → Source → Origin → List ℕ → Type 0
Makes value (Ok packet) core from origin line =
    (parts : PartsSeen) × (routed_in core from origin line ≡ Ok parts) × (value packet ≡ packet_of from core.seen.moment parts (text_of parts))
Makes value (Err against) core from origin line = routed_in core from origin line ≡ Err (refusal_for against)
