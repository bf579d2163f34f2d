use Rattle.std.proofs.Common.{◌≡◌, ◌≤◌, length, true, ap, ◌∙◌, sym}
use Rattle.aprs_base.specs.Bytes.{is_station}
use Rattle.tnc2_line.specs.Packet.{IsParts, text_of}
use Rattle.q_construct.specs.Rule.{name_of}
use Rattle.q_construct.proofs.Laws.{on_filled, answer_sound, answer_short}
use Rattle.q_construct.proofs.rule.process_into.Goals as goal

pub returns-clause-sound : goal.returns-clause-sound
returns-clause-sound g c =
    let named : is_station (name_of c.args.origin.now) ≡ true = ap is_station (sym c.origin_name-name.ensures.value) ∙ c.origin_name-name.ensures.station c.requires.origin in
    on_filled c.args.parts.now c.args.origin.now c.args.server.now (g.O.Calls.calls c.args.others.now) c.fill_from.result c.fill_from.new.whole (IsParts c.fill_from.new.whole) c.fill_from.ensures
    (λ a. answer_sound _ _ _ _ c.fill_from.new.whole c.requires.parts c.requires.server named a)

pub returns-clause-short : goal.returns-clause-short
returns-clause-short g c =
    on_filled c.args.parts.now c.args.origin.now c.args.server.now (g.O.Calls.calls c.args.others.now) c.fill_from.result c.fill_from.new.whole (length (text_of c.fill_from.new.whole) ≤ 510) c.fill_from.ensures
    (λ a. answer_short _ _ _ _ c.fill_from.new.whole a)
