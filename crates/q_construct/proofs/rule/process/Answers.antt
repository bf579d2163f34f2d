use Rattle.std.proofs.Common.{◌≡◌, ◌≤◌, length, true, false, ap, ◌∙◌, sym}
use Rattle.aprs_base.specs.Bytes.{is_station}
use Rattle.tnc2_line.specs.Packet.{IsParts, text_of}
use Rattle.q_construct.specs.Rule.{among, name_of, names_after}
use Rattle.q_construct.proofs.Laws.{Keeps, on_answer, answer_sound, answer_short, answer_stays, answer_keeps, answer_unnamed}
use Rattle.q_construct.proofs.rule.process.Goals as goal

pub returns-clause-sound : goal.returns-clause-sound
returns-clause-sound c =
    let named : is_station (name_of c.args.origin.now) ≡ true = ap is_station (sym c.origin_name-name.ensures.value) ∙ c.origin_name-name.ensures.station c.requires.origin in
    on_answer c.args.parts.now c.args.origin.now c.args.server.now c.args.others.now c.process_from.result (λ whole. IsParts whole) c.process_from.ensures
    (λ whole a. answer_sound _ _ _ _ whole c.requires.parts c.requires.server named a)

pub returns-clause-short : goal.returns-clause-short
returns-clause-short c =
    on_answer c.args.parts.now c.args.origin.now c.args.server.now c.args.others.now c.process_from.result (λ whole. length (text_of whole) ≤ 510) c.process_from.ensures
    (λ whole a. answer_short _ _ _ _ whole a)

pub returns-clause-stays : goal.returns-clause-stays
returns-clause-stays c =
    on_answer c.args.parts.now c.args.origin.now c.args.server.now c.args.others.now c.process_from.result
    (λ whole. (whole.source ≡ c.args.parts.now.source) × (whole.dest ≡ c.args.parts.now.dest) × (whole.body ≡ c.args.parts.now.body)) c.process_from.ensures
    (λ whole a. answer_stays _ _ _ _ whole a)

pub returns-clause-keeps : goal.returns-clause-keeps
returns-clause-keeps c = λ between.
    on_answer c.args.parts.now c.args.origin.now c.args.server.now c.args.others.now c.process_from.result (λ whole. Keeps c.args.parts.now.vias whole.vias) c.process_from.ensures
    (λ whole a. answer_keeps _ _ _ _ whole c.requires.parts between a)

pub returns-clause-unnamed : goal.returns-clause-unnamed
returns-clause-unnamed c =
    on_answer c.args.parts.now c.args.origin.now c.args.server.now c.args.others.now c.process_from.result
    (λ whole. among c.args.server.now (names_after c.args.parts.now.vias) ≡ false) c.process_from.ensures
    (λ whole a. answer_unnamed _ _ _ _ whole c.requires.parts a)
