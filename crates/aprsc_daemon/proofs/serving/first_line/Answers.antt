use Rattle.std.proofs.Common.{◌+◌, ◌∷◌, ◌∙◌, ap, arith, drop, sym}
use Rattle.aprs_history.specs.Downs.{whole_lines}
use Rattle.aprsc_daemon.proofs.SendingLemmas.{first_found, none_found}
use Rattle.aprsc_daemon.proofs.serving.first_line.Goals as goal

pub returns-then-end-bytes-clause-none : goal.returns-then-end-bytes-clause-none
returns-then-end-bytes-clause-none c = λ none. none_found c.args.bytes.now c.first_place-end.result c.first_place-end.ensures.place c.if-end-bytes.true

pub returns-clause-some : goal.returns-clause-some
returns-clause-some c =
    let end = c.first_place-end.result in
    let within = c.first_place-end.ensures.within in (
      first_found c.args.bytes.now end c.first_place-end.ensures.place (omega (arith, within, c.if-end-bytes.false))
          ∙ ap (λ line. line ∷ whole_lines (drop (end + 1) c.args.bytes.now)) (sym c.split_at.ensures.front)
          ∙ ap (λ behind. c.split_at.result.0.now ∷ whole_lines behind) (sym c.split_at.ensures.back),
      c.split_at.ensures.by_index.0,
    )
