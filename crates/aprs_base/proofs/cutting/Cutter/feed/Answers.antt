use Rattle.std.proofs.Common.{◌≡◌, ◌++◌, ◌+◌, [], append-nil, append_assoc, sym, ◌∙◌, ap, arith, drop, take}
use Rattle.std.specs.List.{cons_option}
use Rattle.aprs_base.specs.Cuts.{cut_of, cuts_of, rest_of, cuts_by}
use Rattle.aprs_base.specs.Held.{held_of}
use Rattle.aprs_base.specs.Bytes.{is_line_end}
use Rattle.aprs_base.proofs.CutLemmas.{inner_append, inner_below, inner_all, inner_rest, cut_step, rest_step, rest_of-append, rest_of-inner, cuts_of-append, cuts_of-inner}
use Rattle.aprs_base.proofs.PlaceLemmas.{place_found}
use Rattle.aprs_base.proofs.cutting.Cutter.feed.Goals as goal

pub extend-requires : goal.extend-requires
extend-requires c = inner_all c.args.piece.now c.in_default.ensures

pub returns-in_default-clause-held : goal.returns-in_default-clause-held
returns-in_default-clause-held c = λ before is.
    let line = rest_of before in
    let last = inner_append line c.args.piece.now (inner_rest before) (inner_all c.args.piece.now c.in_default.ensures) in
    c.extend.ensures line (inner_rest before) is ∙ ap held_of (sym (rest_of-append before c.args.piece.now ∙ rest_of-inner (line ++ c.args.piece.now) last))

pub returns-in_default-clause-cuts : goal.returns-in_default-clause-cuts
returns-in_default-clause-cuts c = λ before is.
    let line = rest_of before in
    let last = inner_append line c.args.piece.now (inner_rest before) (inner_all c.args.piece.now c.in_default.ensures) in
    sym (ap (λ cuts. c.args.out.now.items ++ cuts) (cuts_of-inner (line ++ c.args.piece.now) last) ∙ append-nil c.args.out.now.items)

pub returns-in_default-clause-stream : goal.returns-in_default-clause-stream
returns-in_default-clause-stream c = λ before earlier is was.
    returns-in_default-clause-cuts c before is ∙ ap (λ cuts. cuts ++ cuts_by before c.args.piece.now) was
    ∙ append_assoc earlier (cuts_of before) (cuts_by before c.args.piece.now) ∙ ap (λ cuts. earlier ++ cuts) (sym (cuts_of-append before c.args.piece.now))

pub end_line-requires : goal.end_line-requires
end_line-requires c = inner_below _ _ (λ k lt passes. c.in-Some.ensures.0.before k (omega arith) lt passes)

pub returns-clause-held : goal.returns-clause-held
returns-clause-held c = λ before is.
    let piece = c.args.piece.now in
    let place = place_found is_line_end piece c.in-Some.end c.in-Some.ensures.0 c.in-Some.ensures.1 in
    c.begin_line.ensures
    ∙ ap held_of (c.in_ok-rest.ensures.rest ∙ ap rest_of c.past.ensures
    ∙ sym (rest_of-append before piece ∙ rest_step (rest_of before) piece c.in-Some.end (inner_rest before) place c.in-Some.ensures.0.high))

pub returns-clause-cuts : goal.returns-clause-cuts
returns-clause-cuts c = λ before is.
    let piece = c.args.piece.now in
    let place = place_found is_line_end piece c.in-Some.end c.in-Some.ensures.0 c.in-Some.ensures.1 in
    let first = c.end_line.new.out.items in
    let cut : cuts_by before piece ≡ first ++ cuts_of (drop (c.in-Some.end + 1) piece) =
    cut_step (rest_of before) piece c.in-Some.end [] first (inner_rest before) place c.in-Some.ensures.0.high
    (c.in_ok-end_line.ensures (rest_of before) (inner_rest before) is ∙ ap (λ xs. xs ++ cons_option (cut_of (rest_of before ++ take c.in-Some.end piece)) []) c.in_ok-cuts.ensures.items) in
    c.in_ok-put_behind.ensures.ok ∙ ap (λ cuts. c.args.out.now.items ++ cuts) (
    c.in_ok-rest.ensures.cuts ∙ ap (λ bytes. first ++ cuts_of bytes) c.past.ensures ∙ sym cut)

pub returns-clause-stream : goal.returns-clause-stream
returns-clause-stream c = λ before earlier is was.
    returns-clause-cuts c before is ∙ ap (λ cuts. cuts ++ cuts_by before c.args.piece.now) was
    ∙ append_assoc earlier (cuts_of before) (cuts_by before c.args.piece.now) ∙ ap (λ cuts. earlier ++ cuts) (sym (cuts_of-append before c.args.piece.now))
