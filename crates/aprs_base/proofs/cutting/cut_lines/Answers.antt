use Rattle.std.proofs.Common.{◌++◌, [], take, refl, sym, ◌∙◌, ap, arith, append-nil}
use Rattle.std.specs.List.{cons_option}
use Rattle.aprs_base.specs.Cuts.{cut_of, cuts_of, rest_of}
use Rattle.aprs_base.specs.Bytes.{IsInner, is_line_end}
use Rattle.aprs_base.proofs.CutLemmas.{inner_below, inner_all, cut_step, rest_step, cuts_of-inner, rest_of-inner}
use Rattle.aprs_base.proofs.PlaceLemmas.{place_found}
use Rattle.aprs_base.proofs.cutting.cut_lines.Goals as goal

pub put_line-requires-clause-bytes : goal.put_line-requires-clause-bytes
put_line-requires-clause-bytes c = inner_below _ _ (λ k lt passes. c.in-Some.ensures.0.before k (omega arith) lt passes)

pub loop-end-preserved : goal.loop-end-preserved
loop-end-preserved c =
    let kept = c.loop-end.invariant in
    let front = take c.in-Some.end c.loop-end.rest.now in
    let place = place_found is_line_end c.loop-end.rest.now c.in-Some.end c.in-Some.ensures.0 c.in-Some.ensures.1 in
    let within = c.in-Some.ensures.0.high in
    let ended = c.in_ok-put_line.ensures ∙ ap (λ line. c.loop-end.out.items ++ cons_option (cut_of line) []) (append-nil front) in (
      kept.0 ∙ cut_step [] c.loop-end.rest.now c.in-Some.end c.loop-end.out.items c.put_line.new.out.items refl place within ended
          ∙ ap (λ xs. c.put_line.new.out.items ++ cuts_of xs) (sym c.past-rest.ensures),
      kept.1 ∙ rest_step [] c.loop-end.rest.now c.in-Some.end refl place within ∙ ap rest_of (sym c.past-rest.ensures),
    )

pub returns-clause-cuts : goal.returns-clause-cuts
returns-clause-cuts c =
    let kept = c.loop-end.invariant in
    let last : IsInner c.loop-end.rest.now = inner_all c.loop-end.rest.now c.in_default.ensures in
    sym (kept.0 ∙ ap (λ cuts. c.loop-end.out.items ++ cuts) (cuts_of-inner c.loop-end.rest.now last) ∙ append-nil c.loop-end.out.items)

pub returns-clause-rest : goal.returns-clause-rest
returns-clause-rest c =
    let kept = c.loop-end.invariant in
    let last : IsInner c.loop-end.rest.now = inner_all c.loop-end.rest.now c.in_default.ensures in
    sym (kept.1 ∙ rest_of-inner c.loop-end.rest.now last)

pub returns-clause-inner : goal.returns-clause-inner
returns-clause-inner c = inner_all c.loop-end.rest.now c.in_default.ensures
