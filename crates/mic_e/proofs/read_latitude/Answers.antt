use Rattle.std.proofs.Common.{get_or, arith, sym}
use Rattle.mic_e.specs.MicE.{digit_of, late_digit_of}
use Rattle.mic_e.proofs.MicELemmas.{equator_is, pair_is, six}
use Rattle.mic_e.proofs.read_latitude.Goals as goal

pub returns-clause-value : goal.returns-clause-value
returns-clause-value c =
    let base = c.args.base.now in
    let whole = pair_is _ _ _ (digit_of (get_or base 0 0)) (digit_of (get_or base 1 0)) _ c.pair.ensures.value c.digit.ensures.value c.digit-2.ensures.value c.in_ok-degrees.was in
    let before = pair_is _ _ _ (digit_of (get_or base 2 0)) (late_digit_of (get_or base 3 0)) _ c.pair-2.ensures.value c.digit-3.ensures.value c.late_digit.ensures.value c.in_ok-minutes.was in
    let after = pair_is _ _ _ (late_digit_of (get_or base 4 0)) (late_digit_of (get_or base 5 0)) _ c.pair-3.ensures.value c.late_digit-2.ensures.value c.late_digit-3.ensures.value c.in_ok-hundredths.was in
    sym (equator_is base _ _ _ _ _ _ _ _ _ c.is_set.result (six base (omega arith)) whole before after c.if-minutes-ge60.false c.is_set.ensures)
