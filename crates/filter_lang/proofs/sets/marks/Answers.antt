use Rattle.std.proofs.Common.{◌≡◌, length, arith, get_or}
use Rattle.std.proofs.Math.Seq.{take-length}
use Rattle.filter_lang.specs.Names.{meant}
use Rattle.filter_lang.proofs.SetLemmas.{members_of-set, is_set_more, has_more, printing_meant}
use Rattle.filter_lang.proofs.sets.marks.Goals as goal

pub loop-byte-preserved : goal.loop-byte-preserved
loop-byte-preserved c = λ k.
    let small = printing_meant c.args.text.now c.loop-byte.byte-index c.requires c.loop-byte-test.true in
    let set = is_set_more c.loop-byte.bits (meant (get_or c.args.text.now c.loop-byte.byte-index 0)) k small in
    let more = has_more c.args.text.now c.loop-byte.byte-index k c.loop-byte-test.true in
    rw (c.meant_byte.ensures, more, ← c.loop-byte.invariant k) set

pub returns : goal.returns
returns c =
    let all : c.loop-byte.byte-index ≡ length c.args.text.now = omega arith in
    members_of-set _ _ (rw (all, take-length c.args.text.now) at c.loop-byte.invariant)
