use Rattle.std.proofs.Common.{refl, ◌∙◌}
use Rattle.filter_lang.specs.Sets.{members_of}
use Rattle.filter_lang.proofs.WriteLemmas.{bits_put}
use Rattle.filter_lang.proofs.writing.Canonical.members.Goals as goal

pub loop-byte-init : goal.loop-byte-init
unfolding members_of
loop-byte-init c = refl

pub loop-byte-preserved : goal.loop-byte-preserved
loop-byte-preserved c = bits_put c.loop-byte.self c.member.new.self c.args.bits c.loop-byte.byte c.loop-byte-test.true c.in_ok-member.ensures ∙ c.loop-byte.invariant
