use Rattle.std.proofs.Common.{arith}
use Rattle.std.proofs.lemmas.Bool.Decides.{nat_tests}
use Rattle.filter_lang.proofs.MemberLemmas.{bit_test, members_of-lacks}
use Rattle.filter_lang.proofs.terms.Marks.contains.Goals as goal

pub returns-then-byte-lt128 : goal.returns-then-byte-lt128
returns-then-byte-lt128 c = rw (← c.self.view_is) (bit_test c.self.inside.bits c.args.byte c.if-byte-lt128.true)

pub returns-else-byte-lt128 : goal.returns-else-byte-lt128
returns-else-byte-lt128 c = rw (← c.self.view_is, members_of-lacks c.self.inside.bits c.args.byte c.if-byte-lt128.false) (grind (arith, nat_tests))
