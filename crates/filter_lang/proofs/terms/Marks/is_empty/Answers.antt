use Rattle.std.proofs.Common.{rules, ◌<◌, ◌^◌}
use Rattle.filter_lang.proofs.MemberLemmas.{empty_test}
use Rattle.filter_lang.proofs.terms.Marks.is_empty.Goals as goal

pub returns : goal.returns
returns c = let small : c.self.inside.bits < 2 ^ 128 = search rules in rw (← c.self.view_is) (empty_test c.self.inside.bits small)
