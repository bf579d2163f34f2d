use Rattle.std.proofs.Common.{rules, filter, length, nat_lt}
use Rattle.heard_routing.specs.Listed.{has_call}
use Rattle.heard_routing.proofs.TableLemmas.{retained}
use Rattle.heard_routing.proofs.listed.keep_listed.Goals as goal

pub returns-clause-kept : goal.returns-clause-kept
returns-clause-kept c =
    retained _ (λ link calls. filter (has_call c.args.table.now.entries link) calls) (λ calls. nat_lt 0 (length calls)) _ (λ k v b w g called. search rules) _ _ c.retain.ensures.filtered
