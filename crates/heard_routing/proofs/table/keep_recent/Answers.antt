use Rattle.std.proofs.Common.{rules, filter, length, nat_lt}
use Rattle.heard_routing.specs.Heard.{is_recent_entry}
use Rattle.heard_routing.proofs.TableLemmas.{retained}
use Rattle.heard_routing.proofs.table.keep_recent.Goals as goal

pub returns-clause-kept : goal.returns-clause-kept
returns-clause-kept c =
    retained _ (λ call links. filter (is_recent_entry c.args.age c.args.now) links) (λ links. nat_lt 0 (length links)) _ (λ k v b w g called. search rules) _ _ c.retain.ensures.filtered
