use Rattle.std.proofs.Common.{rules, subst}
use Rattle.std.specs.List.Sorted.{IsSearchInRange}
use Rattle.std.proofs.lemmas.List.Sorted.{answers_always}
use Rattle.mio_wire.proofs.FindLemmas.{found, unfound}
use Rattle.mio_wire.proofs.HeldLemmas.{found_there}
use Rattle.mio_wire.proofs.links.Links.search.Goals as goal

pub returns-clause-number : goal.returns-clause-number
returns-clause-number g c =
    let facts = c.binary_search_by_key.ensures in
    let by_number = facts.position (λ l. l.number) (answers_always _ _ _ (λ f a r g called. search rules)) in
    let within = subst (IsSearchInRange c.binary_search_by_key.result) c.args.self.now.list.ok.0 facts.bound in
    rw c.ok.ensures.value (found c.args.self.now.list.items c.args.number c.binary_search_by_key.result within by_number)

pub returns-clause-none : goal.returns-clause-none
returns-clause-none g c =
    let facts = c.binary_search_by_key.ensures in
    let by_number = facts.position (λ l. l.number) (answers_always _ _ _ (λ f a r g called. search rules)) in
    rw c.ok.ensures.value (unfound c.args.self.now.list.items c.args.number c.binary_search_by_key.result c.args.self.now.rising by_number)

pub returns-clause-there : goal.returns-clause-there
returns-clause-there g c = found_there c.args.self.now.list.items c.args.number c.ok.result (returns-clause-number g c)
