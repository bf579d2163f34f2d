use Rattle.std.proofs.Common.{rules, ◌^◌, ◌∙◌}
use Rattle.std.proofs.lemmas.List.Sorted.{answers_always}
use Rattle.served_links.specs.Links.{number_of}
use Rattle.served_links.proofs.PlaceLemmas.{searched}
use Rattle.served_links.proofs.links.place_of.Goals as goal

-- the closure gives a link's number
pub returns : goal.returns
returns c =
    let facts = c.binary_search_by_key.ensures in
    let by_number = facts.position number_of (answers_always _ _ _ (λ f a r g called. search rules)) in
    c.ok.ensures.value ∙ searched c.args.number (2 ^ 32) c.args.links.now c.requires _ facts.bound by_number
