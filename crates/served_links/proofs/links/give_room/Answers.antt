use Rattle.std.proofs.Common.{◌^◌, ap, ◌∙◌}
use Rattle.std.specs.List.{position}
use Rattle.served_links.specs.Links.{has_that}
use Rattle.served_links.specs.Changes.{with_room}
use Rattle.served_links.proofs.LinkLemmas.{changed_by, changed_nowhere}
use Rattle.served_links.proofs.links.give_room.Goals as goal

pub place_of-requires : goal.place_of-requires
place_of-requires c = rw c.as_slice.ensures.value c.requires

pub returns-in-Some : goal.returns-in-Some
returns-in-Some c =
    let found = c.in-Some.ensures ∙ ap (position (has_that c.args.number)) c.as_slice.ensures.value in
    changed_by c.args.number with_room (2 ^ 32) c.args.links.now.items c.in-Some.place c.index_mut.result.now c.give_room.new.self c.requires found c.index_mut.ensures.value c.give_room.ensures

pub returns-in-None : goal.returns-in-None
returns-in-None c = changed_nowhere c.args.number with_room c.args.links.now.items (c.in-None.ensures ∙ ap (position (has_that c.args.number)) c.as_slice.ensures.value)
