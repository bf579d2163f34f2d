use Rattle.std.proofs.Common.{nat_le, ap, ◌∙◌, arith}
use Rattle.std.proofs.lemmas.List.Sums.{prefix_len-le-length}
use Rattle.std.specs.List.{insert, prefix_len}
use Rattle.server_core.proofs.LinkLemmas.{placed_after}
use Rattle.server_core.proofs.numbers.place.Goals as goal

pub insert-requires : goal.insert-requires
insert-requires c =
    let place = prefix_len-le-length (λ n. nat_le n c.args.number) c.as_slice.result.now in
    let count = c.place_for.ensures in
    let size = c.as_slice.ensures.len in
    omega arith

pub returns : goal.returns
returns c =
    c.in_ok-insert.ensures.items
    ∙ ap (λ n. insert c.args.numbers.now.items n c.args.number) (c.place_for.ensures ∙ ap (prefix_len (λ n. nat_le n c.args.number)) c.as_slice.ensures.value)
    ∙ placed_after c.args.number c.args.numbers.now.items
