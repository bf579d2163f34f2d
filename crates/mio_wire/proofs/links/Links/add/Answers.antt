use Rattle.std.proofs.Common.{◌≡◌, ◌+◌, [], ◌∷◌, ◌++◌, ap, ◌∙◌}
use Rattle.std.proofs.lemmas.List.{map-append}
use Rattle.mio_wire.specs.declared.links.Link.{Link}
use Rattle.mio_wire.specs.Linked.{numbers}
use Rattle.mio_wire.proofs.LinkLemmas.{counted_push, rising_push}
use Rattle.mio_wire.proofs.links.Links.add.Goals as goal

pub invariant_of-self-2 : goal.invariant_of-self-2
invariant_of-self-2 g c =
    let old = c.args.self.now in
    let same : numbers c.push_back.new.self.items ≡ numbers old.list.items ++ (old.made + 1) ∷ [] =
    ap numbers c.in_ok-push_back.ensures.items ∙ map-append (λ (l : Link _). l.number) old.list.items _ in
    rw same (record { rising = rising_push old.made (numbers old.list.items) old.rising old.counted; counted = counted_push old.made (numbers old.list.items) old.counted })
