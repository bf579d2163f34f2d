use Rattle.std.proofs.Common.{◌≡◌, take}
use Rattle.served_links.specs.Links.{here, numbers}
use Rattle.served_links.proofs.links.all.Given as goal

abbrev pub invariant-loop-link : goal.invariant-loop-link
invariant-loop-link l = l.numbers.items ≡ numbers (here (take l.link-index l.links))
