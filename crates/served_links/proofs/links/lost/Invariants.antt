use Rattle.std.proofs.Common.{◌≡◌, take, filter}
use Rattle.served_links.specs.Links.{is_lost_here, numbers}
use Rattle.served_links.proofs.links.lost.Given as goal

abbrev pub invariant-loop-link : goal.invariant-loop-link
invariant-loop-link l = l.numbers.items ≡ numbers (filter is_lost_here (take l.link-index l.links))
