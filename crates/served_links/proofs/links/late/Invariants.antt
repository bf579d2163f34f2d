use Rattle.std.proofs.Common.{◌≡◌, take, filter}
use Rattle.served_links.specs.Links.{is_late_here, numbers}
use Rattle.served_links.proofs.links.late.Given as goal

abbrev pub invariant-loop-link : goal.invariant-loop-link
invariant-loop-link l = l.numbers.items ≡ numbers (filter (is_late_here l.timeouts l.now) (take l.link-index l.links))
