use Rattle.std.proofs.Common.{◌≡◌, take, filter}
use Rattle.served_links.specs.Changes.{is_asked_at}
use Rattle.served_links.specs.Links.{numbers}
use Rattle.served_links.proofs.links.asked.Given as goal

abbrev pub invariant-loop-link : goal.invariant-loop-link
invariant-loop-link l = l.numbers.items ≡ numbers (filter (is_asked_at l.packet l.hearers l.owed) (take l.link-index l.links))
