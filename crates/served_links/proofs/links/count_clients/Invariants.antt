use Rattle.std.proofs.Common.{◌≡◌, ◌+◌, ◌≤◌, drop}
use Rattle.served_links.specs.Links.{clients_in}
use Rattle.served_links.proofs.links.count_clients.Given as goal

-- those counted so far, and those that are left, are all
abbrev pub invariant-loop-link : goal.invariant-loop-link
invariant-loop-link l = (l.count ≤ l.link-index) × (l.count + clients_in (drop l.link-index l.links) ≡ clients_in l.links)
