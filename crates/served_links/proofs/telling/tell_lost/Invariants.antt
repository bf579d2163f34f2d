use Rattle.std.proofs.Common.{◌≡◌, ◌++◌, drop, filter, map}
use Rattle.served_links.specs.Links.{is_lost_here}
use Rattle.served_links.specs.EndLines.{lost_line}
use Rattle.served_links.proofs.telling.tell_lost.Given as goal

-- the lines so far, and those of what is left, make the whole
abbrev pub invariant-loop-link : goal.invariant-loop-link
invariant-loop-link l = l.lines.items ++ map (lost_line l.now) (filter is_lost_here (drop l.link-index l.links)) ≡ l.initial.lines.items ++ map (lost_line l.now) (filter is_lost_here l.links)
