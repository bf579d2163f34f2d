use Rattle.std.proofs.Common.{◌≡◌, ◌++◌, drop, filter, map}
use Rattle.served_links.specs.Links.{is_late_here}
use Rattle.served_links.specs.EndLines.{late_line}
use Rattle.served_links.proofs.telling.tell_late.Given as goal

-- the lines so far, and those of what is left, make the whole
abbrev pub invariant-loop-link : goal.invariant-loop-link
invariant-loop-link l = l.lines.items ++ map (late_line l.now) (filter (is_late_here l.timeouts l.now) (drop l.link-index l.links)) ≡ l.initial.lines.items ++ map (late_line l.now) (filter (is_late_here l.timeouts l.now) l.links)
