use Rattle.std.proofs.Common.{◌≡◌, ◌++◌, drop, map}
use Rattle.served_links.specs.Links.{here}
use Rattle.served_links.specs.EndLines.{stop_line}
use Rattle.served_links.proofs.telling.tell_stopped.Given as goal

-- the lines so far, and those of what is left, make the whole
abbrev pub invariant-loop-link : goal.invariant-loop-link
invariant-loop-link l = l.lines.items ++ map (stop_line l.now) (here (drop l.link-index l.links)) ≡ l.initial.lines.items ++ map (stop_line l.now) (here l.links)
