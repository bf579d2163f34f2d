use Rattle.std.proofs.Common.{◌≡◌, ◌++◌, drop, map}
use Rattle.server_core.specs.Telling.{refused_line}
use Rattle.server_core.proofs.telling.tell_refused.Given as goal

-- the lines so far, and those of what is left, make the whole
abbrev pub invariant-loop-link : goal.invariant-loop-link
invariant-loop-link l = l.lines.items ++ map (refused_line l.turned l.events l.now) (drop l.link-index l.ends) ≡ l.initial.lines.items ++ map (refused_line l.turned l.events l.now) l.ends
