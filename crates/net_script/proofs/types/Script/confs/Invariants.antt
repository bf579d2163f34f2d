use Rattle.std.proofs.Common.{◌≡◌, take}
use Rattle.std.specs.List.{AllZip}
use Rattle.net_script.specs.Layouts.{IsConfOf, layout_of}
use Rattle.net_script.proofs.types.Script.confs.Given as goal

-- the configurations of the servers so far
abbrev pub invariant-loop-server : goal.invariant-loop-server
invariant-loop-server l = (l.number ≡ l.server-index) × AllZip IsConfOf l.confs.items (take l.server-index (layout_of l.self).servers)
