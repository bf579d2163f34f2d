-- The report of a network: what each server accepted.
use Rattle.std.specs.Prelude.{ℕ, List, ◌++◌, codes, length, map}
use Rattle.std.specs.List.{flat_map}
use Rattle.std.specs.Fmt.{decimal}
use Rattle.aprs_base.specs.PacketSeen.{PacketSeen}
use Rattle.aprs_history.specs.Scenes.{accepted_of}
use Rattle.net_history.specs.Network.{NetSeen, ServerSeen, trace_at}

-- the lines that a server accepted, as it sent them on, in order
abbrev pub accepted_at : ServerSeen → List (List ℕ)
accepted_at s = map (λ (packet : PacketSeen). packet.line) (accepted_of (trace_at s))

abbrev pub report_on : ServerSeen → List ℕ
report_on s =
    codes "server " ++ (s.setting.server ++ (codes " accepted " ++ (decimal (length (accepted_at s)) ++ (codes "\n" ++ flat_map (λ line. line ++ codes "\n") (accepted_at s)))))

abbrev pub report_of : NetSeen → List ℕ
report_of n = flat_map report_on n.servers
