-- Downlinks: the links whose logins asked for their lines by datagrams. Each line goes to such a link in a datagram of its own, and
-- the link takes it whole, since nothing tells of a datagram that is lost.
use Rattle.std.specs.Prelude.{ℕ, ◌==◌, ◌+◌, ◌&&◌, Bool, false, nat_lt, List, [], ◌∷◌, ◌++◌, Option, Some, None, option_map, if◌then◌else◌}
use Rattle.std.specs.Str.{byte}
use Rattle.std.specs.List.{list_any}
use Rattle.aprs_base.specs.declared.cutting.Cut.{Cut}
use Rattle.aprs_base.specs.declared.cutting.Cut.TheVariants as cut
use Rattle.aprs_base.specs.declared.packets.PortKind.{PortKind}
use Rattle.aprs_base.specs.declared.packets.Source.{Source}
use Rattle.aprs_base.specs.declared.packets.Source.TheVariants as source
use Rattle.aprs_base.specs.declared.texts.Addr.{Addr}
use Rattle.link_queue.specs.Lines.{queued}
use Rattle.login_pass.specs.Downlinks.{downlink_of}
use Rattle.aprs_history.specs.declared.verdicts.LinkKind.{LinkKind}
use Rattle.aprs_history.specs.declared.verdicts.LinkKind.TheVariants.{Client, Uplink}
use Rattle.aprs_history.specs.declared.verdicts.Verdict.{Verdict}
use Rattle.aprs_history.specs.declared.verdicts.Verdict.TheVariants.{LoggedIn}
use Rattle.aprs_history.specs.Setting.{Setting, is_same_down}
use Rattle.aprs_history.specs.Trace.{Trace, Opened, Said, is_from}
use Rattle.aprs_history.specs.Links.{Opening, opening_of, taken_by}
use Rattle.aprs_history.specs.Texts.{lines_of}

-- a downlink: its number, counted from 0, and where its lines are cast to
pub record DownSeen : Type 0 where
  pub number : ℕ
  pub to : Addr

-- the most links that may become downlinks, ended ones too
abbrev pub most_downs : ℕ
most_downs = 65280

-- the port that a login asks its lines to be cast to
abbrev pub asked_port : Cut → Verdict → Option ℕ
asked_port (cut.Line line) (LoggedIn session answer) = downlink_of line
asked_port said verdict = None

-- lines may be cast to the links of such ports
abbrev pub may_be_down : List PortKind → LinkKind → Bool
may_be_down downs (Client port) = list_any (is_same_down port) downs
may_be_down downs (Uplink uplink) = false

-- that port of where a link came from
abbrev pub port_of_link : Addr → ℕ → Addr
port_of_link from port = record { ip = from.ip; port = port }

-- the address that a link asks for, where its lines may be cast
abbrev pub asked_addr : List PortKind → Option Opening → Option ℕ → Option Addr
asked_addr downs None port = None
asked_addr downs (Some opening) port = if may_be_down downs opening.kind then option_map (port_of_link opening.from) port else None

-- each line of its text that a link has begun to take, it has taken whole
abbrev pub is_at_line_start : Setting → Trace → ℕ → Bool
is_at_line_start setting trace link = (queued (lines_of setting trace link) (taken_by trace link)).offset == 0

-- where the lines of a link are cast to from its login on, where so many links were downlinks before
abbrev pub link_down : Setting → (earlier : Trace) → (before link : ℕ) → Option ℕ → Option Addr
link_down setting earlier before link port =
    asked_addr setting.downs (opening_of earlier link) (if nat_lt before most_downs && is_at_line_start setting earlier link then port else None)

abbrev pub source_down : Setting → (earlier : Trace) → (before : ℕ) → Source → Option ℕ → Option Addr
source_down setting earlier before (source.Link link) port = link_down setting earlier before link port
source_down setting earlier before from port = None

abbrev pub one_if : {X : Type 0} → Option X → ℕ
one_if None = 0
one_if (Some x) = 1

-- how many links became downlinks
abbrev pub downs_in : Setting → Trace → ℕ
downs_in setting [] = 0
downs_in setting (Said from said verdict ∷ earlier) = downs_in setting earlier + one_if (source_down setting earlier (downs_in setting earlier) from (asked_port said verdict))
downs_in setting (entry ∷ earlier) = downs_in setting earlier

-- the downlink that a link becomes by what is said
abbrev pub down_by : ℕ → Option Addr → Option DownSeen → Option DownSeen
down_by number None before = before
down_by number (Some to) before = Some (record { number = number; to = to })

-- the downlink that a link is, where it is one
abbrev pub down_of : Setting → Trace → ℕ → Option DownSeen
down_of setting [] link = None
down_of setting (Opened door admission opened from ∷ earlier) link = if link == opened then None else down_of setting earlier link
down_of setting (Said from said verdict ∷ earlier) link =
    if is_from link from then down_by (downs_in setting earlier) (source_down setting earlier (downs_in setting earlier) from (asked_port said verdict)) (down_of setting earlier link)
    else down_of setting earlier link
down_of setting (entry ∷ earlier) link = down_of setting earlier link

-- bytes cut behind each LF, where these came before them: what is behind the last LF is no line yet
abbrev pub lines_behind : (before bytes : List ℕ) → List (List ℕ)
lines_behind before [] = []
lines_behind before (b ∷ bytes) = if b == byte "\n" then (before ++ b ∷ []) ∷ lines_behind [] bytes else lines_behind (before ++ b ∷ []) bytes

abbrev pub whole_lines : List ℕ → List (List ℕ)
whole_lines bytes = lines_behind [] bytes
