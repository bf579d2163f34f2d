-- How the wire shows what a server did: a line that it sent to a downlink is cast there.
use Rattle.std.specs.Prelude.{ℕ, ◌+◌, List, [], ◌∷◌, Option, Some, None}
use Rattle.aprs_base.specs.declared.events.Happening.{Happening}
use Rattle.aprs_base.specs.declared.events.Happening.TheVariants as did
use Rattle.aprs_base.specs.declared.events.Sent.{Sent}
use Rattle.aprs_history.specs.Setting.{Setting}
use Rattle.aprs_history.specs.Trace.{Trace}
use Rattle.aprs_history.specs.History.{History, trace_of}
use Rattle.aprs_history.specs.Downs.{DownSeen, down_of}

-- the wire's numbers of those to whom datagrams are cast: below this one those of peers, and from it on those of downlinks
abbrev pub first_down : ℕ
first_down = 256

-- bytes that were sent to a link, by the downlink that it is, where it is one
abbrev pub sent_as : Option DownSeen → (link : ℕ) → List ℕ → Sent → Happening
sent_as None link bytes outcome = did.Sent link bytes outcome
sent_as (Some down) link bytes outcome = did.Cast (first_down + down.number) bytes

-- how one happening is shown, after a history of that trace
abbrev pub wired_as : Setting → Trace → Happening → Happening
wired_as setting trace (did.Sent link bytes outcome) = sent_as (down_of setting trace link) link bytes outcome
wired_as setting trace x = x

-- what the wire shows where the server saw this
abbrev pub on_wire : Setting → History → History
on_wire setting [] = []
on_wire setting (x ∷ earlier) = wired_as setting (trace_of setting earlier) x ∷ on_wire setting earlier
