-- What the steps between two servers leave of what is kept of them.
use Rattle.std.specs.Prelude.{◌≡◌, ℕ, ◌+◌, ◌-◌, ◌≤◌, ◌==◌, Bool, true, false, List, [], length, take, drop, Option, Some, None, slice_get, if◌then◌else◌, ⊤}
use Rattle.std.specs.Option.{option_map}
use Rattle.aprs_base.specs.declared.events.Event.TheVariants as event
use Rattle.net_history.specs.declared.events.Pair.{Pair}
use Rattle.net_history.specs.Network.{End, address_of, changed_at, number_of}
use Rattle.net_history.specs.Steps.{address_in}
use Rattle.net_schedule.specs.Asked.{on_way}
use Rattle.net_schedule.specs.Kept.{kept_arrival, kept_downlink, kept_told, kept_uplink}
use Rattle.net_schedule.specs.Running.{ServerKept, WayKept, setting_in}

-- ---- a pair joins

abbrev pub no_way : Pair → Option WayKept
no_way pair = None

abbrev pub after_join : Pair → List ServerKept → List ServerKept
after_join pair servers =
    changed_at (kept_downlink pair.listener (address_of pair.low)) pair.high
    (changed_at (kept_uplink pair.uplink (address_of pair.high)) pair.low servers)

abbrev pub links_at : Option ServerKept → ℕ
links_at None = 0
links_at (Some kept) = length kept.made

abbrev pub new_way : Pair → List ServerKept → WayKept
new_way pair servers = record {
  low = record { server = pair.low; place = links_at (slice_get servers pair.low) };
  high = record { server = pair.high; place = links_at (slice_get servers pair.high) + (if pair.low == pair.high then 1 else 0) };
  up = [];
  down = [];
}

abbrev pub way_joined : Pair → List ServerKept → Option WayKept → Option WayKept
way_joined pair servers before = Some (new_way pair servers)

-- ---- a pair is cut

abbrev pub after_cut : Option WayKept → List ServerKept → List ServerKept
after_cut None servers = servers
after_cut (Some way) servers = kept_told (Some way.high) (kept_told (Some way.low) servers)

-- ---- bytes arrive

abbrev pub far_of : Bool → WayKept → End
far_of true way = way.high
far_of false way = way.low

abbrev pub after_carry : Bool → ℕ → Option WayKept → List ServerKept → List ServerKept
after_carry up k None servers = servers
after_carry up k (Some way) servers = changed_at (kept_arrival (event.Bytes (number_of (far_of up way)) (take k (on_way up way)))) (far_of up way).server servers

-- the next bytes on that way, and the end to which they go
abbrev pub IsPiece : Bool → ℕ → Option WayKept → Option (End × List ℕ) → Type 0
IsPiece up k None piece = ⊤
IsPiece up k (Some way) piece = piece ≡ Some (far_of up way, take k (on_way up way))

abbrev pub without_first : Bool → ℕ → WayKept → WayKept
without_first true k way = record way { up = drop k way.up }
without_first false k way = record way { down = drop k way.down }

abbrev pub way_carried : Bool → ℕ → Option WayKept → Option WayKept
way_carried up k way = option_map (without_first up k) way

-- ---- a datagram arrives

abbrev pub HasFewListens : ServerKept → Type 0
HasFewListens kept = length kept.listens ≤ 65536

abbrev pub kept_mail : ℕ → List ℕ → ServerKept → ServerKept
kept_mail peer bytes kept = kept_arrival (event.Datagram (length kept.listens - 1) (address_in (slice_get (setting_in kept).peers peer)) bytes) kept

abbrev pub after_mail : ℕ → ℕ → Option (List ℕ) → List ServerKept → List ServerKept
after_mail to peer None servers = servers
after_mail to peer (Some bytes) servers = changed_at (kept_mail peer bytes) to servers
