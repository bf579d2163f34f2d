-- What is asked of a running network: whether a step is there.
use Rattle.std.specs.Prelude.{◌≡◌, ℕ, ◌+◌, ◌-◌, ◌<◌, ◌≤◌, ◌==◌, ◌&&◌, Bool, true, false, nat_le, List, length, Option, Some, None, is_some, not, slice_get, if◌then◌else◌, IsTrue}
use Rattle.std.specs.List.{list_all, list_any}
use Rattle.net_history.specs.Places.{Each}
use Rattle.std.specs.Option.{option_and_then}
use Rattle.aprs_base.specs.Bytes.{is_station}
use Rattle.aprs_conf.specs.Seen.{ConfSeen}
use Rattle.aprs_conf.specs.Sound.{IsGroup, IsWithin}
use Rattle.aprs_conf.specs.declared.types.Listen.{Listen}
use Rattle.aprs_history.specs.Setting.{Setting}
use Rattle.server_core.specs.Meaning.{numbered}
use Rattle.net_history.specs.declared.events.Pair.{Pair}
use Rattle.net_history.specs.declared.events.NetEvent.{NetEvent}
use Rattle.net_history.specs.declared.events.NetEvent.TheVariants as net
use Rattle.net_history.specs.Network.{Layout}
use Rattle.net_history.specs.Steps.{peering}
use Rattle.net_schedule.specs.Kept.{kept_may_open, kept_may_say}
use Rattle.net_schedule.specs.Running.{NetKept, ServerKept, WayKept}

abbrev pub kept_has_room : ℕ → Option ServerKept → Bool
kept_has_room more None = false
kept_has_room more (Some kept) = nat_le (length kept.made + more) 4294967295

abbrev pub kept_is_dialled : ℕ → Option ServerKept → Bool
kept_is_dialled uplink None = false
kept_is_dialled uplink (Some kept) = list_any (λ other. other == uplink) kept.dialled

abbrev pub kept_may_join : List ServerKept → Option Pair → Bool
kept_may_join servers None = false
kept_may_join servers (Some pair) =
    kept_is_dialled pair.uplink (slice_get servers pair.low)
    && (if pair.low == pair.high then kept_has_room 2 (slice_get servers pair.low)
    else kept_has_room 1 (slice_get servers pair.low) && kept_has_room 1 (slice_get servers pair.high))

abbrev pub kept_opens : ℕ → Option ServerKept → Bool
kept_opens listener None = false
kept_opens listener (Some kept) = kept_may_open listener kept

abbrev pub kept_says : ℕ → Option ServerKept → Bool
kept_says link None = false
kept_says link (Some kept) = kept_may_say link kept

abbrev pub way_at : ℕ → List (Option WayKept) → Option WayKept
way_at pair ways = option_and_then (λ way. way) (slice_get ways pair)

abbrev pub on_way : Bool → WayKept → List ℕ
on_way true way = way.up
on_way false way = way.down

abbrev pub kept_may_carry : Bool → ℕ → Option WayKept → Bool
kept_may_carry up k None = false
kept_may_carry up k (Some way) = nat_le 1 k && (nat_le k 1460 && nat_le k (length (on_way up way)))

-- the k-th datagram that was cast to each peer, counted from 1
abbrev pub kept_datagram : ℕ → Option ServerKept → Option (List ℕ)
kept_datagram k None = None
kept_datagram k (Some kept) = if k == 0 then None else slice_get kept.casts (k - 1)

abbrev pub kept_may_cast : List ServerKept → ℕ → ℕ → Option (ℕ × ℕ) → Bool
kept_may_cast servers from k None = false
kept_may_cast servers from k (Some numbers) = is_some (kept_datagram k (slice_get servers from))

abbrev pub kept_is_there : NetKept → NetEvent → Bool
kept_is_there kept (net.Open server listener call) = kept_opens listener (slice_get kept.servers server)
kept_is_there kept (net.Say server link line) = kept_says link (slice_get kept.servers server)
kept_is_there kept (net.Round server moment) = is_some (slice_get kept.servers server)
kept_is_there kept (net.Join pair) = kept_may_join kept.servers (slice_get kept.pairs pair)
kept_is_there kept (net.Cut pair) = is_some (way_at pair kept.ways)
kept_is_there kept (net.Carry pair up k) = kept_may_carry up k (way_at pair kept.ways)
kept_is_there kept (net.Cast from to k) = kept_may_cast kept.servers from k (peering from to kept.peers)

-- ---- what a network is made of

-- none of these is idle
abbrev pub AreBusy : List Listen → Type 0
AreBusy listens = IsTrue (list_all (λ (listen : Listen). not listen.idle) listens)

-- a core serves by such a configuration, and casts no lines to its links
pub record CanServe (conf : ConfSeen) : Type 0 where
  pub listens : length (numbered conf.listens) ≤ 16
  pub station : IsTrue (is_station conf.server)
  pub uplinks : length conf.uplinks ≤ 8
  pub peers : IsGroup conf.group conf.peers
  pub window : IsWithin 10 300 conf.dupe_window
  -- no listener is idle: those of the clients' kinds would be cast from
  pub busy : AreBusy conf.listens

-- the listeners of each server have numbers of 16 bits
abbrev pub HaveFewListens : Layout → Type 0
HaveFewListens layout = Each (λ (setting : Setting). length setting.listens ≤ 65536) layout.servers

-- a server has a peer of that number
abbrev pub HasPeer : Layout → ℕ → ℕ → Type 0
HasPeer layout server peer = (setting : Setting) → slice_get layout.servers server ≡ Some setting → peer < length setting.peers

-- each number of a peer pair is that of a peer
abbrev pub HavePeers : Layout → Type 0
HavePeers layout = Each (λ pair. HasPeer layout pair.a pair.at_a × HasPeer layout pair.b pair.at_b) layout.peers
