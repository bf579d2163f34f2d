-- The ranges of a configuration.
use Rattle.std.specs.Prelude.{◌≡◌, ℕ, ◌≤◌, List, [], length, Option, None, IsTrue}
use Rattle.std.specs.List.{list_all}
use Rattle.aprs_base.specs.Bytes.{is_station}
use Rattle.aprs_base.specs.declared.texts.Addr.{Addr}
use Rattle.aprs_conf.specs.declared.types.PeerSpec.{PeerSpec}
use Rattle.aprs_conf.specs.Seen.{ConfSeen}
use Rattle.aprs_conf.specs.Served.{all_listens}

abbrev pub IsWithin : ℕ → ℕ → ℕ → Type 0
IsWithin least most n = (least ≤ n) × (n ≤ most)

-- at most 8 peers, each with the call of a station, and none without a group
pub record IsGroup (group : Option Addr) (peers : List PeerSpec) : Type 0 where
  pub few : length peers ≤ 8
  pub stations : IsTrue (list_all (λ peer. is_station peer.call) peers)
  pub grouped : group ≡ None → peers ≡ []

-- of the 16 listeners two may be those for requests by HTTP, but they alone aren't enough
pub record IsSound (conf : ConfSeen) : Type 0 where
  pub server : IsTrue (is_station conf.server)
  pub listens : IsWithin 1 16 (length conf.listens)
  pub served : length (all_listens conf.listens conf.upload conf.page) ≤ 16
  pub uplinks : length conf.uplinks ≤ 8
  pub peers : IsGroup conf.group conf.peers
  pub up_timeout : IsWithin 1 10000000 conf.up_timeout
  pub client_timeout : IsWithin 1 10000000 conf.client_timeout
  pub max_clients : IsWithin 1 10000 conf.max_clients
  pub dupe_window : IsWithin 10 300 conf.dupe_window
