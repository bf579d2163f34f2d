-- What a network that runs always is.
use Rattle.std.specs.Prelude.{◌≡◌, List, [], map}
use Rattle.std.specs.List.{AllZip}
use Rattle.aprs_conf.specs.Seen.{ConfSeen}
use Rattle.server_core.specs.Meaning.{setting_of}
use Rattle.net_history.specs.Network.{new_server}
use Rattle.net_history.specs.declared.events.NetEvent.{NetEvent}
use Rattle.net_schedule.specs.Asked.{HaveFewListens, HavePeers}
use Rattle.net_schedule.specs.Running.{NetKept, ServerKept, layout_of, setting_in}
use Rattle.net_schedule.specs.Standing.{Keeps, StandsFor}

-- servers with these configurations are new
abbrev pub AreNew : List ConfSeen → List ServerKept → Type 0
AreNew confs servers = AllZip (Keeps []) servers (map (λ conf. new_server (setting_of conf)) confs) × (map setting_in servers ≡ map setting_of confs)

-- it stands for some steps, each number of a peer pair is that of a peer, and no server has too many listeners
pub record IsSound (net : NetKept) : Type 0 where
  pub steps : List NetEvent
  pub stands : StandsFor net steps
  pub peers : HavePeers (layout_of net)
  pub few : HaveFewListens (layout_of net)
