-- The network that a script asks for: how its servers are set, and how they may be joined.
use Rattle.std.specs.Prelude.{◌≡◌, ℕ, ◌==◌, false, if◌then◌else◌, List, [], ◌∷◌, ◌++◌, codes, map, not, replicate, Option, Some, None, slice_get, IsTrue}
use Rattle.std.specs.List.{enumerate_from, filter_map, list_all, list_any}
use Rattle.aprs_base.specs.OptionSteps.{◌>>=◌}
use Rattle.aprs_base.specs.UplinkSeen.{UplinkSeen}
use Rattle.aprs_base.specs.declared.packets.ListenSpec.{ListenSpec}
use Rattle.aprs_base.specs.declared.packets.PortKind.{PortKind}
use Rattle.aprs_base.specs.declared.packets.PortKind.TheVariants as kind
use Rattle.aprs_base.specs.declared.texts.Addr.{Addr}
use Rattle.aprs_conf.specs.Seen.{ConfSeen}
use Rattle.aprs_conf.specs.Sound.{IsSound}
use Rattle.aprs_conf.specs.declared.types.Listen.{Listen}
use Rattle.aprs_conf.specs.declared.types.PeerSpec.{PeerSpec}
use Rattle.aprs_history.specs.Setting.{Peer, Setting}
use Rattle.login_pass.specs.Passcode.{passcode_of}
use Rattle.net_history.specs.declared.events.Pair.{Pair}
use Rattle.net_history.specs.declared.events.PeerPair.{PeerPair}
use Rattle.net_history.specs.Network.{Layout, address_of}
use Rattle.net_script.specs.declared.types.ScriptServer.{ScriptServer}
use Rattle.net_script.specs.Grammar.{has_peer, uplinks_of}
use Rattle.net_script.specs.Seen.{ScriptSeen}

-- a port on every address. No text of a network shows where it is
abbrev pub port : PortKind → ℕ → ListenSpec
port kind number = record { kind = kind; at = record { ip = 0 ∷ 0 ∷ 0 ∷ 0 ∷ []; port = number } }

-- where a server with peers takes their datagrams: at its address
abbrev pub group_of : ℕ → List PeerPair → Option Addr
group_of server peers = if list_any (has_peer server) peers then Some (address_of server) else None

abbrev pub group_ports : Option Addr → List ListenSpec
group_ports None = []
group_ports (Some at) = record { kind = kind.Core; at = at } ∷ []

-- an uplink. No text of a network shows where it goes
abbrev pub some_uplink : UplinkSeen
some_uplink = record { host = codes "10.0.0.0"; port = 1 }

-- an uplink for each `uplink` line of the server
abbrev pub uplinks_at : ℕ → List Pair → List UplinkSeen
uplinks_at server pairs = replicate (uplinks_of server pairs) some_uplink

-- the other server of a pair of peers, where this one is of it
abbrev pub beyond : ℕ → PeerPair → Option ℕ
beyond server pair = if pair.a == server then Some pair.b else if pair.b == server then Some pair.a else None

abbrev pub peer_named : List ScriptServer → ℕ → Option Peer
peer_named servers other = slice_get servers other >>= λ server. Some (record { call = server.call; at = address_of other })

-- the other server of the pair, as a peer of this one
abbrev pub peer_in : ScriptSeen → ℕ → PeerPair → Option Peer
peer_in script server pair = beyond server pair >>= peer_named script.servers

abbrev pub peers_at : ScriptSeen → ℕ → List Peer
peers_at script server = filter_map (peer_in script server) script.peers

-- the setting of a server: what its lines say, and else what a configuration has where its lines say nothing
abbrev pub setting_at : ScriptSeen → ℕ → ScriptServer → Setting
setting_at script number server = record {
  server = server.call;
  code = passcode_of server.call;
  listens = port kind.Full 10152 ∷ port kind.Igate 14580 ∷ group_ports (group_of number script.peers);
  downs = [];
  uplinks = uplinks_at number script.pairs;
  peers = peers_at script number;
  up_timeout = 15;
  client_timeout = 172800;
  max_clients = 500;
  window = server.window;
}

abbrev pub numbered_setting : ScriptSeen → ℕ × ScriptServer → Setting
numbered_setting script numbered = setting_at script numbered.0 numbered.1

abbrev pub layout_of : ScriptSeen → Layout
layout_of script = record { servers = map (numbered_setting script) (enumerate_from 0 script.servers); pairs = script.pairs; peers = script.peers }

-- ---- configurations

-- a listener that isn't idle
abbrev pub listen : List ℕ → PortKind → ℕ → Listen
listen name kind number = record { name = name; spec = port kind number; idle = false }

-- what a configuration has where its lines say no more than they must
abbrev pub plain_conf : ConfSeen
plain_conf = record {
  server = codes "NONE";
  code = 0;
  admin = [];
  email = [];
  listens = listen (codes "full") kind.Full 10152 ∷ listen (codes "igate") kind.Igate 14580 ∷ [];
  upload = None;
  page = None;
  uplinks = [];
  group = None;
  peers = [];
  up_timeout = 15;
  client_timeout = 172800;
  max_clients = 500;
  dupe_window = 30;
}

abbrev pub peer_of : PeerSpec → Peer
peer_of peer = record { call = peer.call; at = peer.at }

-- the configuration has this setting: no listener of it is idle, so none is only cast from, and behind them comes that of its peer group
pub record HasSetting (conf : ConfSeen) (setting : Setting) : Type 0 where
  pub server : conf.server ≡ setting.server
  pub code : conf.code ≡ setting.code
  pub busy : IsTrue (list_all (λ (listen : Listen). not listen.idle) conf.listens)
  pub listens : map (λ (listen : Listen). listen.spec) conf.listens ++ group_ports conf.group ≡ setting.listens
  pub downs : setting.downs ≡ []
  pub uplinks : conf.uplinks ≡ setting.uplinks
  pub peers : map peer_of conf.peers ≡ setting.peers
  pub up_timeout : conf.up_timeout ≡ setting.up_timeout
  pub client_timeout : conf.client_timeout ≡ setting.client_timeout
  pub max_clients : conf.max_clients ≡ setting.max_clients
  pub window : conf.dupe_window ≡ setting.window

-- the configuration of a server that is set so
abbrev pub IsConfOf : ConfSeen → Setting → Type 0
IsConfOf conf setting = HasSetting conf setting × IsSound conf
