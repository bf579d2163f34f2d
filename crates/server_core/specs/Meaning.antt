-- The core as contracts see it: its configuration, what it keeps, and whether it rests, since no round is walked.
pub use Rattle.aprs_conf.specs.Served.{numbered}
use Rattle.std.specs.Prelude.{◌≡◌, ◌&&◌, ℕ, Bool, List, [], ◌∷◌, ◌++◌, map, Option, None, Some, option_map, if◌then◌else◌}
use Rattle.aprs_base.specs.declared.packets.ListenSpec.{ListenSpec}
use Rattle.aprs_base.specs.declared.packets.PortKind.{PortKind}
use Rattle.aprs_base.specs.declared.packets.PortKind.TheVariants as kind
use Rattle.aprs_base.specs.declared.texts.Addr.{Addr}
use Rattle.aprs_conf.specs.Seen.{ConfSeen}
use Rattle.aprs_conf.specs.declared.types.Listen.{Listen}
use Rattle.aprs_conf.specs.declared.types.PeerSpec.{PeerSpec}
use Rattle.aprs_history.specs.declared.verdicts.LinkKind.{LinkKind}
use Rattle.aprs_history.specs.Downs.{may_be_down, port_of_link}
use Rattle.aprs_history.specs.Setting.{Peer, Setting, is_same_down}
use Rattle.aprs_history.specs.Stands.{CoreSeen, StandsFor}
use Rattle.aprs_history.specs.History.{History, trace_of}
use Rattle.aprs_history.specs.Acts.{Closes, all_offers, cast_act, dials, due}
use Rattle.server_core.specs.ActsSeen.{ActsSeen}
use Rattle.served_links.specs.declared.link.Timeouts.{Timeouts}

-- that of the peer group, where there is one
abbrev pub group_listens : Option Addr → List ListenSpec
group_listens None = []
group_listens (Some at) = record { kind = kind.Core; at = at } ∷ []

-- those that serve what comes there
abbrev pub serving : ConfSeen → List ListenSpec
serving conf = numbered conf.listens ++ group_listens conf.group

-- the idle ones, in order
abbrev pub idle_specs : List Listen → List ListenSpec
idle_specs [] = []
idle_specs (listen ∷ listens) = if listen.idle then listen.spec ∷ idle_specs listens else idle_specs listens

-- a listener that lines are cast from takes submissions for the wire, and what comes there is passed over
abbrev pub caster : ListenSpec → ListenSpec
caster spec = record { kind = kind.Submit; at = spec.at }

abbrev pub casters : ConfSeen → List ListenSpec
casters conf = map caster (idle_specs conf.listens)

-- the kinds of port whose links may have their lines cast
abbrev pub kind_in : ListenSpec → PortKind
kind_in spec = spec.kind

abbrev pub downs_of : ConfSeen → List PortKind
downs_of conf = map kind_in (idle_specs conf.listens)

-- lines are cast from it to links of such ports
abbrev pub casts_to : PortKind → Listen → Bool
casts_to port listen = listen.idle && is_same_down port listen.spec.kind

-- the address that a link of that kind, which came from there, asks its lines to be cast to: that port, where it came from
abbrev pub address_by : List PortKind → LinkKind × Addr → Option ℕ → Option Addr
address_by downs opened port = if may_be_down downs opened.0 then option_map (port_of_link opened.1) port else None

-- all listeners, in the order of their numbers: those that are idle come last
abbrev pub listeners : ConfSeen → List ListenSpec
listeners conf = serving conf ++ casters conf

abbrev pub peer_of : PeerSpec → Peer
peer_of peer = record { call = peer.call; at = peer.at }

abbrev pub setting_of : ConfSeen → Setting
setting_of conf = record {
  server = conf.server;
  code = conf.code;
  listens = listeners conf;
  downs = downs_of conf;
  uplinks = conf.uplinks;
  peers = map peer_of conf.peers;
  up_timeout = conf.up_timeout;
  client_timeout = conf.client_timeout;
  max_clients = conf.max_clients;
  window = conf.dupe_window;
}

abbrev pub timeouts_of : ConfSeen → Timeouts
timeouts_of conf = record { client = conf.client_timeout; uplink = conf.up_timeout }

pub record CoreMeaning : Type 0 where
  pub conf : ConfSeen
  pub seen : CoreSeen
  pub rests : Bool

-- the core stands for a history
abbrev pub Stands : CoreMeaning → History → Type 0
Stands core history = StandsFor (setting_of core.conf) core.seen history

-- the acts are those that are due: the dial, the casts, the offers, and then the closes
pub record AreActs (setting : Setting) (history : History) (acts : ActsSeen) : Type 0 where
  pub due : due setting history
      ≡ dials acts.dial ++ (map cast_act acts.casts ++ (all_offers setting (trace_of setting history) acts.offers ++ map Closes acts.closes))
