-- Small networks, and what the definitions say of them.
use Rattle.std.proofs.Common.{◌≡◌, refl, inl, inr, ℕ, List, [], ◌∷◌, ◌++◌, codes, map, Bool, true, false}
use Rattle.std.specs.Prelude.{reverse}
use Rattle.std.specs.Fmt.{digits}
use Rattle.aprs_base.specs.declared.events.Event.TheVariants as event
use Rattle.aprs_base.specs.declared.events.Happening.TheVariants as did
use Rattle.aprs_base.specs.declared.packets.ListenSpec.{ListenSpec}
use Rattle.aprs_base.specs.declared.packets.PortKind.{PortKind}
use Rattle.aprs_base.specs.declared.packets.PortKind.TheVariants as kind
use Rattle.aprs_body.specs.Bodies.{body_of}
use Rattle.login_pass.specs.Login.{login_of}
use Rattle.login_pass.specs.Passcode.{passcode_of}
use Rattle.q_construct.specs.Rule.{process_of, given_drops, built_drops, built_row, rows}
use Rattle.tnc2_line.specs.Packet.{parts_of, text_of, via_of, head_of}
use Rattle.aprs_history.specs.Setting.{Setting}
use Rattle.aprs_history.specs.History.{trace_of}
use Rattle.aprs_history.specs.Acts.{due}
use Rattle.net_history.specs.declared.events.NetEvent.{NetEvent}
use Rattle.net_history.specs.declared.events.NetEvent.TheVariants as net
use Rattle.net_history.specs.Network.{Layout, address_of}
use Rattle.net_history.specs.Openings.{WasOpened, is_heard}
use Rattle.net_history.specs.Steps.{is_there, network_of}
use Rattle.net_history.specs.Report.{report_of}

abbrev listen : PortKind → ℕ → ListenSpec
listen kind number = record { kind = kind; at = record { ip = 0 ∷ 0 ∷ 0 ∷ 0 ∷ []; port = number } }

abbrev server : List ℕ → ℕ → Setting
server call code = record {
  server = call;
  code = code;
  listens = listen kind.Full 1 ∷ listen kind.Igate 2 ∷ [];
  downs = [];
  uplinks = [];
  peers = [];
  up_timeout = 15;
  client_timeout = 172800;
  max_clients = 500;
  window = 30;
}

-- which of these steps are there, each after those before it
there : Layout → List NetEvent → List NetEvent → List Bool
there layout done [] = []
there layout done (e ∷ more) = is_there layout (network_of layout done) e ∷ there layout (e ∷ done) more

reported : Layout → List NetEvent → List ℕ
reported layout steps = report_of (network_of layout (reverse steps))

-- ---- a leaf and its hub

abbrev to_one_server : Setting → Setting
to_one_server setting = record setting { uplinks = record { host = codes "10.0.0.1"; port = 1 } ∷ [] }

unfoldable pub leaf_and_hub : Layout
leaf_and_hub = record {
  servers = to_one_server (server (codes "T2LEAF") 10963) ∷ server (codes "T2TEST") 8385 ∷ [];
  pairs = record { low = 0; uplink = 0; high = 1; listener = 0 } ∷ [];
  peers = [];
}

-- the uplink's login line has 39 bytes with its end, and the packet 34
unfoldable pub submission : List NetEvent
submission =
    net.Round 1 1000 ∷ net.Round 0 1000 ∷ net.Join 0 ∷ net.Round 0 1001 ∷ net.Carry 0 true 39 ∷ net.Round 1 1001
    ∷ net.Open 0 0 (codes "K1ABC") ∷ net.Say 0 2 (codes "K1ABC>APRS:>hi") ∷ net.Round 0 1002 ∷ net.Carry 0 true 34 ∷ net.Round 1 1002 ∷ []

all_there : there leaf_and_hub [] submission ≡ map (λ (e : NetEvent). true) submission
unfolding due trace_of network_of leaf_and_hub submission there digits parts_of text_of via_of head_of login_of passcode_of process_of given_drops built_drops built_row rows body_of
all_there = refl

submission_reported : reported leaf_and_hub submission
    ≡ codes "server T2LEAF accepted 1\nK1ABC>APRS,TCPIP*,qAC,T2LEAF:>hi\nserver T2TEST accepted 1\nK1ABC>APRS,TCPIP*,qAC,T2LEAF:>hi\n"
unfolding due trace_of network_of leaf_and_hub submission reported digits parts_of text_of via_of head_of login_of passcode_of process_of given_drops built_drops built_row rows body_of
submission_reported = refl

-- no pair joins that wasn't dialled, and none twice by one dial; no more bytes come than are on their way; no link is there that no client
-- opened; after a cut nothing is on its way
not_there : there leaf_and_hub [] (net.Join 0 ∷ net.Round 0 1000 ∷ net.Join 0 ∷ net.Join 0 ∷ net.Round 0 1001 ∷ net.Carry 0 true 40 ∷ net.Carry 0 true 0 ∷ net.Carry 0 true 39 ∷ net.Carry 0 true 1
    ∷ net.Say 0 1 (codes "#") ∷ net.Say 0 2 (codes "#") ∷ net.Round 2 1001 ∷ net.Cast 0 1 1 ∷ net.Cut 0 ∷ net.Cut 0 ∷ net.Carry 0 true 1 ∷ [])
    ≡ false ∷ true ∷ true ∷ false ∷ true ∷ false ∷ false ∷ true ∷ false ∷ false ∷ false ∷ false ∷ false ∷ true ∷ false ∷ false ∷ []
unfolding due trace_of network_of leaf_and_hub there digits parts_of text_of via_of head_of login_of passcode_of process_of given_drops built_drops built_row rows body_of
not_there = refl

-- ---- two peers, and a datagram that comes again and again

abbrev peer_of : Setting → List ℕ → ℕ → Setting
peer_of setting call at = record setting { listens = setting.listens ++ listen kind.Core 3 ∷ []; peers = record { call = call; at = address_of at } ∷ [] }

unfoldable pub two_peers : Layout
two_peers = record {
  servers = peer_of (server (codes "T2A") 26172) (codes "T2B") 1 ∷ peer_of (server (codes "T2B") 26175) (codes "T2A") 0 ∷ [];
  pairs = [];
  peers = record { a = 0; at_a = 0; b = 1; at_b = 0 } ∷ [];
}

abbrev again_at : ℕ → List NetEvent
again_at moment = net.Cast 0 1 1 ∷ net.Round 1 moment ∷ []

-- a copy is refused 29 s after the first, as what comes in a round is of the moment before its tick, and accepted 30 s after it
unfoldable pub repeated : List NetEvent
repeated =
    net.Round 0 1000 ∷ net.Open 0 0 (codes "K1ABC") ∷ net.Say 0 1 (codes "K1ABC>APRS:>hi") ∷ net.Round 0 1001 ∷ net.Round 1 1000
    ∷ net.Cast 0 1 1 ∷ (again_at 1029 ++ (again_at 1030 ++ again_at 1031))

repeated_reported : reported two_peers repeated
    ≡ codes "server T2A accepted 1\nK1ABC>APRS,TCPIP*,qAC,T2A:>hi\nserver T2B accepted 2\nK1ABC>APRS,TCPIP*,qAC,T2A:>hi\nK1ABC>APRS,TCPIP*,qAC,T2A:>hi\n"
unfolding due trace_of network_of two_peers repeated reported digits parts_of text_of via_of head_of login_of passcode_of process_of given_drops built_drops built_row rows body_of
repeated_reported = refl

-- ---- listeners for clients, and others

-- of three listeners the last one is the peer group's, and there is no fourth
heard : map (is_heard (peer_of (server (codes "T2A") 26172) (codes "T2B") 1)) (0 ∷ 1 ∷ 2 ∷ 3 ∷ []) ≡ true ∷ true ∷ false ∷ false ∷ []
heard = refl

opened : WasOpened 0 1 (did.Closed 1 ∷ did.Event (event.Opened 0 1 (address_of 0)) ∷ did.Listen 0 ∷ [])
opened = inl (refl, refl)

not_opened : WasOpened 1 1 (did.Event (event.Joined 1 1 (address_of 0)) ∷ did.Event (event.Opened 0 1 (address_of 0)) ∷ []) → ⊥
not_opened (inl none) = absurd none
not_opened (inr (inl is)) = let other : ◌≡◌ {A = ℕ} 0 1 = is.0 in cc
not_opened (inr (inr none)) = absurd none

unfoldable pub full_server : Layout
full_server = record { servers = record (server (codes "T2TEST") 8385) { max_clients = 0 } ∷ []; pairs = []; peers = [] }

abbrev opens_and_says : ℕ → List NetEvent
opens_and_says listener = net.Open 0 listener (codes "K1ABC") ∷ net.Say 0 1 (codes "#") ∷ net.Round 0 1000 ∷ net.Say 0 1 (codes "#") ∷ []

-- a client that is turned away has ended once the round has
turned_away : there full_server [] (opens_and_says 0) ≡ true ∷ true ∷ true ∷ false ∷ []
unfolding due trace_of network_of full_server there digits login_of passcode_of
turned_away = refl

-- one at the peer group's listener is neither served nor ended
unserved : there two_peers [] (opens_and_says 2) ≡ true ∷ true ∷ true ∷ true ∷ []
unfolding due trace_of network_of two_peers there digits login_of passcode_of
unserved = refl
