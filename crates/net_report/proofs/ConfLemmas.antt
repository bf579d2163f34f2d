-- The configurations of a script's servers are such as cores serve by, and have its layout's settings.
use Rattle.std.proofs.Common.{◌≡◌, ℕ, zero, suc, ◌<◌, Bool, true, false, List, [], ◌∷◌, ◌++◌, length, map, refl, sym, ap, ◌∙◌, append-nil, subst, arith, Option, Some, None, IsTrue}
use Rattle.std.specs.Prelude.{slice_get, not}
use Rattle.std.specs.List.{AllZip, list_all}
use Rattle.std.proofs.lemmas.Bool.{and_parts}
use Rattle.std.proofs.lemmas.Option.{slice_get_within}
use Rattle.aprs_base.specs.UplinkSeen.{UplinkSeen}
use Rattle.aprs_base.specs.declared.packets.ListenSpec.{ListenSpec}
use Rattle.aprs_base.specs.declared.packets.PortKind.{PortKind}
use Rattle.aprs_base.specs.declared.texts.Addr.{Addr}
use Rattle.aprs_conf.specs.Seen.{ConfSeen}
use Rattle.aprs_conf.specs.Sound.{IsSound}
use Rattle.aprs_conf.specs.declared.types.Listen.{Listen}
use Rattle.aprs_history.specs.Setting.{Peer, Setting}
use Rattle.net_history.specs.declared.events.Pair.{Pair}
use Rattle.net_history.specs.declared.events.PeerPair.{PeerPair}
use Rattle.net_history.specs.Network.{Layout}
use Rattle.net_history.specs.Places.{Each}
use Rattle.net_schedule.specs.Asked.{AreBusy, CanServe, HasPeer, HavePeers}
use Rattle.net_schedule.proofs.KeepLemmas.{none_idle}
use Rattle.net_script.specs.Laws.{IsWired}
use Rattle.net_script.specs.Layouts.{HasSetting, IsConfOf, group_ports, layout_of, peer_of}
use Rattle.net_script.specs.Seen.{ScriptSeen}
use Rattle.server_core.specs.Meaning.{caster, downs_of, group_listens, kind_in, listeners, numbered, serving, setting_of}
use Rattle.server_core.proofs.OfferLemmas.{numbered_short}

-- ---- what cores serve by

can_serve : (conf : ConfSeen) → IsSound conf → AreBusy conf.listens → CanServe conf
can_serve conf sound busy = record {
  listens = (let few = sound.listens.1 in let short = numbered_short conf.listens in omega (arith, few, short));
  station = sound.server;
  uplinks = sound.uplinks;
  peers = sound.peers;
  window = sound.dupe_window;
  busy = busy;
}

pub all_serve : (confs : List ConfSeen) (settings : List Setting) → AllZip IsConfOf confs settings → Each CanServe confs
all_serve [] [] all = tt
all_serve [] (s ∷ settings) all = absurd all
all_serve (conf ∷ confs) [] all = absurd all
all_serve (conf ∷ confs) (s ∷ settings) all = (can_serve conf all.0.1 all.0.0.busy, all_serve confs settings all.1)

-- ---- the settings

busy_numbered : (listens : List Listen) → IsTrue (list_all (λ (listen : Listen). not listen.idle) listens) → numbered listens ≡ map (λ (listen : Listen). listen.spec) listens
busy_numbered [] busy = refl
busy_numbered (listen ∷ listens) busy =
    let parts = and_parts (not listen.idle) (list_all (λ (listen : Listen). not listen.idle) listens) busy in
    let is : listen.idle ≡ false = by listen.idle parts.0 in
    rw is (ap (λ specs. listen.spec ∷ specs) (busy_numbered listens parts.1))
  where
    by : (b : Bool) → not b ≡ true → b ≡ false
    by true wrong = cc
    by false is = refl

group_same : (group : Option Addr) → group_listens group ≡ group_ports group
group_same None = refl
group_same (Some at) = refl

abbrev setting : List ℕ → ℕ → List ListenSpec → List PortKind → List UplinkSeen → List Peer → (up client most window : ℕ) → Setting
setting server code listens downs uplinks peers up client most window = record {
  server = server;
  code = code;
  listens = listens;
  downs = downs;
  uplinks = uplinks;
  peers = peers;
  up_timeout = up;
  client_timeout = client;
  max_clients = most;
  window = window;
}

setting_is : (conf : ConfSeen) (s : Setting) → HasSetting conf s → setting_of conf ≡ s
setting_is conf s has =
    let idle = none_idle conf.listens has.busy in
    let listens : listeners conf ≡ s.listens = ap (λ specs. serving conf ++ map caster specs) idle ∙ append-nil (serving conf) ∙ ap (λ specs. specs ++ group_listens conf.group) (busy_numbered conf.listens has.busy)
    ∙ ap (λ last. map (λ (listen : Listen). listen.spec) conf.listens ++ last) (group_same conf.group) ∙ has.listens in
    let downs : downs_of conf ≡ s.downs = ap (map kind_in) idle ∙ sym has.downs in
    ap (λ x. setting x conf.code (listeners conf) (downs_of conf) conf.uplinks (map peer_of conf.peers) conf.up_timeout conf.client_timeout conf.max_clients conf.dupe_window) has.server
    ∙ ap (λ x. setting s.server x (listeners conf) (downs_of conf) conf.uplinks (map peer_of conf.peers) conf.up_timeout conf.client_timeout conf.max_clients conf.dupe_window) has.code
    ∙ ap (λ x. setting s.server s.code x (downs_of conf) conf.uplinks (map peer_of conf.peers) conf.up_timeout conf.client_timeout conf.max_clients conf.dupe_window) listens
    ∙ ap (λ x. setting s.server s.code s.listens x conf.uplinks (map peer_of conf.peers) conf.up_timeout conf.client_timeout conf.max_clients conf.dupe_window) downs
    ∙ ap (λ x. setting s.server s.code s.listens s.downs x (map peer_of conf.peers) conf.up_timeout conf.client_timeout conf.max_clients conf.dupe_window) has.uplinks
    ∙ ap (λ x. setting s.server s.code s.listens s.downs s.uplinks x conf.up_timeout conf.client_timeout conf.max_clients conf.dupe_window) has.peers
    ∙ ap (λ x. setting s.server s.code s.listens s.downs s.uplinks s.peers x conf.client_timeout conf.max_clients conf.dupe_window) has.up_timeout
    ∙ ap (λ x. setting s.server s.code s.listens s.downs s.uplinks s.peers s.up_timeout x conf.max_clients conf.dupe_window) has.client_timeout
    ∙ ap (λ x. setting s.server s.code s.listens s.downs s.uplinks s.peers s.up_timeout s.client_timeout x conf.dupe_window) has.max_clients
    ∙ ap (λ x. setting s.server s.code s.listens s.downs s.uplinks s.peers s.up_timeout s.client_timeout s.max_clients x) has.window

settings_are : (confs : List ConfSeen) (settings : List Setting) → AllZip IsConfOf confs settings → map setting_of confs ≡ settings
settings_are [] [] all = refl
settings_are [] (s ∷ settings) all = absurd all
settings_are (conf ∷ confs) [] all = absurd all
settings_are (conf ∷ confs) (s ∷ settings) all =
    ap (λ x. x ∷ map setting_of confs) (setting_is conf s all.0.0) ∙ ap (λ xs. s ∷ xs) (settings_are confs settings all.1)

abbrev pub made_layout : List ConfSeen → List Pair → List PeerPair → Layout
made_layout confs pairs peers = record { servers = map setting_of confs; pairs = pairs; peers = peers }

pub layout_is : (script : ScriptSeen) (confs : List ConfSeen) → AllZip IsConfOf confs (layout_of script).servers → made_layout confs script.pairs script.peers ≡ layout_of script
layout_is script confs all = ap (λ servers. record { servers = servers; pairs = script.pairs; peers = script.peers }) (settings_are confs (layout_of script).servers all)

-- ---- the peers

each_of : {X : Type 0} (P : X → Type 0) (xs : List X) → ((n : ℕ) (x : X) → slice_get xs n ≡ Some x → P x) → Each P xs
each_of P [] there = tt
each_of P (x ∷ xs) there = (there zero x refl, each_of P xs (λ n y is. there (suc n) y is))

has_peer : (layout : Layout) (server number : ℕ) (setting : Setting) (peer : Peer) → slice_get layout.servers server ≡ Some setting → slice_get setting.peers number ≡ Some peer → HasPeer layout server number
has_peer layout server number setting peer there is = λ other other_there.
    let same : setting ≡ other = by (slice_get layout.servers server) there other_there in
    subst (λ s. number < length s.peers) same (slice_get_within setting.peers number peer is)
  where
    by : {other : Setting} (found : Option Setting) → found ≡ Some setting → found ≡ Some other → setting ≡ other
    by found one two = cc

pub have_peers : (layout : Layout) → IsWired layout → HavePeers layout
have_peers layout wired = each_of _ layout.peers (λ n pair is.
    let both = wired.peers n pair is in
    (has_peer layout pair.a pair.at_a both.a _ both.a_there both.at_a, has_peer layout pair.b pair.at_b both.b _ both.b_there both.at_b))
