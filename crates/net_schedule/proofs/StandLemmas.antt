-- A running network stands for one step more.
use Rattle.std.proofs.Common.{◌≡◌, ℕ, ◌≤◌, true, List, [], ◌∷◌, ◌++◌, length, map, refl, sym, ap, ◌∙◌, subst, arith, length-append, Option, Some, None, append_assoc}
use Rattle.std.specs.Prelude.{if◌then◌else◌, codes}
use Rattle.std.specs.Fmt.{decimal}
use Rattle.std.proofs.lemmas.List.{map-append}
use Rattle.std.specs.List.{AllZip, flat_map}
use Rattle.aprs_base.specs.declared.packets.ListenSpec.{ListenSpec}
use Rattle.aprs_base.specs.declared.packets.PortKind.TheVariants as kind
use Rattle.aprs_base.specs.declared.texts.Addr.{Addr}
use Rattle.aprs_conf.specs.Seen.{ConfSeen}
use Rattle.aprs_history.specs.Setting.{Setting}
use Rattle.server_core.specs.Meaning.{caster, group_listens, numbered, serving, setting_of}
use Rattle.net_history.specs.declared.events.NetEvent.{NetEvent}
use Rattle.net_history.specs.declared.events.Pair.{Pair}
use Rattle.net_history.specs.Network.{Layout, NetSeen, ServerSeen, new_network, new_server, unjoined}
use Rattle.net_history.specs.Places.{Each}
use Rattle.net_history.specs.Report.{report_of, report_on}
use Rattle.net_history.specs.Steps.{is_there, network_of, with_step}
use Rattle.net_history.proofs.SettingLemmas.{networks_keep, setting_at}
use Rattle.net_schedule.specs.Asked.{CanServe, HaveFewListens, HavePeers, kept_is_there}
use Rattle.net_schedule.specs.Joined.{no_way}
use Rattle.net_schedule.specs.Networks.{AreNew, IsSound}
use Rattle.net_schedule.specs.Reported.{ended_by_feed, kept_report}
use Rattle.net_schedule.specs.Running.{NetKept, ServerKept, joins_of, layout_of, setting_in}
use Rattle.net_schedule.specs.Standing.{IsNetwork, IsOnItsWay, Keeps, StandsFor, brought_in, taken_in}
use Rattle.net_schedule.proofs.FactLemmas.{facts_of}
use Rattle.net_schedule.proofs.KeepLemmas.{none_idle, zip_push}
use Rattle.net_schedule.proofs.ThereLemmas.{there_same}

-- ---- a new network

new_each : (confs : List ConfSeen) → map (λ conf. new_server (setting_of conf)) confs ≡ map new_server (map setting_of confs)
new_each [] = refl
new_each (conf ∷ confs) = ap (λ xs. new_server (setting_of conf) ∷ xs) (new_each confs)

none_joined : (pairs : List Pair) → joins_of (map no_way pairs) ≡ map unjoined pairs
none_joined [] = refl
none_joined (pair ∷ pairs) = ap (λ xs. None ∷ xs) (none_joined pairs)

none_flows : (b t : Rattle.net_history.specs.Network.End → List ℕ) (pairs : List Pair) → Each (IsOnItsWay b t) (map no_way pairs)
none_flows b t [] = tt
none_flows b t (pair ∷ pairs) = (tt, none_flows b t pairs)

pub new_stands : (net : NetKept) (confs : List ConfSeen) → AreNew confs net.servers → net.ways ≡ map no_way net.pairs → StandsFor net []
unfolding network_of
new_stands net confs are ways =
    let n = new_network (layout_of net) in
    record {
      servers = subst (AllZip (Keeps []) net.servers) (new_each confs ∙ ap (map new_server) (sym are.1)) are.0;
      joins = ap joins_of ways ∙ none_joined net.pairs;
      flows = subst (Each (IsOnItsWay (brought_in n) (taken_in n))) (sym ways) (none_flows (brought_in n) (taken_in n) net.pairs);
    }

-- ---- the layout stays

settings_kept : (servers : List ServerKept) (ss : List ServerSeen) → AllZip (Keeps []) servers ss → map setting_in servers ≡ map setting_at ss
settings_kept [] [] all = refl
settings_kept [] (s ∷ ss) all = absurd all
settings_kept (kept ∷ servers) [] all = absurd all
settings_kept (kept ∷ servers) (s ∷ ss) all = ap (λ x. x ∷ map setting_in servers) all.0.setting ∙ ap (λ xs. s.setting ∷ xs) (settings_kept servers ss all.1)

-- the step that is there comes next
pub network_next : (layout : Layout) (steps : List NetEvent) (e : NetEvent) → is_there layout (network_of layout steps) e ≡ true → network_of layout (e ∷ steps) ≡ with_step layout e (network_of layout steps)
unfolding network_of
network_next layout steps e there = ap (λ b. if b then with_step layout e (network_of layout steps) else network_of layout steps) there

pub layout_is : (a b : List Setting) (pairs : List Pair) (peers : List Rattle.net_history.specs.declared.events.PeerPair.PeerPair) → a ≡ b → ◌≡◌ {A = Layout} (record { servers = a; pairs = pairs; peers = peers }) (record { servers = b; pairs = pairs; peers = peers })
layout_is a b pairs peers same = ap (λ xs. record { servers = xs; pairs = pairs; peers = peers }) same

pub layout_stays : (old new : NetKept) (steps : List NetEvent) (e : NetEvent) → is_there (layout_of old) (network_of (layout_of old) steps) e ≡ true → new.pairs ≡ old.pairs → new.peers ≡ old.peers
    → IsNetwork new (with_step (layout_of old) e (network_of (layout_of old) steps)) → layout_of new ≡ layout_of old
layout_stays old new steps e there pairs peers is =
    let n = network_of (layout_of old) (e ∷ steps) in
    let goes : IsNetwork new n = subst (IsNetwork new) (sym (network_next (layout_of old) steps e there)) is in
    ap (λ xs. record { servers = map setting_in new.servers; pairs = xs; peers = new.peers }) pairs
    ∙ ap (λ xs. record { servers = map setting_in new.servers; pairs = old.pairs; peers = xs }) peers
    ∙ layout_is (map setting_in new.servers) (map setting_in old.servers) old.pairs old.peers (settings_kept new.servers n.servers goes.servers ∙ networks_keep (layout_of old) (e ∷ steps))

-- one step more
pub stands_next : (old new : NetKept) (steps : List NetEvent) (e : NetEvent) → is_there (layout_of old) (network_of (layout_of old) steps) e ≡ true → layout_of new ≡ layout_of old
    → IsNetwork new (with_step (layout_of old) e (network_of (layout_of old) steps)) → StandsFor new (e ∷ steps)
stands_next old new steps e there layout is =
    subst (λ l. IsNetwork new (network_of l (e ∷ steps))) (sym layout) (subst (IsNetwork new) (sym (network_next (layout_of old) steps e there)) is)

-- ---- the report

pub server_report : (kept : ServerKept) (s : ServerSeen) → Keeps [] kept s → kept_report kept ≡ report_on s
server_report kept s keeps =
    let tail = flat_map ended_by_feed kept.accepted in
    append_assoc (codes "server ") (kept.core.conf.server ++ (codes " accepted " ++ (decimal (length kept.accepted) ++ codes "\n"))) tail
    ∙ ap (λ xs. codes "server " ++ xs)
    (append_assoc kept.core.conf.server (codes " accepted " ++ (decimal (length kept.accepted) ++ codes "\n")) tail
    ∙ ap (λ xs. kept.core.conf.server ++ xs)
    (append_assoc (codes " accepted ") (decimal (length kept.accepted) ++ codes "\n") tail ∙ ap (λ xs. codes " accepted " ++ xs) (append_assoc (decimal (length kept.accepted)) (codes "\n") tail)))
    ∙ ap (λ server. codes "server " ++ (server ++ (codes " accepted " ++ (decimal (length kept.accepted) ++ (codes "\n" ++ tail))))) (ap (λ (setting : Setting). setting.server) keeps.setting)
    ∙ ap (λ lines. codes "server " ++ (s.setting.server ++ (codes " accepted " ++ (decimal (length lines) ++ (codes "\n" ++ flat_map ended_by_feed lines))))) keeps.accepted

reports : (servers : List ServerKept) (ss : List ServerSeen) → AllZip (Keeps []) servers ss → flat_map kept_report servers ≡ flat_map report_on ss
reports [] [] all = refl
reports [] (s ∷ ss) all = absurd all
reports (kept ∷ servers) [] all = absurd all
reports (kept ∷ servers) (s ∷ ss) all = ap (λ xs. xs ++ flat_map kept_report servers) (server_report kept s all.0) ∙ ap (λ xs. report_on s ++ xs) (reports servers ss all.1)

pub network_report : (net : NetKept) (steps : List NetEvent) → StandsFor net steps → flat_map kept_report net.servers ≡ report_of (network_of (layout_of net) steps)
network_report net steps stands = reports net.servers (network_of (layout_of net) steps).servers stands.servers

-- one server more is made
pub new_more : (confs : List ConfSeen) (conf : ConfSeen) (servers : List ServerKept) (server : ServerKept) (all : List ServerKept) → all ≡ servers ++ server ∷ [] → Keeps [] server (new_server (setting_of conf)) → server.core.conf ≡ conf → AreNew confs servers → AreNew (confs ++ conf ∷ []) all
new_more confs conf servers server all is keeps same are = (
  subst (λ xs. AllZip (Keeps []) xs (map (λ c. new_server (setting_of c)) (confs ++ conf ∷ []))) (sym is)
      (subst (AllZip (Keeps []) (servers ++ server ∷ [])) (sym (map-append (λ c. new_server (setting_of c)) confs (conf ∷ []))) (zip_push (Keeps []) servers (map (λ c. new_server (setting_of c)) confs) server (new_server (setting_of conf)) are.0 keeps)),
  ap (map setting_in) is ∙ map-append setting_in servers (server ∷ []) ∙ ap (λ xs. xs ++ setting_in server ∷ []) are.1 ∙ ap (λ c. map setting_of confs ++ setting_of c ∷ []) same ∙ sym (map-append setting_of confs (conf ∷ [])),
)

-- a step is there as it is told
pub told_there : (net : NetKept) (steps : List NetEvent) → StandsFor net steps → HavePeers (layout_of net) → (e : NetEvent) → kept_is_there net e ≡ is_there (layout_of net) (network_of (layout_of net) steps) e
told_there net steps stands peers e = there_same (layout_of net) net (network_of (layout_of net) steps) (facts_of (layout_of net) steps) stands peers refl refl e

-- each configuration has few listeners
few_of : (confs : List ConfSeen) → Each CanServe confs → Each (λ (setting : Setting). length setting.listens ≤ 65536) (map setting_of confs)
few_of [] serve = tt
few_of (conf ∷ confs) serve = (
  subst (λ (idle : List ListenSpec). length (serving conf ++ map caster idle) ≤ 65536) (sym (none_idle conf.listens serve.0.busy))
      (let long = length-append (serving conf) (map caster []) in let short = of conf.group in omega (arith, long, short)),
  few_of confs serve.1,
)
  where
    of : (group : Option Addr) → length (numbered conf.listens ++ group_listens group) ≤ 17
    of None = let long = length-append (numbered conf.listens) [] in let short = serve.0.listens in omega (arith, long, short)
    of (Some at) = let long = length-append (numbered conf.listens) (record { kind = kind.Core; at = at } ∷ []) in let short = serve.0.listens in omega (arith, long, short)

pub new_few : (net : NetKept) (confs : List ConfSeen) → Each CanServe confs → map setting_in net.servers ≡ map setting_of confs → HaveFewListens (layout_of net)
new_few net confs serve same = subst (Each (λ (setting : Setting). length setting.listens ≤ 65536)) (sym same) (few_of confs serve)

-- a step that is there is done
pub record StepDone (old new : NetKept) (steps : List NetEvent) (e : NetEvent) : Type 0 where
  pub layout : layout_of new ≡ layout_of old
  pub there : is_there (layout_of old) (network_of (layout_of old) steps) e ≡ true
  pub stands : StandsFor new (e ∷ steps)

pub step_done : (old new : NetKept) (steps : List NetEvent) (e : NetEvent) → StandsFor old steps → HavePeers (layout_of old) → kept_is_there old e ≡ true → new.pairs ≡ old.pairs → new.peers ≡ old.peers
    → IsNetwork new (with_step (layout_of old) e (network_of (layout_of old) steps)) → StepDone old new steps e
step_done old new steps e stands peers told pairs peers_same is =
    let there = sym (told_there old steps stands peers e) ∙ told in
    let layout = layout_stays old new steps e there pairs peers_same is in
    record { layout = layout; there = there; stands = stands_next old new steps e there layout is }

pub sound_next : (old new : NetKept) (steps : List NetEvent) (e : NetEvent) → HavePeers (layout_of old) → HaveFewListens (layout_of old) → StepDone old new steps e → IsSound new
sound_next old new steps e peers few done = record { steps = e ∷ steps; stands = done.stands; peers = subst HavePeers (sym done.layout) peers; few = subst HaveFewListens (sym done.layout) few }
