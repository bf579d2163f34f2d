-- The configurations of a script's servers.
use Rattle.std.proofs.Common.{◌≡◌, ℕ, zero, suc, ◌+◌, ◌≤◌, Bool, true, false, List, [], ◌∷◌, ◌++◌, length, map, take, Option, None, Some, Result, Ok, IsTrue, refl, sym, ap, arith, ◌∙◌, subst, codes, add-one}
use Rattle.std.specs.Prelude.{slice_get}
use Rattle.std.specs.List.{AllZip, list_all}
use Rattle.aprs_base.specs.Bytes.{is_station}
use Rattle.aprs_conf.specs.declared.errors.ConfError.{ConfError}
use Rattle.aprs_conf.specs.declared.types.PeerSpec.{PeerSpec}
use Rattle.aprs_conf.specs.Grammar.{after, conf_of, listen_says}
use Rattle.aprs_conf.specs.Seen.{ConfSeen}
use Rattle.aprs_conf.specs.Sound.{IsGroup, IsSound, IsWithin}
use Rattle.aprs_base.specs.declared.texts.Addr.{Addr}
use Rattle.aprs_history.specs.Setting.{Peer}
use Rattle.net_history.specs.Network.{address_of}
use Rattle.net_history.specs.declared.events.PeerPair.{PeerPair}
use Rattle.std.specs.List.{cons_option, filter_map, list_any}
use Rattle.std.specs.Prelude.{replicate, if◌then◌else◌}
use Rattle.std.proofs.lemmas.List.{length-map, length-replicate, replicate-append-replicate}
use Rattle.std.proofs.lemmas.List.Elements.{filter_map-append}
use Rattle.net_script.specs.declared.types.ScriptServer.{ScriptServer}
use Rattle.net_script.specs.Grammar.{has_peer, uplinks_of}
use Rattle.net_script.specs.Layouts.{IsConfOf, group_of, layout_of, peer_in, peer_of, peers_at, plain_conf, setting_at, some_uplink, uplinks_at}
use Rattle.net_script.specs.Limits.{KeepsLimits}
use Rattle.net_script.specs.Seen.{ScriptSeen}
use Rattle.net_script.proofs.GrownLemmas.{few_made}
use Rattle.net_script.proofs.LayoutLemmas.{IsStationsPeer, count_settings, not_made, peers_stations, setting_there}
use Rattle.net_script.proofs.SoundLemmas.{or_false}

pub plain_reads : conf_of (codes "ServerId NONE\nPassCode 0\nListen \"full\" fullfeed tcp 0.0.0.0 10152\nListen \"igate\" igate tcp 0.0.0.0 14580\n") ≡ Ok plain_conf
unfolding conf_of after listen_says
plain_reads = refl

pub ok_same : (r : Result ConfSeen ConfError) (m n : ConfSeen) → r ≡ Ok m → r ≡ Ok n → m ≡ n
ok_same r m n e f = cc

-- ---- lists by one more

pub take_next : {A : Type 0} (xs : List A) (i : ℕ) (x : A) → slice_get xs i ≡ Some x → take (i + 1) xs ≡ take i xs ++ x ∷ []
take_next xs i x e = rw (add-one i) (next xs i x e)
  where
    next : {A : Type 0} (xs : List A) (i : ℕ) (x : A) → slice_get xs i ≡ Some x → take (suc i) xs ≡ take i xs ++ x ∷ []
    next [] i x e = cc
    next (y ∷ xs) zero x e = (let same : y ≡ x = cc in ap (λ z. z ∷ []) same)
    next (y ∷ xs) (suc i) x e = ap (λ zs. y ∷ zs) (next xs i x e)

pub zip_with : {A B : Type 0} (R : A → B → Type 0) (xs : List A) (ys : List B) (x : A) (y : B) → AllZip R xs ys → R x y → AllZip R (xs ++ x ∷ []) (ys ++ y ∷ [])
zip_with R [] [] x y all one = (one, tt)
zip_with {A = A} {B = B} R [] (b ∷ ys) x y all one = elim all [ ]
zip_with {A = A} {B = B} R (a ∷ xs) [] x y all one = elim all [ ]
zip_with R (a ∷ xs) (b ∷ ys) x y all one = (all.0, zip_with R xs ys x y all.1 one)

pub take_whole : {A : Type 0} (n : ℕ) (xs : List A) → length xs ≤ n → take n xs ≡ xs
take_whole zero [] le = refl
take_whole (suc n) [] le = refl
take_whole zero (x ∷ xs) le = absurd (omega (arith, le))
take_whole (suc n) (x ∷ xs) le = ap (λ ys. x ∷ ys) (take_whole n xs (omega (arith, le)))

pub confs_whole : (script : ScriptSeen) (confs : List ConfSeen) (i : ℕ) → length script.servers ≤ i → AllZip IsConfOf confs (take i (layout_of script).servers) → AllZip IsConfOf confs (layout_of script).servers
confs_whole script confs i le all = (let count = count_settings script in subst (AllZip IsConfOf confs) (take_whole i (layout_of script).servers (omega (arith, count, le))) all)

pub one_more_uplink : (n : ℕ) → replicate n some_uplink ++ some_uplink ∷ [] ≡ replicate (n + 1) some_uplink
one_more_uplink n = replicate-append-replicate n 1 some_uplink

pub made_next : (script : ScriptSeen) (server i : ℕ) (pair : PeerPair) (pairs : List PeerPair) → slice_get pairs i ≡ Some pair
    → filter_map (peer_in script server) (take (i + 1) pairs) ≡ filter_map (peer_in script server) (take i pairs) ++ cons_option (peer_in script server pair) []
made_next script server i pair pairs e = ap (filter_map (peer_in script server)) (take_next pairs i pair e) ∙ filter_map-append (peer_in script server) (take i pairs) (pair ∷ [])

pub confs_next : (script : ScriptSeen) (confs : List ConfSeen) (i : ℕ) (server : ScriptServer) (conf : ConfSeen) → slice_get script.servers i ≡ Some server → IsConfOf conf (setting_at script i server)
    → AllZip IsConfOf confs (take i (layout_of script).servers) → AllZip IsConfOf (confs ++ conf ∷ []) (take (i + 1) (layout_of script).servers)
confs_next script confs i server conf there is all =
    subst (AllZip IsConfOf (confs ++ conf ∷ [])) (sym (take_next (layout_of script).servers i (setting_at script i server) (setting_there script i server there)))
    (zip_with IsConfOf confs (take i (layout_of script).servers) conf (setting_at script i server) all is)

-- ---- a configuration is sound

none_made : {A B : Type 0} (make : A → Option B) (test : A → Bool) (xs : List A) → ((x : A) → test x ≡ false → make x ≡ None) → list_any test xs ≡ false → filter_map make xs ≡ []
none_made make test [] none e = refl
none_made make test (x ∷ xs) none e = (let tests = or_false (test x) (list_any test xs) e in rw (none x tests.0) (none_made make test xs none tests.1))

group_none : (server : ℕ) (peers : List PeerPair) → group_of server peers ≡ None → list_any (has_peer server) peers ≡ false
group_none server peers e = by (list_any (has_peer server) peers) e
  where
    by : (b : Bool) → (if b then Some (address_of server) else None) ≡ None → b ≡ false
    by true wrong = cc
    by false same = refl

all_stations : (peers : List PeerSpec) → ((k : ℕ) (peer : Peer) → slice_get (map peer_of peers) k ≡ Some peer → IsStationsPeer peer) → IsTrue (list_all (λ (peer : PeerSpec). is_station peer.call) peers)
all_stations [] each = refl
all_stations (peer ∷ peers) each =
    let first : is_station peer.call ≡ true = each 0 (peer_of peer) refl in
    rw (first, all_stations peers (λ k p at. each (suc k) p at)) refl

no_peers : (peers : List PeerSpec) → map peer_of peers ≡ [] → peers ≡ []
no_peers [] e = refl
no_peers (peer ∷ peers) e = cc

pub grouped : (script : ScriptSeen) (number : ℕ) (group : Option Addr) (peers : List PeerSpec) → KeepsLimits script → group ≡ group_of number script.peers → map peer_of peers ≡ peers_at script number → IsGroup group peers
grouped script number group peers limits is same = record {
  few =
      let count = length-map peers peer_of in
      let few = few_made (peer_in script number) (has_peer number) script.peers (not_made script number) in
      let most = limits.peers number in
      omega (arith, count, ap length same, few, most);
  stations = all_stations peers (λ k peer at. peers_stations script limits number k peer (sym (ap (λ all. slice_get all k) same) ∙ at));
  grouped = λ none. no_peers peers (same ∙ none_made (peer_in script number) (has_peer number) script.peers (not_made script number) (group_none number script.peers (sym is ∙ none)));
}

pub conf_sound : (script : ScriptSeen) (number : ℕ) (server : ScriptServer) (conf : ConfSeen) → KeepsLimits script → IsTrue (is_station server.call) → IsWithin 10 300 server.window
    → conf.server ≡ server.call → conf.listens ≡ plain_conf.listens → conf.upload ≡ None → conf.page ≡ None → conf.uplinks ≡ uplinks_at number script.pairs → conf.group ≡ group_of number script.peers → map peer_of conf.peers ≡ peers_at script number
    → conf.up_timeout ≡ 15 → conf.client_timeout ≡ 172800 → conf.max_clients ≡ 500 → conf.dupe_window ≡ server.window → IsSound conf
conf_sound script number server conf limits station window named listens upload page uplinks group peers up client most kept = record {
  server = subst (λ call. IsTrue (is_station call)) (sym named) station;
  listens = subst (λ all. IsWithin 1 16 (length all)) (sym listens) (omega arith, omega arith);
  served = rw (listens, upload, page) (omega arith);
  uplinks = (let count = length-replicate (uplinks_of number script.pairs) some_uplink in let few = limits.uplinks number in omega (arith, ap length uplinks, count, few));
  peers = grouped script number conf.group conf.peers limits group peers;
  up_timeout = (omega (arith, up), omega (arith, up));
  client_timeout = (omega (arith, client), omega (arith, client));
  max_clients = (omega (arith, most), omega (arith, most));
  dupe_window = (omega (arith, kept, window.0), omega (arith, kept, window.1));
}
