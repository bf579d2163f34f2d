-- The network that a script asks for.
use Rattle.std.proofs.Common.{◌≡◌, ◌≢◌, ℕ, zero, suc, ◌+◌, ◌<◌, Bool, true, false, List, [], ◌∷◌, length, map, take, Option, Some, None, Result, Ok, Err, IfOk, IfSome, IsTrue, refl, sym, ap, arith, ◌∙◌, inl, inr, subst, add-zero}
use Rattle.std.specs.Prelude.{◌&&◌, ◌||◌, ◌==◌, MatchResult, replicate, slice_get, if◌then◌else◌}
use Rattle.std.specs.List.{cons_option, enumerate_from, filter_map}
use Rattle.std.specs.Char.{to_ascii_uppercase}
use Rattle.std.specs.Option.{option_map}
use Rattle.std.proofs.lemmas.Bool.{and_parts}
use Rattle.std.proofs.lemmas.Bool.Decides.{nat_tests}
use Rattle.std.proofs.lemmas.List.{length-map, length-replicate}
use Rattle.std.proofs.lemmas.List.FromFn.{length-enumerate_from}
use Rattle.std.proofs.lemmas.Nat.{and_le_r}
use Rattle.std.proofs.lemmas.Result.{IfOk-at_ok}
use Rattle.std.proofs.lemmas.Option.{slice_get-map, slice_get_within}
use Rattle.aprs_base.specs.Bytes.{base_of, is_station}
use Rattle.aprs_base.specs.OptionSteps.{◌>>=◌}
use Rattle.aprs_base.specs.declared.packets.PortKind.{PortKind}
use Rattle.aprs_base.specs.declared.packets.PortKind.TheVariants as kind
use Rattle.aprs_history.specs.Setting.{Peer, Setting, kind_at, kind_of_spec}
use Rattle.aprs_history.specs.Sound.{IsSound}
use Rattle.login_pass.specs.Passcode.{folded, passcode_of}
use Rattle.net_history.specs.declared.events.Pair.{Pair}
use Rattle.net_history.specs.declared.events.PeerPair.{PeerPair}
use Rattle.net_history.specs.Network.{address_of}
use Rattle.net_history.specs.Premises.{IsLaidOut}
use Rattle.net_history.proofs.PlainLemmas.{kind_at_plain}
use Rattle.net_script.specs.declared.types.ScriptServer.{ScriptServer}
use Rattle.net_script.specs.Grammar.{has_peer, joins, lines_of, joins_peers, peers_of, uplinks_of}
use Rattle.net_script.specs.Laws.{IsPair, IsPeerPair, IsWired, peer_number}
use Rattle.net_script.specs.Layouts.{beyond, layout_of, numbered_setting, peer_in, peer_named, peers_at, setting_at, some_uplink}
use Rattle.net_script.specs.Limits.{KeepsLimits}
use Rattle.net_script.specs.declared.errors.ScriptError.{ScriptError}
use Rattle.net_script.specs.Reading.{FailsAt, drafted, empty}
use Rattle.net_script.specs.Seen.{ScriptSeen}
use Rattle.net_script.proofs.GrowthLemmas.{each}
use Rattle.net_script.proofs.GrownLemmas.{among_earlier, counts_apart, counts_itself, made_at}
use Rattle.net_script.proofs.SoundLemmas.{IsNextPeers, Keeps, begun, either, keeps_on, or_false}

-- ---- numbers

equals : (m n : ℕ) → m ≡ n → (m == n) ≡ true
equals m n e = grind (arith, nat_tests, e)

differs : (m n : ℕ) → m ≢ n → (m == n) ≡ false
differs m n e = grind (arith, nat_tests, e)

equal : (m n : ℕ) → (m == n) ≡ true → m ≡ n
equal m n e = grind (arith, nat_tests, e)

-- where two numbers are two others, in either order, these are those
crossed : (a b c d : ℕ) → ((c == a && d == b) || (c == b && d == a)) ≡ true → ((a == c && b == d) || (a == d && b == c)) ≡ true
crossed a b c d e = elim (either (c == a && d == b) (c == b && d == a) e) [
  | inl straight ↦ (let parts = and_parts (c == a) (d == b) straight in rw (equals a c (sym (equal c a parts.0)), equals b d (sym (equal d b parts.1))) refl)
  | inr across ↦ (let parts = and_parts (c == b) (d == a) across in rw (equals a d (sym (equal d a parts.1)), equals b c (sym (equal c b parts.0))) (or_so (a == c && b == d)))
]
  where
    or_so : (x : Bool) → (x || true) ≡ true
    or_so true = refl
    or_so false = refl

-- of two places neither is the earlier
one_place : (m n : ℕ) → (m < n → ⊥) → (n < m → ⊥) → m ≡ n
one_place m n after before = grind (arith, after, before)

-- ---- servers

place_there : {A : Type 0} (xs : List A) (k : ℕ) → k < length xs → (x : A) × (slice_get xs k ≡ Some x)
place_there [] k less = absurd (omega (arith, less))
place_there (x ∷ xs) zero less = (x, refl)
place_there (x ∷ xs) (suc k) less = place_there xs k (omega (arith, less))

numbered_at : {A : Type 0} (n : ℕ) (xs : List A) (k : ℕ) (x : A) → slice_get xs k ≡ Some x → slice_get (enumerate_from n xs) k ≡ Some (n + k, x)
numbered_at n [] k x e = cc
numbered_at n (y ∷ xs) zero x e = (let same : y ≡ x = cc in rw (add-zero n, same) refl)
numbered_at n (y ∷ xs) (suc k) x e = (let sum : n + suc k ≡ n + 1 + k = omega arith in rw sum (numbered_at (n + 1) xs k x e))

pub setting_there : (script : ScriptSeen) (k : ℕ) (server : ScriptServer) → slice_get script.servers k ≡ Some server → slice_get (layout_of script).servers k ≡ Some (setting_at script k server)
setting_there script k server e =
    slice_get-map (numbered_setting script) (enumerate_from 0 script.servers) k ∙ ap (option_map (numbered_setting script)) (numbered_at 0 script.servers k server e ∙ ap (λ n. Some (n, server)) (zero_and k))
  where
    zero_and : (n : ℕ) → 0 + n ≡ n
    zero_and n = omega arith

pub count_settings : (script : ScriptSeen) → length (layout_of script).servers ≡ length script.servers
count_settings script = length-map (enumerate_from 0 script.servers) (numbered_setting script) ∙ length-enumerate_from 0 script.servers

pub record IsSettingOf (script : ScriptSeen) (k : ℕ) (setting : Setting) : Type 0 where
  pub server : ScriptServer
  pub there : slice_get script.servers k ≡ Some server
  pub is : setting ≡ setting_at script k server

some_same : {A : Type 0} (o : Option A) (x y : A) → o ≡ Some x → o ≡ Some y → x ≡ y
some_same o x y e f = cc

setting_made : (script : ScriptSeen) (k : ℕ) (setting : Setting) → slice_get (layout_of script).servers k ≡ Some setting → IsSettingOf script k setting
setting_made script k setting e =
    let within = slice_get_within (layout_of script).servers k setting e in
    let count = count_settings script in
    let found = place_there script.servers k (omega (arith, within, count)) in
    record { server = found.0; there = found.1; is = some_same (slice_get (layout_of script).servers k) setting (setting_at script k found.0) e (setting_there script k found.0 found.1) }

-- ---- pairs

pair_fits : (script : ScriptSeen) → Keeps script → (n : ℕ) (pair : Pair) → slice_get script.pairs n ≡ Some pair → IsPair (layout_of script) pair
pair_fits script has n pair e =
    let next = has.pairs n pair e in
    let low = place_there script.servers pair.low next.low in
    let high = place_there script.servers pair.high next.high in
    let counts : uplinks_of pair.low (take n script.pairs) < uplinks_of pair.low script.pairs = counts_itself (λ (other : Pair). other.low == pair.low) script.pairs n pair e (equals pair.low pair.low refl) in
    let all : length (replicate (uplinks_of pair.low script.pairs) some_uplink) ≡ uplinks_of pair.low script.pairs = length-replicate (uplinks_of pair.low script.pairs) some_uplink in
    record {
      low = setting_at script pair.low low.0;
      high = setting_at script pair.high high.0;
      low_there = setting_there script pair.low low.0 low.1;
      high_there = setting_there script pair.high high.0 high.1;
      uplink = omega (arith, next.uplink, counts, all);
      listener = subst (λ k. k < length (setting_at script pair.high high.0).listens) (sym next.listener) (omega arith);
      apart = next.apart;
    }

uplink_in_one : (script : ScriptSeen) → Keeps script → (m n : ℕ) (one two : Pair) → slice_get script.pairs m ≡ Some one → slice_get script.pairs n ≡ Some two → one.low ≡ two.low → one.uplink ≡ two.uplink → m ≡ n
uplink_in_one script has m n one two at_m at_n low uplink =
    counts_apart (λ (other : Pair). other.low == one.low) script.pairs m n one two at_m at_n (equals one.low one.low refl) (equals two.low one.low (sym low))
    (sym (has.pairs m one at_m).uplink ∙ uplink ∙ (has.pairs n two at_n).uplink ∙ ap (λ server. uplinks_of server (take n script.pairs)) (sym low))

no_later_pair : (script : ScriptSeen) → Keeps script → (m n : ℕ) (one two : Pair) → slice_get script.pairs m ≡ Some one → slice_get script.pairs n ≡ Some two → joins two.low two.high one ≡ true → m < n → ⊥
no_later_pair script has m n one two at_m at_n is less =
    let among = among_earlier (joins two.low two.high) script.pairs m n one at_m less is in
    let none = (has.pairs n two at_n).one in cc

pair_in_one : (script : ScriptSeen) → Keeps script → (m n : ℕ) (one two : Pair) → slice_get script.pairs m ≡ Some one → slice_get script.pairs n ≡ Some two → joins two.low two.high one ≡ true → m ≡ n
pair_in_one script has m n one two at_m at_n is =
    one_place m n (no_later_pair script has m n one two at_m at_n is) (no_later_pair script has n m two one at_n at_m (crossed two.low two.high one.low one.high is))

-- ---- peers

beyond_a : (server : ℕ) (pair : PeerPair) → (pair.a == server) ≡ true → beyond server pair ≡ Some pair.b
beyond_a server pair e = rw e refl

beyond_b : (server : ℕ) (pair : PeerPair) → (pair.a == server) ≡ false → (pair.b == server) ≡ true → beyond server pair ≡ Some pair.a
beyond_b server pair other e = rw (other, e) refl

pub beyond_none : (server : ℕ) (pair : PeerPair) → has_peer server pair ≡ false → beyond server pair ≡ None
beyond_none server pair e = (let tests = or_false (pair.a == server) (pair.b == server) e in rw (tests.0, tests.1) refl)

pub not_made : (script : ScriptSeen) (server : ℕ) (pair : PeerPair) → has_peer server pair ≡ false → peer_in script server pair ≡ None
not_made script server pair e = ap (λ o. o >>= peer_named script.servers) (beyond_none server pair e)

abbrev peer_at : ScriptServer → ℕ → Peer
peer_at server other = record { call = server.call; at = address_of other }

made : (script : ScriptSeen) (server other : ℕ) (pair : PeerPair) (by : ScriptServer) → beyond server pair ≡ Some other → slice_get script.servers other ≡ Some by → peer_in script server pair ≡ Some (peer_at by other)
made script server other pair by e there = ap (λ o. o >>= peer_named script.servers) e ∙ ap (λ o. o >>= λ (found : ScriptServer). Some (peer_at found other)) there

some_made : (script : ScriptSeen) → Keeps script → (server k : ℕ) (pair : PeerPair) → slice_get script.peers k ≡ Some pair → has_peer server pair ≡ true → (peer : Peer) × (peer_in script server pair ≡ Some peer)
some_made script has server k pair e is = by (pair.a == server) refl
  where
    next : IsNextPeers (length script.servers) (take k script.peers) pair
    next = has.peers k pair e

    by : (b : Bool) → (pair.a == server) ≡ b → (peer : Peer) × (peer_in script server pair ≡ Some peer)
    by true so = (let other = place_there script.servers pair.b next.b in (peer_at other.0 pair.b, made script server pair.b pair other.0 (beyond_a server pair so) other.1))
    by false not_so =
        let other = place_there script.servers pair.a next.a in
        let second : (pair.b == server) ≡ true = sym (ap (λ b. b || (pair.b == server)) not_so) ∙ is in
        (peer_at other.0 pair.a, made script server pair.a pair other.0 (beyond_b server pair not_so second) other.1)

peer_of_pair : (script : ScriptSeen) → Keeps script → (server other n number : ℕ) (pair : PeerPair) (by : ScriptServer) → slice_get script.peers n ≡ Some pair → beyond server pair ≡ Some other → has_peer server pair ≡ true
    → number ≡ peers_of server (take n script.peers) → slice_get script.servers other ≡ Some by → slice_get (peers_at script server) number ≡ Some (peer_at by other)
peer_of_pair script has server other n number pair by at other_is is number_is there =
    ap (slice_get (peers_at script server)) number_is
    ∙ made_at (peer_in script server) (has_peer server) script.peers n pair (peer_at by other) (λ k y at_k. not_made script server y) (some_made script has server) at is (made script server other pair by other_is there)

peers_fit : (script : ScriptSeen) → Keeps script → (n : ℕ) (pair : PeerPair) → slice_get script.peers n ≡ Some pair → IsPeerPair (layout_of script) pair
peers_fit script has n pair e =
    let next = has.peers n pair e in
    let a = place_there script.servers pair.a next.a in
    let b = place_there script.servers pair.b next.b in
    let a_is = equals pair.a pair.a refl in
    let b_is = equals pair.b pair.b refl in
    let apart = differs pair.a pair.b next.apart in
    record {
      a = setting_at script pair.a a.0;
      b = setting_at script pair.b b.0;
      a_there = setting_there script pair.a a.0 a.1;
      b_there = setting_there script pair.b b.0 b.1;
      at_a = peer_of_pair script has pair.a pair.b n pair.at_a pair b.0 e (beyond_a pair.a pair a_is) (rw a_is refl) next.at_a b.1;
      at_b = peer_of_pair script has pair.b pair.a n pair.at_b pair a.0 e (beyond_b pair.b pair apart b_is) (rw (apart, b_is) refl) next.at_b a.1;
      apart = next.apart;
    }

pub record IsNumbered (script : ScriptSeen) (n : ℕ) (pair : PeerPair) (server number : ℕ) : Type 0 where
  pub has : has_peer server pair ≡ true
  pub is : number ≡ peers_of server (take n script.peers)

numbered : (script : ScriptSeen) → Keeps script → (n : ℕ) (pair : PeerPair) (server number : ℕ) → slice_get script.peers n ≡ Some pair → peer_number server pair ≡ Some number → IsNumbered script n pair server number
numbered script has n pair server number at e = by (pair.a == server) refl (pair.b == server) refl e
  where
    next : IsNextPeers (length script.servers) (take n script.peers) pair
    next = has.peers n pair at

    by : (x : Bool) → (pair.a == server) ≡ x → (y : Bool) → (pair.b == server) ≡ y → (if x then Some pair.at_a else if y then Some pair.at_b else None) ≡ Some number → IsNumbered script n pair server number
    by true first y second is = (let same : pair.at_a ≡ number = cc in record { has = rw first refl; is = sym same ∙ next.at_a ∙ ap (λ s. peers_of s (take n script.peers)) (equal pair.a server first) })
    by false first true second is = (let same : pair.at_b ≡ number = cc in record { has = rw (first, second) refl; is = sym same ∙ next.at_b ∙ ap (λ s. peers_of s (take n script.peers)) (equal pair.b server second) })
    by false first false second is = cc

peer_in_one : (script : ScriptSeen) → Keeps script → (m n : ℕ) (one two : PeerPair) (server number : ℕ) → slice_get script.peers m ≡ Some one → slice_get script.peers n ≡ Some two
    → peer_number server one ≡ Some number → peer_number server two ≡ Some number → m ≡ n
peer_in_one script has m n one two server number at_m at_n e f =
    let first = numbered script has m one server number at_m e in
    let second = numbered script has n two server number at_n f in
    counts_apart (has_peer server) script.peers m n one two at_m at_n first.has second.has (sym first.is ∙ second.is)

no_later_peers : (script : ScriptSeen) → Keeps script → (m n : ℕ) (one two : PeerPair) → slice_get script.peers m ≡ Some one → slice_get script.peers n ≡ Some two → joins_peers two.a two.b one ≡ true → m < n → ⊥
no_later_peers script has m n one two at_m at_n is less =
    let among = among_earlier (joins_peers two.a two.b) script.peers m n one at_m less is in
    let none = (has.peers n two at_n).one in cc

peers_in_one : (script : ScriptSeen) → Keeps script → (m n : ℕ) (one two : PeerPair) → slice_get script.peers m ≡ Some one → slice_get script.peers n ≡ Some two → joins_peers two.a two.b one ≡ true → m ≡ n
peers_in_one script has m n one two at_m at_n is =
    one_place m n (no_later_peers script has m n one two at_m at_n is) (no_later_peers script has n m two one at_n at_m (crossed two.a two.b one.a one.b is))

pub wired : (script : ScriptSeen) → Keeps script → IsWired (layout_of script)
wired script has = record {
  pairs = pair_fits script has;
  peers = peers_fit script has;
  uplink_once = uplink_in_one script has;
  peer_once = peer_in_one script has;
  pair_once = pair_in_one script has;
  peers_once = peers_in_one script has;
}

-- ---- the layout

pub limits : (script : ScriptSeen) → Keeps script → KeepsLimits script
limits script has = record {
  few = has.few;
  stations = λ n server e. (has.servers n server e).station;
  windows = λ n server e. (has.servers n server e).window;
  uplinks = has.uplinks;
  peers = has.counts;
}

pub lines_keep : (text : List ℕ) (r : Result ScriptSeen ScriptError) → MatchResult r (λ script. drafted 1 empty (lines_of text) ≡ Ok script) (λ e. FailsAt e (drafted 1 empty (lines_of text))) → IfOk r KeepsLimits
lines_keep text (Ok script) e = limits script (IfOk-at_ok Keeps e (keeps_on 1 empty (lines_of text) begun))
lines_keep text (Err e) failed = tt

-- what is made is made of an element
made_of : {A B : Type 0} (P : B → Type 0) (make : A → Option B) (xs : List A) → ((x : A) → IfSome (make x) P) → (k : ℕ) (y : B) → slice_get (filter_map make xs) k ≡ Some y → P y
made_of P make [] all k y e = cc
made_of {B = B} P make (x ∷ xs) all k y e = by (make x) (all x) (made_of P make xs all) k e
  where
    by : (o : Option B) → IfSome o P → ((j : ℕ) (z : B) → slice_get (filter_map make xs) j ≡ Some z → P z) → (j : ℕ) → slice_get (cons_option o (filter_map make xs)) j ≡ Some y → P y
    by None here rest j is = rest j y is
    by (Some z) here rest zero is = (let same : z ≡ y = cc in subst P same here)
    by (Some z) here rest (suc j) is = rest j y is

abbrev pub IsStationsPeer : Peer → Type 0
IsStationsPeer peer = IsTrue (is_station peer.call)

pub peers_stations : (script : ScriptSeen) → KeepsLimits script → (server k : ℕ) (peer : Peer) → slice_get (peers_at script server) k ≡ Some peer → IsStationsPeer peer
peers_stations script has server = made_of IsStationsPeer (peer_in script server) script.peers (λ pair. each IsStationsPeer (beyond server pair) (peer_named script.servers) (λ other e.
    each IsStationsPeer (slice_get script.servers other) _ (λ by there. has.stations other by there)))

code_below : (call : List ℕ) → passcode_of call < 100000
unfolding passcode_of
code_below call = (let low = and_le_r (folded 29666 (map to_ascii_uppercase (base_of call))) 32767 in omega (arith, low))

pub laid_out : (script : ScriptSeen) → Keeps script → IsLaidOut (layout_of script)
laid_out script has = record {
  few = (let count = count_settings script in omega (arith, count, has.few));
  sound = λ k setting e. (let made = setting_made script k setting e in subst IsSound (sym made.is) (record {
    server = (has.servers k made.server made.there).station;
    code = code_below made.server.call;
    peers = peers_stations script (limits script has) k;
  }));
  codes = λ k setting e. (let made = setting_made script k setting e in rw made.is refl);
  listeners = λ n pair setting e there wrong. (
      let made = setting_made script pair.high setting there in
      let high = setting_at script pair.high made.server in
      let full : ◌≡◌ {A = Option PortKind} (Some kind.Full) (Some kind.Dupe) =
      ap (λ listener. kind_of_spec (slice_get high.listens listener)) (sym (has.pairs n pair e).listener) ∙ sym (kind_at_plain high refl pair.listener)
      ∙ ap (λ one. kind_at one pair.listener) (sym made.is) ∙ wrong in
      cc
      );
}
