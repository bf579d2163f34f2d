-- What each line keeps of a script, and so what every script that is read has.
use Rattle.std.proofs.Common.{◌≡◌, ◌≢◌, ℕ, ◌+◌, ◌<◌, ◌≤◌, Bool, true, false, List, [], ◌∷◌, ◌++◌, length, Option, Some, None, Ok, Err, IfOk, IfSome, IsTrue, refl, arith, inl, inr, ◌⊎◌, subst, length-append}
use Rattle.std.specs.Prelude.{◌&&◌, ◌||◌, ◌==◌, not, nat_le, is_some, slice_index, if◌then◌else◌}
use Rattle.std.specs.Str.{byte}
use Rattle.std.proofs.lemmas.Bool.{and_parts, leb-true}
use Rattle.std.specs.List.{count_by}
use Rattle.std.proofs.lemmas.Bool.Decides.{nat_tests}
use Rattle.std.proofs.lemmas.Option.{cond_some}
use Rattle.std.proofs.lemmas.Result.{IfOk-at_ok}
use Rattle.std.proofs.lemmas.List.Quantifiers.{position-Some}
use Rattle.aprs_base.specs.Bytes.{is_station}
use Rattle.aprs_base.specs.OptionSteps.{◌>>=◌}
use Rattle.aprs_conf.specs.Arguments.{same, station_of}
use Rattle.aprs_conf.specs.Sound.{IsWithin}
use Rattle.net_history.specs.declared.events.Pair.{Pair}
use Rattle.net_history.specs.declared.events.PeerPair.{PeerPair}
use Rattle.net_script.specs.declared.types.ScriptServer.{ScriptServer}
use Rattle.net_script.specs.Grammar.{are_joined, are_peers, has_peer, is_within, number_of, parted, peer_in, peers_of, server_at, server_in, two_in, two_servers, uplink_in, uplinks_of, with_window}
use Rattle.net_script.specs.Grammar.{after, lines_of}
use Rattle.net_script.specs.Reading.{drafted, empty, script_of}
use Rattle.net_script.specs.Seen.{ScriptSeen}
use Rattle.aprs_base.specs.ResultSteps.{◌>>=◌ as ◌>>=ᵣ◌}
use Rattle.aprs_conf.specs.Grammar.{need}
use Rattle.net_script.specs.declared.errors.ScriptError.TheVariants as cause
use Rattle.net_script.proofs.GrowthLemmas.{Growth, ByServer, ByPair, ByPeers, ByStep, each, grows, unless_some}
use Rattle.net_script.proofs.GrownLemmas.{Each, count_no, count_with, count_yes, each_of_none, each_then, each_with}

pub record IsServer (server : ScriptServer) : Type 0 where
  pub station : IsTrue (is_station server.call)
  pub window : IsWithin 10 300 server.window

-- a pair keeps to those before it, where there are so many servers
pub record IsNextPair (servers : ℕ) (before : List Pair) (pair : Pair) : Type 0 where
  pub low : pair.low < servers
  pub high : pair.high < servers
  pub apart : pair.low ≢ pair.high
  pub listener : pair.listener ≡ 0
  pub uplink : pair.uplink ≡ uplinks_of pair.low before
  pub one : are_joined pair.low pair.high before ≡ false

pub record IsNextPeers (servers : ℕ) (before : List PeerPair) (pair : PeerPair) : Type 0 where
  pub a : pair.a < servers
  pub b : pair.b < servers
  pub apart : pair.a ≢ pair.b
  pub at_a : pair.at_a ≡ peers_of pair.a before
  pub at_b : pair.at_b ≡ peers_of pair.b before
  pub one : are_peers pair.a pair.b before ≡ false

pub record Keeps (script : ScriptSeen) : Type 0 where
  pub few : length script.servers ≤ 16
  pub servers : Each (λ before server. IsServer server) script.servers
  pub pairs : Each (IsNextPair (length script.servers)) script.pairs
  pub peers : Each (IsNextPeers (length script.servers)) script.peers
  pub uplinks : (server : ℕ) → uplinks_of server script.pairs ≤ 8
  pub counts : (server : ℕ) → peers_of server script.peers ≤ 8

-- ---- what a line that is good has

-- of two tests that both fail
pub or_false : (a b : Bool) → a || b ≡ false → (a ≡ false) × (b ≡ false)
or_false true b e = cc
or_false false b e = (refl, e)

-- of two tests of which one passes
pub either : (a b : Bool) → a || b ≡ true → (a ≡ true) ⊎ (b ≡ true)
either true b e = inl refl
either false b e = inr e

server_there : (script : ScriptSeen) (call : List ℕ) (n : ℕ) → server_at script call ≡ Some n → n < length script.servers
server_there script call n e = (position-Some (λ (server : ScriptServer). same server.call call) script.servers n (record { call = []; window = 0 }) e).0

pub record AreTwo (script : ScriptSeen) (ends : ℕ × ℕ) : Type 0 where
  pub first : ends.0 < length script.servers
  pub second : ends.1 < length script.servers
  pub apart : ends.0 ≢ ends.1

two_there : (script : ScriptSeen) (a b : List ℕ) → IfSome (two_servers script a b) (AreTwo script)
two_there script a b =
    each (AreTwo script) (server_at script a) _ (λ m at_m. each (AreTwo script) (server_at script b) _ (λ n at_n.
    unless_some (AreTwo script) (m == n) (Some (m, n)) (λ other. record { first = server_there script a m at_m; second = server_there script b n at_n; apart = λ e. grind (arith, nat_tests, other, e) })))

two_said : (script : ScriptSeen) (text : List ℕ) → IfSome (two_in script text) (AreTwo script)
two_said script text = each (AreTwo script) (parted text) _ (λ words e. two_there script words.0 words.1)

two_of : (script : ScriptSeen) (text : List ℕ) (ends : ℕ × ℕ) → two_in script text ≡ Some ends → AreTwo script ends
two_of script text ends e = subst (λ o. IfSome o (AreTwo script)) e (two_said script text)

below : (least n : ℕ) → nat_le least n ≡ false → n < least
below least n e = grind (arith, nat_tests, e)

pub record IsFitPair (script : ScriptSeen) (pair : Pair) : Type 0 where
  pub next : IsNextPair (length script.servers) script.pairs pair
  pub few : uplinks_of pair.low script.pairs < 8

pair_said : (script : ScriptSeen) (text : List ℕ) → IfSome (uplink_in script text) (IsFitPair script)
pair_said script text = each (IsFitPair script) (two_in script text) _ (λ ends e. unless_some (IsFitPair script) _ _ (λ fine.
    let two = two_of script text ends e in
    let tests = or_false (are_joined ends.0 ends.1 script.pairs) _ fine in
    let next : IsNextPair (length script.servers) script.pairs (record { low = ends.0; uplink = uplinks_of ends.0 script.pairs; high = ends.1; listener = 0 }) = record { low = two.first; high = two.second; apart = two.apart; listener = refl; uplink = refl; one = tests.0 } in
    let few : uplinks_of ends.0 script.pairs < 8 = below 8 _ tests.1 in record { next = next; few = few }))

pub record IsFitPeers (script : ScriptSeen) (pair : PeerPair) : Type 0 where
  pub next : IsNextPeers (length script.servers) script.peers pair
  pub few_a : peers_of pair.a script.peers < 8
  pub few_b : peers_of pair.b script.peers < 8

peers_said : (script : ScriptSeen) (text : List ℕ) → IfSome (peer_in script text) (IsFitPeers script)
peers_said script text = each (IsFitPeers script) (two_in script text) _ (λ ends e. unless_some (IsFitPeers script) _ _ (λ fine.
    let two = two_of script text ends e in
    let tests = or_false (are_peers ends.0 ends.1 script.peers) _ fine in
    let counts = or_false (nat_le 8 (peers_of ends.0 script.peers)) _ tests.1 in
    let next : IsNextPeers (length script.servers) script.peers (record { a = ends.0; at_a = peers_of ends.0 script.peers; b = ends.1; at_b = peers_of ends.1 script.peers }) = record { a = two.first; b = two.second; apart = two.apart; at_a = refl; at_b = refl; one = tests.0 } in
    let few_a : peers_of ends.0 script.peers < 8 = below 8 _ counts.0 in
    let few_b : peers_of ends.1 script.peers < 8 = below 8 _ counts.1 in record { next = next; few_a = few_a; few_b = few_b }))

pub record IsFitServer (script : ScriptSeen) (server : ScriptServer) : Type 0 where
  pub is : IsServer server
  pub few : length script.servers < 16

in_window : (n : ℕ) (text : List ℕ) → is_within 10 300 text n ≡ true → IsWithin 10 300 n
in_window n text e =
    let parts = and_parts (not (slice_index text 0 == byte "0") && nat_le 10 n) (nat_le n 300) e in
    let least = and_parts (not (slice_index text 0 == byte "0")) (nat_le 10 n) parts.0 in (leb-true 10 n least.1, leb-true n 300 parts.1)

abbrev HasWindow : List ℕ × ℕ → Type 0
HasWindow words = IsWithin 10 300 words.1

window_said : (text : List ℕ) → IfSome (with_window text (parted text)) HasWindow
window_said text = by (parted text)
  where
    within : (words : List ℕ × List ℕ) (b : Bool) (n : ℕ) → is_within 10 300 words.1 n ≡ b → IfSome ((if b then Some n else None) >>= λ window. Some (words.0, window)) HasWindow
    within words true n e = in_window n words.1 e
    within words false n e = tt

    read : (words : List ℕ × List ℕ) (o : Option ℕ) → IfSome ((o >>= λ n. if is_within 10 300 words.1 n then Some n else None) >>= λ window. Some (words.0, window)) HasWindow
    read words None = tt
    read words (Some n) = within words (is_within 10 300 words.1 n) n refl

    by : (o : Option (List ℕ × List ℕ)) → IfSome (with_window text o) HasWindow
    by None = (omega arith, omega arith)
    by (Some words) = read words (number_of words.1)

server_said : (script : ScriptSeen) (text : List ℕ) → IfSome (server_in script text) (IsFitServer script)
server_said script text = each (IsFitServer script) (with_window text (parted text)) _ (λ words e. each (IsFitServer script) (station_of words.0) _ (λ call named. unless_some (IsFitServer script) _ _ (λ fine.
    let window : IsWithin 10 300 words.1 = subst (λ o. IfSome o HasWindow) e (window_said text) in
    let station : IsTrue (is_station call) = (let is = cond_some (is_station words.0) words.0 call named in subst (λ text. IsTrue (is_station text)) is.1 is.0) in
    let is : IsServer (record { call = call; window = words.1 }) = record { station = station; window = window } in
    let few : length script.servers < 16 = below 16 _ (or_false (is_some (server_at script call)) _ fine).1 in record { is = is; few = few })))

-- ---- what a line keeps

-- more servers keep the pairs
more_servers : (m n : ℕ) (before : List Pair) (pair : Pair) → m ≤ n → IsNextPair m before pair → IsNextPair n before pair
more_servers m n before pair more is = record { low = omega (arith, is.low); high = omega (arith, is.high); apart = is.apart; listener = is.listener; uplink = is.uplink; one = is.one }

more_peers : (m n : ℕ) (before : List PeerPair) (pair : PeerPair) → m ≤ n → IsNextPeers m before pair → IsNextPeers n before pair
more_peers m n before pair more is = record { a = omega (arith, is.a); b = omega (arith, is.b); apart = is.apart; at_a = is.at_a; at_b = is.at_b; one = is.one }

-- one more counts where it passes
counted : {A : Type 0} (test : A → Bool) (xs : List A) (x : A) → count_by test xs ≤ 8 → (test x ≡ true → count_by test xs < 8) → count_by test (xs ++ x ∷ []) ≤ 8
counted test xs x most below = by (test x) refl
  where
    by : (b : Bool) → test x ≡ b → count_by test (xs ++ x ∷ []) ≤ 8
    by true so = (let one = count_yes test x [] so in let sum = count_with test xs x in let fewer = below so in omega (arith, one, sum, fewer))
    by false not_so = (let none = count_no test x [] not_so in let sum = count_with test xs x in omega (arith, none, sum, most))

uplinks_kept : (pairs : List Pair) (pair : Pair) → uplinks_of pair.low pairs < 8 → ((server : ℕ) → uplinks_of server pairs ≤ 8) → (server : ℕ) → uplinks_of server (pairs ++ pair ∷ []) ≤ 8
uplinks_kept pairs pair few most server = counted (λ (other : Pair). other.low == server) pairs pair (most server) (λ is. let same : pair.low ≡ server = grind (arith, nat_tests, is) in subst (λ n. uplinks_of n pairs < 8) same few)

peers_kept : (peers : List PeerPair) (pair : PeerPair) → peers_of pair.a peers < 8 → peers_of pair.b peers < 8 → ((server : ℕ) → peers_of server peers ≤ 8) → (server : ℕ) → peers_of server (peers ++ pair ∷ []) ≤ 8
peers_kept peers pair few_a few_b most server = counted (has_peer server) peers pair (most server) (λ is. elim (either (pair.a == server) (pair.b == server) is) [
  | inl first ↦ (let same : pair.a ≡ server = grind (arith, nat_tests, first) in subst (λ n. peers_of n peers < 8) same few_a)
  | inr second ↦ (let same : pair.b ≡ server = grind (arith, nat_tests, second) in subst (λ n. peers_of n peers < 8) same few_b)
])

kept : (script new : ScriptSeen) → Growth script new → Keeps script → Keeps new
kept script new (ByServer text server e is) has = rw is (let fit : IsFitServer script server = subst (λ o. IfSome o (IsFitServer script)) e (server_said script text) in let sum = length-append {A = ScriptServer} script.servers (server ∷ []) in record {
  few = omega (arith, sum, fit.few);
  servers = each_with (λ before s. IsServer s) script.servers server has.servers fit.is;
  pairs = each_then (IsNextPair (length script.servers)) (IsNextPair (length (script.servers ++ server ∷ []))) script.pairs (λ before pair. more_servers (length script.servers) (length (script.servers ++ server ∷ [])) before pair (omega (arith, sum))) has.pairs;
  peers = each_then (IsNextPeers (length script.servers)) (IsNextPeers (length (script.servers ++ server ∷ []))) script.peers (λ before pair. more_peers (length script.servers) (length (script.servers ++ server ∷ [])) before pair (omega (arith, sum))) has.peers;
  uplinks = has.uplinks;
  counts = has.counts;
})
kept script new (ByPair text pair e is) has = rw is (let fit : IsFitPair script pair = subst (λ o. IfSome o (IsFitPair script)) e (pair_said script text) in record {
  few = has.few;
  servers = has.servers;
  pairs = each_with (IsNextPair (length script.servers)) script.pairs pair has.pairs fit.next;
  peers = has.peers;
  uplinks = uplinks_kept script.pairs pair fit.few has.uplinks;
  counts = has.counts;
})
kept script new (ByPeers text pair e is) has = rw is (let fit : IsFitPeers script pair = subst (λ o. IfSome o (IsFitPeers script)) e (peers_said script text) in record {
  few = has.few;
  servers = has.servers;
  pairs = has.pairs;
  peers = each_with (IsNextPeers (length script.servers)) script.peers pair has.peers fit.next;
  uplinks = has.uplinks;
  counts = peers_kept script.peers pair fit.few_a fit.few_b has.counts;
})
kept script new (ByStep number step is) has = rw is (record { few = has.few; servers = has.servers; pairs = has.pairs; peers = has.peers; uplinks = has.uplinks; counts = has.counts })

pub begun : Keeps empty
begun = record {
  few = omega arith;
  servers = each_of_none (λ before server. IsServer server);
  pairs = each_of_none (IsNextPair 0);
  peers = each_of_none (IsNextPeers 0);
  uplinks = λ server. omega arith;
  counts = λ server. omega arith;
}

pub keeps_on : (number : ℕ) (script : ScriptSeen) (lines : List (List ℕ)) → Keeps script → IfOk (drafted number script lines) Keeps
keeps_on number script [] has = has
keeps_on number script (line ∷ lines) has = by (after number script line) (grows number script line) (λ new growth. keeps_on (number + 1) new lines (kept script new growth has))
  where
    by : (o : Option ScriptSeen) → IfSome o (Growth script) → ((new : ScriptSeen) → Growth script new → IfOk (drafted (number + 1) new lines) Keeps)
        → IfOk (need (cause.BadStep number) o >>=ᵣ λ more. drafted (number + 1) more lines) Keeps
    by None growth rest = tt
    by (Some new) growth rest = rest new growth

read_whole : (b : Bool) (text : List ℕ) (script : ScriptSeen) → (if b then Err cause.TooLarge else drafted 1 empty (lines_of text)) ≡ Ok script → drafted 1 empty (lines_of text) ≡ Ok script
read_whole true text script e = cc
read_whole false text script e = e

pub scripts_keep : (text : List ℕ) (script : ScriptSeen) → script_of text ≡ Ok script → Keeps script
unfolding script_of
scripts_keep text script e = IfOk-at_ok Keeps (read_whole _ text script e) (keeps_on 1 empty (lines_of text) begun)
