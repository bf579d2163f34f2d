-- What every script that is read keeps.
use Rattle.std.specs.Prelude.{◌≡◌, ◌≢◌, ℕ, ◌<◌, ◌==◌, true, if◌then◌else◌, List, length, Option, Some, None, Ok, slice_get}
use Rattle.aprs_history.specs.Setting.{Setting}
use Rattle.net_history.specs.declared.events.Pair.{Pair}
use Rattle.net_history.specs.declared.events.PeerPair.{PeerPair}
use Rattle.net_history.specs.Network.{Layout, address_of}
use Rattle.net_history.specs.Premises.{IsLaidOut}
use Rattle.net_script.specs.Grammar.{joins, joins_peers}
use Rattle.net_script.specs.Layouts.{layout_of}
use Rattle.net_script.specs.Limits.{KeepsLimits}
use Rattle.net_script.specs.Reading.{script_of}
use Rattle.net_script.specs.Seen.{ScriptSeen}

-- a pair goes from an uplink of one server to a listener of another
pub record IsPair (layout : Layout) (pair : Pair) : Type 0 where
  pub low : Setting
  pub high : Setting
  pub low_there : slice_get layout.servers pair.low ≡ Some low
  pub high_there : slice_get layout.servers pair.high ≡ Some high
  pub uplink : pair.uplink < length low.uplinks
  pub listener : pair.listener < length high.listens
  pub apart : pair.low ≢ pair.high

-- each of two servers has the other as the peer of that number
pub record IsPeerPair (layout : Layout) (pair : PeerPair) : Type 0 where
  pub a : Setting
  pub b : Setting
  pub a_there : slice_get layout.servers pair.a ≡ Some a
  pub b_there : slice_get layout.servers pair.b ≡ Some b
  pub at_a : slice_get a.peers pair.at_a ≡ Some (record { call = b.server; at = address_of pair.b })
  pub at_b : slice_get b.peers pair.at_b ≡ Some (record { call = a.server; at = address_of pair.a })
  pub apart : pair.a ≢ pair.b

-- which of its peers the pair is for that server
abbrev pub peer_number : ℕ → PeerPair → Option ℕ
peer_number server pair = if pair.a == server then Some pair.at_a else if pair.b == server then Some pair.at_b else None

pub record IsWired (layout : Layout) : Type 0 where
  pub pairs : (n : ℕ) (pair : Pair) → slice_get layout.pairs n ≡ Some pair → IsPair layout pair
  pub peers : (n : ℕ) (pair : PeerPair) → slice_get layout.peers n ≡ Some pair → IsPeerPair layout pair
  -- no uplink of a server, and no peer of a server, is in two pairs
  pub uplink_once : (m n : ℕ) (one two : Pair) → slice_get layout.pairs m ≡ Some one → slice_get layout.pairs n ≡ Some two → one.low ≡ two.low → one.uplink ≡ two.uplink → m ≡ n
  pub peer_once : (m n : ℕ) (one two : PeerPair) (server number : ℕ) → slice_get layout.peers m ≡ Some one → slice_get layout.peers n ≡ Some two
      → peer_number server one ≡ Some number → peer_number server two ≡ Some number → m ≡ n
  -- two servers have one pair of each kind at most
  pub pair_once : (m n : ℕ) (one two : Pair) → slice_get layout.pairs m ≡ Some one → slice_get layout.pairs n ≡ Some two → joins two.low two.high one ≡ true → m ≡ n
  pub peers_once : (m n : ℕ) (one two : PeerPair) → slice_get layout.peers m ≡ Some one → slice_get layout.peers n ≡ Some two → joins_peers two.a two.b one ≡ true → m ≡ n

abbrev pub ScriptsKeepLimits : Type 0
ScriptsKeepLimits = (text : List ℕ) (script : ScriptSeen) → script_of text ≡ Ok script → KeepsLimits script

abbrev pub ScriptsAreLaidOut : Type 0
ScriptsAreLaidOut = (text : List ℕ) (script : ScriptSeen) → script_of text ≡ Ok script → IsLaidOut (layout_of script)

abbrev pub ScriptsAreWired : Type 0
ScriptsAreWired = (text : List ℕ) (script : ScriptSeen) → script_of text ≡ Ok script → IsWired (layout_of script)
