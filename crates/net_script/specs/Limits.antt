-- How many servers, uplinks and peers a script has, and what its servers are.
use Rattle.std.specs.Prelude.{◌≡◌, ℕ, ◌≤◌, length, Some, slice_get, IsTrue}
use Rattle.aprs_base.specs.Bytes.{is_station}
use Rattle.aprs_conf.specs.Sound.{IsWithin}
use Rattle.net_script.specs.declared.types.ScriptServer.{ScriptServer}
use Rattle.net_script.specs.Grammar.{peers_of, uplinks_of}
use Rattle.net_script.specs.Seen.{ScriptSeen}

pub record KeepsLimits (script : ScriptSeen) : Type 0 where
  pub few : length script.servers ≤ 16
  pub stations : (number : ℕ) (server : ScriptServer) → slice_get script.servers number ≡ Some server → IsTrue (is_station server.call)
  pub windows : (number : ℕ) (server : ScriptServer) → slice_get script.servers number ≡ Some server → IsWithin 10 300 server.window
  pub uplinks : (server : ℕ) → uplinks_of server script.pairs ≤ 8
  pub peers : (server : ℕ) → peers_of server script.peers ≤ 8
