-- What the laws of descents ask of a network's layout.
use Rattle.std.specs.Prelude.{◌≡◌, ◌≢◌, ℕ, ◌≤◌, length, Some, slice_get}
use Rattle.aprs_base.specs.declared.packets.PortKind.TheVariants as kind
use Rattle.login_pass.specs.Passcode.{passcode_of}
use Rattle.aprs_history.specs.Setting.{Setting, kind_at}
use Rattle.aprs_history.specs.Sound.{IsSound}
use Rattle.net_history.specs.declared.events.Pair.{Pair}
use Rattle.net_history.specs.Network.{Layout}

pub record IsLaidOut (layout : Layout) : Type 0 where
  -- the servers have numbers of 16 bits, and their calls and those of their peers are stations'
  pub few : length layout.servers ≤ 65536
  pub sound : (server : ℕ) (setting : Setting) → slice_get layout.servers server ≡ Some setting → IsSound setting
  -- the code of each server is the passcode of its call
  pub codes : (server : ℕ) (setting : Setting) → slice_get layout.servers server ≡ Some setting → setting.code ≡ passcode_of setting.server
  -- no pair goes to a listener that only shows refused duplicates
  pub listeners : (number : ℕ) (pair : Pair) (setting : Setting) → slice_get layout.pairs number ≡ Some pair → slice_get layout.servers pair.high ≡ Some setting → kind_at setting pair.listener ≢ Some kind.Dupe
