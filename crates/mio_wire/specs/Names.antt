-- The addresses of uplinks that are dialled by name or by digits.
use Rattle.std.specs.Prelude.{◌≡◌, ℕ, ◌+◌, ◌<◌, ◌≤◌, List, [], ◌∷◌, length, Option, Some, None}
use Rattle.std.specs.Net.Addr.{ipv4_octets}
use Rattle.std.specs.Net.Grammar.{IsIpv4Text}
use Rattle.std.specs.declared.net.socket_addr.SocketAddr.{SocketAddr}
use Rattle.std.specs.declared.net.socket_addr.SocketAddr.TheVariants.{V4, V6}
use Rattle.std.specs.declared.net.ipv4_addr.Ipv4Addr.{Ipv4Addr}
use Rattle.aprs_base.specs.declared.texts.Addr.{Addr}

-- the address that a socket's is, where it is one of IPv4
abbrev pub ipv4_of : SocketAddr → Option Addr
ipv4_of (V4 at) = Some (record { ip = ipv4_octets at.ip; port = at.port })
ipv4_of (V6 at) = None

-- the address that a peer has
abbrev pub addr_of : SocketAddr → Addr
addr_of (V4 at) = record { ip = ipv4_octets at.ip; port = at.port }
addr_of (V6 at) = record { ip = 0 ∷ 0 ∷ 0 ∷ 0 ∷ []; port = at.port }

-- the address that the digits write, and the port
abbrev pub IsIn : (host : List ℕ) (port : ℕ) → Option Addr → Type 0
IsIn host port None = ⊥
IsIn host port (Some at) = (a : Ipv4Addr) × IsIpv4Text host a × (at.ip ≡ ipv4_octets a) × (at.port ≡ port)

-- one more of the addresses that were found is tried, or the first where all were tried: then of those that are found anew, if any
pub record IsTurn (found : List Addr) (tried : ℕ) (found' : List Addr) (tried' : ℕ) : Type 0 where
  pub next : tried < length found → (found' ≡ found) × (tried' ≡ tried + 1)
  pub anew : length found ≤ tried → tried' ≡ 1
  pub stays : length found' ≡ 0 → length found ≡ 0
