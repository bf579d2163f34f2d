-- What a history is judged by: the server and its passcode, where it listens, the servers that it speaks to, and its limits.
use Rattle.std.specs.Prelude.{ℕ, ◌==◌, ◌+◌, ◌-◌, ◌&&◌, Bool, true, false, nat_lt, List, [], ◌∷◌, length, Option, Some, None, slice_get, if◌then◌else◌}
use Rattle.std.specs.Cmp.Lexicographic.{pointwise}
use Rattle.aprs_base.specs.declared.packets.ListenSpec.{ListenSpec}
use Rattle.aprs_base.specs.declared.packets.PortKind.{PortKind}
use Rattle.aprs_base.specs.declared.packets.PortKind.TheVariants as kind
use Rattle.aprs_base.specs.UplinkSeen.{UplinkSeen}
use Rattle.aprs_base.specs.declared.texts.Addr.{Addr}

-- a server with which datagrams are exchanged
pub record Peer : Type 0 where
  pub call : List ℕ
  pub at : Addr

-- times are in seconds
pub record Setting : Type 0 where
  pub server : List ℕ
  pub code : ℕ
  -- the numbered listeners: the ports, that of the peer group, where there is one, and then those that lines are cast from
  pub listens : List ListenSpec
  -- the kind of port whose links may have their lines cast, for each of those last listeners
  pub downs : List PortKind
  pub uplinks : List UplinkSeen
  pub peers : List Peer
  pub up_timeout : ℕ
  pub client_timeout : ℕ
  pub max_clients : ℕ
  -- for how long a packet is a duplicate of one that was accepted
  pub window : ℕ

abbrev pub kind_of_spec : Option ListenSpec → Option PortKind
kind_of_spec None = None
kind_of_spec (Some spec) = Some spec.kind

-- how many listeners serve what comes there: the others are only cast from
abbrev pub serving_listens : Setting → ℕ
serving_listens setting = length setting.listens - length setting.downs

-- what the listener of that number serves
abbrev pub kind_at : Setting → ℕ → Option PortKind
kind_at setting listener = if nat_lt listener (serving_listens setting) then kind_of_spec (slice_get setting.listens listener) else None

-- the kinds of port to which clients connect; datagrams come to the others
abbrev pub is_client_kind : PortKind → Bool
is_client_kind kind.Submit = false
is_client_kind kind.Core = false
is_client_kind other = true

-- the kinds of port whose links have a filter
abbrev pub is_filter_kind : PortKind → Bool
is_filter_kind kind.Igate = true
is_filter_kind kind.Only = true
is_filter_kind other = false

-- a kind of port whose links may have their lines cast to them, and the same
abbrev pub is_same_down : PortKind → PortKind → Bool
is_same_down kind.Full kind.Full = true
is_same_down kind.Igate kind.Igate = true
is_same_down kind.Only kind.Only = true
is_same_down one other = false

-- the kind of port that only serves clients
abbrev pub is_only_kind : PortKind → Bool
is_only_kind kind.Only = true
is_only_kind other = false

-- the kind of port that only shows refused duplicates
abbrev pub is_dupe_kind : PortKind → Bool
is_dupe_kind kind.Dupe = true
is_dupe_kind other = false

abbrev pub is_same_addr : Addr → Addr → Bool
is_same_addr a b = pointwise ◌==◌ a.ip b.ip && a.port == b.port

-- the number and the call of the first peer that has this address, port and all
abbrev pub peer_from : ℕ → List Peer → Addr → Option (ℕ × List ℕ)
peer_from n [] at = None
peer_from n (peer ∷ peers) at = if is_same_addr peer.at at then Some (n, peer.call) else peer_from (n + 1) peers at
