-- The steps of a network: which of them are there, and what each puts where.
use Rattle.std.specs.Prelude.{ℕ, ◌+◌, ◌-◌, ◌==◌, ◌&&◌, ◌||◌, Bool, true, false, not, nat_le, nat_lt, List, [], ◌∷◌, ◌++◌, length, take, codes, Option, Some, None, is_some, slice_get, if◌then◌else◌}
use Rattle.std.specs.List.{list_any}
use Rattle.std.specs.Option.{option_and_then}
use Rattle.std.specs.Fmt.{decimal}
use Rattle.aprs_base.specs.declared.events.Event.TheVariants as event
use Rattle.aprs_base.specs.declared.texts.Addr.{Addr}
use Rattle.link_queue.specs.Lines.{ended_line}
use Rattle.login_pass.specs.Passcode.{passcode_of}
use Rattle.aprs_history.specs.Setting.{Peer}
use Rattle.aprs_history.specs.Trace.{Trace, Ended}
use Rattle.aprs_history.specs.Casting.{casts_to_peer}
use Rattle.net_history.specs.declared.events.Pair.{Pair}
use Rattle.net_history.specs.declared.events.PeerPair.{PeerPair}
use Rattle.net_history.specs.declared.events.NetEvent.{NetEvent}
use Rattle.net_history.specs.declared.events.NetEvent.TheVariants as net
use Rattle.net_history.specs.Network.{End, ForClient, ForPair, JoinedSeen, Layout, Made, NetSeen, ServerSeen, address_of, at_server, changed_at, far_end, new_network, number_of, on_its_way, trace_at, with_arrival}
use Rattle.net_history.specs.Serving.{with_round}

-- ---- a client comes, and says a line

abbrev pub with_link : Made → ServerSeen → ServerSeen
with_link made s = record s { made = s.made ++ made ∷ [] }

-- the number of the next link
abbrev pub next_link : ServerSeen → ℕ
next_link s = length s.made + 1

abbrev pub login_line : List ℕ → List ℕ
login_line call = codes "user " ++ (call ++ (codes " pass " ++ decimal (passcode_of call)))

-- the client connects from the server's own address, and logs in
abbrev pub with_client : ℕ → Addr → List ℕ → ServerSeen → ServerSeen
with_client listener from call s =
    let opened = with_arrival (event.Opened listener (next_link s) from) s in
    with_link ForClient (with_arrival (event.Bytes (next_link s) (ended_line (login_line call))) opened)

abbrev pub may_open : ℕ → Option ServerSeen → Bool
may_open listener None = false
may_open listener (Some s) = nat_lt listener (length s.setting.listens) && nat_le (next_link s) 4294967295

-- a finished round has ended the link
abbrev pub has_ended : Trace → ℕ → Bool
has_ended [] link = false
has_ended (Ended other reason ∷ earlier) link = other == link || has_ended earlier link
has_ended (entry ∷ earlier) link = has_ended earlier link

abbrev pub is_for_client : Option Made → Bool
is_for_client (Some ForClient) = true
is_for_client other = false

abbrev pub may_say : ℕ → Option ServerSeen → Bool
may_say link None = false
may_say link (Some s) = nat_lt 0 link && (is_for_client (slice_get s.made (link - 1)) && not (has_ended (trace_at s) link))

-- ---- a pair joins, is cut, and bytes arrive

abbrev pub but_first_of : ℕ → List ℕ → List ℕ
but_first_of x [] = []
but_first_of x (y ∷ ys) = if y == x then ys else y ∷ but_first_of x ys

-- the uplink joins: the dial isn't open any more
abbrev pub with_uplink : ℕ → Addr → End → ServerSeen → ServerSeen
with_uplink uplink at other s =
    let joined = with_arrival (event.Joined uplink (next_link s) at) s in
    with_link (ForPair other) (record joined { dialled = but_first_of uplink joined.dialled })

-- and a listener of the other server opens a link for it
abbrev pub with_downlink : ℕ → Addr → End → ServerSeen → ServerSeen
with_downlink listener from other s = with_link (ForPair other) (with_arrival (event.Opened listener (next_link s) from) s)

abbrev pub next_place : Option ServerSeen → ℕ
next_place None = 0
next_place (Some s) = length s.made

-- the ends by which a pair joins; a pair of a server with itself takes two links of it
abbrev pub low_end : Pair → NetSeen → End
low_end pair n = record { server = pair.low; place = next_place (slice_get n.servers pair.low) }

abbrev pub high_end : Pair → NetSeen → End
high_end pair n = record { server = pair.high; place = next_place (slice_get n.servers pair.high) + (if pair.low == pair.high then 1 else 0) }

abbrev pub joined_by : End → End → Option JoinedSeen → Option JoinedSeen
joined_by low high before = Some (record { low = low; high = high })

abbrev pub with_join : ℕ → Option Pair → NetSeen → NetSeen
with_join number None n = n
with_join number (Some pair) n =
    let low = low_end pair n in
    let high = high_end pair n in
    let dialled = at_server (with_uplink pair.uplink (address_of pair.high) high) pair.low n in
    let opened = at_server (with_downlink pair.listener (address_of pair.low) low) pair.high dialled in
    record opened { pairs = changed_at (joined_by low high) number opened.pairs }

abbrev pub is_dialled : ℕ → Option ServerSeen → Bool
is_dialled uplink None = false
is_dialled uplink (Some s) = list_any (λ other. other == uplink) s.dialled

-- so many links more can be made
abbrev pub has_room : ℕ → Option ServerSeen → Bool
has_room more None = false
has_room more (Some s) = nat_le (length s.made + more) 4294967295

abbrev pub may_join : NetSeen → Option Pair → Bool
may_join n None = false
may_join n (Some pair) =
    is_dialled pair.uplink (slice_get n.servers pair.low)
    && (if pair.low == pair.high then has_room 2 (slice_get n.servers pair.low)
    else has_room 1 (slice_get n.servers pair.low) && has_room 1 (slice_get n.servers pair.high))

abbrev pub joined_at : ℕ → NetSeen → Option JoinedSeen
joined_at number n = option_and_then (λ joined. joined) (slice_get n.pairs number)

abbrev pub parted : Option JoinedSeen → Option JoinedSeen
parted joined = None

abbrev pub ends_at : End → NetSeen → NetSeen
ends_at end n = at_server (with_arrival (event.Ended (number_of end))) end.server n

abbrev pub with_cut : ℕ → Option JoinedSeen → NetSeen → NetSeen
with_cut number None n = n
with_cut number (Some joined) n = let told = ends_at joined.high (ends_at joined.low n) in record told { pairs = changed_at parted number told.pairs }

abbrev pub with_carry : Bool → ℕ → Option JoinedSeen → NetSeen → NetSeen
with_carry up k None n = n
with_carry up k (Some joined) n =
    let end = far_end up joined in
    at_server (with_arrival (event.Bytes (number_of end) (take k (on_its_way n up joined)))) end.server n

abbrev pub may_carry : NetSeen → Bool → ℕ → Option JoinedSeen → Bool
may_carry n up k None = false
may_carry n up k (Some joined) = nat_le 1 k && (nat_le k 1460 && nat_le k (length (on_its_way n up joined)))

-- ---- a datagram arrives

-- what number each of the two is among the other's peers: the receiver among the sender's, and the sender among the receiver's
abbrev pub peering : ℕ → ℕ → List PeerPair → Option (ℕ × ℕ)
peering from to [] = None
peering from to (pair ∷ pairs) =
    if pair.a == from && pair.b == to then Some (pair.at_a, pair.at_b)
    else if pair.a == to && pair.b == from then Some (pair.at_b, pair.at_a)
    else peering from to pairs

-- the k-th datagram that was cast to a peer, counted from 1
abbrev pub datagram_at : ℕ → ℕ → Option ServerSeen → Option (List ℕ)
datagram_at peer k None = None
datagram_at peer k (Some s) = if k == 0 then None else slice_get (casts_to_peer s.history peer) (k - 1)

abbrev pub address_in : Option Peer → Addr
address_in None = address_of 0
address_in (Some peer) = peer.at

-- it comes to the peer group's listener, the last one, from the address that the receiver has for the sender
abbrev pub with_datagram : ℕ → List ℕ → ServerSeen → ServerSeen
with_datagram peer bytes s = with_arrival (event.Datagram (length s.setting.listens - 1) (address_in (slice_get s.setting.peers peer)) bytes) s

abbrev pub with_mail : ℕ → ℕ → Option (List ℕ) → NetSeen → NetSeen
with_mail to peer None n = n
with_mail to peer (Some bytes) n = at_server (with_datagram peer bytes) to n

abbrev pub with_cast : ℕ → ℕ → ℕ → Option (ℕ × ℕ) → NetSeen → NetSeen
with_cast from to k None n = n
with_cast from to k (Some numbers) n = with_mail to numbers.1 (datagram_at numbers.0 k (slice_get n.servers from)) n

abbrev pub may_cast : NetSeen → ℕ → ℕ → Option (ℕ × ℕ) → Bool
may_cast n from k None = false
may_cast n from k (Some numbers) = is_some (datagram_at numbers.0 k (slice_get n.servers from))

-- ---- all steps

abbrev pub is_there : Layout → NetSeen → NetEvent → Bool
is_there layout n (net.Open server listener call) = may_open listener (slice_get n.servers server)
is_there layout n (net.Say server link line) = may_say link (slice_get n.servers server)
is_there layout n (net.Round server moment) = is_some (slice_get n.servers server)
is_there layout n (net.Join pair) = may_join n (slice_get layout.pairs pair)
is_there layout n (net.Cut pair) = is_some (joined_at pair n)
is_there layout n (net.Carry pair up k) = may_carry n up k (joined_at pair n)
is_there layout n (net.Cast from to k) = may_cast n from k (peering from to layout.peers)

abbrev pub with_step : Layout → NetEvent → NetSeen → NetSeen
with_step layout (net.Open server listener call) n = at_server (with_client listener (address_of server) call) server n
with_step layout (net.Say server link line) n = at_server (with_arrival (event.Bytes link (ended_line line))) server n
with_step layout (net.Round server moment) n = with_round server moment n
with_step layout (net.Join pair) n = with_join pair (slice_get layout.pairs pair) n
with_step layout (net.Cut pair) n = with_cut pair (joined_at pair n) n
with_step layout (net.Carry pair up k) n = with_carry up k (joined_at pair n) n
with_step layout (net.Cast from to k) n = with_cast from to k (peering from to layout.peers) n

-- the network after these steps, the last one first; a step that isn't there changes nothing
unfoldable pub network_of : Layout → List NetEvent → NetSeen
network_of layout [] = new_network layout
network_of layout (e ∷ earlier) =
    let n = network_of layout earlier in
    if is_there layout n e then with_step layout e n else n
