-- The descents of a network: of each accepted packet, and of each datagram that a server was sent, from which submitted line it comes.
use Rattle.std.specs.Prelude.{ℕ, ◌+◌, ◌-◌, ◌==◌, ◌&&◌, Bool, true, false, List, [], ◌∷◌, ◌++◌, length, map, Option, Some, None, slice_get, if◌then◌else◌}
use Rattle.std.specs.Cmp.Lexicographic.{pointwise}
use Rattle.std.specs.Option.{option_map, option_and_then}
use Rattle.aprs_base.specs.PacketSeen.{PacketSeen}
use Rattle.aprs_base.specs.declared.cutting.Cut.{Cut}
use Rattle.aprs_base.specs.declared.cutting.Cut.TheVariants as cut
use Rattle.aprs_base.specs.declared.packets.PortKind.{PortKind}
use Rattle.aprs_base.specs.declared.packets.PortKind.TheVariants as kind
use Rattle.aprs_base.specs.declared.packets.Source.{Source}
use Rattle.aprs_base.specs.declared.packets.Source.TheVariants as source
use Rattle.q_construct.specs.declared.origins.Origin.{Origin}
use Rattle.q_construct.specs.declared.origins.Origin.TheVariants as origin
use Rattle.aprs_history.specs.declared.verdicts.Verdict.{Verdict}
use Rattle.aprs_history.specs.declared.verdicts.Verdict.TheVariants.{Accepted}
use Rattle.aprs_history.specs.Setting.{Peer, Setting, is_only_kind, kind_at, peer_from}
use Rattle.aprs_history.specs.Trace.{Trace, Said, live_links, moment_of}
use Rattle.aprs_history.specs.Links.{is_submitted, opening_of, session_of}
use Rattle.aprs_history.specs.Texts.{LineKind, Relayed, TextLine, text_to}
use Rattle.aprs_history.specs.Verdicts.{Carrier, Speaker, Visitor, client_origin}
use Rattle.aprs_history.specs.Scenes.{accepted_of, logins_of, others_of, speaker_of}
use Rattle.aprs_history.specs.Arriving.{said_on}
use Rattle.net_history.specs.declared.events.NetEvent.{NetEvent}
use Rattle.net_history.specs.declared.events.NetEvent.TheVariants as net
use Rattle.net_history.specs.Network.{ForClient, ForPair, Layout, Made, NetSeen, ServerSeen, changed_at, number_of, trace_at}
use Rattle.net_history.specs.Serving.{with_round}
use Rattle.net_history.specs.Steps.{address_in, is_there, network_of, peering}
use Rattle.net_history.specs.Trails.{Acceptance, Passed, Submitted, Trail}

-- what is known of the lines of one server
pub record Known : Type 0 where
  -- the trail of each datagram that was put there and comes from one of its peers, in order
  pub mail : List (Option Trail)
  -- the descent of each of its accepted packets, in order
  pub descents : List (Option Trail)

-- ---- where a line comes from

-- a packet that was accepted is known by its moment and its line
abbrev pub is_that : PacketSeen → PacketSeen → Bool
is_that packet other = packet.moment == other.moment && pointwise ◌==◌ packet.line other.line

abbrev pub descent_in : PacketSeen → List PacketSeen → List (Option Trail) → Option Trail
descent_in packet [] trails = None
descent_in packet (other ∷ packets) [] = None
descent_in packet (other ∷ packets) (trail ∷ trails) = if is_that packet other then trail else descent_in packet packets trails

-- of the lines of a text the relayed ones alone have a trail
abbrev pub trail_of_kind : ServerSeen → List (Option Trail) → LineKind → Option Trail
trail_of_kind s descents (Relayed packet) = descent_in packet (accepted_of (trace_at s)) descents
trail_of_kind s descents other = None

abbrev pub trail_of_line : ServerSeen → List (Option Trail) → Option TextLine → Option Trail
trail_of_line s descents None = None
trail_of_line s descents (Some line) = trail_of_kind s descents line.kind

-- the trail of that line of a link's text, counted from 0
abbrev pub trail_in_text : Option ServerSeen → Option Known → ℕ → ℕ → Option Trail
trail_in_text (Some s) (Some known) link line = trail_of_line s known.descents (slice_get (text_to s.setting (trace_at s) link).lines line)
trail_in_text s known link line = None

-- what a client says is submitted
abbrev pub submitted_as : Cut → Option Trail
submitted_as cut.Long = None
submitted_as (cut.Line text) = Some (Submitted text)

-- what the next line on a link is, after so many
abbrev pub trail_on : NetSeen → List Known → Option Made → ℕ → Cut → Option Trail
trail_on n known None said line = None
trail_on n known (Some ForClient) said line = submitted_as line
trail_on n known (Some (ForPair other)) said line = trail_in_text (slice_get n.servers other.server) (slice_get known other.server) (number_of other) said

-- so many lines of peers were said before
abbrev pub is_from_peer : Source → Bool
is_from_peer (source.Peer peer) = true
is_from_peer from = false

abbrev pub said_by_peers : Trace → ℕ
said_by_peers [] = 0
said_by_peers (Said from said verdict ∷ earlier) = if is_from_peer from then said_by_peers earlier + 1 else said_by_peers earlier
said_by_peers (entry ∷ earlier) = said_by_peers earlier

abbrev pub mail_at : Option Known → ℕ → Option Trail
mail_at None line = None
mail_at (Some known) line = option_and_then (λ trail. trail) (slice_get known.mail line)

-- the trail of what is said next from there, by the network in which it came
abbrev pub trail_from : NetSeen → List Known → ℕ → ServerSeen → Trace → Source → Cut → Option Trail
trail_from n known server s earlier (source.Link link) said = trail_on n known (slice_get s.made (link - 1)) (length (said_on earlier link)) said
trail_from n known server s earlier (source.Peer peer) said = mail_at (slice_get known server) (said_by_peers earlier)
trail_from n known server s earlier (source.Submit listener) said = None

-- ---- who said it

abbrev pub spoken_by : Speaker → Origin
spoken_by (Visitor kind None) = origin.Client [] false false
spoken_by (Visitor kind (Some session)) = client_origin (is_only_kind kind) session
spoken_by (Carrier from) = from

abbrev pub call_of : Option Peer → List ℕ
call_of None = []
call_of (Some peer) = peer.call

abbrev pub origin_at : Setting → Trace → Source → Origin
origin_at setting trace (source.Link link) = spoken_by (speaker_of (opening_of trace link) (session_of trace link))
origin_at setting trace (source.Peer peer) = origin.Peer (call_of (slice_get setting.peers peer))
origin_at setting trace (source.Submit listener) = origin.Udp []

abbrev pub others_at : Trace → Source → List (List ℕ)
others_at trace (source.Link link) = others_of trace link
others_at trace from = logins_of trace (live_links trace)

-- ---- what a round accepts, and what a datagram brings

-- the descents of the packets that a verdict accepts
abbrev pub descents_by : NetSeen → List Known → ℕ → ServerSeen → Trace → Source → Cut → Verdict → List (Option Trail)
descents_by n known server s earlier from said (Accepted parts line) =
    let by : Acceptance = record {
      server = server;
      call = s.setting.server;
      moment = moment_of earlier;
      origin = origin_at s.setting earlier from;
      others = others_at earlier from;
      parts = parts;
    } in
    option_map (λ trail. Passed trail by) (trail_from n known server s earlier from said) ∷ []
descents_by n known server s earlier from said verdict = []

abbrev pub descents_of : NetSeen → List Known → ℕ → ServerSeen → Trace → List (Option Trail)
descents_of n known server s [] = []
descents_of n known server s (Said from said verdict ∷ earlier) = descents_of n known server s earlier ++ descents_by n known server s earlier from said verdict
descents_of n known server s (entry ∷ earlier) = descents_of n known server s earlier

-- a round: all that the server has accepted is read off, by the network before the round
abbrev pub with_descents : NetSeen → List Known → ℕ → Option ServerSeen → Known → Known
with_descents n known server None its = its
with_descents n known server (Some s) its = record its { descents = descents_of n known server s (trace_at s) }

-- the places that the packets that were submitted have among the accepted ones: each of these is cast to every peer, in this order
abbrev pub submitted_place : (submitted : Bool) → Verdict → ℕ → List ℕ
submitted_place submitted (Accepted parts line) place = if submitted then place ∷ [] else []
submitted_place submitted verdict place = []

abbrev pub submitted_places : Trace → List ℕ
submitted_places [] = []
submitted_places (Said from said verdict ∷ earlier) = submitted_places earlier ++ submitted_place (is_submitted earlier from) verdict (length (accepted_of earlier))
submitted_places (entry ∷ earlier) = submitted_places earlier

abbrev pub descent_at : Option Known → Option ℕ → Option Trail
descent_at None place = None
descent_at (Some known) None = None
descent_at (Some known) (Some place) = option_and_then (λ trail. trail) (slice_get known.descents place)

-- the descent of the k-th datagram to each peer, counted from 1
abbrev pub trail_of_datagram : ℕ → Option ServerSeen → Option Known → Option Trail
trail_of_datagram k None known = None
trail_of_datagram k (Some s) known = descent_at known (slice_get (submitted_places (trace_at s)) (k - 1))

-- a datagram is put there; it is a peer's where it comes to a peer group's listener from the address of one
abbrev pub piece_put : Option PortKind → Option (ℕ × List ℕ) → Option Trail → Known → Known
piece_put (Some kind.Core) (Some peer) trail known = record known { mail = known.mail ++ trail ∷ [] }
piece_put served peer trail known = known

abbrev pub mail_put : ℕ → Option ServerSeen → Option Trail → Known → Known
mail_put peer None trail known = known
mail_put peer (Some s) trail known =
    piece_put (kind_at s.setting (length s.setting.listens - 1)) (peer_from 0 s.setting.peers (address_in (slice_get s.setting.peers peer))) trail known

abbrev pub cast_put : NetSeen → ℕ → ℕ → ℕ → Option (ℕ × ℕ) → List Known → List Known
cast_put n from to k None known = known
cast_put n from to k (Some numbers) known =
    changed_at (mail_put numbers.1 (slice_get n.servers to) (trail_of_datagram k (slice_get n.servers from) (slice_get known from))) to known

-- ---- all steps

abbrev pub known_after : Layout → NetEvent → NetSeen → List Known → List Known
known_after layout (net.Round server moment) n known = changed_at (with_descents n known server (slice_get (with_round server moment n).servers server)) server known
known_after layout (net.Cast from to k) n known = cast_put n from to k (peering from to layout.peers) known
known_after layout e n known = known

abbrev pub nothing_known : ServerSeen → Known
nothing_known s = record { mail = []; descents = [] }

-- what is known of the lines of each server after these steps, the last one first
unfoldable pub known_of : Layout → List NetEvent → List Known
known_of layout [] = map nothing_known (network_of layout []).servers
known_of layout (e ∷ earlier) = if is_there layout (network_of layout earlier) e then known_after layout e (network_of layout earlier) (known_of layout earlier) else known_of layout earlier
