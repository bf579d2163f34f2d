-- Links by their numbers, and what is asked of them.
use Rattle.std.specs.Prelude.{ℕ, ◌==◌, ◌-◌, Bool, true, false, is_none, is_some, nat_le, nat_lt, List, [], ◌∷◌, length, map, filter, not, ◌&&◌, ◌||◌, Option, Some, None, if◌then◌else◌}
use Rattle.std.specs.List.{list_all, list_any, flat_map}
use Rattle.aprs_base.specs.Bytes.{is_station}
use Rattle.aprs_base.specs.Held.{Held}
use Rattle.aprs_history.specs.declared.verdicts.Session.{Session}
use Rattle.aprs_history.specs.declared.verdicts.LinkKind.{LinkKind}
use Rattle.aprs_history.specs.Downs.{DownSeen}
use Rattle.aprs_history.specs.Stands.{LinkSeen}
use Rattle.aprs_history.specs.Trace.{is_member}
pub use Rattle.aprs_history.specs.Trace.{Rises}
use Rattle.aprs_history.specs.Links.{Opening, has_filters, is_client_link, login_seconds, opened_at}
use Rattle.aprs_history.specs.Scenes.{speaker_of, verified_login}
use Rattle.aprs_history.specs.Verdicts.{Speaker, Visitor}
use Rattle.aprs_base.specs.declared.packets.PortKind.TheVariants as port
use Rattle.aprs_base.specs.declared.packets.Source.{Source}
use Rattle.aprs_base.specs.declared.packets.Source.TheVariants as source
use Rattle.aprs_base.specs.declared.texts.Addr.{Addr}
use Rattle.served_links.specs.declared.link.Timeouts.{Timeouts}
use Rattle.served_links.specs.Pending.{pending_bytes}

-- what is kept of a link that has left has no opening any more: it keeps its place until all such are let go
abbrev pub is_here : LinkSeen → Bool
is_here link = is_some link.opening

abbrev pub here : List LinkSeen → List LinkSeen
here links = filter is_here links

-- none of them has left
abbrev pub is_whole : List LinkSeen → Bool
is_whole links = list_all is_here links

abbrev pub when_left : LinkSeen → LinkSeen
when_left link = record link { opening = None }

abbrev pub has_that : ℕ → LinkSeen → Bool
has_that number link = link.link == number

-- whether it has that number, and hasn't left
abbrev pub is_at : ℕ → LinkSeen → Bool
is_at number link = has_that number link && is_here link

abbrev pub number_of : LinkSeen → ℕ
number_of link = link.link

-- a link's number, and whether and how it was opened
abbrev pub named_of : LinkSeen → ℕ × Option Opening
named_of link = (link.link, link.opening)

abbrev pub numbers : List LinkSeen → List ℕ
numbers links = map number_of links

abbrev pub has_number : ℕ → List LinkSeen → Bool
has_number number links = list_any (has_that number) links

-- what the link of that number has, or another value where there is none
abbrev pub picked_at : {X : Type 0} → (LinkSeen → X) → X → ℕ → List LinkSeen → X
picked_at pick none number [] = none
picked_at pick none number (link ∷ links) = if has_that number link then pick link else picked_at pick none number links

abbrev pub pending_of : LinkSeen → List ℕ
pending_of link = pending_bytes link.queue

abbrev pub held_kept : LinkSeen → Option Held
held_kept link = Some link.held

-- the bytes that it has still to take
abbrev pub pending_at : ℕ → List LinkSeen → List ℕ
pending_at number links = picked_at pending_of [] number links

-- what its cutter keeps
abbrev pub held_at : ℕ → List LinkSeen → Option Held
held_at number links = picked_at held_kept None number links

-- how it was opened
abbrev pub opening_kept : LinkSeen → Option Opening
opening_kept link = link.opening

-- what it is to the server, and where it came from
abbrev pub kind_and_from : Opening → LinkKind × Addr
kind_and_from opening = (opening.kind, opening.from)

abbrev pub opening_at : ℕ → List LinkSeen → Option Opening
opening_at number links = picked_at opening_kept None number links

-- the downlink that it is
abbrev pub down_kept : LinkSeen → Option DownSeen
down_kept link = link.down

abbrev pub down_at : ℕ → List LinkSeen → Option DownSeen
down_at number links = picked_at down_kept None number links

-- it has taken each line wholly that it has begun to take
abbrev pub starts_line : LinkSeen → Bool
starts_line link = link.queue.offset == 0

abbrev pub starts_line_at : ℕ → List LinkSeen → Bool
starts_line_at number links = picked_at starts_line true number links

-- a link that was found gone
abbrev pub is_lost : LinkSeen → Bool
is_lost link = link.gone

abbrev pub is_lost_here : LinkSeen → Bool
is_lost_here link = is_here link && is_lost link

-- it isn't blocked, or is a downlink, and has bytes to take
abbrev pub is_ready : LinkSeen → Bool
is_ready link = (is_some link.down || not link.blocked) && nat_lt 0 (length (pending_bytes link.queue))

-- a line didn't fit
abbrev pub is_overfull : LinkSeen → Bool
is_overfull link = link.over

-- it is a client, and has not logged in for half a minute
abbrev pub is_nameless_link : ℕ → LinkSeen → Bool
is_nameless_link now link = is_client_link link.opening && (is_none link.session && nat_le login_seconds (now - opened_at link.opening))

-- the most seconds without bytes, less one
abbrev pub timeout_for : Timeouts → LinkSeen → ℕ
timeout_for timeouts link = if is_client_link link.opening then timeouts.client else timeouts.uplink

abbrev pub is_late_link : Timeouts → ℕ → LinkSeen → Bool
is_late_link timeouts now link = is_nameless_link now link || nat_le (timeout_for timeouts link) (now - link.last)

abbrev pub is_late_here : Timeouts → ℕ → LinkSeen → Bool
is_late_here timeouts now link = is_here link && is_late_link timeouts now link

-- it is none of these
abbrev pub is_none_of : List ℕ → LinkSeen → Bool
is_none_of numbers link = not (is_member link.link numbers)

abbrev pub is_another : ℕ → LinkSeen → Bool
is_another number link = not (link.link == number)

-- who speaks on it
abbrev pub speaker_kept : LinkSeen → Speaker
speaker_kept link = speaker_of link.opening link.session

abbrev pub speaker_at : ℕ → List LinkSeen → Speaker
speaker_at number links = picked_at speaker_kept (Visitor port.Full None) number links

-- whether it is a client
abbrev pub client_kept : LinkSeen → Bool
client_kept link = is_client_link link.opening

abbrev pub client_at : ℕ → List LinkSeen → Bool
client_at number links = picked_at client_kept false number links

-- how many clients there are
abbrev pub clients_in : List LinkSeen → ℕ
clients_in links = length (filter client_kept links)

-- whether what comes from there was submitted here
abbrev pub submitted_from : Source → List LinkSeen → Bool
submitted_from (source.Link number) links = client_at number links
submitted_from (source.Submit listener) links = true
submitted_from (source.Peer peer) links = false

-- whether its port has filters
abbrev pub filters_kept : LinkSeen → Bool
filters_kept link = has_filters link.opening

abbrev pub filters_at : ℕ → List LinkSeen → Bool
filters_at number links = picked_at filters_kept false number links

-- a login is a station's call
abbrev pub is_login : Option Session → Bool
is_login None = true
is_login (Some session) = is_station session.call

abbrev pub list_of : {X : Type 0} → Option X → List X
list_of None = []
list_of (Some x) = x ∷ []

-- the logins of the verified links, but of that number
abbrev pub other_login : ℕ → LinkSeen → List (List ℕ)
other_login number link = if is_another number link then verified_login link.session else []

abbrev pub others_at : ℕ → List LinkSeen → List (List ℕ)
others_at number links = flat_map (other_login number) links

-- the logins of the verified links
abbrev pub login_kept : LinkSeen → List (List ℕ)
login_kept link = verified_login link.session

abbrev pub logins_at : List LinkSeen → List (List ℕ)
logins_at links = flat_map login_kept links

-- those logins, as they are found where some that left are kept
abbrev pub login_here : LinkSeen → List (List ℕ)
login_here link = if is_here link then login_kept link else []

abbrev pub other_here : ℕ → LinkSeen → List (List ℕ)
other_here number link = if is_another number link then login_here link else []

-- the logins of the verified links, but of the one that a line came from
abbrev pub others_from : Source → List LinkSeen → List (List ℕ)
others_from (source.Link number) links = others_at number links
others_from (source.Submit listener) links = logins_at links
others_from (source.Peer peer) links = logins_at links
