-- What each thing that comes changes of a link.
use Rattle.std.specs.Prelude.{ℕ, ◌==◌, Bool, true, false, nat_lt, List, [], ◌∷◌, length, map, not, ◌&&◌, ◌||◌, is_some, Option, Some, None, if◌then◌else◌}
use Rattle.std.specs.Option.{option_or}
use Rattle.aprs_base.specs.PacketSeen.{PacketSeen}
use Rattle.aprs_base.specs.Held.{Held}
use Rattle.filter_lang.specs.Terms.{TermSeen}
use Rattle.filter_eval.specs.Passes.{fresh, passes_of}
use Rattle.filter_eval.specs.declared.seen.Seen.{Seen}
use Rattle.station_table.specs.Stations.{seen_in}
use Rattle.heard_routing.specs.Heard.{is_among}
use Rattle.aprs_history.specs.declared.verdicts.Session.{Session}
use Rattle.aprs_history.specs.Downs.{DownSeen}
use Rattle.aprs_history.specs.Stands.{LinkSeen, friends_kept, place_kept}
use Rattle.aprs_history.specs.Trace.{is_from}
use Rattle.aprs_history.specs.Links.{Opening, is_client_link}
use Rattle.aprs_history.specs.Messages.{is_to_login}
use Rattle.aprs_history.specs.Texts.{most_waiting, opening_wants, shows_duplicates}
use Rattle.aprs_base.specs.declared.packets.Source.{Source}
use Rattle.worker_match.specs.Walk.{friends_seen, mine_seen}
use Rattle.served_links.specs.declared.link.SourcePlace.{SourcePlace}
use Rattle.served_links.specs.Fed.{login_of, new_half}
use Rattle.served_links.specs.Pending.{with_line, without_bytes}
use Rattle.served_links.specs.Links.{has_that}

-- the link of that number as the step leaves it, and any other as it is
abbrev pub at_link : ℕ → (LinkSeen → LinkSeen) → LinkSeen → LinkSeen
at_link number step link = if has_that number link then step link else link

abbrev pub with_room : LinkSeen → LinkSeen
with_room link = record link { blocked = false }

abbrev pub when_gone : LinkSeen → LinkSeen
when_gone link = record link { gone = true }

abbrev pub with_taken : ℕ → ℕ → LinkSeen → LinkSeen
with_taken offered n link = record link { queue = without_bytes link.queue n; blocked = nat_lt n offered }

abbrev pub with_bytes : ℕ → Held → LinkSeen → LinkSeen
with_bytes moment held link = record link { last = moment; held = held }

-- whether one more line fits
abbrev pub has_room : LinkSeen → Bool
has_room link = not link.over && not (length link.queue.lines == most_waiting)

-- a line more to take, where it fits; from the first on that doesn't, none is added, and places don't count any more
unfoldable pub with_text : List ℕ → LinkSeen → LinkSeen
with_text line link =
    if link.over then link
    else if length link.queue.lines == most_waiting then record link { over = true; friends = []; mine = None }
    else record link { queue = with_line link.queue line }

-- it has logged in, and may have become a downlink
abbrev pub with_session : Session → Option DownSeen → Option Seen → List ℕ → LinkSeen → LinkSeen
with_session session down mine reply link = with_text reply (record link { session = Some session; down = option_or down link.down; mine = place_kept link.over mine })

abbrev pub with_filter : List TermSeen → List (Option Seen) → List ℕ → LinkSeen → LinkSeen
with_filter terms friends reply link = with_text reply (record link { filter = terms; friends = friends_kept link.over friends })

-- a station was seen: an overfull link takes no packet any more, so places don't count for it
abbrev pub with_seen : List ℕ → Option Seen → LinkSeen → LinkSeen
with_seen call None link = link
with_seen call (Some seen) link =
    if link.over then link
    else record link { friends = friends_seen call seen link.filter link.friends; mine = mine_seen call seen (login_of link.session) link.mine }

-- what an accepted packet says of where its source is
abbrev pub with_places : PacketSeen → LinkSeen → LinkSeen
with_places packet link = with_seen packet.parts.source (seen_in packet) link

-- positions that count no more are let go
abbrev pub at_moment : ℕ → LinkSeen → LinkSeen
at_moment now link = record link { friends = map (fresh now) link.friends; mine = fresh now link.mine }

-- whether the link's filter passes a packet
abbrev pub passes_packet : PacketSeen → SourcePlace → LinkSeen → Bool
passes_packet packet source link = passes_of link.filter packet link.friends link.mine source.place source.gate

-- whether the message rule asks for a packet, where these links heard its receiver and are owed it
abbrev pub is_asked_at : PacketSeen → List ℕ → List ℕ → LinkSeen → Bool
is_asked_at packet hearers owed link = is_to_login packet link.session || is_among link.link hearers || is_among link.link owed

-- whether a link is sent an accepted packet of another
abbrev pub wants_packet : PacketSeen → SourcePlace → List ℕ → List ℕ → LinkSeen → Bool
wants_packet packet source hearers owed link =
    not (is_from link.link packet.from)
    && opening_wants link.opening (is_some link.session) source.submitted (passes_packet packet source link || is_asked_at packet hearers owed link)

abbrev pub with_copy : PacketSeen → SourcePlace → List ℕ → List ℕ → LinkSeen → LinkSeen
with_copy packet source hearers owed link = if wants_packet packet source hearers owed link then with_text packet.line link else link

-- whether it puts the packet into its text
abbrev pub takes_packet : PacketSeen → SourcePlace → List ℕ → List ℕ → LinkSeen → Bool
takes_packet packet source hearers owed link = wants_packet packet source hearers owed link && has_room link

-- it is tested by what was known before it
abbrev pub with_packet : PacketSeen → SourcePlace → List ℕ → List ℕ → LinkSeen → LinkSeen
with_packet packet source hearers owed link = with_places packet (with_copy packet source hearers owed link)

-- whether a link is shown a duplicate that is refused there
abbrev pub is_shown_at : Source → LinkSeen → Bool
is_shown_at from link = not (is_from link.link from) && shows_duplicates link.opening link.session

abbrev pub with_shown : Source → List ℕ → LinkSeen → LinkSeen
with_shown from line link = if is_shown_at from link then with_text line link else link

-- whether it puts the duplicate into its text
abbrev pub takes_shown : Source → LinkSeen → Bool
takes_shown from link = is_shown_at from link && has_room link

-- a client is told the date
abbrev pub with_date : List ℕ → LinkSeen → LinkSeen
with_date line link = if is_client_link link.opening then with_text line link else link

-- a link that has just been opened
abbrev pub new_link_seen : ℕ → Opening → List ℕ → LinkSeen
new_link_seen number opening first = record (new_half number opening) { queue = record { lines = first ∷ []; offset = 0 } }
