-- The acts that are due, and the histories that are runs: each happening is the first act due, or an event where none is.
use Rattle.std.specs.Prelude.{◌≡◌, ℕ, ◌+◌, ◌&&◌, ◌||◌, Bool, false, is_some, not, nat_lt, List, [], ◌∷◌, ◌++◌, length, take, map, filter, Option, Some, None, if◌then◌else◌, ⊤}
use Rattle.std.specs.List.{flat_map}
use Rattle.aprs_base.specs.Outside.{IsOutcome}
use Rattle.aprs_base.specs.declared.events.Sent.TheVariants as sent
use Rattle.aprs_base.specs.declared.events.Happening.{Happening}
use Rattle.aprs_base.specs.declared.events.Happening.TheVariants as did
use Rattle.aprs_base.specs.declared.packets.ListenSpec.{ListenSpec}
use Rattle.aprs_history.specs.Setting.{Setting}
use Rattle.aprs_history.specs.Trace.{Trace, closed_links, served_links}
use Rattle.aprs_history.specs.Links.{is_blocked, taken_by}
use Rattle.link_queue.specs.Lines.{ended_line, text_bytes}
use Rattle.aprs_history.specs.Dials.{CastSeen, casts_of, dial_of}
use Rattle.aprs_history.specs.Downs.{DownSeen, down_of, whole_lines}
use Rattle.aprs_history.specs.Texts.{lines_of, untaken}
use Rattle.aprs_history.specs.History.{History, open_events, ends_round, is_stopped, trace_of}

pub data Act : Type 0 where
  Listens : (n : ℕ) → Act
  Dials : (uplink : ℕ) → Act
  Casts : (peer : ℕ) → (bytes : List ℕ) → Act
  Offers : (link : ℕ) → (bytes : List ℕ) → Act
  -- a line goes to a downlink
  SendsLine : (link : ℕ) → (line : List ℕ) → Act
  Closes : (link : ℕ) → Act

-- the numbered listeners, in order
abbrev pub listens_from : ℕ → List ListenSpec → List Act
listens_from n [] = []
listens_from n (spec ∷ specs) = Listens n ∷ listens_from (n + 1) specs

-- a link that isn't blocked and has text that it hasn't taken; a downlink is never blocked
abbrev pub is_offered : Setting → Trace → ℕ → Bool
is_offered setting trace link = (is_some (down_of setting trace link) || not (is_blocked trace link)) && nat_lt (taken_by trace link) (length (text_bytes (lines_of setting trace link)))

abbrev pub offered_links : Setting → Trace → List ℕ
offered_links setting trace = filter (is_offered setting trace) (served_links trace)

-- bytes are offered at once, or to a downlink line by line
abbrev pub offers_by : Option DownSeen → ℕ → List ℕ → List Act
offers_by None link bytes = Offers link bytes ∷ []
offers_by (Some down) link bytes = map (SendsLine link) (whole_lines bytes)

-- its next bytes, up to 65,536
abbrev pub offers_to : Setting → Trace → ℕ → List Act
offers_to setting trace link = offers_by (down_of setting trace link) link (take 65536 (untaken setting trace link))

-- those of several links
abbrev pub all_offers : Setting → Trace → List ℕ → List Act
all_offers setting trace links = flat_map (offers_to setting trace) links

abbrev pub dials : Option ℕ → List Act
dials None = []
dials (Some uplink) = Dials uplink ∷ []

-- a line with its end, in one datagram
abbrev pub cast_act : CastSeen → Act
cast_act cast = Casts cast.peer (ended_line cast.line)

-- after a round: the dial, the casts, what is offered to each such link, and then a close of each that the server ended, in order
abbrev pub acts_after : Setting → Trace → List Act
acts_after setting trace =
    dials (dial_of setting trace) ++ (map cast_act (casts_of setting trace) ++ (all_offers setting trace (offered_links setting trace) ++ map Closes (closed_links trace)))

abbrev pub but_first : List Act → List Act
but_first [] = []
but_first (act ∷ acts) = acts

-- the acts that are due
unfoldable pub due : Setting → History → List Act
due setting [] = listens_from 0 setting.listens
due setting (did.Event e ∷ earlier) =
    if ends_round (open_events earlier) e then acts_after setting (trace_of setting (did.Event e ∷ earlier)) else []
due setting (happening ∷ earlier) = but_first (due setting earlier)

-- a happening is what an act asks for
abbrev pub Fulfils : Act → Happening → Type 0
Fulfils (Listens n) (did.Listen m) = m ≡ n
Fulfils (Dials uplink) (did.Dialled dialled) = dialled ≡ uplink
Fulfils (Casts peer bytes) (did.Cast to given) = (to ≡ peer) × (given ≡ bytes)
Fulfils (Offers link bytes) (did.Sent to given outcome) = (to ≡ link) × (given ≡ bytes) × IsOutcome given outcome
Fulfils (SendsLine link line) (did.Sent to given outcome) = (to ≡ link) × (given ≡ line) × (outcome ≡ sent.Took (length line))
Fulfils (Closes link) (did.Closed closed) = closed ≡ link
Fulfils act x = ⊥

abbrev pub IsEvent : Happening → Type 0
IsEvent (did.Event e) = ⊤
IsEvent x = ⊥

-- a happening may come next: it is what the first act due asks for, or none is due, Stop hasn't come, and it is an event
abbrev pub MayCome : List Act → Bool → Happening → Type 0
MayCome [] stopped x = (stopped ≡ false) × IsEvent x
MayCome (act ∷ acts) stopped x = Fulfils act x

-- a run of the server
abbrev pub IsRun : Setting → History → Type 0
IsRun setting [] = ⊤
IsRun setting (x ∷ earlier) = IsRun setting earlier × MayCome (due setting earlier) (is_stopped earlier) x
