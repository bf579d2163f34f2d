-- The trace of a history: what happened to each link, with the verdict on each line, the newest first.
use Rattle.std.specs.Prelude.{ℕ, ◌==◌, ◌<◌, ◌≤◌, Bool, true, false, not, nat_le, List, [], ◌∷◌, ◌++◌, filter, max, min, if◌then◌else◌}
use Rattle.std.specs.List.{list_any}
use Rattle.aprs_base.specs.declared.texts.Addr.{Addr}
use Rattle.aprs_base.specs.declared.cutting.Cut.{Cut}
use Rattle.aprs_base.specs.declared.packets.Source.{Source}
use Rattle.aprs_base.specs.declared.packets.Source.TheVariants as source
use Rattle.aprs_history.specs.declared.verdicts.Admission.{Admission}
use Rattle.aprs_history.specs.declared.verdicts.Admission.TheVariants.{NotAsked, Served, TurnedAway}
use Rattle.aprs_history.specs.declared.verdicts.EndReason.{EndReason}
use Rattle.aprs_history.specs.declared.verdicts.EndReason.TheVariants.{ByPeer, FoundGone, ByStop}
use Rattle.aprs_history.specs.declared.verdicts.Verdict.{Verdict}

-- where a link comes from: it was opened at a listener, or an uplink has joined
pub data Door : Type 0 where
  AtListener : (listener : ℕ) → Door
  ByUplink : (uplink : ℕ) → Door

pub data Entry : Type 0 where
  -- the entries of a round stand after this one
  RoundBegan : Entry
  Ticked : (moment : ℕ) → Entry
  Opened : (door : Door) → (admission : Admission) → (link : ℕ) → (from : Addr) → Entry
  Brought : (link : ℕ) → (bytes : List ℕ) → Entry
  Said : (from : Source) → (cut : Cut) → (verdict : Verdict) → Entry
  Roomed : (link : ℕ) → Entry
  Took : (link : ℕ) → (offered taken : ℕ) → Entry
  Lost : (link : ℕ) → Entry
  Ended : (link : ℕ) → (reason : EndReason) → Entry
  -- the clients that live are told the date of this moment
  Dated : (moment : ℕ) → Entry
  -- the time has come to look whether an uplink is to be dialled
  Looked : Entry
  -- a dial came to nothing
  Unjoined : (uplink : ℕ) → Entry

abbrev pub Trace : Type 0
Trace = List Entry

-- the greatest moment, in seconds: the last second of the year 9999
abbrev pub last_moment : ℕ
last_moment = 253402300799

-- the moment: the greatest so far
abbrev pub moment_of : Trace → ℕ
moment_of [] = 0
moment_of (Ticked moment ∷ earlier) = max (min moment last_moment) (moment_of earlier)
moment_of (entry ∷ earlier) = moment_of earlier

abbrev pub is_other : ℕ → ℕ → Bool
is_other link other = not (other == link)

-- whether a line is that link's
abbrev pub is_from : ℕ → Source → Bool
is_from link (source.Link number) = link == number
is_from link from = false

abbrev pub opened_link : Admission → ℕ → List ℕ
opened_link (Served kind) link = link ∷ []
opened_link admission link = []

-- the links that live, in the order of their opening, which is that of their numbers
abbrev pub live_links : Trace → List ℕ
live_links [] = []
live_links (Opened door admission link from ∷ earlier) = live_links earlier ++ opened_link admission link
live_links (Ended link reason ∷ earlier) = filter (is_other link) (live_links earlier)
live_links (entry ∷ earlier) = live_links earlier

abbrev pub is_member : ℕ → List ℕ → Bool
is_member number numbers = list_any (λ n. n == number) numbers

abbrev pub is_live : Trace → ℕ → Bool
is_live trace link = is_member link (live_links trace)

abbrev pub stopped_link : EndReason → ℕ → List ℕ
stopped_link ByStop link = link ∷ []
stopped_link reason link = []

-- the links that a stop ended, in order
abbrev pub stopped_links : Trace → List ℕ
stopped_links [] = []
stopped_links (Ended link reason ∷ earlier) = stopped_links earlier ++ stopped_link reason link
stopped_links (entry ∷ earlier) = stopped_links earlier

-- the links that have a text to take: those that live, and those that a stop ended
abbrev pub served_links : Trace → List ℕ
served_links trace = stopped_links trace ++ live_links trace

-- the reasons for which the server closes a link
abbrev pub is_closing : EndReason → Bool
is_closing ByPeer = false
is_closing FoundGone = false
is_closing reason = true

-- numbers that rise, the first above low and the last not above high
abbrev pub Rises : ℕ → List ℕ → ℕ → Type 0
Rises low [] high = low ≤ high
Rises low (n ∷ ns) high = (low < n) × Rises n ns high

-- a number in its place among rising ones
abbrev pub placed : ℕ → List ℕ → List ℕ
placed n [] = n ∷ []
placed n (m ∷ ms) = if nat_le m n then m ∷ placed n ms else n ∷ m ∷ ms

abbrev pub placed_all : List ℕ → List ℕ → List ℕ
placed_all [] ms = ms
placed_all (n ∷ ns) ms = placed_all ns (placed n ms)

-- the links that ended in the last round by such a reason, rising
abbrev pub closed_links : Trace → List ℕ
closed_links [] = []
closed_links (RoundBegan ∷ earlier) = []
closed_links (Ended link reason ∷ earlier) = if is_closing reason then placed link (closed_links earlier) else closed_links earlier
closed_links (entry ∷ earlier) = closed_links earlier

abbrev pub turned_link : Admission → ℕ → List ℕ
turned_link TurnedAway link = link ∷ []
turned_link NotAsked link = link ∷ []
turned_link admission link = []

-- the links that were turned away in this round or that nobody had asked for, in order
abbrev pub turned_links : Trace → List ℕ
turned_links [] = []
turned_links (RoundBegan ∷ earlier) = []
turned_links (Opened door admission link from ∷ earlier) = turned_links earlier ++ turned_link admission link
turned_links (entry ∷ earlier) = turned_links earlier

abbrev pub is_stray : Admission → Bool
is_stray NotAsked = true
is_stray admission = false

-- nobody had asked for the link
abbrev pub is_unasked : Trace → ℕ → Bool
is_unasked [] link = false
is_unasked (Opened door admission opened from ∷ earlier) link = if link == opened then is_stray admission else is_unasked earlier link
is_unasked (entry ∷ earlier) link = is_unasked earlier link
