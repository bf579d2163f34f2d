-- What the acts of a round do to a server, and to the bytes on their way.
use Rattle.std.specs.Prelude.{◌≡◌, ℕ, ◌==◌, true, List, [], ◌∷◌, ◌++◌, map, take, Option, Some, None, if◌then◌else◌}
use Rattle.aprs_base.specs.declared.events.Event.{Event}
use Rattle.aprs_base.specs.declared.events.Happening.TheVariants as did
use Rattle.aprs_history.specs.Acts.{Act, Dials, Offers, Closes, cast_act, dials, due}
use Rattle.aprs_history.specs.Dials.{CastSeen}
use Rattle.aprs_history.specs.History.{trace_of}
use Rattle.aprs_history.specs.Rounds.{with_events}
use Rattle.aprs_history.specs.Setting.{Setting}
use Rattle.aprs_history.specs.Texts.{untaken}
use Rattle.aprs_history.specs.Trace.{Trace, is_member}
use Rattle.server_core.specs.ActsSeen.{ActsSeen}
use Rattle.net_history.specs.Network.{ServerSeen, trace_at}
use Rattle.net_history.specs.Serving.{happening_of, with_dial, with_happening}
use Rattle.net_schedule.specs.Running.{ServerKept, WayKept, all_with_taken}
use Rattle.net_schedule.specs.Standing.{Keeps}

-- an act that closes no link, at the server that does it
abbrev pub acted : Act → ServerSeen → ServerSeen
acted (Dials uplink) s = with_dial uplink (with_happening (did.Dialled uplink) s)
acted act s = with_happening (happening_of act) s

abbrev pub all_acted : List Act → ServerSeen → ServerSeen
all_acted [] s = s
all_acted (act ∷ acts) s = all_acted acts (acted act s)

abbrev pub with_dialled : Option ℕ → List ℕ → List ℕ
with_dialled None dialled = dialled
with_dialled (Some uplink) dialled = dialled ++ uplink ∷ []

-- the lines that were cast to the first peer, which are those that were cast to each
abbrev pub with_casts : List CastSeen → List (List ℕ) → List (List ℕ)
with_casts [] lines = lines
with_casts (cast ∷ casts) lines = with_casts casts (if cast.peer == 0 then lines ++ cast.line ∷ [] else lines)

-- so many of its links have still to be offered what was left to them at the round's end
abbrev pub LeftSame : Trace → List ℕ → ServerSeen → Type 0
LeftSame round offers s = (link : ℕ) → is_member link offers ≡ true → untaken s.setting (trace_at s) link ≡ untaken s.setting round link

abbrev pub next_bytes : Setting → Trace → ℕ → List ℕ
next_bytes setting round link = take 65536 (untaken setting round link)

-- a link is offered its next bytes at once
abbrev pub offer_to : Setting → Trace → ℕ → Act
offer_to setting round link = Offers link (next_bytes setting round link)

-- the bytes that these links take are on their way
abbrev pub ways_sent : ℕ → Setting → Trace → List ℕ → List (Option WayKept) → List (Option WayKept)
ways_sent server setting round [] ways = ways
ways_sent server setting round (link ∷ links) ways = ways_sent server setting round links (all_with_taken server link (next_bytes setting round link) ways)

-- some of the offers are made, and these are left
pub record Sends (number : ℕ) (rest : List Event) (round : Trace) (offers left : List ℕ) (s : ServerSeen) (kept : ServerKept) (before after : List (Option WayKept)) : Type 0 where
  pub now : ServerSeen
  pub keeps : Keeps rest kept now
  pub same : LeftSame round left now
  pub setting : now.setting ≡ s.setting
  pub acts : all_acted (map (offer_to s.setting round) left) now ≡ all_acted (map (offer_to s.setting round) offers) s
  pub ways : ways_sent number s.setting round left after ≡ ways_sent number s.setting round offers before

abbrev pub with_round_events : List Event → ServerSeen → ServerSeen
with_round_events events s = record s { history = with_events events s.history }

-- the acts before the closes
abbrev pub first_acts : Setting → Trace → ActsSeen → List Act
first_acts setting round acts = dials acts.dial ++ (map cast_act acts.casts ++ map (offer_to setting round) acts.offers)

-- a whole round has come to a server, and it has done all that is due but the closes
pub record Drives (number : ℕ) (events rest : List Event) (s : ServerSeen) (acts : ActsSeen) (kept : ServerKept) (before after : List (Option WayKept)) : Type 0 where
  pub due : due s.setting (with_events events s.history) ≡ first_acts s.setting (trace_of s.setting (with_events events s.history)) acts ++ map Closes acts.closes
  pub keeps : Keeps rest kept (all_acted (first_acts s.setting (trace_of s.setting (with_events events s.history)) acts) (with_round_events events s))
  pub ways : after ≡ ways_sent number s.setting (trace_of s.setting (with_events events s.history)) acts.offers before
