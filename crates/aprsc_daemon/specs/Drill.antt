-- A drill: the run that the events of its plan make, over a wire that takes every offer whole, and what it counts.
use Rattle.std.specs.Prelude.{◌≡◌, ℕ, List, [], ◌∷◌, ◌++◌, length, reverse, codes, true, ⊤}
use Rattle.aprs_base.specs.Outside.{are_numbered}
use Rattle.aprs_base.specs.WireScript.{WireScript}
use Rattle.aprs_base.specs.declared.events.Event.{Event}
use Rattle.aprs_base.specs.declared.events.Happening.TheVariants as did
use Rattle.aprs_base.specs.declared.events.Sent.TheVariants as sent
use Rattle.aprs_base.specs.declared.packets.ListenSpec.{ListenSpec}
use Rattle.aprs_base.specs.declared.packets.PortKind.{PortKind}
use Rattle.aprs_base.specs.declared.packets.PortKind.TheVariants as kind
use Rattle.aprs_history.specs.Acts.{IsRun}
use Rattle.aprs_history.specs.Counts.{taken_in, totals_of}
use Rattle.aprs_history.specs.History.{History, trace_of}
use Rattle.aprs_history.specs.Setting.{Setting}
use Rattle.drill_plan.specs.Drill.{drill_events}
use Rattle.drill_plan.specs.declared.plan.Plan.{Plan}
use Rattle.aprsc_daemon.specs.Phases.{Finished, events_in}
use Rattle.aprsc_daemon.specs.Saying.{summary_text}
use Rattle.aprsc_daemon.specs.declared.drill.Counts.{Counts}

-- the setting of every drill: a full feed and a port for gateways, and no other server
abbrev pub port : PortKind → ℕ → ListenSpec
port kind number = record { kind = kind; at = record { ip = 0 ∷ 0 ∷ 0 ∷ 0 ∷ []; port = number } }

abbrev pub drill_setting : Setting
drill_setting = record {
  server = codes "DRILL";
  code = 13052;
  listens = port kind.Full 1 ∷ port kind.Igate 2 ∷ [];
  downs = [];
  uplinks = [];
  peers = [];
  up_timeout = 15;
  client_timeout = 172800;
  max_clients = 1000;
  window = 30;
}

-- every offer was taken whole
abbrev pub TakesAll : History → Type 0
TakesAll [] = ⊤
TakesAll (did.Sent link bytes outcome ∷ earlier) = TakesAll earlier × (outcome ≡ sent.Took (length bytes))
TakesAll (x ∷ earlier) = TakesAll earlier

-- a finished run of the plan's events, in order
pub record IsDrill (plan : Plan) (history : History) : Type 0 where
  pub run : IsRun drill_setting history
  pub events : events_in (reverse history) ≡ drill_events plan
  pub whole : TakesAll history
  pub finished : Finished drill_setting history

-- these are the counts of a drill
pub record HasCounts (plan : Plan) (counts : Counts) : Type 0 where
  pub history : History
  pub drill : IsDrill plan history
  pub totals : counts.totals ≡ totals_of drill_setting (trace_of drill_setting history)
  pub taken : counts.taken ≡ taken_in history

-- the text is the summary of a drill
pub record IsSummary (plan : Plan) (text : List ℕ) : Type 0 where
  pub history : History
  pub drill : IsDrill plan history
  pub line : text ≡ summary_text plan (totals_of drill_setting (trace_of drill_setting history)) (taken_in history)

-- ---- the wire

-- the first events of the plan came, and the rest is still to come; every offer was taken whole, and these are the bytes taken
pub record IsDriven (plan : Plan) (coming : List Event) (wire : WireScript) (taken : ℕ) : Type 0 where
  pub events : events_in wire.told.done ++ coming ≡ drill_events plan
  pub numbered : are_numbered wire.links coming ≡ true
  pub none : wire.left ≡ []
  pub takes : wire.takes ≡ []
  pub whole : TakesAll (reverse wire.told.done)
  pub bytes : taken ≡ taken_in (reverse wire.told.done)

-- a drill's wire as contracts see it
pub record DrillWireSeen : Type 0 where
  pub plan : Plan
  pub events : List Event
  pub wire : WireScript
  pub taken : ℕ
