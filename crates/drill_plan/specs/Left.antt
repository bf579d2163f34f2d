-- What is left of a drill, some of whose events came.
use Rattle.std.specs.Prelude.{ℕ, zero, suc, ◌+◌, ◌-◌, ◌%◌, ◌==◌, ◌||◌, List, [], ◌∷◌, ◌++◌, map, Bool, true, false, Option, Some, None, if◌then◌else◌}
use Rattle.std.specs.Int.{div_ceil}
use Rattle.std.specs.List.{range_with_len}
use Rattle.aprs_base.specs.declared.events.Event.{Event}
use Rattle.aprs_base.specs.declared.events.Event.TheVariants as event
use Rattle.drill_plan.specs.Drill.{line_of, login_of, next_state, opening_of}
use Rattle.drill_plan.specs.declared.plan.Events.TheInside.{Inside}

-- the tick that is due
abbrev pub tick_due : Option ℕ → List Event
tick_due None = []
tick_due (Some moment) = event.Tick moment ∷ []

-- the moment of the tick that comes after so many lines, where one does: after each hundred, and where no more are left
abbrev pub tick_after : ℕ → ℕ → Option ℕ
tick_after sent left = if (left == 0) || (sent % 100 == 0) then Some (1000000 + div_ceil sent 100) else None

-- the lines after the first, each made from the state after the last, and their ticks
abbrev pub lines_left : ℕ → ℕ → ℕ → List Event
lines_left sent zero x = []
lines_left sent (suc left) x = line_of (next_state x) ∷ (tick_due (tick_after (sent + 1) left) ++ lines_left (sent + 1) left (next_state x))

-- an event for each link after the first, of so many
abbrev pub links_left : (ℕ → Event) → ℕ → ℕ → List Event
links_left event_of done links = map event_of (range_with_len (done + 1) (links - done))

abbrev pub stop_left : Bool → List Event
stop_left true = []
stop_left false = event.Stop ∷ []

abbrev pub events_left : Inside → List Event
events_left e =
    tick_due e.tick
    ++ (links_left opening_of e.opened e.plan.links
    ++ (links_left login_of e.logged_in e.plan.links ++ (lines_left e.sent (e.plan.lines - e.sent) e.state ++ stop_left e.stopped)))
