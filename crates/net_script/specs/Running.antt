-- What a script comes to: its steps one after another, and what it answers.
use Rattle.std.specs.Prelude.{ℕ, ◌==◌, ◌&&◌, if◌then◌else◌, List, [], ◌∷◌, ◌++◌, codes, fold, Option, Some, None, slice_get}
use Rattle.std.specs.Fmt.{decimal}
use Rattle.aprs_conf.specs.Arguments.{same}
use Rattle.net_history.specs.declared.events.NetEvent.{NetEvent}
use Rattle.net_history.specs.declared.events.NetEvent.TheVariants as net
use Rattle.net_history.specs.Network.{Layout, NetSeen, ServerSeen}
use Rattle.net_history.specs.Report.{report_of}
use Rattle.net_history.specs.Steps.{is_there, network_of, next_link}
use Rattle.net_script.specs.declared.types.ScriptStep.{ScriptStep}
use Rattle.net_script.specs.declared.types.ScriptStep.TheVariants as step
use Rattle.net_script.specs.declared.types.StepLine.{StepLine}
use Rattle.net_script.specs.Layouts.{layout_of}
use Rattle.net_script.specs.Seen.{ScriptSeen}

-- a link of a server that a client opened
pub record Opening : Type 0 where
  pub server : ℕ
  pub call : List ℕ
  pub link : ℕ

-- how far a script has come: the steps that were there and the links that were opened, each the last one first, and the answers
pub record Progress : Type 0 where
  pub steps : List NetEvent
  pub openings : List Opening
  pub answers : List ℕ

-- the last link that a client of that call opened, or 0, which is no link
abbrev pub last_link : ℕ → List ℕ → List Opening → ℕ
last_link server call [] = 0
last_link server call (opening ∷ openings) = if opening.server == server && same opening.call call then opening.link else last_link server call openings

-- a step of a script as one of its network
abbrev pub event_of : List Opening → ScriptStep → NetEvent
event_of openings (step.Open server call) = net.Open server 0 call
event_of openings (step.Say server call line) = net.Say server (last_link server call openings) line
event_of openings (step.Round server moment) = net.Round server moment
event_of openings (step.Join pair) = net.Join pair
event_of openings (step.Cut pair) = net.Cut pair
event_of openings (step.Carry pair up n) = net.Carry pair up n
event_of openings (step.Cast from to k) = net.Cast from to k

-- the number of the link that a server will make next
abbrev pub link_to_come : Option ServerSeen → ℕ
link_to_come None = 0
link_to_come (Some server) = next_link server

-- the openings with that of this step, over the network before it
abbrev pub with_opening : NetSeen → ScriptStep → List Opening → List Opening
with_opening network (step.Open server call) openings = record { server = server; call = call; link = link_to_come (slice_get network.servers server) } ∷ openings
with_opening network other openings = openings

abbrev pub not_there : ℕ → List ℕ
not_there number = codes "line " ++ (decimal number ++ codes ": not there\n")

-- a step that isn't there is answered, and changes nothing
abbrev pub with_line : Layout → Progress → StepLine → Progress
with_line layout before line =
    let network = network_of layout before.steps in
    let event = event_of before.openings line.step in
    if is_there layout network event
    then record before { steps = event ∷ before.steps; openings = with_opening network line.step before.openings }
    else record before { answers = before.answers ++ not_there line.number }

abbrev pub beginning : Progress
beginning = record { steps = []; openings = []; answers = [] }

-- how far a script has come after these lines
unfoldable pub progress_of : Layout → List StepLine → Progress
progress_of layout lines = fold (with_line layout) beginning lines

-- the answers, and then the report
unfoldable pub script_text : ScriptSeen → List ℕ
script_text script =
    let layout = layout_of script in
    let progress = progress_of layout script.steps in
    progress.answers ++ report_of (network_of layout progress.steps)
