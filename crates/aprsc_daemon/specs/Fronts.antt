-- The fronts of the server, as the serving of a wire speaks of them.
use Rattle.std.specs.Prelude.{◌≡◌, ℕ, List}
use Rattle.http_submit.specs.Fronts.{fresh_front}
use Rattle.status_page.specs.PageFronts.{fresh_page}
use Rattle.front_history.specs.Answers.{FrontState, front_state}
use Rattle.front_history.specs.Serving.{Ports}
use Rattle.aprsc_daemon.specs.declared.fronts.Fronts.{Fronts}

-- how they stand
abbrev pub state_of : Fronts → FrontState
state_of fronts = front_state fronts.page fronts.http

-- they are as they were made, for these ports of the server of that name
abbrev pub AreNew : Ports → List ℕ → Fronts → Type 0
AreNew ports server fronts = (fronts.page ≡ fresh_page ports.page server) × (fronts.http ≡ fresh_front ports.upload)
