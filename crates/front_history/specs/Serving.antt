-- How the serving of a wire goes on behind its fronts.
use Rattle.std.specs.Prelude.{◌≡◌, ℕ, Option, Some, None}
use Rattle.aprs_base.specs.Outside.{Told}
use Rattle.aprs_history.specs.Setting.{Setting}
use Rattle.aprs_history.specs.History.{History}
use Rattle.aprs_history.specs.Acts.{IsRun}
use Rattle.aprs_history.specs.Runs.{told_after}
use Rattle.http_submit.specs.Fronts.{FrontSeen, fresh_front}
use Rattle.status_page.specs.PageFronts.{PageSeen, fresh_page}
use Rattle.front_history.specs.Answers.{Answers, FrontState, front_state, wired_for}

-- what a wire tells grew by what happened, and what the server saw of it is a run of which something holds; so the fronts stand now
abbrev pub Serves : Setting → Option Told → Option Told → FrontState → (History → Type 0) → Type 0
Serves s None now state P = now ≡ None
Serves s (Some old) now state P =
    (more : History) × (seen : History) × (now ≡ Some (told_after (wired_for state s) s old more seen)) × Answers s more state seen × IsRun s seen × P seen

-- the numbers of the listeners whose links are those of a front
pub record Ports : Type 0 where
  -- those who ask for the status page
  pub page : Option ℕ
  -- those who submit packets
  pub upload : Option ℕ

abbrev pub ports_of : FrontState → Ports
ports_of state = record { page = state.page.at; upload = state.front.at }

-- a wire is served as `Serves` says, however fronts at these ports stand now
abbrev pub ServesAt : Setting → Ports → Option Told → Option Told → (History → Type 0) → Type 0
ServesAt s ports start now P = (state : FrontState) × (ports_of state ≡ ports) × Serves s start now state P

-- wherever one thing holds of what the server saw before, another holds of it after
abbrev pub GoesOn : Setting → Option Told → FrontState → Option Told → FrontState → (P Q : History → Type 0) → Type 0
GoesOn s old before new after P Q = (start : Option Told) → Serves s start old before P → Serves s start new after Q

-- wherever one thing holds of what the server saw before, another holds of it after, and the fronts stay as they stand
abbrev pub ActsOn : Setting → Option Told → Option Told → (P Q : History → Type 0) → Type 0
ActsOn s old new P Q = (state : FrontState) → GoesOn s old state new state P Q

-- wherever one thing holds of what the server saw before, another holds of it after, and the front for the page counts what was sent
abbrev pub SendsOn : Setting → Option Told → PageSeen → Option Told → PageSeen → (P Q : History → Type 0) → Type 0
SendsOn s old before new after P Q = (front : FrontSeen) → GoesOn s old (front_state before front) new (front_state after front) P Q

-- wherever one thing holds of what the server saw before, another holds of it after, however the fronts stand then
abbrev pub EndsOn : Setting → Option Told → FrontState → Option Told → (P Q : History → Type 0) → Type 0
EndsOn s old before new P Q = (start : Option Told) → Serves s start old before P → ServesAt s (ports_of before) start new Q

-- where the fronts are as they were made, what the server saw since is a run of which something holds
abbrev pub Opens : Setting → PageSeen → FrontSeen → Option Told → Option Told → (History → Type 0) → Type 0
Opens s page front old new P = page ≡ fresh_page page.at s.server → front ≡ fresh_front front.at → Serves s old new (front_state page front) P
