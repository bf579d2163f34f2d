-- What follows of a run of the program, for the server and for those who come by HTTP.
use Rattle.std.specs.Prelude.{◌≡◌, ℕ, Option, Some}
use Rattle.aprs_base.specs.Outside.{Told}
use Rattle.aprs_conf.specs.Seen.{ConfSeen}
use Rattle.aprs_history.specs.Setting.{Setting}
use Rattle.aprs_history.specs.History.{History}
use Rattle.aprs_history.specs.Acts.{IsRun}
use Rattle.aprs_history.specs.Runs.{told_after}
use Rattle.front_history.specs.Answers.{wired}
use Rattle.front_history.specs.Replies.{PagesArePaid, PostsArePaid}
use Rattle.front_history.specs.Serving.{Ports}
use Rattle.front_history.specs.Views.{HavePorts, IsView}
use Rattle.aprs_history.specs.Wired.{on_wire}
use Rattle.aprsc_daemon.specs.Causes.{Ended}
use Rattle.aprsc_daemon.specs.Runs.{RunsFor, ports_named, setting_named}

-- the setting as the wire sees it
abbrev pub wired_at : Ports → Setting → Setting
wired_at ports setting = wired ports.upload (wired ports.page setting)

-- what a wire tells grew by what happened, and the wire shows the server's run as the view of that: all but what links of the fronts'
-- ports are sent, with a datagram in the place of each whole submission. Each line that the server sends to a downlink is cast to its
-- address. Links of the fronts' ports are sent one reply each, and the page tells its counts.
pub record IsSeen (setting : Setting) (ports : Ports) (old : Told) (new : Option Told) : Type 0 where
  pub more : History
  pub seen : History
  pub told : new ≡ Some (told_after (wired_at ports setting) setting old more seen)
  pub view : IsView ports more (on_wire setting seen)
  pub run : IsRun setting seen
  pub posts : PostsArePaid ports more
  pub pages : PagesArePaid setting ports more

-- every run is seen so
abbrev pub RunsAreSeen : Type 0
RunsAreSeen = (conf : ConfSeen) (old : Told) (new : Option Told) (code : ℕ) → RunsFor conf (Some old) new (Ended code (setting_named conf))
    → IsSeen (setting_named conf) (ports_named conf) old new

-- the listeners of a configuration's fronts are ports for datagrams to its server, and two
abbrev pub FrontsHavePorts : Type 0
FrontsHavePorts = (conf : ConfSeen) → HavePorts (setting_named conf) (ports_named conf)
