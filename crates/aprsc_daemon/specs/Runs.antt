-- What a run leaves on its wire, by the configuration that it serves.
use Rattle.std.specs.Prelude.{Option}
use Rattle.aprs_base.specs.Outside.{Told}
use Rattle.aprs_conf.specs.Seen.{ConfSeen}
use Rattle.aprs_conf.specs.Served.{page_number, served_conf, upload_number}
use Rattle.aprs_history.specs.Setting.{Setting}
use Rattle.aprs_history.specs.History.{History}
use Rattle.front_history.specs.Serving.{Ports, ServesAt}
use Rattle.server_core.specs.Meaning.{setting_of}

-- the setting of the configuration that is served: the listeners of its fronts are among its listeners
abbrev pub setting_named : ConfSeen → Setting
setting_named conf = setting_of (served_conf conf)

-- the numbers of the listeners of its fronts
abbrev pub ports_named : ConfSeen → Ports
ports_named conf = record { page = page_number conf; upload = upload_number conf }

-- what a wire tells grew by what happened, and what the server saw of it is a run for the configuration, of which something
-- holds: that is all but the replies to those who come by HTTP, with each whole request for a submission as a datagram, and with
-- each line that was cast to a downlink as one that this took. Those replies were sent, too, and a page in them tells each number
-- as it stood by then.
abbrev pub RunsFor : ConfSeen → Option Told → Option Told → (History → Type 0) → Type 0
RunsFor conf old new P = ServesAt (setting_named conf) (ports_named conf) old new P
