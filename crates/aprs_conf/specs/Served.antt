-- The listeners of a configuration, those for requests by HTTP among them, and the configuration that is served.
use Rattle.std.specs.Prelude.{ℕ, ◌+◌, false, if◌then◌else◌, List, [], ◌∷◌, ◌++◌, length, codes, Option, Some, None, option_map}
use Rattle.aprs_base.specs.declared.packets.ListenSpec.{ListenSpec}
use Rattle.aprs_base.specs.declared.packets.PortKind.TheVariants as kind
use Rattle.aprs_base.specs.declared.texts.Addr.{Addr}
use Rattle.aprs_conf.specs.declared.types.Listen.{Listen}
use Rattle.aprs_conf.specs.Seen.{ConfSeen}

-- the listeners that have a number, in order: those that aren't idle
abbrev pub numbered : List Listen → List ListenSpec
numbered [] = []
numbered (listen ∷ listens) = if listen.idle then numbered listens else listen.spec ∷ numbered listens

-- requests by HTTP come there. Its kind is that of submissions, so it has no clients
abbrev pub front_listen : List ℕ → Addr → Listen
front_listen name at = record { name = name; spec = record { kind = kind.Submit; at = at }; idle = false }

-- the listener of this name, where it has an address
abbrev pub front_listens : List ℕ → Option Addr → List Listen
front_listens name None = []
front_listens name (Some at) = front_listen name at ∷ []

-- that for submissions by HTTP
abbrev pub http_listens : Option Addr → List Listen
http_listens upload = front_listens (codes "http") upload

-- that of the status page
abbrev pub status_listens : Option Addr → List Listen
status_listens page = front_listens (codes "status") page

-- the listeners of the lines, and behind them these two
abbrev pub all_listens : List Listen → Option Addr → Option Addr → List Listen
all_listens listens upload page = listens ++ (http_listens upload ++ status_listens page)

-- the configuration that is served: its listeners are all of them
abbrev pub served_conf : ConfSeen → ConfSeen
served_conf conf = record conf { listens = all_listens conf.listens conf.upload conf.page; upload = None; page = None }

-- the number of the listener for submissions by HTTP, where there is one: so many have a number before it
abbrev pub upload_number : ConfSeen → Option ℕ
upload_number conf = option_map (λ _. length (numbered conf.listens)) conf.upload

-- that of the status page, where there is one: that for submissions has a number before it, too
abbrev pub page_number : ConfSeen → Option ℕ
page_number conf = option_map (λ _. length (numbered conf.listens) + length (http_listens conf.upload)) conf.page
