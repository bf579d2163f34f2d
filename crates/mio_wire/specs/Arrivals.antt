-- What arrives, and is not yet handed up.
use Rattle.std.specs.Prelude.{◌≡◌, ℕ, ⊤, List, Option, Some, None, Result, Ok, Err, IsTrue}
use Rattle.aprs_base.specs.Outside.{CountsLink, WireShown, new_link, one_more}
use Rattle.aprs_base.specs.declared.events.Event.{Event}
use Rattle.aprs_base.specs.declared.events.Sent.{Sent}
use Rattle.aprs_base.specs.declared.events.Sent.TheVariants as sent
use Rattle.aprs_base.specs.declared.events.WireError.{WireError}
use Rattle.aprs_base.specs.declared.events.WireError.TheVariants as wire_error
use Rattle.mio_wire.specs.Coming.{is_arrival}
use Rattle.mio_wire.specs.Linked.{dropped, numbers_after}

-- the links' numbers and their count after a step: they change by what arrived alone
unfoldable pub Steps : (before now : List ℕ) (made made' : ℕ) → Option Event → Type 0
Steps before now made made' None = (now ≡ before) × (made' ≡ made)
Steps before now made made' (Some e) = (now ≡ numbers_after e before) × CountsLink (new_link e) made made'

unfoldable pub IsArrival : Option Event → Type 0
IsArrival None = ⊤
IsArrival (Some e) = IsTrue (is_arrival e)

-- the links' numbers after an offer: one that is gone is let go
abbrev pub after_sent : {E : Type 0} → Result Sent E → ℕ → List ℕ → List ℕ
after_sent (Ok (sent.Took count)) link ns = ns
after_sent (Ok sent.Gone) link ns = dropped link ns
after_sent (Err e) link ns = ns

-- a call that failed counts once, and one that had no memory doesn't count
abbrev pub failed_with : WireError → ℕ → ℕ
failed_with wire_error.Memory failed = failed
failed_with wire_error.Failed failed = one_more failed

-- the counts alone: nothing else is told
abbrev pub counts : (failed_listens failed_nexts gones links : ℕ) → WireShown
counts failed_listens failed_nexts gones links = record { told = None; failed_listens = failed_listens; failed_nexts = failed_nexts; gones = gones; links = links }
