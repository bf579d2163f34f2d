-- The front for the status page: its port, the moment, what it counted, and its pool; what an event that is handed up makes of it.
use Rattle.std.specs.Prelude.{◌≡◌, ℕ, ◌==◌, nat_le, min, max, if◌then◌else◌, List, [], ◌∷◌, length, Option, Some, None}
use Rattle.std.specs.List.{find}
use Rattle.aprs_base.specs.declared.events.Event.{Event}
use Rattle.aprs_base.specs.declared.events.Event.TheVariants as event
use Rattle.aprs_base.specs.declared.events.Happening.{Happening}
use Rattle.aprs_base.specs.declared.events.Happening.TheVariants as did
use Rattle.aprs_base.specs.declared.totals.Totals.{Totals}
use Rattle.http_submit.specs.Fronts.{last_moment}
use Rattle.http_submit.specs.Owing.{reply_of}
use Rattle.http_submit.specs.Pools.{PoolSeen, WaitingSeen, added, heard, is_link, most_bytes, opened, settled, ticked, without}
use Rattle.status_page.specs.Counting.{counts_after, no_counts}
use Rattle.status_page.specs.Gets.{IsGet}
use Rattle.status_page.specs.Page.{page_reply, page_text}
use Rattle.status_page.specs.declared.counts.Counts.{Counts}
use Rattle.status_page.specs.declared.requests.Get.{Get}
use Rattle.status_page.specs.declared.requests.Get.TheVariants.{Whole, More, Refused}

pub record PageSeen : Type 0 where
  -- the number of the listener whose links ask for the page
  pub at : Option ℕ
  pub server : List ℕ
  pub moment : ℕ
  -- the totals that were published last
  pub totals : Totals
  pub counts : Counts
  pub pool : PoolSeen

abbrev pub no_totals : Totals
no_totals = record { accepted = 0; duplicate = 0; refused = 0; queued = 0 }

-- a front as it is made
abbrev pub fresh_page : Option ℕ → List ℕ → PageSeen
fresh_page at server = record { at = at; server = server; moment = 0; totals = no_totals; counts = no_counts; pool = record { waiting = []; owed = [] } }

-- nothing is owed any more
abbrev pub paid_page : PageSeen → PageSeen
paid_page page = record page { pool = record page.pool { owed = [] } }

-- this happened, too, and is counted
abbrev pub counting : Happening → PageSeen → PageSeen
counting x page = record page { counts = counts_after page.counts (x ∷ []) }

-- the reply that is owed with a status: the page as it stands for 200
abbrev pub reply_by : PageSeen → ℕ → List ℕ
reply_by page status = if status == 200 then page_reply (page_text page.counts page.server page.moment page.totals) else reply_of status

-- the moment after an event: that of the latest tick
abbrev pub moment_after : Event → ℕ → ℕ
moment_after (event.Tick tick) moment = max (min tick last_moment) moment
moment_after e moment = moment

-- what the bytes of a link so far come to
abbrev pub judged : ℕ → (bytes so_far : List ℕ) → Get → PoolSeen → PoolSeen
judged link bytes so_far Whole pool = settled link 200 pool
judged link bytes so_far (Refused status) pool = settled link status pool
judged link bytes so_far More pool = if nat_le most_bytes (length so_far) then settled link 413 pool else added link bytes pool

-- bytes come on a link that waits, or on another one, which is no business of the front
abbrev pub Hears : ℕ → List ℕ → Option WaitingSeen → PoolSeen → PoolSeen → Type 0
Hears link bytes None before after = after ≡ before
Hears link bytes (Some waiting) before after = (get : Get) × IsGet (heard waiting bytes) get × (after ≡ judged link bytes (heard waiting bytes) get before)

-- what an event makes of the pool of a front with that port, at that moment
abbrev pub PoolTurnsAt : (v moment : ℕ) → PoolSeen → Event → PoolSeen → Type 0
PoolTurnsAt v moment before (event.Tick tick) after = after ≡ ticked moment before
PoolTurnsAt v moment before (event.Opened listener link from) after = after ≡ (if listener == v then opened link from moment before else before)
PoolTurnsAt v moment before (event.Bytes link bytes) after = Hears link bytes (find (is_link link) before.waiting) before after
PoolTurnsAt v moment before (event.Ended link) after = after ≡ without link before
PoolTurnsAt v moment before e after = after ≡ before

-- a front without a port only counts
abbrev pub PoolTurns : Option ℕ → ℕ → PoolSeen → Event → PoolSeen → Type 0
PoolTurns None moment before e after = after ≡ before
PoolTurns (Some v) moment before e after = PoolTurnsAt v moment before e after

-- what an event that is handed up makes of a front: it is counted, and the pool turns
pub record PageTurns (before : PageSeen) (e : Event) (after : PageSeen) : Type 0 where
  pub kept : after ≡ record (counting (did.Event e) before) { moment = moment_after e before.moment; pool = after.pool }
  pub pool : PoolTurns before.at after.moment before.pool e after.pool
