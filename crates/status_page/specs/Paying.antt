-- What the front for the status page owes to links, and the happenings by which it pays.
use Rattle.std.specs.Prelude.{◌≡◌, ℕ, List, [], ◌∷◌, ◌++◌, Option}
use Rattle.aprs_base.specs.Outside.{IsOutcome, Told}
use Rattle.aprs_base.specs.declared.events.Event.{Event}
use Rattle.aprs_base.specs.declared.events.Sent.{Sent}
use Rattle.aprs_base.specs.declared.events.Happening.{Happening}
use Rattle.aprs_base.specs.declared.events.Happening.TheVariants as did
use Rattle.http_submit.specs.Fronts.{FrontSeen}
use Rattle.http_submit.specs.Owing.{GrewBy, TakesTurn, closed_after}
use Rattle.http_submit.specs.Owing as http
use Rattle.http_submit.specs.declared.pool.Owed.{Owed}
use Rattle.status_page.specs.PageFronts.{PageSeen, PageTurns, paid_page, reply_by}

-- a link gets this reply, once and whatever it takes of it, and is closed
pub record Replies (link : ℕ) (reply : List ℕ) (done : List Happening) : Type 0 where
  pub outcome : Sent
  pub part : IsOutcome reply outcome
  pub is : done ≡ did.Sent link reply outcome ∷ closed_after link outcome

-- a beginning of that
abbrev pub RepliesPart : ℕ → List ℕ → List Happening → Type 0
RepliesPart link reply done = (later : List Happening) × Replies link reply (done ++ later)

-- all are paid, in order, by the page as it stands
abbrev pub Pays : PageSeen → List Owed → List Happening → Type 0
Pays page [] done = done ≡ []
Pays page (owed ∷ more) done =
    (first : List Happening) × (rest : List Happening) × Replies owed.link (reply_by page owed.status) first × Pays page more rest × (done ≡ first ++ rest)

-- a beginning of what pays all
abbrev pub PaysSome : PageSeen → List Owed → List Happening → Type 0
PaysSome page owed done = (later : List Happening) × Pays page owed (done ++ later)

-- all that the page's front owed is paid, and then all that the front for packets owed
pub record PaysBoth (old new : Option Told) (page : PageSeen) (front : FrontSeen) : Type 0 where
  pub between : Option Told
  pub first : GrewBy old between (Pays page page.pool.owed)
  pub later : GrewBy between new (http.Pays front.pool.owed)

-- a beginning of that: some of the first, or all of them and some of the others
pub data PaysBeginning (old new : Option Told) (page : PageSeen) (front : FrontSeen) : Type 0 where
  within : GrewBy old new (PaysSome page page.pool.owed) → PaysBeginning old new page front
  beyond : (between : Option Told) → GrewBy old between (Pays page page.pool.owed) → GrewBy between new (http.PaysSome front.pool.owed) → PaysBeginning old new page front

-- all that the page's front owed is paid, the front for packets takes its turn, and what it hands up turns the page's front
pub record TakesPageTurn (old new : Option Told) (before after : PageSeen) (front_before front_after : FrontSeen) (up : Event) : Type 0 where
  pub between : Option Told
  pub paid : GrewBy old between (Pays before before.pool.owed)
  pub front : TakesTurn between new front_before front_after up
  pub turns : PageTurns (paid_page before) up after
