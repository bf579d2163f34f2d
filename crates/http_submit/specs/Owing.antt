-- What a front owes to links, and the happenings by which it pays.
use Rattle.std.specs.Prelude.{◌≡◌, ℕ, List, [], ◌∷◌, ◌++◌, Option, Some, None, codes, if◌then◌else◌, ◌==◌}
use Rattle.aprs_base.specs.Outside.{IsOutcome, Told, gones_with}
use Rattle.aprs_base.specs.declared.events.Event.{Event}
use Rattle.aprs_base.specs.declared.events.Sent.{Sent}
use Rattle.aprs_base.specs.declared.events.Sent.TheVariants as sent
use Rattle.aprs_base.specs.declared.events.Happening.{Happening}
use Rattle.aprs_base.specs.declared.events.Happening.TheVariants as did
use Rattle.http_submit.specs.Fronts.{FrontSeen, Turns, paid_front}
use Rattle.http_submit.specs.declared.pool.Owed.{Owed}

-- a status and its words (RFC 9110, section 15)
abbrev pub status_text : ℕ → List ℕ
status_text status =
    if status == 202 then codes "202 Accepted"
    else (if status == 400 then codes "400 Bad Request"
    else (if status == 403 then codes "403 Forbidden"
    else (if status == 404 then codes "404 Not Found"
    else (if status == 405 then codes "405 Method Not Allowed"
    else (if status == 408 then codes "408 Request Timeout"
    else (if status == 411 then codes "411 Length Required"
    else (if status == 413 then codes "413 Content Too Large"
    else (if status == 415 then codes "415 Unsupported Media Type"
    else codes "503 Service Unavailable"))))))))

-- the reply of a status: without content, and the link is closed after it
abbrev pub reply_of : ℕ → List ℕ
reply_of status = codes "HTTP/1.1 " ++ (status_text status ++ codes "\r\nContent-Length: 0\r\nConnection: close\r\n\r\n")

-- a link is closed but where it was gone
abbrev pub closed_after : ℕ → Sent → List Happening
closed_after link (sent.Took n) = did.Closed link ∷ []
closed_after link sent.Gone = []

-- a link gets its reply, once and whatever it takes of it, and is closed
pub record PaysOne (owed : Owed) (done : List Happening) : Type 0 where
  pub outcome : Sent
  pub part : IsOutcome (reply_of owed.status) outcome
  pub is : done ≡ did.Sent owed.link (reply_of owed.status) outcome ∷ closed_after owed.link outcome

-- a beginning of what pays one
abbrev pub PaysPart : Owed → List Happening → Type 0
PaysPart owed done = (later : List Happening) × PaysOne owed (done ++ later)

-- all are paid, in order
abbrev pub Pays : List Owed → List Happening → Type 0
Pays [] done = done ≡ []
Pays (owed ∷ more) done = (first : List Happening) × (rest : List Happening) × PaysOne owed first × Pays more rest × (done ≡ first ++ rest)

-- a beginning of what pays all
abbrev pub PaysSome : List Owed → List Happening → Type 0
PaysSome owed done = (later : List Happening) × Pays owed (done ++ later)

-- a wire's count of lost links once these are paid: one more for each link that was gone
abbrev pub Loses : List Owed → ℕ → ℕ → Type 0
Loses [] before now = now ≡ before
Loses (owed ∷ more) before now = (outcome : Sent) × Loses more (gones_with outcome before) now

-- what is told grew by happenings, of which this holds
abbrev pub GrewBy : Option Told → Option Told → (List Happening → Type 0) → Type 0
GrewBy None new P = new ≡ None
GrewBy (Some old) new P = (more : List Happening) × (new ≡ Some (record old { done = old.done ++ more })) × P more

-- all that was owed is paid, an event came, and the front and the event that is handed up are what it made of them
pub record TakesTurn (old new : Option Told) (before after : FrontSeen) (up : Event) : Type 0 where
  pub came : Event
  pub turns : Turns (paid_front before) came after up
  pub told : GrewBy old new (λ more. (done : List Happening) × Pays before.pool.owed done × (more ≡ done ++ did.Event came ∷ []))
