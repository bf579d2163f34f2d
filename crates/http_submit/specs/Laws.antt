-- What follows of the definitions.
use Rattle.std.specs.Prelude.{◌≡◌, ℕ, ◌<◌, ◌≤◌, Bool, false, List, [], ◌∷◌, ◌++◌, map}
use Rattle.std.specs.Str.{byte}
use Rattle.aprs_base.specs.Cuts.{cuts_by}
use Rattle.aprs_base.specs.Outside.{CountsLink, new_link}
use Rattle.aprs_base.specs.declared.cutting.Cut.{Cut}
use Rattle.aprs_base.specs.declared.cutting.Cut.TheVariants as cut
use Rattle.aprs_base.specs.declared.events.Event.{Event}
use Rattle.login_pass.specs.Login.{login_of}
use Rattle.http_submit.specs.Fronts.{FrontSeen, Turns, paid_front}
use Rattle.http_submit.specs.Pools.{PoolSeen, WaitingSeen}
use Rattle.http_submit.specs.Requests.{IsPost, is_good, is_known}
use Rattle.http_submit.specs.declared.pool.Owed.{Owed}
use Rattle.http_submit.specs.declared.requests.Post.{Post}

-- the same bytes ask for one thing alone
abbrev pub BytesAskOnce : Type 0
BytesAskOnce = (bytes : List ℕ) (one other : Post) → IsPost bytes one → IsPost bytes other → one ≡ other

-- the first of these lines is a login, and verified
abbrev pub begins_known : List Cut → Bool
begins_known [] = false
begins_known (cut.Line line ∷ later) = is_good (login_of line)
begins_known (cut.Long ∷ later) = false

-- a body is known by the first of the lines into which it is cut as a datagram, whose end ends its last line
abbrev pub FirstCutIsKnown : Type 0
FirstCutIsKnown = (body : List ℕ) → is_known body ≡ begins_known (cuts_by [] (body ++ byte "\n" ∷ []))

-- the numbers are above n and rise, and none is above that many
abbrev pub Rises : (n : ℕ) → List ℕ → (many : ℕ) → Type 0
Rises n [] many = n ≤ many
Rises n (x ∷ xs) many = (n < x) × Rises x xs many

abbrev pub links_of : List WaitingSeen → List ℕ
links_of waiting = map (λ w. w.link) waiting

abbrev pub owed_links : List Owed → List ℕ
owed_links owed = map (λ o. o.link) owed

-- the links that wait, and those that are owed replies, stand in rising number
abbrev pub IsInOrder : (links : ℕ) → PoolSeen → Type 0
IsInOrder links pool = Rises 0 (links_of pool.waiting) links × Rises 0 (owed_links pool.owed) links

-- before a wire that numbers its links in order, a front's links and replies stay in rising number
abbrev pub RepliesRise : Type 0
RepliesRise = (made now : ℕ) (before after : FrontSeen) (came up : Event) → IsInOrder made before.pool → CountsLink (new_link up) made now
    → Turns (paid_front before) came after up → IsInOrder now after.pool
