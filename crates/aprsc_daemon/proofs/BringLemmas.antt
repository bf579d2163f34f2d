-- What the wire tells grows from call to call, and the events with it.
use Rattle.std.proofs.Common.{◌≡◌, inl, inr, ℕ, sym, List, [], ◌∷◌, ◌++◌, refl, ap, ◌∙◌, subst, append-nil, append_assoc, Option, Some, None}
use Rattle.std.specs.Option.{option_map}
use Rattle.aprs_base.specs.Outside.{Told, with_done}
use Rattle.aprs_base.specs.declared.events.Event.{Event}
use Rattle.aprs_base.specs.declared.events.Happening.{Happening}
use Rattle.aprs_base.specs.declared.events.Happening.TheVariants as did
use Rattle.std.specs.List.{AllZip, find}
use Rattle.aprs_base.specs.declared.events.Event.TheVariants as event
use Rattle.aprs_base.specs.declared.events.Sent.{Sent}
use Rattle.aprs_base.specs.declared.events.Sent.TheVariants as sent
use Rattle.http_submit.specs.Fronts.{FrontSeen, Hears, TurnsAt, TurnsBy, handed_up, paid_front}
use Rattle.http_submit.specs.Owing.{GrewBy, Pays, closed_after, reply_of}
use Rattle.http_submit.specs.Pools.{WaitingSeen, heard, is_link}
use Rattle.http_submit.specs.declared.pool.Owed.{Owed}
use Rattle.http_submit.specs.declared.requests.Post.{Post}
use Rattle.http_submit.specs.declared.requests.Post.TheVariants.{Whole, More, Refused}
use Rattle.status_page.specs.PageFronts.{PageSeen, reply_by}
use Rattle.status_page.specs.Paying.{TakesPageTurn}
use Rattle.status_page.specs.Paying.{Pays as PaysPages}
use Rattle.aprsc_daemon.specs.declared.fronts.Fronts.{Fronts}
use Rattle.aprsc_daemon.specs.Phases.{Brings, BringsUp, IsHandedUp, IsSubmitted, events_in}

-- one happening, whatever else is told with it
pub brings_told : (x : Happening) (change : Told → Told) (events : List Event) (now next : Option Told) → ((told : Told) → (change told).done ≡ told.done ++ x ∷ []) → events_in (x ∷ []) ≡ events
    → next ≡ option_map change now → Brings events now next
brings_told x change events None next tells is comes = comes
brings_told x change events (Some told) next tells is comes = (change told, x ∷ [], comes, tells told, is)

pub brings_one : (x : Happening) (events : List Event) (now next : Option Told) → events_in (x ∷ []) ≡ events → next ≡ option_map (with_done x) now → Brings events now next
brings_one x events now next = brings_told x (with_done x) events now next (λ told. refl)

pub events_join : (first later : List Happening) → events_in (first ++ later) ≡ events_in first ++ events_in later
events_join [] later = refl
events_join (did.Event e ∷ first) later = ap (λ events. e ∷ events) (events_join first later)
events_join (_ ∷ first) later = events_join first later

-- these events, and then those
pub brings_both : (these those : List Event) (start now next : Option Told) → Brings these start now → Brings those now next → Brings (these ++ those) start next
brings_both these those None now next first later = subst (λ told. Brings those told next) first later
brings_both these those (Some old) now next first later =
    let then = subst (λ told. Brings those told next) first.2 later in (
      then.0,
      first.1 ++ then.1,
      then.2,
      then.3 ∙ ap (λ done. done ++ then.1) first.3 ∙ append_assoc old.done first.1 then.1,
      events_join first.1 then.1 ∙ ap (λ events. events ++ events_in then.1) first.4 ∙ ap (λ events. these ++ events) then.4,
    )

-- these events, and then none
pub brings_on : (events : List Event) (start now next : Option Told) → Brings events start now → Brings [] now next → Brings events start next
brings_on events start now next first later = subst (λ all. Brings all start next) (append-nil events) (brings_both events [] start now next first later)

-- ---- behind the fronts

-- no reply is an event
one_untold : (link : ℕ) (reply : List ℕ) (outcome : Sent) → events_in (did.Sent link reply outcome ∷ closed_after link outcome) ≡ []
one_untold link reply (sent.Took n) = refl
one_untold link reply sent.Gone = refl

paid_untold : (owed : List Owed) (done : List Happening) → Pays owed done → events_in done ≡ []
paid_untold [] done pays = ap events_in pays
paid_untold (owed ∷ more) done pays =
    ap events_in pays.4 ∙ events_join pays.0 pays.1
    ∙ ap (λ events. events ++ events_in pays.1) (ap events_in pays.2.is ∙ one_untold owed.link (reply_of owed.status) pays.2.outcome)
    ∙ paid_untold more pays.1 pays.3

pages_untold : (page : PageSeen) (owed : List Owed) (done : List Happening) → PaysPages page owed done → events_in done ≡ []
pages_untold page [] done pays = ap events_in pays
pages_untold page (owed ∷ more) done pays =
    ap events_in pays.4 ∙ events_join pays.0 pays.1
    ∙ ap (λ events. events ++ events_in pays.1) (ap events_in pays.2.is ∙ one_untold owed.link (reply_by page owed.status) pays.2.outcome)
    ∙ pages_untold page more pays.1 pays.3

pages_bring : (page : PageSeen) (owed : List Owed) (old new : Option Told) → GrewBy old new (PaysPages page owed) → Brings [] old new
pages_bring page owed None new grew = grew
pages_bring page owed (Some old) new grew = (record old { done = old.done ++ grew.0 }, grew.0, grew.1, refl, pages_untold page owed grew.0 grew.2)

turn_brings : (e : Event) (owed : List Owed) (old new : Option Told) → GrewBy old new (λ more. (done : List Happening) × Pays owed done × (more ≡ done ++ did.Event e ∷ [])) → Brings (e ∷ []) old new
turn_brings e owed None new grew = grew
turn_brings e owed (Some old) new grew =
    let paying = grew.2 in (
      record old { done = old.done ++ grew.0 },
      grew.0,
      grew.1,
      refl,
      ap events_in paying.2 ∙ events_join paying.0 (did.Event e ∷ []) ∙ ap (λ events. events ++ e ∷ []) (paid_untold owed paying.0 paying.1),
    )

heard_up : (u link : ℕ) (bytes : List ℕ) (found : Option WaitingSeen) (before after : FrontSeen) (up : Event) → Hears u link bytes found before after up → IsHandedUp (Some u) (event.Bytes link bytes) up
heard_up u link bytes None before after up hears = inl hears.1
heard_up u link bytes (Some waiting) before after up hears = by hears.0 hears.3
  where
    by : (post : Post) → up ≡ handed_up u waiting.from (heard waiting bytes) (event.Bytes link bytes) post → IsHandedUp (Some u) (event.Bytes link bytes) up
    by (Whole start len known) is = inr (subst (IsSubmitted u (event.Bytes link bytes)) (sym is) refl)
    by More is = inl is
    by (Refused status) is = inl is

turned_up : (u : ℕ) (before : FrontSeen) (e : Event) (after : FrontSeen) (up : Event) → TurnsAt u before e after up → IsHandedUp (Some u) e up
turned_up u before (event.Tick moment) after up turns = inl turns.1
turned_up u before (event.Opened listener link from) after up turns = inl turns.1
turned_up u before (event.Bytes link bytes) after up turns = heard_up u link bytes (find (is_link link) before.pool.waiting) before after up turns
turned_up u before (event.Ended link) after up turns = inl turns.1
turned_up u before (event.Joined uplink link at) after up turns = inl turns.1
turned_up u before (event.Unjoined uplink) after up turns = inl turns.1
turned_up u before (event.Room link) after up turns = inl turns.1
turned_up u before (event.Datagram listener from bytes) after up turns = inl turns.1
turned_up u before event.Stop after up turns = inl turns.1

handed_by : (at : Option ℕ) (before : FrontSeen) (e : Event) (after : FrontSeen) (up : Event) → TurnsBy at before e after up → IsHandedUp at e up
handed_by None before e after up turns = turns.1
handed_by (Some u) before e after up turns = turned_up u before e after up turns

zip_on : {A B : Type 0} (P : A → B → Type 0) (xs : List A) (ys : List B) (x : A) (y : B) → AllZip P xs ys → P x y → AllZip P (xs ++ x ∷ []) (ys ++ y ∷ [])
zip_on P [] [] x y all here = (here, tt)
zip_on P [] (b ∷ ys) x y all here = absurd all
zip_on P (a ∷ xs) [] x y all here = absurd all
zip_on P (a ∷ xs) (b ∷ ys) x y all here = (all.0, zip_on P xs ys x y all.1 here)

-- one event more is handed up
pub brings_turn : (at : Option ℕ) (events : List Event) (start now next : Option Told) (before after : Fronts) (up : Event) → at ≡ before.http.at → TakesPageTurn now next before.page after.page before.http after.http up
    → BringsUp at events start now → BringsUp at (events ++ up ∷ []) start next
brings_turn at events start now next before after up same page_turn brought =
    let turn = page_turn.front in
    let came = turn.came in
    let between = page_turn.between in (
      brought.0 ++ came ∷ [],
      brings_both brought.0 (came ∷ []) start now next brought.1
          (brings_both [] (came ∷ []) now between next (pages_bring before.page before.page.pool.owed now between page_turn.paid) (turn_brings came before.http.pool.owed between next turn.told)),
      zip_on (IsHandedUp at) brought.0 events came up brought.2 (subst (λ port. IsHandedUp port came up) (sym same) (handed_by before.http.at (paid_front before.http) came after.http up turn.turns)),
    )

-- and then none
pub brings_up_on : (at : Option ℕ) (events : List Event) (start now next : Option Told) → BringsUp at events start now → Brings [] now next → BringsUp at events start next
brings_up_on at events start now next first later = (first.0, brings_on first.0 start now next first.1 later, first.2)
