-- What a front does on its way to the next event, and a front without a port.
use Rattle.std.proofs.Common.{◌≡◌, ℕ, ◌+◌, ◌==◌, Bool, true, false, if◌then◌else◌, List, [], ◌∷◌, ◌++◌, refl, sym, ap, ◌∙◌, subst, append-nil, append_assoc, arith, zero, suc, Option, Some, None}
use Rattle.std.specs.Prelude.{slice_get}
use Rattle.std.specs.List.{find}
use Rattle.std.specs.Option.{option_map}
use Rattle.std.proofs.lemmas.Option.{none-some}
use Rattle.aprs_base.specs.Outside.{Told, IsOutcome, with_done, with_listen}
use Rattle.aprs_base.specs.declared.events.Event.{Event}
use Rattle.aprs_base.specs.declared.events.Event.TheVariants as event
use Rattle.aprs_base.specs.declared.events.Happening.{Happening}
use Rattle.aprs_base.specs.declared.events.Happening.TheVariants as did
use Rattle.aprs_base.specs.declared.events.Sent.{Sent}
use Rattle.aprs_base.specs.declared.events.Sent.TheVariants as sent
use Rattle.aprs_base.specs.declared.packets.ListenSpec.{ListenSpec}
use Rattle.aprs_history.specs.Setting.{Setting}
use Rattle.aprs_history.specs.History.{History}
use Rattle.aprs_history.specs.Acts.{Act, due}
use Rattle.aprs_history.specs.Runs.{AppendsRun, told_after}
use Rattle.http_submit.specs.Fronts.{FrontSeen, Hears, Turns, TurnsAt, TurnsBy, listened_as, paid_front}
use Rattle.http_submit.specs.Pools.{WaitingSeen, is_link}
use Rattle.aprs_base.specs.declared.totals.Totals.{Totals}
use Rattle.http_submit.specs.Owing.{GrewBy, closed_after, reply_of}
use Rattle.http_submit.specs.Owing.{Pays as PaysPosts}
use Rattle.status_page.specs.PageFronts.{PageSeen, PageTurns, PoolTurns, no_totals, paid_page, reply_by}
use Rattle.status_page.specs.Paying.{PaysBeginning, PaysBoth, TakesPageTurn}
use Rattle.status_page.specs.Paying.{Pays as PaysPages}
use Rattle.http_submit.specs.declared.pool.Owed.{Owed}
use Rattle.front_history.specs.Answers.{Answers, Duty, FrontState, FulfilsDuty, FulfilsFirst, FulfilsNext, Hands, Steps, acts_for, duties_for, front_state, noted, open_page, paid, published, wired, wired_for, wired_from}
use Rattle.front_history.specs.Serving.{EndsOn, GoesOn, Ports, Serves, ServesAt, ports_of}
use Rattle.aprs_history.specs.Wired.{on_wire}
use Rattle.front_history.proofs.ServesLemmas.{IsAct, IsIdle, Tells, event_comes, front_acts, paid_at, ports_noted, tells_done}
use Rattle.front_history.proofs.WiredLemmas.{all_shown}

-- ---- replies

-- these happenings do what fronts owe, one after another, where these totals are published, and so they stand then
abbrev pub Does : Totals → FrontState → List Happening → FrontState → Type 0
Does totals state [] after = after ≡ state
Does totals state (x ∷ xs) after = IsAct x × FulfilsNext totals state x × ((t : Setting) → Tells t x (with_done x)) × Does totals (paid x state) xs after

-- they do one thing and then another
does_then : (totals : Totals) (state mid after : FrontState) (xs ys : List Happening) → Does totals state xs mid → Does totals mid ys after → Does totals state (xs ++ ys) after
does_then totals state mid after [] ys first second = subst (λ st. Does totals st ys after) first second
does_then totals state mid after (x ∷ xs) ys first second = (first.0, first.1, first.2, does_then totals (paid x state) mid after xs ys first.3 second)

-- the fronts stand so, and owe this
abbrev pub owing : PageSeen → FrontSeen → List Duty → List Owed → FrontState
owing page front duties owed = record { page = open_page page; front = paid_front front; duties = duties; acts = acts_for owed }

-- a link that asked for the page is paid
page_does : (page : PageSeen) (front : FrontSeen) (link status : ℕ) (duties : List Duty) (owed : List Owed) (outcome : Sent) → IsOutcome (reply_by page status) outcome
    → Does page.totals (owing page front (Duty.Reply (record { link = link; status = status }) ∷ Duty.Close link ∷ duties) owed)
    (did.Sent link (reply_by page status) outcome ∷ closed_after link outcome) (owing page front duties owed)
page_does page front link status duties owed (sent.Took n) part =
    (tt, (refl, refl, part), λ t. tells_done t (did.Sent link (reply_by page status) (sent.Took n)) refl refl, (tt, refl, λ t. tells_done t (did.Closed link) refl refl, refl))
page_does page front link status duties owed sent.Gone part = (tt, (refl, refl, part), λ t. tells_done t (did.Sent link (reply_by page status) sent.Gone) refl refl, refl)

pages_do : (page : PageSeen) (front : FrontSeen) (first : List Owed) (owed : List Owed) (done : List Happening) → PaysPages page first done
    → Does page.totals (owing page front (duties_for first) owed) done (owing page front [] owed)
pages_do page front [] owed done pays = subst (λ xs. Does page.totals (owing page front [] owed) xs (owing page front [] owed)) (sym pays) refl
pages_do page front (one ∷ more) owed done pays =
    let replies = pays.2 in
    let state = owing page front (duties_for (one ∷ more)) owed in
    let mid = owing page front (duties_for more) owed in
    let last = owing page front [] owed in
    let first_does : Does page.totals state pays.0 mid =
    subst (λ xs. Does page.totals state xs mid) (sym replies.is) (page_does page front one.link one.status (duties_for more) owed replies.outcome replies.part) in
    subst (λ xs. Does page.totals state xs last) (sym pays.4) (does_then page.totals state mid last pays.0 pays.1 first_does (pages_do page front more owed pays.1 pays.3))

-- a link of the front for packets is paid, once those are
post_does : (page : PageSeen) (front : FrontSeen) (link status : ℕ) (owed : List Owed) (outcome : Sent) → IsOutcome (reply_of status) outcome
    → Does page.totals (owing page front [] (record { link = link; status = status } ∷ owed)) (did.Sent link (reply_of status) outcome ∷ closed_after link outcome) (owing page front [] owed)
post_does page front link status owed (sent.Took n) part =
    (tt, (refl, refl, part), λ t. tells_done t (did.Sent link (reply_of status) (sent.Took n)) refl refl, (tt, refl, λ t. tells_done t (did.Closed link) refl refl, refl))
post_does page front link status owed sent.Gone part = (tt, (refl, refl, part), λ t. tells_done t (did.Sent link (reply_of status) sent.Gone) refl refl, refl)

posts_do : (page : PageSeen) (front : FrontSeen) (owed : List Owed) (done : List Happening) → PaysPosts owed done → Does page.totals (owing page front [] owed) done (owing page front [] [])
posts_do page front [] done pays = subst (λ xs. Does page.totals (owing page front [] []) xs (owing page front [] [])) (sym pays) refl
posts_do page front (one ∷ more) done pays =
    let pays_one = pays.2 in
    let state = owing page front [] (one ∷ more) in
    let mid = owing page front [] more in
    let last = owing page front [] [] in
    let first_does : Does page.totals state pays.0 mid =
    subst (λ xs. Does page.totals state xs mid) (sym pays_one.is) (post_does page front one.link one.status more pays_one.outcome pays_one.part) in
    subst (λ xs. Does page.totals state xs last) (sym pays.4) (does_then page.totals state mid last pays.0 pays.1 first_does (posts_do page front more pays.1 pays.3))

-- a beginning of them does some of it, and the fronts keep their ports
does_some : (totals : Totals) (state : FrontState) (done later : List Happening) (after : FrontState) → Does totals state (done ++ later) after → (mid : FrontState) × (ports_of mid ≡ ports_of state) × Does totals state done mid
does_some totals state [] later after does = (state, refl, refl)
does_some totals state (x ∷ xs) later after does =
    let rest = does_some totals (paid x state) xs later after does.3 in
    (rest.0, rest.1 ∙ paid_at x state, (does.0, does.1, does.2, rest.2))

-- what is told with these happenings
abbrev pub with_all : List Happening → Told → Told
with_all xs told = record told { done = told.done ++ xs }

all_then : (x : Happening) (xs : List Happening) (old : Option Told) → option_map (with_all (x ∷ xs)) old ≡ option_map (with_all xs) (option_map (with_done x) old)
all_then x xs None = refl
all_then x xs (Some told) = ap (λ done. Some (record told { done = done })) (sym (append_assoc told.done (x ∷ []) xs))

none_more : (old : Option Told) → option_map (with_all []) old ≡ old
none_more None = refl
none_more (Some told) = ap (λ done. Some (record told { done = done })) (append-nil told.done)

all_with : (xs : List Happening) (x : Happening) (old : Option Told) → option_map (with_all (xs ++ x ∷ [])) old ≡ option_map (with_done x) (option_map (with_all xs) old)
all_with xs x None = refl
all_with xs x (Some told) = ap (λ done. Some (record told { done = done })) (sym (append_assoc told.done xs (x ∷ [])))

pub fronts_do : (s : Setting) (totals : Totals) (old : Option Told) (state after : FrontState) (xs : List Happening) (P : History → Type 0) → ((seen : History) → P seen → IsIdle s totals seen) → Does totals state xs after
    → GoesOn s old state (option_map (with_all xs) old) after P P
fronts_do s totals old state after [] P idle does start serves = subst (λ st. Serves s start (option_map (with_all []) old) st P) (sym does) (subst (λ now. Serves s start now state P) (sym (none_more old)) serves)
fronts_do s totals old state after (x ∷ xs) P idle does start serves =
    let once = front_acts s totals old (option_map (with_done x) old) x state P does.0 does.2 does.1 refl idle start serves in
    subst (λ now. Serves s start now after P) (sym (all_then x xs old)) (fronts_do s totals (option_map (with_done x) old) (paid x state) after xs P idle does.3 start once)

-- what grew by happenings goes on as they do
pub grown_on : (s : Setting) (old new : Option Told) (before after : FrontState) (R : List Happening → Type 0) (P Q : History → Type 0) → GrewBy old new R
    → ((more : List Happening) → R more → GoesOn s old before (option_map (with_all more) old) after P Q) → GoesOn s old before new after P Q
grown_on s None new before after R P Q grew goes None serves = grew
grown_on s None new before after R P Q grew goes (Some start) serves = absurd (none-some _ serves.2)
grown_on s (Some old) new before after R P Q grew goes start serves = subst (λ now. Serves s start now after Q) (sym grew.1) (goes grew.0 grew.2 start serves)

-- ---- the next event

hears_keeps : (u link : ℕ) (bytes : List ℕ) (found : Option WaitingSeen) (before after : FrontSeen) (up : Event) → Hears u link bytes found before after up → before.at ≡ after.at
hears_keeps u link bytes None before after up hears = ap (λ f. f.at) (sym hears.0)
hears_keeps u link bytes (Some waiting) before after up hears = ap (λ f. f.at) (sym hears.2)

at_or : (b : Bool) (before other : FrontSeen) → before.at ≡ other.at → before.at ≡ (if b then other else before).at
at_or true before other same = same
at_or false before other same = refl

turned_keeps : (u : ℕ) (before : FrontSeen) (e : Event) (after : FrontSeen) (up : Event) → TurnsAt u before e after up → before.at ≡ after.at
turned_keeps u before (event.Tick moment) after up turns = ap (λ f. f.at) (sym turns.0)
turned_keeps u before (event.Opened listener link from) after up turns = at_or (listener == u) before _ refl ∙ ap (λ f. f.at) (sym turns.0)
turned_keeps u before (event.Bytes link bytes) after up turns = hears_keeps u link bytes (find (is_link link) before.pool.waiting) before after up turns
turned_keeps u before (event.Ended link) after up turns = ap (λ f. f.at) (sym turns.0)
turned_keeps u before (event.Joined uplink link at) after up turns = ap (λ f. f.at) (sym turns.0)
turned_keeps u before (event.Unjoined uplink) after up turns = ap (λ f. f.at) (sym turns.0)
turned_keeps u before (event.Room link) after up turns = ap (λ f. f.at) (sym turns.0)
turned_keeps u before (event.Datagram listener from bytes) after up turns = ap (λ f. f.at) (sym turns.0)
turned_keeps u before event.Stop after up turns = ap (λ f. f.at) (sym turns.0)

-- a front keeps its port
by_keeps : (at : Option ℕ) (before : FrontSeen) (e : Event) (after : FrontSeen) (up : Event) → TurnsBy at before e after up → before.at ≡ after.at
by_keeps None before e after up turns = ap (λ f. f.at) (sym turns.0)
by_keeps (Some u) before e after up turns = turned_keeps u before e after up turns

pub turns_keep : (before : FrontSeen) (e : Event) (after : FrontSeen) (up : Event) → Turns before e after up → before.at ≡ after.at
turns_keep before e after up turns = by_keeps before.at before e after up turns

page_keeps : (before : PageSeen) (e : Event) (after : PageSeen) → PageTurns before e after → before.at ≡ after.at
page_keeps before e after turns = ap (λ p. p.at) (sym turns.kept)

-- a front for the page turns alike, whatever its totals are
page_opens : (before : PageSeen) (e : Event) (after : PageSeen) → PageTurns (paid_page before) e after → PageTurns (open_page before) e (record after { totals = no_totals })
page_opens before e after turns = record { kept = ap {A = PageSeen} (λ p. record p { totals = no_totals }) turns.kept; pool = turns.pool }

-- a way that two steps take
goes_both : (s : Setting) (old : Option Told) (before : FrontState) (mid : Option Told) (between : FrontState) (new : Option Told) (after : FrontState) (P Q R : History → Type 0)
    → GoesOn s old before mid between P Q → GoesOn s mid between new after Q R → GoesOn s old before new after P R
goes_both s old before mid between new after P Q R first second start serves = second start (first start serves)

-- all that is owed is paid, an event comes, and the server sees what is handed up
pub turn_taken : (s : Setting) (old new : Option Told) (page page_after : PageSeen) (before after : FrontSeen) (up : Event) (P Q : History → Type 0) → TakesPageTurn old new page page_after before after up
    → ((seen : History) → P seen → IsIdle s page.totals seen × Q (did.Event up ∷ seen)) → GoesOn s old (front_state page before) new (front_state page_after after) P Q
turn_taken s old new page page_after before after up P Q turn step =
    let idle : (seen : History) → P seen → IsIdle s page.totals seen = λ seen p. (step seen p).0 in
    let first = front_state page before in
    let mid = owing page before [] before.pool.owed in
    let last = owing page before [] [] in
    let http_turn = turn.front in
    let e = http_turn.came in
    let pages : GoesOn s old first turn.between mid P P = grown_on s old turn.between first mid (PaysPages page page.pool.owed) P P turn.paid
    (λ more pays. fronts_do s page.totals old first mid more P idle (pages_do page before page.pool.owed before.pool.owed more pays)) in
    let posts : GoesOn s turn.between mid new (front_state page_after after) P Q =
    grown_on s turn.between new mid (front_state page_after after) (λ more. (done : List Happening) × PaysPosts before.pool.owed done × (more ≡ done ++ did.Event e ∷ [])) P Q http_turn.told
    (λ more paying start serves.
    let done = paying.0 in
    let paid_all = fronts_do s page.totals turn.between mid last done P idle (posts_do page before before.pool.owed done paying.1) start serves in
    event_comes s page.totals (option_map (with_all done) turn.between) (option_map (with_all more) turn.between) e up last (record page_after { totals = no_totals }) after P Q
    (ap (λ u. record { page = page.at; upload = u }) (turns_keep (paid_front before) e after up http_turn.turns) ∙ ap (λ v. record { page = v; upload = after.at }) (page_keeps (paid_page page) up page_after turn.turns))
    refl refl http_turn.turns (page_opens page up page_after turn.turns)
    (λ t. tells_done t (did.Event e) refl refl) (ap (λ xs. option_map (with_all xs) turn.between) paying.2 ∙ all_with done (did.Event e) turn.between) step start paid_all) in
    goes_both s old first turn.between mid new (front_state page_after after) P P Q pages posts

-- the wire failed once all that was owed was paid, or memory was wanting on the way
pub turn_failed : (s : Setting) (old new : Option Told) (page : PageSeen) (before : FrontSeen) (P : History → Type 0) → PaysBoth old new page before → ((seen : History) → P seen → IsIdle s page.totals seen)
    → EndsOn s old (front_state page before) new P P
turn_failed s old new page before P pays idle start serves =
    let first = front_state page before in
    let mid = owing page before [] before.pool.owed in
    let last = owing page before [] [] in
    let pages : GoesOn s old first pays.between mid P P = grown_on s old pays.between first mid (PaysPages page page.pool.owed) P P pays.first
    (λ more paid. fronts_do s page.totals old first mid more P idle (pages_do page before page.pool.owed before.pool.owed more paid)) in
    let posts : GoesOn s pays.between mid new last P P = grown_on s pays.between new mid last (PaysPosts before.pool.owed) P P pays.later
    (λ more paid. fronts_do s page.totals pays.between mid last more P idle (posts_do page before before.pool.owed more paid)) in
    (last, refl, goes_both s old first pays.between mid new last P P P pages posts start serves)

-- a beginning of what does all
some_done : (s : Setting) (totals : Totals) (old new : Option Told) (state after : FrontState) (R : List Happening → Type 0) (P : History → Type 0) → GrewBy old new (λ done. (later : List Happening) × R (done ++ later))
    → ((xs : List Happening) → R xs → Does totals state xs after) → ((seen : History) → P seen → IsIdle s totals seen) → EndsOn s old state new P P
some_done s totals None new state after R P grew does idle None serves = (state, refl, grew)
some_done s totals None new state after R P grew does idle (Some start) serves = absurd (none-some _ serves.2)
some_done s totals (Some old) new state after R P grew does idle start serves =
    let some = does_some totals state grew.0 grew.2.0 after (does (grew.0 ++ grew.2.0) grew.2.1) in
    (some.0, some.1, subst (λ now. Serves s start now some.0 P) (sym grew.1) (fronts_do s totals (Some old) state some.0 grew.0 P idle some.2 start serves))

pub turn_broken : (s : Setting) (old new : Option Told) (page : PageSeen) (before : FrontSeen) (P : History → Type 0) → PaysBeginning old new page before → ((seen : History) → P seen → IsIdle s page.totals seen)
    → EndsOn s old (front_state page before) new P P
turn_broken s old new page before P (PaysBeginning.within grew) idle =
    some_done s page.totals old new (front_state page before) (owing page before [] before.pool.owed) (PaysPages page page.pool.owed) P grew (pages_do page before page.pool.owed before.pool.owed) idle
turn_broken s old new page before P (PaysBeginning.beyond between first later) idle = λ start serves.
    let state = front_state page before in
    let mid = owing page before [] before.pool.owed in
    let pages : GoesOn s old state between mid P P = grown_on s old between state mid (PaysPages page page.pool.owed) P P first
    (λ more paid. fronts_do s page.totals old state mid more P idle (pages_do page before page.pool.owed before.pool.owed more paid)) in
    some_done s page.totals between new mid (owing page before [] []) (PaysPosts before.pool.owed) P later (posts_do page before before.pool.owed) idle start (pages start serves)

-- ---- listeners

wired_get : (at : Option ℕ) (k n : ℕ) (specs : List ListenSpec) → slice_get (wired_from at k specs) n ≡ option_map (listened_as at (k + n)) (slice_get specs n)
wired_get at k n [] = refl
wired_get at k zero (spec ∷ specs) = let same : k ≡ k + 0 = omega arith in ap (λ m. Some (listened_as at m spec)) same
wired_get at k (suc n) (spec ∷ specs) = let same : k + 1 + n ≡ k + suc n = omega arith in wired_get at (k + 1) n specs ∙ ap (λ m. option_map (listened_as at m) (slice_get specs n)) same

-- the wire was asked for a listener of the setting, as the front has it
listens_as : (s : Setting) (at : Option ℕ) (n : ℕ) (spec : ListenSpec) → slice_get s.listens n ≡ Some spec → slice_get (wired at s).listens n ≡ Some (listened_as at n spec)
listens_as s at n spec found =
    let none_before : 0 + n ≡ n = omega arith in
    wired_get at 0 n s.listens ∙ ap (λ m. option_map (listened_as at m) (slice_get s.listens n)) none_before ∙ ap (option_map (listened_as at n)) found

pub tells_listen : (s : Setting) (state : FrontState) (n : ℕ) (spec : ListenSpec) → slice_get s.listens n ≡ Some spec
    → Tells (wired_for state s) (did.Listen n) (with_listen n (listened_as state.front.at n (listened_as state.page.at n spec)))
tells_listen s state n spec found told =
    let asked = listened_as state.page.at n spec in
    let here : slice_get (wired_for state s).listens n ≡ Some (listened_as state.front.at n asked) = listens_as (wired state.page.at s) state.front.at n asked (listens_as s state.page.at n spec found) in
    rw (here, append-nil told.dialled, append-nil told.cast_to) refl

-- ---- fronts without a port

unwired_from : (n : ℕ) (specs : List ListenSpec) → wired_from None n specs ≡ specs
unwired_from n [] = refl
unwired_from n (spec ∷ specs) = ap (λ rest. spec ∷ rest) (unwired_from (n + 1) specs)

pub unwired : (s : Setting) → wired None s ≡ s
unwired s = ap (λ listens. record s { listens = listens }) (unwired_from 0 s.listens)

abbrev pub no_ports : Ports
no_ports = record { page = None; upload = None }

-- what happens is what the wire shows of the server, and nothing is owed
pub record IsUnseen (s : Setting) (more seen : History) (state : FrontState) : Type 0 where
  pub shown : more ≡ on_wire s seen
  pub duties : state.duties ≡ []
  pub acts : state.acts ≡ []
  pub page_owed : state.page.pool.owed ≡ []
  pub owed : state.front.pool.owed ≡ []

-- a front for the page without a port owes nothing
unpaged : (v : Option ℕ) (before : PageSeen) (e : Event) (after : PageSeen) → v ≡ None → PoolTurns v after.moment before.pool e after.pool → after.pool ≡ before.pool
unpaged None before e after none turns = turns
unpaged (Some v) before e after none turns = absurd (none-some v (sym none))

passed : (e : Event) (s : Setting) (before state : FrontState) (earlier rest seen : History) → ports_of before ≡ no_ports → IsUnseen s earlier rest before → Hands s e before state rest seen → IsUnseen s (did.Event e ∷ earlier) seen state
passed e s before state earlier rest seen at was hands =
    let turns = subst (λ port. TurnsBy port before.front e hands.after hands.up) (ap (λ ports. ports.upload) at) hands.turns in
    let after_is : hands.after ≡ before.front = turns.0 in
    let page_is : hands.page_after.pool ≡ before.page.pool = unpaged before.page.at before.page hands.up hands.page_after (ap (λ ports. ports.page) at) hands.page_turns.pool in
    record {
      shown = ap (λ h. did.Event e ∷ h) was.shown ∙ ap (λ up. did.Event up ∷ on_wire s rest) (sym turns.1) ∙ ap (on_wire s) (sym hands.seen_is);
      duties = ap (λ st. st.duties) hands.state_is ∙ ap (λ p. duties_for p.owed) page_is ∙ ap duties_for was.page_owed;
      acts = ap (λ st. st.acts) hands.state_is ∙ ap (λ f. acts_for f.pool.owed) after_is ∙ ap acts_for was.owed;
      page_owed = ap (λ st. st.page.pool.owed) hands.state_is;
      owed = ap (λ st. st.front.pool.owed) hands.state_is;
    }

noted_owes : (x : Happening) (state : FrontState) → ((noted x state).duties ≡ state.duties) × ((noted x state).acts ≡ state.acts) × ((noted x state).page.pool.owed ≡ state.page.pool.owed) × ((noted x state).front ≡ state.front)
noted_owes (did.Sent link bytes outcome) state = (refl, refl, refl, refl)
noted_owes (did.Cast peer bytes) state = (refl, refl, refl, refl)
noted_owes (did.Event e) state = (refl, refl, refl, refl)
noted_owes (did.Listen n) state = (refl, refl, refl, refl)
noted_owes (did.Dialled uplink) state = (refl, refl, refl, refl)
noted_owes (did.Closed link) state = (refl, refl, refl, refl)

-- who owes nothing does nothing
owes_none : (page : PageSeen) (duties : List Duty) (acts : List Act) (x : Happening) → duties ≡ [] → acts ≡ [] → FulfilsDuty page duties acts x → ⊥
owes_none page duties acts x none no_acts fulfils = subst (λ xs. FulfilsFirst xs x) no_acts (subst (λ ds. FulfilsDuty page ds acts x) none fulfils)

stepped : (s : Setting) (acts : List Act) (x : Happening) (before state : FrontState) (earlier rest seen : History) → IsUnseen s earlier rest before → Steps s acts x before state rest seen → IsUnseen s (x ∷ earlier) seen state
stepped s [] x before state earlier rest seen was steps = absurd (owes_none (record before.page { totals = published s rest }) before.duties before.acts x was.duties was.acts steps.1)
stepped s (act ∷ acts) x before state earlier rest seen was steps =
    let same = noted_owes x before in
    record {
      shown = ap (λ h. x ∷ h) was.shown ∙ ap (λ z. z ∷ on_wire s rest) steps.1 ∙ ap (on_wire s) (sym steps.3);
      duties = ap (λ st. st.duties) steps.2 ∙ same.0 ∙ was.duties;
      acts = ap (λ st. st.acts) steps.2 ∙ same.1 ∙ was.acts;
      page_owed = ap (λ st. st.page.pool.owed) steps.2 ∙ same.2 ∙ was.page_owed;
      owed = ap (λ st. st.front.pool.owed) steps.2 ∙ ap (λ f. f.pool.owed) same.3 ∙ was.owed;
    }

pub steps_keep : (s : Setting) (acts : List Act) (x : Happening) (before state : FrontState) (rest seen : History) → Steps s acts x before state rest seen → ports_of before ≡ ports_of state
steps_keep s [] x before state rest seen steps = sym (ap ports_of steps.2 ∙ paid_at x before)
steps_keep s (act ∷ acts) x before state rest seen steps = sym (ap ports_of steps.2 ∙ ports_noted x before)

-- fronts keep their ports
pub hands_keep : (s : Setting) (e : Event) (before state : FrontState) (rest seen : History) → Hands s e before state rest seen → ports_of before ≡ ports_of state
hands_keep s e before state rest seen hands =
    ap (λ u. record { page = before.page.at; upload = u }) (turns_keep before.front e hands.after hands.up hands.turns)
    ∙ ap (λ v. record { page = v; upload = hands.after.at }) (page_keeps before.page hands.up hands.page_after hands.page_turns)
    ∙ ap ports_of (sym hands.state_is)

pub unseen : (s : Setting) (more seen : History) (state : FrontState) → ports_of state ≡ no_ports → Answers s more state seen → IsUnseen s more seen state
unseen s [] seen state none answers = record {
  shown = ap (on_wire s) (sym answers.1);
  duties = ap (λ st. st.duties) answers.0;
  acts = ap (λ st. st.acts) answers.0;
  page_owed = ap (λ st. st.page.pool.owed) answers.0;
  owed = ap (λ st. st.front.pool.owed) answers.0;
}
unseen s (did.Event e ∷ earlier) seen state none answers =
    let hands = answers.3 in
    let at : ports_of answers.0 ≡ no_ports = hands_keep s e answers.0 state answers.1 seen hands ∙ none in
    passed e s answers.0 state earlier answers.1 seen at (unseen s earlier answers.1 answers.0 at answers.2) hands
unseen s (x ∷ earlier) seen state none answers =
    let at : ports_of answers.0 ≡ no_ports = steps_keep s (due s answers.1) x answers.0 state answers.1 seen answers.3 ∙ none in
    stepped s (due s answers.1) x answers.0 state earlier answers.1 seen (unseen s earlier answers.1 answers.0 at answers.2) answers.3

-- what is served behind them is a run of what happened, where no line is cast to a link
pub appends_alone : (s : Setting) (start now : Option Told) (P : History → Type 0) → s.downs ≡ [] → ServesAt s no_ports start now P → AppendsRun s start now P
appends_alone s None now P none serves = serves.2
appends_alone s (Some old) now P none serves =
    let state = serves.0 in
    let run = serves.2 in
    let seen = run.1 in
    let same = (unseen s run.0 seen state serves.1 run.3).shown ∙ all_shown s none seen in (
      seen,
      run.2 ∙ ap (λ ports. Some (told_after (wired ports.upload (wired ports.page s)) s old run.0 seen)) serves.1 ∙ ap (λ t. Some (told_after (wired None t) s old run.0 seen)) (unwired s)
          ∙ ap (λ t. Some (told_after t s old run.0 seen)) (unwired s) ∙ ap (λ more. Some (told_after s s old more seen)) same,
      run.4,
      run.5,
    )
