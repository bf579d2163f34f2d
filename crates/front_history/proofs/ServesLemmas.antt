-- What is served goes on by each happening: the server's, the front's, and an event.
use Rattle.std.proofs.Common.{◌≡◌, ℕ, ◌+◌, ◌==◌, Bool, false, if◌then◌else◌, List, [], ◌∷◌, ◌++◌, length, refl, sym, ap, ◌∙◌, subst, append-nil, Option, Some, None}
use Rattle.std.specs.Prelude.{⊤, slice_get}
use Rattle.std.specs.Option.{option_map}
use Rattle.aprs_base.specs.Outside.{Told, with_cast, with_done}
use Rattle.aprs_base.specs.declared.events.Event.{Event}
use Rattle.aprs_base.specs.declared.events.Happening.{Happening}
use Rattle.aprs_base.specs.declared.events.Sent.{Sent}
use Rattle.aprs_base.specs.declared.events.Sent.TheVariants as sent
use Rattle.aprs_base.specs.declared.events.Happening.TheVariants as did
use Rattle.aprs_base.specs.declared.texts.Addr.{Addr}
use Rattle.aprs_base.specs.declared.totals.Totals.{Totals}
use Rattle.aprs_history.specs.Setting.{Setting}
use Rattle.aprs_history.specs.Downs.{DownSeen, down_of}
use Rattle.aprs_history.specs.History.{History, is_stopped, open_events, trace_of}
use Rattle.aprs_history.specs.Acts.{Act, MayCome, due}
use Rattle.aprs_history.specs.Runs.{address_of, cast_by, dialled_by, down_address, list_of, listened_by, told_after, with_each}
use Rattle.http_submit.specs.Fronts.{FrontSeen, Turns, fresh_front}
use Rattle.status_page.specs.PageFronts.{PageSeen, PageTurns, counting, fresh_page}
use Rattle.front_history.specs.Answers.{Answers, Duty, FrontState, FulfilsNext, Steps, finished, front_state, noted, noting, paid, paid_by, published, wired, wired_for}
use Rattle.front_history.specs.Serving.{ActsOn, EndsOn, GoesOn, SendsOn, Serves, ports_of}
use Rattle.aprs_history.specs.Wired.{first_down, sent_as, wired_as}

-- what is told once this has happened too, with a datagram to each of these addresses
abbrev pub told_more : Setting → Happening → List Addr → Told → Told
told_more asked x to told = record {
  done = told.done ++ x ∷ [];
  listened = told.listened ++ listened_by asked x;
  dialled = told.dialled ++ dialled_by asked x;
  cast_to = told.cast_to ++ to;
}

-- this change of what is told is that of one happening more
abbrev pub TellsTo : Setting → Happening → List Addr → (Told → Told) → Type 0
TellsTo asked x to change = (told : Told) → change told ≡ told_more asked x to told

-- this change of what is told is that of one happening more, with no datagram to an address
abbrev pub Tells : Setting → Happening → (Told → Told) → Type 0
Tells asked x change = TellsTo asked x [] change

-- a happening that tells nothing but itself
pub tells_done : (asked : Setting) (x : Happening) → listened_by asked x ≡ [] → dialled_by asked x ≡ [] → Tells asked x (with_done x)
tells_done asked x listened dialled told = rw (listened, dialled, append-nil told.listened, append-nil told.dialled, append-nil told.cast_to) refl

tells_cast : (asked : Setting) (number : ℕ) (to : Addr) (bytes : List ℕ) → TellsTo asked (did.Cast number bytes) (to ∷ []) (with_cast number to bytes)
tells_cast asked number to bytes told = rw (append-nil told.listened, append-nil told.dialled) refl

-- what a front does is told, and the server doesn't see it
told_unseen : (asked s : Setting) (x : Happening) (told : Told) (more seen : History) → told_more asked x [] (told_after asked s told more seen) ≡ told_after asked s told (x ∷ more) seen
told_unseen asked s x told more seen = ap (λ to. record (told_after asked s told (x ∷ more) seen) { cast_to = to }) (append-nil (with_each (cast_by s) told.cast_to seen))

-- no event
abbrev pub IsAct : Happening → Type 0
IsAct (did.Event e) = ⊥
IsAct x = ⊤

pub serves_begins : (s : Setting) (now : Option Told) (page upload : Option ℕ) (P : History → Type 0) → P [] → Serves s now now (front_state (fresh_page page s.server) (fresh_front upload)) P
serves_begins s None page upload P p = refl
serves_begins s (Some told) page upload P p = ([], [], refl, (refl, refl), tt, p)

-- what holds of what the server saw may be said otherwise
pub serves_so : (s : Setting) (now : Option Told) (P Q : History → Type 0) → ((seen : History) → P seen → Q seen) → ActsOn s now now P Q
serves_so s now P Q so state None serves = serves
serves_so s now P Q so state (Some old) serves = (serves.0, serves.1, serves.2, serves.3, serves.4, so serves.1 serves.5)

-- where nothing more is told, all stays
pub serves_same : (s : Setting) (old new : Option Told) (P : History → Type 0) → new ≡ old → ActsOn s old new P P
serves_same s old new P same state start serves = subst (λ told. Serves s start told state P) (sym same) serves

-- one thing and then another
pub acts_then : (s : Setting) (old mid new : Option Told) (P Q R : History → Type 0) → ActsOn s old mid P Q → ActsOn s mid new Q R → ActsOn s old new P R
acts_then s old mid new P Q R first second state start serves = second state start (first state start serves)

pub goes_then : (s : Setting) (old : Option Told) (before : FrontState) (mid new : Option Told) (after : FrontState) (P Q R : History → Type 0) → GoesOn s old before mid after P Q → ActsOn s mid new Q R → GoesOn s old before new after P R
goes_then s old before mid new after P Q R first second start serves = second after start (first start serves)

pub goes_to_end : (s : Setting) (old : Option Told) (before : FrontState) (new : Option Told) (after : FrontState) (P Q : History → Type 0) → ports_of after ≡ ports_of before → GoesOn s old before new after P Q → EndsOn s old before new P Q
goes_to_end s old before new after P Q port goes start serves = (after, port, goes start serves)

pub goes_then_ends : (s : Setting) (old : Option Told) (before : FrontState) (mid : Option Told) (after : FrontState) (new : Option Told) (P Q R : History → Type 0) → ports_of after ≡ ports_of before → GoesOn s old before mid after P Q
    → EndsOn s mid after new Q R → EndsOn s old before new P R
goes_then_ends s old before mid after new P Q R port goes ends start serves =
    let last = ends start (goes start serves) in
    (last.0, last.1 ∙ port, last.2)

pub ends_weaker : (s : Setting) (old : Option Told) (before : FrontState) (new : Option Told) (P Q R : History → Type 0) → ((seen : History) → Q seen → R seen) → EndsOn s old before new P Q → EndsOn s old before new P R
ends_weaker s old before new P Q R so ends start serves =
    let last = ends start serves in
    (last.0, last.1, serves_so s new Q R so last.0 start last.2)

-- where an act is due, what may come is no event, and it is the server's, as the wire shows it
step_of : (s : Setting) (acts : List Act) (stopped : Bool) (y x : Happening) (state : FrontState) (seen : History) → IsAct y → x ≡ wired_as s (trace_of s seen) y → MayCome acts stopped y → Steps s acts x state (noted x state) seen (y ∷ seen)
step_of s [] stopped (did.Event e) x state seen act shown may = absurd act
step_of s [] stopped y x state seen act shown may = absurd may.1
step_of s (first ∷ acts) stopped y x state seen act shown may = (y, shown, refl, refl)

answers_act : (s : Setting) (more : History) (x : Happening) (before state : FrontState) (rest seen : History) → IsAct x → Answers s more before rest → Steps s (due s rest) x before state rest seen
    → Answers s (x ∷ more) state seen
answers_act s more (did.Event e) before state rest seen act answers steps = absurd act
answers_act s more x before state rest seen act answers steps = (before, rest, answers, steps)

pub ports_noted : (x : Happening) (state : FrontState) → ports_of (noted x state) ≡ ports_of state
ports_noted (did.Sent link bytes outcome) state = refl
ports_noted (did.Cast peer bytes) state = refl
ports_noted (did.Event e) state = refl
ports_noted (did.Listen n) state = refl
ports_noted (did.Dialled uplink) state = refl
ports_noted (did.Closed link) state = refl

-- the server acts, while the fronts stand so, and what the wire shows of it is counted
pub server_shows : (s : Setting) (old new : Option Told) (y x : Happening) (to : List Addr) (change : Told → Told) (state : FrontState) (P Q : History → Type 0) → IsAct y → IsAct x → TellsTo (wired_for state s) x to change
    → new ≡ option_map change old
    → ((seen : History) → P seen → (x ≡ wired_as s (trace_of s seen) y) × (cast_by s y seen ≡ to) × MayCome (due s seen) (is_stopped seen) y × Q (y ∷ seen)) → GoesOn s old state new (noted x state) P Q
server_shows s old new y x to change state P Q did_act act tells is step None serves = is ∙ ap (option_map change) serves
server_shows s old new y x to change state P Q did_act act tells is step (Some first) serves =
    let more = serves.0 in
    let seen = serves.1 in
    let told = told_after (wired_for state s) s first more seen in
    let stepped = step seen serves.5 in (
      x ∷ more,
      y ∷ seen,
      is ∙ ap (option_map change) serves.2 ∙ ap Some (tells told) ∙ ap (λ addresses. Some (told_more (wired_for state s) x addresses told)) (sym stepped.1)
          ∙ ap (λ ports. Some (told_after (wired ports.upload (wired ports.page s)) s first (x ∷ more) (y ∷ seen))) (sym (ports_noted x state)),
      answers_act s more x state (noted x state) seen (y ∷ seen) act serves.3 (step_of s (due s seen) (is_stopped seen) y x state seen did_act stepped.0 stepped.2),
      (serves.4, stepped.2),
      stepped.3,
    )

-- it does what no front counts
abbrev pub IsUncounted : Happening → Type 0
IsUncounted (did.Sent link bytes outcome) = ⊥
IsUncounted (did.Cast peer bytes) = ⊥
IsUncounted x = ⊤

uncounted : (x : Happening) (state : FrontState) → IsUncounted x → noted x state ≡ state
uncounted (did.Sent link bytes outcome) state none = absurd none
uncounted (did.Cast peer bytes) state none = absurd none
uncounted (did.Event e) state none = refl
uncounted (did.Listen n) state none = refl
uncounted (did.Dialled uplink) state none = refl
uncounted (did.Closed link) state none = refl

-- the wire shows that as it is, and nothing is cast
as_it_is : (s : Setting) (x : Happening) (seen : History) → IsUncounted x → (x ≡ wired_as s (trace_of s seen) x) × (cast_by s x seen ≡ [])
as_it_is s (did.Sent link bytes outcome) seen none = absurd none
as_it_is s (did.Cast peer bytes) seen none = absurd none
as_it_is s (did.Event e) seen none = (refl, refl)
as_it_is s (did.Listen n) seen none = (refl, refl)
as_it_is s (did.Dialled uplink) seen none = (refl, refl)
as_it_is s (did.Closed link) seen none = (refl, refl)

pub server_acts_at : (s : Setting) (old new : Option Told) (x : Happening) (change : Told → Told) (state : FrontState) (P Q : History → Type 0) → IsAct x → IsUncounted x → Tells (wired_for state s) x change
    → new ≡ option_map change old → ((seen : History) → P seen → MayCome (due s seen) (is_stopped seen) x × Q (x ∷ seen)) → GoesOn s old state new (noted x state) P Q
server_acts_at s old new x change state P Q act none tells is step =
    server_shows s old new x x [] change state P Q act act tells is (λ seen p.
    let shown = as_it_is s x seen none in
    let stepped = step seen p in
    (shown.0, shown.1, stepped.0, stepped.1))

-- the server does what no front counts, however the fronts stand
pub server_acts : (s : Setting) (old new : Option Told) (x : Happening) (change : Told → Told) (P Q : History → Type 0) → IsAct x → IsUncounted x → ((state : FrontState) → Tells (wired_for state s) x change)
    → new ≡ option_map change old
    → ((seen : History) → P seen → MayCome (due s seen) (is_stopped seen) x × Q (x ∷ seen)) → ActsOn s old new P Q
server_acts s old new x change P Q act none tells is step state =
    subst (λ after. GoesOn s old state new after P Q) (uncounted x state none) (server_acts_at s old new x change state P Q act none (tells state) is step)

-- the server acts, and the front for the page counts what the wire shows of it, however the other front stands
shows_on : (s : Setting) (old new : Option Told) (y x : Happening) (to : List Addr) (change : Told → Told) (before after : PageSeen) (P Q : History → Type 0) → IsAct y → IsAct x → ((state : FrontState) → TellsTo (wired_for state s) x to change)
    → after ≡ noting x before → new ≡ option_map change old
    → ((seen : History) → P seen → (x ≡ wired_as s (trace_of s seen) y) × (cast_by s y seen ≡ to) × MayCome (due s seen) (is_stopped seen) y × Q (y ∷ seen)) → SendsOn s old before new after P Q
shows_on s old new y x to change before after P Q did_act act tells counted is step front =
    let state = front_state before front in
    subst (λ page. GoesOn s old state new (front_state page front) P Q) (sym counted) (as_counted x (server_shows s old new y x to change state P Q did_act act (tells state) is step))
  where
    as_counted : (x : Happening) → GoesOn s old (front_state before front) new (noted x (front_state before front)) P Q → GoesOn s old (front_state before front) new (front_state (noting x before) front) P Q
    as_counted (did.Sent link bytes outcome) goes = goes
    as_counted (did.Cast peer bytes) goes = goes
    as_counted (did.Event e) goes = goes
    as_counted (did.Listen n) goes = goes
    as_counted (did.Dialled uplink) goes = goes
    as_counted (did.Closed link) goes = goes

-- the server sends bytes to a link that is no downlink
pub sent_on : (s : Setting) (old new : Option Told) (link : ℕ) (bytes : List ℕ) (outcome : Sent) (before after : PageSeen) (P Q : History → Type 0) → after ≡ counting (did.Sent link bytes outcome) before
    → new ≡ option_map (with_done (did.Sent link bytes outcome)) old
    → ((seen : History) → P seen → (down_of s (trace_of s seen) link ≡ None) × MayCome (due s seen) (is_stopped seen) (did.Sent link bytes outcome) × Q (did.Sent link bytes outcome ∷ seen))
    → SendsOn s old before new after P Q
sent_on s old new link bytes outcome before after P Q counted is step =
    let x = did.Sent link bytes outcome in
    shows_on s old new x x [] (with_done x) before after P Q tt tt (λ state. tells_done (wired_for state s) x refl refl) counted is (λ seen p.
    let stepped = step seen p in
    (ap (λ down. sent_as down link bytes outcome) (sym stepped.0), ap (λ down. list_of (option_map down_address down)) stepped.0, stepped.1, stepped.2))

-- a line to a downlink
pub line_on : (s : Setting) (old new : Option Told) (link : ℕ) (down : DownSeen) (line : List ℕ) (before after : PageSeen) (P Q : History → Type 0) → after ≡ counting (did.Cast (first_down + down.number) line) before
    → new ≡ option_map (with_cast (first_down + down.number) down.to line) old
    → ((seen : History) → P seen → (down_of s (trace_of s seen) link ≡ Some down) × MayCome (due s seen) (is_stopped seen) (did.Sent link line (sent.Took (length line))) × Q (did.Sent link line (sent.Took (length line)) ∷ seen))
    → SendsOn s old before new after P Q
line_on s old new link down line before after P Q counted is step =
    let number = first_down + down.number in
    let whole = sent.Took (length line) in
    shows_on s old new (did.Sent link line whole) (did.Cast number line) (down.to ∷ []) (with_cast number down.to line) before after P Q tt tt (λ state. tells_cast (wired_for state s) number down.to line) counted is (λ seen p.
    let stepped = step seen p in
    (ap (λ found. sent_as found link line whole) (sym stepped.0), ap (λ found. list_of (option_map down_address found)) stepped.0, stepped.1, stepped.2))

-- a datagram to a peer
pub cast_on : (s : Setting) (old new : Option Told) (peer : ℕ) (to : Addr) (bytes : List ℕ) (before after : PageSeen) (P Q : History → Type 0) → option_map address_of (slice_get s.peers peer) ≡ Some to
    → after ≡ counting (did.Cast peer bytes) before → new ≡ option_map (with_cast peer to bytes) old
    → ((seen : History) → P seen → MayCome (due s seen) (is_stopped seen) (did.Cast peer bytes) × Q (did.Cast peer bytes ∷ seen)) → SendsOn s old before new after P Q
cast_on s old new peer to bytes before after P Q at counted is step =
    let x = did.Cast peer bytes in
    shows_on s old new x x (to ∷ []) (with_cast peer to bytes) before after P Q tt tt (λ state. tells_cast (wired_for state s) peer to bytes) counted is (λ seen p.
    let stepped = step seen p in
    (refl, ap list_of at, stepped.0, stepped.1))

pub sends_then : (s : Setting) (old : Option Told) (before : PageSeen) (mid : Option Told) (between : PageSeen) (new : Option Told) (after : PageSeen) (P Q R : History → Type 0)
    → SendsOn s old before mid between P Q → SendsOn s mid between new after Q R → SendsOn s old before new after P R
sends_then s old before mid between new after P Q R first second front start serves = second front start (first front start serves)

-- what the server does that isn't counted
pub acts_uncounted : (s : Setting) (old new : Option Told) (page : PageSeen) (P Q : History → Type 0) → ActsOn s old new P Q → SendsOn s old page new page P Q
acts_uncounted s old new page P Q acts front = acts (front_state page front)

-- no act of the server's is due, no stop has come, and these totals are published
pub record IsIdle (s : Setting) (totals : Totals) (seen : History) : Type 0 where
  pub none : due s seen ≡ []
  pub going : is_stopped seen ≡ false
  pub told : published s seen ≡ totals

pub paid_at : (x : Happening) (state : FrontState) → ports_of (paid x state) ≡ ports_of state
paid_at x state = by state.duties
  where
    by : (duties : List Duty) → ports_of (paid_by x duties state) ≡ ports_of state
    by [] = refl
    by (duty ∷ duties) = refl

-- a front acts where the server doesn't
pub front_acts : (s : Setting) (totals : Totals) (old new : Option Told) (x : Happening) (state : FrontState) (P : History → Type 0) → IsAct x → ((t : Setting) → Tells t x (with_done x)) → FulfilsNext totals state x
    → new ≡ option_map (with_done x) old → ((seen : History) → P seen → IsIdle s totals seen) → GoesOn s old state new (paid x state) P P
front_acts s totals old new x state P act tells first is idle None serves = is ∙ ap (option_map (with_done x)) serves
front_acts s totals old new x state P act tells first is idle (Some start) serves =
    let more = serves.0 in
    let seen = serves.1 in
    let rests = idle seen serves.5 in
    let next : FulfilsNext (published s seen) state x = subst (λ t. FulfilsNext t state x) (sym rests.told) first in (
      x ∷ more,
      seen,
      is ∙ ap (option_map (with_done x)) serves.2 ∙ ap Some (tells (wired_for state s) (told_after (wired_for state s) s start more seen))
          ∙ ap Some (told_unseen (wired_for state s) s x start more seen)
          ∙ ap (λ ports. Some (told_after (wired ports.upload (wired ports.page s)) s start (x ∷ more) seen)) (sym (paid_at x state)),
      answers_act s more x state (paid x state) seen seen act serves.3 (subst (λ acts. Steps s acts x state (paid x state) seen seen) (sym rests.none) (rests.going, next, refl, refl)),
      serves.4,
      serves.5,
    )

-- an event comes, and the server sees what the front hands up
pub event_comes : (s : Setting) (totals : Totals) (old new : Option Told) (e up : Event) (state : FrontState) (page : PageSeen) (front : FrontSeen) (P Q : History → Type 0) → ports_of state ≡ ports_of (front_state page front)
    → state.duties ≡ [] → state.acts ≡ [] → Turns state.front e front up → PageTurns state.page up page
    → ((t : Setting) → Tells t (did.Event e) (with_done (did.Event e))) → new ≡ option_map (with_done (did.Event e)) old → ((seen : History) → P seen → IsIdle s totals seen × Q (did.Event up ∷ seen))
    → GoesOn s old state new (front_state page front) P Q
event_comes s totals old new e up state page front P Q at done none turns page_turns tells is step None serves = is ∙ ap (option_map (with_done (did.Event e))) serves
event_comes s totals old new e up state page front P Q at done none turns page_turns tells is step (Some start) serves =
    let more = serves.0 in
    let seen = serves.1 in
    let stepped = step seen serves.5 in
    let idle = stepped.0 in (
      did.Event e ∷ more,
      did.Event up ∷ seen,
      is ∙ ap (option_map (with_done (did.Event e))) serves.2 ∙ ap Some (tells (wired_for state s) (told_after (wired_for state s) s start more seen))
          ∙ ap (λ ports. Some (told_after (wired ports.upload (wired ports.page s)) s start (did.Event e ∷ more) (did.Event up ∷ seen))) at,
      (state, seen, serves.3, record { up = up; after = front; page_after = page; turns = turns; page_turns = page_turns; idle = idle.none; done = done; paid = none; state_is = refl; seen_is = refl }),
      (serves.4, subst (λ acts. MayCome acts (is_stopped seen) (did.Event up)) (sym idle.none) (idle.going, tt)),
      stepped.1,
    )

-- ---- the totals that are published

-- nothing is open where a round is finished
pub finished_all : (h : History) → open_events h ≡ 0 → finished h ≡ h
finished_all [] none = refl
finished_all (x ∷ earlier) none = ap (λ m. if m == 0 then x ∷ earlier else finished earlier) none
