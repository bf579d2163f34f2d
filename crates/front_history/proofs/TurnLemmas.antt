-- What the two fronts make of an event is what pools make of it; and how the server sees it.
use Rattle.std.proofs.Common.{◌≡◌, ℕ, ◌==◌, ◌&&◌, nat_le, Bool, true, false, List, [], ◌∷◌, length, max, min, take, drop, if◌then◌else◌, refl, sym, ap, ◌∙◌, subst, arith, eq-eqb, leb-false, leb-true, Option, Some, None, ◌⊎◌, inl, inr}
use Rattle.std.specs.Prelude.{IfSome, is_some}
use Rattle.std.specs.List.{find}
use Rattle.std.proofs.lemmas.Bool.{and_parts, cases_Bool, eqb-true, false_from_ne_true, true≢false}
use Rattle.aprs_base.specs.Outside.{new_link}
use Rattle.aprs_base.specs.declared.texts.Addr.{Addr}
use Rattle.aprs_base.specs.declared.events.Event.{Event}
use Rattle.aprs_base.specs.declared.events.Event.TheVariants as event
use Rattle.aprs_base.specs.declared.events.Happening.TheVariants as did
use Rattle.aprs_history.specs.History.{History}
use Rattle.aprs_history.specs.Headline.{HasFreshLinks}
use Rattle.http_submit.specs.Fronts.{FrontSeen, Hears, TurnsAt, TurnsBy, handed_up, is_at, judged, last_moment}
use Rattle.http_submit.specs.Heads.{HasNoHead}
use Rattle.http_submit.specs.Pools.{PoolSeen, WaitingSeen, added, heard, is_link, most_bytes, opened as with_opened, settled, ticked, without}
use Rattle.http_submit.specs.Requests.{IsPost}
use Rattle.http_submit.specs.declared.requests.Post.{Post}
use Rattle.http_submit.specs.declared.requests.Post.TheVariants as post
use Rattle.status_page.specs.Gets.{IsGet}
use Rattle.status_page.specs.PageFronts.{PoolTurns}
use Rattle.status_page.specs.PageFronts.{Hears as HearsGet, judged as judged_get}
use Rattle.status_page.specs.declared.requests.Get.{Get}
use Rattle.status_page.specs.declared.requests.Get.TheVariants as get
use Rattle.status_page.proofs.GetLemmas.{asks_once as get_once}
use Rattle.front_history.specs.Replies.{GetStatus, IsGetPart, IsPostPart, PostStatus, StatusOfGet, StatusOfPost, moment_in}
use Rattle.front_history.specs.Views.{BytesAreSeen, IsSeenAs, IsSeenBehind, IsSubmission, is_waiting, opened_at, opened_from, request_of}
use Rattle.front_history.proofs.OtherLemmas.{at_is, opened_within}
use Rattle.front_history.proofs.PoolLemmas.{listed, listed_found, listed_missing, one, waiting_if, waiting_unless}
use Rattle.front_history.proofs.WaitingLemmas.{Counts, Judged, PoolGoes, Pooled, found_waits, heard_found, idle, waiting_opened}

-- ---- what is answered may not go on

abbrev may_go_on : Post → Bool
may_go_on post.More = true
may_go_on p = false

-- the same bytes don't ask for one thing that may go on and for one that may not
goes_on_once : (request : List ℕ) (p : Post) → IsPost request p → IsPost request post.More → may_go_on p ≡ true
goes_on_once request p first second = of (cases_Bool (may_go_on p))
  where
    of : (may_go_on p ≡ true) ⊎ (may_go_on p ≡ false) → may_go_on p ≡ true
    of (inl goes) = goes
    of (inr stops) =
        let differ : p ≡ post.More → ⊥ = λ same. true≢false (sym (ap may_go_on same) ∙ stops) in
        let none : HasNoHead request = λ head rest begins. differ (first.headed head rest begins ∙ sym (second.headed head rest begins)) in
        absurd (differ (first.headless none ∙ sym (second.headless none)))

pub post_apart : (request : List ℕ) (status : ℕ) → PostStatus request status → IsPostPart request → ⊥
post_apart request status has part = of has.0 (goes_on_once request has.0 has.1 part.0) has.2
  where
    of : (p : Post) → may_go_on p ≡ true → StatusOfPost p request status → ⊥
    of (post.Whole start len known) goes is = true≢false (sym goes)
    of (post.Refused why) goes is = true≢false (sym goes)
    of post.More goes is = let most = is.0 in let less = part.1 in omega arith

pub get_apart : (request : List ℕ) (status : ℕ) → GetStatus request status → IsGetPart request → ⊥
get_apart request status has part =
    let more : StatusOfGet get.More request status = subst (λ g. StatusOfGet g request status) (get_once request has.0 get.More has.1 part.0) has.2 in
    let most = more.0 in
    let less = part.1 in
    omega arith

abbrev pub PostPool : Option ℕ → History → PoolSeen → Type 0
PostPool u = Pooled u PostStatus IsPostPart post_apart

abbrev pub PostGoes : Option ℕ → ℕ → PoolSeen → Event → PoolSeen → Type 0
PostGoes u = PoolGoes u PostStatus IsPostPart post_apart

abbrev pub PagePool : Option ℕ → History → PoolSeen → Type 0
PagePool v = Pooled v GetStatus IsGetPart get_apart

abbrev pub PageGoes : Option ℕ → ℕ → PoolSeen → Event → PoolSeen → Type 0
PageGoes v = PoolGoes v GetStatus IsGetPart get_apart

-- ---- no port

none_opened : (h : History) (k : ℕ) → opened_from None h k ≡ None
none_opened [] k = refl
none_opened (did.Event (event.Opened listener link from) ∷ h) k = none_opened h k
none_opened (did.Event e ∷ h) k = none_opened h k
none_opened (x ∷ h) k = none_opened h k

none_waits : (h : History) (ws : List WaitingSeen) → Counts None h (idle ws) → ws ≡ []
none_waits h [] counts = refl
none_waits h (w ∷ ws) counts =
    let counted = counts w.link in
    let idle_link : is_waiting None h w.link ≡ false = false_from_ne_true (is_waiting None h w.link) (λ waits. true≢false (sym (waiting_opened None h w.link waits) ∙ ap is_some (none_opened h w.link))) in
    let none : one (is_waiting None h w.link) ≡ 0 = ap one idle_link in
    let here : one (w.link == w.link) ≡ 1 = ap one (eq-eqb w.link w.link refl) in
    absurd (omega arith)

module _ (HasStatus : List ℕ → ℕ → Type 0) (MayGoOn : List ℕ → Type 0) (apart : (request : List ℕ) (status : ℕ) → HasStatus request status → MayGoOn request → ⊥) where
  idle_goes : (now : ℕ) (e : Event) (after : PoolSeen) → after ≡ idle [] → PoolGoes None HasStatus MayGoOn apart now (idle []) e after
  idle_goes now (event.Tick moment) after same = same
  idle_goes now (event.Opened listener link from) after same = same
  idle_goes now (event.Bytes link bytes) after same = same
  idle_goes now (event.Ended link) after same = same
  idle_goes now (event.Joined uplink link at) after same = same
  idle_goes now (event.Unjoined uplink) after same = same
  idle_goes now (event.Room link) after same = same
  idle_goes now (event.Datagram listener from bytes) after same = same
  idle_goes now event.Stop after same = same

  goes_without : (h : History) (now : ℕ) (e : Event) (ws : List WaitingSeen) (after : PoolSeen) → Counts None h (idle ws) → after ≡ idle ws → PoolGoes None HasStatus MayGoOn apart now (idle ws) e after
  goes_without h now e ws after counts same =
      let none = none_waits h ws counts in
      subst (λ xs. PoolGoes None HasStatus MayGoOn apart now (idle xs) e after) (sym none) (idle_goes now e after (same ∙ ap idle none))

-- ---- the front for packets

post_judged : (u : Option ℕ) (link : ℕ) (bytes so_far : List ℕ) (p : Post) (pool : PoolSeen) → IsPost so_far p → Judged u PostStatus IsPostPart post_apart link bytes so_far pool (judged link bytes so_far p pool)
post_judged u link bytes so_far (post.Whole start len known) pool is = inl (if known then 202 else 403, (post.Whole start len known, is, refl), refl)
post_judged u link bytes so_far (post.Refused status) pool is = inl (status, (post.Refused status, is, refl), refl)
post_judged u link bytes so_far post.More pool is = of (nat_le most_bytes (length so_far)) refl
  where
    of : (b : Bool) → nat_le most_bytes (length so_far) ≡ b → Judged u PostStatus IsPostPart post_apart link bytes so_far pool (if b then settled link 413 pool else added link bytes pool)
    of true full = inl (413, (post.More, is, (leb-true most_bytes (length so_far) full, refl)), refl)
    of false short = inr ((is, leb-false most_bytes (length so_far) short), refl)

pool_or : (b : Bool) (before : FrontSeen) (pool : PoolSeen) → (if b then record before { pool = pool } else before).pool ≡ (if b then pool else before.pool)
pool_or true before pool = refl
pool_or false before pool = refl

module _ (n : ℕ) (h : History) (before after : FrontSeen) (up : Event) (ws : List WaitingSeen) (pool_is : before.pool ≡ idle ws) where
  post_heard : (link : ℕ) (bytes : List ℕ) (found : Option WaitingSeen) → find (is_link link) ws ≡ found → Hears n link bytes found before after up → PostGoes (Some n) (moment_in h) (idle ws) (event.Bytes link bytes) after.pool
  post_heard link bytes None found hears = rw found (ap (λ f. f.pool) hears.0 ∙ pool_is)
  post_heard link bytes (Some w) found hears =
      let so_far = heard w bytes in
      rw found
      (subst (λ f. Judged (Some n) PostStatus IsPostPart post_apart link bytes so_far (idle ws) f.pool) (sym hears.2)
      (subst (λ p. Judged (Some n) PostStatus IsPostPart post_apart link bytes so_far (idle ws) (judged link bytes so_far hears.0 p)) (sym pool_is) (post_judged (Some n) link bytes so_far hears.0 (idle ws) hears.1)))

  post_goes_at : (e : Event) → before.moment ≡ moment_in h → TurnsAt n before e after up → PostGoes (Some n) (moment_in (did.Event e ∷ h)) (idle ws) e after.pool
  post_goes_at (event.Tick moment) moment_is turns =
      ap (λ f. f.pool) turns.0 ∙ ap (λ m. ticked (max (min moment last_moment) m) before.pool) moment_is ∙ ap (ticked (max (min moment last_moment) (moment_in h))) pool_is
  post_goes_at (event.Opened listener link from) moment_is turns =
      ap (λ f. f.pool) turns.0 ∙ pool_or (listener == n) before (with_opened link from before.moment before.pool)
      ∙ ap (λ m. if listener == n then with_opened link from m before.pool else before.pool) moment_is ∙ ap (λ p. if listener == n then with_opened link from (moment_in h) p else p) pool_is
  post_goes_at (event.Bytes link bytes) moment_is turns = post_heard link bytes (find (is_link link) ws) refl (subst (λ p. Hears n link bytes (find (is_link link) p.waiting) before after up) pool_is turns)
  post_goes_at (event.Ended link) moment_is turns = ap (λ f. f.pool) turns.0 ∙ ap (without link) pool_is
  post_goes_at (event.Joined uplink link at) moment_is turns = ap (λ f. f.pool) turns.0 ∙ pool_is
  post_goes_at (event.Unjoined uplink) moment_is turns = ap (λ f. f.pool) turns.0 ∙ pool_is
  post_goes_at (event.Room link) moment_is turns = ap (λ f. f.pool) turns.0 ∙ pool_is
  post_goes_at (event.Datagram listener from bytes) moment_is turns = ap (λ f. f.pool) turns.0 ∙ pool_is
  post_goes_at event.Stop moment_is turns = ap (λ f. f.pool) turns.0 ∙ pool_is

pub post_goes : (u : Option ℕ) (h : History) (e : Event) (before after : FrontSeen) (up : Event) (ws : List WaitingSeen) → before.pool ≡ idle ws → PostPool u h (idle ws) → IfSome u (λ n. before.moment ≡ moment_in h)
    → TurnsBy u before e after up → PostGoes u (moment_in (did.Event e ∷ h)) (idle ws) e after.pool
post_goes None h e before after up ws pool_is was moment_is turns = goes_without PostStatus IsPostPart post_apart h (moment_in (did.Event e ∷ h)) e ws after.pool was.counts (ap (λ f. f.pool) turns.0 ∙ pool_is)
post_goes (Some n) h e before after up ws pool_is was moment_is turns = post_goes_at n h before after up ws pool_is e moment_is turns

-- ---- its moment

moment_or : (b : Bool) (before other : FrontSeen) → other.moment ≡ before.moment → (if b then other else before).moment ≡ before.moment
moment_or true before other same = same
moment_or false before other same = refl

moment_heard : (n link : ℕ) (bytes : List ℕ) (found : Option WaitingSeen) (before after : FrontSeen) (up : Event) → Hears n link bytes found before after up → after.moment ≡ before.moment
moment_heard n link bytes None before after up hears = ap (λ f. f.moment) hears.0
moment_heard n link bytes (Some w) before after up hears = ap (λ f. f.moment) hears.2

moment_at : (n : ℕ) (h : History) (e : Event) (before after : FrontSeen) (up : Event) → before.moment ≡ moment_in h → TurnsAt n before e after up → after.moment ≡ moment_in (did.Event e ∷ h)
moment_at n h (event.Tick moment) before after up is turns = ap (λ f. f.moment) turns.0 ∙ ap (max (min moment last_moment)) is
moment_at n h (event.Opened listener link from) before after up is turns = ap (λ f. f.moment) turns.0 ∙ moment_or (listener == n) before _ refl ∙ is
moment_at n h (event.Bytes link bytes) before after up is turns = moment_heard n link bytes (find (is_link link) before.pool.waiting) before after up turns ∙ is
moment_at n h (event.Ended link) before after up is turns = ap (λ f. f.moment) turns.0 ∙ is
moment_at n h (event.Joined uplink link at) before after up is turns = ap (λ f. f.moment) turns.0 ∙ is
moment_at n h (event.Unjoined uplink) before after up is turns = ap (λ f. f.moment) turns.0 ∙ is
moment_at n h (event.Room link) before after up is turns = ap (λ f. f.moment) turns.0 ∙ is
moment_at n h (event.Datagram listener from bytes) before after up is turns = ap (λ f. f.moment) turns.0 ∙ is
moment_at n h event.Stop before after up is turns = ap (λ f. f.moment) turns.0 ∙ is

pub front_moment : (u : Option ℕ) (h : History) (e : Event) (before after : FrontSeen) (up : Event) → IfSome u (λ n. before.moment ≡ moment_in h) → TurnsBy u before e after up → IfSome u (λ n. after.moment ≡ moment_in (did.Event e ∷ h))
front_moment None h e before after up is turns = tt
front_moment (Some n) h e before after up is turns = moment_at n h e before after up is turns

-- ---- how the server sees an event

-- a request that is whole is handed up as it is
seen_heard : (n : ℕ) (h : History) (link : ℕ) (bytes so_far : List ℕ) (p : Post) (from : Addr) → opened_from (Some n) h link ≡ Some from → so_far ≡ request_of (did.Event (event.Bytes link bytes) ∷ h) link
    → IsSubmission n (did.Event (event.Bytes link bytes) ∷ h) link p (event.Bytes link bytes) (handed_up n from so_far (event.Bytes link bytes) p)
seen_heard n h link bytes so_far (post.Whole start len known) from is_from is = (from, is_from, ap (λ xs. event.Datagram n from (take len (drop start xs))) is)
seen_heard n h link bytes so_far (post.Refused status) from is_from is = refl
seen_heard n h link bytes so_far post.More from is_from is = refl

seen_bytes : (n : ℕ) (h : History) (link : ℕ) (bytes : List ℕ) (ws : List WaitingSeen) (found : Option WaitingSeen) (before after : FrontSeen) (up : Event) → find (is_link link) ws ≡ found → PostPool (Some n) h (idle ws)
    → Hears n link bytes found before after up → IsSeenBehind n h (event.Bytes link bytes) up
seen_bytes n h link bytes ws None before after up none was hears =
    let zero_listed = listed_missing link ws none in
    let counted = was.counts link in
    let unwaited : is_waiting (Some n) h link ≡ false = waiting_unless (is_waiting (Some n) h link) (omega arith) in
    subst (λ b. BytesAreSeen b n (did.Event (event.Bytes link bytes) ∷ h) link (event.Bytes link bytes) up) (sym unwaited) hears.1
seen_bytes n h link bytes ws (Some w) before after up is was hears =
    let brought = did.Event (event.Bytes link bytes) ∷ h in
    let found = found_waits (Some n) PostStatus IsPostPart post_apart h link bytes ws w is was.waits in
    let same : w.link ≡ link = eqb-true w.link link found.1 in
    let is_so_far = heard_found (Some n) PostStatus IsPostPart post_apart h link bytes ws w is was.waits in
    let some_listed = listed_found link ws w is in
    let counted = was.counts link in
    let waits : is_waiting (Some n) h link ≡ true = waiting_if (is_waiting (Some n) h link) (omega arith) in
    subst (λ b. BytesAreSeen b n brought link (event.Bytes link bytes) up) (sym waits) (
      hears.0,
      subst (λ xs. IsPost xs hears.0) is_so_far hears.1,
      subst (IsSubmission n brought link hears.0 (event.Bytes link bytes)) (sym hears.3)
          (seen_heard n h link bytes (heard w bytes) hears.0 w.from (subst (λ k. opened_from (Some n) h k ≡ Some w.from) same found.0.opened) is_so_far),
    )

seen_behind : (n : ℕ) (h : History) (e : Event) (ws : List WaitingSeen) (before after : FrontSeen) (up : Event) → before.pool ≡ idle ws → PostPool (Some n) h (idle ws) → TurnsAt n before e after up → IsSeenBehind n h e up
seen_behind n h (event.Bytes link bytes) ws before after up pool_is was turns =
    seen_bytes n h link bytes ws (find (is_link link) ws) before after up refl was (subst (λ p. Hears n link bytes (find (is_link link) p.waiting) before after up) pool_is turns)
seen_behind n h (event.Tick moment) ws before after up pool_is was turns = turns.1
seen_behind n h (event.Opened listener link from) ws before after up pool_is was turns = turns.1
seen_behind n h (event.Ended link) ws before after up pool_is was turns = turns.1
seen_behind n h (event.Joined uplink link at) ws before after up pool_is was turns = turns.1
seen_behind n h (event.Unjoined uplink) ws before after up pool_is was turns = turns.1
seen_behind n h (event.Room link) ws before after up pool_is was turns = turns.1
seen_behind n h (event.Datagram listener from bytes) ws before after up pool_is was turns = turns.1
seen_behind n h event.Stop ws before after up pool_is was turns = turns.1

pub seen_as : (u : Option ℕ) (h : History) (e : Event) (ws : List WaitingSeen) (before after : FrontSeen) (up : Event) → before.pool ≡ idle ws → PostPool u h (idle ws) → TurnsBy u before e after up → IsSeenAs u h e up
seen_as None h e ws before after up pool_is was turns = turns.1
seen_as (Some n) h e ws before after up pool_is was turns = seen_behind n h e ws before after up pool_is was turns

-- ---- an event is seen as it came, or as a datagram for bytes of a link that waits

abbrev pub IsTaken : Option ℕ → History → (came seen : Event) → Type 0
IsTaken u h (event.Bytes link bytes) up = (listener : ℕ) × (from : Addr) × (body : List ℕ) × (is_waiting u h link ≡ true) × (up ≡ event.Datagram listener from body)
IsTaken u h e up = ⊥

abbrev pub IsAlike : Option ℕ → History → (came seen : Event) → Type 0
IsAlike u h e up = (up ≡ e) ⊎ IsTaken u h e up

alike_post : (n : ℕ) (h : History) (link : ℕ) (bytes : List ℕ) (p : Post) (up : Event) → is_waiting (Some n) h link ≡ true → IsSubmission n (did.Event (event.Bytes link bytes) ∷ h) link p (event.Bytes link bytes) up
    → IsAlike (Some n) h (event.Bytes link bytes) up
alike_post n h link bytes (post.Whole start len known) up waits is = inr (n, is.0, take len (drop start (request_of (did.Event (event.Bytes link bytes) ∷ h) link)), waits, is.2)
alike_post n h link bytes (post.Refused status) up waits is = inl is
alike_post n h link bytes post.More up waits is = inl is

alike_bytes : (b : Bool) (n : ℕ) (h : History) (link : ℕ) (bytes : List ℕ) (up : Event) → is_waiting (Some n) h link ≡ b → BytesAreSeen b n (did.Event (event.Bytes link bytes) ∷ h) link (event.Bytes link bytes) up
    → IsAlike (Some n) h (event.Bytes link bytes) up
alike_bytes false n h link bytes up waits is = inl is
alike_bytes true n h link bytes up waits is = alike_post n h link bytes is.0 up waits is.2

pub alike : (u : Option ℕ) (h : History) (e up : Event) → IsSeenAs u h e up → IsAlike u h e up
alike None h e up is = inl is
alike (Some n) h (event.Bytes link bytes) up is = alike_bytes (is_waiting (Some n) h link) n h link bytes up refl is
alike (Some n) h (event.Tick moment) up is = inl is
alike (Some n) h (event.Opened listener link from) up is = inl is
alike (Some n) h (event.Ended link) up is = inl is
alike (Some n) h (event.Joined uplink link at) up is = inl is
alike (Some n) h (event.Unjoined uplink) up is = inl is
alike (Some n) h (event.Room link) up is = inl is
alike (Some n) h (event.Datagram listener from bytes) up is = inl is
alike (Some n) h event.Stop up is = inl is

-- what is seen of an event brings the link that came with it
pub same_link : (u : Option ℕ) (h : History) (e up : Event) → IsAlike u h e up → new_link up ≡ new_link e
same_link u h e up (inl same) = ap new_link same
same_link u h (event.Bytes link bytes) up (inr taken) = ap new_link taken.4
same_link u h e up (inr taken) = absurd taken

-- what is seen of an event leaves the moment that the event leaves
same_moment_after : (e : Event) (seen h : History) → moment_in seen ≡ moment_in h → moment_in (did.Event e ∷ seen) ≡ moment_in (did.Event e ∷ h)
same_moment_after (event.Tick moment) seen h same = ap (max (min moment last_moment)) same
same_moment_after e seen h same = same

pub same_moment : (u : Option ℕ) (seen h : History) (e up : Event) → IsAlike u h e up → moment_in seen ≡ moment_in h → moment_in (did.Event up ∷ seen) ≡ moment_in (did.Event e ∷ h)
same_moment u seen h e up (inl is) same = ap (λ x. moment_in (did.Event x ∷ seen)) is ∙ same_moment_after e seen h same
same_moment u seen h (event.Bytes link bytes) up (inr taken) same = ap (λ x. moment_in (did.Event x ∷ seen)) taken.4 ∙ same
same_moment u seen h e up (inr taken) same = absurd taken

-- and opens the same
abbrev pub SameOpenings : History → History → Type 0
SameOpenings seen h = (port : Option ℕ) (k : ℕ) → opened_from port seen k ≡ opened_from port h k

opens_same : (e : Event) (seen h : History) → SameOpenings seen h → SameOpenings (did.Event e ∷ seen) (did.Event e ∷ h)
opens_same (event.Opened listener link from) seen h same port k = ap (λ o. if is_at port listener && link == k then Some from else o) (same port k)
opens_same e seen h same port k = same port k

pub same_openings : (u : Option ℕ) (seen h : History) (e up : Event) → IsAlike u h e up → SameOpenings seen h → SameOpenings (did.Event up ∷ seen) (did.Event e ∷ h)
same_openings u seen h e up (inl is) same port k = ap (λ x. opened_from port (did.Event x ∷ seen) k) is ∙ opens_same e seen h same port k
same_openings u seen h (event.Bytes link bytes) up (inr taken) same port k = ap (λ x. opened_from port (did.Event x ∷ seen) k) taken.4 ∙ same port k
same_openings u seen h e up (inr taken) same port k = absurd taken

-- ---- the front for the page

get_judged : (v : Option ℕ) (link : ℕ) (bytes so_far : List ℕ) (g : Get) (pool : PoolSeen) → IsGet so_far g → Judged v GetStatus IsGetPart get_apart link bytes so_far pool (judged_get link bytes so_far g pool)
get_judged v link bytes so_far get.Whole pool is = inl (200, (get.Whole, is, refl), refl)
get_judged v link bytes so_far (get.Refused status) pool is = inl (status, (get.Refused status, is, refl), refl)
get_judged v link bytes so_far get.More pool is = of (nat_le most_bytes (length so_far)) refl
  where
    of : (b : Bool) → nat_le most_bytes (length so_far) ≡ b → Judged v GetStatus IsGetPart get_apart link bytes so_far pool (if b then settled link 413 pool else added link bytes pool)
    of true full = inl (413, (get.More, is, (leb-true most_bytes (length so_far) full, refl)), refl)
    of false short = inr ((is, leb-false most_bytes (length so_far) short), refl)

get_heard : (n link : ℕ) (now : ℕ) (bytes : List ℕ) (found : Option WaitingSeen) (ws : List WaitingSeen) (after : PoolSeen) → find (is_link link) ws ≡ found → HearsGet link bytes found (idle ws) after → PageGoes (Some n) now (idle ws) (event.Bytes link bytes) after
get_heard n link now bytes None ws after found hears = rw found hears
get_heard n link now bytes (Some w) ws after found hears =
    rw found (subst (Judged (Some n) GetStatus IsGetPart get_apart link bytes (heard w bytes) (idle ws)) (sym hears.2) (get_judged (Some n) link bytes (heard w bytes) hears.0 (idle ws) hears.1))

page_goes_at : (n now : ℕ) (e : Event) (ws : List WaitingSeen) (after : PoolSeen) → PoolTurns (Some n) now (idle ws) e after → PageGoes (Some n) now (idle ws) e after
page_goes_at n now (event.Tick moment) ws after turns = turns
page_goes_at n now (event.Opened listener link from) ws after turns = turns
page_goes_at n now (event.Bytes link bytes) ws after turns = get_heard n link now bytes (find (is_link link) ws) ws after refl turns
page_goes_at n now (event.Ended link) ws after turns = turns
page_goes_at n now (event.Joined uplink link at) ws after turns = turns
page_goes_at n now (event.Unjoined uplink) ws after turns = turns
page_goes_at n now (event.Room link) ws after turns = turns
page_goes_at n now (event.Datagram listener from bytes) ws after turns = turns
page_goes_at n now event.Stop ws after turns = turns

page_goes_by : (v : Option ℕ) (h : History) (now : ℕ) (e : Event) (ws : List WaitingSeen) (after : PoolSeen) → PagePool v h (idle ws) → PoolTurns v now (idle ws) e after → PageGoes v now (idle ws) e after
page_goes_by None h now e ws after was turns = goes_without GetStatus IsGetPart get_apart h now e ws after was.counts turns
page_goes_by (Some n) h now e ws after was turns = page_goes_at n now e ws after turns

-- ---- a link has one port

pub opened_once : (v u : Option ℕ) (k : ℕ) → ((n : ℕ) → v ≡ Some n → u ≡ Some n → ⊥) → (h : History) → HasFreshLinks h → opened_at v h k ≡ true → opened_at u h k ≡ true → ⊥
opened_once v u k apart [] fresh one_opened other_opened = true≢false (sym one_opened)
opened_once v u k apart (did.Event (event.Opened listener link from) ∷ h) fresh one_opened other_opened =
    of (is_at v listener && link == k) (is_at u listener && link == k) refl refl one_opened other_opened (opened_once v u k apart h fresh.0)
  where
    above : (port : Option ℕ) → opened_at port h k ≡ true → (link == k) ≡ true → ⊥
    above port opened same = let within = opened_within port k h opened in let is : link ≡ k = eqb-true link k same in let over = fresh.1 in omega arith

    of : (b c : Bool) → (is_at v listener && link == k) ≡ b → (is_at u listener && link == k) ≡ c → is_some (if b then Some from else opened_from v h k) ≡ true → is_some (if c then Some from else opened_from u h k) ≡ true
        → (opened_at v h k ≡ true → opened_at u h k ≡ true → ⊥) → ⊥
    of true true here there first second before =
        let ours = and_parts (is_at v listener) (link == k) here in
        let theirs = and_parts (is_at u listener) (link == k) there in
        apart listener (at_is v listener ours.0) (at_is u listener theirs.0)
    of true false here there first second before = above u second (and_parts (is_at v listener) (link == k) here).1
    of false true here there first second before = above v first (and_parts (is_at u listener) (link == k) there).1
    of false false here there first second before = before first second
opened_once v u k apart (did.Event (event.Joined uplink link at) ∷ h) fresh one_opened other_opened = opened_once v u k apart h fresh.0 one_opened other_opened
opened_once v u k apart (did.Event e ∷ h) fresh one_opened other_opened = opened_once v u k apart h fresh.0 one_opened other_opened
opened_once v u k apart (x ∷ h) fresh one_opened other_opened = opened_once v u k apart h fresh one_opened other_opened

unlisted : (link : ℕ) (ws : List WaitingSeen) → listed link ws ≡ 0 → find (is_link link) ws ≡ None
unlisted link ws none = of (find (is_link link) ws) refl
  where
    of : (found : Option WaitingSeen) → find (is_link link) ws ≡ found → found ≡ None
    of None is = refl
    of (Some w) is = let some = listed_found link ws w is in absurd (omega arith)

-- a link that waits at the other port isn't in this pool
not_found : (v u : Option ℕ) (h : History) (link : ℕ) (ws : List WaitingSeen) → ((n : ℕ) → v ≡ Some n → u ≡ Some n → ⊥) → HasFreshLinks h → PagePool v h (idle ws) → is_waiting u h link ≡ true → find (is_link link) ws ≡ None
not_found v u h link ws apart fresh was waits =
    let unwaited : is_waiting v h link ≡ false = false_from_ne_true (is_waiting v h link) (λ here. opened_once v u link apart h fresh (waiting_opened v h link here) (waiting_opened u h link waits)) in
    let none : one (is_waiting v h link) ≡ 0 = ap one unwaited in
    let counted = was.counts link in
    unlisted link ws (omega arith)

-- so the front for the page turns by what is handed up as by what came
goes_alike : (v u : Option ℕ) (h : History) (now : ℕ) (e up : Event) (ws : List WaitingSeen) (after : PoolSeen) → ((n : ℕ) → v ≡ Some n → u ≡ Some n → ⊥) → HasFreshLinks h → PagePool v h (idle ws) → IsAlike u h e up
    → PageGoes v now (idle ws) up after → PageGoes v now (idle ws) e after
goes_alike v u h now e up ws after apart fresh was (inl same) goes = subst (λ x. PageGoes v now (idle ws) x after) same goes
goes_alike v u h now (event.Bytes link bytes) up ws after apart fresh was (inr taken) goes =
    let kept : after ≡ idle ws = subst (λ x. PageGoes v now (idle ws) x after) taken.4 goes in
    rw (not_found v u h link ws apart fresh was taken.3) kept
goes_alike v u h now e up ws after apart fresh was (inr taken) goes = absurd taken

pub page_goes : (v u : Option ℕ) (h : History) (now : ℕ) (e up : Event) (ws : List WaitingSeen) (before after : PoolSeen) → ((n : ℕ) → v ≡ Some n → u ≡ Some n → ⊥) → HasFreshLinks h → before ≡ idle ws → PagePool v h (idle ws)
    → IsAlike u h e up → PoolTurns v now before up after → PageGoes v now (idle ws) e after
page_goes v u h now e up ws before after apart fresh pool_is was alike_to turns =
    goes_alike v u h now e up ws after apart fresh was alike_to (page_goes_by v h now up ws after was (subst (λ p. PoolTurns v now p up after) pool_is turns))
