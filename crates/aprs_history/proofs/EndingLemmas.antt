-- The events that end links come in the round of the end, and no link that lives is overfull once a round is finished.
use Rattle.std.proofs.Common.{◌≡◌, ℕ, ◌+◌, ◌==◌, ◌||◌, ◌&&◌, Bool, true, false, not, filter, List, [], ◌∷◌, ◌++◌, refl, sym, ap, ◌∙◌, arith, subst, ⊎_elim, if◌then◌else◌}
use Rattle.std.specs.Bool.{⊤, IsTrue}
use Rattle.std.specs.List.{list_any}
use Rattle.std.proofs.lemmas.Bool.{and_parts, cases_Bool, eq-eqb, eqb-true, false_from_ne_true, or_from, or_left, or_right, true≢false}
use Rattle.std.proofs.lemmas.Map.Views.{any-filter_same}
use Rattle.aprs_base.specs.Outside.{new_link}
use Rattle.aprs_base.specs.declared.events.Event.{Event}
use Rattle.aprs_base.specs.declared.events.Event.TheVariants as event
use Rattle.aprs_base.specs.declared.events.Sent.TheVariants as sent
use Rattle.aprs_base.specs.declared.events.Happening.TheVariants as did
use Rattle.aprs_history.specs.declared.verdicts.EndReason.{EndReason}
use Rattle.aprs_history.specs.declared.verdicts.EndReason.TheVariants.{ByPeer, FoundGone, ByStop}
use Rattle.aprs_history.specs.Setting.{Setting}
use Rattle.aprs_history.specs.Trace.{Trace, Entry, RoundBegan, Ended, is_live, is_member, is_other, live_links, placed, placed_all, served_links, turned_links}
use Rattle.aprs_history.specs.Links.{gone_links}
use Rattle.aprs_history.specs.Texts.{over_links, text_to}
use Rattle.aprs_history.specs.History.{History, begin_round, begun, end_each, end_stopped, ended, ends_round, is_stop, is_stopped, greatest_link, open_events, refused_links, refused_reason, trace_of, with_event}
use Rattle.aprs_history.specs.Acts.{IsRun}
use Rattle.aprs_history.specs.Headline.{HasFreshLinks, is_end_by_peer, is_round_start}
use Rattle.aprs_history.specs.Ending.{EventsEndInTheirRound, HasItsEvent, NoneServedIsOverfull, NoneStaysOverfull, is_end_of, last_events}
use Rattle.aprs_history.proofs.DueLemmas.{Goes, goes_before_end, goes_on, stopped_all}
use Rattle.aprs_history.proofs.EntryLemmas.{MayAdd, any_link, kept_ended, kept_event, kept_refused}

-- ---- members

member_filtered : (p : ℕ → Bool) (link : ℕ) (ks : List ℕ) → is_member link (filter p ks) ≡ (p link && is_member link ks)
member_filtered p link ks = any-filter_same (λ n. n == link) p (p link) (λ n is. ap p (eqb-true n link is)) ks

turned : (a b : ℕ) → (a == b) ≡ false → (b == a) ≡ false
turned a b other = false_from_ne_true (b == a) (λ same. true≢false (sym (eq-eqb a b (sym (eqb-true b a same))) ∙ other))

member_kept : (link n : ℕ) (ns : List ℕ) → is_member link ns ≡ true → is_member link (placed n ns) ≡ true
member_kept link n [] member = absurd (true≢false (sym member))
member_kept link n (m ∷ ns) member = of _ (member_kept link n ns)
  where
    of : (b : Bool) → (is_member link ns ≡ true → is_member link (placed n ns) ≡ true) → is_member link (if b then m ∷ placed n ns else n ∷ m ∷ ns) ≡ true
    of true later = ⊎_elim
        (λ here. or_left (m == link) (is_member link (placed n ns)) here)
        (λ other. or_right (m == link) (is_member link (placed n ns)) (later (sym (ap (λ b. b || is_member link ns) other) ∙ member)))
        (cases_Bool (m == link))
    of false later = or_right (n == link) (is_member link (m ∷ ns)) member

members_kept : (link : ℕ) (ns ms : List ℕ) → is_member link ms ≡ true → is_member link (placed_all ns ms) ≡ true
members_kept link [] ms member = member
members_kept link (n ∷ ns) ms member = members_kept link ns (placed n ms) (member_kept link n ms member)

-- ---- links that are left

module _ (s : Setting) (link : ℕ) where
  -- a link that is left once these have ended is none of them, and lived before
  record IsLeft (ks : List ℕ) (t : Trace) : Type 0 where
    other : is_member link ks ≡ false
    lived : is_live t link ≡ true

  left : (reason : ℕ → EndReason) (ks : List ℕ) (t : Trace) → is_live (end_each reason ks t) link ≡ true → IsLeft ks t
  left reason [] t lives = record { other = refl; lived = lives }
  left reason (k ∷ ks) t lives =
      let later = left reason ks (Ended k (reason k) ∷ t) lives in
      let both = and_parts (is_other k link) (is_live t link) (sym (member_filtered (is_other k) link (live_links t)) ∙ later.lived) in
      record { other = or_from (k == link) (is_member link ks) (turned link k (of (link == k) both.0)) later.other; lived = both.1 }
    where
      of : (b : Bool) → not b ≡ true → b ≡ false
      of true is = absurd (true≢false (sym is))
      of false is = refl

  same_text : (reason : ℕ → EndReason) (ks : List ℕ) (t : Trace) → text_to s (end_each reason ks t) link ≡ text_to s t link
  same_text reason [] t = refl
  same_text reason (k ∷ ks) t = same_text reason ks (Ended k (reason k) ∷ t)

  abbrev IsFine : Trace → Type 0
  IsFine t = is_live t link ≡ true → (text_to s t link).over ≡ false

  fine_refused : (t : Trace) → IsFine (end_each (refused_reason t) (refused_links s t) t)
  fine_refused t lives =
      let stays = left (refused_reason t) (refused_links s t) t lives in
      ap (λ text. text.over) (same_text (refused_reason t) (refused_links s t) t)
      ∙ false_from_ne_true (text_to s t link).over (λ over.
      let among : is_member link (over_links s t) ≡ true = member_filtered (λ k. (text_to s t k).over) link (live_links t) ∙ rw over stays.lived in
      true≢false (sym (members_kept link (turned_links t) (over_links s t) among) ∙ stays.other))

  fine_stopped : (stop : Bool) (t : Trace) → IsFine t → IsFine (end_stopped stop t)
  fine_stopped false t fine lives = fine lives
  fine_stopped true t fine lives = ap (λ text. text.over) (same_text (λ k. ByStop) (live_links t) t) ∙ fine (left (λ k. ByStop) (live_links t) t lives).lived

  -- where no link was stopped yet, none that is served is overfull
  fine_served : (h : History) (stop : Bool) (high : ℕ) (t : Trace) → Goes high t → IsFine t → is_member link (served_links (end_stopped stop t)) ≡ true → (text_to s (end_stopped stop t) link).over ≡ false
  fine_served h false high t goes fine member = fine (sym (ap (λ ks. is_member link (ks ++ live_links t)) goes.0) ∙ member)
  fine_served h true high t goes fine member =
      let all : served_links (end_stopped true t) ≡ live_links t = stopped_all 0 high (live_links t) t goes.1 refl ∙ ap (λ ks. ks ++ live_links t) goes.0 in
      ap (λ text. text.over) (same_text (λ k. ByStop) (live_links t) t) ∙ fine (sym (ap (is_member link) all) ∙ member)

  fine_ended : (ends : Bool) (n : ℕ) (e : Event) (t : Trace) → (if ends then 0 else n + 1) ≡ 0 → IsFine (ended s ends e t)
  fine_ended true n e t finished = fine_stopped (is_stop e) (end_each (refused_reason t) (refused_links s t) t) (fine_refused t)
  fine_ended false n e t finished = absurd (omega (arith, finished))

  fine : (h : History) → open_events h ≡ 0 → IsFine (trace_of s h)
  unfolding trace_of
  fine [] finished = λ lives. absurd (true≢false (sym lives))
  fine (did.Event e ∷ h) finished = fine_ended (ends_round (open_events h) e) (open_events h) e (with_event s e (begun (open_events h) (trace_of s h))) finished
  fine (did.Sent to bytes (sent.Took n) ∷ h) finished = fine h finished
  fine (did.Sent to bytes sent.Gone ∷ h) finished = fine h finished
  fine (x ∷ h) finished = fine h finished

  served_ended : (h : History) (e : Event) (ends : Bool) (n high : ℕ) (t : Trace) → Goes high t → (if ends then 0 else n + 1) ≡ 0 → is_member link (served_links (ended s ends e t)) ≡ true
      → (text_to s (ended s ends e t) link).over ≡ false
  served_ended h e true n high t goes finished =
      fine_served h (is_stop e) high (end_each (refused_reason t) (refused_links s t) t) (kept_refused s h (λ k. ⊥) (Goes high) (goes_on s h high) t goes) (fine_refused t)
  served_ended h e false n high t goes finished = absurd (omega (arith, finished))

  served : (h : History) → IsRun s h → HasFreshLinks h → open_events h ≡ 0 → is_member link (served_links (trace_of s h)) ≡ true → (text_to s (trace_of s h) link).over ≡ false
  unfolding trace_of
  served [] run fresh finished = λ member. absurd (true≢false (sym member))
  served (did.Event e ∷ h) run fresh finished =
      served_ended h e (ends_round (open_events h) e) (open_events h) (greatest_link (did.Event e ∷ h)) (with_event s e (begun (open_events h) (trace_of s h))) (goes_before_end s h e run fresh) finished
  served (did.Sent to bytes (sent.Took n) ∷ h) run fresh finished = served h run.0 fresh finished
  served (did.Sent to bytes sent.Gone ∷ h) run fresh finished = served h run.0 fresh finished
  served (x ∷ h) run fresh finished = served h run.0 fresh finished

pub none_stays_overfull : NoneStaysOverfull
none_stays_overfull s h link finished = fine s link h finished

pub none_served_is_overfull : NoneServedIsOverfull
none_served_is_overfull s h link run fresh = served s link h run fresh

-- ---- events of the round

-- the entries of the last round
abbrev Lately : (Entry → Type 0) → Trace → Type 0
Lately P [] = ⊤
Lately P (RoundBegan ∷ t) = ⊤
Lately P (entry ∷ t) = P entry × Lately P t

abbrev HasEvent : List Event → Entry → Type 0
HasEvent events (Ended link reason) = HasItsEvent events link reason
HasEvent events entry = ⊤

lately_at : (P : Entry → Type 0) (later earlier : Trace) (link : ℕ) (reason : EndReason) → list_any is_round_start later ≡ false → Lately P (later ++ Ended link reason ∷ earlier) → P (Ended link reason)
lately_at P [] earlier link reason same all = all.0
lately_at P (RoundBegan ∷ later) earlier link reason same all = absurd (true≢false same)
lately_at P (entry ∷ later) earlier link reason same all = lately_at P later earlier link reason same all.1

module _ (events : List Event) where
  abbrev AllHave : Trace → Type 0
  AllHave t = Lately (HasEvent events) t

  -- what isn't an end by such an event
  have_other : (t : Trace) (entry : Entry) → HasEvent events entry → AllHave t → AllHave (entry ∷ t)
  have_other t RoundBegan has all = tt
  have_other t entry has all = (has, all)

  have_gone : (ks : List ℕ) (t : Trace) → AllHave t → AllHave (end_each (λ k. FoundGone) ks t)
  have_gone [] t all = all
  have_gone (k ∷ ks) t all = have_gone ks (Ended k FoundGone ∷ t) (tt, all)

-- one event more
more_events : (e : Event) (events : List Event) (link : ℕ) (reason : EndReason) → HasItsEvent events link reason → HasItsEvent (e ∷ events) link reason
more_events e events link ByPeer has = or_right (is_end_of link e) (list_any (is_end_of link) events) has
more_events e events link ByStop has = or_right (is_stop e) (list_any is_stop events) has
more_events e events link reason has = tt

have_more : (e : Event) (events : List Event) (t : Trace) → AllHave events t → AllHave (e ∷ events) t
have_more e events [] all = tt
have_more e events (RoundBegan ∷ t) all = tt
have_more e events (Ended link reason ∷ t) all = (more_events e events link reason all.0, have_more e events t all.1)
have_more e events (entry ∷ t) all = (tt, have_more e events t all.1)

either : (a b : Bool) → (a || false) ≡ true → (a || b) ≡ true
either true b is = refl
either false b is = absurd (true≢false (sym is))

same_end : (link : ℕ) (e : Event) → is_end_by_peer link (did.Event e) ≡ is_end_of link e
same_end link (event.Ended other) = refl
same_end link e = refl

module _ (s : Setting) (e : Event) (events : List Event) where
  have_added : (t : Trace) (entry : Entry) → MayAdd s (did.Event e ∷ []) (λ link. ⊤) t entry → AllHave (e ∷ events) t → AllHave (e ∷ events) (entry ∷ t)
  have_added t (Ended link ByPeer) may all = (either (is_end_of link e) (list_any (is_end_of link) events) (sym (ap (λ b. b || false) (same_end link e)) ∙ may.1), all)
  have_added t (Ended link ByStop) may all = let none : link ∷ [] ≡ [] = may.0 in absurd cc
  have_added t (Ended link reason) may all = (tt, all)
  have_added t RoundBegan may all = tt
  have_added t entry may all = (tt, all)

  have_stopped : (t : Trace) (k : ℕ) → IsTrue (is_stopped (did.Event e ∷ [])) → AllHave (e ∷ events) t → AllHave (e ∷ events) (Ended k ByStop ∷ t)
  have_stopped t k stopped all = (either (is_stop e) (list_any is_stop events) stopped, all)

  -- what the event adds once the round has begun
  have_event : (ends : Bool) (t : Trace) → AllHave (e ∷ events) t → AllHave (e ∷ events) (ended s ends e (with_event s e t))
  have_event ends t all =
      kept_ended s (did.Event e ∷ []) (λ link. ⊤) (AllHave (e ∷ events)) have_added have_stopped ends [] e (with_event s e t) refl
      (kept_event s (did.Event e ∷ []) (λ link. ⊤) (AllHave (e ∷ events)) have_added [] e t refl (any_link (new_link e)) all)

have_begun : (s : Setting) (e : Event) (events : List Event) (ends first : Bool) (t : Trace) → AllHave events t
    → AllHave (e ∷ (if first then [] else events)) (ended s ends e (with_event s e (if first then begin_round t else t)))
have_begun s e events ends true t all = have_event s e [] ends (begin_round t) (have_gone (e ∷ []) (gone_links (RoundBegan ∷ t)) (RoundBegan ∷ t) tt)
have_begun s e events ends false t all = have_event s e events ends t (have_more e events t all)

all_have : (s : Setting) (h : History) → AllHave (last_events h) (trace_of s h)
unfolding trace_of
all_have s [] = tt
all_have s (did.Event e ∷ h) = have_begun s e (last_events h) (ends_round (open_events h) e) (open_events h == 0) (trace_of s h) (all_have s h)
all_have s (did.Sent link bytes (sent.Took n) ∷ h) = (tt, all_have s h)
all_have s (did.Sent link bytes sent.Gone ∷ h) = (tt, all_have s h)
all_have s (x ∷ h) = all_have s h

pub events_end_in_their_round : EventsEndInTheirRound
events_end_in_their_round s h later earlier link reason split same = lately_at (HasEvent (last_events h)) later earlier link reason same (subst (AllHave (last_events h)) split (all_have s h))
