-- Whole rounds: the history with a round's events, its trace, and the acts that are due after it.
use Rattle.std.specs.Bool.{⊤}
use Rattle.std.proofs.Common.{◌≡◌, ℕ, ◌+◌, ◌==◌, nat_lt, length, true, false, is_some, not, ◌&&◌, ◌||◌, List, [], ◌∷◌, ◌++◌, map, filter, refl, sym, ap, ◌∙◌, arith, if◌then◌else◌}
use Rattle.std.proofs.Math.Bool.{or-false}
use Rattle.std.proofs.lemmas.Bool.{and_parts, eqb-true, false_from_ne_true, not-true, or_parts, true≢false, false≢true}
use Rattle.aprs_base.specs.Outside.{new_link}
use Rattle.aprs_base.specs.declared.events.Event.{Event}
use Rattle.aprs_base.specs.declared.events.Event.TheVariants as event
use Rattle.aprs_base.specs.declared.events.Sent.TheVariants as sent
use Rattle.aprs_base.specs.declared.events.Happening.TheVariants as did
use Rattle.aprs_history.specs.Downs.{down_of}
use Rattle.aprs_history.specs.Setting.{Setting}
use Rattle.aprs_history.specs.Trace.{Trace, Ended, stopped_links, served_links, Entry, stopped_link}
use Rattle.aprs_history.specs.Links.{is_blocked, taken_by}
use Rattle.link_queue.specs.Lines.{text_bytes}
use Rattle.aprs_history.specs.Texts.{lines_of}
use Rattle.aprs_history.specs.History.{History, open_events, ends_round, is_stop, is_stopped, greatest_link, trace_of, with_event, begun, begin_round, end_round, ended}
use Rattle.aprs_history.specs.Rounds.{is_whole, with_events, events_trace, greatest_after, stopped_after}
use Rattle.aprs_history.specs.Acts.{acts_after, due, is_offered, offered_links}
use Rattle.aprs_history.specs.Stands.{CoreSeen, link_seen, Follows}
use Rattle.served_links.specs.Links.{is_ready, number_of}
use Rattle.aprs_history.proofs.EntryLemmas.{MayAdd, any_link, kept_after}
use Rattle.server_core.proofs.FollowLemmas.{left_over, queued-bytes}
use Rattle.server_core.proofs.WalkLemmas.{filter_seen, numbers_seen}

pub ends_not : (n : ℕ) (e next : Event) (events : List Event) → is_whole n (e ∷ next ∷ events) ≡ true → (ends_round n e ≡ false) × (is_whole (n + 1) (next ∷ events) ≡ true)
ends_not n e next events whole =
    let parts = and_parts (not (ends_round n e)) (is_whole (n + 1) (next ∷ events)) whole in
    (not-true (ends_round n e) parts.0, parts.1)

pub more_events : (n : ℕ) (e : Event) (h : History) → ends_round n e ≡ false → open_events h ≡ n → open_events (did.Event e ∷ h) ≡ n + 1
more_events n e h goes_on open_is =
    ap (λ m. if ends_round m e then 0 else m + 1) open_is ∙ ap (λ b. if b then 0 else n + 1) goes_on

no_events : (n : ℕ) (e : Event) (h : History) → ends_round n e ≡ true → open_events h ≡ n → open_events (did.Event e ∷ h) ≡ 0
no_events n e h ends open_is = ap (λ m. if ends_round m e then 0 else m + 1) open_is ∙ ap (λ b. if b then 0 else n + 1) ends

pub open_whole : (n : ℕ) (events : List Event) (h : History) → is_whole n events ≡ true → open_events h ≡ n → open_events (with_events events h) ≡ 0
open_whole n [] h whole open_is = absurd (false≢true whole)
open_whole n (e ∷ []) h whole open_is = no_events n e h whole open_is
open_whole n (e ∷ next ∷ events) h whole open_is =
    let parts = ends_not n e next events whole in
    open_whole (n + 1) (next ∷ events) (did.Event e ∷ h) parts.1 (more_events n e h parts.0 open_is)

not_begun : (n : ℕ) (t : Trace) → begun (n + 1) t ≡ t
not_begun n t =
    let later : (n + 1 == 0) ≡ false = false_from_ne_true _ (λ is. let zero_is : n + 1 ≡ 0 = eqb-true (n + 1) 0 is in absurd (omega arith)) in
    ap (λ b. if b then begin_round t else t) later

-- an event that doesn't end a round is no stop
pub no_stop : (n : ℕ) (e : Event) → ends_round n e ≡ false → is_stop e ≡ false
no_stop n event.Stop goes = absurd (true≢false goes)
no_stop n e goes = refl

-- the trace of a whole round: its beginning, its events, and its end
pub trace_whole : (s : Setting) (n : ℕ) (events : List Event) (h : History) → is_whole n events ≡ true → open_events h ≡ n
    → trace_of s (with_events events h) ≡ end_round s (stopped_after events false) (events_trace s events (begun n (trace_of s h)))
unfolding trace_of
trace_whole s n [] h whole open_is = absurd (false≢true whole)
trace_whole s n (e ∷ []) h whole open_is =
    ap (λ m. ended s (ends_round m e) e (with_event s e (begun m (trace_of s h)))) open_is
    ∙ ap (λ b. ended s b e (with_event s e (begun n (trace_of s h)))) whole
    ∙ ap (λ b. end_round s b (with_event s e (begun n (trace_of s h)))) (sym (or-false (is_stop e)))
trace_whole s n (e ∷ next ∷ events) h whole open_is =
    let parts = ends_not n e next events whole in
    let after : trace_of s (did.Event e ∷ h) ≡ with_event s e (begun n (trace_of s h)) =
    ap (λ m. ended s (ends_round m e) e (with_event s e (begun m (trace_of s h)))) open_is ∙ ap (λ b. ended s b e (with_event s e (begun n (trace_of s h)))) parts.0 in
    let going : stopped_after (next ∷ events) false ≡ stopped_after (next ∷ events) (is_stop e || false) =
    ap (λ b. stopped_after (next ∷ events) (b || false)) (sym (no_stop n e parts.0)) in
    trace_whole s (n + 1) (next ∷ events) (did.Event e ∷ h) parts.1 (more_events n e h parts.0 open_is)
    ∙ ap (λ t. end_round s (stopped_after (next ∷ events) false) (events_trace s (next ∷ events) t)) (not_begun n (trace_of s (did.Event e ∷ h)) ∙ after)
    ∙ ap (λ b. end_round s b (events_trace s (next ∷ events) (with_event s e (begun n (trace_of s h))))) going

pub greatest_whole : (events : List Event) (h : History) → greatest_link (with_events events h) ≡ greatest_after events (greatest_link h)
greatest_whole [] h = refl
greatest_whole (e ∷ events) h = greatest_whole events (did.Event e ∷ h)

pub stopped_whole : (events : List Event) (h : History) → is_stopped (with_events events h) ≡ stopped_after events (is_stopped h)
stopped_whole [] h = refl
stopped_whole (e ∷ events) h = stopped_whole events (did.Event e ∷ h)

pub due_whole : (s : Setting) (n : ℕ) (events : List Event) (h : History) → is_whole n events ≡ true → open_events h ≡ n
    → due s (with_events events h) ≡ acts_after s (trace_of s (with_events events h))
unfolding due
due_whole s n [] h whole open_is = absurd (false≢true whole)
due_whole s n (e ∷ []) h whole open_is = ap (λ b. if b then acts_after s (trace_of s (did.Event e ∷ h)) else []) (ap (λ m. ends_round m e) open_is ∙ whole)
due_whole s n (e ∷ next ∷ events) h whole open_is =
    let parts = ends_not n e next events whole in
    due_whole s (n + 1) (next ∷ events) (did.Event e ∷ h) parts.1 (more_events n e h parts.0 open_is)

-- before a stop no link is stopped
still_going : (s : Setting) (h : History) (t : Trace) (entry : Entry) → MayAdd s h (λ link. ⊤) t entry → stopped_links t ≡ [] → stopped_links (entry ∷ t) ≡ []
still_going s h t (Ended link reason) may none = ap (λ stopped. stopped ++ stopped_link reason link) none ∙ may.0
still_going s h t entry may none = none

pub history_going : (s : Setting) (h : History) → is_stopped h ≡ false → stopped_links (trace_of s h) ≡ []
unfolding trace_of
history_going s [] no_stop = refl
history_going s (did.Event e ∷ h) no_stop =
    kept_after s h e (λ link. ⊤) (λ t. stopped_links t ≡ []) (still_going s (did.Event e ∷ h)) (λ t k stopped none. absurd (true≢false (sym stopped ∙ no_stop))) (any_link (new_link e))
    (history_going s h (or_parts (is_stop e) (is_stopped h) no_stop).1)
history_going s (did.Sent link bytes (sent.Took n) ∷ h) no_stop = history_going s h no_stop
history_going s (did.Sent link bytes sent.Gone ∷ h) no_stop = history_going s h no_stop
history_going s (happening ∷ h) no_stop = history_going s h no_stop

-- ---- acts

module _ (s : Setting) (core : CoreSeen) (t : Trace) (follows : Follows s core t) where
  ready_seen : (k : ℕ) → is_ready (link_seen s t k) ≡ is_offered s t k
  unfolding link_seen
  ready_seen k = ap (λ b. (is_some (down_of s t k) || not (is_blocked t k)) && b)
      (ap (λ bytes. nat_lt 0 (length bytes)) (queued-bytes (lines_of s t k) (taken_by t k) (follows.took k)) ∙ left_over (taken_by t k) (text_bytes (lines_of s t k)))

  pub offers_are : map number_of (filter is_ready core.links) ≡ offered_links s t
  offers_are =
      ap (λ links. map number_of (filter is_ready links)) follows.links
      ∙ ap (map number_of) (filter_seen s core t follows is_ready (is_offered s t) (served_links t) ready_seen)
      ∙ numbers_seen s t (offered_links s t)
