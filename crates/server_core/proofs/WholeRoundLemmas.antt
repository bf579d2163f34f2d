-- The walk over a whole round, and what stands after it.
use Rattle.std.proofs.Common.{◌≡◌, ℕ, suc, ◌+◌, ◌<◌, true, false, ◌||◌, List, [], ◌∷◌, ◌++◌, length, map, filter, sym, ap, ◌∙◌, subst, IfOk, OnOk, Result, Ok, Err, get_or, drop, drop-cons, add-one, refl}
use Rattle.std.proofs.lemmas.Bool.{false≢true}
use Rattle.aprs_base.specs.declared.events.Event.{Event}
use Rattle.aprs_history.specs.Trace.{Trace, closed_links}
use Rattle.aprs_history.specs.History.{History, is_stop, open_events, trace_of, with_event, begin_round, end_round}
use Rattle.aprs_conf.specs.Seen.{ConfSeen}
use Rattle.aprs_history.specs.Rounds.{AreFresh, is_whole, with_events, events_trace, greatest_after, stopped_after}
use Rattle.aprs_history.specs.Acts.{Closes, all_offers, cast_act, dials, offered_links}
use Rattle.aprs_history.specs.Dials.{casts_of, dial_of}
use Rattle.aprs_history.specs.Scenes.{accepted_of}
use Rattle.aprs_history.specs.Stands.{Follows, ReachSeen, StandsFor}
use Rattle.aprs_base.specs.Journals.{JournalLineSeen}
use Rattle.dupe_window.specs.Windows.{WindowSeen}
use Rattle.aprs_history.specs.Journal.{round_lines}
use Rattle.server_core.specs.ActsSeen.{ActsSeen}
use Rattle.served_links.specs.Links.{is_lost, is_ready, number_of}
use Rattle.server_core.specs.Meaning.{CoreMeaning, setting_of, Stands, AreActs}
use Rattle.server_core.specs.Steps.{Walks, SameRest, AfterEvent}
use Rattle.server_core.specs.RoundWalk.{GoesOn, Walking, Traced}
use Rattle.server_core.specs.Telling.{AreTold, KnowUnasked, Tells}
use Rattle.served_links.specs.EndLines.{lost_line}
use Rattle.server_core.proofs.AcceptedLemmas.{round_accepts}
use Rattle.server_core.proofs.TellingLemmas.{tells_lost, tells_then}
use Rattle.server_core.proofs.TurnedLemmas.{round_known}
use Rattle.server_core.proofs.RoundLemmas.{ends_not, no_stop, open_whole, trace_whole, greatest_whole, stopped_whole, due_whole, history_going, offers_are}

pub next_item : {X : Type 0} (xs : List X) (i : ℕ) (x : X) → i < length xs → x ≡ get_or xs i x → drop i xs ≡ x ∷ drop (i + 1) xs
next_item xs i x lt is = rw add-one (drop-cons xs i x lt ∙ ap (λ y. y ∷ drop (suc i) xs) (sym is))

goes_next : (core new : CoreMeaning) (e : Event) (rest : List Event) → GoesOn (e ∷ rest) core → new.seen.stopped ≡ (is_stop e || core.seen.stopped) → GoesOn rest new
goes_next core new e [] goes stopped = tt
goes_next core new e (next ∷ rest) goes stopped =
    let parts = ends_not goes.0 e next rest goes.1 in
    (goes.0 + 1, parts.1, stopped ∙ ap (λ b. b || core.seen.stopped) (no_stop goes.0 e parts.0) ∙ goes.2)

walking_next : (start : CoreMeaning) (events : List Event) (core new : CoreMeaning) (e : Event) (rest : List Event) → Walking start events core (e ∷ rest) → AfterEvent core new e → Walking start events new rest
walking_next start events core new e rest walking after = record {
  conf = after.conf ∙ walking.conf;
  fresh = subst (λ n. AreFresh n rest) (sym after.greatest) walking.fresh.1;
  greatest = ap (greatest_after rest) after.greatest ∙ walking.greatest;
  stopped = ap (stopped_after rest) after.stopped ∙ walking.stopped;
  goes = goes_next core new e rest walking.goes after.stopped;
}

traced_next : (start : CoreMeaning) (first : Trace) (events : List Event) (core new : CoreMeaning) (e : Event) (rest : List Event) (now : Trace)
    → Walking start events core (e ∷ rest) → Traced start first events core (e ∷ rest) now → ((t : Trace) → Walks core t → Walks new (with_event (setting_of core.conf) e t))
    → Traced start first events new rest (with_event (setting_of start.conf) e now)
traced_next start first events core new e rest now walking traced steps = record {
  whole = traced.whole;
  walks = subst (λ conf. Walks new (with_event (setting_of conf) e now)) walking.conf (steps now traced.walks);
}

-- the walk over events so far, and what the journals were told of them
abbrev pub WalkedSoFar : (start : CoreMeaning) (events : List Event) (core : CoreMeaning) (left : List Event) (first_lines lines : List JournalLineSeen) → Type 0
WalkedSoFar start events core left first_lines lines =
    Walking start events core left
    × ((first : Trace) → Walks start first → (now : Trace) × Traced start first events core left now × Tells (setting_of start.conf) first now first_lines lines)

pub walk_begins : (old start : CoreMeaning) (events : List Event) (lines : List JournalLineSeen) → is_whole 0 events ≡ true → AreFresh old.seen.greatest events → old.seen.stopped ≡ false → SameRest old start
    → WalkedSoFar start events start events lines lines
walk_begins old start [] lines whole fresh going same = absurd (false≢true whole)
walk_begins old start (e ∷ events) lines whole fresh going same = (
  record {
    conf = refl;
    fresh = subst (λ n. AreFresh n (e ∷ events)) (sym same.greatest) fresh;
    greatest = refl;
    stopped = refl;
    goes = (0, whole, same.stopped ∙ going);
  },
  λ first walks. (first, record { whole = refl; walks = walks }, λ before told. told),
)

pub round_next : (start : CoreMeaning) (events : List Event) (core new : CoreMeaning) (left : List Event) (e : Event) (rest : List Event) → left ≡ e ∷ rest → (first_lines lines new_lines : List JournalLineSeen)
    → WalkedSoFar start events core left first_lines lines
    → ((t : Trace) → Walks core t → Walks new (with_event (setting_of core.conf) e t)) → ((t : Trace) → Walks core t → Tells (setting_of core.conf) t (with_event (setting_of core.conf) e t) lines new_lines)
    → AfterEvent core new e → WalkedSoFar start events new rest first_lines new_lines
round_next start events core new left e rest is first_lines lines new_lines so_far steps tells after =
    let walking = subst (Walking start events core) is so_far.0 in (
      walking_next start events core new e rest walking after,
      λ first walks.
          let now = so_far.1 first walks in
          let traced = subst (λ ls. Traced start first events core ls now.0) is now.1 in
          let told = subst (λ conf. Tells (setting_of conf) now.0 (with_event (setting_of conf) e now.0) lines new_lines) walking.conf (tells now.0 traced.walks) in (
            with_event (setting_of start.conf) e now.0,
            traced_next start first events core new e rest now.0 walking traced steps,
            tells_then (setting_of start.conf) first now.0 (with_event (setting_of start.conf) e now.0) first_lines lines new_lines now.2 told,
          ),
    )

-- the walk as a whole: what stands before, within and after a round, and what the journals are told within
pub record WholeRound (old mid walked new : CoreMeaning) (events : List Event) (first_lines lines : List JournalLineSeen) : Type 0 where
  pub whole : is_whole 0 events ≡ true
  pub going : old.seen.stopped ≡ false
  pub lasts : 0 < old.seen.window.seconds
  pub begun : (t : Trace) → Walks old t → Walks mid (begin_round t)
  pub rest : SameRest old mid
  pub walking : Walking mid events walked []
  pub traced : (t : Trace) → Walks mid t → Walks walked (events_trace (setting_of mid.conf) events t) × Tells (setting_of mid.conf) t (events_trace (setting_of mid.conf) events t) first_lines lines
  pub finished : (t : Trace) → Walks walked t → Follows (setting_of walked.conf) new.seen (end_round (setting_of walked.conf) walked.seen.stopped t)
  pub kept : SameRest walked new

pub whole_round : (old mid walked new : CoreMeaning) (events left : List Event) (first_lines lines : List JournalLineSeen) → left ≡ [] → is_whole 0 events ≡ true → old.seen.stopped ≡ false → 0 < old.seen.window.seconds
    → ((t : Trace) → Walks old t → Walks mid (begin_round t)) → SameRest old mid → WalkedSoFar mid events walked left first_lines lines
    → ((t : Trace) → Walks walked t → Follows (setting_of walked.conf) new.seen (end_round (setting_of walked.conf) walked.seen.stopped t)) → SameRest walked new
    → WholeRound old mid walked new events first_lines lines
whole_round old mid walked new events left first_lines lines none whole going lasts begun rest so_far finished kept =
    let done : WalkedSoFar mid events walked [] first_lines lines = subst (λ es. WalkedSoFar mid events walked es first_lines lines) none so_far in
    let traced : (t : Trace) → Walks mid t → Walks walked (events_trace (setting_of mid.conf) events t) × Tells (setting_of mid.conf) t (events_trace (setting_of mid.conf) events t) first_lines lines =
    λ t walks. let now = done.1 t walks in (subst (λ u. Walks walked u) (sym now.1.whole) now.1.walks, subst (λ u. Tells (setting_of mid.conf) t u first_lines lines) (sym now.1.whole) now.2) in
    record { whole = whole; going = going; lasts = lasts; begun = begun; rest = rest; walking = done.0; traced = traced; finished = finished; kept = kept }

module _ (old mid walked new : CoreMeaning) (events : List Event) (begun walked_lines : List JournalLineSeen) (round : WholeRound old mid walked new events begun walked_lines) (h : History) (stands : Stands old h) where
  walked_conf : walked.conf ≡ old.conf
  walked_conf = round.walking.conf ∙ round.rest.conf

  same_conf : new.conf ≡ old.conf
  same_conf = round.kept.conf ∙ walked_conf

  walks_old : Walks old (trace_of (setting_of old.conf) h)
  walks_old = record {
    follows = stands.follows;
    going = history_going (setting_of old.conf) h (sym stands.stopped ∙ round.going);
    lasts = subst (λ (window : WindowSeen). 0 < window.seconds) stands.follows.tables.window round.lasts;
  }

  -- the trace before the round's end
  abbrev before_end : Trace
  before_end = events_trace (setting_of mid.conf) events (begin_round (trace_of (setting_of old.conf) h))

  walks_now : Walks walked before_end
  walks_now = (round.traced (begin_round (trace_of (setting_of old.conf) h)) (round.begun (trace_of (setting_of old.conf) h) walks_old)).0

  stopped_is : walked.seen.stopped ≡ stopped_after events false
  stopped_is = round.walking.stopped ∙ ap (stopped_after events) (round.rest.stopped ∙ round.going)

  trace_is : end_round (setting_of old.conf) walked.seen.stopped before_end ≡ trace_of (setting_of old.conf) (with_events events h)
  trace_is =
      ap (λ b. end_round (setting_of old.conf) b before_end) stopped_is
      ∙ ap (λ conf. end_round (setting_of old.conf) (stopped_after events false) (events_trace (setting_of conf) events (begin_round (trace_of (setting_of old.conf) h)))) round.rest.conf
      ∙ sym (trace_whole (setting_of old.conf) 0 events h round.whole stands.finished)

  follows_end : Follows (setting_of old.conf) new.seen (end_round (setting_of old.conf) walked.seen.stopped before_end)
  follows_end = subst (λ conf. Follows (setting_of conf) new.seen (end_round (setting_of conf) walked.seen.stopped before_end)) walked_conf (round.finished before_end walks_now)

  follows_old : Follows (setting_of old.conf) new.seen (trace_of (setting_of old.conf) (with_events events h))
  follows_old = subst (λ t. Follows (setting_of old.conf) new.seen t) trace_is follows_end

  pub round_stands : Stands new (with_events events h)
  round_stands =
      subst (λ conf. StandsFor (setting_of conf) new.seen (with_events events h)) (sym same_conf) (record {
        finished = open_whole 0 events h round.whole stands.finished;
        follows = follows_old;
        greatest = round.kept.greatest ∙ round.walking.greatest ∙ ap (greatest_after events) (round.rest.greatest ∙ stands.greatest) ∙ sym (greatest_whole events h);
        stopped = round.kept.stopped ∙ round.walking.stopped ∙ ap (stopped_after events) (round.rest.stopped ∙ stands.stopped) ∙ sym (stopped_whole events h);
      })

  -- the lines of the round
  pub round_told : (first last : List JournalLineSeen) → begun ≡ first ++ map (lost_line old.seen.moment) (filter is_lost old.seen.links)
      → ((t : Trace) → Walks walked t → KnowUnasked events t → Tells (setting_of walked.conf) t (end_round (setting_of walked.conf) walked.seen.stopped t) walked_lines last)
      → AreFresh old.seen.greatest events → last ≡ first ++ round_lines (setting_of old.conf) (trace_of (setting_of old.conf) (with_events events h))
  round_told first last lost ended fresh =
      let t = trace_of (setting_of old.conf) h in
      let told_begun : AreTold (setting_of mid.conf) (begin_round t) first begun =
      subst (λ conf. AreTold (setting_of conf) (begin_round t) first begun) (sym round.rest.conf) (tells_lost old t walks_old first begun lost) in
      let told_walked : AreTold (setting_of walked.conf) before_end first walked_lines =
      subst (λ conf. AreTold (setting_of conf) before_end first walked_lines) (sym round.walking.conf) ((round.traced (begin_round t) (round.begun t walks_old)).1 first told_begun) in
      let told_ended = ended before_end walks_now (round_known (setting_of mid.conf) old.seen.greatest events t fresh) first told_walked in
      subst (λ conf. AreTold (setting_of conf) (end_round (setting_of conf) walked.seen.stopped before_end) first last) walked_conf told_ended
      ∙ ap (λ u. first ++ round_lines (setting_of old.conf) u) trace_is

-- ---- what is to be done after a round, by what the core keeps

module _ (core : CoreMeaning) (events : List Event) (h : History) (whole : is_whole 0 events ≡ true) (finished : open_events h ≡ 0) (stands : Stands core (with_events events h)) where
  pub acts_ok : {E : Type 0} (result : Result ActsSeen E) → IfOk result (λ acts. acts.offers ≡ map number_of (filter is_ready core.seen.links))
      → IfOk result (λ acts. acts.closes ≡ core.seen.closing) → IfOk result (λ acts. acts.dial ≡ core.seen.reach.dial) → IfOk result (λ acts. acts.casts ≡ core.seen.reach.casts)
      → IfOk result (λ acts. AreActs (setting_of core.conf) (with_events events h) acts)
  acts_ok (Ok acts) offers closes dial casts =
      let s = setting_of core.conf in
      let t = trace_of s (with_events events h) in
      let offered : acts.offers ≡ offered_links s t = offers ∙ offers_are s core.seen t stands.follows in
      let closed : acts.closes ≡ closed_links t = closes ∙ stands.follows.closing in
      let dialled : acts.dial ≡ dial_of s t = dial ∙ ap (λ (reach : ReachSeen). reach.dial) stands.follows.reach in
      let cast : acts.casts ≡ casts_of s t = casts ∙ ap (λ (reach : ReachSeen). reach.casts) stands.follows.reach in
      record {
        due = due_whole s 0 events h whole finished
            ∙ ap (λ dial. dials dial ++ (map cast_act (casts_of s t) ++ (all_offers s t (offered_links s t) ++ map Closes (closed_links t)))) (sym dialled)
            ∙ ap (λ casts. dials acts.dial ++ (map cast_act casts ++ (all_offers s t (offered_links s t) ++ map Closes (closed_links t)))) (sym cast)
            ∙ ap (λ ks. dials acts.dial ++ (map cast_act acts.casts ++ (all_offers s t ks ++ map Closes (closed_links t)))) (sym offered)
            ∙ ap (λ ks. dials acts.dial ++ (map cast_act acts.casts ++ (all_offers s t acts.offers ++ map Closes ks))) (sym closed);
      }
  acts_ok (Err e) offers closes dial casts = offers

  pub accepted_ok : (conf : ConfSeen) → core.conf ≡ conf → {E : Type 0} (result : Result ActsSeen E) → IfOk result (λ acts. acts.accepted ≡ core.seen.reach.accepted)
      → IfOk result (λ acts. accepted_of (trace_of (setting_of conf) (with_events events h)) ≡ accepted_of (trace_of (setting_of conf) h) ++ acts.accepted)
  accepted_ok conf same (Ok acts) kept =
      let s = setting_of core.conf in
      subst (λ (conf : ConfSeen). accepted_of (trace_of (setting_of conf) (with_events events h)) ≡ accepted_of (trace_of (setting_of conf) h) ++ acts.accepted) same (
      round_accepts s events h whole finished
      ∙ ap (λ packets. accepted_of (trace_of s h) ++ packets) (sym (kept ∙ ap (λ (reach : ReachSeen). reach.accepted) stands.follows.reach)))
  accepted_ok conf same (Err e) kept = kept

pub stands_ok : {T E P : Type 0} (result : Result T E) → P → OnOk result P
stands_ok (Ok x) p = p
stands_ok (Err e) p = tt
