-- The lines of the journal, as events and acts come.
use Rattle.std.proofs.Common.{◌≡◌, ℕ, ◌+◌, ◌≤◌, Bool, true, false, List, [], ◌∷◌, ◌++◌, length, Option, refl, sym, ap, ◌∙◌, subst, append-nil, if◌then◌else◌, ⊎_elim}
use Rattle.std.proofs.lemmas.Bool.{cases_Bool, false≢true}
use Rattle.aprs_base.specs.Journals.{JournalLineSeen}
use Rattle.aprs_base.specs.declared.events.Event.{Event}
use Rattle.aprs_base.specs.declared.events.Happening.TheVariants as did
use Rattle.aprs_base.specs.declared.packets.ListenSpec.{ListenSpec}
use Rattle.aprs_history.specs.Setting.{Setting}
use Rattle.aprs_history.specs.History.{History, ends_round, open_events, trace_of}
use Rattle.aprs_history.specs.Rounds.{AreFresh, is_whole, listens_after, with_events}
use Rattle.aprs_history.specs.Dials.{CastSeen}
use Rattle.aprs_conf.specs.Seen.{ConfSeen}
use Rattle.aprsc_daemon.specs.Runs.{RunsFor, setting_named}
use Rattle.aprs_history.specs.Runs.{are_listens}
use Rattle.status_page.specs.PageFronts.{PageSeen}
use Rattle.front_history.specs.Serving.{ActsOn, SendsOn}
use Rattle.front_history.proofs.ServesLemmas.{acts_then, acts_uncounted, serves_same, serves_so}
use Rattle.aprs_base.specs.Outside.{Told}
use Rattle.aprs_history.specs.Journal.{journal_of, round_lines}
use Rattle.server_core.proofs.RoundLemmas.{ends_not, more_events}
use Rattle.server_core.specs.Meaning.{CoreMeaning, setting_of}
use Rattle.aprsc_daemon.specs.Phases.{Acting, AreFirst, Broken, Counted, Gathering, Idling, JournalTold, Served, is_partial, lines_but_last}
use Rattle.aprsc_daemon.specs.Causes.{code_of_status, status_of}
use Rattle.aprsc_daemon.specs.declared.serving.End.{End}
use Rattle.aprsc_daemon.specs.declared.serving.End.TheVariants as ended
use Rattle.aprsc_daemon.proofs.RunLemmas.{runs_begin}
use Rattle.aprsc_daemon.proofs.EventLemmas.{counted_fresh, gathered_fresh, gathering_idle, partial_next, parts_of, whole_next}

-- an event adds lines where it ends its round
one_event : (s : Setting) (n : ℕ) (e : Event) (h : History) (ends : Bool) → ends_round n e ≡ ends → open_events h ≡ n
    → (journal_of s (did.Event e ∷ h) ≡ (if ends then journal_of s h ++ round_lines s (trace_of s (did.Event e ∷ h)) else journal_of s h))
    × (lines_but_last s (did.Event e ∷ h) ≡ (if ends then journal_of s h else lines_but_last s h))
one_event s n e h ends is open_is =
    let here : ends_round (open_events h) e ≡ ends = ap (λ m. ends_round m e) open_is ∙ is in (
      ap (λ b. if b then journal_of s h ++ round_lines s (trace_of s (did.Event e ∷ h)) else journal_of s h) here,
      ap (λ b. if b then journal_of s h else lines_but_last s h) here,
    )

-- a whole round adds its lines
whole_round : (s : Setting) (n : ℕ) (events : List Event) (h : History) → is_whole n events ≡ true → open_events h ≡ n
    → (journal_of s (with_events events h) ≡ journal_of s h ++ round_lines s (trace_of s (with_events events h))) × (lines_but_last s (with_events events h) ≡ journal_of s h)
whole_round s n [] h whole open_is = absurd (false≢true whole)
whole_round s n (e ∷ []) h whole open_is = one_event s n e h true whole open_is
whole_round s n (e ∷ next ∷ events) h whole open_is =
    let parts = ends_not n e next events whole in
    let later = whole_round s (n + 1) (next ∷ events) (did.Event e ∷ h) parts.1 (more_events n e h parts.0 open_is) in
    let before = (one_event s n e h false parts.0 open_is).0 in (
      later.0 ∙ ap (λ lines. lines ++ round_lines s (trace_of s (with_events (next ∷ events) (did.Event e ∷ h)))) before,
      later.1 ∙ before,
    )

pub round_added : (s : Setting) (events : List Event) (h : History) (lines told : List JournalLineSeen) → is_whole 0 events ≡ true → open_events h ≡ 0 → journal_of s h ≡ lines
    → told ≡ round_lines s (trace_of s (with_events events h)) → journal_of s (with_events events h) ≡ lines ++ told
round_added s events h lines told whole open_is before are =
    (whole_round s 0 events h whole open_is).0 ∙ ap (λ l. l ++ round_lines s (trace_of s (with_events events h))) before ∙ ap (λ l. lines ++ l) (sym are)

-- a part of a round adds none
pub part_untold : (s : Setting) (n : ℕ) (events : List Event) (h : History) → is_partial n events ≡ true → open_events h ≡ n → journal_of s (with_events events h) ≡ journal_of s h
part_untold s n [] h partial open_is = refl
part_untold s n (e ∷ events) h partial open_is =
    let parts = parts_of n e events partial in
    part_untold s (n + 1) events (did.Event e ∷ h) parts.1 (more_events n e h parts.0 open_is) ∙ (one_event s n e h false parts.0 open_is).0

-- ---- listeners

pub listens_untold : (s : Setting) (n : ℕ) (specs : List ListenSpec) (h : History) → journal_of s (listens_after n specs h) ≡ journal_of s h
listens_untold s n [] h = refl
listens_untold s n (spec ∷ specs) h = listens_untold s (n + 1) specs (did.Listen n ∷ h)

-- ---- first lines

-- the journal begins with its lines but for those of the last finished round
begins : (s : Setting) (h : History) → (some : List JournalLineSeen) × (journal_of s h ≡ lines_but_last s h ++ some)
begins s [] = ([], refl)
begins s (did.Event e ∷ h) =
    ⊎_elim
    (λ ends.
    let here = one_event s (open_events h) e h true ends refl in
    (round_lines s (trace_of s (did.Event e ∷ h)), here.0 ∙ ap (λ l. l ++ round_lines s (trace_of s (did.Event e ∷ h))) (sym here.1)))
    (λ goes.
    let here = one_event s (open_events h) e h false goes refl in
    let earlier = begins s h in
    (earlier.0, here.0 ∙ earlier.1 ∙ ap (λ l. l ++ earlier.0) (sym here.1)))
    (cases_Bool (ends_round (open_events h) e))
begins s (_ ∷ h) = begins s h

-- all lines are first ones
pub all_first : (s : Setting) (h : History) (lines : List JournalLineSeen) → journal_of s h ≡ lines → AreFirst s lines h
all_first s h lines is =
    let earlier = begins s h in
    record { rest = []; some = earlier.0; first = is ∙ sym (append-nil lines); most = sym is ∙ earlier.1 }

-- and so are all but those of a round that has just ended
pub but_round : (s : Setting) (events : List Event) (h : History) (lines : List JournalLineSeen) → is_whole 0 events ≡ true → open_events h ≡ 0 → journal_of s h ≡ lines → AreFirst s lines (with_events events h)
but_round s events h lines whole open_is before =
    let here = whole_round s 0 events h whole open_is in
    record {
      rest = round_lines s (trace_of s (with_events events h));
      some = [];
      first = here.0 ∙ ap (λ l. l ++ round_lines s (trace_of s (with_events events h))) before;
      most = sym before ∙ sym here.1 ∙ sym (append-nil (lines_but_last s (with_events events h)));
    }

-- ---- what holds of a round's parts

-- the lines so far, after a part of a round
part_lines : {lines : List JournalLineSeen} (s : Setting) (core : CoreMeaning) (events : List Event) (more : History) → setting_of core.conf ≡ s → is_partial 0 events ≡ true → Gathering lines core events more
    → journal_of s more ≡ lines
part_lines s core events more same partial phase =
    ap (journal_of s) phase.since ∙ part_untold s 0 events phase.before partial phase.resting.stands.finished ∙ ap (λ t. journal_of t phase.before) (sym same) ∙ phase.resting.journal

pub gathering_idles : {lines : List JournalLineSeen} (core : CoreMeaning) (events : List Event) (first last : ℕ) (s : Setting) (more : History) → setting_of core.conf ≡ s → is_partial 0 events ≡ true
    → core.seen.greatest ≤ first → Counted first events last → Gathering lines core events more → Idling s lines more
gathering_idles core events first last s more same partial le counted phase = record {
  idle = gathering_idle core events first last s more same partial le counted phase;
  journal = part_lines s core events more same partial phase;
}

-- where memory is wanting within a round
pub part_breaks : {lines : List JournalLineSeen} (s : Setting) (core : CoreMeaning) (events : List Event) (first last : ℕ) (more : History) → setting_of core.conf ≡ s → is_partial 0 events ≡ true
    → core.seen.greatest ≤ first → Counted first events last → Gathering lines core events more → Broken s lines more
part_breaks {lines} s core events first last more same partial le counted phase = record {
  fresh = counted_fresh core events first last more le counted phase;
  told = all_first s more lines (part_lines s core events more same partial phase);
}

whole_first : {lines : List JournalLineSeen} (s : Setting) (core : CoreMeaning) (events : List Event) (more : History) → setting_of core.conf ≡ s → is_whole 0 events ≡ true → Gathering lines core events more
    → AreFirst s lines more
whole_first {lines} s core events more same whole phase =
    subst (AreFirst s lines) (sym phase.since)
    (but_round s events phase.before lines whole phase.resting.stands.finished (ap (λ t. journal_of t phase.before) (sym same) ∙ phase.resting.journal))

-- at its end, before it is told
pub round_breaks : {lines : List JournalLineSeen} (s : Setting) (core : CoreMeaning) (events : List Event) (more : History) → setting_of core.conf ≡ s → is_whole 0 events ≡ true → AreFresh core.seen.greatest events
    → Gathering lines core events more → Broken s lines more
round_breaks s core events more same whole fresh phase = record { fresh = gathered_fresh core events more fresh phase; told = whole_first s core events more same whole phase }

-- where the event that came last finds no room
pub push_breaks : {lines : List JournalLineSeen} (s : Setting) (core : CoreMeaning) (events : List Event) (e : Event) (first last : ℕ) (more : History) → setting_of core.conf ≡ s → is_partial 0 events ≡ true
    → core.seen.greatest ≤ first → Counted first (events ++ e ∷ []) last → Gathering lines core (events ++ e ∷ []) more → Broken s lines more
push_breaks s core events e first last more same partial le counted phase =
    ⊎_elim
    (λ ends. record {
      fresh = counted_fresh core (events ++ e ∷ []) first last more le counted phase;
      told = whole_first s core (events ++ e ∷ []) more same (whole_next events e partial ends) phase;
    })
    (λ goes. part_breaks s core (events ++ e ∷ []) first last more same (partial_next events e partial goes) le counted phase)
    (cases_Bool (ends_round (length events) e))

-- and among the acts
pub acts_break : {lines : List JournalLineSeen} (s : Setting) (core : CoreMeaning) (dial : Option ℕ) (casts : List CastSeen) (offers closes : List ℕ) (more : History) → setting_of core.conf ≡ s
    → Acting lines core dial casts offers closes more → Broken s lines more
acts_break {lines} s core dial casts offers closes more same phase = record {
  fresh = phase.owing.fresh;
  told = all_first s more lines (ap (λ t. journal_of t more) (sym same) ∙ phase.journal);
}

-- an act for which memory was wanting
pub acts_broken : (lines : List JournalLineSeen) (s : Setting) (now next : Option Told) (core : CoreMeaning) (dial : Option ℕ) (casts : List CastSeen) (offers closes : List ℕ) → setting_of core.conf ≡ s → next ≡ now
    → ActsOn s now next (Acting lines core dial casts offers closes) (Broken s lines)
acts_broken lines s now next core dial casts offers closes same stays =
    acts_then s now now next (Acting lines core dial casts offers closes) (Broken s lines) (Broken s lines)
    (serves_so s now (Acting lines core dial casts offers closes) (Broken s lines) (λ more. acts_break s core dial casts offers closes more same))
    (serves_same s now next (Broken s lines) stays)

pub sends_broken : (lines : List JournalLineSeen) (s : Setting) (now next : Option Told) (page after : PageSeen) (core : CoreMeaning) (dial : Option ℕ) (casts : List CastSeen) (offers closes : List ℕ) → setting_of core.conf ≡ s → next ≡ now
    → after ≡ page → SendsOn s now page next after (Acting lines core dial casts offers closes) (Broken s lines)
sends_broken lines s now next page after core dial casts offers closes same stays kept =
    subst (λ p. SendsOn s now page next p (Acting lines core dial casts offers closes) (Broken s lines)) (sym kept)
    (acts_uncounted s now next page (Acting lines core dial casts offers closes) (Broken s lines) (acts_broken lines s now next core dial casts offers closes same stays))

-- where nothing but listeners was opened there is no line
pub only_listens_untold : (s : Setting) (h : History) → are_listens h ≡ true → journal_of s h ≡ []
only_listens_untold s [] only = refl
only_listens_untold s (did.Listen n ∷ h) only = only_listens_untold s h only
only_listens_untold s (_ ∷ h) only = absurd (false≢true only)

-- ---- what the journals were told in all

pub told_by_end : (s : Setting) (end : End) (lines : List JournalLineSeen) (more : History) → Served s end lines more → JournalTold (code_of_status (status_of end)) s lines more
told_by_end s ended.Stopped lines more served = record { first = all_first s more lines served.1; whole = λ sound. served.1 }
told_by_end s ended.Failed lines more served = record { first = all_first s more lines served.1; whole = λ sound. served.1 }
told_by_end s ended.Memory lines more served = record { first = served.1; whole = λ sound. absurd (sound refl) }

-- nothing, where nothing but listeners was opened
pub told_none : (code : ℕ) (s : Setting) (more : History) → are_listens more ≡ true → JournalTold code s [] more
told_none code s more only =
    let none = only_listens_untold s more only in
    record { first = all_first s more [] none; whole = λ sound. none }

-- nor where nothing happened
pub untouched : (conf : ConfSeen) (now : Option Told) (code : ℕ) → RunsFor conf now now (JournalTold code (setting_named conf) [])
untouched conf now code = runs_begin conf now (JournalTold code (setting_named conf) []) (told_none code (setting_named conf) [] refl)
