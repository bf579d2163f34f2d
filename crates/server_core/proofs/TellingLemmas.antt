-- What a round tells the journals, and the lines of its trace.
use Rattle.std.proofs.Common.{◌≡◌, ℕ, ◌/◌, Bool, true, false, nat_lt, List, [], ◌∷◌, ◌++◌, map, filter, refl, sym, ap, ◌∙◌, Option, None, append-nil, append_assoc, ⊎_elim, if◌then◌else◌}
use Rattle.std.proofs.lemmas.Bool.{cases_Bool}
use Rattle.std.proofs.lemmas.Simd.{map-map}
use Rattle.aprs_base.specs.Journals.{JournalLineSeen}
use Rattle.aprs_base.specs.declared.cutting.Cut.{Cut}
use Rattle.aprs_base.specs.declared.events.Event.{Event}
use Rattle.aprs_base.specs.declared.packets.Source.{Source}
use Rattle.aprs_base.specs.declared.texts.Addr.{Addr}
use Rattle.uplinks_peers.specs.Uplinks.{is_dialled}
use Rattle.aprs_history.specs.declared.verdicts.Admission.{Admission}
use Rattle.aprs_history.specs.declared.verdicts.EndReason.{EndReason}
use Rattle.aprs_history.specs.declared.verdicts.EndReason.TheVariants.{ByPeer, FoundGone, ByStop}
use Rattle.aprs_history.specs.declared.verdicts.Verdict.{Verdict}
use Rattle.aprs_history.specs.Setting.{Setting, kind_at}
use Rattle.aprs_history.specs.Trace.{Trace, AtListener, Dated, Looked, RoundBegan, Ticked, Opened, Brought, Said, Ended, Unjoined, is_live, is_member, live_links, moment_of, placed_all, turned_links}
use Rattle.aprs_history.specs.Links.{gone_links, is_gone, is_late, late_links, late_reason}
use Rattle.aprs_history.specs.History.{admission, admitted, begin_round, comment_seconds, dated, end_each, end_stopped, refused_links, refused_reason, with_tick}
use Rattle.aprs_history.specs.Journal.{end_line, entry_lines, group_of, label, opening_lines, round_lines, unjoined_line, unjoined_lines, verdict_lines}
use Rattle.aprs_history.specs.Stands.{ReachSeen, link_seen}
use Rattle.served_links.specs.Links.{clients_in, has_number, is_late_link, is_lost, is_overfull, numbers}
use Rattle.server_core.specs.Meaning.{CoreMeaning, setting_of, timeouts_of}
use Rattle.server_core.specs.Steps.{Walks}
use Rattle.server_core.specs.Telling.{KnowUnasked, Tells, refused_by, refused_line, said_lines}
use Rattle.served_links.specs.EndLines.{late_line, lost_line, stop_line}
use Rattle.server_core.proofs.CoreLemmas.{clients_now, there_now}
use Rattle.server_core.proofs.WalkLemmas.{follows_began, late_seen, links_live, lost_seen_as, refused_are, tested_links}

-- ---- the lines of entries

pub tells_then : (s : Setting) (t u v : Trace) (first second third : List JournalLineSeen) → Tells s t u first second → Tells s u v second third → Tells s t v first third
tells_then s t u v first second third one other before told = other before (one before told)

-- nothing is told of what has no line
tells_nothing : (s : Setting) (t u : Trace) (lines : List JournalLineSeen) → round_lines s u ≡ round_lines s t → Tells s t u lines lines
tells_nothing s t u lines same before told = told ∙ ap (λ ls. before ++ ls) (sym same)

tells_more : (s : Setting) (t u : Trace) (more old new : List JournalLineSeen) → round_lines s u ≡ round_lines s t ++ more → new ≡ old ++ more → Tells s t u old new
tells_more s t u more old new same is before told =
    is ∙ ap (λ ls. ls ++ more) told ∙ append_assoc before (round_lines s t) more ∙ ap (λ ls. before ++ ls) (sym same)

either_quiet : (s : Setting) (b : Bool) (t u : Trace) (lines : List JournalLineSeen) → round_lines s u ≡ round_lines s t → Tells s t (if b then u else t) lines lines
either_quiet s true t u lines same = tells_nothing s t u lines same
either_quiet s false t u lines same = tells_nothing s t t lines refl

tells_ticked : (s : Setting) (moment : ℕ) (t : Trace) (lines : List JournalLineSeen) → Tells s t (Ticked moment ∷ t) lines lines
tells_ticked s moment t lines = tells_nothing s t (Ticked moment ∷ t) lines (append-nil (round_lines s t))

tells_looked : (s : Setting) (t : Trace) (lines : List JournalLineSeen) → Tells s t (Looked ∷ t) lines lines
tells_looked s t lines = tells_nothing s t (Looked ∷ t) lines (append-nil (round_lines s t))

pub tells_brought : (s : Setting) (link : ℕ) (bytes : List ℕ) (t : Trace) (lines : List JournalLineSeen) → Tells s t (Brought link bytes ∷ t) lines lines
tells_brought s link bytes t lines = tells_nothing s t (Brought link bytes ∷ t) lines (append-nil (round_lines s t))

tells_dated : (s : Setting) (before : ℕ) (t : Trace) (lines : List JournalLineSeen) → Tells s t (dated before t) lines lines
tells_dated s before t lines =
    either_quiet s (nat_lt (before / comment_seconds) (moment_of t / comment_seconds)) t (Dated (moment_of t) ∷ t) lines (append-nil (round_lines s t))

-- at a tick some links may end, and nothing else is told
pub tells_tick : (s : Setting) (moment : ℕ) (t : Trace) (old new : List JournalLineSeen)
    → Tells s (Ticked moment ∷ t) (end_each (late_reason (Ticked moment ∷ t)) (late_links s (Ticked moment ∷ t)) (Ticked moment ∷ t)) old new → Tells s t (with_tick s moment t) old new
tells_tick s moment t old new told =
    let now = Ticked moment ∷ t in
    let ends = end_each (late_reason now) (late_links s now) now in
    let last = dated (moment_of t) ends in
    tells_then s t now (Looked ∷ last) old old new (tells_ticked s moment t old)
    (tells_then s now ends (Looked ∷ last) old new new told (tells_then s ends last (Looked ∷ last) new new new (tells_dated s (moment_of t) ends new) (tells_looked s last new)))

-- the line of a dial that came to nothing
pub dialled_lines : (dialled : Option ℕ) (m uplink : ℕ) → is_dialled uplink dialled ≡ true → unjoined_line m uplink ∷ [] ≡ unjoined_lines dialled m uplink
dialled_lines dialled m uplink is = ap (λ b. if b then unjoined_line m uplink ∷ [] else []) (sym is)

-- ---- links end

ended_lines : (s : Setting) (reason : ℕ → EndReason) (ks : List ℕ) (t : Trace)
    → round_lines s (end_each reason ks t) ≡ round_lines s t ++ map (λ k. end_line (moment_of t) k (reason k)) ks
ended_lines s reason [] t = sym (append-nil (round_lines s t))
ended_lines s reason (k ∷ ks) t =
    ended_lines s reason ks (Ended k (reason k) ∷ t)
    ∙ append_assoc (round_lines s t) (end_line (moment_of t) k (reason k) ∷ []) (map (λ j. end_line (moment_of t) j (reason j)) ks)

tells_ends : (s : Setting) (reason : ℕ → EndReason) (ks : List ℕ) (t : Trace) (old new : List JournalLineSeen) → new ≡ old ++ map (λ k. end_line (moment_of t) k (reason k)) ks
    → Tells s t (end_each reason ks t) old new
tells_ends s reason ks t old new is = tells_more s t (end_each reason ks t) (map (λ k. end_line (moment_of t) k (reason k)) ks) old new (ended_lines s reason ks t) is

-- the lines of links as they are kept
lost_seen : (s : Setting) (t : Trace) (m k : ℕ) → lost_line m (link_seen s t k) ≡ end_line m k FoundGone
unfolding link_seen
lost_seen s t m k = refl

late_line_seen : (s : Setting) (t : Trace) (k : ℕ) → late_line (moment_of t) (link_seen s t k) ≡ end_line (moment_of t) k (late_reason t k)
unfolding link_seen
late_line_seen s t k = refl

stop_seen : (s : Setting) (t : Trace) (m k : ℕ) → stop_line m (link_seen s t k) ≡ end_line m k ByStop
unfolding link_seen
stop_seen s t m k = refl

module _ (core : CoreMeaning) (t : Trace) (walks : Walks core t) where
  abbrev setting : Setting
  setting = setting_of core.conf

  -- the links that were found gone end as a round begins, with the moment before it
  pub tells_lost : (old new : List JournalLineSeen) → new ≡ old ++ map (lost_line core.seen.moment) (filter is_lost core.seen.links) → new ≡ old ++ round_lines setting (begin_round t)
  tells_lost old new is =
      let fresh = record core.seen { turned = []; closing = []; reach = record core.seen.reach { dial = None; casts = []; accepted = [] } } in
      let began = follows_began setting core.seen t walks.follows in
      let now = RoundBegan ∷ t in
      is
      ∙ ap (λ m. old ++ map (lost_line m) (filter is_lost core.seen.links)) walks.follows.moment
      ∙ ap (λ links. old ++ map (lost_line (moment_of t)) links) (tested_links setting fresh now began walks.going is_lost (is_gone now) (lost_seen_as setting fresh now began walks.going))
      ∙ ap (λ ls. old ++ ls) (map-map (lost_line (moment_of t)) (link_seen setting now) (gone_links now) ∙ (λ i. map (λ k. lost_seen setting now (moment_of t) k i) (gone_links now))
      ∙ sym (ended_lines setting (λ k. FoundGone) (gone_links now) now))

  pub tells_late : (old new : List JournalLineSeen) → new ≡ old ++ map (late_line core.seen.moment) (filter (is_late_link (timeouts_of core.conf) core.seen.moment) core.seen.links)
      → Tells setting t (end_each (late_reason t) (late_links setting t) t) old new
  tells_late old new is =
      tells_ends setting (late_reason t) (late_links setting t) t old new (
      is
      ∙ ap (λ m. old ++ map (late_line m) (filter (is_late_link (timeouts_of core.conf) m) core.seen.links)) walks.follows.moment
      ∙ ap (λ links. old ++ map (late_line (moment_of t)) links)
      (tested_links setting core.seen t walks.follows walks.going (is_late_link (timeouts_of core.conf) (moment_of t)) (is_late setting t) (late_seen setting core.seen t walks.follows walks.going))
      ∙ ap (λ ls. old ++ ls) (map-map (late_line (moment_of t)) (link_seen setting t) (late_links setting t) ∙ (λ i. map (λ k. late_line_seen setting t k i) (late_links setting t))))

  pub tells_stopped : (old new : List JournalLineSeen) → new ≡ old ++ map (stop_line core.seen.moment) core.seen.links → Tells setting t (end_stopped true t) old new
  tells_stopped old new is =
      tells_ends setting (λ k. ByStop) (live_links t) t old new (
      is
      ∙ ap (λ m. old ++ map (stop_line m) core.seen.links) walks.follows.moment
      ∙ ap (λ links. old ++ map (stop_line (moment_of t)) links) (links_live setting core.seen t walks.follows walks.going)
      ∙ ap (λ ls. old ++ ls) (map-map (stop_line (moment_of t)) (link_seen setting t) (live_links t) ∙ (λ i. map (λ k. stop_seen setting t (moment_of t) k i) (live_links t))))

  refused_as : (events : List Event) → KnowUnasked events t → (k : ℕ) → refused_by (turned_links t) events k ≡ refused_reason t k
  refused_as events known k =
      ⊎_elim
      (λ turned. rw (turned, known k turned) refl)
      (λ not_turned. rw not_turned refl)
      (cases_Bool (is_member k (turned_links t)))

  pub tells_refused : (events : List Event) → KnowUnasked events t → (ends : List ℕ) → ends ≡ placed_all core.seen.turned (numbers (filter is_overfull core.seen.links)) → (old new : List JournalLineSeen)
      → new ≡ old ++ map (refused_line core.seen.turned events core.seen.moment) ends → Tells setting t (end_each (refused_reason t) (refused_links setting t) t) old new
  tells_refused events known ends are old new is =
      tells_ends setting (refused_reason t) (refused_links setting t) t old new (
      is
      ∙ ap (λ m. old ++ map (refused_line core.seen.turned events m) ends) walks.follows.moment
      ∙ ap (λ turned. old ++ map (refused_line turned events (moment_of t)) ends) walks.follows.turned
      ∙ ap (λ ks. old ++ map (refused_line (turned_links t) events (moment_of t)) ks) (refused_are setting core.seen t walks.follows walks.going ends are)
      ∙ ap (λ ls. old ++ ls) (λ i. map (λ k. end_line (moment_of t) k (refused_as events known k i)) (refused_links setting t)))

  -- one that its peer has ended, where it is there
  pub tells_ended : (link : ℕ) (old new : List JournalLineSeen) → new ≡ old ++ (if has_number link core.seen.links then end_line core.seen.moment link ByPeer ∷ [] else [])
      → Tells setting t (if is_live t link then Ended link ByPeer ∷ t else t) old new
  tells_ended link old new is =
      let there : new ≡ old ++ (if is_live t link then end_line (moment_of t) link ByPeer ∷ [] else []) =
      is ∙ ap (λ b. old ++ (if b then end_line core.seen.moment link ByPeer ∷ [] else [])) (there_now core t walks link)
      ∙ ap (λ m. old ++ (if is_live t link then end_line m link ByPeer ∷ [] else [])) walks.follows.moment in
      by (is_live t link) there
    where
      by : (b : Bool) → new ≡ old ++ (if b then end_line (moment_of t) link ByPeer ∷ [] else []) → Tells setting t (if b then Ended link ByPeer ∷ t else t) old new
      by true are = tells_more setting t (Ended link ByPeer ∷ t) (end_line (moment_of t) link ByPeer ∷ []) old new refl are
      by false are = tells_more setting t t [] old new (sym (append-nil (round_lines setting t))) are

  -- ---- links come

  pub tells_opened : (listener : ℕ) (outcome : Admission) (link : ℕ) (from : Addr) (old new : List JournalLineSeen)
      → outcome ≡ admitted core.conf.max_clients (clients_in core.seen.links) (kind_at setting listener) → new ≡ old ++ opening_lines (AtListener listener) outcome core.seen.moment link
      → Tells setting t (Opened (AtListener listener) (admission setting t listener) link from ∷ t) old new
  tells_opened listener outcome link from old new became is =
      let same : outcome ≡ admission setting t listener = became ∙ ap (λ n. admitted core.conf.max_clients n (kind_at setting listener)) (clients_now core t walks) in
      tells_more setting t (Opened (AtListener listener) (admission setting t listener) link from ∷ t) (opening_lines (AtListener listener) (admission setting t listener) (moment_of t) link) old new refl
      (is ∙ ap (λ m. old ++ opening_lines (AtListener listener) outcome m link) walks.follows.moment ∙ ap (λ a. old ++ opening_lines (AtListener listener) a (moment_of t) link) same)

  pub tells_unjoined : (uplink : ℕ) (old new : List JournalLineSeen) → new ≡ old ++ unjoined_lines core.seen.reach.uplinks.dialled core.seen.moment uplink → Tells setting t (Unjoined uplink ∷ t) old new
  tells_unjoined uplink old new is =
      tells_more setting t (Unjoined uplink ∷ t) (entry_lines setting (Unjoined uplink) t) old new refl
      (is ∙ ap (λ m. old ++ unjoined_lines core.seen.reach.uplinks.dialled m uplink) walks.follows.moment ∙ ap (λ (reach : ReachSeen). old ++ unjoined_lines reach.uplinks.dialled (moment_of t) uplink) walks.follows.reach)

  -- ---- what is said

  pub tells_said : (from : Source) (cut : Cut) (verdict : Verdict) (old new : List JournalLineSeen) → new ≡ old ++ said_lines core from verdict → Tells setting t (Said from cut verdict ∷ t) old new
  tells_said from cut verdict old new is =
      tells_more setting t (Said from cut verdict ∷ t) (verdict_lines (label (group_of setting) from) (moment_of t) verdict) old new refl
      (is ∙ ap (λ m. old ++ verdict_lines (label (group_of setting) from) m verdict) walks.follows.moment)
