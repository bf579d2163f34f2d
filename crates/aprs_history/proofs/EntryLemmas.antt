-- What events add to a trace, entry by entry: what each entry keeps is kept by whole events.
use Rattle.std.proofs.Common.{◌≡◌, ℕ, ◌==◌, ◌/◌, ◌||◌, nat_lt, Bool, true, false, List, [], ◌∷◌, refl, sym, ap, ◌∙◌, IfSome, Option, Some, None, Result, Ok, Err, ◌⊎◌, inl, inr, ⊎_elim, eq-eqb, if◌then◌else◌}
use Rattle.std.specs.Bool.{⊤, IsTrue}
use Rattle.std.specs.List.{list_any}
use Rattle.std.proofs.lemmas.Bool.{cases_Bool, or_parts, or_right}
use Rattle.aprs_base.specs.Cuts.{cuts_by}
use Rattle.aprs_base.specs.Outside.{new_link}
use Rattle.aprs_base.specs.declared.cutting.Cut.{Cut}
use Rattle.aprs_base.specs.declared.events.Event.{Event}
use Rattle.aprs_base.specs.declared.events.Event.TheVariants as event
use Rattle.aprs_base.specs.declared.events.Happening.TheVariants as did
use Rattle.aprs_base.specs.declared.packets.PortKind.{PortKind}
use Rattle.aprs_base.specs.declared.packets.PortKind.TheVariants as kind
use Rattle.aprs_base.specs.declared.packets.Source.{Source}
use Rattle.aprs_base.specs.declared.packets.Source.TheVariants as source
use Rattle.aprs_base.specs.declared.texts.Addr.{Addr}
use Rattle.q_construct.specs.declared.origins.Origin.TheVariants as origin
use Rattle.aprs_history.specs.Setting.{Setting, kind_at, peer_from}
use Rattle.aprs_history.specs.declared.verdicts.Refusal.{Refusal}
use Rattle.aprs_history.specs.declared.verdicts.Refusal.TheVariants as refusal
use Rattle.aprs_history.specs.declared.verdicts.Verdict.{Verdict}
use Rattle.aprs_history.specs.declared.verdicts.Verdict.TheVariants.{Refused}
use Rattle.aprs_history.specs.Trace.{Trace, Entry, AtListener, ByUplink, RoundBegan, Dated, Looked, Unjoined, Ticked, Opened, Brought, Said, Roomed, Took, Lost, Ended, is_live, is_member, is_unasked, live_links, moment_of, placed, placed_all, stopped_link, turned_links}
use Rattle.aprs_history.specs.declared.verdicts.EndReason.{EndReason}
use Rattle.aprs_history.specs.declared.verdicts.EndReason.TheVariants.{FoundGone, ByPeer, ByStop}
use Rattle.aprs_history.specs.Links.{brought_by, gone_links, is_gone, is_late, is_nameless, is_silent, late_links, late_reason}
use Rattle.aprs_history.specs.Verdicts.{Scene, submitter_of, verdict_of}
use Rattle.aprs_history.specs.Scenes.{datagram_scene, scene_of}
use Rattle.aprs_history.specs.Texts.{over_links, text_to}
use Rattle.aprs_history.specs.History.{History, admission, begin_round, begun, bring, comment_seconds, datagram_cuts, dated, end_all, end_each, end_stopped, ended, ends_round, is_stop, is_stopped, joined_admission, open_events, refused_links, refused_reason, relay, say_all, submit, trace_of, with_event, with_lines, with_tick}
use Rattle.aprs_history.specs.Headline.{EndsBy, is_end_by_peer}
use Rattle.aprs_history.proofs.NumberLemmas.{member_first, member_passes, member_placed}

-- a line of a link is of one that lives
abbrev pub IsSaidBy : Trace → Source → Type 0
IsSaidBy t (source.Link link) = is_live t link ≡ true
IsSaidBy t from = ⊤

-- and is judged by what it meets there
abbrev pub IsJudged : Setting → Trace → Source → Cut → Verdict → Type 0
IsJudged s t (source.Link link) cut verdict = verdict ≡ verdict_of (scene_of s t link) cut
IsJudged s t from cut verdict = ⊤

-- what the last event of a history may add before a stop: no outcome of a send, no opening but of such a link, lines of links that live,
-- and ends by the rules
abbrev pub MayAdd : Setting → History → (ℕ → Type 0) → Trace → Entry → Type 0
MayAdd s h Opens t (Opened door admission link from) = Opens link
MayAdd s h Opens t (Brought link bytes) = is_live t link ≡ true
MayAdd s h Opens t (Said from cut verdict) = IsSaidBy t from × IsJudged s t from cut verdict
MayAdd s h Opens t (Took link offered taken) = ⊥
MayAdd s h Opens t (Lost link) = ⊥
MayAdd s h Opens t (Ended link reason) = (stopped_link reason link ≡ []) × EndsBy s h t link reason
MayAdd s h Opens t entry = ⊤

-- where any link may be opened
pub any_link : (new : Option ℕ) → IfSome new (λ link. ⊤)
any_link None = tt
any_link (Some link) = tt

-- ---- ends by the rules

-- an end leaves the rules of the others
ends_later : (s : Setting) (h : History) (t : Trace) (k j : ℕ) (other reason : EndReason) → EndsBy s h t j reason → EndsBy s h (Ended k other ∷ t) j reason
ends_later s h t k j other ByPeer ends = ends
ends_later s h t k j other reason ends = ends

-- a reason's rule holds, and it is no stop
abbrev MayEnd : Setting → History → Trace → ℕ → EndReason → Type 0
MayEnd s h t k reason = (stopped_link reason k ≡ []) × EndsBy s h t k reason

late_ends : (s : Setting) (h : History) (t : Trace) (k : ℕ) → is_late s t k ≡ true → MayEnd s h t k (late_reason t k)
late_ends s h t k late = ⊎_elim (λ is. rw is (refl, is)) (λ not. rw not (refl, sym (ap (λ b. b || is_silent s t k) not) ∙ late)) (cases_Bool (is_nameless t k))

member_of_both : (k : ℕ) (ns ms : List ℕ) → is_member k (placed_all ns ms) ≡ true → is_member k ns ≡ false → is_member k ms ≡ true
member_of_both k [] ms member other = member
member_of_both k (n ∷ ns) ms member other =
    let parts = or_parts (n == k) (is_member k ns) other in
    let later = member_placed k n ms (member_of_both k ns (placed n ms) member parts.1) in
    sym (ap (λ b. b || is_member k ms) parts.0) ∙ later

-- a link that is turned away, or one that nobody had asked for
turned_ends : (s : Setting) (h : History) (t : Trace) (k : ℕ) → is_member k (turned_links t) ≡ true → (is_unasked t k ≡ true) ⊎ (is_unasked t k ≡ false) → MayEnd s h t k (refused_reason t k)
turned_ends s h t k turned (inl unasked) = rw (turned, unasked) (refl, unasked)
turned_ends s h t k turned (inr asked) = rw (turned, asked) (refl, turned)

refused_ends : (s : Setting) (h : History) (t : Trace) (k : ℕ) → is_member k (refused_links s t) ≡ true → MayEnd s h t k (refused_reason t k)
refused_ends s h t k member =
    ⊎_elim
    (λ turned. turned_ends s h t k turned (cases_Bool (is_unasked t k)))
    (λ other. rw other (refl, member_passes (λ link. (text_to s t link).over) k (live_links t) (member_of_both k (turned_links t) (over_links s t) member other)))
    (cases_Bool (is_member k (turned_links t)))

-- a line leaves it so
said_on : (from : Source) (t : Trace) → IsSaidBy t from → (cut : Cut) (verdict : Verdict) → IsSaidBy (Said from cut verdict ∷ t) from
said_on (source.Link link) t said cut verdict = said
said_on from t said cut verdict = tt

-- what each such entry keeps
module _ (s : Setting) (h : History) (Opens : ℕ → Type 0) (R : Trace → Type 0) (adds : (t : Trace) (entry : Entry) → MayAdd s h Opens t entry → R t → R (entry ∷ t)) where
  kept_said : (scene : Trace → Scene) (from : Source) → ((t : Trace) (cut : Cut) → IsJudged s t from cut (verdict_of (scene t) cut)) → (cuts : List Cut) (t : Trace) → IsSaidBy t from → R t
      → R (say_all scene from cuts t)
  kept_said scene from judged [] t said r = r
  kept_said scene from judged (cut ∷ cuts) t said r =
      let verdict = verdict_of (scene t) cut in
      let entry = Said from cut verdict in
      kept_said scene from judged cuts (entry ∷ t) (said_on from t said cut verdict) (adds t entry (said, judged t cut) r)

  kept_each : (reason : ℕ → EndReason) (ks : List ℕ) (t : Trace) → ((k : ℕ) → is_member k ks ≡ true → MayEnd s h t k (reason k)) → R t → R (end_each reason ks t)
  kept_each reason [] t ends r = r
  kept_each reason (k ∷ ks) t ends r =
      let later : (j : ℕ) → is_member j ks ≡ true → MayEnd s h (Ended k (reason k) ∷ t) j (reason j) =
      λ j member. let end = ends j (or_right (k == j) (is_member j ks) member) in (end.0, ends_later s h t k j (reason k) (reason j) end.1) in
      kept_each reason ks (Ended k (reason k) ∷ t) later (adds t (Ended k (reason k)) (ends k (member_first k ks)) r)

  kept_if : (b : Bool) (t u : Trace) → (b ≡ true → R t) → R u → R (if b then t else u)
  kept_if true t u r other = r refl
  kept_if false t u r other = other

  pub kept_begun : (n : ℕ) (t : Trace) → R t → R (begun n t)
  kept_begun n t r =
      let began = RoundBegan ∷ t in
      kept_if (n == 0) (begin_round t) t
      (λ is. kept_each (λ k. FoundGone) (gone_links began) began (λ k member. (refl, member_passes (is_gone began) k (live_links began) member)) (adds t RoundBegan tt r)) r

  kept_tick : (m : ℕ) (t : Trace) → R t → R (with_tick s m t)
  kept_tick m t r =
      let now = Ticked m ∷ t in
      let later = end_each (late_reason now) (late_links s now) now in
      let kept = kept_each (late_reason now) (late_links s now) now (λ k member. late_ends s h now k (member_passes (is_late s now) k (live_links now) member)) (adds t (Ticked m) tt r) in
      adds (dated (moment_of t) later) Looked tt
      (kept_if (nat_lt (moment_of t / comment_seconds) (moment_of later / comment_seconds)) (Dated (moment_of later) ∷ later) later (λ is. adds later (Dated (moment_of later)) tt kept) kept)

  kept_refusal : (listener : ℕ) (cut : Cut) (why : Refusal) (t : Trace) → R t → R (Said (source.Submit listener) cut (Refused why) ∷ t)
  kept_refusal listener cut why t r = adds t (Said (source.Submit listener) cut (Refused why)) (tt, tt) r

  kept_submit : (listener : ℕ) (cut : Cut) (cuts : List Cut) (by : Result (List ℕ) Refusal) (t : Trace) → R t → R (submit s listener cut cuts by t)
  kept_submit listener cut cuts (Err why) t r = kept_refusal listener cut why t r
  kept_submit listener cut cuts (Ok login) t r = kept_said (datagram_scene s (origin.Udp login)) (source.Submit listener) (λ u cut. tt) cuts t tt r

  kept_relay : (listener : ℕ) (cut : Cut) (cuts : List Cut) (peer : Option (ℕ × List ℕ)) (t : Trace) → R t → R (relay s listener cut cuts peer t)
  kept_relay listener cut cuts None t r = kept_refusal listener cut refusal.Stranger t r
  kept_relay listener cut cuts (Some peer) t r = kept_said (datagram_scene s (origin.Peer peer.1)) (source.Peer peer.0) (λ u cut. tt) (cut ∷ cuts) t tt r

  kept_lines : (served : Option PortKind) (listener : ℕ) (from : Addr) (cuts : List Cut) (t : Trace) → R t → R (with_lines s served listener from cuts t)
  kept_lines served listener from [] t r = r
  kept_lines (Some kind.Submit) listener from (cut ∷ cuts) t r = kept_submit listener cut cuts (submitter_of s.server cut) t r
  kept_lines (Some kind.Core) listener from (cut ∷ cuts) t r = kept_relay listener cut cuts (peer_from 0 s.peers from) t r
  kept_lines (Some other) listener from (cut ∷ cuts) t r = r
  kept_lines None listener from (cut ∷ cuts) t r = r

  pub kept_event : (before : History) (e : Event) (t : Trace) → h ≡ did.Event e ∷ before → IfSome (new_link e) Opens → R t → R (with_event s e t)
  kept_event before (event.Tick moment) t last opens r = kept_tick moment t r
  kept_event before (event.Opened listener link from) t last opens r = adds t (Opened (AtListener listener) (admission s t listener) link from) opens r
  kept_event before (event.Bytes link bytes) t last opens r =
      kept_if (is_live t link) (bring s link bytes t) t (λ live. kept_said (λ now. scene_of s now link) (source.Link link) (λ u cut. refl) (cuts_by (brought_by t link) bytes) (Brought link bytes ∷ t) live (adds t (Brought link bytes) live r)) r
  kept_event before (event.Ended link) t last opens r = kept_if (is_live t link) (Ended link ByPeer ∷ t) t (λ live. adds t (Ended link ByPeer) (refl, ap (list_any (is_end_by_peer link)) last ∙ ap (λ b. b || list_any (is_end_by_peer link) before) (eq-eqb link link refl)) r) r
  kept_event before (event.Room link) t last opens r = kept_if (is_live t link) (Roomed link ∷ t) t (λ live. adds t (Roomed link) tt r) r
  kept_event before event.Stop t last opens r = r
  kept_event before (event.Joined uplink link at) t last opens r = adds t (Opened (ByUplink uplink) (joined_admission s t uplink link) link at) opens r
  kept_event before (event.Unjoined uplink) t last opens r = adds t (Unjoined uplink) tt r
  kept_event before (event.Datagram listener from bytes) t last opens r = kept_lines (kind_at s listener) listener from (datagram_cuts bytes) t r

  -- up to the round's end
  pub kept_before_end : (n : ℕ) (before : History) (e : Event) (t : Trace) → h ≡ did.Event e ∷ before → IfSome (new_link e) Opens → R t → R (with_event s e (begun n t))
  kept_before_end n before e t last opens r = kept_event before e (begun n t) last opens (kept_begun n t r)

  -- the links that are refused end with their round
  pub kept_refused : (t : Trace) → R t → R (end_each (refused_reason t) (refused_links s t) t)
  kept_refused t r = kept_each (refused_reason t) (refused_links s t) t (refused_ends s h t) r

  -- and what a stop keeps too
  module _ (stops : (t : Trace) (k : ℕ) → IsTrue (is_stopped h) → R t → R (Ended k ByStop ∷ t)) where
    kept_stopped : (ks : List ℕ) (t : Trace) → IsTrue (is_stopped h) → R t → R (end_all ByStop ks t)
    kept_stopped [] t stopped r = r
    kept_stopped (k ∷ ks) t stopped r = kept_stopped ks (Ended k ByStop ∷ t) stopped (stops t k stopped r)

    kept_stop : (stop : Bool) (t : Trace) → (stop ≡ true → IsTrue (is_stopped h)) → R t → R (end_stopped stop t)
    kept_stop false t stopped r = r
    kept_stop true t stopped r = kept_stopped (live_links t) t (stopped refl) r

    pub kept_ended : (ends : Bool) (before : History) (e : Event) (t : Trace) → h ≡ did.Event e ∷ before → R t → R (ended s ends e t)
    kept_ended false before e t last r = r
    kept_ended true before e t last r =
        kept_stop (is_stop e) (end_each (refused_reason t) (refused_links s t) t) (λ stop. ap is_stopped last ∙ ap (λ b. b || is_stopped before) stop) (kept_refused t r)

-- the last event keeps it
pub kept_after : (s : Setting) (h : History) (e : Event) (Opens : ℕ → Type 0) (R : Trace → Type 0)
    → ((t : Trace) (entry : Entry) → MayAdd s (did.Event e ∷ h) Opens t entry → R t → R (entry ∷ t))
    → ((t : Trace) (k : ℕ) → IsTrue (is_stopped (did.Event e ∷ h)) → R t → R (Ended k ByStop ∷ t))
    → IfSome (new_link e) Opens → R (trace_of s h) → R (trace_of s (did.Event e ∷ h))
unfolding trace_of
kept_after s h e Opens R adds stops opens r =
    kept_ended s (did.Event e ∷ h) Opens R adds stops (ends_round (open_events h) e) h e (with_event s e (begun (open_events h) (trace_of s h))) refl
    (kept_before_end s (did.Event e ∷ h) Opens R adds (open_events h) h e (trace_of s h) refl opens r)
