-- Links that were opened on no port for clients: the server never has them.
use Rattle.std.proofs.Common.{◌≡◌, ℕ, ◌==◌, ◌||◌, nat_le, nat_lt, ◌/◌, Bool, true, false, List, [], ◌∷◌, ◌++◌, filter, refl, sym, ap, ◌∙◌, Option, Some, None, Result, Ok, Err, if◌then◌else◌, cond, ◌⊎◌, inl, inr}
use Rattle.std.specs.Bool.{⊤}
use Rattle.std.proofs.lemmas.Bool.{cases_Bool, eqb-true, false_from_ne_true, or_parts, true≢false}
use Rattle.aprs_base.specs.Cuts.{cuts_by}
use Rattle.aprs_base.specs.declared.cutting.Cut.{Cut}
use Rattle.aprs_base.specs.declared.events.Event.{Event}
use Rattle.aprs_base.specs.declared.events.Event.TheVariants as event
use Rattle.aprs_base.specs.declared.events.Happening.TheVariants as did
use Rattle.aprs_base.specs.declared.events.Sent.TheVariants as sent
use Rattle.aprs_base.specs.declared.packets.PortKind.{PortKind}
use Rattle.aprs_base.specs.declared.packets.PortKind.TheVariants as kind
use Rattle.aprs_base.specs.declared.packets.Source.{Source}
use Rattle.aprs_base.specs.declared.packets.Source.TheVariants as source
use Rattle.aprs_base.specs.declared.texts.Addr.{Addr}
use Rattle.aprs_history.specs.Setting.{Setting, kind_at, peer_from}
use Rattle.aprs_history.specs.declared.verdicts.Admission.{Admission}
use Rattle.aprs_history.specs.declared.verdicts.Admission.TheVariants.{NoPort, NotAsked, TurnedAway}
use Rattle.aprs_history.specs.declared.verdicts.Admission.TheVariants as admission
use Rattle.aprs_history.specs.declared.verdicts.Refusal.{Refusal}
use Rattle.aprs_history.specs.declared.verdicts.EndReason.{EndReason}
use Rattle.aprs_history.specs.declared.verdicts.EndReason.TheVariants as reason
use Rattle.aprs_history.specs.Verdicts.{Scene, submitter_of, verdict_of}
use Rattle.aprs_history.specs.Scenes.{datagram_scene, scene_of}
use Rattle.aprs_history.specs.Trace.{Trace, Door, AtListener, ByUplink, RoundBegan, Dated, Looked, Unjoined, Ticked, Opened, Brought, Said, Roomed, Ended, closed_links, is_closing, is_live, is_member, is_other, live_links, moment_of, opened_link, placed, placed_all, stopped_link, stopped_links, turned_link, turned_links}
use Rattle.aprs_history.specs.Links.{brought_by, gone_links, is_gone, is_late, late_links, late_reason}
use Rattle.aprs_history.specs.Texts.{over_links, text_to}
use Rattle.aprs_history.specs.History.{History, admitted, begin_round, begun, comment_seconds, datagram_cuts, dated, end_all, end_each, end_stopped, ended, ends_round, is_stop, open_events, refused_links, refused_reason, relay, say_all, submit, trace_of, with_event, with_lines, with_tick}
use Rattle.aprs_history.specs.History as history

-- ---- out member

pub none_filtered : (p : ℕ → Bool) (k : ℕ) (ns : List ℕ) → is_member k ns ≡ false → is_member k (filter p ns) ≡ false
none_filtered p k [] out = refl
none_filtered p k (n ∷ ns) out = let parts = or_parts (n == k) (is_member k ns) out in of (p n) parts.0 (none_filtered p k ns parts.1)
  where
    of : (b : Bool) → (n == k) ≡ false → is_member k (filter p ns) ≡ false → is_member k (cond b (n ∷ filter p ns) (filter p ns)) ≡ false
    of true other later = ap (λ b. b || is_member k (filter p ns)) other ∙ later
    of false other later = later

pub none_appended : (k : ℕ) (ns ms : List ℕ) → is_member k ns ≡ false → is_member k ms ≡ false → is_member k (ns ++ ms) ≡ false
none_appended k [] ms out none = none
none_appended k (n ∷ ns) ms out none = let parts = or_parts (n == k) (is_member k ns) out in ap (λ b. b || is_member k (ns ++ ms)) parts.0 ∙ none_appended k ns ms parts.1 none

none_placed : (k n : ℕ) (ns : List ℕ) → (n == k) ≡ false → is_member k ns ≡ false → is_member k (placed n ns) ≡ false
none_placed k n [] other out = ap (λ b. b || false) other
none_placed k n (m ∷ ms) other out = let parts = or_parts (m == k) (is_member k ms) out in of (nat_le m n) parts.0 (none_placed k n ms other parts.1)
  where
    of : (b : Bool) → (m == k) ≡ false → is_member k (placed n ms) ≡ false → is_member k (if b then m ∷ placed n ms else n ∷ m ∷ ms) ≡ false
    of true first later = ap (λ b. b || is_member k (placed n ms)) first ∙ later
    of false first later = ap (λ b. b || is_member k (m ∷ ms)) other ∙ out

none_placed_all : (k : ℕ) (ns ms : List ℕ) → is_member k ns ≡ false → is_member k ms ≡ false → is_member k (placed_all ns ms) ≡ false
none_placed_all k [] ms out none = none
none_placed_all k (n ∷ ns) ms out none = let parts = or_parts (n == k) (is_member k ns) out in none_placed_all k ns (placed n ms) parts.1 (none_placed k n ms parts.0 none)

-- ---- a link that the server never has

pub record Without (k : ℕ) (t : Trace) : Type 0 where
  pub live : is_member k (live_links t) ≡ false
  pub stopped : is_member k (stopped_links t) ≡ false
  pub turned : is_member k (turned_links t) ≡ false
  pub closed : is_member k (closed_links t) ≡ false

stopped_other : (k link : ℕ) (why : EndReason) → (link == k) ≡ false → is_member k (stopped_link why link) ≡ false
stopped_other k link reason.ByStop other = ap (λ b. b || false) other
stopped_other k link why other = refl

closed_other : (k link : ℕ) (b : Bool) (ks : List ℕ) → (link == k) ≡ false → is_member k ks ≡ false → is_member k (if b then placed link ks else ks) ≡ false
closed_other k link true ks other out = none_placed k link ks other out
closed_other k link false ks other out = out

module _ (k : ℕ) where
  ended_other : (link : ℕ) (why : EndReason) (t : Trace) → (link == k) ≡ false → Without k t → Without k (Ended link why ∷ t)
  ended_other link why t other out = record {
    live = none_filtered (is_other link) k (live_links t) out.live;
    stopped = none_appended k (stopped_links t) (stopped_link why link) out.stopped (stopped_other k link why other);
    turned = out.turned;
    closed = closed_other k link (is_closing why) (closed_links t) other out.closed;
  }

  each_ended : (why : ℕ → EndReason) (ks : List ℕ) (t : Trace) → is_member k ks ≡ false → Without k t → Without k (end_each why ks t)
  each_ended why [] t none out = out
  each_ended why (link ∷ links) t none out = let parts = or_parts (link == k) (is_member k links) none in each_ended why links (Ended link (why link) ∷ t) parts.1 (ended_other link (why link) t parts.0 out)

  said : (scene : Trace → Scene) (from : Source) (cuts : List Cut) (t : Trace) → Without k t → Without k (say_all scene from cuts t)
  said scene from [] t out = out
  said scene from (cut ∷ cuts) t out = said scene from cuts (Said from cut (verdict_of (scene t) cut) ∷ t) (record { live = out.live; stopped = out.stopped; turned = out.turned; closed = out.closed })

  began : (t : Trace) → Without k t → Without k (begin_round t)
  began t out =
      let first : Without k (RoundBegan ∷ t) = record { live = out.live; stopped = out.stopped; turned = refl; closed = refl } in
      each_ended (λ link. reason.FoundGone) (gone_links (RoundBegan ∷ t)) (RoundBegan ∷ t) (none_filtered (is_gone (RoundBegan ∷ t)) k (live_links t) out.live) first

  refused : (s : Setting) (t : Trace) → Without k t → Without k (end_each (refused_reason t) (refused_links s t) t)
  refused s t out =
      each_ended (refused_reason t) (refused_links s t) t (none_placed_all k (turned_links t) (over_links s t) out.turned (none_filtered (λ link. (text_to s t link).over) k (live_links t) out.live)) out

  round_ended : (s : Setting) (stop : Bool) (t : Trace) → Without k t → Without k (end_stopped stop (end_each (refused_reason t) (refused_links s t) t))
  round_ended s false t out = refused s t out
  round_ended s true t out =
      let u = end_each (refused_reason t) (refused_links s t) t in
      let left = refused s t out in
      each_ended (λ link. reason.ByStop) (live_links u) u left.live left

  same_lists : (t u : Trace) → live_links u ≡ live_links t → stopped_links u ≡ stopped_links t → turned_links u ≡ turned_links t → closed_links u ≡ closed_links t → Without k t → Without k u
  same_lists t u live stopped turned closed out = record {
    live = ap (is_member k) live ∙ out.live;
    stopped = ap (is_member k) stopped ∙ out.stopped;
    turned = ap (is_member k) turned ∙ out.turned;
    closed = ap (is_member k) closed ∙ out.closed;
  }

  either : (b : Bool) (t u : Trace) → Without k t → Without k u → Without k (if b then t else u)
  either true t u out other = out
  either false t u out other = other

  ticked : (s : Setting) (moment : ℕ) (t : Trace) → Without k t → Without k (with_tick s moment t)
  ticked s moment t out =
      let now = Ticked moment ∷ t in
      let first = same_lists t now refl refl refl refl out in
      let later = end_each (late_reason now) (late_links s now) now in
      let left = each_ended (late_reason now) (late_links s now) now (none_filtered (is_late s now) k (live_links now) first.live) first in
      let told = either (nat_lt (moment_of t / comment_seconds) (moment_of later / comment_seconds)) (Dated (moment_of later) ∷ later) later (same_lists later (Dated (moment_of later) ∷ later) refl refl refl refl left) left in
      same_lists (dated (moment_of t) later) (Looked ∷ dated (moment_of t) later) refl refl refl refl told

  submitted : (s : Setting) (listener : ℕ) (cut : Cut) (cuts : List Cut) (by : Result (List ℕ) Refusal) (t : Trace) → Without k t → Without k (submit s listener cut cuts by t)
  submitted s listener cut cuts (Err why) t out = same_lists t _ refl refl refl refl out
  submitted s listener cut cuts (Ok login) t out = said (datagram_scene s _) (source.Submit listener) cuts t out

  relayed : (s : Setting) (listener : ℕ) (cut : Cut) (cuts : List Cut) (peer : Option (ℕ × List ℕ)) (t : Trace) → Without k t → Without k (relay s listener cut cuts peer t)
  relayed s listener cut cuts None t out = same_lists t _ refl refl refl refl out
  relayed s listener cut cuts (Some peer) t out = said (datagram_scene s _) (source.Peer peer.0) (cut ∷ cuts) t out

  carried : (s : Setting) (served : Option PortKind) (listener : ℕ) (from : Addr) (cuts : List Cut) (t : Trace) → Without k t → Without k (with_lines s served listener from cuts t)
  carried s served listener from [] t out = out
  carried s (Some kind.Submit) listener from (cut ∷ cuts) t out = submitted s listener cut cuts (submitter_of s.server cut) t out
  carried s (Some kind.Core) listener from (cut ∷ cuts) t out = relayed s listener cut cuts (peer_from 0 s.peers from) t out
  carried s (Some other) listener from (cut ∷ cuts) t out = out
  carried s None listener from (cut ∷ cuts) t out = out

  -- an opening of that link is on no port for clients
  abbrev pub IsStrange : Setting → Event → Type 0
  IsStrange s (event.Opened listener link from) = ((link == k) ≡ false) ⊎ (kind_at s listener ≡ None) ⊎ (kind_at s listener ≡ Some kind.Submit)
  IsStrange s (event.Joined uplink link at) = (link == k) ≡ false
  IsStrange s e = ⊤

  opened_other : (admission : Admission) (link : ℕ) → (link == k) ≡ false → (is_member k (opened_link admission link) ≡ false) × (is_member k (turned_link admission link) ≡ false)
  opened_other NoPort link other = (refl, refl)
  opened_other TurnedAway link other = (refl, ap (λ b. b || false) other)
  opened_other NotAsked link other = (refl, ap (λ b. b || false) other)
  opened_other (admission.Served what) link other = (ap (λ b. b || false) other, refl)

  opening : (door : Door) (admission : Admission) (link : ℕ) (from : Addr) (t : Trace) → (is_member k (opened_link admission link) ≡ false) × (is_member k (turned_link admission link) ≡ false) → Without k t
      → Without k (Opened door admission link from ∷ t)
  opening door admission link from t none out = record {
    live = none_appended k (live_links t) (opened_link admission link) out.live none.0;
    stopped = out.stopped;
    turned = none_appended k (turned_links t) (turned_link admission link) out.turned none.1;
    closed = out.closed;
  }

  admitted_strange : (s : Setting) (t : Trace) (listener link : ℕ) → ((link == k) ≡ false) ⊎ (kind_at s listener ≡ None) ⊎ (kind_at s listener ≡ Some kind.Submit)
      → (is_member k (opened_link (history.admission s t listener) link) ≡ false) × (is_member k (turned_link (history.admission s t listener) link) ≡ false)
  admitted_strange s t listener link (inl other) = opened_other (history.admission s t listener) link other
  admitted_strange s t listener link (inr (inl none)) = rw none (refl, refl)
  admitted_strange s t listener link (inr (inr submit)) = rw submit (refl, refl)

  happens : (s : Setting) (e : Event) (t : Trace) → IsStrange s e → Without k t → Without k (with_event s e t)
  happens s (event.Tick moment) t strange out = ticked s moment t out
  happens s (event.Opened listener link from) t strange out = opening (AtListener listener) (history.admission s t listener) link from t (admitted_strange s t listener link strange) out
  happens s (event.Bytes link bytes) t strange out =
      let brought = same_lists t (Brought link bytes ∷ t) refl refl refl refl out in
      either (is_live t link) _ t (said (λ now. scene_of s now link) (source.Link link) (cuts_by (brought_by t link) bytes) (Brought link bytes ∷ t) brought) out
  happens s (event.Ended link) t strange out = of (cases_Bool (is_live t link))
    where
      of : (is_live t link ≡ true) ⊎ (is_live t link ≡ false) → Without k (with_event s (event.Ended link) t)
      of (inl live) = rw live (ended_other link reason.ByPeer t (live_differs link live) out)
        where
          live_differs : (link : ℕ) → is_live t link ≡ true → (link == k) ≡ false
          live_differs link live = false_from_ne_true _ (λ is. true≢false (sym live ∙ ap (λ n. is_member n (live_links t)) (eqb-true link k is) ∙ out.live))
      of (inr dead) = rw dead out
  happens s (event.Room link) t strange out = either (is_live t link) (Roomed link ∷ t) t (same_lists t (Roomed link ∷ t) refl refl refl refl out) out
  happens s event.Stop t strange out = out
  happens s (event.Joined uplink link at) t strange out = opening (ByUplink uplink) _ link at t (opened_other _ link strange) out
  happens s (event.Unjoined uplink) t strange out = same_lists t (Unjoined uplink ∷ t) refl refl refl refl out
  happens s (event.Datagram listener from bytes) t strange out = carried s (kind_at s listener) listener from (datagram_cuts bytes) t out

  -- each opening of that link is so
  abbrev pub AreStrange : Setting → History → Type 0
  AreStrange s [] = ⊤
  AreStrange s (did.Event e ∷ earlier) = AreStrange s earlier × IsStrange s e
  AreStrange s (x ∷ earlier) = AreStrange s earlier

  round_over : (s : Setting) (ends : Bool) (e : Event) (t : Trace) → Without k t → Without k (ended s ends e t)
  round_over s false e t out = out
  round_over s true e t out = round_ended s (is_stop e) t out

  starts : (n : ℕ) (t : Trace) → Without k t → Without k (begun n t)
  starts n t out = either (n == 0) (begin_round t) t (began t out) out

  -- the server never has such a link: it doesn't live, isn't turned away, and is never closed
  pub strangers : (s : Setting) (h : History) → AreStrange s h → Without k (trace_of s h)
  unfolding trace_of
  strangers s [] strange = record { live = refl; stopped = refl; turned = refl; closed = refl }
  strangers s (did.Event e ∷ earlier) strange =
      round_over s (ends_round (open_events earlier) e) e _ (happens s e (begun (open_events earlier) (trace_of s earlier)) strange.1 (starts (open_events earlier) (trace_of s earlier) (strangers s earlier strange.0)))
  strangers s (did.Sent link bytes (sent.Took n) ∷ earlier) strange = same_lists (trace_of s earlier) _ refl refl refl refl (strangers s earlier strange)
  strangers s (did.Sent link bytes sent.Gone ∷ earlier) strange = same_lists (trace_of s earlier) _ refl refl refl refl (strangers s earlier strange)
  strangers s (happening ∷ earlier) strange = strangers s earlier strange
