-- Which links have ended: where no round goes on, those of clients that don't live any more.
use Rattle.std.proofs.Common.{◌≡◌, ℕ, ◌+◌, ◌/◌, ◌<◌, ◌≤◌, ◌==◌, ◌||◌, ◌&&◌, nat_lt, not, Bool, true, false, List, [], ◌∷◌, ◌++◌, filter, length, refl, sym, ap, ◌∙◌, subst, arith, IfSome, Option, Some, None, Result, Ok, Err, ◌⊎◌, inl, inr, ⊎_elim, if◌then◌else◌}
use Rattle.std.specs.Prelude.{slice_get}
use Rattle.std.proofs.Math.Bool.{or-false, or_assoc, or_comm}
use Rattle.std.proofs.lemmas.Bool.{cases_Bool, eqb-true, or_left, or_right, false≢true}
use Rattle.std.proofs.lemmas.List.Folds.{list_any-append}
use Rattle.std.proofs.lemmas.Map.Views.{any-filter_same}
use Rattle.aprs_base.specs.Cuts.{cuts_by}
use Rattle.aprs_base.specs.Outside.{new_link}
use Rattle.aprs_base.specs.declared.cutting.Cut.{Cut}
use Rattle.aprs_base.specs.declared.events.Event.{Event}
use Rattle.aprs_base.specs.declared.events.Event.TheVariants as event
use Rattle.aprs_base.specs.declared.events.Sent.TheVariants as sent
use Rattle.aprs_base.specs.declared.events.Happening.TheVariants as did
use Rattle.aprs_base.specs.declared.packets.PortKind.{PortKind}
use Rattle.aprs_base.specs.declared.packets.PortKind.TheVariants as kind
use Rattle.aprs_base.specs.declared.packets.Source.{Source}
use Rattle.aprs_base.specs.declared.packets.Source.TheVariants as source
use Rattle.aprs_base.specs.declared.texts.Addr.{Addr}
use Rattle.q_construct.specs.declared.origins.Origin.TheVariants as origin
use Rattle.aprs_history.specs.declared.verdicts.Admission.{Admission}
use Rattle.aprs_history.specs.declared.verdicts.Admission.TheVariants.{NoPort, NotAsked, TurnedAway, Served}
use Rattle.aprs_history.specs.declared.verdicts.EndReason.{EndReason}
use Rattle.aprs_history.specs.declared.verdicts.EndReason.TheVariants.{ByPeer, FoundGone, ByStop}
use Rattle.aprs_history.specs.declared.verdicts.LinkKind.TheVariants.{Client}
use Rattle.aprs_history.specs.declared.verdicts.Refusal.{Refusal}
use Rattle.aprs_history.specs.Setting.{Setting, is_client_kind, kind_at, peer_from}
use Rattle.aprs_history.specs.Trace.{Trace, Door, AtListener, ByUplink, RoundBegan, Dated, Ticked, Opened, Brought, Said, Roomed, Ended, is_live, is_member, is_other, live_links, moment_of, opened_link, placed, placed_all, turned_link, turned_links}
use Rattle.aprs_history.specs.Links.{brought_by, client_links, is_gone, is_late, late_links, late_reason}
use Rattle.aprs_history.specs.Verdicts.{Scene, submitter_of, verdict_of}
use Rattle.aprs_history.specs.Scenes.{datagram_scene, scene_of}
use Rattle.aprs_history.specs.Texts.{over_links, text_to}
use Rattle.aprs_history.specs.History.{History, admission, admitted, begin_round, begun, bring, comment_seconds, datagram_cuts, end_each, end_round, end_stopped, ended, ends_round, greater_link, greatest_link, is_stop, joined_admission, open_events, refused_links, refused_reason, relay, say_all, submit, trace_of, with_event, with_lines, with_tick}
use Rattle.aprs_history.proofs.NumberLemmas.{member_first}
use Rattle.net_history.specs.declared.events.NetEvent.{NetEvent}
use Rattle.net_history.specs.Laws.{CountsLinks}
use Rattle.net_history.specs.Network.{Layout, ServerSeen, trace_at}
use Rattle.net_history.specs.Openings.{IsOpening, WasOpened, is_heard, serves_clients}
use Rattle.net_history.specs.Steps.{has_ended, network_of}
use Rattle.net_history.proofs.FinishLemmas.{rounds_are_finished}
use Rattle.net_history.proofs.RunLemmas.{servers_run}
use Rattle.net_history.proofs.SaidLemmas.{member_kept}
use Rattle.net_history.proofs.StreamLemmas.{eqb_other, eqb_same}

-- ---- how a link stands

-- in a trace: whether it lives, has ended, and was turned away in the round
record Standing : Type 0 where
  live : Bool
  ended : Bool
  turned : Bool

abbrev standing : Bool → Bool → Bool → Standing
standing live ended turned = record { live = live; ended = ended; turned = turned }

-- it isn't known
abbrev unknown : Standing
unknown = standing false false false

-- it was turned away, and ends with the round
abbrev waiting : Standing
waiting = standing false false true

abbrev ended_by : Bool → Standing → Standing
ended_by true a = standing false true a.turned
ended_by false a = a

-- it stands as it did, or it has ended since and lived before or was turned away
abbrev GoesOn : Standing → Standing → Type 0
GoesOn a b = (b ≡ a) ⊎ ((b ≡ ended_by true a) × ((a.live || a.turned) ≡ true))

-- where no round goes on: a link that clients may open lives or has ended, and another isn't known
abbrev Rests : Bool → Standing → Type 0
Rests true a = a.ended ≡ not a.live
Rests false a = a ≡ unknown

-- and within a round
abbrev Stands : Bool → Standing → Type 0
Stands true a = (a.ended ≡ not a.live) ⊎ (a ≡ waiting)
Stands false a = a ≡ unknown

-- after so many events of a round
record Keeps (heard : Bool) (events : ℕ) (a : Standing) : Type 0 where
  rests : events ≡ 0 → Rests heard a
  stands : Stands heard a

stands_resting : (heard : Bool) (a : Standing) → Rests heard a → Stands heard a
stands_resting true a rests = inl rests
stands_resting false a rests = rests

unknown_goes : (b : Standing) → GoesOn unknown b → b ≡ unknown
unknown_goes b (inl same) = same
unknown_goes b (inr ends) = absurd (false≢true ends.1)

rests_on : (heard : Bool) (a b : Standing) → GoesOn a b → Rests heard a → Rests heard b
rests_on true a b (inl same) rests = subst (Rests true) (sym same) rests
rests_on true a b (inr ends) rests = subst (Rests true) (sym ends.0) refl
rests_on false a b goes rests = unknown_goes b (subst (λ x. GoesOn x b) rests goes)

stands_on : (heard : Bool) (a b : Standing) → GoesOn a b → Stands heard a → Stands heard b
stands_on true a b (inl same) stands = subst (Stands true) (sym same) stands
stands_on true a b (inr ends) stands = subst (Stands true) (sym ends.0) (inl refl)
stands_on false a b goes stands = unknown_goes b (subst (λ x. GoesOn x b) stands goes)

ended_twice : (b c : Bool) (a : Standing) → ended_by b (ended_by c a) ≡ ended_by (c || b) a
ended_twice true true a = refl
ended_twice true false a = refl
ended_twice false true a = refl
ended_twice false false a = refl

ends_on : (b : Bool) (a : Standing) → (b ≡ true → (a.live || a.turned) ≡ true) → GoesOn a (ended_by b a)
ends_on true a was = inr (refl, was refl)
ends_on false a was = inl refl

standing_as : (ended : Bool) {live live' turned turned' : Bool} → live ≡ live' → turned ≡ turned' → standing live ended turned ≡ standing live' ended turned'
standing_as ended {live' = live'} {turned = turned} is_live is_turned = ap (λ x. standing x ended turned) is_live ∙ ap (standing live' ended) is_turned

-- ---- members

eqb_turned : (a b : ℕ) → (a == b) ≡ (b == a)
eqb_turned a b = ⊎_elim
    (λ is. let same : a ≡ b = eqb-true a b is in is ∙ sym (ap (λ x. x == a) (sym same) ∙ eqb_same a))
    (λ other. other ∙ sym (eqb_other b a (λ same. false≢true (sym other ∙ ap (λ x. a == x) same ∙ eqb_same a))))
    (cases_Bool (a == b))

or_turned : (a b c : Bool) → (b || (a || c)) ≡ (a || (b || c))
or_turned a b c = sym (or_assoc b a c) ∙ ap (λ x. x || c) (or_comm b a) ∙ or_assoc a b c

or_grouped : (a b c : Bool) → (a || (b || c)) ≡ ((b || a) || c)
or_grouped a b c = sym (or_assoc a b c) ∙ ap (λ x. x || c) (or_comm a b)

module _ (link : ℕ) where
  placed_members : (n : ℕ) (ms : List ℕ) → is_member link (placed n ms) ≡ (n == link || is_member link ms)
  placed_members n [] = refl
  placed_members n (m ∷ ms) = of _ (placed_members n ms)
    where
      of : (b : Bool) → is_member link (placed n ms) ≡ (n == link || is_member link ms) → is_member link (if b then m ∷ placed n ms else n ∷ m ∷ ms) ≡ (n == link || (m == link || is_member link ms))
      of true later = ap (λ b. m == link || b) later ∙ or_turned (n == link) (m == link) (is_member link ms)
      of false later = refl

  all_members : (ns ms : List ℕ) → is_member link (placed_all ns ms) ≡ (is_member link ns || is_member link ms)
  all_members [] ms = refl
  all_members (n ∷ ns) ms =
      all_members ns (placed n ms) ∙ ap (λ b. is_member link ns || b) (placed_members n ms) ∙ or_grouped (is_member link ns) (n == link) (is_member link ms)

  longer_members : (ns ms : List ℕ) → is_member link (ns ++ ms) ≡ (is_member link ns || is_member link ms)
  longer_members ns ms = list_any-append (λ n. n == link) ns ms

  -- ---- ends

  abbrev stand : Trace → Standing
  stand t = standing (is_live t link) (has_ended t link) (is_member link (turned_links t))

  one_ends : (k : ℕ) (reason : EndReason) (t : Trace) → stand (Ended k reason ∷ t) ≡ ended_by (k == link) (stand t)
  one_ends k reason t =
      ap (λ live. standing live (k == link || has_ended t link) (is_member link (turned_links t)))
      (any-filter_same (λ n. n == link) (is_other k) (is_other k link) (λ n is. ap (is_other k) (eqb-true n link is)) (live_links t) ∙ ap (λ b. not b && is_live t link) (eqb_turned link k))
      ∙ of (k == link)
    where
      of : (b : Bool) → standing (not b && is_live t link) (b || has_ended t link) (is_member link (turned_links t)) ≡ ended_by b (stand t)
      of true = refl
      of false = refl

  each_ends : (reason : ℕ → EndReason) (ks : List ℕ) (t : Trace) → stand (end_each reason ks t) ≡ ended_by (is_member link ks) (stand t)
  each_ends reason [] t = refl
  each_ends reason (k ∷ ks) t =
      each_ends reason ks (Ended k (reason k) ∷ t) ∙ ap (ended_by (is_member link ks)) (one_ends k (reason k) t) ∙ ended_twice (is_member link ks) (k == link) (stand t)

  goes_each : (reason : ℕ → EndReason) (ks : List ℕ) (t : Trace) → (is_member link ks ≡ true → (is_live t link || is_member link (turned_links t)) ≡ true) → GoesOn (stand t) (stand (end_each reason ks t))
  goes_each reason ks t among = subst (GoesOn (stand t)) (sym (each_ends reason ks t)) (ends_on (is_member link ks) (stand t) among)

  -- of links that live
  goes_filtered : (reason : ℕ → EndReason) (p : ℕ → Bool) (t : Trace) → GoesOn (stand t) (stand (end_each reason (filter p (live_links t)) t))
  goes_filtered reason p t = goes_each reason (filter p (live_links t)) t (λ is. or_left (is_live t link) (is_member link (turned_links t)) (member_kept p link (live_links t) is))

  goes_stopped : (stop : Bool) (t : Trace) → GoesOn (stand t) (stand (end_stopped stop t))
  goes_stopped false t = inl refl
  goes_stopped true t = goes_each (λ k. ByStop) (live_links t) t (λ is. or_left (is_live t link) (is_member link (turned_links t)) is)

  module _ (s : Setting) where
    goes_refused : (t : Trace) → GoesOn (stand t) (stand (end_each (refused_reason t) (refused_links s t) t))
    goes_refused t = goes_each (refused_reason t) (refused_links s t) t (λ is. ⊎_elim
        (λ turned. or_right (is_live t link) (is_member link (turned_links t)) turned)
        (λ other. or_left (is_live t link) (is_member link (turned_links t))
        (member_kept (λ k. (text_to s t k).over) link (live_links t) (ap (λ b. b || is_member link (over_links s t)) (sym other) ∙ sym (all_members (turned_links t) (over_links s t)) ∙ is)))
        (cases_Bool (is_member link (turned_links t))))

    -- who was turned away ends
    rests_refused : (heard : Bool) (t : Trace) → Stands heard (stand t) → Rests heard (stand (end_each (refused_reason t) (refused_links s t) t))
    rests_refused true t (inl rests) = rests_on true (stand t) (stand (end_each (refused_reason t) (refused_links s t) t)) (goes_refused t) rests
    rests_refused true t (inr waits) =
        let refused : is_member link (refused_links s t) ≡ true =
        all_members (turned_links t) (over_links s t) ∙ ap (λ b. b || is_member link (over_links s t)) (ap (λ (a : Standing). a.turned) waits) in
        subst (Rests true) (sym (each_ends (refused_reason t) (refused_links s t) t ∙ ap (λ b. ended_by b (stand t)) refused)) refl
    rests_refused false t stands = rests_on false (stand t) (stand (end_each (refused_reason t) (refused_links s t) t)) (goes_refused t) stands

    rests_ended : (heard stop : Bool) (t : Trace) → Stands heard (stand t) → Rests heard (stand (end_round s stop t))
    rests_ended heard stop t stands =
        let refused = end_each (refused_reason t) (refused_links s t) t in
        rests_on heard (stand refused) (stand (end_stopped stop refused)) (goes_stopped stop refused) (rests_refused heard t stands)

    -- ---- what an event adds

    said_stands : (scene : Trace → Scene) (from : Source) (cuts : List Cut) (t : Trace) → stand (say_all scene from cuts t) ≡ stand t
    said_stands scene from [] t = refl
    said_stands scene from (said ∷ cuts) t = said_stands scene from cuts (Said from said (verdict_of (scene t) said) ∷ t)

    submit_stands : (listener : ℕ) (said : Cut) (cuts : List Cut) (by : Result (List ℕ) Refusal) (t : Trace) → stand (submit s listener said cuts by t) ≡ stand t
    submit_stands listener said cuts (Err why) t = refl
    submit_stands listener said cuts (Ok login) t = said_stands (datagram_scene s (origin.Udp login)) (source.Submit listener) cuts t

    relay_stands : (listener : ℕ) (said : Cut) (cuts : List Cut) (peer : Option (ℕ × List ℕ)) (t : Trace) → stand (relay s listener said cuts peer t) ≡ stand t
    relay_stands listener said cuts None t = refl
    relay_stands listener said cuts (Some peer) t = said_stands (datagram_scene s (origin.Peer peer.1)) (source.Peer peer.0) (said ∷ cuts) t

    lines_stand : (served : Option PortKind) (listener : ℕ) (from : Addr) (cuts : List Cut) (t : Trace) → stand (with_lines s served listener from cuts t) ≡ stand t
    lines_stand served listener from [] t = refl
    lines_stand (Some kind.Submit) listener from (said ∷ cuts) t = submit_stands listener said cuts (submitter_of s.server said) t
    lines_stand (Some kind.Core) listener from (said ∷ cuts) t = relay_stands listener said cuts (peer_from 0 s.peers from) t
    lines_stand (Some other) listener from (said ∷ cuts) t = refl
    lines_stand None listener from (said ∷ cuts) t = refl

    brought_stands : (k : ℕ) (bytes : List ℕ) (b : Bool) (t : Trace) → stand (if b then bring s k bytes t else t) ≡ stand t
    brought_stands k bytes true t = said_stands (λ now. scene_of s now k) (source.Link k) (cuts_by (brought_by t k) bytes) (Brought k bytes ∷ t)
    brought_stands k bytes false t = refl

    roomed_stands : (k : ℕ) (b : Bool) (t : Trace) → stand (if b then Roomed k ∷ t else t) ≡ stand t
    roomed_stands k true t = refl
    roomed_stands k false t = refl

    dated_stands : (moment : ℕ) (b : Bool) (t : Trace) → stand (if b then Dated moment ∷ t else t) ≡ stand t
    dated_stands moment true t = refl
    dated_stands moment false t = refl

    goes_tick : (moment : ℕ) (t : Trace) → GoesOn (stand t) (stand (with_tick s moment t))
    goes_tick moment t =
        let now = Ticked moment ∷ t in
        let later = end_each (late_reason now) (late_links s now) now in
        subst (GoesOn (stand t)) (sym (dated_stands (moment_of later) (nat_lt (moment_of t / comment_seconds) (moment_of later / comment_seconds)) later)) (goes_filtered (late_reason now) (is_late s now) now)

    goes_peer : (k : ℕ) (t : Trace) → GoesOn (stand t) (stand (if is_live t k then Ended k ByPeer ∷ t else t))
    goes_peer k t = of (is_live t k) refl
      where
        of : (b : Bool) → is_live t k ≡ b → GoesOn (stand t) (stand (if b then Ended k ByPeer ∷ t else t))
        of true lives = goes_each (λ j. ByPeer) (k ∷ []) t (λ is. or_left (is_live t link) (is_member link (turned_links t)) (ap (is_live t) (sym (eqb-true k link (sym (or-false (k == link)) ∙ is))) ∙ lives))
        of false lives = inl refl

    -- another link comes
    other_opened : (admission : Admission) (k : ℕ) → (k == link) ≡ false → is_member link (opened_link admission k) ≡ false
    other_opened (Served its) k other = ap (λ b. b || false) other
    other_opened admission k other = refl

    other_turned : (admission : Admission) (k : ℕ) → (k == link) ≡ false → is_member link (turned_link admission k) ≡ false
    other_turned TurnedAway k other = ap (λ b. b || false) other
    other_turned NotAsked k other = ap (λ b. b || false) other
    other_turned admission k other = refl

    without : (ns ms : List ℕ) → is_member link ms ≡ false → is_member link (ns ++ ms) ≡ is_member link ns
    without ns ms none = longer_members ns ms ∙ ap (λ b. is_member link ns || b) none ∙ or-false (is_member link ns)

    other_stands : (door : Door) (admission : Admission) (k : ℕ) (from : Addr) (t : Trace) → (k == link) ≡ false → stand (Opened door admission k from ∷ t) ≡ stand t
    other_stands door admission k from t other =
        standing_as (has_ended t link)
        (without (live_links t) (opened_link admission k) (other_opened admission k other))
        (without (turned_links t) (turned_link admission k) (other_turned admission k other))

    abbrev IsOther : Event → Type 0
    IsOther e = IfSome (new_link e) (λ k. (k == link) ≡ false)

    goes_event : (e : Event) (t : Trace) → IsOther e → GoesOn (stand t) (stand (with_event s e t))
    goes_event (event.Tick moment) t other = goes_tick moment t
    goes_event (event.Opened listener k from) t other = inl (other_stands (AtListener listener) (admission s t listener) k from t other)
    goes_event (event.Bytes k bytes) t other = inl (brought_stands k bytes (is_live t k) t)
    goes_event (event.Ended k) t other = goes_peer k t
    goes_event (event.Room k) t other = inl (roomed_stands k (is_live t k) t)
    goes_event event.Stop t other = inl refl
    goes_event (event.Joined uplink k at) t other = inl (other_stands (ByUplink uplink) (joined_admission s t uplink k) k at t other)
    goes_event (event.Unjoined uplink) t other = inl refl
    goes_event (event.Datagram listener from bytes) t other = inl (lines_stand (kind_at s listener) listener from (datagram_cuts bytes) t)

    -- the link itself comes
    stands_opened : (listener most there : ℕ) (served : Option PortKind) (from : Addr) (t : Trace) → stand t ≡ unknown
        → Stands (serves_clients served) (stand (Opened (AtListener listener) (admitted most there served) link from ∷ t))
    stands_opened listener most there served from t none = of served
      where
        not_there : (ns : List ℕ) → is_member link ns ≡ false → is_member link (ns ++ []) ≡ false
        not_there ns absent = without ns [] refl ∙ absent

        last_there : (ns : List ℕ) → is_member link (ns ++ link ∷ []) ≡ true
        last_there ns = longer_members ns (link ∷ []) ∙ or_right (is_member link ns) (is_member link (link ∷ [])) (member_first link [])

        live : is_live t link ≡ false
        live = ap (λ (a : Standing). a.live) none

        ends : has_ended t link ≡ false
        ends = ap (λ (a : Standing). a.ended) none

        turned : is_member link (turned_links t) ≡ false
        turned = ap (λ (a : Standing). a.turned) none

        at_values : (l : Bool) (ns ms : List ℕ) (b : Bool) → is_member link ns ≡ l → is_member link ms ≡ b → standing (is_member link ns) (has_ended t link) (is_member link ms) ≡ standing l false b
        at_values l ns ms b a c = standing_as (has_ended t link) a c ∙ ap (λ x. standing l x b) ends

        by_kind : (b room : Bool) (port : PortKind) → Stands b (stand (Opened (AtListener listener) (if b then (if room then Served (Client port) else TurnedAway) else NoPort) link from ∷ t))
        by_kind true true port = inl (ends ∙ ap not (sym (last_there (live_links t))))
        by_kind true false port = inr (at_values false (live_links t ++ []) (turned_links t ++ link ∷ []) true (not_there (live_links t) live) (last_there (turned_links t)))
        by_kind false room port = at_values false (live_links t ++ []) (turned_links t ++ []) false (not_there (live_links t) live) (not_there (turned_links t) turned)

        of : (served : Option PortKind) → Stands (serves_clients served) (stand (Opened (AtListener listener) (admitted most there served) link from ∷ t))
        of None = at_values false (live_links t ++ []) (turned_links t ++ []) false (not_there (live_links t) live) (not_there (turned_links t) turned)
        of (Some port) = by_kind (is_client_kind port) (nat_lt there most) port

    -- ---- rounds

    stands_begun : (heard : Bool) (n : ℕ) (t : Trace) → (n ≡ 0 → Rests heard (stand t)) → Stands heard (stand t) → Stands heard (stand (begun n t))
    stands_begun heard n t rests stands = of (n == 0) refl
      where
        began : (heard : Bool) → Rests heard (stand t) → Rests heard (stand (RoundBegan ∷ t))
        began true rests = rests
        began false rests = ap (λ (a : Standing). standing a.live a.ended false) rests

        of : (b : Bool) → (n == 0) ≡ b → Stands heard (stand (if b then begin_round t else t))
        of true first =
            stands_resting heard (stand (begin_round t))
            (rests_on heard (stand (RoundBegan ∷ t)) (stand (begin_round t)) (goes_filtered (λ k. FoundGone) (is_gone (RoundBegan ∷ t)) (RoundBegan ∷ t)) (began heard (rests (eqb-true n 0 first))))
        of false first = stands

    rests_after : (heard ends : Bool) (n : ℕ) (e : Event) (t : Trace) → Stands heard (stand t) → (if ends then 0 else n + 1) ≡ 0 → Rests heard (stand (ended s ends e t))
    rests_after heard true n e t stands finished = rests_ended heard (is_stop e) t stands
    rests_after heard false n e t stands finished = absurd (omega (arith, finished))

    stands_after : (heard ends : Bool) (e : Event) (t : Trace) → Stands heard (stand t) → Stands heard (stand (ended s ends e t))
    stands_after heard true e t stands = stands_resting heard (stand (end_round s (is_stop e) t)) (rests_ended heard (is_stop e) t stands)
    stands_after heard false e t stands = stands

    -- ---- histories

    abbrev KeptBy : Bool → History → Type 0
    KeptBy heard h = Keeps heard (open_events h) (stand (trace_of s h))

    keeps_event : (heard : Bool) (h : History) (e : Event) → Stands heard (stand (with_event s e (begun (open_events h) (trace_of s h)))) → KeptBy heard (did.Event e ∷ h)
    unfolding trace_of
    keeps_event heard h e stands =
        let t = with_event s e (begun (open_events h) (trace_of s h)) in
        record { rests = rests_after heard (ends_round (open_events h) e) (open_events h) e t stands; stands = stands_after heard (ends_round (open_events h) e) e t stands }

    keeps_on : (heard : Bool) (h : History) (e : Event) → IsOther e → KeptBy heard h → KeptBy heard (did.Event e ∷ h)
    keeps_on heard h e other keeps =
        let begins = begun (open_events h) (trace_of s h) in
        keeps_event heard h e (stands_on heard (stand begins) (stand (with_event s e begins)) (goes_event e begins other) (stands_begun heard (open_events h) (trace_of s h) keeps.rests keeps.stands))

    not_above : (new : Option ℕ) (before : ℕ) → greater_link new before < link → IfSome new (λ k. (k == link) ≡ false) × (before < link)
    not_above None before above = (tt, above)
    not_above (Some k) before above = (eqb_other k link (λ is. omega (arith, is, above)), omega (arith, above))

    -- a link that hasn't come isn't known
    keeps_unknown : (h : History) → greatest_link h < link → KeptBy false h
    unfolding trace_of
    keeps_unknown [] above = record { rests = λ finished. refl; stands = refl }
    keeps_unknown (did.Event e ∷ h) above = let both = not_above (new_link e) (greatest_link h) above in keeps_on false h e both.0 (keeps_unknown h both.1)
    keeps_unknown (did.Sent to bytes (sent.Took n) ∷ h) above = keeps_unknown h above
    keeps_unknown (did.Sent to bytes sent.Gone ∷ h) above = keeps_unknown h above
    keeps_unknown (x ∷ h) above = keeps_unknown h above

    keeps_opened : (listener : ℕ) (from : Addr) (h : History) → greatest_link h < link → KeptBy (is_heard s listener) (did.Event (event.Opened listener link from) ∷ h)
    keeps_opened listener from h above =
        let before = keeps_unknown h above in
        let begins = begun (open_events h) (trace_of s h) in
        keeps_event (is_heard s listener) h (event.Opened listener link from)
        (stands_opened listener s.max_clients (length (client_links begins)) (kind_at s listener) from begins (stands_begun false (open_events h) (trace_of s h) before.rests before.stands))

    keeps_opening : (listener : ℕ) (h : History) (e : Event) → IfSome (new_link e) (λ k. k ≡ greatest_link h + 1) → IsOpening listener link e → KeptBy (is_heard s listener) (did.Event e ∷ h)
    keeps_opening listener h (event.Opened at opened from) next opens =
        subst (λ l. KeptBy (is_heard s listener) (did.Event (event.Opened l opened from) ∷ h)) (sym opens.0)
        (subst (λ k. KeptBy (is_heard s listener) (did.Event (event.Opened listener k from) ∷ h)) (sym opens.1) (keeps_opened listener from h (let same = opens.1 in omega (arith, next, same))))
    keeps_opening listener h e next opens = absurd opens

    was_below : (listener : ℕ) (h : History) → WasOpened listener link h → link ≤ greatest_link h
    was_below listener [] was = absurd was
    was_below listener (did.Event e ∷ h) was = ⊎_elim (λ opens. here e opens) (λ before. more (new_link e) (was_below listener h before)) was
      where
        here : (e : Event) → IsOpening listener link e → link ≤ greater_link (new_link e) (greatest_link h)
        here (event.Opened at opened from) opens = let same = opens.1 in omega (arith, same)
        here e opens = absurd opens

        more : (new : Option ℕ) → link ≤ greatest_link h → link ≤ greater_link new (greatest_link h)
        more None below = below
        more (Some k) below = omega (arith, below)
    was_below listener (x ∷ h) was = was_below listener h was

    -- a later link is another
    not_again : (new : Option ℕ) (before : ℕ) → IfSome new (λ k. k ≡ before + 1) → link ≤ before → IfSome new (λ k. (k == link) ≡ false)
    not_again None before next below = tt
    not_again (Some k) before next below = eqb_other k link (λ is. omega (arith, is, next, below))

    keeps_known : (listener : ℕ) (h : History) → CountsLinks h → WasOpened listener link h → KeptBy (is_heard s listener) h
    unfolding trace_of
    keeps_known listener [] counts was = absurd was
    keeps_known listener (did.Event e ∷ h) counts was = ⊎_elim
        (λ opens. keeps_opening listener h e counts.1 opens)
        (λ before. keeps_on (is_heard s listener) h e (not_again (new_link e) (greatest_link h) counts.1 (was_below listener h before)) (keeps_known listener h counts.0 before))
        was
    keeps_known listener (did.Sent to bytes (sent.Took n) ∷ h) counts was = keeps_known listener h counts was
    keeps_known listener (did.Sent to bytes sent.Gone ∷ h) counts was = keeps_known listener h counts was
    keeps_known listener (x ∷ h) counts was = keeps_known listener h counts was

-- ---- every network

ended_resting : (heard : Bool) (a : Standing) → Rests heard a → a.ended ≡ (heard && not a.live)
ended_resting true a rests = rests
ended_resting false a rests = ap (λ (x : Standing). x.ended) rests

module _ (layout : Layout) (steps : List NetEvent) (place : ℕ) (s : ServerSeen) (at : slice_get (network_of layout steps).servers place ≡ Some s) where
  -- a link that was opened at a listener has ended where the listener is for clients and the link doesn't live any more
  pub client_has_ended : (listener link : ℕ) → WasOpened listener link s.history → has_ended (trace_at s) link ≡ (is_heard s.setting listener && not (is_live (trace_at s) link))
  client_has_ended listener link was =
      let keeps = keeps_known link s.setting listener s.history (servers_run layout steps place s at).0.counts was in
      ended_resting (is_heard s.setting listener) (stand link (trace_at s)) (keeps.rests (rounds_are_finished layout steps place s at))

  -- a link that hasn't come has not ended
  pub unknown_has_not_ended : (link : ℕ) → greatest_link s.history < link → has_ended (trace_at s) link ≡ false
  unknown_has_not_ended link above = ap (λ (x : Standing). x.ended) (keeps_unknown link s.setting s.history above).stands
