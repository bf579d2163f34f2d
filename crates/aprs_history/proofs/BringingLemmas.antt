-- What a link brought is a beginning of what came for it.
use Rattle.std.proofs.Common.{◌≡◌, ℕ, ◌==◌, ◌||◌, cond, Bool, true, false, List, [], ◌∷◌, ◌++◌, filter, refl, sym, ap, ◌∙◌, Some, eq-eqb, append-nil, append_assoc, if◌then◌else◌, ⊎_elim}
use Rattle.std.proofs.lemmas.Bool.{cases_Bool, eqb-true, true≢false}
use Rattle.aprs_base.specs.Cuts.{cuts_by}
use Rattle.aprs_base.specs.Outside.{new_link}
use Rattle.aprs_base.specs.declared.cutting.Cut.{Cut}
use Rattle.aprs_base.specs.declared.events.Event.{Event}
use Rattle.aprs_base.specs.declared.events.Event.TheVariants as event
use Rattle.aprs_base.specs.declared.events.Sent.TheVariants as sent
use Rattle.aprs_base.specs.declared.events.Happening.TheVariants as did
use Rattle.aprs_base.specs.declared.packets.Source.{Source}
use Rattle.aprs_base.specs.declared.packets.Source.TheVariants as source
use Rattle.q_construct.specs.declared.origins.Origin.TheVariants as origin
use Rattle.aprs_history.specs.declared.verdicts.Admission.{Admission}
use Rattle.aprs_history.specs.declared.verdicts.Admission.TheVariants.{NoPort, NotAsked, TurnedAway, Served}
use Rattle.aprs_history.specs.Setting.{Setting}
use Rattle.aprs_history.specs.Trace.{Trace, Entry, AtListener, ByUplink, RoundBegan, Opened, Brought, Said, Ended, is_live, is_member, is_other, live_links, opened_link}
use Rattle.aprs_history.specs.Links.{brought_by}
use Rattle.aprs_history.specs.Verdicts.{Scene, verdict_of}
use Rattle.aprs_history.specs.Scenes.{datagram_scene, scene_of}
use Rattle.aprs_history.specs.History.{History, admission, begun, bring, datagram_cuts, ends_round, joined_admission, open_events, say_all, trace_of, with_event}
use Rattle.aprs_history.specs.Arriving.{LinksBringWhatCame, NoneCameEarly, bytes_for, came_to}
use Rattle.aprs_history.proofs.StepLemmas.{IsQuiet, Steps, kept_begun, kept_ended, kept_event}

member_less : (p : ℕ → Bool) (ks : List ℕ) (k : ℕ) → is_member k (filter p ks) ≡ true → is_member k ks ≡ true
member_less p [] k is = is
member_less p (x ∷ ks) k is = ⊎_elim
    (λ here. ap (λ b. b || is_member k ks) here)
    (λ other. ap (λ b. b || is_member k ks) other ∙ ⊎_elim
    (λ kept. member_less p ks k (sym (ap (λ b. b || is_member k (filter p ks)) other) ∙ sym (ap (λ b. is_member k (cond b (x ∷ filter p ks) (filter p ks))) kept) ∙ is))
    (λ gone. member_less p ks k (sym (ap (λ b. is_member k (cond b (x ∷ filter p ks) (filter p ks))) gone) ∙ is))
    (cases_Bool (p x)))
    (cases_Bool (x == k))

member_old : (ks : List ℕ) (new : Admission) (opened k : ℕ) → (opened == k) ≡ false → is_member k (ks ++ opened_link new opened) ≡ true → is_member k ks ≡ true
member_old [] (Served kind) opened k other is = absurd (true≢false (sym is ∙ ap (λ b. b || false) other))
member_old [] NoPort opened k other is = is
member_old [] NotAsked opened k other is = is
member_old [] TurnedAway opened k other is = is
member_old (x ∷ ks) new opened k other is = ⊎_elim
    (λ here. ap (λ b. b || is_member k ks) here)
    (λ not'. ap (λ b. b || is_member k ks) not' ∙ member_old ks new opened k other (sym (ap (λ b. b || is_member k (ks ++ opened_link new opened)) not') ∙ is))
    (cases_Bool (x == k))

module _ (link : ℕ) where
  -- what it brought is a beginning, and all of it while the link lives
  record Holds (came : List ℕ) (t : Trace) : Type 0 where
    rest : List ℕ
    split : came ≡ brought_by t link ++ rest
    whole : is_live t link ≡ true → rest ≡ []

  -- lines leave that so
  record Still (t u : Trace) : Type 0 where
    brought : brought_by u link ≡ brought_by t link
    live : is_live u link ≡ true → is_live t link ≡ true

  holds_still : (came : List ℕ) (t u : Trace) → Still t u → Holds came t → Holds came u
  holds_still came t u still holds = record { rest = holds.rest; split = holds.split ∙ ap (λ b. b ++ holds.rest) (sym still.brought); whole = λ is. holds.whole (still.live is) }

  still_said : (scene : Trace → Scene) (from : Source) (cuts : List Cut) (t : Trace) → Still t (say_all scene from cuts t)
  still_said scene from [] t = record { brought = refl; live = λ is. is }
  still_said scene from (cut ∷ cuts) t =
      let later = still_said scene from cuts (Said from cut (verdict_of (scene t) cut) ∷ t) in
      record { brought = later.brought; live = later.live }

  holds_said : (came : List ℕ) (scene : Trace → Scene) (from : Source) (cuts : List Cut) (t : Trace) → Holds came t → Holds came (say_all scene from cuts t)
  holds_said came scene from cuts t holds = holds_still came t (say_all scene from cuts t) (still_said scene from cuts t) holds

  holds_quiet : (came : List ℕ) (t : Trace) (entry : Entry) → IsQuiet entry → Holds came t → Holds came (entry ∷ t)
  holds_quiet came t RoundBegan is holds = absurd is
  holds_quiet came t (Opened door new k from) is holds = absurd is
  holds_quiet came t (Brought k bytes) is holds = absurd is
  holds_quiet came t (Ended k reason) is holds = record { rest = holds.rest; split = holds.split; whole = λ lives. holds.whole (member_less (is_other k) (live_links t) link lives) }
  holds_quiet came t entry is holds = record { rest = holds.rest; split = holds.split; whole = holds.whole }

  holds_steps : (s : Setting) (came : List ℕ) → Steps s (Holds came)
  holds_steps s came = record {
    quiet = holds_quiet came;
    refused = λ t listener said why alone holds. record { rest = holds.rest; split = holds.split; whole = holds.whole };
    submitted = λ t listener bytes first cuts login are is holds. holds_said came (datagram_scene s (origin.Udp login)) (source.Submit listener) cuts t holds;
    relayed = λ t from bytes peer is holds. holds_said came (datagram_scene s (origin.Peer peer.1)) (source.Peer peer.0) (datagram_cuts bytes) t holds;
  }

  brings : (s : Setting) (k : ℕ) (bytes : List ℕ) (t : Trace) → Still (Brought k bytes ∷ t) (bring s k bytes t)
  brings s k bytes t = still_said (λ now. scene_of s now k) (source.Link k) (cuts_by (brought_by t k) bytes) (Brought k bytes ∷ t)

  holds_bytes : (s : Setting) (came : List ℕ) (k : ℕ) (bytes : List ℕ) (t : Trace) → Holds came t → (here live : Bool) → (link == k) ≡ here → is_live t k ≡ live
      → Holds (came ++ (if here then bytes else [])) (if live then bring s k bytes t else t)
  holds_bytes s came k bytes t holds true true here live =
      let nothing : holds.rest ≡ [] = holds.whole (ap (is_live t) (eqb-true link k here) ∙ live) in
      let b = brings s k bytes t in
      let more : brought_by (bring s k bytes t) link ≡ brought_by t link ++ bytes = b.brought ∙ ap (λ h. if h then brought_by t link ++ bytes else brought_by t link) here in
      record {
        rest = [];
        split = ap (λ c. c ++ bytes) (holds.split ∙ ap (λ r. brought_by t link ++ r) nothing ∙ append-nil (brought_by t link)) ∙ sym more ∙ sym (append-nil (brought_by (bring s k bytes t) link));
        whole = λ is. refl;
      }
  holds_bytes s came k bytes t holds true false here live = record {
    rest = holds.rest ++ bytes;
    split = ap (λ c. c ++ bytes) holds.split ∙ append_assoc (brought_by t link) holds.rest bytes;
    whole = λ is. absurd (true≢false (sym is ∙ ap (is_live t) (eqb-true link k here) ∙ live));
  }
  holds_bytes s came k bytes t holds false true here live =
      let b = brings s k bytes t in
      let same : brought_by (bring s k bytes t) link ≡ brought_by t link = b.brought ∙ ap (λ h. if h then brought_by t link ++ bytes else brought_by t link) here in
      record { rest = holds.rest; split = append-nil came ∙ holds.split ∙ ap (λ x. x ++ holds.rest) (sym same); whole = λ is. holds.whole (b.live is) }
  holds_bytes s came k bytes t holds false false here live = record { rest = holds.rest; split = append-nil came ∙ holds.split; whole = holds.whole }

  holds_more : (came : List ℕ) (t : Trace) → Holds came t → Holds (came ++ []) t
  holds_more came t holds = record { rest = holds.rest; split = append-nil came ∙ holds.split; whole = holds.whole }

  holds_opened : (came : List ℕ) (t : Trace) (entry : Entry) (opened : ℕ) (new : Admission) → brought_by (entry ∷ t) link ≡ (if link == opened then [] else brought_by t link)
      → live_links (entry ∷ t) ≡ live_links t ++ opened_link new opened → (opened ≡ link → came ≡ []) → Holds came t → (here : Bool) → (link == opened) ≡ here → Holds (came ++ []) (entry ∷ t)
  holds_opened came t entry opened new brought lives early holds true here = record {
    rest = [];
    split = append-nil came ∙ early (sym (eqb-true link opened here)) ∙ sym (ap (λ b. b ++ []) (brought ∙ ap (λ h. if h then [] else brought_by t link) here));
    whole = λ is. refl;
  }
  holds_opened came t entry opened new brought lives early holds false here = record {
    rest = holds.rest;
    split = append-nil came ∙ holds.split ∙ ap (λ x. x ++ holds.rest) (sym (brought ∙ ap (λ h. if h then [] else brought_by t link) here));
    whole = λ is. holds.whole (member_old (live_links t) new opened link (turned here) (sym (ap (is_member link) lives) ∙ is));
  }
    where
      turned : (link == opened) ≡ false → (opened == link) ≡ false
      turned h = ⊎_elim (λ same. absurd (true≢false (sym (eq-eqb link opened (sym (eqb-true opened link same))) ∙ h))) (λ other. other) (cases_Bool (opened == link))

  holds_event : (s : Setting) (came : List ℕ) (e : Event) (t : Trace) → (new_link e ≡ Some link → came ≡ []) → Holds came t → Holds (came ++ bytes_for link e) (with_event s e t)
  holds_event s came (event.Opened listener opened from) t early holds =
      holds_opened came t (Opened (AtListener listener) (admission s t listener) opened from) opened (admission s t listener) refl refl (λ is. early (ap Some is)) holds (link == opened) refl
  holds_event s came (event.Joined uplink opened at) t early holds =
      holds_opened came t (Opened (ByUplink uplink) (joined_admission s t uplink opened) opened at) opened (joined_admission s t uplink opened) refl refl (λ is. early (ap Some is)) holds (link == opened) refl
  holds_event s came (event.Bytes k bytes) t early holds = holds_bytes s came k bytes t holds (link == k) (is_live t k) refl refl
  holds_event s came e t early holds = holds_more came (with_event s e t) (kept_event s (Holds came) (holds_steps s came) e t (λ is before. absurd is) holds)

  holds_began : (came : List ℕ) (t : Trace) → Holds came t → Holds came (RoundBegan ∷ t)
  holds_began came t holds = record { rest = holds.rest; split = holds.split; whole = holds.whole }

  holds_all : (s : Setting) (h : History) → NoneCameEarly h link → Holds (came_to h link) (trace_of s h)
  unfolding trace_of
  holds_all s [] early = record { rest = []; split = refl; whole = λ is. refl }
  holds_all s (did.Event e ∷ h) early =
      let came = came_to h link in
      let begins = begun (open_events h) (trace_of s h) in
      let more = came ++ bytes_for link e in
      kept_ended s (Holds more) (holds_steps s more) (ends_round (open_events h) e) e (with_event s e begins)
      (holds_event s came e begins early.1 (kept_begun s (Holds came) (holds_steps s came) (holds_began came) (open_events h) (trace_of s h) (holds_all s h early.0)))
  holds_all s (did.Sent to bytes (sent.Took n) ∷ h) early = let holds = holds_all s h early in record { rest = holds.rest; split = holds.split; whole = holds.whole }
  holds_all s (did.Sent to bytes sent.Gone ∷ h) early = let holds = holds_all s h early in record { rest = holds.rest; split = holds.split; whole = holds.whole }
  holds_all s (x ∷ h) early = holds_all s h early

pub links_bring_what_came : LinksBringWhatCame
links_bring_what_came s h link early = let holds = holds_all link s h early in (holds.rest, holds.split)
