-- Which of the links that were turned away in a round nobody had asked for.
use Rattle.std.proofs.Common.{◌≡◌, ℕ, ◌≤◌, ◌<◌, ◌==◌, ◌/◌, nat_lt, Bool, true, false, ◌||◌, List, [], ◌∷◌, ◌++◌, refl, sym, ap, ◌∙◌, subst, arith, ⊎_elim, max, length, IfSome, Option, Some, None, Result, Ok, Err, append-nil, append_assoc, eq-eqb, if◌then◌else◌}
use Rattle.std.proofs.Math.Bool.{or-false}
use Rattle.std.proofs.lemmas.Bool.{cases_Bool, eqb-true, false_from_ne_true, true≢false, false≢true}
use Rattle.std.proofs.lemmas.List.Folds.{list_any-append}
use Rattle.std.proofs.lemmas.Option.{none-some}
use Rattle.aprs_base.specs.Cuts.{cuts_by}
use Rattle.aprs_base.specs.Outside.{new_link}
use Rattle.aprs_base.specs.declared.cutting.Cut.{Cut}
use Rattle.aprs_base.specs.declared.events.Event.{Event}
use Rattle.aprs_base.specs.declared.events.Event.TheVariants as event
use Rattle.aprs_base.specs.declared.packets.PortKind.{PortKind}
use Rattle.aprs_base.specs.declared.packets.PortKind.TheVariants as kind
use Rattle.aprs_base.specs.declared.packets.Source.{Source}
use Rattle.aprs_base.specs.declared.packets.Source.TheVariants as source
use Rattle.aprs_base.specs.declared.texts.Addr.{Addr}
use Rattle.q_construct.specs.declared.origins.Origin.TheVariants as origin
use Rattle.uplinks_peers.specs.declared.uplinks.UpEvent.TheVariants as up
use Rattle.uplinks_peers.specs.Uplinks.{acts_at}
use Rattle.aprs_history.specs.declared.verdicts.Admission.{Admission}
use Rattle.aprs_history.specs.declared.verdicts.Admission.TheVariants.{NoPort, NotAsked, Served, TurnedAway}
use Rattle.aprs_history.specs.declared.verdicts.EndReason.TheVariants.{ByPeer, FoundGone}
use Rattle.aprs_history.specs.declared.verdicts.LinkKind.TheVariants.{Client, Uplink}
use Rattle.aprs_history.specs.declared.verdicts.Refusal.{Refusal}
use Rattle.aprs_history.specs.declared.verdicts.Refusal.TheVariants as refusal
use Rattle.aprs_history.specs.declared.verdicts.Verdict.TheVariants.{Refused}
use Rattle.aprs_history.specs.Setting.{Setting, is_client_kind, kind_at, peer_from}
use Rattle.aprs_history.specs.Scenes.{datagram_scene, scene_of}
use Rattle.aprs_history.specs.Verdicts.{Scene, submitter_of, verdict_of}
use Rattle.aprs_history.specs.Dials.{uplinks_of}
use Rattle.aprs_history.specs.Trace.{Trace, Entry, Door, AtListener, ByUplink, Dated, Looked, RoundBegan, Ticked, Opened, Brought, Said, Roomed, Ended, Unjoined, is_live, is_member, is_stray, is_unasked, moment_of, turned_link, turned_links}
use Rattle.aprs_history.specs.Links.{brought_by, client_links, gone_links, late_links, late_reason}
use Rattle.aprs_history.specs.History.{admission, admitted, begin_round, bring, comment_seconds, dated, datagram_cuts, end_each, greater_link, joined_admission, relay, say_all, submit, with_event, with_lines}
use Rattle.aprs_history.specs.Rounds.{AreFresh, events_trace}
use Rattle.server_core.specs.Telling.{KnowUnasked, has_joined, is_joining}
use Rattle.server_core.proofs.MemberLemmas.{eqb_turned}
use Rattle.server_core.proofs.WalkLemmas.{same_after, turned_after}

-- entries that begin no round and open no link
abbrev pub opens_none : Entry → Bool
opens_none RoundBegan = false
opens_none (Opened door admission link from) = false
opens_none entry = true

-- what such entries leave as it is
abbrev pub IsOfOpenings : {X : Type 0} → (Trace → X) → Type 0
IsOfOpenings f = (entry : Entry) (t : Trace) → opens_none entry ≡ true → f (entry ∷ t) ≡ f t

of_turned : (entry : Entry) (t : Trace) → opens_none entry ≡ true → turned_links (entry ∷ t) ≡ turned_links t
of_turned RoundBegan t none = absurd (false≢true none)
of_turned (Opened door admission link from) t none = absurd (false≢true none)
of_turned entry t none = refl

of_unasked : (k : ℕ) (entry : Entry) (t : Trace) → opens_none entry ≡ true → is_unasked (entry ∷ t) k ≡ is_unasked t k
of_unasked k (Opened door admission link from) t none = absurd (false≢true none)
of_unasked k entry t none = refl

module _ {X : Type 0} (f : Trace → X) (of : IsOfOpenings f) (s : Setting) where
  either : (b : Bool) (t u : Trace) → f t ≡ f u → f (if b then t else u) ≡ f u
  either true t u same = same
  either false t u same = refl

  all_said : (scene : Trace → Scene) (from : Source) (cuts : List Cut) (t : Trace) → f (say_all scene from cuts t) ≡ f t
  all_said scene from [] t = refl
  all_said scene from (cut ∷ cuts) t = all_said scene from cuts (Said from cut (verdict_of (scene t) cut) ∷ t) ∙ of (Said from cut (verdict_of (scene t) cut)) t refl

  submitted : (listener : ℕ) (cut : Cut) (cuts : List Cut) (submitter : Result (List ℕ) Refusal) (t : Trace) → f (submit s listener cut cuts submitter t) ≡ f t
  submitted listener cut cuts (Err why) t = of (Said (source.Submit listener) cut (Refused why)) t refl
  submitted listener cut cuts (Ok login) t = all_said (datagram_scene s (origin.Udp login)) (source.Submit listener) cuts t

  relayed : (listener : ℕ) (cut : Cut) (cuts : List Cut) (peer : Option (ℕ × List ℕ)) (t : Trace) → f (relay s listener cut cuts peer t) ≡ f t
  relayed listener cut cuts None t = of (Said (source.Submit listener) cut (Refused refusal.Stranger)) t refl
  relayed listener cut cuts (Some peer) t = all_said (datagram_scene s (origin.Peer peer.1)) (source.Peer peer.0) (cut ∷ cuts) t

  carried : (served : Option PortKind) (listener : ℕ) (from : Addr) (cuts : List Cut) (t : Trace) → f (with_lines s served listener from cuts t) ≡ f t
  carried served listener from [] t = refl
  carried None listener from (cut ∷ cuts) t = refl
  carried (Some kind.Submit) listener from (cut ∷ cuts) t = submitted listener cut cuts (submitter_of s.server cut) t
  carried (Some kind.Core) listener from (cut ∷ cuts) t = relayed listener cut cuts (peer_from 0 s.peers from) t
  carried (Some other) listener from (cut ∷ cuts) t = refl

  pub unopened : (e : Event) (t : Trace) → None ≡ new_link e → f (with_event s e t) ≡ f t
  unopened (event.Tick moment) t none =
      let now = Ticked moment ∷ t in
      let ends = end_each (late_reason now) (late_links s now) now in
      of Looked (dated (moment_of t) ends) refl
      ∙ either (nat_lt (moment_of t / comment_seconds) (moment_of ends / comment_seconds)) (Dated (moment_of ends) ∷ ends) ends (of (Dated (moment_of ends)) ends refl)
      ∙ same_after f (λ link why u. of (Ended link why) u refl) (late_reason now) (late_links s now) now ∙ of (Ticked moment) t refl
  unopened (event.Opened listener link from) t none = absurd (none-some link none)
  unopened (event.Joined uplink link at) t none = absurd (none-some link none)
  unopened (event.Unjoined uplink) t none = of (Unjoined uplink) t refl
  unopened (event.Bytes link bytes) t none =
      either (is_live t link) (bring s link bytes t) t
      (all_said (λ now. scene_of s now link) (source.Link link) (cuts_by (brought_by t link) bytes) (Brought link bytes ∷ t) ∙ of (Brought link bytes) t refl)
  unopened (event.Ended link) t none = either (is_live t link) (Ended link ByPeer ∷ t) t (of (Ended link ByPeer) t refl)
  unopened (event.Room link) t none = either (is_live t link) (Roomed link ∷ t) t (of (Roomed link) t refl)
  unopened event.Stop t none = refl
  unopened (event.Datagram listener from bytes) t none = carried (kind_at s listener) listener from (datagram_cuts bytes) t

-- what is known of the links that were turned away, after these events, whose links aren't above the greatest
record Known (seen : List Event) (greatest : ℕ) (t : Trace) : Type 0 where
  below : (k : ℕ) → is_member k (turned_links t) ≡ true → k ≤ greatest
  early : (k : ℕ) → has_joined seen k ≡ true → k ≤ greatest
  unasked : (k : ℕ) → is_member k (turned_links t) ≡ true → is_unasked t k ≡ has_joined seen k

-- an event that brings no link brings none from an uplink
joins_none : (k : ℕ) (e : Event) → None ≡ new_link e → is_joining k e ≡ false
joins_none k (event.Joined uplink link at) none = absurd (none-some link none)
joins_none k e none = refl

joined_more : (seen : List Event) (e : Event) (k : ℕ) → has_joined (seen ++ e ∷ []) k ≡ (has_joined seen k || is_joining k e)
joined_more seen e k = list_any-append (is_joining k) seen (e ∷ []) ∙ ap (λ b. has_joined seen k || b) (or-false (is_joining k e))

unopened_known : (s : Setting) (seen : List Event) (greatest : ℕ) (t : Trace) (e : Event) → Known seen greatest t → None ≡ new_link e → Known (seen ++ e ∷ []) greatest (with_event s e t)
unopened_known s seen greatest t e known none =
    let turned = unopened turned_links of_turned s e t none in
    let joined : (k : ℕ) → has_joined (seen ++ e ∷ []) k ≡ has_joined seen k =
    λ k. joined_more seen e k ∙ ap (λ b. has_joined seen k || b) (joins_none k e none) ∙ or-false (has_joined seen k) in
    record {
      below = λ k member. known.below k (ap (is_member k) (sym turned) ∙ member);
      early = λ k has. known.early k (sym (joined k) ∙ has);
      unasked = λ k member. unopened (λ u. is_unasked u k) (of_unasked k) s e t none ∙ known.unasked k (ap (is_member k) (sym turned) ∙ member) ∙ sym (joined k);
    }

-- a link that was turned away is that link
turned_that : (admission : Admission) (link k : ℕ) → (k == link) ≡ false → is_member k (turned_link admission link) ≡ false
turned_that TurnedAway link k other = ap (λ b. b || false) (eqb_turned link k ∙ other)
turned_that NotAsked link k other = ap (λ b. b || false) (eqb_turned link k ∙ other)
turned_that admission link k other = refl

-- a link comes
module _ (seen : List Event) (greatest : ℕ) (t : Trace) (known : Known seen greatest t) (e : Event) (door : Door) (admission : Admission) (link : ℕ) (from : Addr) (above : greatest < link)
    (asked : is_member link (turned_link admission link) ≡ true → is_stray admission ≡ is_joining link e) (only : (k : ℕ) → (k == link) ≡ false → is_joining k e ≡ false) where
  abbrev after : Trace
  after = Opened door admission link from ∷ t

  parts : (k : ℕ) → is_member k (turned_links after) ≡ (is_member k (turned_links t) || is_member k (turned_link admission link))
  parts k = list_any-append (λ n. n == k) (turned_links t) (turned_link admission link)

  -- nothing was known of it before
  unturned : is_member link (turned_links t) ≡ false
  unturned = false_from_ne_true _ (λ member. let le : link ≤ greatest = known.below link member in absurd (omega arith))

  unjoined : has_joined seen link ≡ false
  unjoined = false_from_ne_true _ (λ has. let le : link ≤ greatest = known.early link has in absurd (omega arith))

  -- of another link no more is known
  other_turned : (k : ℕ) → (k == link) ≡ false → is_member k (turned_links after) ≡ is_member k (turned_links t)
  other_turned k other = parts k ∙ ap (λ b. is_member k (turned_links t) || b) (turned_that admission link k other) ∙ or-false (is_member k (turned_links t))

  other_joined : (k : ℕ) → (k == link) ≡ false → has_joined (seen ++ e ∷ []) k ≡ has_joined seen k
  other_joined k other = joined_more seen e k ∙ ap (λ b. has_joined seen k || b) (only k other) ∙ or-false (has_joined seen k)

  same_link : (k : ℕ) → (k == link) ≡ true → is_member k (turned_links after) ≡ true → is_unasked after k ≡ has_joined (seen ++ e ∷ []) k
  same_link k same member =
      let is : k ≡ link = eqb-true k link same in
      let turned : is_member link (turned_link admission link) ≡ true =
      sym (ap (λ b. b || is_member link (turned_link admission link)) unturned) ∙ sym (parts link) ∙ ap (λ n. is_member n (turned_links after)) (sym is) ∙ member in
      ap (λ b. if b then is_stray admission else is_unasked t k) same ∙ asked turned
      ∙ sym (ap (has_joined (seen ++ e ∷ [])) is ∙ joined_more seen e link ∙ ap (λ b. b || is_joining link e) unjoined)

  other_link : (k : ℕ) → (k == link) ≡ false → is_member k (turned_links after) ≡ true → is_unasked after k ≡ has_joined (seen ++ e ∷ []) k
  other_link k other member =
      ap (λ b. if b then is_stray admission else is_unasked t k) other ∙ known.unasked k (sym (other_turned k other) ∙ member) ∙ sym (other_joined k other)

  opened_known : Known (seen ++ e ∷ []) (max link greatest) after
  opened_known = record {
    below = λ k member. ⊎_elim
        (λ same. let is : k ≡ link = eqb-true k link same in omega arith)
        (λ other. let le : k ≤ greatest = known.below k (sym (other_turned k other) ∙ member) in omega arith)
        (cases_Bool (k == link));
    early = λ k has. ⊎_elim
        (λ same. let is : k ≡ link = eqb-true k link same in omega arith)
        (λ other. let le : k ≤ greatest = known.early k (sym (other_joined k other) ∙ has) in omega arith)
        (cases_Bool (k == link));
    unasked = λ k member. ⊎_elim (λ same. same_link k same member) (λ other. other_link k other member) (cases_Bool (k == link));
  }

-- a connection that is turned away was asked for, and an uplink's link was not
open_asked : (most there listener link : ℕ) (from : Addr) (served : Option PortKind) → is_stray (admitted most there served) ≡ is_joining link (event.Opened listener link from)
open_asked most there listener link from None = refl
open_asked most there listener link from (Some port) = by (is_client_kind port) (nat_lt there most)
  where
    by : (b c : Bool) → is_stray (if b then (if c then Served (Client port) else TurnedAway) else NoPort) ≡ false
    by true true = refl
    by true false = refl
    by false c = refl

join_asked : (uplink link : ℕ) (at : Addr) (login : Bool) → is_member link (turned_link (if login then Served (Uplink uplink) else NotAsked) link) ≡ true
    → is_stray (if login then Served (Uplink uplink) else NotAsked) ≡ is_joining link (event.Joined uplink link at)
join_asked uplink link at true member = absurd (true≢false (sym member))
join_asked uplink link at false member = sym (eq-eqb link link refl)

event_known : (s : Setting) (seen : List Event) (greatest : ℕ) (t : Trace) (e : Event) → Known seen greatest t → IfSome (new_link e) (λ link. greatest < link)
    → Known (seen ++ e ∷ []) (greater_link (new_link e) greatest) (with_event s e t)
event_known s seen greatest t (event.Opened listener link from) known above =
    opened_known seen greatest t known (event.Opened listener link from) (AtListener listener) (admission s t listener) link from above
    (λ member. open_asked s.max_clients (length (client_links t)) listener link from (kind_at s listener)) (λ k other. refl)
event_known s seen greatest t (event.Joined uplink link at) known above =
    opened_known seen greatest t known (event.Joined uplink link at) (ByUplink uplink) (joined_admission s t uplink link) link at above
    (join_asked uplink link at (acts_at (up.Joined uplink link) (moment_of t) (uplinks_of s t)).login) (λ k other. eqb_turned link k ∙ other)
event_known s seen greatest t e known above = unopened_known s seen greatest t e known refl

events_known : (s : Setting) (seen : List Event) (greatest : ℕ) (events : List Event) (t : Trace) → Known seen greatest t → AreFresh greatest events
    → KnowUnasked (seen ++ events) (events_trace s events t)
events_known s seen greatest [] t known fresh = λ k member. known.unasked k member ∙ ap (λ es. has_joined es k) (sym (append-nil seen))
events_known s seen greatest (e ∷ events) t known fresh =
    subst (λ es. KnowUnasked es (events_trace s events (with_event s e t))) (append_assoc seen (e ∷ []) events)
    (events_known s (seen ++ e ∷ []) (greater_link (new_link e) greatest) events (with_event s e t) (event_known s seen greatest t e known fresh.0) fresh.1)

none_known : (greatest : ℕ) (t : Trace) → turned_links t ≡ [] → Known [] greatest t
none_known greatest t none = record {
  below = λ k member. absurd (true≢false (sym member ∙ ap (is_member k) none));
  early = λ k has. absurd (true≢false (sym has));
  unasked = λ k member. absurd (true≢false (sym member ∙ ap (is_member k) none));
}

-- the events of a round tell which of the links that it turned away nobody had asked for
pub round_known : (s : Setting) (greatest : ℕ) (events : List Event) (t : Trace) → AreFresh greatest events → KnowUnasked events (events_trace s events (begin_round t))
round_known s greatest events t fresh =
    events_known s [] greatest events (begin_round t) (none_known greatest (begin_round t) (turned_after (λ k. FoundGone) (gone_links (RoundBegan ∷ t)) (RoundBegan ∷ t))) fresh
