-- A link heard a call where a packet of that source was last accepted from it.
use Rattle.std.proofs.Common.{◌≡◌, ℕ, ◌≤◌, ◌<◌, ◌==◌, ◌&&◌, ◌||◌, Bool, true, false, max, List, [], ◌∷◌, ◌++◌, filter, length, refl, sym, ap, ◌∙◌, subst, arith, IfSome, Option, Some, None, ⊎_elim, append-nil, cond, if◌then◌else◌}
use Rattle.std.specs.Bool.{⊤}
use Rattle.std.proofs.lemmas.Bool.{cases_Bool, eqb-true, true≢false}
use Rattle.aprs_base.specs.Outside.{new_link}
use Rattle.aprs_base.specs.declared.cutting.Cut.{Cut}
use Rattle.aprs_base.specs.declared.events.Event.{Event}
use Rattle.aprs_base.specs.declared.events.Event.TheVariants as event
use Rattle.aprs_base.specs.declared.events.Sent.TheVariants as sent
use Rattle.aprs_base.specs.declared.events.Happening.TheVariants as did
use Rattle.aprs_base.specs.declared.packets.Source.{Source}
use Rattle.aprs_base.specs.declared.packets.Source.TheVariants as source
use Rattle.aprs_base.specs.declared.texts.Addr.{Addr}
use Rattle.filter_eval.specs.Passes.{is_text}
use Rattle.station_table.specs.Last.{later_or}
use Rattle.station_table.proofs.LastSeen.{told_more}
use Rattle.heard_routing.specs.LastHeard.{heard_by, last_heard}
use Rattle.heard_routing.specs.LastHeard as routed
use Rattle.aprs_history.specs.declared.verdicts.Verdict.{Verdict}
use Rattle.aprs_history.specs.declared.verdicts.Verdict.TheVariants.{Accepted}
use Rattle.aprs_history.specs.Setting.{Setting}
use Rattle.aprs_history.specs.declared.verdicts.Admission.{Admission}
use Rattle.aprs_history.specs.declared.verdicts.Admission.TheVariants.{Served}
use Rattle.aprs_history.specs.Trace.{Trace, Door, Entry, AtListener, ByUplink, Opened, Brought, Said, Roomed, Took, Lost, Ended, is_from, is_member, is_other, live_links, moment_of, opened_link}
use Rattle.aprs_history.specs.declared.verdicts.EndReason.TheVariants.{ByStop}
use Rattle.aprs_history.specs.Scenes.{accepted_of, packet_of}
use Rattle.aprs_history.specs.Messages.{heard_after, heard_of}
use Rattle.aprs_history.specs.History.{History, admission, begun, ends_round, greater_link, greatest_link, joined_admission, open_events, trace_of, with_event}
use Rattle.aprs_history.specs.Headline.{HasFreshLinks}
use Rattle.aprs_history.specs.MessageRule.{HeardIsLastAccepted}
use Rattle.aprs_history.proofs.EntryLemmas.{IsSaidBy, MayAdd, kept_begun, kept_ended, kept_event}
use Rattle.aprs_history.proofs.NumberLemmas.{differs_above}

-- ---- numbers that aren't above one

abbrev AreWithin : List ℕ → ℕ → Type 0
AreWithin [] high = ⊤
AreWithin (n ∷ ns) high = (n ≤ high) × AreWithin ns high

within_higher : (ns : List ℕ) (high more : ℕ) → high ≤ more → AreWithin ns high → AreWithin ns more
within_higher [] high more le within = tt
within_higher (n ∷ ns) high more le within = let first = within.0 in (omega arith, within_higher ns high more le within.1)

within_filtered : (p : ℕ → Bool) (ns : List ℕ) (high : ℕ) → AreWithin ns high → AreWithin (filter p ns) high
within_filtered p [] high within = tt
within_filtered p (n ∷ ns) high within = of (p n) (within_filtered p ns high within.1)
  where
    of : (b : Bool) → AreWithin (filter p ns) high → AreWithin (cond b (n ∷ filter p ns) (filter p ns)) high
    of true later = (within.0, later)
    of false later = later

within_both : (ns more : List ℕ) (high : ℕ) → AreWithin ns high → AreWithin more high → AreWithin (ns ++ more) high
within_both [] more high within others = others
within_both (n ∷ ns) more high within others = (within.0, within_both ns more high within.1 others)

member_within : (ns : List ℕ) (high k : ℕ) → AreWithin ns high → is_member k ns ≡ true → k ≤ high
member_within [] high k within member = absurd (true≢false (sym member))
member_within (n ∷ ns) high k within member =
    ⊎_elim
    (λ here. let same : n ≡ k = eqb-true n k here in subst (λ m. m ≤ high) same within.0)
    (λ other. member_within ns high k within.1 (sym (ap (λ b. b || is_member k ns) other) ∙ member))
    (cases_Bool (n == k))

-- ---- what one entry does

abbrev Agrees : ℕ → List ℕ → Trace → Type 0
Agrees link call t = heard_of t link call ≡ last_heard (accepted_of t) link call

-- both say so of a packet's source
same_from : (link : ℕ) (from : Source) → routed.is_from link from ≡ is_from link from
same_from link (source.Link other) = refl
same_from link from = refl

-- one more accepted packet
heard_more : (t : Trace) (from : Source) (cut : Cut) (verdict : Verdict) (link : ℕ) (call : List ℕ)
    → last_heard (accepted_of (Said from cut verdict ∷ t)) link call ≡ heard_after (moment_of t) from verdict link call (last_heard (accepted_of t) link call)
heard_more t from cut (Accepted parts line) link call =
    let before = last_heard (accepted_of t) link call in
    told_more (heard_by link call) (accepted_of t) (packet_of from (moment_of t) parts line)
    ∙ ap (λ b. later_or before (if b && is_text call parts.source then Some (moment_of t) else None)) (same_from link from)
    ∙ later (is_from link from && is_text call parts.source) before
  where
    later : (b : Bool) (before : Option ℕ) → later_or before (if b then Some (moment_of t) else None) ≡ (if b then Some (moment_of t) else before)
    later true before = refl
    later false before = refl
heard_more t from cut verdict link call = ap (λ packets. last_heard packets link call) (append-nil (accepted_of t))

-- another link hears nothing
heard_not : (now : ℕ) (from : Source) (verdict : Verdict) (link : ℕ) (call : List ℕ) (before : Option ℕ) → is_from link from ≡ false → heard_after now from verdict link call before ≡ before
heard_not now from (Accepted parts line) link call before other = rw other refl
heard_not now from verdict link call before other = refl

-- ---- what every trace keeps

-- both agree after each entry
abbrev AllAgree : Trace → Type 0
AllAgree [] = ⊤
AllAgree (entry ∷ t) = ((link : ℕ) (call : List ℕ) → Agrees link call (entry ∷ t)) × AllAgree t

agrees_now : (t : Trace) → AllAgree t → (link : ℕ) (call : List ℕ) → Agrees link call t
agrees_now [] all link call = refl
agrees_now (entry ∷ t) all link call = all.0 link call

agrees_at : (later t : Trace) → AllAgree (later ++ t) → AllAgree t
agrees_at [] t all = all
agrees_at (entry ∷ later) t all = agrees_at later t all.1

-- the links that live are numbered so far, and nothing was accepted from later ones
record Hears (high : ℕ) (t : Trace) : Type 0 where
  live : AreWithin (live_links t) high
  none : (link : ℕ) (call : List ℕ) → high < link → last_heard (accepted_of t) link call ≡ None
  agree : AllAgree t

-- an entry that tells nothing of what was heard
hears_same : (high : ℕ) (t : Trace) (entry : Entry) → AreWithin (live_links (entry ∷ t)) high → accepted_of (entry ∷ t) ≡ accepted_of t
    → ((link : ℕ) (call : List ℕ) → heard_of (entry ∷ t) link call ≡ heard_of t link call) → Hears high t → Hears high (entry ∷ t)
hears_same high t entry live accepted heard hears = record {
  live = live;
  none = λ link call above. ap (λ packets. last_heard packets link call) accepted ∙ hears.none link call above;
  agree = (λ link call. heard link call ∙ agrees_now t hears.agree link call ∙ ap (λ packets. last_heard packets link call) (sym accepted), hears.agree);
}

-- what is said isn't from a later link
from_another : (high link : ℕ) (t : Trace) (from : Source) → AreWithin (live_links t) high → high < link → IsSaidBy t from → is_from link from ≡ false
from_another high link t (source.Link other) live above said = let within = member_within (live_links t) high other live said in differs_above other link (omega arith)
from_another high link t from live above said = refl

hears_said : (high : ℕ) (t : Trace) (from : Source) (cut : Cut) (verdict : Verdict) → IsSaidBy t from → Hears high t → Hears high (Said from cut verdict ∷ t)
hears_said high t from cut verdict said hears = record {
  live = hears.live;
  none = λ link call above.
      heard_more t from cut verdict link call
      ∙ heard_not (moment_of t) from verdict link call (last_heard (accepted_of t) link call) (from_another high link t from hears.live above said)
      ∙ hears.none link call above;
  agree = (λ link call. ap (heard_after (moment_of t) from verdict link call) (agrees_now t hears.agree link call) ∙ sym (heard_more t from cut verdict link call), hears.agree);
}

hears_by : (s : Setting) (h : History) (high : ℕ) (t : Trace) (entry : Entry) → MayAdd s h (λ link. ⊥) t entry → Hears high t → Hears high (entry ∷ t)
hears_by s h high t (Opened door admission link from) may hears = absurd may
hears_by s h high t (Brought link bytes) may hears = hears_same high t (Brought link bytes) hears.live refl (λ link call. refl) hears
hears_by s h high t (Said from cut verdict) may hears = hears_said high t from cut verdict may.0 hears
hears_by s h high t (Roomed link) may hears = hears_same high t (Roomed link) hears.live refl (λ link call. refl) hears
hears_by s h high t (Took link offered taken) may hears = absurd may
hears_by s h high t (Lost link) may hears = absurd may
hears_by s h high t (Ended link reason) may hears = hears_same high t (Ended link reason) (within_filtered (is_other link) (live_links t) high hears.live) refl (λ link call. refl) hears
hears_by s h high t entry may hears = hears_same high t entry hears.live refl (λ link call. refl) hears

hears_opened : (high k : ℕ) (t : Trace) (door : Door) (admission : Admission) (from : Addr) → high < k → Hears high t → Hears (max k high) (Opened door admission k from ∷ t)
hears_opened high k t door admission from above hears = record {
  live = within_both (live_links t) (opened_link admission k) (max k high) (within_higher (live_links t) high (max k high) (omega arith) hears.live) (opened admission);
  none = λ link call over. hears.none link call (omega arith);
  agree = (λ link call. agrees link call, hears.agree);
}
  where
    opened : (admission : Admission) → AreWithin (opened_link admission k) (max k high)
    opened (Served kind) = (omega arith, tt)
    opened admission = tt

    agrees : (link : ℕ) (call : List ℕ) → (if link == k then None else heard_of t link call) ≡ last_heard (accepted_of t) link call
    agrees link call = ⊎_elim
        (λ here. let same : link ≡ k = eqb-true link k here in rw here (sym (hears.none link call (subst (λ n. high < n) (sym same) above))))
        (λ other. rw other (agrees_now t hears.agree link call))
        (cases_Bool (link == k))

hears_event : (s : Setting) (h : History) (high : ℕ) (e : Event) (t : Trace) → IfSome (new_link e) (λ link. high < link) → Hears high t → Hears (greater_link (new_link e) high) (with_event s e t)
hears_event s h high (event.Opened listener link from) t fresh hears = hears_opened high link t (AtListener listener) (admission s t listener) from fresh hears
hears_event s h high (event.Joined uplink link at) t fresh hears = hears_opened high link t (ByUplink uplink) (joined_admission s t uplink link) at fresh hears
hears_event s h high (event.Bytes link bytes) t fresh hears = let all = did.Event (event.Bytes link bytes) ∷ h in kept_event s all (λ link. ⊥) (Hears high) (hears_by s all high) h (event.Bytes link bytes) t refl tt hears
hears_event s h high (event.Ended link) t fresh hears = let all = did.Event (event.Ended link) ∷ h in kept_event s all (λ link. ⊥) (Hears high) (hears_by s all high) h (event.Ended link) t refl tt hears
hears_event s h high (event.Room link) t fresh hears = let all = did.Event (event.Room link) ∷ h in kept_event s all (λ link. ⊥) (Hears high) (hears_by s all high) h (event.Room link) t refl tt hears
hears_event s h high event.Stop t fresh hears = hears
hears_event s h high e t fresh hears = let all = did.Event e ∷ h in kept_event s all (λ link. ⊥) (Hears high) (hears_by s all high) h e t refl tt hears

hears : (s : Setting) (h : History) → HasFreshLinks h → Hears (greatest_link h) (trace_of s h)
unfolding trace_of
hears s [] fresh = record { live = tt; none = λ link call above. refl; agree = tt }
hears s (did.Event e ∷ h) fresh =
    let high = greatest_link h in
    let n = open_events h in
    let begins = kept_begun s h (λ link. ⊥) (Hears high) (hears_by s h high) n (trace_of s h) (hears s h fresh.0) in
    let more = greater_link (new_link e) high in
    kept_ended s (did.Event e ∷ h) (λ link. ⊥) (Hears more) (hears_by s (did.Event e ∷ h) more) (λ t k stopped hears. hears_same more t (Ended k ByStop) (within_filtered (is_other k) (live_links t) more hears.live) refl (λ link call. refl) hears)
    (ends_round n e) h e (with_event s e (begun n (trace_of s h))) refl (hears_event s h high e (begun n (trace_of s h)) fresh.1 begins)
hears s (did.Sent link bytes (sent.Took n) ∷ h) fresh =
    let before = hears s h fresh in hears_same (greatest_link h) (trace_of s h) (Took link (length bytes) n) before.live refl (λ link call. refl) before
hears s (did.Sent link bytes sent.Gone ∷ h) fresh = let before = hears s h fresh in hears_same (greatest_link h) (trace_of s h) (Lost link) before.live refl (λ link call. refl) before
hears s (happening ∷ h) fresh = hears s h fresh

pub heard_is_last_accepted : HeardIsLastAccepted
heard_is_last_accepted s h later t fresh split link call =
    let all = (hears s h fresh).agree in agrees_now t (agrees_at later t (subst AllAgree split all)) link call
