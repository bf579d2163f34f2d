-- No link is opened twice, so what was said on it stays said; and a session is that of a login that was said there.
use Rattle.std.proofs.Common.{◌≡◌, ℕ, ◌<◌, ◌≤◌, ◌==◌, ◌||◌, Bool, true, false, max, List, [], ◌∷◌, ◌++◌, filter, refl, sym, ap, ◌∙◌, subst, arith, IfSome, ◌⊎◌, inl, inr, ⊎_elim, append-nil, append_assoc, if◌then◌else◌}
use Rattle.std.specs.Bool.{⊤}
use Rattle.std.proofs.lemmas.Bool.{cases_Bool, eqb-true, or_right, true≢false, false≢true}
use Rattle.aprs_base.specs.Outside.{new_link}
use Rattle.aprs_base.specs.declared.cutting.Cut.{Cut}
use Rattle.aprs_base.specs.declared.events.Event.{Event}
use Rattle.aprs_base.specs.declared.events.Event.TheVariants as event
use Rattle.aprs_base.specs.declared.events.Sent.TheVariants as sent
use Rattle.aprs_base.specs.declared.events.Happening.TheVariants as did
use Rattle.aprs_base.specs.declared.packets.Source.{Source}
use Rattle.aprs_base.specs.declared.packets.Source.TheVariants as source
use Rattle.aprs_base.specs.declared.texts.Addr.{Addr}
use Rattle.aprs_history.specs.declared.verdicts.Admission.{Admission}
use Rattle.aprs_history.specs.declared.verdicts.Admission.TheVariants.{Served}
use Rattle.aprs_history.specs.declared.verdicts.Verdict.{Verdict}
use Rattle.aprs_history.specs.Setting.{Setting}
use Rattle.aprs_history.specs.Trace.{Trace, Entry, AtListener, ByUplink, Door, Opened, Said, Took, Lost, Ended, is_from, is_live, is_member, is_other, live_links, opened_link}
use Rattle.aprs_history.specs.declared.verdicts.EndReason.TheVariants.{ByStop}
use Rattle.aprs_history.specs.History.{History, admission, begun, ends_round, greater_link, greatest_link, joined_admission, open_events, trace_of, with_event}
use Rattle.aprs_history.specs.Headline.{HasFreshLinks}
use Rattle.aprs_history.specs.Arriving.{said_on}
use Rattle.aprs_history.proofs.EntryLemmas.{IsSaidBy, MayAdd, kept_begun, kept_ended, kept_event}
use Rattle.aprs_history.proofs.StepLemmas.{Each}

-- ---- numbers of links

either_later : (here before after : Bool) → (before ≡ true → after ≡ true) → (here || before) ≡ true → (here || after) ≡ true
either_later true before after later is = refl
either_later false before after later is = later is

pub member_kept : (p : ℕ → Bool) (k : ℕ) (ns : List ℕ) → is_member k (filter p ns) ≡ true → is_member k ns ≡ true
member_kept p k [] is = is
member_kept p k (n ∷ ns) is = of (p n) (member_kept p k ns) is
  where
    of : (b : Bool) → (is_member k (filter p ns) ≡ true → is_member k ns ≡ true) → is_member k (if b then n ∷ filter p ns else filter p ns) ≡ true → (n == k || is_member k ns) ≡ true
    of true later is = either_later (n == k) (is_member k (filter p ns)) (is_member k ns) later is
    of false later is = either_later (n == k) true (is_member k ns) (λ one. later is) (or_right (n == k) true refl)

member_longer : (k : ℕ) (ns ms : List ℕ) → is_member k (ns ++ ms) ≡ true → (is_member k ns ≡ true) ⊎ (is_member k ms ≡ true)
member_longer k [] ms is = inr is
member_longer k (n ∷ ns) ms is = of (n == k) (member_longer k ns ms) is
  where
    of : (b : Bool) → (is_member k (ns ++ ms) ≡ true → (is_member k ns ≡ true) ⊎ (is_member k ms ≡ true)) → (b || is_member k (ns ++ ms)) ≡ true → ((b || is_member k ns) ≡ true) ⊎ (is_member k ms ≡ true)
    of true later is = inl refl
    of false later is = later is

new_member : (admission : Admission) (link k : ℕ) → is_member k (opened_link admission link) ≡ true → link ≡ k
new_member (Served kind) link k is = of (link == k) refl is
  where
    of : (b : Bool) → (link == k) ≡ b → (b || false) ≡ true → link ≡ k
    of true same is = eqb-true link k same
    of false same is = absurd (false≢true is)
new_member admission link k is = absurd (false≢true is)

-- ---- what was said stays said

-- a line of another link, or no line
abbrev IsNotOf : ℕ → Entry → Type 0
IsNotOf link (Said from said verdict) = is_from link from ≡ false
IsNotOf link entry = ⊤

-- nothing was said on a link
abbrev IsSilent : ℕ → Trace → Type 0
IsSilent link t = Each (λ earlier entry. IsNotOf link entry) t

-- a link is opened before anything is said on it
abbrev pub OpensSilent : Trace → Entry → Type 0
OpensSilent t (Opened door admission link from) = IsSilent link t
OpensSilent t entry = ⊤

record IsFresh (high : ℕ) (t : Trace) : Type 0 where
  live : (k : ℕ) → is_live t k ≡ true → k ≤ high
  silent : (k : ℕ) → high < k → IsSilent k t
  once : Each OpensSilent t

not_of_source : (t : Trace) (from : Source) (k high : ℕ) → IsSaidBy t from → ((j : ℕ) → is_live t j ≡ true → j ≤ high) → high < k → is_from k from ≡ false
not_of_source t (source.Link link) k high said live above = ⊎_elim
    (λ is. absurd (let below = live link said in let same = eqb-true k link is in omega (arith, below, same, above)))
    (λ other. other)
    (cases_Bool (k == link))
not_of_source t (source.Peer peer) k high said live above = refl
not_of_source t (source.Submit listener) k high said live above = refl

fresh_adds : (s : Setting) (h : History) (high : ℕ) (t : Trace) (entry : Entry) → MayAdd s h (λ link. ⊥) t entry → IsFresh high t → IsFresh high (entry ∷ t)
fresh_adds s h high t (Opened door admission link from) may fresh = absurd may
fresh_adds s h high t (Took link offered taken) may fresh = absurd may
fresh_adds s h high t (Lost link) may fresh = absurd may
fresh_adds s h high t (Said from said verdict) may fresh =
    record { live = fresh.live; silent = λ k above. (not_of_source t from k high may.0 fresh.live above, fresh.silent k above); once = (tt, fresh.once) }
fresh_adds s h high t (Ended link reason) may fresh =
    record { live = λ k is. fresh.live k (member_kept (is_other link) k (live_links t) is); silent = λ k above. (tt, fresh.silent k above); once = (tt, fresh.once) }
fresh_adds s h high t entry may fresh = record { live = fresh.live; silent = λ k above. (tt, fresh.silent k above); once = (tt, fresh.once) }

fresh_opened : (high link : ℕ) (t : Trace) (door : Door) (admission : Admission) (from : Addr) → high < link → IsFresh high t → IsFresh (max link high) (Opened door admission link from ∷ t)
fresh_opened high link t door admission from above fresh = record {
  live = λ k is. ⊎_elim
      (λ old. let below = fresh.live k old in omega (arith, below))
      (λ new. let same = new_member admission link k new in omega (arith, same))
      (member_longer k (live_links t) (opened_link admission link) is);
  silent = λ k past. (tt, fresh.silent k (omega (arith, past)));
  once = (fresh.silent link above, fresh.once);
}

fresh_event : (s : Setting) (h : History) (high : ℕ) (e : Event) (t : Trace) → IfSome (new_link e) (λ link. high < link) → IsFresh high t → IsFresh (greater_link (new_link e) high) (with_event s e t)
fresh_event s h high (event.Opened listener link from) t above fresh = fresh_opened high link t (AtListener listener) (admission s t listener) from above fresh
fresh_event s h high (event.Joined uplink link at) t above fresh = fresh_opened high link t (ByUplink uplink) (joined_admission s t uplink link) at above fresh
fresh_event s h high (event.Bytes link bytes) t above fresh = let all = did.Event (event.Bytes link bytes) ∷ h in kept_event s all (λ link. ⊥) (IsFresh high) (fresh_adds s all high) h (event.Bytes link bytes) t refl tt fresh
fresh_event s h high (event.Ended link) t above fresh = let all = did.Event (event.Ended link) ∷ h in kept_event s all (λ link. ⊥) (IsFresh high) (fresh_adds s all high) h (event.Ended link) t refl tt fresh
fresh_event s h high (event.Room link) t above fresh = let all = did.Event (event.Room link) ∷ h in kept_event s all (λ link. ⊥) (IsFresh high) (fresh_adds s all high) h (event.Room link) t refl tt fresh
fresh_event s h high event.Stop t above fresh = fresh
fresh_event s h high (event.Unjoined uplink) t above fresh = let all = did.Event (event.Unjoined uplink) ∷ h in kept_event s all (λ link. ⊥) (IsFresh high) (fresh_adds s all high) h (event.Unjoined uplink) t refl tt fresh
fresh_event s h high e t above fresh = let all = did.Event e ∷ h in kept_event s all (λ link. ⊥) (IsFresh high) (fresh_adds s all high) h e t refl tt fresh

fresh_ended : (high : ℕ) (t : Trace) (k : ℕ) → IsFresh high t → IsFresh high (Ended k ByStop ∷ t)
fresh_ended high t k fresh = record {
  live = λ j is. fresh.live j (member_kept (is_other k) j (live_links t) is);
  silent = λ j above. (tt, fresh.silent j above);
  once = (tt, fresh.once);
}

fresh_history : (s : Setting) (h : History) → HasFreshLinks h → IsFresh (greatest_link h) (trace_of s h)
unfolding trace_of
fresh_history s [] fresh = record { live = λ k is. absurd (false≢true is); silent = λ k above. tt; once = tt }
fresh_history s (did.Event e ∷ h) fresh =
    let all = did.Event e ∷ h in
    let n = open_events h in
    let high = greatest_link all in
    let begins = kept_begun s all (λ link. ⊥) (IsFresh (greatest_link h)) (fresh_adds s all (greatest_link h)) n (trace_of s h) (fresh_history s h fresh.0) in
    kept_ended s all (λ link. ⊥) (IsFresh high) (fresh_adds s all high) (λ t k stopped kept. fresh_ended high t k kept) (ends_round n e) h e (with_event s e (begun n (trace_of s h))) refl
    (fresh_event s h (greatest_link h) e (begun n (trace_of s h)) fresh.1 begins)
fresh_history s (did.Sent link bytes (sent.Took n) ∷ h) fresh =
    let before = fresh_history s h fresh in record { live = before.live; silent = λ k above. (tt, before.silent k above); once = (tt, before.once) }
fresh_history s (did.Sent link bytes sent.Gone ∷ h) fresh =
    let before = fresh_history s h fresh in record { live = before.live; silent = λ k above. (tt, before.silent k above); once = (tt, before.once) }
fresh_history s (x ∷ h) fresh = fresh_history s h fresh

pub opens_silent : (s : Setting) (h : History) → HasFreshLinks h → Each OpensSilent (trace_of s h)
opens_silent s h fresh = (fresh_history s h fresh).once

-- a link on which something was said isn't silent
spoke : (later earlier : Trace) (from : Source) (said : Cut) (verdict : Verdict) (link : ℕ) → is_from link from ≡ true → IsSilent link (later ++ Said from said verdict ∷ earlier) → ⊥
spoke [] earlier from said verdict link of silent = true≢false (sym of ∙ silent.0)
spoke (x ∷ later) earlier from said verdict link of silent = spoke later earlier from said verdict link of silent.1

-- what is said on a link from some line on begins with what was said up to it
pub said_stays : (later earlier : Trace) (from : Source) (said : Cut) (verdict : Verdict) (link : ℕ) → is_from link from ≡ true → Each OpensSilent (later ++ Said from said verdict ∷ earlier)
    → (more : List Cut) × (said_on (later ++ Said from said verdict ∷ earlier) link ≡ (said_on earlier link ++ said ∷ []) ++ more)
said_stays [] earlier from said verdict link own opens = ([], ap (λ b. if b then said_on earlier link ++ said ∷ [] else said_on earlier link) own ∙ sym (append-nil (said_on earlier link ++ said ∷ [])))
said_stays (Opened door admission opened at ∷ later) earlier from said verdict link own opens =
    let rest = later ++ Said from said verdict ∷ earlier in
    let before = said_stays later earlier from said verdict link own opens.1 in
    ⊎_elim
    (λ same. absurd (spoke later earlier from said verdict opened (subst (λ k. is_from k from ≡ true) (eqb-true link opened same) own) opens.0))
    (λ other. (before.0, ap (λ b. if b then [] else said_on rest link) other ∙ before.1))
    (cases_Bool (link == opened))
said_stays (Said by other verdict' ∷ later) earlier from said verdict link own opens =
    let rest = later ++ Said from said verdict ∷ earlier in
    let before = said_stays later earlier from said verdict link own opens.1 in
    ⊎_elim
    (λ its. (
      before.0 ++ other ∷ [],
      ap (λ b. if b then said_on rest link ++ other ∷ [] else said_on rest link) its ∙ ap (λ cuts. cuts ++ other ∷ []) before.1 ∙ append_assoc (said_on earlier link ++ said ∷ []) before.0 (other ∷ []),
    ))
    (λ elsewhere. (before.0, ap (λ b. if b then said_on rest link ++ other ∷ [] else said_on rest link) elsewhere ∙ before.1))
    (cases_Bool (is_from link by))
said_stays (entry ∷ later) earlier from said verdict link own opens = said_stays later earlier from said verdict link own opens.1
