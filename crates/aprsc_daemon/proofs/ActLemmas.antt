-- A run goes on by a send or a close.
use Rattle.std.proofs.Common.{◌≡◌, ℕ, ◌==◌, Bool, true, false, ◌||◌, List, [], ◌∷◌, ◌++◌, take, map, refl, sym, ap, ◌∙◌, subst, Option, None, ⊎_elim, min}
use Rattle.std.specs.Option.{option_map}
use Rattle.std.proofs.lemmas.Bool.{cases_Bool, true≢false}
use Rattle.aprs_base.specs.Outside.{Told, with_done, IsOutcome}
use Rattle.aprs_base.specs.declared.events.Sent.{Sent}
use Rattle.aprs_base.specs.declared.events.Sent.TheVariants as sent
use Rattle.aprs_base.specs.declared.events.Happening.TheVariants as did
use Rattle.aprs_base.specs.Journals.{JournalLineSeen}
use Rattle.aprs_history.specs.Setting.{Setting}
use Rattle.aprs_history.specs.Trace.{Trace, is_member}
use Rattle.aprs_history.specs.Texts.{untaken}
use Rattle.aprs_history.specs.History.{History, is_stopped, trace_of}
use Rattle.aprs_history.specs.Acts.{Act, Offers, Closes, MayCome, all_offers, due, but_first, offers_by}
use Rattle.aprs_history.specs.Downs.{down_of}
use Rattle.aprs_history.specs.Journal.{journal_of}
use Rattle.status_page.specs.PageFronts.{PageSeen, counting}
use Rattle.front_history.specs.Answers.{wired_for}
use Rattle.front_history.specs.Serving.{ActsOn, SendsOn}
use Rattle.front_history.proofs.ServesLemmas.{sent_on, server_acts, tells_done}
use Rattle.server_core.specs.Meaning.{CoreMeaning, Stands, setting_of}
use Rattle.aprs_history.proofs.NumberLemmas.{member_first}
use Rattle.server_core.proofs.OfferLemmas.{left_by_other, member_differs}
use Rattle.aprs_conf.specs.Seen.{ConfSeen}
use Rattle.aprsc_daemon.specs.Phases.{AreAsAt, Owing, Offering}

send_comes : (acts : List Act) (stopped : Bool) (link : ℕ) (bytes owed : List ℕ) (outcome : Sent) (rest : List Act) → acts ≡ Offers link owed ∷ rest → bytes ≡ owed → IsOutcome bytes outcome
    → MayCome acts stopped (did.Sent link bytes outcome)
send_comes acts stopped link bytes owed outcome rest is same part = subst (λ xs. MayCome xs stopped (did.Sent link bytes outcome)) (sym is) (refl, same, part)

close_comes : (acts : List Act) (stopped : Bool) (link : ℕ) (rest : List Act) → acts ≡ Closes link ∷ rest → MayCome acts stopped (did.Closed link)
close_comes acts stopped link rest is = subst (λ xs. MayCome xs stopped (did.Closed link)) (sym is) refl

-- ---- offers

-- sends change no downlink
pub down_stays : (s : Setting) (h : History) (link k : ℕ) (bytes : List ℕ) (outcome : Sent) → down_of s (trace_of s (did.Sent link bytes outcome ∷ h)) k ≡ down_of s (trace_of s h) k
unfolding trace_of
down_stays s h link k bytes (sent.Took n) = refl
down_stays s h link k bytes sent.Gone = refl

-- the links behind one are as they were, once something was sent to it
pub as_at_next : (s : Setting) (round : Trace) (link : ℕ) (offers : List ℕ) (bytes : List ℕ) (outcome : Sent) (more : History) → is_member link offers ≡ false → AreAsAt s round offers more
    → AreAsAt s round offers (did.Sent link bytes outcome ∷ more)
as_at_next s round link offers bytes outcome more other same = record {
  left = λ k member. left_by_other s more link k bytes outcome (member_differs link k offers other member) ∙ same.left k member;
  down = λ k member. down_stays s more link k bytes outcome ∙ same.down k member;
}

pub as_at_rest : (s : Setting) (round : Trace) (link : ℕ) (offers : List ℕ) (more : History) → AreAsAt s round (link ∷ offers) more → AreAsAt s round offers more
as_at_rest s round link offers more same = record { left = λ k member. same.left k (behind k member); down = λ k member. same.down k (behind k member) }
  where
    behind : (k : ℕ) → is_member k offers ≡ true → is_member k (link ∷ offers) ≡ true
    behind k member = ⊎_elim (λ here. ap (λ b. b || is_member k offers) here) (λ differ. ap (λ b. b || is_member k offers) differ ∙ member) (cases_Bool (link == k))

-- what is due to a link that is no downlink is one offer
first_offer : (s : Setting) (round : Trace) (link : ℕ) (offers closes : List ℕ) → down_of s round link ≡ None
    → all_offers s round (link ∷ offers) ++ map Closes closes ≡ Offers link (take 65536 (untaken s round link)) ∷ (all_offers s round offers ++ map Closes closes)
first_offer s round link offers closes plain = ap (λ down. (offers_by down link (take 65536 (untaken s round link)) ++ all_offers s round offers) ++ map Closes closes) plain

-- once it is made, the others are left
owing_next : (conf : ConfSeen) (link : ℕ) (offers closes : List ℕ) (bytes : List ℕ) (outcome : Sent) (more : History) → is_member link offers ≡ false → (owing : Owing conf None [] (link ∷ offers) closes more)
    → due (setting_of conf) more ≡ Offers link (take 65536 (untaken (setting_of conf) owing.round link)) ∷ (all_offers (setting_of conf) owing.round offers ++ map Closes closes)
    → Owing conf None [] offers closes (did.Sent link bytes outcome ∷ more)
unfolding due
owing_next conf link offers closes bytes outcome more other owing owed = record {
  round = owing.round;
  owed = ap but_first owed;
  same = as_at_next (setting_of conf) owing.round link offers bytes outcome more other (as_at_rest (setting_of conf) owing.round link offers more owing.same);
  all = owing.all;
  fresh = owing.fresh;
}

-- one offer is made
pub run_sends : (lines : List JournalLineSeen) (s : Setting) (now next : Option Told) (page after : PageSeen) (core new : CoreMeaning) (link : ℕ) (offers closes : List ℕ) (bytes : List ℕ) (outcome : Sent) → setting_of core.conf ≡ s
    → new.conf ≡ core.conf → is_member link offers ≡ false → IsOutcome bytes outcome
    → ((h : History) → Stands core h → bytes ≡ take 65536 (untaken (setting_of core.conf) (trace_of (setting_of core.conf) h) link))
    → ((h : History) → Stands core h → down_of (setting_of core.conf) (trace_of (setting_of core.conf) h) link ≡ None)
    → ((h : History) → Stands core h → Stands new (did.Sent link bytes outcome ∷ h))
    → after ≡ counting (did.Sent link bytes outcome) page → next ≡ option_map (with_done (did.Sent link bytes outcome)) now
    → SendsOn s now page next after (Offering lines core (link ∷ offers) closes) (Offering lines new offers closes)
run_sends lines s now next page after core new link offers closes bytes outcome same conf other part given plain stands counted is =
    sent_on s now next link bytes outcome page after (Offering lines core (link ∷ offers) closes) (Offering lines new offers closes) counted is (λ more phase.
    let owing = phase.owing in
    let c = setting_of core.conf in
    let here = member_first link offers in
    let owed = owing.owed ∙ first_offer c owing.round link offers closes (sym (owing.same.down link here) ∙ plain more phase.stands) in (
      ap (λ t. down_of t (trace_of t more) link) (sym same) ∙ plain more phase.stands,
      subst (λ t. MayCome (due t more) (is_stopped more) (did.Sent link bytes outcome)) same
          (send_comes (due c more) (is_stopped more) link bytes (take 65536 (untaken c owing.round link)) outcome (all_offers c owing.round offers ++ map Closes closes) owed
          (given more phase.stands ∙ ap (take 65536) (owing.same.left link here)) part),
      record {
        stands = stands more phase.stands;
        journal = ap (λ c. journal_of (setting_of c) more) conf ∙ phase.journal;
        owing = subst (λ conf. Owing conf None [] offers closes (did.Sent link bytes outcome ∷ more)) (sym conf) (owing_next core.conf link offers closes bytes outcome more other owing owed);
      },
    ))

-- ---- closes

stands_closed : (core : CoreMeaning) (link : ℕ) (h : History) → Stands core h → Stands core (did.Closed link ∷ h)
unfolding trace_of
stands_closed core link h stands = record { finished = stands.finished; follows = stands.follows; greatest = stands.greatest; stopped = stands.stopped }

owing_closed : (conf : ConfSeen) (link : ℕ) (closes : List ℕ) (more : History) → Owing conf None [] [] (link ∷ closes) more → Owing conf None [] [] closes (did.Closed link ∷ more)
unfolding due
owing_closed conf link closes more owing = record { round = owing.round; owed = ap but_first owing.owed; same = record { left = λ k member. absurd (true≢false (sym member)); down = λ k member. absurd (true≢false (sym member)) }; all = owing.all; fresh = owing.fresh }

pub run_closes : (lines : List JournalLineSeen) (s : Setting) (now next : Option Told) (core : CoreMeaning) (link : ℕ) (closes : List ℕ) → setting_of core.conf ≡ s
    → next ≡ option_map (with_done (did.Closed link)) now → ActsOn s now next (Offering lines core [] (link ∷ closes)) (Offering lines core [] closes)
run_closes lines s now next core link closes same is =
    server_acts s now next (did.Closed link) (with_done (did.Closed link)) (Offering lines core [] (link ∷ closes)) (Offering lines core [] closes)
    tt tt (λ state. tells_done (wired_for state s) (did.Closed link) refl refl) is (λ more phase. (
      subst (λ t. MayCome (due t more) (is_stopped more) (did.Closed link)) same (close_comes (due (setting_of core.conf) more) (is_stopped more) link (map Closes closes) phase.owing.owed),
      record { stands = stands_closed core link more phase.stands; journal = phase.journal; owing = owing_closed core.conf link closes more phase.owing },
    ))

-- what was offered is what was asked for
pub offered_bytes : (bytes left : List ℕ) (room : ℕ) → room ≡ 65536 → bytes ≡ take (min room 65536) left → bytes ≡ take 65536 left
offered_bytes bytes left room is given = given ∙ ap (λ n. take (min n 65536) left) is

-- one offer is made, from what the core said
pub run_offered : (lines : List JournalLineSeen) (s : Setting) (now next : Option Told) (page after : PageSeen) (core new : CoreMeaning) (link : ℕ) (offers closes : List ℕ) (bytes : List ℕ) (outcome said : Sent) → setting_of core.conf ≡ s
    → new.conf ≡ core.conf → is_member link offers ≡ false → IsOutcome bytes outcome → outcome ≡ said
    → ((h : History) → Stands core h → bytes ≡ take 65536 (untaken (setting_of core.conf) (trace_of (setting_of core.conf) h) link))
    → ((h : History) → Stands core h → down_of (setting_of core.conf) (trace_of (setting_of core.conf) h) link ≡ None)
    → ((h : History) → Stands core h → Stands new (did.Sent link bytes said ∷ h))
    → after ≡ counting (did.Sent link bytes outcome) page → next ≡ option_map (with_done (did.Sent link bytes outcome)) now
    → SendsOn s now page next after (Offering lines core (link ∷ offers) closes) (Offering lines new offers closes)
run_offered lines s now next page after core new link offers closes bytes outcome said same conf other part is given plain stands =
    run_sends lines s now next page after core new link offers closes bytes outcome same conf other part given plain (λ h st. subst (λ o. Stands new (did.Sent link bytes o ∷ h)) (sym is) (stands h st))
