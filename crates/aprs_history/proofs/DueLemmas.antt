-- The acts that are due: which links are served, what they are offered, and which are closed.
use Rattle.std.proofs.Common.{◌≡◌, ℕ, zero, suc, ◌+◌, ◌≤◌, ◌<◌, ◌==◌, Bool, true, false, ◌||◌, List, [], ◌∷◌, ◌++◌, map, filter, length, take, drop, max, refl, sym, ap, ◌∙◌, subst, arith, IfSome, Option, Some, None, append-nil, append_assoc, eq-eqb, if◌then◌else◌}
use Rattle.std.proofs.Math.Bool.{or-false}
use Rattle.std.proofs.Math.Seq.{drop-append_seam, take-append_seam}
use Rattle.std.proofs.lemmas.Bool.{eqb-true, true≢false, or_right}
use Rattle.std.proofs.lemmas.List.{drop-drop, take-append-drop}
use Rattle.std.specs.Bool.{⊤}
use Rattle.aprs_base.specs.Outside.{new_link, IsOutcome}
use Rattle.aprs_base.specs.declared.packets.ListenSpec.{ListenSpec}
use Rattle.aprs_base.specs.declared.events.Event.{Event}
use Rattle.aprs_base.specs.declared.events.Event.TheVariants as event
use Rattle.aprs_base.specs.declared.events.Sent.{Sent}
use Rattle.aprs_base.specs.declared.events.Sent.TheVariants as sent
use Rattle.aprs_base.specs.declared.events.Happening.{Happening}
use Rattle.aprs_base.specs.declared.events.Happening.TheVariants as did
use Rattle.link_queue.specs.Lines.{text_bytes}
use Rattle.aprs_history.specs.Setting.{Setting}
use Rattle.aprs_history.specs.declared.verdicts.Admission.{Admission}
use Rattle.aprs_history.specs.declared.verdicts.Admission.TheVariants.{Served}
use Rattle.aprs_history.specs.Trace.{Trace, Entry, Opened, Took, Lost, Ended, closed_links, is_member, is_other, live_links, opened_link, stopped_link, served_links, stopped_links, Rises}
use Rattle.aprs_history.specs.declared.verdicts.EndReason.TheVariants.{ByStop}
use Rattle.aprs_history.specs.Dials.{CastSeen, casts_of, dial_of}
use Rattle.aprs_history.specs.Downs.{DownSeen, down_of, whole_lines}
use Rattle.aprs_history.specs.Links.{taken_by}
use Rattle.aprs_history.specs.Texts.{lines_of, untaken}
use Rattle.aprs_history.specs.History.{History, admission, begun, end_all, end_each, end_stopped, ended, ends_round, greater_link, greatest_link, is_stop, is_stopped, joined_admission, open_events, refused_links, refused_reason, sent_entry, trace_of, with_event}
use Rattle.aprs_history.specs.Acts.{Act, Listens, Offers, SendsLine, Closes, Fulfils, IsRun, MayCome, acts_after, all_offers, but_first, cast_act, dials, due, is_offered, listens_from, offered_links, offers_by, offers_to}
use Rattle.aprs_history.specs.Headline.{HasFreshLinks}
use Rattle.aprs_history.proofs.EntryLemmas.{MayAdd, kept_begun, kept_event, kept_refused}
use Rattle.aprs_history.proofs.DownLemmas.{first_whole}
use Rattle.aprs_history.proofs.NumberLemmas.{differs_above, member_first, first_left, rises_filtered, rises_higher, rises_pushed}

-- ---- the links that are served rise

-- no link is stopped, and those that live rise
abbrev pub Goes : ℕ → Trace → Type 0
Goes high t = (stopped_links t ≡ []) × Rises 0 (live_links t) high

pub goes_on : (s : Setting) (h : History) (high : ℕ) (t : Trace) (entry : Entry) → MayAdd s h (λ link. ⊥) t entry → Goes high t → Goes high (entry ∷ t)
goes_on s h high t (Opened door admission link from) may goes = absurd may
goes_on s h high t (Took link offered taken) may goes = absurd may
goes_on s h high t (Lost link) may goes = absurd may
goes_on s h high t (Ended link reason) may goes = (ap (λ ks. ks ++ stopped_link reason link) goes.0 ∙ may.0, rises_filtered (is_other link) 0 high (live_links t) goes.1)
goes_on s h high t entry may goes = goes

goes_opened : (high k : ℕ) (admission : Admission) (ks : List ℕ) → high < k → Rises 0 ks high → Rises 0 (ks ++ opened_link admission k) (greater_link (Some k) high)
goes_opened high k (Served kind) ks above rises = rises_higher 0 k (max k high) (ks ++ k ∷ []) (omega arith) (rises_pushed 0 high k ks above rises)
goes_opened high k admission ks above rises = subst (λ ns. Rises 0 ns (max k high)) (sym (append-nil ks)) (rises_higher 0 high (max k high) ks (omega arith) rises)

goes_event : (s : Setting) (h : History) (high : ℕ) (e : Event) (t : Trace) → IfSome (new_link e) (λ link. high < link) → Goes high t → Goes (greater_link (new_link e) high) (with_event s e t)
goes_event s h high (event.Opened listener link from) t fresh goes = (goes.0, goes_opened high link (admission s t listener) (live_links t) fresh goes.1)
goes_event s h high (event.Joined uplink link at) t fresh goes = (goes.0, goes_opened high link (joined_admission s t uplink link) (live_links t) fresh goes.1)
goes_event s h high (event.Bytes link bytes) t fresh goes = let all = did.Event (event.Bytes link bytes) ∷ h in kept_event s all (λ link. ⊥) (Goes high) (goes_on s all high) h (event.Bytes link bytes) t refl tt goes
goes_event s h high (event.Ended link) t fresh goes = let all = did.Event (event.Ended link) ∷ h in kept_event s all (λ link. ⊥) (Goes high) (goes_on s all high) h (event.Ended link) t refl tt goes
goes_event s h high (event.Room link) t fresh goes = let all = did.Event (event.Room link) ∷ h in kept_event s all (λ link. ⊥) (Goes high) (goes_on s all high) h (event.Room link) t refl tt goes
goes_event s h high event.Stop t fresh goes = goes
goes_event s h high (event.Unjoined uplink) t fresh goes = goes
goes_event s h high e t fresh goes = let all = did.Event e ∷ h in kept_event s all (λ link. ⊥) (Goes high) (goes_on s all high) h e t refl tt goes

-- rising links are all stopped, in order
pub stopped_all : (low high : ℕ) (ks : List ℕ) (t : Trace) → Rises low ks high → live_links t ≡ ks → served_links (end_all ByStop ks t) ≡ stopped_links t ++ ks
stopped_all low high [] t rises is = ap (λ ks. stopped_links t ++ ks) is
stopped_all low high (k ∷ ks) t rises is =
    stopped_all k high ks (Ended k ByStop ∷ t) rises.1 (ap (filter (is_other k)) is ∙ first_left low high k ks rises) ∙ append_assoc (stopped_links t) (k ∷ []) ks

-- at the end of a round
abbrev Serves : Bool → ℕ → Trace → Type 0
Serves stopped high t = (stopped ≡ false → stopped_links t ≡ []) × Rises 0 (served_links t) high

serves_going : (stopped : Bool) (high : ℕ) (t : Trace) → Goes high t → Serves stopped high t
serves_going stopped high t goes = (λ is. goes.0, subst (λ ks. Rises 0 (ks ++ live_links t) high) (sym goes.0) goes.1)

serves_ended : (s : Setting) (h : History) (ends : Bool) (high : ℕ) (e : Event) (t : Trace) → Goes high t → Serves (is_stop e) high (ended s ends e t)
serves_ended s h false high e t goes = serves_going (is_stop e) high t goes
serves_ended s h true high e t goes = of (is_stop e) (end_each (refused_reason t) (refused_links s t) t) (kept_refused s h (λ link. ⊥) (Goes high) (goes_on s h high) t goes)
  where
    of : (stop : Bool) (t : Trace) → Goes high t → Serves stop high (end_stopped stop t)
    of false t goes = serves_going false high t goes
    of true t goes = (
      λ is. absurd (true≢false is),
      subst (λ ks. Rises 0 ks high) (sym (stopped_all 0 high (live_links t) t goes.1 refl ∙ ap (λ ks. ks ++ live_links t) goes.0)) goes.1,
    )

-- an event comes only where Stop hasn't come
event_comes : (acts : List Act) (stopped : Bool) (e : Event) → MayCome acts stopped (did.Event e) → stopped ≡ false
event_comes [] stopped e may = may.0
event_comes (Listens n ∷ acts) stopped e may = absurd may
event_comes (act ∷ acts) stopped e may = absurd may

-- up to the round's end
goes_through : (s : Setting) (h : History) (e : Event) → IfSome (new_link e) (λ link. greatest_link h < link) → Serves false (greatest_link h) (trace_of s h)
    → Goes (greatest_link (did.Event e ∷ h)) (with_event s e (begun (open_events h) (trace_of s h)))
goes_through s h e fresh before =
    let high = greatest_link h in
    let none = before.0 refl in
    let goes = kept_begun s h (λ link. ⊥) (Goes high) (goes_on s h high) (open_events h) (trace_of s h) (none, subst (λ ks. Rises 0 (ks ++ live_links (trace_of s h)) high) none before.1) in
    goes_event s h high e (begun (open_events h) (trace_of s h)) fresh goes

-- in a run the links that are served rise
pub serves : (s : Setting) (h : History) → IsRun s h → HasFreshLinks h → Serves (is_stopped h) (greatest_link h) (trace_of s h)
unfolding trace_of
serves s [] run fresh = (λ is. refl, omega arith)
serves s (did.Event e ∷ h) run fresh =
    let going = event_comes (due s h) (is_stopped h) e run.1 in
    let high = greatest_link (did.Event e ∷ h) in
    let goes = goes_through s h e fresh.1 (subst (λ stopped. Serves stopped (greatest_link h) (trace_of s h)) going (serves s h run.0 fresh.0)) in
    subst (λ stopped. Serves stopped high (trace_of s (did.Event e ∷ h))) (sym (ap (λ b. is_stop e || b) going ∙ or-false (is_stop e)))
    (serves_ended s h (ends_round (open_events h) e) high e (with_event s e (begun (open_events h) (trace_of s h))) goes)
serves s (did.Sent link bytes (sent.Took n) ∷ h) run fresh = serves s h run.0 fresh
serves s (did.Sent link bytes sent.Gone ∷ h) run fresh = serves s h run.0 fresh
serves s (happening ∷ h) run fresh = serves s h run.0 fresh

-- in a run no link is stopped before the last event's round ends
pub goes_before_end : (s : Setting) (h : History) (e : Event) → IsRun s (did.Event e ∷ h) → HasFreshLinks (did.Event e ∷ h)
    → Goes (greatest_link (did.Event e ∷ h)) (with_event s e (begun (open_events h) (trace_of s h)))
goes_before_end s h e run fresh =
    let going = event_comes (due s h) (is_stopped h) e run.1 in
    goes_through s h e fresh.1 (subst (λ stopped. Serves stopped (greatest_link h) (trace_of s h)) going (serves s h run.0 fresh.0))

-- ---- offers

-- nothing is sent
abbrev pub IsNoSend : Happening → Type 0
IsNoSend (did.Sent link bytes outcome) = ⊥
IsNoSend x = ⊤

no_line : (x : Happening) (link : ℕ) (line : List ℕ) → IsNoSend x → Fulfils (SendsLine link line) x → ⊥
no_line (did.Sent to bytes outcome) link line other may = other
no_line (did.Event e) link line other may = may
no_line (did.Listen n) link line other may = may
no_line (did.Dialled n) link line other may = may
no_line (did.Cast peer bytes) link line other may = may
no_line (did.Closed n) link line other may = may

-- what is left to links, and of one link this
abbrev pub with_left : ℕ → List ℕ → (ℕ → List ℕ) → ℕ → List ℕ
with_left link rest left j = if j == link then rest else left j

-- each offer is of what is left to its link, and the links rise; a line that goes to a downlink is what comes next of its text
abbrev pub OffersStand : (left : ℕ → List ℕ) → (low : ℕ) → List Act → (high : ℕ) → Type 0
OffersStand left low [] high = low ≤ high + 1
OffersStand left low (Offers link bytes ∷ acts) high = (low ≤ link) × (bytes ≡ take 65536 (left link)) × OffersStand left (link + 1) acts high
OffersStand left low (SendsLine link line ∷ acts) high = (low ≤ link) × (link ≤ high) × ((rest : List ℕ) × (left link ≡ line ++ rest) × OffersStand (with_left link rest left) link acts high)
OffersStand left low (act ∷ acts) high = OffersStand left low acts high

-- the others have what they had
with_left_other : (link : ℕ) (rest : List ℕ) (left : ℕ → List ℕ) (j : ℕ) → link < j → with_left link rest left j ≡ left j
with_left_other link rest left j above = ap (λ b. if b then rest else left j) (differs_above link j above)

pub offers_within : (left : ℕ → List ℕ) (low : ℕ) (acts : List Act) (high : ℕ) → OffersStand left low acts high → low ≤ high + 1
offers_within left low [] high stand = stand
offers_within left low (Offers link bytes ∷ acts) high stand = let above = stand.0 in let later = offers_within left (link + 1) acts high stand.2 in omega arith
offers_within left low (SendsLine link line ∷ acts) high stand = let above = stand.0 in let below = stand.1 in omega arith
offers_within left low (act ∷ acts) high stand = offers_within left low acts high stand

pub offers_lower : (left : ℕ → List ℕ) (less low : ℕ) (acts : List Act) (high : ℕ) → less ≤ low → OffersStand left low acts high → OffersStand left less acts high
offers_lower left less low [] high le stand = omega arith
offers_lower left less low (Offers link bytes ∷ acts) high le stand = let above = stand.0 in (omega arith, stand.1, stand.2)
offers_lower left less low (SendsLine link line ∷ acts) high le stand = let above = stand.0 in (omega arith, stand.1, stand.2)
offers_lower left less low (act ∷ acts) high le stand = offers_lower left less low acts high le stand

-- where the links from one on have the same left to take
pub offers_same : (left new : ℕ → List ℕ) (k low : ℕ) (acts : List Act) (high : ℕ) → ((j : ℕ) → k ≤ j → new j ≡ left j) → k ≤ low → OffersStand left low acts high → OffersStand new low acts high
offers_same left new k low [] high same le stand = stand
offers_same left new k low (Offers link bytes ∷ acts) high same le stand =
    let above = stand.0 in (stand.0, stand.1 ∙ ap (take 65536) (sym (same link (omega arith))), offers_same left new k (link + 1) acts high same (omega arith) stand.2)
offers_same left new k low (SendsLine link line ∷ acts) high same le stand =
    let above = stand.0 in
    let rest = stand.2.0 in (
      stand.0,
      stand.1,
      (
        rest,
        same link (omega arith) ∙ stand.2.1,
        offers_same (with_left link rest left) (with_left link rest new) k link acts high (λ j over. ap (λ bytes. if j == link then rest else bytes) (same j over)) (omega arith) stand.2.2,
      ),
    )
offers_same left new k low (act ∷ acts) high same le stand = offers_same left new k low acts high same le stand

offers_closes : (left : ℕ → List ℕ) (low high : ℕ) (ks : List ℕ) → low ≤ high + 1 → OffersStand left low (map Closes ks) high
offers_closes left low high [] le = le
offers_closes left low high (k ∷ ks) le = offers_closes left low high ks le

-- a downlink's whole lines, one after another
offers_lines : (left : ℕ → List ℕ) (k m high : ℕ) (lines : List (List ℕ)) (acts : List Act) → whole_lines (take m (left k)) ≡ lines → OffersStand left (k + 1) acts high
    → OffersStand left k (map (SendsLine k) lines ++ acts) high
offers_lines left k m high [] acts are later = offers_lower left k (k + 1) acts high (omega arith) later
offers_lines left k m high (line ∷ lines) acts are later =
    let first = first_whole (take m (left k)) line lines are in
    let rest = first.rest ++ drop m (left k) in
    let new = with_left k rest left in
    let here : new k ≡ rest = ap (λ b. if b then rest else left k) (eq-eqb k k refl) in
    let within = offers_within left (k + 1) acts high later in (
      omega arith,
      omega arith,
      (
        rest,
        sym (take-append-drop m (left k)) ∙ ap (λ bytes. bytes ++ drop m (left k)) first.split ∙ append_assoc line first.rest (drop m (left k)),
        offers_lines new k (length first.rest) high lines acts
            (ap (λ bytes. whole_lines (take (length first.rest) bytes)) here ∙ ap whole_lines (take-append_seam first.rest (drop m (left k))) ∙ sym first.others)
            (offers_same left new (k + 1) (k + 1) acts high (λ j over. with_left_other k rest left j (omega arith)) (omega arith) later),
      ),
    )

-- what a send takes of what comes next
pub prefix_taken : (m : ℕ) (bytes : List ℕ) → take (length (take m bytes)) bytes ≡ take m bytes
prefix_taken zero bytes = refl
prefix_taken (suc m) [] = refl
prefix_taken (suc m) (b ∷ bytes) = ap (λ more. b ∷ more) (prefix_taken m bytes)

module _ (s : Setting) (t : Trace) where
  offers_by_down : (down : Option DownSeen) (k high : ℕ) (acts : List Act) → OffersStand (untaken s t) (k + 1) acts high
      → OffersStand (untaken s t) k (offers_by down k (take 65536 (untaken s t k)) ++ acts) high
  offers_by_down None k high acts later = (omega arith, refl, later)
  offers_by_down (Some down) k high acts later = offers_lines (untaken s t) k 65536 high (whole_lines (take 65536 (untaken s t k))) acts refl later

  offers_of : (low high : ℕ) (ks closes : List ℕ) → Rises low ks high → OffersStand (untaken s t) (low + 1) (all_offers s t ks ++ map Closes closes) high
  offers_of low high [] closes rises = offers_closes (untaken s t) (low + 1) high closes (omega arith)
  offers_of low high (k ∷ ks) closes rises =
      let above = rises.0 in
      let closing = map Closes closes in
      let stand = offers_by_down (down_of s t k) k high (all_offers s t ks ++ closing) (offers_of k high ks closes rises.1) in
      offers_lower (untaken s t) (low + 1) k (all_offers s t (k ∷ ks) ++ closing) high (omega arith)
      (subst (λ acts. OffersStand (untaken s t) k acts high) (sym (append_assoc (offers_to s t k) (all_offers s t ks) closing)) stand)

  offers_casts : (casts : List CastSeen) (low high : ℕ) (acts : List Act) → OffersStand (untaken s t) low acts high → OffersStand (untaken s t) low (map cast_act casts ++ acts) high
  offers_casts [] low high acts stand = stand
  offers_casts (cast ∷ casts) low high acts stand = offers_casts casts low high acts stand

  offers_dials : (dial : Option ℕ) (low high : ℕ) (acts : List Act) → OffersStand (untaken s t) low acts high → OffersStand (untaken s t) low (dials dial ++ acts) high
  offers_dials None low high acts stand = stand
  offers_dials (Some uplink) low high acts stand = stand

  pub offers_listens : (n : ℕ) (listens : List ListenSpec) (high : ℕ) → OffersStand (untaken s t) 0 (listens_from n listens) high
  offers_listens n [] high = omega arith
  offers_listens n (spec ∷ specs) high = offers_listens (n + 1) specs high

  -- at the end of a round
  pub offers_after : (ends : Bool) (high : ℕ) → Rises 0 (served_links t) high → OffersStand (untaken s t) 0 (if ends then acts_after s t else []) high
  offers_after true high rises =
      let offers = all_offers s t (offered_links s t) ++ map Closes (closed_links t) in
      let stand = offers_lower (untaken s t) 0 1 offers high (omega arith) (offers_of 0 high (offered_links s t) (closed_links t) (rises_filtered (is_offered s t) 0 high (served_links t) rises)) in
      offers_dials (dial_of s t) 0 high (map cast_act (casts_of s t) ++ offers) (offers_casts (casts_of s t) 0 high offers stand)
  offers_after false high rises = omega arith

  -- where something else than a send is done
  pub offers_next : (x : Happening) (acts : List Act) (stopped : Bool) (high : ℕ) → IsNoSend x → MayCome acts stopped x → OffersStand (untaken s t) 0 acts high → OffersStand (untaken s t) 0 (but_first acts) high
  offers_next x [] stopped high other may stand = stand
  offers_next x (Offers link bytes ∷ acts) stopped high other may stand = offers_lower (untaken s t) 0 (link + 1) acts high (omega arith) stand.2
  offers_next x (SendsLine link line ∷ acts) stopped high other may stand = absurd (no_line x link line other may)
  offers_next x (act ∷ acts) stopped high other may stand = stand

-- what is sent is what comes next of a link's text, and what is due after it is so again
pub record Sends (s : Setting) (t : Trace) (acts : List Act) (link : ℕ) (bytes : List ℕ) (outcome : Sent) (high : ℕ) : Type 0 where
  pub next : bytes ≡ take (length bytes) (untaken s t link)
  pub within : link ≤ high
  pub part : IsOutcome bytes outcome
  pub later : OffersStand (untaken s (sent_entry link bytes outcome ∷ t)) 0 acts high

module _ (s : Setting) (t : Trace) where
  -- what a send leaves to each link above its own
  left_above : (to : ℕ) (bytes : List ℕ) (outcome : Sent) (link : ℕ) → to < link → untaken s (sent_entry to bytes outcome ∷ t) link ≡ untaken s t link
  left_above to bytes (sent.Took n) link above = ap (λ b. drop (if b then taken_by t link + n else taken_by t link) (text_bytes (lines_of s t link))) (differs_above to link above)
  left_above to bytes sent.Gone link above = refl

  -- and what a line leaves that is taken whole
  left_line : (to : ℕ) (line rest : List ℕ) → untaken s t to ≡ line ++ rest → (j : ℕ) → untaken s (Took to (length line) (length line) ∷ t) j ≡ with_left to rest (untaken s t) j
  left_line to line rest is j = of (j == to) refl
    where
      of : (b : Bool) → (j == to) ≡ b → drop (if b then taken_by t j + length line else taken_by t j) (text_bytes (lines_of s t j)) ≡ (if b then rest else untaken s t j)
      of true same =
          let here : j ≡ to = eqb-true j to same in
          sym (drop-drop (length line) (taken_by t j) (text_bytes (lines_of s t j))) ∙ ap (drop (length line)) (ap (untaken s t) here ∙ is) ∙ drop-append_seam line rest
      of false other = refl

  line_sent : (acts : List Act) (link owed : ℕ) (bytes given : List ℕ) (high : ℕ) → link ≡ owed → bytes ≡ given → OffersStand (untaken s t) 0 (SendsLine owed given ∷ acts) high
      → Sends s t acts link bytes (sent.Took (length given)) high
  line_sent acts link owed bytes given high to same stand =
      let rest = stand.2.0 in
      let split : untaken s t link ≡ bytes ++ rest = ap (untaken s t) to ∙ stand.2.1 ∙ ap (λ line. line ++ rest) (sym same) in
      let stands = subst (λ k. OffersStand (with_left k rest (untaken s t)) k acts high) (sym to) stand.2.2 in
      subst (λ n. Sends s t acts link bytes (sent.Took n) high) (ap length same) (record {
        next = sym (ap (take (length bytes)) split ∙ take-append_seam bytes rest);
        within = subst (λ k. k ≤ high) (sym to) stand.1;
        part = omega arith;
        later = let after = untaken s (Took link (length bytes) (length bytes) ∷ t) in
            offers_lower after 0 link acts high (omega arith) (offers_same (with_left link rest (untaken s t)) after link link acts high (λ j over. left_line link bytes rest split j) (omega arith) stands);
      })

  pub sent_due : (acts : List Act) (stopped : Bool) (link : ℕ) (bytes : List ℕ) (outcome : Sent) (high : ℕ) → MayCome acts stopped (did.Sent link bytes outcome) → OffersStand (untaken s t) 0 acts high
      → Sends s t (but_first acts) link bytes outcome high
  sent_due [] stopped link bytes outcome high may stand = absurd may.1
  sent_due (Offers owed given ∷ acts) stopped link bytes outcome high may stand =
      let is : bytes ≡ take 65536 (untaken s t link) = may.1 ∙ stand.1 ∙ ap (λ k. take 65536 (untaken s t k)) (sym may.0) in
      let stands = subst (λ k. OffersStand (untaken s t) (k + 1) acts high) (sym may.0) stand.2 in
      let within = offers_within (untaken s t) (link + 1) acts high stands in
      record {
        next = is ∙ sym (prefix_taken 65536 (untaken s t link)) ∙ ap (λ n. take n (untaken s t link)) (sym (ap length is));
        within = omega arith;
        part = may.2;
        later = let after = untaken s (sent_entry link bytes outcome ∷ t) in
            offers_lower after 0 (link + 1) acts high (omega arith) (offers_same (untaken s t) after (link + 1) (link + 1) acts high (λ j over. left_above link bytes outcome j (omega arith)) (omega arith) stands);
      }
  sent_due (SendsLine owed given ∷ acts) stopped link bytes outcome high may stand =
      subst (λ how. Sends s t acts link bytes how high) (sym may.2) (line_sent acts link owed bytes given high may.0 may.1 stand)
  sent_due (act ∷ acts) stopped link bytes outcome high may stand = absurd may

-- ---- closes

-- each close is of such a link
abbrev pub ClosesStand : List ℕ → List Act → Type 0
ClosesStand closed [] = ⊤
ClosesStand closed (Closes link ∷ acts) = (is_member link closed ≡ true) × ClosesStand closed acts
ClosesStand closed (act ∷ acts) = ClosesStand closed acts

closes_next : (closed : List ℕ) (acts : List Act) → ClosesStand closed acts → ClosesStand closed (but_first acts)
closes_next closed [] stand = stand
closes_next closed (Closes link ∷ acts) stand = stand.1
closes_next closed (act ∷ acts) stand = stand

closes_listens : (closed : List ℕ) (n : ℕ) (listens : List ListenSpec) → ClosesStand closed (listens_from n listens)
closes_listens closed n [] = tt
closes_listens closed n (spec ∷ specs) = closes_listens closed (n + 1) specs

closes_of : (closed ks : List ℕ) → ((k : ℕ) → is_member k ks ≡ true → is_member k closed ≡ true) → ClosesStand closed (map Closes ks)
closes_of closed [] among = tt
closes_of closed (k ∷ ks) among =
    (among k (member_first k ks), closes_of closed ks (λ j member. among j (or_right (k == j) (is_member j ks) member)))

closes_lines : (closed : List ℕ) (k : ℕ) (lines : List (List ℕ)) (acts : List Act) → ClosesStand closed acts → ClosesStand closed (map (SendsLine k) lines ++ acts)
closes_lines closed k [] acts stand = stand
closes_lines closed k (line ∷ lines) acts stand = closes_lines closed k lines acts stand

closes_by : (closed : List ℕ) (down : Option DownSeen) (k : ℕ) (bytes : List ℕ) (acts : List Act) → ClosesStand closed acts → ClosesStand closed (offers_by down k bytes ++ acts)
closes_by closed None k bytes acts stand = stand
closes_by closed (Some down) k bytes acts stand = closes_lines closed k (whole_lines bytes) acts stand

closes_offers : (closed ks closes : List ℕ) (s : Setting) (t : Trace) → ClosesStand closed (map Closes closes) → ClosesStand closed (all_offers s t ks ++ map Closes closes)
closes_offers closed [] closes s t stand = stand
closes_offers closed (k ∷ ks) closes s t stand =
    subst (ClosesStand closed) (sym (append_assoc (offers_to s t k) (all_offers s t ks) (map Closes closes)))
    (closes_by closed (down_of s t k) k (take 65536 (untaken s t k)) (all_offers s t ks ++ map Closes closes) (closes_offers closed ks closes s t stand))

closes_casts : (closed : List ℕ) (casts : List CastSeen) (acts : List Act) → ClosesStand closed acts → ClosesStand closed (map cast_act casts ++ acts)
closes_casts closed [] acts stand = stand
closes_casts closed (cast ∷ casts) acts stand = closes_casts closed casts acts stand

closes_dials : (closed : List ℕ) (dial : Option ℕ) (acts : List Act) → ClosesStand closed acts → ClosesStand closed (dials dial ++ acts)
closes_dials closed None acts stand = stand
closes_dials closed (Some uplink) acts stand = stand

closes_after : (s : Setting) (t : Trace) (ends : Bool) → ClosesStand (closed_links t) (if ends then acts_after s t else [])
closes_after s t true =
    let offers = all_offers s t (offered_links s t) ++ map Closes (closed_links t) in
    let stand = closes_offers (closed_links t) (offered_links s t) (closed_links t) s t (closes_of (closed_links t) (closed_links t) (λ k member. member)) in
    closes_dials (closed_links t) (dial_of s t) (map cast_act (casts_of s t) ++ offers) (closes_casts (closed_links t) (casts_of s t) offers stand)
closes_after s t false = tt

-- each close that is due is of a link that ended in the round by a reason that closes
pub closes_stand : (s : Setting) (h : History) → ClosesStand (closed_links (trace_of s h)) (due s h)
unfolding trace_of due
closes_stand s [] = closes_listens [] 0 s.listens
closes_stand s (did.Event e ∷ h) = closes_after s (trace_of s (did.Event e ∷ h)) (ends_round (open_events h) e)
closes_stand s (did.Sent link bytes (sent.Took n) ∷ h) = closes_next (closed_links (trace_of s h)) (due s h) (closes_stand s h)
closes_stand s (did.Sent link bytes sent.Gone ∷ h) = closes_next (closed_links (trace_of s h)) (due s h) (closes_stand s h)
closes_stand s (happening ∷ h) = closes_next (closed_links (trace_of s h)) (due s h) (closes_stand s h)

pub closed_due : (closed : List ℕ) (acts : List Act) (stopped : Bool) (link : ℕ) → MayCome acts stopped (did.Closed link) → ClosesStand closed acts → is_member link closed ≡ true
closed_due closed [] stopped link may stand = absurd may.1
closed_due closed (Closes other ∷ acts) stopped link may stand = subst (λ k. is_member k closed ≡ true) (sym may) stand.0
closed_due closed (act ∷ acts) stopped link may stand = absurd may
