-- The acts that are due are of no link that was opened where datagrams come.
use Rattle.std.proofs.Common.{◌≡◌, ℕ, ◌+◌, ◌≤◌, ◌<◌, ◌==◌, ◌&&◌, max, take, Bool, true, false, List, [], ◌∷◌, ◌++◌, map, refl, sym, ap, ◌∙◌, subst, append_assoc, arith, eq-eqb, Option, Some, None, if◌then◌else◌, ◌⊎◌, inl, inr}
use Rattle.std.specs.Prelude.{⊤, IfSome, is_some}
use Rattle.std.specs.List.{AllByRecursion as Each}
use Rattle.std.proofs.lemmas.Bool.{and_parts, cases_Bool, eqb-true, false_from_ne_true, or_parts, true≢false}
use Rattle.std.proofs.lemmas.List.Elements.{All-from_recursion}
use Rattle.aprs_base.specs.declared.packets.ListenSpec.{ListenSpec}
use Rattle.aprs_base.specs.declared.packets.PortKind.TheVariants as kind
use Rattle.aprs_base.specs.declared.events.Event.TheVariants as event
use Rattle.aprs_base.specs.declared.events.Happening.{Happening}
use Rattle.aprs_base.specs.declared.events.Happening.TheVariants as did
use Rattle.aprs_history.specs.Setting.{Setting, kind_at}
use Rattle.aprs_history.specs.Trace.{Trace, closed_links, is_member, live_links, served_links, stopped_links}
use Rattle.aprs_history.specs.Dials.{CastSeen, casts_of, dial_of}
use Rattle.aprs_history.specs.Downs.{DownSeen, down_of, whole_lines}
use Rattle.aprs_history.specs.Texts.{untaken}
use Rattle.aprs_history.specs.History.{History, ends_round, greatest_link, is_stopped, open_events, trace_of}
use Rattle.aprs_history.specs.Acts.{Act, Closes, Offers, SendsLine, IsRun, MayCome, acts_after, all_offers, but_first, cast_act, dials, due, is_offered, listens_from, offered_links, offers_by, offers_to}
use Rattle.aprs_history.specs.Headline.{HasFreshLinks}
use Rattle.aprs_history.proofs.NumberLemmas.{differs_above}
use Rattle.http_submit.specs.Fronts.{is_at}
use Rattle.front_history.specs.Views.{IsNotTo, NoneIsServedThere, opened_at, opened_from}
use Rattle.front_history.proofs.StrangerLemmas.{AreStrange, Without, none_appended, none_filtered, strangers}

-- ---- the acts that are due

-- an act isn't of that link
abbrev pub IsOther : ℕ → Act → Type 0
IsOther k (Offers link bytes) = (link == k) ≡ false
IsOther k (SendsLine link line) = (link == k) ≡ false
IsOther k (Closes link) = (link == k) ≡ false
IsOther k act = ⊤

-- nor is a happening
abbrev pub IsOfOther : ℕ → Happening → Type 0
IsOfOther k (did.Sent link bytes outcome) = (link == k) ≡ false
IsOfOther k (did.Closed link) = (link == k) ≡ false
IsOfOther k x = ⊤

module _ (k : ℕ) where
  others_next : (acts : List Act) → Each (IsOther k) acts → Each (IsOther k) (but_first acts)
  others_next [] others = others
  others_next (act ∷ acts) others = others.1

  others_listens : (n : ℕ) (listens : List ListenSpec) → Each (IsOther k) (listens_from n listens)
  others_listens n [] = tt
  others_listens n (spec ∷ specs) = (tt, others_listens (n + 1) specs)

  others_closes : (ks : List ℕ) → is_member k ks ≡ false → Each (IsOther k) (map Closes ks)
  others_closes [] out = tt
  others_closes (link ∷ links) out = let parts = or_parts (link == k) (is_member k links) out in (parts.0, others_closes links parts.1)

  others_lines : (link : ℕ) → (link == k) ≡ false → (lines : List (List ℕ)) (acts : List Act) → Each (IsOther k) acts → Each (IsOther k) (map (SendsLine link) lines ++ acts)
  others_lines link other [] acts others = others
  others_lines link other (line ∷ lines) acts others = (other, others_lines link other lines acts others)

  others_by : (down : Option DownSeen) (link : ℕ) (bytes : List ℕ) (acts : List Act) → (link == k) ≡ false → Each (IsOther k) acts → Each (IsOther k) (offers_by down link bytes ++ acts)
  others_by None link bytes acts other others = (other, others)
  others_by (Some down) link bytes acts other others = others_lines link other (whole_lines bytes) acts others

  others_offers : (s : Setting) (t : Trace) (ks : List ℕ) (acts : List Act) → is_member k ks ≡ false → Each (IsOther k) acts → Each (IsOther k) (all_offers s t ks ++ acts)
  others_offers s t [] acts out others = others
  others_offers s t (link ∷ links) acts out others =
      let parts = or_parts (link == k) (is_member k links) out in
      let here = take 65536 (untaken s t link) in
      subst (Each (IsOther k)) (sym (append_assoc (offers_to s t link) (all_offers s t links) acts))
      (others_by (down_of s t link) link here (all_offers s t links ++ acts) parts.0 (others_offers s t links acts parts.1 others))

  others_casts : (casts : List CastSeen) (acts : List Act) → Each (IsOther k) acts → Each (IsOther k) (map cast_act casts ++ acts)
  others_casts [] acts others = others
  others_casts (cast ∷ casts) acts others = (tt, others_casts casts acts others)

  others_dials : (dial : Option ℕ) (acts : List Act) → Each (IsOther k) acts → Each (IsOther k) (dials dial ++ acts)
  others_dials None acts others = others
  others_dials (Some uplink) acts others = (tt, others)

  others_after : (s : Setting) (t : Trace) (ends : Bool) → Without k t → Each (IsOther k) (if ends then acts_after s t else [])
  others_after s t false out = tt
  others_after s t true out =
      let closes = map Closes (closed_links t) in
      let none : is_member k (offered_links s t) ≡ false = none_filtered (is_offered s t) k (served_links t) (none_appended k (stopped_links t) (live_links t) out.stopped out.live) in
      let offers = all_offers s t (offered_links s t) ++ closes in
      others_dials (dial_of s t) (map cast_act (casts_of s t) ++ offers) (others_casts (casts_of s t) offers (others_offers s t (offered_links s t) closes none (others_closes (closed_links t) out.closed)))

  pub others_due : (s : Setting) (h : History) → AreStrange k s h → Each (IsOther k) (due s h)
  unfolding due
  others_due s [] strange = others_listens 0 s.listens
  others_due s (did.Event e ∷ h) strange = others_after s (trace_of s (did.Event e ∷ h)) (ends_round (open_events h) e) (strangers k s (did.Event e ∷ h) strange)
  others_due s (x ∷ h) strange = others_next (due s h) (others_due s h strange)

  -- what comes where these are due is of another link
  pub others_come : (acts : List Act) (stopped : Bool) (x : Happening) → Each (IsOther k) acts → MayCome acts stopped x → IsOfOther k x
  others_come [] stopped (did.Sent to given outcome) others may = absurd may.1
  others_come [] stopped (did.Closed closed) others may = absurd may.1
  others_come [] stopped x others may = tt
  others_come (Offers link bytes ∷ acts) stopped (did.Sent to given outcome) others may = ap (λ n. n == k) may.0 ∙ others.0
  others_come (SendsLine link line ∷ acts) stopped (did.Sent to given outcome) others may = ap (λ n. n == k) may.0 ∙ others.0
  others_come (act ∷ acts) stopped (did.Sent to given outcome) others may = absurd may
  others_come (Closes link ∷ acts) stopped (did.Closed closed) others may = ap (λ n. n == k) may ∙ others.0
  others_come (act ∷ acts) stopped (did.Closed closed) others may = absurd may
  others_come (act ∷ acts) stopped x others may = tt

-- ---- the links that were opened

-- a port that has that number
pub at_is : (u : Option ℕ) (n : ℕ) → is_at u n ≡ true → u ≡ Some n
at_is None n at = absurd (true≢false (sym at))
at_is (Some m) n at = ap Some (sym (eqb-true n m at))

module _ (u : Option ℕ) (k : ℕ) where
  -- a link that was opened isn't above the greatest
  pub opened_within : (h : History) → opened_at u h k ≡ true → k ≤ greatest_link h
  opened_within [] opened = absurd (true≢false (sym opened))
  opened_within (did.Event (event.Opened listener link from) ∷ h) opened = of (is_at u listener && link == k) (λ is. eqb-true link k (and_parts (is_at u listener) (link == k) is).1) (opened_within h) opened
    where
      of : (b : Bool) → (b ≡ true → link ≡ k) → (opened_at u h k ≡ true → k ≤ greatest_link h) → is_some (if b then Some from else opened_from u h k) ≡ true → k ≤ max link (greatest_link h)
      of true same before opened = let is = same refl in omega arith
      of false same before opened = let within = before opened in omega arith
  opened_within (did.Event (event.Joined uplink link at) ∷ h) opened = let within = opened_within h opened in omega arith
  opened_within (did.Event e ∷ h) opened = opened_within h opened
  opened_within (x ∷ h) opened = opened_within h opened

differs_below : (n high : ℕ) → n < high → (n == high) ≡ false
differs_below n high below = false_from_ne_true _ (λ is. let same : n ≡ high = eqb-true n high is in absurd (omega arith))

-- a link above the greatest was never opened
never_opened : (s : Setting) (k : ℕ) (h : History) → greatest_link h < k → AreStrange k s h
never_opened s k [] above = tt
never_opened s k (did.Event (event.Opened listener link from) ∷ h) above = (never_opened s k h (omega arith), inl (differs_below link k (omega arith)))
never_opened s k (did.Event (event.Joined uplink link at) ∷ h) above = (never_opened s k h (omega arith), differs_below link k (omega arith))
never_opened s k (did.Event e ∷ h) above = (never_opened s k h above, tt)
never_opened s k (x ∷ h) above = never_opened s k h above

module _ (s : Setting) (u : Option ℕ) (submits : IfSome u (λ n. kind_at s n ≡ Some kind.Submit)) (k : ℕ) where
  submits_at : (n : ℕ) → u ≡ Some n → kind_at s n ≡ Some kind.Submit
  submits_at n is = subst (λ port. IfSome port (λ m. kind_at s m ≡ Some kind.Submit)) is submits

  -- one that was opened where datagrams come was opened nowhere else
  pub opened_strange : (h : History) → HasFreshLinks h → opened_at u h k ≡ true → AreStrange k s h
  opened_strange [] fresh opened = absurd (true≢false (sym opened))
  opened_strange (did.Event (event.Opened listener link from) ∷ h) fresh opened = of (opened_strange h fresh.0) (cases_Bool (is_at u listener && link == k))
    where
      of : (opened_at u h k ≡ true → AreStrange k s h) → ((is_at u listener && link == k) ≡ true) ⊎ ((is_at u listener && link == k) ≡ false) → AreStrange k s (did.Event (event.Opened listener link from) ∷ h)
      of earlier (inl is) =
          let parts = and_parts (is_at u listener) (link == k) is in
          (never_opened s k h (subst (λ n. greatest_link h < n) (eqb-true link k parts.1) fresh.1), inr (inr (submits_at listener (at_is u listener parts.0))))
      of earlier (inr other) =
          let before : opened_at u h k ≡ true = sym (ap (λ b. is_some (if b then Some from else opened_from u h k)) other) ∙ opened in
          let within = opened_within u k h before in
          let above = fresh.1 in
          (earlier before, inl (differs_above k link (omega arith)))
  opened_strange (did.Event (event.Joined uplink link at) ∷ h) fresh opened =
      let within = opened_within u k h opened in
      let above = fresh.1 in
      (opened_strange h fresh.0 opened, differs_above k link (omega arith))
  opened_strange (did.Event e ∷ h) fresh opened = (opened_strange h fresh.0 opened, tt)
  opened_strange (x ∷ h) fresh opened = opened_strange h fresh opened

-- ---- no such link is served

-- in a run nothing is of a link that is opened on no port for clients
others_all : (s : Setting) (k : ℕ) (h : History) → AreStrange k s h → IsRun s h → Each (IsOfOther k) h
others_all s k [] strange run = tt
others_all s k (did.Event e ∷ h) strange run = (tt, others_all s k h strange.0 run.0)
others_all s k (x ∷ h) strange run = (others_come k (due s h) (is_stopped h) x (others_due k s h strange) run.1, others_all s k h strange run.0)

module _ (u : Option ℕ) (h : History) where
  never_opened_there : (k : ℕ) → (opened_at u h k ≡ true → (k == k) ≡ false) → opened_at u h k ≡ false
  never_opened_there k other = false_from_ne_true (opened_at u h k) (λ is. true≢false (sym (eq-eqb k k refl) ∙ other is))

  none_to : (xs : List Happening) → ((k : ℕ) → opened_at u h k ≡ true → Each (IsOfOther k) xs) → Each (IsNotTo u h) xs
  none_to [] all = tt
  none_to (did.Sent link bytes outcome ∷ xs) all = (never_opened_there link (λ is. (all link is).0), none_to xs (λ k is. (all k is).1))
  none_to (did.Closed link ∷ xs) all = (never_opened_there link (λ is. (all link is).0), none_to xs (λ k is. (all k is).1))
  none_to (x ∷ xs) all = (tt, none_to xs (λ k is. (all k is).1))

pub each_not_to : (s : Setting) (h : History) (u : Option ℕ) → IfSome u (λ n. kind_at s n ≡ Some kind.Submit) → IsRun s h → HasFreshLinks h → Each (IsNotTo u h) h
each_not_to s h u submits run fresh = none_to u h h (λ k is. others_all s k h (opened_strange s u submits k h fresh is) run)

pub none_is_served_there : NoneIsServedThere
none_is_served_there s h u submits run fresh = All-from_recursion (IsNotTo (Some u) h) h (each_not_to s h (Some u) submits run fresh)
