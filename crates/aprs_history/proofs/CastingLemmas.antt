-- What is cast to a peer are the packets that were submitted here.
use Rattle.std.proofs.Common.{◌≡◌, ℕ, ◌+◌, ◌<◌, ◌≤◌, ◌==◌, Bool, true, false, List, [], ◌∷◌, ◌++◌, length, take, map, refl, sym, ap, ◌∙◌, arith, Option, Some, None, eq-eqb, append-nil, append_assoc, if◌then◌else◌, ⊎_elim}
use Rattle.std.specs.Bool.{⊤}
use Rattle.std.proofs.lemmas.List.{map-append}
use Rattle.std.proofs.lemmas.Bool.{cases_Bool, eqb-true, true≢false}
use Rattle.aprs_base.specs.declared.events.Event.{Event}
use Rattle.aprs_base.specs.declared.events.Sent.TheVariants as sent
use Rattle.aprs_base.specs.declared.events.Happening.{Happening}
use Rattle.aprs_base.specs.declared.events.Happening.TheVariants as did
use Rattle.aprs_base.specs.declared.packets.ListenSpec.{ListenSpec}
use Rattle.link_queue.specs.Lines.{ended_line}
use Rattle.aprs_history.specs.declared.verdicts.Verdict.{Verdict}
use Rattle.aprs_history.specs.declared.verdicts.Verdict.TheVariants.{PassedOver, Refused, LoggedIn, Filtered, Accepted}
use Rattle.aprs_history.specs.Setting.{Peer, Setting}
use Rattle.aprs_history.specs.Trace.{Trace, RoundBegan, Said, closed_links}
use Rattle.aprs_history.specs.Links.{is_submitted}
use Rattle.aprs_history.specs.Dials.{cast_by, casts_of, casts_to, dial_of}
use Rattle.aprs_history.specs.Downs.{DownSeen, down_of, whole_lines}
use Rattle.aprs_history.specs.Texts.{untaken}
use Rattle.aprs_history.specs.History.{History, ends_round, is_stopped, open_events, trace_of}
use Rattle.aprs_history.specs.Acts.{Act, Listens, Casts, SendsLine, Closes, Fulfils, IsRun, MayCome, acts_after, all_offers, but_first, cast_act, dials, due, listens_from, offered_links, offers_by, offers_to}
use Rattle.aprs_history.specs.Casting.{SubmissionsAreCast, casts_to_peer, submitted_line, submitted_lines}
use Rattle.aprs_history.proofs.RoundLemmas.{before_round, border_event}

-- ---- before and since the last round began

abbrev before_last : Trace → List (List ℕ)
before_last t = submitted_lines (before_round t)

abbrev since_last : Trace → List (List ℕ)
since_last [] = []
since_last (RoundBegan ∷ t) = []
since_last (Said from said verdict ∷ t) = since_last t ++ submitted_line (is_submitted t from) verdict
since_last (entry ∷ t) = since_last t

both : (t : Trace) → submitted_lines t ≡ before_last t ++ since_last t
both [] = refl
both (RoundBegan ∷ t) = sym (append-nil (submitted_lines t))
both (Said from said verdict ∷ t) =
    ap (λ lines. lines ++ submitted_line (is_submitted t from) verdict) (both t) ∙ append_assoc (before_last t) (since_last t) (submitted_line (is_submitted t from) verdict)
both (entry ∷ t) = both t

border_lines : (s : Setting) (h : History) (e : Event) → before_last (trace_of s (did.Event e ∷ h)) ≡ (if open_events h == 0 then submitted_lines (trace_of s h) else before_last (trace_of s h))
border_lines s h e = ap submitted_lines (border_event s h e) ∙ of (open_events h == 0) (trace_of s h)
  where
    of : (b : Bool) (t : Trace) → submitted_lines (if b then t else before_round t) ≡ (if b then submitted_lines t else before_last t)
    of true t = refl
    of false t = refl

-- ---- the casts of acts

abbrev cast_lines : ℕ → List Act → List (List ℕ)
cast_lines peer [] = []
cast_lines peer (Casts to bytes ∷ acts) = if to == peer then bytes ∷ cast_lines peer acts else cast_lines peer acts
cast_lines peer (act ∷ acts) = cast_lines peer acts

-- no event, and no cast
abbrev IsOther : Happening → Type 0
IsOther (did.Event e) = ⊥
IsOther (did.Cast peer bytes) = ⊥
IsOther x = ⊤

no_cast : (to : ℕ) (bytes : List ℕ) (x : Happening) → IsOther x → Fulfils (Casts to bytes) x → ⊥
no_cast to bytes (did.Event e) other may = other
no_cast to bytes (did.Cast peer given) other may = other
no_cast to bytes x other may = may

goes_on : (n : ℕ) → (n + 1 == 0) ≡ false
goes_on n = grind arith

module _ (peer : ℕ) where
  lines_both : (xs ys : List Act) → cast_lines peer (xs ++ ys) ≡ cast_lines peer xs ++ cast_lines peer ys
  lines_both [] ys = refl
  lines_both (Casts to bytes ∷ xs) ys = of (to == peer) (lines_both xs ys)
    where
      of : (b : Bool) → cast_lines peer (xs ++ ys) ≡ cast_lines peer xs ++ cast_lines peer ys
          → (if b then bytes ∷ cast_lines peer (xs ++ ys) else cast_lines peer (xs ++ ys)) ≡ (if b then bytes ∷ cast_lines peer xs else cast_lines peer xs) ++ cast_lines peer ys
      of true later = ap (λ lines. bytes ∷ lines) later
      of false later = later
  lines_both (act ∷ xs) ys = lines_both xs ys

  no_sends : (k : ℕ) (lines : List (List ℕ)) → cast_lines peer (map (SendsLine k) lines) ≡ []
  no_sends k [] = refl
  no_sends k (line ∷ lines) = no_sends k lines

  no_offer : (down : Option DownSeen) (k : ℕ) (bytes : List ℕ) → cast_lines peer (offers_by down k bytes) ≡ []
  no_offer None k bytes = refl
  no_offer (Some down) k bytes = no_sends k (whole_lines bytes)

  no_offers : (s : Setting) (t : Trace) (ks : List ℕ) → cast_lines peer (all_offers s t ks) ≡ []
  no_offers s t [] = refl
  no_offers s t (k ∷ ks) =
      lines_both (offers_to s t k) (all_offers s t ks) ∙ ap (λ lines. lines ++ cast_lines peer (all_offers s t ks)) (no_offer (down_of s t k) k (take 65536 (untaken s t k))) ∙ no_offers s t ks

  no_closes : (ks : List ℕ) → cast_lines peer (map Closes ks) ≡ []
  no_closes [] = refl
  no_closes (k ∷ ks) = no_closes ks

  no_listens : (n : ℕ) (specs : List ListenSpec) → cast_lines peer (listens_from n specs) ≡ []
  no_listens n [] = refl
  no_listens n (spec ∷ specs) = no_listens (n + 1) specs

  no_dials : (dial : Option ℕ) (acts : List Act) → cast_lines peer (dials dial ++ acts) ≡ cast_lines peer acts
  no_dials None acts = refl
  no_dials (Some uplink) acts = refl

  acts_cast : (s : Setting) (t : Trace) → cast_lines peer (acts_after s t) ≡ cast_lines peer (map cast_act (casts_of s t))
  acts_cast s t =
      let casts = map cast_act (casts_of s t) in
      let offers = all_offers s t (offered_links s t) in
      let closes = map Closes (closed_links t) in
      no_dials (dial_of s t) (casts ++ (offers ++ closes))
      ∙ lines_both casts (offers ++ closes)
      ∙ ap (λ lines. cast_lines peer casts ++ lines) (lines_both offers closes ∙ ap (λ lines. lines ++ cast_lines peer closes) (no_offers s t (offered_links s t)) ∙ no_closes (closed_links t))
      ∙ append-nil (cast_lines peer casts)

  none_above : (n : ℕ) (peers : List Peer) (line : List ℕ) → peer < n → cast_lines peer (map cast_act (casts_to n peers line)) ≡ []
  none_above n [] line lt = refl
  none_above n (p ∷ peers) line lt =
      ap (λ b. if b then ended_line line ∷ cast_lines peer (map cast_act (casts_to (n + 1) peers line)) else cast_lines peer (map cast_act (casts_to (n + 1) peers line))) (above n lt)
      ∙ none_above (n + 1) peers line (omega arith)
    where
      above : (n : ℕ) → peer < n → (n == peer) ≡ false
      above n lt = grind arith

  once_each : (n : ℕ) (peers : List Peer) (line : List ℕ) → n ≤ peer → peer < n + length peers → cast_lines peer (map cast_act (casts_to n peers line)) ≡ ended_line line ∷ []
  once_each n [] line low high = absurd (omega arith)
  once_each n (p ∷ peers) line low high = ⊎_elim
      (λ here. ap (λ b. if b then ended_line line ∷ cast_lines peer (map cast_act (casts_to (n + 1) peers line)) else cast_lines peer (map cast_act (casts_to (n + 1) peers line))) here
      ∙ ap (λ lines. ended_line line ∷ lines) (none_above (n + 1) peers line (let same : n ≡ peer = eqb-true n peer here in omega (arith, same))))
      (λ other. ap (λ b. if b then ended_line line ∷ cast_lines peer (map cast_act (casts_to (n + 1) peers line)) else cast_lines peer (map cast_act (casts_to (n + 1) peers line))) other
      ∙ once_each (n + 1) peers line (let apart : n ≡ peer → ⊥ = λ same. true≢false (sym (eq-eqb n peer same) ∙ other) in grind (arith, apart)) (omega arith))
      (cases_Bool (n == peer))

  module _ (s : Setting) (there : peer < length s.peers) where
    said_cast : (submitted : Bool) (verdict : Verdict) → cast_lines peer (map cast_act (cast_by s.peers submitted verdict)) ≡ map ended_line (submitted_line submitted verdict)
    said_cast true (Accepted parts line) = once_each 0 s.peers line (omega arith) (omega arith)
    said_cast false (Accepted parts line) = refl
    said_cast submitted PassedOver = refl
    said_cast submitted (Refused why) = refl
    said_cast submitted (LoggedIn session answer) = refl
    said_cast submitted (Filtered answer) = refl

    lately_cast : (t : Trace) → cast_lines peer (map cast_act (casts_of s t)) ≡ map ended_line (since_last t)
    lately_cast [] = refl
    lately_cast (RoundBegan ∷ t) = refl
    lately_cast (Said from said verdict ∷ t) =
        let more = cast_by s.peers (is_submitted t from) verdict in
        ap (cast_lines peer) (map-append cast_act (casts_of s t) more)
        ∙ lines_both (map cast_act (casts_of s t)) (map cast_act more)
        ∙ ap (λ lines. lines ++ cast_lines peer (map cast_act more)) (lately_cast t)
        ∙ ap (λ lines. map ended_line (since_last t) ++ lines) (said_cast (is_submitted t from) verdict)
        ∙ sym (map-append ended_line (since_last t) (submitted_line (is_submitted t from) verdict))
    lately_cast (entry ∷ t) = lately_cast t

    -- ---- over a run

    -- up to the last round's begin, or all of it where it is over
    abbrev owed : History → List (List ℕ)
    owed h = if open_events h == 0 then submitted_lines (trace_of s h) else before_last (trace_of s h)

    -- what was cast, and what is due
    abbrev Holds : History → Type 0
    Holds h = casts_to_peer h peer ++ cast_lines peer (due s h) ≡ map ended_line (owed h)

    abbrev due_by : Bool → Trace → List Act
    due_by ends t = if ends then acts_after s t else []

    holds_event : (e : Event) (h : History) → casts_to_peer h peer ≡ map ended_line (owed h) → Holds (did.Event e ∷ h)
    unfolding due
    holds_event e h before =
        let t = trace_of s (did.Event e ∷ h) in
        ap (λ lines. lines ++ cast_lines peer (due_by (ends_round (open_events h) e) t)) (before ∙ ap (map ended_line) (sym (border_lines s h e))) ∙ of (ends_round (open_events h) e)
      where
        of : (ends : Bool) → map ended_line (before_last (trace_of s (did.Event e ∷ h))) ++ cast_lines peer (due_by ends (trace_of s (did.Event e ∷ h)))
            ≡ map ended_line (if (if ends then 0 else open_events h + 1) == 0 then submitted_lines (trace_of s (did.Event e ∷ h)) else before_last (trace_of s (did.Event e ∷ h)))
        of true =
            let t = trace_of s (did.Event e ∷ h) in
            ap (λ lines. map ended_line (before_last t) ++ lines) (acts_cast s t ∙ lately_cast t) ∙ sym (map-append ended_line (before_last t) (since_last t)) ∙ ap (map ended_line) (sym (both t))
        of false =
            let t = trace_of s (did.Event e ∷ h) in
            append-nil (map ended_line (before_last t)) ∙ ap (λ b. map ended_line (if b then submitted_lines t else before_last t)) (sym (goes_on (open_events h)))

    -- an event comes where nothing is due
    none_due : (acts : List Act) (stopped : Bool) (e : Event) → MayCome acts stopped (did.Event e) → acts ≡ []
    none_due [] stopped e may = refl
    none_due (Listens n ∷ acts) stopped e may = absurd may
    none_due (act ∷ acts) stopped e may = absurd may

    -- a cast is the first act due
    cast_first : (acts : List Act) (stopped : Bool) (to : ℕ) (bytes : List ℕ) (before : List (List ℕ)) → MayCome acts stopped (did.Cast to bytes)
        → (if to == peer then before ++ bytes ∷ [] else before) ++ cast_lines peer (but_first acts) ≡ before ++ cast_lines peer acts
    cast_first [] stopped to bytes before may = absurd may.1
    cast_first (Casts owed given ∷ acts) stopped to bytes before may =
        ap (λ k. (if k == peer then before ++ bytes ∷ [] else before) ++ cast_lines peer acts) may.0
        ∙ ap (λ b. (if owed == peer then before ++ b ∷ [] else before) ++ cast_lines peer acts) may.1 ∙ of (owed == peer)
      where
        of : (b : Bool) → (if b then before ++ given ∷ [] else before) ++ cast_lines peer acts ≡ before ++ (if b then given ∷ cast_lines peer acts else cast_lines peer acts)
        of true = append_assoc before (given ∷ []) (cast_lines peer acts)
        of false = refl
    cast_first (act ∷ acts) stopped to bytes before may = absurd may

    -- any other act has no cast
    other_first : (acts : List Act) (stopped : Bool) (x : Happening) → IsOther x → MayCome acts stopped x → cast_lines peer (but_first acts) ≡ cast_lines peer acts
    other_first [] stopped x other may = refl
    other_first (Casts to bytes ∷ acts) stopped x other may = absurd (no_cast to bytes x other may)
    other_first (act ∷ acts) stopped x other may = refl

    holds : (h : History) → IsRun s h → Holds h
    unfolding due trace_of
    holds [] run = no_listens 0 s.listens
    holds (did.Event e ∷ h) run =
        let none = none_due (due s h) (is_stopped h) e run.1 in
        holds_event e h (sym (append-nil (casts_to_peer h peer)) ∙ ap (λ acts. casts_to_peer h peer ++ cast_lines peer acts) (sym none) ∙ holds h run.0)
    holds (did.Cast to bytes ∷ h) run = cast_first (due s h) (is_stopped h) to bytes (casts_to_peer h peer) run.1 ∙ holds h run.0
    holds (did.Sent link bytes (sent.Took n) ∷ h) run =
        ap (λ lines. casts_to_peer h peer ++ lines) (other_first (due s h) (is_stopped h) (did.Sent link bytes (sent.Took n)) tt run.1) ∙ holds h run.0
    holds (did.Sent link bytes sent.Gone ∷ h) run =
        ap (λ lines. casts_to_peer h peer ++ lines) (other_first (due s h) (is_stopped h) (did.Sent link bytes sent.Gone) tt run.1) ∙ holds h run.0
    holds (did.Listen n ∷ h) run = ap (λ lines. casts_to_peer h peer ++ lines) (other_first (due s h) (is_stopped h) (did.Listen n) tt run.1) ∙ holds h run.0
    holds (did.Dialled n ∷ h) run = ap (λ lines. casts_to_peer h peer ++ lines) (other_first (due s h) (is_stopped h) (did.Dialled n) tt run.1) ∙ holds h run.0
    holds (did.Closed n ∷ h) run = ap (λ lines. casts_to_peer h peer ++ lines) (other_first (due s h) (is_stopped h) (did.Closed n) tt run.1) ∙ holds h run.0

pub submissions_are_cast : SubmissionsAreCast
submissions_are_cast s h peer run there finished nothing =
    sym (append-nil (casts_to_peer h peer)) ∙ ap (λ acts. casts_to_peer h peer ++ cast_lines peer acts) (sym nothing) ∙ holds peer s there h run
    ∙ ap (λ n. map ended_line (if n == 0 then submitted_lines (trace_of s h) else before_last (trace_of s h))) finished
