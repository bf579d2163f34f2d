-- What links take is a prefix of their texts, no text has its link's own packets, and closes have reasons.
use Rattle.std.proofs.Common.{◌≡◌, ◌≢◌, ℕ, ◌+◌, ◌-◌, ◌≤◌, ◌<◌, ◌==◌, Bool, true, false, List, [], ◌∷◌, ◌++◌, take, drop, length, min, refl, sym, ap, ◌∙◌, subst, arith, IfSome, Option, Some, None, ⊎_elim, ◌⊎◌, inl, inr, append-nil, append_assoc, length-append, length-take, length-drop, eq-eqb, cond, ◌&&◌, ◌||◌, not, is_some, if◌then◌else◌}
use Rattle.std.specs.Bool.{⊤}
use Rattle.std.specs.List.{All}
use Rattle.std.proofs.lemmas.Bool.{eqb-true, cases_Bool, true≢false}
use Rattle.std.proofs.lemmas.List.{map-append, take-append-le, take-append-drop, take-take, drop-take}
use Rattle.std.proofs.lemmas.List.Elements.{All-from_recursion, recursion_from_All, All-nil, All-cons, All-append}
use Rattle.std.proofs.lemmas.Grind.{flat_map-append}
use Rattle.aprs_base.specs.Outside.{new_link}
use Rattle.aprs_base.specs.declared.packets.Source.{Source}
use Rattle.aprs_base.specs.declared.packets.Source.TheVariants as source
use Rattle.aprs_base.specs.declared.events.Event.{Event}
use Rattle.aprs_base.specs.declared.events.Sent.{Sent}
use Rattle.aprs_base.specs.declared.events.Sent.TheVariants as sent
use Rattle.aprs_base.specs.declared.events.Happening.TheVariants as did
use Rattle.aprs_history.specs.declared.verdicts.FilterAnswer.{FilterAnswer}
use Rattle.aprs_history.specs.declared.verdicts.Verdict.{Verdict}
use Rattle.aprs_history.specs.declared.verdicts.Verdict.TheVariants.{PassedOver, Refused, LoggedIn, Filtered, Accepted}
use Rattle.aprs_history.specs.declared.verdicts.LinkKind.TheVariants.{Client, Uplink}
use Rattle.aprs_history.specs.declared.verdicts.Refusal.{Refusal}
use Rattle.aprs_history.specs.declared.verdicts.Refusal.TheVariants as refusal
use Rattle.aprs_history.specs.Setting.{Setting}
use Rattle.aprs_history.specs.declared.verdicts.Admission.{Admission}
use Rattle.aprs_history.specs.declared.verdicts.Admission.TheVariants.{Served}
use Rattle.aprs_history.specs.Trace.{Trace, Entry, RoundBegan, Dated, Opened, Said, Took, Lost, Ended, is_closing, is_from, is_live, is_member, closed_links, moment_of, placed}
use Rattle.aprs_history.specs.Links.{is_client, is_submitted, opening_of, session_of, taken_by}
use Rattle.aprs_history.specs.Messages.{is_asked}
use Rattle.aprs_history.specs.Scenes.{packet_of}
use Rattle.aprs_history.specs.Sights.{filter_passes}
use Rattle.link_queue.specs.Lines.{ended_line, text_bytes}
use Rattle.aprs_history.specs.Texts.{Text, TextLine, added_by, comment_line, opening_wants, shows_duplicates, first_line, first_lines, is_shown, most_waiting, waiting_lines, with_text_line, with_text_lines, filter_reply, lines_of, login_filter_reply, login_reply, plain, plain_line, refusal_reply, refused_lines, relayed, reply_lines, reply_of, shown, text_to, untaken, wants}
use Rattle.aprs_history.specs.History.{History, ends_round, greater_link, greatest_link, is_stopped, open_events, trace_of}
use Rattle.aprs_history.specs.Acts.{IsRun, but_first, due}
use Rattle.aprs_history.specs.Headline.{HasEnded, is_round_start, HasFreshLinks, IsOfAnother, LinksTakePrefixes, NoneHearThemselves, ClosesHaveReasons, taken_bytes}
use Rattle.aprs_history.proofs.EntryLemmas.{MayAdd, any_link, kept_after}
use Rattle.aprs_history.proofs.DueLemmas.{OffersStand, closed_due, closes_stand, offers_after, offers_listens, offers_next, sent_due, serves}
use Rattle.aprs_history.proofs.NumberLemmas.{differs_above, member_placed}

-- ---- bytes that are taken of a text

-- what is taken is as many bytes of the text
abbrev Takes : List ℕ → ℕ → List (List ℕ) → Type 0
Takes bytes n lines = (bytes ≡ take n (text_bytes lines)) × (n ≤ length (text_bytes lines))

takes_nothing : (lines : List (List ℕ)) → Takes [] 0 lines
takes_nothing lines = (refl, omega arith)

-- a text that grows
takes_longer : (bytes : List ℕ) (n : ℕ) (lines more : List (List ℕ)) → Takes bytes n lines → Takes bytes n (lines ++ more)
takes_longer bytes n lines more takes =
    let split : text_bytes (lines ++ more) ≡ text_bytes lines ++ text_bytes more = flat_map-append ended_line lines more in
    let longer : length (text_bytes (lines ++ more)) ≡ length (text_bytes lines) + length (text_bytes more) = ap length split ∙ length-append (text_bytes lines) (text_bytes more) in
    let le = takes.1 in
    (takes.0 ∙ sym (ap (take n) split ∙ take-append-le n (text_bytes lines) (text_bytes more) le), omega arith)

-- some of the next bytes
takes_next : (n m : ℕ) (text : List ℕ) → take n text ++ take m (drop n text) ≡ take (n + m) text
takes_next n m text =
    ap (λ bytes. bytes ++ take m (drop n text)) (sym (take-take n (n + m) text (omega arith)))
    ∙ ap (λ bytes. take n (take (n + m) text) ++ bytes) (sym (drop-take n m text))
    ∙ take-append-drop n (take (n + m) text)

takes_sent : (bytes given : List ℕ) (n m : ℕ) (lines : List (List ℕ)) → Takes bytes n lines → given ≡ take (length given) (drop n (text_bytes lines)) → m ≤ length given
    → Takes (bytes ++ take m given) (n + m) lines
takes_sent bytes given n m lines takes is some =
    let text = text_bytes lines in
    let offered : length given ≡ min (length given) (length text - n) = ap length is ∙ length-take (length given) (drop n text) ∙ ap (min (length given)) (length-drop n text) in
    let within = takes.1 in (
      ap (λ taken. taken ++ take m given) takes.0
          ∙ ap (λ next. take n text ++ next) (ap (take m) is ∙ take-take m (length given) (drop n text) (omega arith))
          ∙ takes_next n m text,
      omega arith,
    )

-- ---- a text only grows, but where its link is opened anew

-- the lines that fit are added
lines_added : (taken : ℕ) (lines : List TextLine) (text : Text) → (more : List TextLine) × ((with_text_lines taken lines text).lines ≡ text.lines ++ more)
lines_added taken [] text = ([], sym (append-nil text.lines))
lines_added taken (line ∷ lines) text =
    let first = line_added text.over (waiting_lines text taken == most_waiting) in
    let later = lines_added taken lines (with_text_line taken line text) in
    (first.0 ++ later.0, later.1 ∙ ap (λ before. before ++ later.0) first.1 ∙ append_assoc text.lines first.0 later.0)
  where
    line_added : (over full : Bool) → (more : List TextLine) × ((if over then text else if full then record text { over = true } else record text { lines = text.lines ++ line ∷ [] }).lines ≡ text.lines ++ more)
    line_added true full = ([], sym (append-nil text.lines))
    line_added false true = ([], sym (append-nil text.lines))
    line_added false false = (line ∷ [], refl)

abbrev Grown : Setting → Trace → ℕ → Trace → Type 0
Grown s t link u = (more : List (List ℕ)) × (lines_of s u link ≡ lines_of s t link ++ more) × (taken_by u link ≡ taken_by t link)

module _ (s : Setting) (h : History) (t : Trace) (link : ℕ) where
  grown_lines : (u : Trace) (taken : ℕ) (lines : List TextLine) (entry : Entry) → text_to s (entry ∷ u) link ≡ with_text_lines taken lines (text_to s u link) → taken_by (entry ∷ u) link ≡ taken_by u link
      → Grown s t link u → Grown s t link (entry ∷ u)
  grown_lines u taken lines entry text same grown =
      let added = lines_added taken lines (text_to s u link) in (
        grown.0 ++ plain added.0,
        ap (λ (x : Text). plain x.lines) text ∙ ap plain added.1 ∙ map-append plain_line (text_to s u link).lines added.0 ∙ ap (λ lines. lines ++ plain added.0) grown.1
            ∙ append_assoc (lines_of s t link) grown.0 (plain added.0),
        same ∙ grown.2,
      )

  grown_by : (u : Trace) (entry : Entry) → MayAdd s h (λ k. (link == k) ≡ false) u entry → Grown s t link u → Grown s t link (entry ∷ u)
  grown_by u (Opened door admission opened from) may grown = rw may grown
  grown_by u (Said from cut verdict) may grown = grown_lines u (taken_by u link) (added_by s u from verdict link) (Said from cut verdict) refl refl grown
  grown_by u (Dated moment) may grown = grown_lines u (taken_by u link) (if is_client u link then comment_line s.server moment ∷ [] else []) (Dated moment) refl refl grown
  grown_by u (Took by offered taken) may grown = absurd may
  grown_by u (Lost lost) may grown = absurd may
  grown_by u entry may grown = grown

  grown_same : Grown s t link t
  grown_same = ([], sym (append-nil (lines_of s t link)), refl)

-- a link has taken nothing, and an event lets it take nothing
abbrev HasNone : ℕ → Trace → Type 0
HasNone link t = taken_by t link ≡ 0

none_by : (s : Setting) (h : History) (link : ℕ) (u : Trace) (entry : Entry) → MayAdd s h (λ k. ⊤) u entry → HasNone link u → HasNone link (entry ∷ u)
none_by s h link u (Opened door admission opened from) may none = of (link == opened)
  where
    of : (b : Bool) → (if b then 0 else taken_by u link) ≡ 0
    of true = refl
    of false = none
none_by s h link u (Took by offered taken) may none = absurd may
none_by s h link u (Lost lost) may none = absurd may
none_by s h link u entry may none = none

-- ---- what every run keeps

record Kept (s : Setting) (h : History) : Type 0 where
  takes : (link : ℕ) → Takes (taken_bytes h link) (taken_by (trace_of s h) link) (lines_of s (trace_of s h) link)
  none : (link : ℕ) → greatest_link h < link → HasNone link (trace_of s h)
  offers : OffersStand (untaken s (trace_of s h)) 0 (due s h) (greatest_link h)

is_new : (new : Option ℕ) (high link : ℕ) → IfSome new (λ k. high < k) → IfSome new (λ k. (link == k) ≡ false) ⊎ (high < link)
is_new None high link fresh = inl tt
is_new (Some k) high link fresh = ⊎_elim (λ here. inr (let same : link ≡ k = eqb-true link k here in subst (λ n. high < n) (sym same) fresh)) (λ other. inl other) (cases_Bool (link == k))

still_above : (new : Option ℕ) (high link : ℕ) → greater_link new high < link → high < link
still_above None high link above = above
still_above (Some k) high link above = omega arith

module _ (s : Setting) (h : History) (e : Event) (kept : Kept s h) where
  none_after : (link : ℕ) → greatest_link h < link → HasNone link (trace_of s (did.Event e ∷ h))
  none_after link above = kept_after s h e (λ k. ⊤) (HasNone link) (none_by s (did.Event e ∷ h) link) (λ t k stopped none. none) (any_link (new_link e)) (kept.none link above)

  grown_after : (link : ℕ) → IfSome (new_link e) (λ k. (link == k) ≡ false) → Grown s (trace_of s h) link (trace_of s (did.Event e ∷ h))
  grown_after link other =
      let t = trace_of s h in
      kept_after s h e (λ k. (link == k) ≡ false) (Grown s t link) (grown_by s (did.Event e ∷ h) t link) (λ u k stopped grown. grown) other (grown_same s h t link)

  takes_after : (link : ℕ) → IfSome (new_link e) (λ k. (link == k) ≡ false) ⊎ (greatest_link h < link)
      → Takes (taken_bytes h link) (taken_by (trace_of s (did.Event e ∷ h)) link) (lines_of s (trace_of s (did.Event e ∷ h)) link)
  takes_after link (inl other) =
      let grown = grown_after link other in
      subst (λ n. Takes (taken_bytes h link) n (lines_of s (trace_of s (did.Event e ∷ h)) link)) (sym grown.2)
      (subst (Takes (taken_bytes h link) (taken_by (trace_of s h) link)) (sym grown.1)
      (takes_longer (taken_bytes h link) (taken_by (trace_of s h) link) (lines_of s (trace_of s h) link) grown.0 (kept.takes link)))
  takes_after link (inr above) =
      let before = kept.takes link in
      let nothing : taken_bytes h link ≡ [] = before.0 ∙ ap (λ n. take n (text_bytes (lines_of s (trace_of s h) link))) (kept.none link above) in
      subst (λ n. Takes (taken_bytes h link) n (lines_of s (trace_of s (did.Event e ∷ h)) link)) (sym (none_after link above))
      (subst (λ bytes. Takes bytes 0 (lines_of s (trace_of s (did.Event e ∷ h)) link)) (sym nothing) (takes_nothing (lines_of s (trace_of s (did.Event e ∷ h)) link)))

kept_event : (s : Setting) (h : History) (e : Event) → IsRun s (did.Event e ∷ h) → HasFreshLinks (did.Event e ∷ h) → Kept s h → Kept s (did.Event e ∷ h)
unfolding due
kept_event s h e run fresh kept = record {
  takes = λ link. takes_after s h e kept link (is_new (new_link e) (greatest_link h) link fresh.1);
  none = λ link above. none_after s h e kept link (still_above (new_link e) (greatest_link h) link above);
  offers = offers_after s (trace_of s (did.Event e ∷ h)) (ends_round (open_events h) e) (greatest_link (did.Event e ∷ h)) (serves s (did.Event e ∷ h) run fresh).1;
}

takes_gone : (b : Bool) (bytes : List ℕ) (n : ℕ) (lines : List (List ℕ)) → Takes bytes n lines → Takes (if b then bytes ++ [] else bytes) n lines
takes_gone true bytes n lines takes = subst (λ taken. Takes taken n lines) (sym (append-nil bytes)) takes
takes_gone false bytes n lines takes = takes

kept_sent : (s : Setting) (h : History) (to : ℕ) (bytes : List ℕ) (outcome : Sent) → IsRun s (did.Sent to bytes outcome ∷ h) → Kept s h → Kept s (did.Sent to bytes outcome ∷ h)
unfolding trace_of due
kept_sent s h to bytes (sent.Took n) run kept =
    let t = trace_of s h in
    let sends = sent_due s t (due s h) (is_stopped h) to bytes (sent.Took n) (greatest_link h) run.1 kept.offers in
    let within = sends.within in
    record {
      takes = λ link. ⊎_elim
          (λ here. let same : link ≡ to = eqb-true link to here in
          rw here (takes_sent (taken_bytes h link) bytes (taken_by t link) n (lines_of s t link) (kept.takes link) (sends.next ∙ ap (λ k. take (length bytes) (untaken s t k)) (sym same)) sends.part))
          (λ other. rw other (kept.takes link))
          (cases_Bool (link == to));
      none = λ link above. rw (differs_above to link (omega arith)) (kept.none link above);
      offers = sends.later;
    }
kept_sent s h to bytes sent.Gone run kept = record {
  takes = λ link. takes_gone (link == to) (taken_bytes h link) (taken_by (trace_of s h) link) (lines_of s (trace_of s h) link) (kept.takes link);
  none = kept.none;
  offers = (sent_due s (trace_of s h) (due s h) (is_stopped h) to bytes sent.Gone (greatest_link h) run.1 kept.offers).later;
}

kept : (s : Setting) (h : History) → IsRun s h → HasFreshLinks h → Kept s h
unfolding trace_of due
kept s [] run fresh = record { takes = λ link. takes_nothing []; none = λ link above. refl; offers = offers_listens s [] 0 s.listens 0 }
kept s (did.Event e ∷ h) run fresh = kept_event s h e run fresh (kept s h run.0 fresh.0)
kept s (did.Sent link bytes outcome ∷ h) run fresh = kept_sent s h link bytes outcome run (kept s h run.0 fresh)
kept s (happening ∷ h) run fresh =
    let before = kept s h run.0 fresh in
    record { takes = before.takes; none = before.none; offers = offers_next s (trace_of s h) happening (due s h) (is_stopped h) (greatest_link h) tt run.1 before.offers }

pub links_take_prefixes : LinksTakePrefixes
links_take_prefixes s h run fresh link =
    let takes = (kept s h run fresh).takes link in
    let n = taken_by (trace_of s h) link in
    let text = text_bytes (lines_of s (trace_of s h) link) in
    sym (ap (λ bytes. bytes ++ drop n text) takes.0 ∙ take-append-drop n text)

-- ---- what holds of each line of a text

module _ (P : TextLine → Type 0) where
  pub line_alone : (line : TextLine) → P line → All P (line ∷ [])
  line_alone line p = All-cons P line [] p (All-nil P)

  pub if_all : (b : Bool) (lines : List TextLine) → (b ≡ true → All P lines) → All P (if b then lines else [])
  if_all true lines all = all refl
  if_all false lines all = All-nil P

  pub lines_all : (taken : ℕ) (lines : List TextLine) (text : Text) → All P lines → All P text.lines → All P (with_text_lines taken lines text).lines
  lines_all taken [] text all before = before
  lines_all taken (line ∷ lines) text all before =
      let parts = recursion_from_All P (line ∷ lines) all in
      lines_all taken lines (with_text_line taken line text) (All-from_recursion P lines parts.1) (of text.over (waiting_lines text taken == most_waiting) parts.0)
    where
      of : (over full : Bool) → P line → All P (if over then text else if full then record text { over = true } else record text { lines = text.lines ++ line ∷ [] }).lines
      of true full first = before
      of false true first = before
      of false false first = All-append P text.lines (line ∷ []) before (line_alone line first)

-- ---- no link's own packets

module _ (s : Setting) (link : ℕ) where
  reply_alone : (line : List ℕ) → All (IsOfAnother link) (reply_of line ∷ [])
  reply_alone line = line_alone (IsOfAnother link) (reply_of line) tt

  replies_all : (reply : Option (List ℕ)) → All (IsOfAnother link) (reply_lines reply)
  replies_all None = All-nil (IsOfAnother link)
  replies_all (Some line) = reply_alone line

  login_filter_all : (answer : Option FilterAnswer) → All (IsOfAnother link) (login_filter_reply answer)
  login_filter_all None = All-nil (IsOfAnother link)
  login_filter_all (Some answer) = reply_alone (filter_reply answer)

  first_all : (admission : Admission) → All (IsOfAnother link) (first_lines s admission)
  first_all (Served (Client port)) = line_alone (IsOfAnother link) (first_line s (Client port)) tt
  first_all (Served (Uplink uplink)) = line_alone (IsOfAnother link) (first_line s (Uplink uplink)) tt
  first_all admission = All-nil (IsOfAnother link)

  -- only what comes from another passes such a test
  not_own : (from : Source) (live others : Bool) → (not (is_from link from) && live && others) ≡ true → from ≢ source.Link link
  not_own from live others is own =
      true≢false (sym is ∙ ap (λ by. not (is_from link by) && live && others) own ∙ ap (λ b. not b && live && others) (eq-eqb link link refl))

  refused_all : (t : Trace) (from : Source) (why : Refusal) → All (IsOfAnother link) (refused_lines t from why link)
  refused_all t from (refusal.Duplicate parts line) =
      let packet = packet_of from (moment_of t) parts line in
      if_all (IsOfAnother link) (is_shown t from link) (shown packet ∷ [])
      (λ is. line_alone (IsOfAnother link) (shown packet) (not_own from (is_live t link) (shows_duplicates (opening_of t link) (session_of t link)) is))
  refused_all t from (refusal.Login why) = if_all (IsOfAnother link) (is_from link from) (reply_lines (refusal_reply (refusal.Login why))) (λ is. replies_all (refusal_reply (refusal.Login why)))
  refused_all t from refusal.OwnName = if_all (IsOfAnother link) (is_from link from) (reply_lines (refusal_reply refusal.OwnName)) (λ is. replies_all (refusal_reply refusal.OwnName))
  refused_all t from other = if_all (IsOfAnother link) (is_from link from) [] (λ is. All-nil (IsOfAnother link))

  added_all : (t : Trace) (from : Source) (verdict : Verdict) → All (IsOfAnother link) (added_by s t from verdict link)
  added_all t from PassedOver = All-nil (IsOfAnother link)
  added_all t from (Refused why) = refused_all t from why
  added_all t from (LoggedIn session answer) =
      let reply = reply_of (login_reply s.server session) in
      if_all (IsOfAnother link) (is_from link from) (reply ∷ login_filter_reply answer) (λ is. All-cons (IsOfAnother link) reply (login_filter_reply answer) tt (login_filter_all answer))
  added_all t from (Filtered answer) = if_all (IsOfAnother link) (is_from link from) (reply_of (filter_reply answer) ∷ []) (λ is. reply_alone (filter_reply answer))
  added_all t from (Accepted parts line) =
      let packet = packet_of from (moment_of t) parts line in
      let named = is_some (session_of t link) in
      if_all (IsOfAnother link) (wants t packet link) (relayed packet ∷ [])
      (λ is. line_alone (IsOfAnother link) (relayed packet)
      (not_own from (is_live t link) (opening_wants (opening_of t link) named (is_submitted t from) (filter_passes t packet link || is_asked t packet link)) is))

  text_all : (t : Trace) → All (IsOfAnother link) (text_to s t link).lines
  text_all [] = All-nil (IsOfAnother link)
  text_all (Opened door admission opened from ∷ t) = of (link == opened) (text_all t)
    where
      of : (b : Bool) → All (IsOfAnother link) (text_to s t link).lines → All (IsOfAnother link) (if b then record { lines = first_lines s admission; over = false } else text_to s t link).lines
      of true before = first_all admission
      of false before = before
  text_all (Said from cut verdict ∷ t) = lines_all (IsOfAnother link) (taken_by t link) (added_by s t from verdict link) (text_to s t link) (added_all t from verdict) (text_all t)
  text_all (Dated moment ∷ t) =
      let comment = comment_line s.server moment in
      lines_all (IsOfAnother link) (taken_by t link) (if is_client t link then comment ∷ [] else []) (text_to s t link)
      (if_all (IsOfAnother link) (is_client t link) (comment ∷ []) (λ is. line_alone (IsOfAnother link) comment tt)) (text_all t)
  text_all (entry ∷ t) = text_all t

pub none_hear_themselves : NoneHearThemselves
none_hear_themselves s t link = text_all s link t

-- ---- closes

ended_before : (t : Trace) (link : ℕ) (entry : Entry) → is_round_start entry ≡ false → HasEnded t link → HasEnded (entry ∷ t) link
ended_before t link entry same ended = record {
  later = entry ∷ ended.later;
  earlier = ended.earlier;
  reason = ended.reason;
  split = ap (λ u. entry ∷ u) ended.split;
  same_round = rw same ended.same_round;
  closing = ended.closing;
}

-- the links to be closed have ended by such a reason
has_ended : (t : Trace) (link : ℕ) → is_member link (closed_links t) ≡ true → HasEnded t link
has_ended [] link member = absurd (true≢false (sym member))
has_ended (RoundBegan ∷ t) link member = absurd (true≢false (sym member))
has_ended (Ended ended reason ∷ t) link member =
    ⊎_elim
    (λ closes.
    let placed_member : is_member link (placed ended (closed_links t)) ≡ true = sym (ap (λ b. is_member link (cond b (placed ended (closed_links t)) (closed_links t))) closes) ∙ member in
    let either = member_placed link ended (closed_links t) placed_member in
    ⊎_elim
    (λ here. let same : ended ≡ link = eqb-true ended link here in
    record { later = []; earlier = t; reason = reason; split = ap (λ k. Ended k reason ∷ t) same; same_round = refl; closing = closes })
    (λ other. ended_before t link (Ended ended reason) refl (has_ended t link (sym (ap (λ b. b || is_member link (closed_links t)) other) ∙ either)))
    (cases_Bool (ended == link)))
    (λ stays. ended_before t link (Ended ended reason) refl (has_ended t link (sym (ap (λ b. is_member link (cond b (placed ended (closed_links t)) (closed_links t))) stays) ∙ member)))
    (cases_Bool (is_closing reason))
has_ended (entry ∷ t) link member = ended_before t link entry refl (has_ended t link member)

pub run_before : (s : Setting) (later earlier : History) → IsRun s (later ++ earlier) → IsRun s earlier
run_before s [] earlier run = run
run_before s (x ∷ later) earlier run = run_before s later earlier run.0

pub closes_have_reasons : ClosesHaveReasons
closes_have_reasons s later earlier link run =
    let came = run_before s later (did.Closed link ∷ earlier) run in
    has_ended (trace_of s earlier) link (closed_due (closed_links (trace_of s earlier)) (due s earlier) (is_stopped earlier) link came.1 (closes_stand s earlier))
