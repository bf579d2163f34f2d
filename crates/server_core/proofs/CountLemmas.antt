-- What is said is counted, as the trace counts it.
use Rattle.std.proofs.Common.{◌≡◌, ℕ, suc, ◌+◌, ◌-◌, ◌==◌, Bool, true, false, not, ◌&&◌, List, [], ◌∷◌, ◌++◌, length, map, filter, refl, sym, ap, ◌∙◌, subst, arith, Option, Some, None, ⊎_elim, append_assoc, length-append, cond, if◌then◌else◌}
use Rattle.std.proofs.Math.Bool.{and-false, and-true}
use Rattle.std.proofs.Math.Nat.{add-zero}
use Rattle.std.proofs.lemmas.Bool.{cases_Bool, true≢false}
use Rattle.std.proofs.lemmas.List.Elements.{filter-append}
use Rattle.aprs_base.specs.declared.totals.Totals.{Totals}
use Rattle.aprs_base.specs.declared.cutting.Cut.{Cut}
use Rattle.aprs_base.specs.declared.packets.Parts.{Parts}
use Rattle.aprs_base.specs.declared.packets.Source.{Source}
use Rattle.heard_routing.specs.Heard.{is_among}
use Rattle.aprs_history.specs.declared.verdicts.FilterAnswer.{FilterAnswer}
use Rattle.aprs_history.specs.declared.verdicts.FilterAnswer.TheVariants.{Active, Denied}
use Rattle.aprs_history.specs.declared.verdicts.Session.{Session}
use Rattle.aprs_history.specs.declared.verdicts.Refusal.{Refusal}
use Rattle.aprs_history.specs.declared.verdicts.Refusal.TheVariants as refusal
use Rattle.aprs_history.specs.declared.verdicts.Verdict.{Verdict}
use Rattle.aprs_history.specs.declared.verdicts.Verdict.TheVariants.{Refused, LoggedIn, Filtered, Accepted}
use Rattle.aprs_history.specs.Setting.{Setting}
use Rattle.aprs_history.specs.Trace.{Trace, Said, is_from, is_live, is_member, live_links, moment_of}
use Rattle.aprs_history.specs.Links.{is_client_link, opening_of, taken_by}
use Rattle.aprs_history.specs.Scenes.{packet_of}
use Rattle.aprs_history.specs.Messages.{is_owed, is_to_heard}
use Rattle.aprs_history.specs.Texts.{Text, TextLine, added_by, filter_reply, login_filter_reply, login_reply, most_waiting, refused_lines, refusal_reply, relayed, reply_lines, reply_of, shown, text_to, waiting_lines, with_text_line, with_text_lines}
use Rattle.aprs_history.specs.Counts.{capped, counted, is_accepted, is_duplicate, is_duplicate_refusal, is_other_refusal, is_packet_line, is_refused, packet_lines, put_in, put_to, put_to_all, totals_of}
use Rattle.aprs_history.specs.Stands.{LinkSeen, link_seen}
use Rattle.server_core.specs.LinkSteps.{answer_counted, with_accepted, with_duplicate, with_refused}
use Rattle.served_links.specs.Changes.{is_shown_at, takes_packet, takes_shown, wants_packet}
use Rattle.served_links.specs.Halves.{more}
use Rattle.server_core.proofs.FollowLemmas.{copies_seen, shows_seen, source_in}
use Rattle.server_core.proofs.MemberLemmas.{member_here}

-- ---- counters

capped_more : (k n : ℕ) → more k (capped n) ≡ capped (n + k)
capped_more k n = omega arith

capped_one : (n : ℕ) → more 1 (capped n) ≡ capped (suc n)
capped_one n = omega arith

-- ---- lines of a text

abbrev one_if : Bool → ℕ
one_if b = cond b 1 0

-- whether one more line fits
abbrev fits : ℕ → Text → Bool
fits taken text = not text.over && not (waiting_lines text taken == most_waiting)

count_one : (line : TextLine) → length (filter is_packet_line (line ∷ [])) ≡ one_if (is_packet_line line)
count_one line = ⊎_elim (λ is. rw is refl) (λ other. rw other refl) (cases_Bool (is_packet_line line))

-- a packet line more, where it fits
line_put : (taken : ℕ) (line : TextLine) (text : Text) → packet_lines (with_text_line taken line text) ≡ packet_lines text + one_if (fits taken text && is_packet_line line)
line_put taken line text =
    ⊎_elim
    (λ (over : text.over ≡ true). rw over (omega arith))
    (λ (open' : text.over ≡ false).
    ⊎_elim
    (λ (full : (waiting_lines text taken == most_waiting) ≡ true). rw (open', full) (omega arith))
    (λ (room : (waiting_lines text taken == most_waiting) ≡ false). rw (open', room)
    (ap length (filter-append is_packet_line text.lines (line ∷ [])) ∙ length-append (filter is_packet_line text.lines) (filter is_packet_line (line ∷ []))
    ∙ ap (λ n. length (filter is_packet_line text.lines) + n) (count_one line)))
    (cases_Bool (waiting_lines text taken == most_waiting)))
    (cases_Bool text.over)

-- lines that carry no packet
abbrev are_plain : List TextLine → Bool
are_plain [] = true
are_plain (line ∷ lines) = not (is_packet_line line) && are_plain lines

plain_put : (taken : ℕ) (lines : List TextLine) (text : Text) → are_plain lines ≡ true → packet_lines (with_text_lines taken lines text) ≡ packet_lines text
plain_put taken [] text plain = refl
plain_put taken (line ∷ lines) text plain = by (is_packet_line line) refl plain (plain_put taken lines (with_text_line taken line text))
  where
    now : Text
    now = with_text_line taken line text

    by : (b : Bool) → is_packet_line line ≡ b → (not b && are_plain lines) ≡ true → (are_plain lines ≡ true → packet_lines (with_text_lines taken lines now) ≡ packet_lines now)
        → packet_lines (with_text_lines taken lines now) ≡ packet_lines text
    by true is others later = absurd (true≢false (sym others))
    by false is others later =
        later others ∙ line_put taken line text
        ∙ ap (λ b. packet_lines text + one_if (fits taken text && b)) is ∙ ap (λ b. packet_lines text + one_if b) (and-false (fits taken text)) ∙ omega arith

-- a packet line, where the link wants it
wanted_put : (taken : ℕ) (line : TextLine) (text : Text) → is_packet_line line ≡ true → (wanted : Bool)
    → packet_lines (with_text_lines taken (if wanted then line ∷ [] else []) text) - packet_lines text ≡ one_if (wanted && fits taken text)
wanted_put taken line text packet true =
    ap (λ n. n - packet_lines text) (line_put taken line text ∙ ap (λ b. packet_lines text + one_if (fits taken text && b)) packet ∙ ap (λ b. packet_lines text + one_if b) (and-true (fits taken text)))
    ∙ left (packet_lines text) (one_if (fits taken text))
  where
    left : (n k : ℕ) → (n + k) - n ≡ k
    left n k = omega arith
wanted_put taken line text packet false = none (packet_lines text)
  where
    none : (n : ℕ) → n - n ≡ 0
    none n = omega arith

-- ---- lines of several texts

module _ (s : Setting) (t : Trace) (from : Source) (cut : Cut) where
  -- what adds no packet line to a text puts none
  plain_puts : (verdict : Verdict) → ((j : ℕ) → are_plain (added_by s t from verdict j) ≡ true) → (links : List ℕ) → put_to_all s (Said from cut verdict) t links ≡ 0
  plain_puts verdict plain [] = refl
  plain_puts verdict plain (j ∷ links) =
      ap (λ n. (n - packet_lines (text_to s t j)) + put_to_all s (Said from cut verdict) t links) (plain_put (taken_by t j) (added_by s t from verdict j) (text_to s t j) (plain j))
      ∙ ap (λ n. (packet_lines (text_to s t j) - packet_lines (text_to s t j)) + n) (plain_puts verdict plain links) ∙ omega arith

  -- what puts one into the texts of the links that pass a test puts as many as these
  tested_puts : (verdict : Verdict) (takes : LinkSeen → Bool) (before links : List ℕ)
      → ((j : ℕ) → is_member j (before ++ links) ≡ true → put_to s (Said from cut verdict) t j ≡ one_if (takes (link_seen s t j)))
      → put_to_all s (Said from cut verdict) t links ≡ length (filter takes (map (link_seen s t) links))
  tested_puts verdict takes before [] same = refl
  tested_puts verdict takes before (j ∷ links) same =
      ap (λ n. n + put_to_all s (Said from cut verdict) t links) (same j (member_here before links j))
      ∙ ap (λ n. one_if (takes (link_seen s t j)) + n)
      (tested_puts verdict takes (before ++ j ∷ []) links (λ i member. same i (subst (λ js. is_member i js ≡ true) (append_assoc before (j ∷ []) links) member)))
      ∙ by (takes (link_seen s t j)) (filter takes (map (link_seen s t) links))
    where
      by : (b : Bool) (others : List LinkSeen) → one_if b + length others ≡ length (if b then link_seen s t j ∷ others else others)
      by true others = omega arith
      by false others = omega arith

  -- ---- the counts after a verdict

  abbrev after : Verdict → Trace
  after verdict = Said from cut verdict ∷ t

  pub quiet_totals : (verdict : Verdict) → is_accepted verdict ≡ false → is_duplicate verdict ≡ false → is_refused verdict ≡ false → ((j : ℕ) → are_plain (added_by s t from verdict j) ≡ true)
      → totals_of s (after verdict) ≡ totals_of s t
  unfolding totals_of
  quiet_totals verdict unaccepted single unrefused plain =
      rw (unaccepted, single, unrefused, plain_puts verdict plain (live_links t)) (ap (λ n. record (totals_of s t) { queued = capped n }) (add-zero (put_in s t)))

  refused_more : (verdict : Verdict) → is_accepted verdict ≡ false → is_duplicate verdict ≡ false → is_refused verdict ≡ true → ((j : ℕ) → are_plain (added_by s t from verdict j) ≡ true)
      → with_refused (totals_of s t) ≡ totals_of s (after verdict)
  unfolding totals_of
  refused_more verdict unaccepted single refused plain =
      rw (unaccepted, single, refused, plain_puts verdict plain (live_links t))
      (ap (λ n. record (totals_of s t) { refused = n }) (capped_one (counted is_refused t))
      ∙ ap (λ n. record (totals_of s t) { refused = capped (suc (counted is_refused t)); queued = capped n }) (sym (add-zero (put_in s t))))

  reply_plain : (own : Bool) (reply : Option (List ℕ)) → are_plain (if own then reply_lines reply else []) ≡ true
  reply_plain true None = refl
  reply_plain true (Some line) = refl
  reply_plain false reply = refl

  pub other_totals : (why : Refusal) → is_duplicate_refusal why ≡ false → is_other_refusal why ≡ true
      → ((j : ℕ) → refused_lines t from why j ≡ (if is_from j from then reply_lines (refusal_reply why) else [])) → with_refused (totals_of s t) ≡ totals_of s (after (Refused why))
  other_totals why single other plain = refused_more (Refused why) refl single other (λ j. ap are_plain (plain j) ∙ reply_plain (is_from j from) (refusal_reply why))

  line_plain : (own : Bool) (line : List ℕ) → are_plain (if own then reply_of line ∷ [] else []) ≡ true
  line_plain true line = refl
  line_plain false line = refl

  pub answer_totals : (answer : FilterAnswer) → answer_counted answer (totals_of s t) ≡ totals_of s (after (Filtered answer))
  answer_totals (Active terms reply) = sym (quiet_totals (Filtered (Active terms reply)) refl refl refl (λ j. line_plain (is_from j from) reply))
  answer_totals (Denied why) = refused_more (Filtered (Denied why)) refl refl refl (λ j. line_plain (is_from j from) (filter_reply (Denied why)))

  login_plain : (own : Bool) (session : Session) (answer : Option FilterAnswer) → are_plain (if own then reply_of (login_reply s.server session) ∷ login_filter_reply answer else []) ≡ true
  login_plain true session None = refl
  login_plain true session (Some answer) = refl
  login_plain false session answer = refl

  -- what a login's filter counts
  abbrev login_counted : Option FilterAnswer → Totals → Totals
  login_counted None totals = totals
  login_counted (Some answer) totals = answer_counted answer totals

  pub login_totals : (session : Session) (answer : Option FilterAnswer) → login_counted answer (totals_of s t) ≡ totals_of s (after (LoggedIn session answer))
  login_totals session None = sym (quiet_totals (LoggedIn session None) refl refl refl (λ j. login_plain (is_from j from) session None))
  login_totals session (Some (Active terms reply)) = sym (quiet_totals (LoggedIn session (Some (Active terms reply))) refl refl refl (λ j. login_plain (is_from j from) session (Some (Active terms reply))))
  login_totals session (Some (Denied why)) = refused_more (LoggedIn session (Some (Denied why))) refl refl refl (λ j. login_plain (is_from j from) session (Some (Denied why)))

  module _ (parts : Parts) (line : List ℕ) where
    pub shown_puts : put_to_all s (Said from cut (Refused (refusal.Duplicate parts line))) t (live_links t) ≡ length (filter (takes_shown from) (map (link_seen s t) (live_links t)))
    unfolding link_seen
    shown_puts =
        tested_puts (Refused (refusal.Duplicate parts line)) (takes_shown from) [] (live_links t)
        (λ j live. ap (λ b. packet_lines (with_text_lines (taken_by t j) (if b then shown (packet_of from (moment_of t) parts line) ∷ [] else []) (text_to s t j)) - packet_lines (text_to s t j)) (shows_seen s t from j live)
        ∙ wanted_put (taken_by t j) (shown (packet_of from (moment_of t) parts line)) (text_to s t j) refl (is_shown_at from (link_seen s t j)))

    pub duplicate_totals : with_duplicate (put_to_all s (Said from cut (Refused (refusal.Duplicate parts line))) t (live_links t)) (totals_of s t) ≡ totals_of s (after (Refused (refusal.Duplicate parts line)))
    unfolding totals_of
    duplicate_totals =
        let put = put_to_all s (Said from cut (Refused (refusal.Duplicate parts line))) t (live_links t) in
        ap (λ n. record (totals_of s t) { duplicate = n; queued = more put (capped (put_in s t)) }) (capped_one (counted is_duplicate t))
        ∙ ap (λ n. record (totals_of s t) { duplicate = capped (suc (counted is_duplicate t)); queued = n }) (capped_more put (put_in s t))

    pub accepted_puts : (hearers owed : List ℕ)
        → ((j : ℕ) → is_live t j ≡ true → is_client_link (opening_of t j) ≡ true → is_among j hearers ≡ is_to_heard t (packet_of from (moment_of t) parts line) j)
        → ((j : ℕ) → is_live t j ≡ true → is_among j owed ≡ is_owed t (packet_of from (moment_of t) parts line) j)
        → put_to_all s (Said from cut (Accepted parts line)) t (live_links t)
        ≡ length (filter (takes_packet (packet_of from (moment_of t) parts line) (source_in t from parts) hearers owed) (map (link_seen s t) (live_links t)))
    unfolding link_seen
    accepted_puts hearers owed heard due =
        let packet = packet_of from (moment_of t) parts line in
        tested_puts (Accepted parts line) (takes_packet packet (source_in t from parts) hearers owed) [] (live_links t)
        (λ j live. ap (λ text. packet_lines text - packet_lines (text_to s t j)) (copies_seen s t from parts line hearers owed j live (heard j live) (due j live) (relayed packet))
        ∙ wanted_put (taken_by t j) (relayed packet) (text_to s t j) refl (wants_packet packet (source_in t from parts) hearers owed (link_seen s t j)))

    pub accepted_totals : with_accepted (put_to_all s (Said from cut (Accepted parts line)) t (live_links t)) (totals_of s t) ≡ totals_of s (after (Accepted parts line))
    unfolding totals_of
    accepted_totals =
        let put = put_to_all s (Said from cut (Accepted parts line)) t (live_links t) in
        ap (λ n. record (totals_of s t) { accepted = n; queued = more put (capped (put_in s t)) }) (capped_one (counted is_accepted t))
        ∙ ap (λ n. record (totals_of s t) { accepted = capped (suc (counted is_accepted t)); queued = n }) (capped_more put (put_in s t))
