-- A refused line changes nothing that is kept, and the journals have one line of it.
use Rattle.std.proofs.Common.{◌≡◌, ℕ, ◌+◌, ◌==◌, ◌&&◌, ◌||◌, Bool, true, false, not, is_some, List, [], ◌∷◌, ◌++◌, filter, map, refl, sym, ap, ◌∙◌, arith, append-nil, append_assoc, Option, if◌then◌else◌}
use Rattle.aprs_base.specs.Journals.{JournalLineSeen}
use Rattle.aprs_base.specs.PacketSeen.{PacketSeen}
use Rattle.aprs_base.specs.declared.cutting.Cut.{Cut}
use Rattle.aprs_base.specs.declared.events.Event.{Event}
use Rattle.aprs_base.specs.declared.events.Sent.TheVariants as sent
use Rattle.aprs_base.specs.declared.events.Happening.TheVariants as did
use Rattle.aprs_base.specs.declared.packets.Source.{Source}
use Rattle.aprs_base.specs.declared.packets.Source.TheVariants as source
use Rattle.filter_eval.specs.Passes.{passes_of}
use Rattle.filter_lang.specs.Terms.{TermSeen}
use Rattle.q_construct.specs.declared.origins.Origin.{Origin}
use Rattle.aprs_history.specs.declared.verdicts.Refusal.{Refusal}
use Rattle.aprs_history.specs.declared.verdicts.Refusal.TheVariants as refusal
use Rattle.aprs_history.specs.declared.verdicts.Session.{Session}
use Rattle.aprs_history.specs.declared.verdicts.Verdict.TheVariants.{Refused}
use Rattle.aprs_history.specs.Setting.{Setting}
use Rattle.aprs_history.specs.Trace.{Trace, RoundBegan, Said, is_from, is_live, is_other, live_links, moment_of}
use Rattle.aprs_history.specs.Links.{filter_of, is_submitted, opening_of, session_of, taken_by}
use Rattle.aprs_history.specs.Verdicts.{Carrier, Scene, is_duplicate}
use Rattle.aprs_history.specs.Scenes.{accepted_of, datagram_scene, logins_of, others_of, packet_of, scene_of, speaker_of, verified_login}
use Rattle.aprs_history.specs.Sights.{friend_in, is_gate_at, login_in, sighting}
use Rattle.aprs_history.specs.Messages.{is_owed, is_to_heard, is_to_login}
use Rattle.aprs_history.specs.Counts.{is_duplicate_refusal}
use Rattle.aprs_history.specs.Texts.{is_shown, opening_wants, refusal_reply, refused_lines, reply_lines, shown, text_to, wants, with_text_lines}
use Rattle.aprs_history.specs.History.{History, ends_round, open_events, trace_of}
use Rattle.aprs_history.specs.Journal.{entry_lines, journal_of, round_lines}
use Rattle.aprs_history.specs.Refusing.{JournalsTellEachEntry, RefusalsChangeNothing, RefusalsHaveOneLine, RefusalsReachNobody, lines_in}
use Rattle.aprs_history.proofs.RoundLemmas.{before_round, border_event}

-- ---- what is kept

same_either : {X : Type 0} (b : Bool) (x : X) → (if b then x else x) ≡ x
same_either true x = refl
same_either false x = refl

logins_same : (t u : Trace) → ((link : ℕ) → session_of u link ≡ session_of t link) → (links : List ℕ) → logins_of u links ≡ logins_of t links
logins_same t u same [] = refl
logins_same t u same (link ∷ links) =
    ap (λ session. verified_login session ++ logins_of u links) (same link) ∙ ap (λ logins. verified_login (session_of t link) ++ logins) (logins_same t u same links)

-- what a line of a link meets, by the link's login, the logins of others and what was accepted
abbrev scene_by : Setting → Trace → ℕ → Option Session → List (List ℕ) → List PacketSeen → Scene
scene_by s t link session others accepted = record {
  server = s.server;
  speaker = speaker_of (opening_of t link) session;
  others = others;
  copies = is_duplicate s.window (moment_of t) accepted;
}

abbrev carried_by : Setting → Trace → Origin → List (List ℕ) → List PacketSeen → Scene
carried_by s t origin others accepted = record { server = s.server; speaker = Carrier origin; others = others; copies = is_duplicate s.window (moment_of t) accepted }

-- whether a link is sent a packet, by whether it was submitted here, the link's login, its filter and what was accepted
abbrev wants_by : Trace → PacketSeen → ℕ → Bool → Option Session → List TermSeen → List PacketSeen → Bool
wants_by t packet link submitted session terms accepted =
    not (is_from link packet.from) && is_live t link
    && opening_wants (opening_of t link) (is_some session) submitted
    (passes_of terms packet (map (friend_in accepted (moment_of t)) terms) (login_in accepted (moment_of t) session) (sighting accepted (moment_of t) packet.parts.source) (is_gate_at accepted (moment_of t) packet.parts.source)
    || (is_to_login packet session || is_to_heard t packet link || is_owed t packet link))

module _ (t : Trace) (from : Source) (said : Cut) (why : Refusal) where
  abbrev after : Trace
  after = Said from said (Refused why) ∷ t

  sessions_same : (link : ℕ) → session_of after link ≡ session_of t link
  sessions_same link = same_either (is_from link from) (session_of t link)

  filters_same : (link : ℕ) → filter_of after link ≡ filter_of t link
  filters_same link = same_either (is_from link from) (filter_of t link)

  accepted_same : accepted_of after ≡ accepted_of t
  accepted_same = append-nil (accepted_of t)

  submitted_same : (by : Source) → is_submitted after by ≡ is_submitted t by
  submitted_same (source.Link link) = refl
  submitted_same (source.Submit listener) = refl
  submitted_same (source.Peer peer) = refl

  scenes_same : (s : Setting) (link : ℕ) → scene_of s after link ≡ scene_of s t link
  scenes_same s link =
      ap (λ session. scene_by s t link session (others_of after link) (accepted_of after)) (sessions_same link)
      ∙ ap (λ others. scene_by s t link (session_of t link) others (accepted_of after)) (logins_same t after sessions_same (filter (is_other link) (live_links t)))
      ∙ ap (scene_by s t link (session_of t link) (others_of t link)) accepted_same

  datagrams_same : (s : Setting) (origin : Origin) → datagram_scene s origin after ≡ datagram_scene s origin t
  datagrams_same s origin =
      ap (λ others. carried_by s t origin others (accepted_of after)) (logins_same t after sessions_same (live_links t))
      ∙ ap (carried_by s t origin (logins_of t (live_links t))) accepted_same

  wants_same : (packet : PacketSeen) (link : ℕ) → wants after packet link ≡ wants t packet link
  wants_same packet link =
      ap (λ b. wants_by t packet link b (session_of after link) (filter_of after link) (accepted_of after)) (submitted_same packet.from)
      ∙ ap (λ session. wants_by t packet link (is_submitted t packet.from) session (filter_of after link) (accepted_of after)) (sessions_same link)
      ∙ ap (λ terms. wants_by t packet link (is_submitted t packet.from) (session_of t link) terms (accepted_of after)) (filters_same link)
      ∙ ap (wants_by t packet link (is_submitted t packet.from) (session_of t link) (filter_of t link)) accepted_same

pub refusals_change_nothing : RefusalsChangeNothing
refusals_change_nothing s t from said why = record {
  links = refl;
  sessions = sessions_same t from said why;
  filters = filters_same t from said why;
  accepted = accepted_same t from said why;
  places = λ call. ap (λ accepted. sighting accepted (moment_of t) call) (accepted_same t from said why);
  gates = λ call. ap (λ accepted. is_gate_at accepted (moment_of t) call) (accepted_same t from said why);
  hearers = λ link call. refl;
  promises = λ link sender. refl;
  scenes = scenes_same t from said why s;
  datagrams = datagrams_same t from said why s;
  wanted = wants_same t from said why;
}

none_told : (t : Trace) (from : Source) (why : Refusal) (link : ℕ) → is_from link from ≡ false → (is_duplicate_refusal why && is_shown t from link) ≡ false → refused_lines t from why link ≡ []
none_told t from (refusal.Duplicate parts line) link other hidden = ap (λ b. if b then shown (packet_of from (moment_of t) parts line) ∷ [] else []) hidden
none_told t from why link other hidden = ap (λ b. if b then reply_lines (refusal_reply why) else []) other

pub refusals_reach_nobody : RefusalsReachNobody
refusals_reach_nobody s t from said why link other hidden = ap (λ lines. with_text_lines (taken_by t link) lines (text_to s t link)) (none_told t from why link other hidden)

-- ---- the journals

pub refusals_have_one_line : RefusalsHaveOneLine
refusals_have_one_line s t from said why = refl

module _ (s : Setting) where
  -- the lines before the last round began, and those since
  both : (t : Trace) → lines_in s t ≡ lines_in s (before_round t) ++ round_lines s t
  both [] = refl
  both (RoundBegan ∷ t) = refl
  both (entry ∷ t) = ap (λ lines. lines ++ entry_lines s entry t) (both t) ∙ append_assoc (lines_in s (before_round t)) (round_lines s t) (entry_lines s entry t)

  goes_on : (n : ℕ) → (n + 1 == 0) ≡ false
  goes_on n = grind arith

  -- up to the last round's begin, or all of it where it is over
  abbrev finished : History → Trace
  finished h = if open_events h == 0 then trace_of s h else before_round (trace_of s h)

  tells_event : (e : Event) (h : History) → journal_of s h ≡ lines_in s (finished h) → journal_of s (did.Event e ∷ h) ≡ lines_in s (finished (did.Event e ∷ h))
  tells_event e h before = of (ends_round (open_events h) e)
    where
      of : (ends : Bool) → (if ends then journal_of s h ++ round_lines s (trace_of s (did.Event e ∷ h)) else journal_of s h)
          ≡ lines_in s (if (if ends then 0 else open_events h + 1) == 0 then trace_of s (did.Event e ∷ h) else before_round (trace_of s (did.Event e ∷ h)))
      of true =
          let t = trace_of s (did.Event e ∷ h) in
          ap (λ lines. lines ++ round_lines s t) (before ∙ ap (lines_in s) (sym (border_event s h e))) ∙ sym (both t)
      of false =
          let t = trace_of s (did.Event e ∷ h) in
          before ∙ ap (lines_in s) (sym (border_event s h e)) ∙ ap (λ b. lines_in s (if b then t else before_round t)) (sym (goes_on (open_events h)))

  -- an outcome of a send has no line
  tells_sent : (first : Bool) (t u : Trace) (lines : List JournalLineSeen) → lines ≡ lines_in s (if first then t else before_round t) → lines_in s u ≡ lines_in s t → before_round u ≡ before_round t
      → lines ≡ lines_in s (if first then u else before_round u)
  tells_sent true t u lines before same border = before ∙ sym same
  tells_sent false t u lines before same border = before ∙ ap (lines_in s) (sym border)

  tells : (h : History) → journal_of s h ≡ lines_in s (finished h)
  unfolding trace_of
  tells [] = refl
  tells (did.Event e ∷ h) = tells_event e h (tells h)
  tells (did.Sent to bytes (sent.Took n) ∷ h) =
      tells_sent (open_events h == 0) (trace_of s h) (trace_of s (did.Sent to bytes (sent.Took n) ∷ h)) (journal_of s h) (tells h) (append-nil (lines_in s (trace_of s h))) refl
  tells (did.Sent to bytes sent.Gone ∷ h) =
      tells_sent (open_events h == 0) (trace_of s h) (trace_of s (did.Sent to bytes sent.Gone ∷ h)) (journal_of s h) (tells h) (append-nil (lines_in s (trace_of s h))) refl
  tells (x ∷ h) = tells h

pub journals_tell_each_entry : JournalsTellEachEntry
journals_tell_each_entry s h finished = tells s h ∙ ap (λ n. lines_in s (if n == 0 then trace_of s h else before_round (trace_of s h))) finished
