-- A session is that of a login that was said on its link.
use Rattle.std.proofs.Common.{◌≡◌, ℕ, ◌==◌, Bool, true, false, List, [], ◌∷◌, ◌++◌, length, refl, ap, subst, Option, Some, None, Result, Ok, Err, if◌then◌else◌}
use Rattle.std.specs.Bool.{⊤}
use Rattle.std.specs.Prelude.{slice_get}
use Rattle.std.proofs.lemmas.Bool.{eqb-true, true≢false}
use Rattle.aprs_base.specs.Cuts.{cuts_by}
use Rattle.aprs_base.specs.PartsSeen.{PartsSeen}
use Rattle.aprs_base.specs.declared.cutting.Cut.{Cut}
use Rattle.aprs_base.specs.declared.cutting.Cut.TheVariants as cut
use Rattle.aprs_base.specs.declared.events.Event.{Event}
use Rattle.aprs_base.specs.declared.events.Event.TheVariants as event
use Rattle.aprs_base.specs.declared.packets.Source.{Source}
use Rattle.aprs_base.specs.declared.packets.Source.TheVariants as source
use Rattle.login_pass.specs.Login.{login_of}
use Rattle.q_construct.specs.declared.origins.Origin.{Origin}
use Rattle.q_construct.specs.declared.origins.Origin.TheVariants as origin
use Rattle.tnc2_line.specs.Packet.{parts_of, text_of}
use Rattle.aprs_history.specs.declared.verdicts.FilterAnswer.{FilterAnswer}
use Rattle.aprs_history.specs.declared.verdicts.Refusal.{Refusal}
use Rattle.aprs_history.specs.declared.verdicts.Refusal.TheVariants as refusal
use Rattle.aprs_history.specs.declared.verdicts.Session.{Session}
use Rattle.aprs_history.specs.declared.verdicts.Verdict.{Verdict}
use Rattle.aprs_history.specs.declared.verdicts.Verdict.TheVariants.{PassedOver, Refused, LoggedIn, Filtered, Accepted}
use Rattle.aprs_history.specs.Setting.{Setting, is_dupe_kind, is_filter_kind, is_only_kind}
use Rattle.aprs_history.specs.Trace.{Trace, Entry, RoundBegan, Opened, Brought, Said, is_from, is_live}
use Rattle.aprs_history.specs.Links.{brought_by, session_after, session_of}
use Rattle.aprs_history.specs.Verdicts.{Carrier, Scene, Speaker, Visitor, carried_verdict, client_origin, command_verdict, filter_command, is_comment, login_verdict, packet_verdict, read_and_routed, spoken_verdict, verdict_of}
use Rattle.aprs_history.specs.Scenes.{datagram_scene, scene_of}
use Rattle.aprs_history.specs.History.{History, bring, datagram_cuts, say_all, trace_of, with_event}
use Rattle.aprs_history.specs.Arriving.{said_on}
use Rattle.aprs_history.proofs.StepLemmas.{Each, IsOfLink, IsQuiet, Steps, each_at, kept_all}
use Rattle.net_history.proofs.BetweenLemmas.{at_end, at_longer}

-- what was said is a login, and this is its session
pub record IsLogin (server : List ℕ) (said : Cut) (session : Session) : Type 0 where
  pub text : List ℕ
  pub filters : Bool
  pub answer : Option FilterAnswer
  pub is : said ≡ cut.Line text
  pub plain : is_comment text ≡ false
  pub comes : login_verdict server filters text (login_of text) ≡ LoggedIn session answer

-- ---- no other line logs in

packet_logs : (copies : PartsSeen → Bool) (r : Result PartsSeen Refusal) (session : Session) (answer : Option FilterAnswer) → packet_verdict copies r ≡ LoggedIn session answer → ⊥
packet_logs copies (Err why) session answer e = cc
packet_logs copies (Ok parts) session answer e = of (copies parts) e
  where
    of : (b : Bool) → (if b then Refused (refusal.Duplicate parts (text_of parts)) else Accepted parts (text_of parts)) ≡ LoggedIn session answer → ⊥
    of true e = cc
    of false e = cc

carried_logs : (scene : Scene) (by : Origin) (text : List ℕ) (session : Session) (answer : Option FilterAnswer) → carried_verdict scene by text ≡ LoggedIn session answer → ⊥
carried_logs scene by text session answer e = packet_logs scene.copies (read_and_routed scene.server by scene.others (parts_of text)) session answer e

command_logs : (filters : Bool) (before : Option Session) (text : Option (List ℕ)) (session : Session) (answer : Option FilterAnswer) → command_verdict filters before text ≡ LoggedIn session answer → ⊥
command_logs filters None text session answer e = cc
command_logs filters (Some before) None session answer e = cc
command_logs filters (Some before) (Some text) session answer e = cc

spoken_logs : (scene : Scene) (speaker : Speaker) (text : List ℕ) (session : Session) (answer : Option FilterAnswer) → spoken_verdict scene speaker text ≡ LoggedIn session answer → IsLogin scene.server (cut.Line text) session
spoken_logs scene (Visitor kind None) text session answer e = of (is_comment text) refl e
  where
    of : (b : Bool) → is_comment text ≡ b → (if b then command_verdict (is_filter_kind kind) None (filter_command text) else login_verdict scene.server (is_filter_kind kind) text (login_of text)) ≡ LoggedIn session answer
        → IsLogin scene.server (cut.Line text) session
    of true plain e = absurd (command_logs (is_filter_kind kind) None (filter_command text) session answer e)
    of false plain e = record { text = text; filters = is_filter_kind kind; answer = answer; is = refl; plain = plain; comes = e }
spoken_logs scene (Visitor kind (Some before)) text session answer e = of (is_comment text) (is_dupe_kind kind) e
  where
    of : (b d : Bool) → (if b then command_verdict (is_filter_kind kind) (Some before) (filter_command text) else if d then Refused refusal.ReadOnly else carried_verdict scene (client_origin (is_only_kind kind) before) text)
        ≡ LoggedIn session answer → IsLogin scene.server (cut.Line text) session
    of true d e = absurd (command_logs (is_filter_kind kind) (Some before) (filter_command text) session answer e)
    of false true e = absurd cc
    of false false e = absurd (carried_logs scene (client_origin (is_only_kind kind) before) text session answer e)
spoken_logs scene (Carrier from) text session answer e = of (is_comment text) e
  where
    of : (b : Bool) → (if b then PassedOver else carried_verdict scene from text) ≡ LoggedIn session answer → IsLogin scene.server (cut.Line text) session
    of true e = absurd cc
    of false e = absurd (carried_logs scene from text session answer e)

verdict_logs : (scene : Scene) (said : Cut) (session : Session) (answer : Option FilterAnswer) → verdict_of scene said ≡ LoggedIn session answer → IsLogin scene.server said session
verdict_logs scene cut.Long session answer e = absurd cc
verdict_logs scene (cut.Line text) session answer e = spoken_logs scene scene.speaker text session answer e

-- ---- over a trace

module _ (s : Setting) where
  -- the session of a link on which these were said
  abbrev IsKnown : List Cut → Option Session → Type 0
  IsKnown said None = ⊤
  IsKnown said (Some session) = (place : ℕ) × (line : Cut) × (slice_get said place ≡ Some line) × IsLogin s.server line session

  abbrev AllKnown : Trace → Type 0
  AllKnown t = (link : ℕ) → IsKnown (said_on t link) (session_of t link)

  known_longer : (said : List Cut) (line : Cut) (session : Option Session) → IsKnown said session → IsKnown (said ++ line ∷ []) session
  known_longer said line None known = tt
  known_longer said line (Some session) known = (known.0, known.1, at_longer said (line ∷ []) known.0 known.1 known.2, known.3)

  known_after : (t : Trace) (link : ℕ) (line : Cut) (verdict : Verdict) → verdict_of (scene_of s t link) line ≡ verdict → IsKnown (said_on t link) (session_of t link)
      → IsKnown (said_on t link ++ line ∷ []) (session_after verdict (session_of t link))
  known_after t link line (LoggedIn session answer) is known = (length (said_on t link), line, at_end (said_on t link) line, verdict_logs (scene_of s t link) line session answer is)
  known_after t link line PassedOver is known = known_longer (said_on t link) line (session_of t link) known
  known_after t link line (Refused why) is known = known_longer (said_on t link) line (session_of t link) known
  known_after t link line (Filtered answer) is known = known_longer (said_on t link) line (session_of t link) known
  known_after t link line (Accepted parts text) is known = known_longer (said_on t link) line (session_of t link) known

  -- so it is at each entry
  abbrev IsKnownAt : Trace → Entry → Type 0
  IsKnownAt t entry = AllKnown t

  abbrev Holds : Trace → Type 0
  Holds t = AllKnown t × Each IsKnownAt t

  -- others speak
  known_others : (scene : Trace → Scene) (from : Source) → ((link : ℕ) → is_from link from ≡ false) → (cuts : List Cut) (t : Trace) → Holds t → Holds (say_all scene from cuts t)
  known_others scene from other [] t known = known
  known_others scene from other (line ∷ cuts) t known =
      known_others scene from other cuts (Said from line (verdict_of (scene t) line) ∷ t) (λ link. of link (is_from link from) (other link), known)
    where
      of : (link : ℕ) (b : Bool) → b ≡ false
          → IsKnown (if b then said_on t link ++ line ∷ [] else said_on t link) (if b then session_after (verdict_of (scene t) line) (session_of t link) else session_of t link)
      of link true is = absurd (true≢false is)
      of link false is = known.0 link

  known_own : (k : ℕ) (cuts : List Cut) (t : Trace) → Holds t → Holds (say_all (λ now. scene_of s now k) (source.Link k) cuts t)
  known_own k [] t known = known
  known_own k (line ∷ cuts) t known =
      known_own k cuts (Said (source.Link k) line (verdict_of (scene_of s t k) line) ∷ t) (λ link. of link (link == k) (λ is. eqb-true link k is), known)
    where
      of : (link : ℕ) (b : Bool) → (b ≡ true → link ≡ k)
          → IsKnown (if b then said_on t link ++ line ∷ [] else said_on t link) (if b then session_after (verdict_of (scene_of s t k) line) (session_of t link) else session_of t link)
      of link true is = known_after t link line (verdict_of (scene_of s t k) line) (ap (λ j. verdict_of (scene_of s t j) line) (is refl)) (known.0 link)
      of link false is = known.0 link

  known_quiet : (t : Trace) (entry : Entry) → IsQuiet entry → Holds t → Holds (entry ∷ t)
  known_quiet t RoundBegan is known = absurd is
  known_quiet t (Opened door new link from) is known = absurd is
  known_quiet t (Brought link bytes) is known = absurd is
  known_quiet t (Said from said verdict) is known = absurd is
  known_quiet t entry is known = (known.0, known)

  known_steps : Steps s Holds
  known_steps = record {
    quiet = known_quiet;
    refused = λ t listener said why alone known. (known.0, known);
    submitted = λ t listener bytes first cuts login are is known. known_others (datagram_scene s (origin.Udp login)) (source.Submit listener) (λ link. refl) cuts t known;
    relayed = λ t from bytes peer is known. known_others (datagram_scene s (origin.Peer peer.1)) (source.Peer peer.0) (λ link. refl) (datagram_cuts bytes) t known;
  }

  known_opened : (t : Trace) → AllKnown t → (link : ℕ) (b : Bool) → IsKnown (if b then [] else said_on t link) (if b then None else session_of t link)
  known_opened t known link true = tt
  known_opened t known link false = known link

  known_of_link : (e : Event) (t : Trace) → IsOfLink e → Holds t → Holds (with_event s e t)
  known_of_link (event.Opened listener opened from) t is known = (λ link. known_opened t known.0 link (link == opened), known)
  known_of_link (event.Joined uplink opened at) t is known = (λ link. known_opened t known.0 link (link == opened), known)
  known_of_link (event.Bytes k bytes) t is known = of (is_live t k)
    where
      of : (b : Bool) → Holds (if b then bring s k bytes t else t)
      of true = known_own k (cuts_by (brought_by t k) bytes) (Brought k bytes ∷ t) (known.0, known)
      of false = known
  known_of_link e t is known = absurd is

  each_known : (h : History) → Each IsKnownAt (trace_of s h)
  each_known h = (kept_all s Holds known_steps (λ t known. (known.0, known)) known_of_link (λ link. tt, tt) h).1

-- wherever a session is, its login was said there before
pub sessions_come_from_logins : (s : Setting) (h : History) (later earlier : Trace) (entry : Entry) (link : ℕ) (session : Session) → trace_of s h ≡ later ++ entry ∷ earlier → session_of earlier link ≡ Some session
    → (place : ℕ) × (line : Cut) × (slice_get (said_on earlier link) place ≡ Some line) × IsLogin s.server line session
sessions_come_from_logins s h later earlier entry link session split is =
    subst (IsKnown s (said_on earlier link)) is (each_at (IsKnownAt s) later earlier entry (subst (Each (IsKnownAt s)) split (each_known s h)) link)
