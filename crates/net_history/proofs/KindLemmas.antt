-- Where the lines of a text come from: comments, the login at an uplink, and packets that were accepted or that are shown.
use Rattle.std.proofs.Common.{◌≡◌, ℕ, ◌==◌, ◌&&◌, not, is_some, Bool, true, false, List, [], ◌∷◌, length, refl, ap, ◌∙◌, Option, Some, None, Result, Ok, Err, if◌then◌else◌}
use Rattle.std.specs.Bool.{⊤}
use Rattle.std.specs.Prelude.{slice_get}
use Rattle.std.specs.List.{All}
use Rattle.std.proofs.lemmas.Bool.{and_parts}
use Rattle.std.proofs.lemmas.List.Elements.{All-nil, All-cons, All-weaker}
use Rattle.aprs_base.specs.Cuts.{cuts_by}
use Rattle.aprs_base.specs.PacketSeen.{PacketSeen}
use Rattle.aprs_base.specs.PartsSeen.{PartsSeen}
use Rattle.aprs_base.specs.declared.cutting.Cut.{Cut}
use Rattle.aprs_base.specs.declared.cutting.Cut.TheVariants as cut
use Rattle.aprs_base.specs.declared.events.Event.{Event}
use Rattle.aprs_base.specs.declared.events.Event.TheVariants as event
use Rattle.aprs_base.specs.declared.packets.Source.{Source}
use Rattle.aprs_base.specs.declared.packets.Source.TheVariants as source
use Rattle.login_pass.specs.Login.{is_verified, login_of}
use Rattle.login_pass.specs.declared.login_line.Login.{Login}
use Rattle.login_pass.specs.declared.login_line.LoginFault.{LoginFault}
use Rattle.dupe_window.specs.Keys.{is_text}
use Rattle.filter_lang.specs.Grammar.{terms_of}
use Rattle.filter_lang.specs.Terms.{TermSeen}
use Rattle.filter_lang.specs.declared.errors.FilterError.{FilterError}
use Rattle.filter_lang.specs.declared.errors.FilterError.TheVariants as error
use Rattle.q_construct.specs.declared.origins.Origin.TheVariants as origin
use Rattle.tnc2_line.specs.Packet.{parts_of, text_of}
use Rattle.aprs_history.specs.declared.verdicts.Admission.{Admission}
use Rattle.aprs_history.specs.declared.verdicts.Admission.TheVariants.{Served}
use Rattle.aprs_history.specs.declared.verdicts.FilterAnswer.{FilterAnswer}
use Rattle.aprs_history.specs.declared.verdicts.LinkKind.TheVariants.{Client, Uplink}
use Rattle.aprs_history.specs.declared.verdicts.Refusal.{Refusal}
use Rattle.aprs_history.specs.declared.verdicts.Refusal.TheVariants as refusal
use Rattle.aprs_history.specs.declared.verdicts.Session.{Session}
use Rattle.aprs_history.specs.declared.verdicts.Verdict.{Verdict}
use Rattle.aprs_history.specs.declared.verdicts.Verdict.TheVariants.{PassedOver, Refused, LoggedIn, Filtered, Accepted}
use Rattle.aprs_history.specs.Setting.{Setting, is_dupe_kind, is_filter_kind, is_only_kind}
use Rattle.aprs_history.specs.Trace.{Trace, Entry, Dated, RoundBegan, Opened, Brought, Said, is_from, is_live, moment_of}
use Rattle.aprs_history.specs.Links.{Opening, brought_by, is_client, opening_by, opening_of, session_of, taken_by}
use Rattle.aprs_history.specs.Verdicts.{Carrier, Scene, Speaker, Visitor, answer_by, answer_of, carried_verdict, client_origin, command_verdict, filter_command, is_comment, login_answer, login_verdict, packet_verdict, read_and_routed, spoken_verdict, text_at, verdict_of}
use Rattle.aprs_history.specs.Scenes.{accepted_by, accepted_of, datagram_scene, packet_of, scene_of}
use Rattle.aprs_history.specs.Texts.{Banner, Comment, LineKind, Login as LoginKind, Relayed, Reply, Shown, TextLine, added_by, comment_line, filter_reply, first_line, first_lines, is_dupe_of, is_shown, login_filter_reply, login_reply, refusal_reply, refused_lines, relayed, reply_lines, reply_of, shown, shows_duplicates, text_to, uplink_login, wants}
use Rattle.aprs_history.specs.History.{History, bring, datagram_cuts, say_all, trace_of, with_event}
use Rattle.aprs_history.proofs.HeadlineLemmas.{if_all, line_alone, lines_all}
use Rattle.aprs_history.proofs.StepLemmas.{Each, IsOfLink, IsQuiet, Steps, kept_all}
use Rattle.net_history.proofs.BetweenLemmas.{at_end, at_longer}

-- ---- each reply is a comment

abbrev IsCommentReply : FilterAnswer → Type 0
IsCommentReply answer = is_comment (filter_reply answer) ≡ true

abbrev IsCommentAnswer : Option FilterAnswer → Type 0
IsCommentAnswer None = ⊤
IsCommentAnswer (Some answer) = IsCommentReply answer

abbrev RepliesByComments : Verdict → Type 0
RepliesByComments (LoggedIn session answer) = IsCommentAnswer answer
RepliesByComments (Filtered answer) = IsCommentReply answer
RepliesByComments verdict = ⊤

answer_comments : (r : Result (List TermSeen) FilterError) → IsCommentReply (answer_by r)
answer_comments (Ok terms) = refl
answer_comments (Err error.Long) = refl
answer_comments (Err (error.Term n)) = refl
answer_comments (Err (error.TooMany letter)) = refl
answer_comments (Err error.Memory) = refl

filter_comments : (filters : Bool) (text : List ℕ) → IsCommentReply (answer_of filters text)
filter_comments true text = answer_comments (terms_of text)
filter_comments false text = refl

login_filter_comments : (filters : Bool) (line : List ℕ) (place : Option (ℕ × ℕ)) → IsCommentAnswer (login_answer filters line place)
login_filter_comments filters line None = tt
login_filter_comments filters line (Some place) = filter_comments filters (text_at line place)

login_comments : (server : List ℕ) (filters : Bool) (line : List ℕ) (r : Result Login LoginFault) → RepliesByComments (login_verdict server filters line r)
login_comments server filters line (Err why) = tt
login_comments server filters line (Ok login) = of (is_text login.call server)
  where
    of : (own : Bool) → RepliesByComments (if own then Refused refusal.OwnName else LoggedIn (record { call = login.call; verified = is_verified login }) (login_answer filters line login.filter))
    of true = tt
    of false = login_filter_comments filters line login.filter

command_comments : (filters : Bool) (session : Option Session) (text : Option (List ℕ)) → RepliesByComments (command_verdict filters session text)
command_comments filters None text = tt
command_comments filters (Some session) None = tt
command_comments filters (Some session) (Some text) = filter_comments filters text

packet_comments : (copies : PartsSeen → Bool) (r : Result PartsSeen Refusal) → RepliesByComments (packet_verdict copies r)
packet_comments copies (Err why) = tt
packet_comments copies (Ok parts) = of (copies parts)
  where
    of : (b : Bool) → RepliesByComments (if b then Refused (refusal.Duplicate parts (text_of parts)) else Accepted parts (text_of parts))
    of true = tt
    of false = tt

spoken_comments : (scene : Scene) (speaker : Speaker) (text : List ℕ) → RepliesByComments (spoken_verdict scene speaker text)
spoken_comments scene (Visitor kind None) text = of (is_comment text)
  where
    of : (b : Bool) → RepliesByComments (if b then command_verdict (is_filter_kind kind) None (filter_command text) else login_verdict scene.server (is_filter_kind kind) text (login_of text))
    of true = command_comments (is_filter_kind kind) None (filter_command text)
    of false = login_comments scene.server (is_filter_kind kind) text (login_of text)
spoken_comments scene (Visitor kind (Some session)) text = of (is_comment text) (is_dupe_kind kind)
  where
    of : (b d : Bool) → RepliesByComments (if b then command_verdict (is_filter_kind kind) (Some session) (filter_command text) else if d then Refused refusal.ReadOnly else carried_verdict scene (client_origin (is_only_kind kind) session) text)
    of true d = command_comments (is_filter_kind kind) (Some session) (filter_command text)
    of false true = tt
    of false false = packet_comments scene.copies (read_and_routed scene.server (client_origin (is_only_kind kind) session) scene.others (parts_of text))
spoken_comments scene (Carrier from) text = of (is_comment text)
  where
    of : (b : Bool) → RepliesByComments (if b then PassedOver else carried_verdict scene from text)
    of true = tt
    of false = packet_comments scene.copies (read_and_routed scene.server from scene.others (parts_of text))

verdict_comments : (scene : Scene) (said : Cut) → RepliesByComments (verdict_of scene said)
verdict_comments scene cut.Long = tt
verdict_comments scene (cut.Line text) = spoken_comments scene scene.speaker text

abbrev Replies : Trace → Entry → Type 0
Replies t (Said from said verdict) = RepliesByComments verdict
Replies t entry = ⊤

all_reply : (scene : Trace → Scene) (from : Source) (cuts : List Cut) (t : Trace) → Each Replies t → Each Replies (say_all scene from cuts t)
all_reply scene from [] t each = each
all_reply scene from (said ∷ cuts) t each = all_reply scene from cuts (Said from said (verdict_of (scene t) said) ∷ t) (verdict_comments (scene t) said, each)

reply_quiet : (t : Trace) (entry : Entry) → IsQuiet entry → Each Replies t → Each Replies (entry ∷ t)
reply_quiet t RoundBegan is each = absurd is
reply_quiet t (Opened door new link from) is each = absurd is
reply_quiet t (Brought link bytes) is each = absurd is
reply_quiet t (Said from said verdict) is each = absurd is
reply_quiet t entry is each = (tt, each)

reply_steps : (s : Setting) → Steps s (Each Replies)
reply_steps s = record {
  quiet = reply_quiet;
  refused = λ t listener said why alone each. (tt, each);
  submitted = λ t listener bytes first cuts login are is each. all_reply (datagram_scene s (origin.Udp login)) (source.Submit listener) cuts t each;
  relayed = λ t from bytes peer is each. all_reply (datagram_scene s (origin.Peer peer.1)) (source.Peer peer.0) (datagram_cuts bytes) t each;
}

reply_of_link : (s : Setting) (e : Event) (t : Trace) → IsOfLink e → Each Replies t → Each Replies (with_event s e t)
reply_of_link s (event.Opened listener opened from) t is each = (tt, each)
reply_of_link s (event.Joined uplink opened at) t is each = (tt, each)
reply_of_link s (event.Bytes k bytes) t is each = of (is_live t k)
  where
    of : (b : Bool) → Each Replies (if b then bring s k bytes t else t)
    of true = all_reply (λ now. scene_of s now k) (source.Link k) (cuts_by (brought_by t k) bytes) (Brought k bytes ∷ t) (tt, each)
    of false = each
reply_of_link s e t is each = absurd is

each_replies : (s : Setting) (h : History) → Each Replies (trace_of s h)
each_replies s h = kept_all s (Each Replies) (reply_steps s) (λ t each. (tt, each)) (reply_of_link s) tt h

-- ---- the lines of a text

abbrev pub has_dupes : Option Opening → Bool
has_dupes None = false
has_dupes (Some opening) = is_dupe_of opening.kind

-- a packet is one of those that were accepted
abbrev pub WasAccepted : Trace → PacketSeen → Type 0
WasAccepted t packet = (place : ℕ) × (slice_get (accepted_of t) place ≡ Some packet)

abbrev pub ComesBy : Setting → Trace → ℕ → LineKind → List ℕ → Type 0
ComesBy s t link LoginKind line = line ≡ uplink_login s
ComesBy s t link (Relayed packet) line = (line ≡ packet.line) × WasAccepted t packet
ComesBy s t link (Shown packet) line = has_dupes (opening_of t link) ≡ true
ComesBy s t link other line = is_comment line ≡ true

abbrev pub IsOfKind : Setting → Trace → ℕ → TextLine → Type 0
IsOfKind s t link text = ComesBy s t link text.kind text.line

module _ (s : Setting) (link : ℕ) where
  -- what was accepted goes on, and the link stays what it is
  record GoesOn (t u : Trace) : Type 0 where
    accepted : (packet : PacketSeen) → WasAccepted t packet → WasAccepted u packet
    opening : opening_of u link ≡ opening_of t link

  kind_goes_on : (t u : Trace) → GoesOn t u → (kind : LineKind) (line : List ℕ) → ComesBy s t link kind line → ComesBy s u link kind line
  kind_goes_on t u on LoginKind line comes = comes
  kind_goes_on t u on (Relayed packet) line comes = (comes.0, on.accepted packet comes.1)
  kind_goes_on t u on (Shown packet) line comes = ap has_dupes on.opening ∙ comes
  kind_goes_on t u on Banner line comes = comes
  kind_goes_on t u on Reply line comes = comes
  kind_goes_on t u on Comment line comes = comes

  abbrev AllOf : Trace → List TextLine → Type 0
  AllOf t lines = All (IsOfKind s t link) lines

  all_go_on : (t u : Trace) (lines : List TextLine) → GoesOn t u → AllOf t lines → AllOf u lines
  all_go_on t u lines on all = All-weaker (IsOfKind s t link) (IsOfKind s u link) (λ text comes. kind_goes_on t u on text.kind text.line comes) lines all

  -- an entry that accepts nothing and opens nothing
  still : (t : Trace) (entry : Entry) → accepted_of (entry ∷ t) ≡ accepted_of t → opening_of (entry ∷ t) link ≡ opening_of t link → GoesOn t (entry ∷ t)
  still t entry accepted opening = record { accepted = λ packet was. (was.0, ap (λ packets. slice_get packets was.0) accepted ∙ was.1); opening = opening }

  said_goes_on : (t : Trace) (from : Source) (said : Cut) (verdict : Verdict) → GoesOn t (Said from said verdict ∷ t)
  said_goes_on t from said verdict = record { accepted = λ packet was. (was.0, at_longer (accepted_of t) (accepted_by from (moment_of t) verdict) was.0 packet was.1); opening = refl }

  reply_alone : (u : Trace) (line : List ℕ) → is_comment line ≡ true → AllOf u (reply_of line ∷ [])
  reply_alone u line is = line_alone (IsOfKind s u link) (reply_of line) is

  login_filter_all : (u : Trace) (answer : Option FilterAnswer) → IsCommentAnswer answer → AllOf u (login_filter_reply answer)
  login_filter_all u None is = All-nil (IsOfKind s u link)
  login_filter_all u (Some answer) is = reply_alone u (filter_reply answer) is

  first_all : (u : Trace) (admission : Admission) → AllOf u (first_lines s admission)
  first_all u (Served (Client port)) = line_alone (IsOfKind s u link) (first_line s (Client port)) refl
  first_all u (Served (Uplink uplink)) = line_alone (IsOfKind s u link) (first_line s (Uplink uplink)) refl
  first_all u admission = All-nil (IsOfKind s u link)

  shows : (opening : Option Opening) (session : Option Session) → shows_duplicates opening session ≡ true → has_dupes opening ≡ true
  shows None session is = is
  shows (Some opening) session is = (and_parts (is_dupe_of opening.kind) (is_some session) is).0

  shown_parts : (t : Trace) (from : Source) → is_shown t from link ≡ true → shows_duplicates (opening_of t link) (session_of t link) ≡ true
  shown_parts t from is =
      (and_parts (not (is_from link from) && is_live t link) (shows_duplicates (opening_of t link) (session_of t link)) is).1

  refused_all : (t u : Trace) (from : Source) (why : Refusal) → opening_of u link ≡ opening_of t link → AllOf u (refused_lines t from why link)
  refused_all t u from (refusal.Duplicate parts line) same =
      let packet = packet_of from (moment_of t) parts line in
      if_all (IsOfKind s u link) (is_shown t from link) (shown packet ∷ [])
      (λ is. line_alone (IsOfKind s u link) (shown packet) (ap has_dupes same ∙ shows (opening_of t link) (session_of t link) (shown_parts t from is)))
  refused_all t u from (refusal.Login why) same = if_all (IsOfKind s u link) (is_from link from) (reply_lines (refusal_reply (refusal.Login why))) (λ is. reply_alone u _ refl)
  refused_all t u from refusal.OwnName same = if_all (IsOfKind s u link) (is_from link from) (reply_lines (refusal_reply refusal.OwnName)) (λ is. reply_alone u _ refl)
  refused_all t u from other same = if_all (IsOfKind s u link) (is_from link from) [] (λ is. All-nil (IsOfKind s u link))

  added_all : (t : Trace) (from : Source) (said : Cut) (verdict : Verdict) → RepliesByComments verdict → AllOf (Said from said verdict ∷ t) (added_by s t from verdict link)
  added_all t from said PassedOver replies = All-nil (IsOfKind s (Said from said PassedOver ∷ t) link)
  added_all t from said (Refused why) replies = refused_all t (Said from said (Refused why) ∷ t) from why refl
  added_all t from said (LoggedIn session answer) replies =
      let u = Said from said (LoggedIn session answer) ∷ t in
      let reply = reply_of (login_reply s.server session) in
      if_all (IsOfKind s u link) (is_from link from) (reply ∷ login_filter_reply answer) (λ is. All-cons (IsOfKind s u link) reply (login_filter_reply answer) refl (login_filter_all u answer replies))
  added_all t from said (Filtered answer) replies =
      let u = Said from said (Filtered answer) ∷ t in
      if_all (IsOfKind s u link) (is_from link from) (reply_of (filter_reply answer) ∷ []) (λ is. reply_alone u (filter_reply answer) replies)
  added_all t from said (Accepted parts line) replies =
      let u = Said from said (Accepted parts line) ∷ t in
      let packet = packet_of from (moment_of t) parts line in
      if_all (IsOfKind s u link) (wants t packet link) (relayed packet ∷ []) (λ is. line_alone (IsOfKind s u link) (relayed packet) (refl, (length (accepted_of t), at_end (accepted_of t) packet)))

  text_kinds : (t : Trace) → Each Replies t → AllOf t (text_to s t link).lines
  text_kinds [] each = All-nil (IsOfKind s [] link)
  text_kinds (Opened door admission opened from ∷ t) each = of (link == opened) refl (text_kinds t each.1)
    where
      of : (b : Bool) → (link == opened) ≡ b → AllOf t (text_to s t link).lines
          → AllOf (Opened door admission opened from ∷ t) (if b then record { lines = first_lines s admission; over = false } else text_to s t link).lines
      of true is before = first_all (Opened door admission opened from ∷ t) admission
      of false is before =
          all_go_on t (Opened door admission opened from ∷ t) (text_to s t link).lines
          (still t (Opened door admission opened from) refl (ap (λ b. if b then opening_by admission from (moment_of t) else opening_of t link) is)) before
  text_kinds (Said from said verdict ∷ t) each =
      let u = Said from said verdict ∷ t in
      lines_all (IsOfKind s u link) (taken_by t link) (added_by s t from verdict link) (text_to s t link) (added_all t from said verdict each.0)
      (all_go_on t u (text_to s t link).lines (said_goes_on t from said verdict) (text_kinds t each.1))
  text_kinds (Dated moment ∷ t) each =
      let u : Trace = Dated moment ∷ t in
      let comment = comment_line s.server moment in
      lines_all (IsOfKind s u link) (taken_by t link) (if is_client t link then comment ∷ [] else []) (text_to s t link)
      (if_all (IsOfKind s u link) (is_client t link) (comment ∷ []) (λ is. line_alone (IsOfKind s u link) comment refl))
      (all_go_on t u (text_to s t link).lines (still t (Dated moment) refl refl) (text_kinds t each.1))
  text_kinds (entry ∷ t) each = all_go_on t (entry ∷ t) (text_to s t link).lines (still t entry refl refl) (text_kinds t each.1)

pub texts_come_by : (s : Setting) (h : History) (link : ℕ) → All (IsOfKind s (trace_of s h) link) (text_to s (trace_of s h) link).lines
texts_come_by s h link = text_kinds s link (trace_of s h) (each_replies s h)
