-- What is said on a link of a pair is a line of the text at the other end; what is accepted of it is a packet that was accepted there, and it is said
-- by one that keeps the calls after the construct.
use Rattle.std.proofs.Common.{◌≡◌, ◌≢◌, ℕ, zero, suc, ◌+◌, Bool, true, not, List, [], ◌∷◌, ◌++◌, length, map, refl, sym, ap, ◌∙◌, subst, Option, Some, None, Result, Ok, Err, ⊎_elim, append_assoc}
use Rattle.std.specs.Prelude.{slice_get}
use Rattle.std.specs.List.{All}
use Rattle.std.proofs.lemmas.Bool.{and_parts, cases_Bool, true≢false}
use Rattle.std.proofs.lemmas.List.Elements.{All-head, All-tail}
use Rattle.aprs_base.specs.Bytes.{IsLine}
use Rattle.aprs_base.specs.PacketSeen.{PacketSeen}
use Rattle.aprs_base.specs.PartsSeen.{PartsSeen}
use Rattle.aprs_base.specs.declared.cutting.Cut.{Cut}
use Rattle.aprs_base.specs.declared.cutting.Cut.TheVariants as cut
use Rattle.aprs_base.specs.declared.packets.Source.TheVariants as source
use Rattle.tnc2_line.specs.Packet.{IsPacket, parts_of}
use Rattle.tnc2_line.proofs.Laws.{parts_give}
use Rattle.login_pass.specs.Login.{login_of}
use Rattle.login_pass.specs.Passcode.{passcode_of}
use Rattle.login_pass.specs.declared.login_line.Login.{Login}
use Rattle.login_pass.specs.declared.login_line.LoginFault.{LoginFault}
use Rattle.link_queue.specs.Lines.{text_bytes}
use Rattle.dupe_window.specs.Keys.{is_text}
use Rattle.q_construct.specs.Rule.{keeps_names}
use Rattle.q_construct.specs.declared.origins.Origin.{Origin}
use Rattle.aprs_history.specs.declared.verdicts.FilterAnswer.{FilterAnswer}
use Rattle.aprs_history.specs.declared.verdicts.LinkKind.{LinkKind}
use Rattle.aprs_history.specs.declared.verdicts.LinkKind.TheVariants.{Client, Uplink}
use Rattle.aprs_history.specs.declared.verdicts.Session.{Session}
use Rattle.aprs_history.specs.declared.verdicts.Verdict.{Verdict}
use Rattle.aprs_history.specs.declared.verdicts.Verdict.TheVariants.{LoggedIn}
use Rattle.aprs_history.specs.Trace.{Trace, Said}
use Rattle.aprs_history.specs.Links.{Opening, brought_by, opening_of, session_of}
use Rattle.aprs_history.specs.Texts.{Banner, Comment, LineKind, Login as LoginKind, Relayed, Reply, Shown, TextLine, lines_of, plain_line, text_to, untaken, uplink_login}
use Rattle.aprs_history.specs.Verdicts.{is_comment, login_verdict}
use Rattle.aprs_history.specs.Scenes.{speaker_by, speaker_of}
use Rattle.aprs_history.specs.Headline.{taken_bytes}
use Rattle.aprs_history.specs.Acts.{IsRun}
use Rattle.aprs_history.specs.Arriving.{came_to, said_on}
use Rattle.aprs_history.specs.Accepting.{SpeaksAs}
use Rattle.aprs_history.specs.Sound.{IsSound}
use Rattle.aprs_history.proofs.ArrivingLemmas.{lines_arrive_whole}
use Rattle.aprs_history.proofs.BringingLemmas.{links_bring_what_came}
use Rattle.aprs_history.proofs.HeadlineLemmas.{links_take_prefixes}
use Rattle.aprs_history.proofs.JoiningLemmas.{uplink_logins_are_read, uplink_logins_are_verified}
use Rattle.aprs_history.proofs.SayingLemmas.{links_say_what_they_brought}
use Rattle.aprs_history.proofs.StepLemmas.{Each}
use Rattle.aprs_history.proofs.TextLineLemmas.{texts_are_lines}
use Rattle.net_history.specs.Network.{End, ForClient, ServerSeen, number_of, trace_at}
use Rattle.net_history.proofs.BetweenLemmas.{at_end, at_longer, at_mapped, none_some}
use Rattle.net_history.proofs.EventLemmas.{Had, fresh_links, joins_have_addresses, none_came_early}
use Rattle.net_history.proofs.KindLemmas.{ComesBy, IsOfKind, WasAccepted, has_dupes, texts_come_by}
use Rattle.net_history.proofs.OpeningLemmas.{dupes_history}
use Rattle.net_history.proofs.PacketLineLemmas.{packet_is_no_comment, packet_is_no_login}
use Rattle.net_history.proofs.SaidLemmas.{OpensSilent, opens_silent, said_stays}
use Rattle.net_history.proofs.SessionLemmas.{IsLogin, sessions_come_from_logins}
use Rattle.net_history.proofs.StreamLemmas.{eqb_same}

pub all_at_place : {X : Type 0} (P : X → Type 0) (xs : List X) (place : ℕ) (x : X) → slice_get xs place ≡ Some x → All P xs → P x
all_at_place P [] place x e all = absurd (none_some x e)
all_at_place P (y ∷ xs) zero x e all = let same : y ≡ x = cc in subst P same (All-head P y xs all)
all_at_place P (y ∷ xs) (suc place) x e all = all_at_place P xs place x e (All-tail P y xs all)

-- a link of a server, and the server at its other end as it was before
pub record IsPaired (s other : ServerSeen) (place : ℕ) (end : End) : Type 0 where
  pub had : Had s.setting s.made s.history
  pub other_had : Had other.setting other.made other.history
  pub run : IsRun other.setting other.history
  pub sound : IsSound other.setting
  pub code : other.setting.code ≡ passcode_of other.setting.server
  pub back : slice_get other.made end.place ≢ Some ForClient
  pub rest : List ℕ
  pub stream : taken_bytes other.history (number_of end) ≡ came_to s.history (place + 1) ++ rest
  -- each packet that was accepted there is one
  pub packets : (packet : PacketSeen) → WasAccepted (trace_at other) packet → (parts : PartsSeen) × IsPacket packet.line parts

module _ (s other : ServerSeen) (place : ℕ) (end : End) (paired : IsPaired s other place end) where
  abbrev link : ℕ
  link = place + 1

  abbrev lines : List TextLine
  lines = (text_to other.setting (trace_at other) (number_of end)).lines

  pub record IsTextLine (line : ℕ) (said : Cut) : Type 0 where
    pub text : TextLine
    pub there : slice_get lines line ≡ Some text
    pub is : said ≡ cut.Line text.line

  -- what was said is a line of the text
  pub said_is_line : (line : ℕ) (said : Cut) → slice_get (said_on (trace_at s) link) line ≡ Some said → IsTextLine line said
  said_is_line line said at =
      let brought = links_bring_what_came s.setting s.history link (none_came_early s.setting s.made s.history link paired.had) in
      let left = brought.0 ++ (paired.rest ++ untaken other.setting (trace_at other) (number_of end)) in
      let texts = lines_of other.setting (trace_at other) (number_of end) in
      let taken = links_take_prefixes other.setting other.history paired.run (fresh_links other.setting other.made other.history paired.other_had) (number_of end) in
      let all : text_bytes texts ≡ brought_by (trace_at s) link ++ left =
      taken ∙ ap (λ bytes. bytes ++ untaken other.setting (trace_at other) (number_of end)) (paired.stream ∙ ap (λ bytes. bytes ++ paired.rest) brought.1)
      ∙ append_assoc (brought_by (trace_at s) link ++ brought.0) paired.rest (untaken other.setting (trace_at other) (number_of end))
      ∙ append_assoc (brought_by (trace_at s) link) brought.0 (paired.rest ++ untaken other.setting (trace_at other) (number_of end)) in
      let arrives = lines_arrive_whole texts (brought_by (trace_at s) link) left
      (texts_are_lines other.setting other.history (number_of end) paired.sound (joins_have_addresses other.setting other.made other.history paired.other_had)) all in
      let cuts : said_on (trace_at s) link ≡ map cut.Line arrives.there = links_say_what_they_brought s.setting s.history link ∙ arrives.cuts in
      let here = at_mapped cut.Line arrives.there line said (ap (λ c. slice_get c line) (sym cuts) ∙ at) in
      let its = at_mapped plain_line lines line here.0 (ap (λ l. slice_get l line) arrives.split ∙ at_longer arrives.there arrives.more line here.0 here.1) in
      record { text = its.0; there = its.1; is = sym here.2 ∙ ap cut.Line (sym its.2) }

  kind_is : (line : ℕ) (text : TextLine) → slice_get lines line ≡ Some text → ComesBy other.setting (trace_at other) (number_of end) text.kind text.line
  kind_is line text at = all_at_place (IsOfKind other.setting (trace_at other) (number_of end)) lines line text at (texts_come_by other.setting other.history (number_of end))

  -- none is shown there
  none_shown : has_dupes (opening_of (trace_at other) (number_of end)) ≡ true → ⊥
  none_shown is = paired.back (dupes_history other.setting other.made other.history paired.other_had end.place is)

  -- a line that reads as a packet is one that was accepted there
  pub record IsRelay (text : TextLine) : Type 0 where
    pub packet : PacketSeen
    pub kind : text.kind ≡ Relayed packet
    pub line : text.line ≡ packet.line
    pub accepted : WasAccepted (trace_at other) packet

  login_no_packet : (line : List ℕ) (parts : PartsSeen) → line ≡ uplink_login other.setting → IsPacket line parts → ⊥
  login_no_packet line parts is packet =
      packet_is_no_login line parts (record { call = other.setting.server; code = Some other.setting.code; filter = None }) packet
      (ap login_of is ∙ uplink_logins_are_read other.setting paired.sound.server paired.sound.code)

  pub packet_is_relayed : (text : TextLine) (parts : PartsSeen) → ComesBy other.setting (trace_at other) (number_of end) text.kind text.line → IsPacket text.line parts → IsRelay text
  packet_is_relayed text parts comes packet = of text.kind refl comes
    where
      of : (kind : LineKind) → text.kind ≡ kind → ComesBy other.setting (trace_at other) (number_of end) kind text.line → IsRelay text
      of (Relayed p) is comes = record { packet = p; kind = is; line = comes.0; accepted = comes.1 }
      of LoginKind is comes = absurd (login_no_packet text.line parts comes packet)
      of (Shown p) is comes = absurd (none_shown comes)
      of Banner is comes = absurd (true≢false (sym comes ∙ packet_is_no_comment text.line parts packet))
      of Reply is comes = absurd (true≢false (sym comes ∙ packet_is_no_comment text.line parts packet))
      of Comment is comes = absurd (true≢false (sym comes ∙ packet_is_no_comment text.line parts packet))

  -- ---- the session there is verified

  logged_ok : (filters : Bool) (line : List ℕ) (r : Result Login LoginFault) (session : Session) (answer : Option FilterAnswer) → login_verdict s.setting.server filters line r ≡ LoggedIn session answer → (login : Login) × (r ≡ Ok login)
  logged_ok filters line (Err why) session answer e = absurd cc
  logged_ok filters line (Ok login) session answer e = (login, refl)

  uplink_verified : (line : List ℕ) (filters : Bool) (session : Session) (answer : Option FilterAnswer) → line ≡ uplink_login other.setting → login_verdict s.setting.server filters line (login_of line) ≡ LoggedIn session answer
      → session.verified ≡ true
  uplink_verified line filters session answer is logs = ⊎_elim
      (λ own. absurd (refused own))
      (λ another. let good = uplink_logins_are_verified other.setting s.setting.server filters paired.sound.server paired.code another in let same : LoggedIn (record { call = other.setting.server; verified = true }) None ≡ LoggedIn session answer = sym good ∙ e in sessions session answer same)
      (cases_Bool (is_text other.setting.server s.setting.server))
    where
      e : login_verdict s.setting.server filters (uplink_login other.setting) (login_of (uplink_login other.setting)) ≡ LoggedIn session answer
      e = subst (λ l. login_verdict s.setting.server filters l (login_of l) ≡ LoggedIn session answer) is logs

      sessions : (session : Session) (answer : Option FilterAnswer) → LoggedIn (record { call = other.setting.server; verified = true }) None ≡ LoggedIn session answer → session.verified ≡ true
      sessions session answer same = let its : record { call = other.setting.server; verified = true } ≡ session = cc in ap (λ (x : Session). x.verified) (sym its)

      refused : is_text other.setting.server s.setting.server ≡ true → ⊥
      refused own =
          let read = uplink_logins_are_read other.setting paired.sound.server paired.sound.code in
          let goes : login_verdict s.setting.server filters (uplink_login other.setting) (Ok (record { call = other.setting.server; code = Some other.setting.code; filter = None })) ≡ LoggedIn session answer =
          ap (login_verdict s.setting.server filters (uplink_login other.setting)) (sym read) ∙ e in
          let fails = rw own at goes in
          cc

  session_verified : (said : Cut) (session : Session) (line : ℕ) → slice_get (said_on (trace_at s) link) line ≡ Some said → IsLogin s.setting.server said session → session.verified ≡ true
  session_verified said session line at login =
      let text = said_is_line line said at in
      let both : cut.Line login.text ≡ cut.Line text.text.line = sym login.is ∙ text.is in
      let same : login.text ≡ text.text.line = cc in
      of text.text.kind (kind_is line text.text text.there) same
    where
      of : (kind : LineKind) {its : List ℕ} → ComesBy other.setting (trace_at other) (number_of end) kind its → login.text ≡ its → session.verified ≡ true
      of LoginKind comes same = uplink_verified login.text login.filters session login.answer (same ∙ comes) login.comes
      of (Relayed p) comes same =
          let packet = paired.packets p comes.1 in
          let ok = logged_ok login.filters login.text (login_of login.text) session login.answer login.comes in
          absurd (packet_is_no_login p.line packet.0 ok.0 packet.1 (ap login_of (sym (same ∙ comes.0)) ∙ ok.1))
      of (Shown p) comes same = absurd (none_shown comes)
      of Banner comes same = absurd (true≢false (sym comes ∙ ap is_comment (sym same) ∙ login.plain))
      of Reply comes same = absurd (true≢false (sym comes ∙ ap is_comment (sym same) ∙ login.plain))
      of Comment comes same = absurd (true≢false (sym comes ∙ ap is_comment (sym same) ∙ login.plain))

  -- ---- what is accepted

  speaks_keeping : (opening : Option Opening) (session : Option Session) (by : Origin) → ((its : Session) → session ≡ Some its → its.verified ≡ true) → SpeaksAs (speaker_of opening session) by → keeps_names by ≡ true
  speaks_keeping None None by verified is = absurd is
  speaks_keeping None (Some session) by verified is = ap keeps_names is ∙ ap (λ b. not (not b)) (verified session refl)
  speaks_keeping (Some opening) session by verified is = of opening.kind session verified is
    where
      of : (kind : LinkKind) (session : Option Session) → ((its : Session) → session ≡ Some its → its.verified ≡ true) → SpeaksAs (speaker_by kind opening.from session) by → keeps_names by ≡ true
      of (Client kind) None verified is = absurd is
      of (Client kind) (Some session) verified is = ap keeps_names is ∙ ap (λ b. not (not b)) (verified session refl)
      of (Uplink uplink) session verified is = ap keeps_names is

  -- of each line that is accepted on the link
  pub record IsPassed (earlier : Trace) (text : List ℕ) : Type 0 where
    pub its : TextLine
    pub there : slice_get lines (length (said_on earlier link)) ≡ Some its
    pub relay : IsRelay its
    pub line : text ≡ relay.packet.line
    pub keeps : (by : Origin) → SpeaksAs (speaker_of (opening_of earlier link) (session_of earlier link)) by → keeps_names by ≡ true

  pub passed : (later earlier : Trace) (said : Cut) (verdict : Verdict) (text : List ℕ) (before : PartsSeen) → trace_at s ≡ later ++ Said (source.Link link) said verdict ∷ earlier → said ≡ cut.Line text → IsLine text → parts_of text ≡ Ok before
      → IsPassed earlier text
  passed later earlier said verdict text before split is whole reads =
      let opens = subst (Each OpensSilent) split (opens_silent s.setting s.history (fresh_links s.setting s.made s.history paired.had)) in
      let stays = said_stays later earlier (source.Link link) said verdict link (eqb_same link) opens in
      let on : said_on (trace_at s) link ≡ (said_on earlier link ++ said ∷ []) ++ stays.0 = ap (λ t. said_on t link) split ∙ stays.1 in
      let later_too : (place' : ℕ) (x : Cut) → slice_get (said_on earlier link ++ said ∷ []) place' ≡ Some x → slice_get (said_on (trace_at s) link) place' ≡ Some x =
      λ place' x at. ap (λ cuts. slice_get cuts place') on ∙ at_longer (said_on earlier link ++ said ∷ []) stays.0 place' x at in
      let its = said_is_line (length (said_on earlier link)) said (later_too (length (said_on earlier link)) said (at_end (said_on earlier link) said)) in
      let both : cut.Line text ≡ cut.Line its.text.line = sym is ∙ its.is in
      let same : text ≡ its.text.line = cc in
      let packet : IsPacket text before = parts_give text before (and_parts _ _ whole).1 reads in
      let relay = packet_is_relayed its.text before (kind_is (length (said_on earlier link)) its.text its.there) (subst (λ l. IsPacket l before) same packet) in
      record {
        its = its.text;
        there = its.there;
        relay = relay;
        line = same ∙ relay.line;
        keeps = λ by speaks. speaks_keeping (opening_of earlier link) (session_of earlier link) by
            (λ session has.
            let login = sessions_come_from_logins s.setting s.history later earlier (Said (source.Link link) said verdict) link session split has in
            session_verified login.1 session login.0 (later_too login.0 login.1 (at_longer (said_on earlier link) (said ∷ []) login.0 login.1 login.2)) login.3)
            speaks;
      }
