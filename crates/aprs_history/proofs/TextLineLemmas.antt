-- Each line of each text is a line.
use Rattle.std.proofs.Common.{◌≡◌, ℕ, ◌==◌, Bool, true, false, not, List, [], ◌∷◌, refl, Option, Some, None, if◌then◌else◌, arith, codes}
use Rattle.std.specs.List.{All}
use Rattle.std.specs.Fmt.{decimal}
use Rattle.std.proofs.lemmas.Bool.{and_parts}
use Rattle.std.proofs.lemmas.List.Elements.{All-cons, All-map, All-nil}
use Rattle.aprs_base.specs.Bytes.{IsCall, IsLine, is_call, is_construct, is_station}
use Rattle.aprs_base.specs.declared.packets.Source.{Source}
use Rattle.login_pass.specs.declared.login_line.LoginFault.{LoginFault}
use Rattle.login_pass.specs.declared.login_line.LoginFault.TheVariants as fault
use Rattle.aprs_history.specs.declared.verdicts.Admission.{Admission}
use Rattle.aprs_history.specs.declared.verdicts.Admission.TheVariants.{Served}
use Rattle.aprs_history.specs.declared.verdicts.FilterAnswer.{FilterAnswer}
use Rattle.aprs_history.specs.declared.verdicts.LinkKind.TheVariants.{Client, Uplink}
use Rattle.aprs_history.specs.declared.verdicts.Refusal.{Refusal}
use Rattle.aprs_history.specs.declared.verdicts.Refusal.TheVariants as refusal
use Rattle.aprs_history.specs.declared.verdicts.Verdict.{Verdict}
use Rattle.aprs_history.specs.declared.verdicts.Verdict.TheVariants.{PassedOver, Refused, LoggedIn, Filtered, Accepted}
use Rattle.aprs_history.specs.Setting.{Setting}
use Rattle.aprs_history.specs.Trace.{Trace, Dated, Opened, Said, is_from, moment_of}
use Rattle.aprs_history.specs.Links.{is_client, taken_by}
use Rattle.aprs_history.specs.Scenes.{packet_of}
use Rattle.aprs_history.specs.Texts.{TextLine, added_by, comment_line, fault_word, filter_reply, first_line, first_lines, is_shown, login_filter_reply, login_reply, plain_line, refused_lines, refused_login, relayed, reply_of, shown, text_to, wants}
use Rattle.aprs_history.specs.History.{trace_of}
use Rattle.aprs_history.specs.Sound.{IsSound, TextsAreLines}
use Rattle.aprs_history.proofs.HeadlineLemmas.{if_all, line_alone, lines_all}
use Rattle.aprs_history.proofs.LineLemmas.{code_digits, comment_is_line, login_is_line, reply_is_line}
use Rattle.aprs_history.proofs.OriginLemmas.{IsFine, IsFineAnswer, IsFineAt, fine_history}
use Rattle.aprs_history.proofs.StepLemmas.{Each}

abbrev IsTextLine : TextLine → Type 0
IsTextLine text = IsLine text.line

station_call : (call : List ℕ) → is_station call ≡ true → IsCall call
station_call call is = (and_parts (is_call call) (not (is_construct call)) is).0

fault_is_line : (why : LoginFault) → IsLine (refused_login (fault_word why))
fault_is_line fault.NotUser = refl
fault_is_line fault.BadCall = refl
fault_is_line fault.NoPass = refl
fault_is_line fault.BadPass = refl

login_filter_all : (answer : Option FilterAnswer) → IsFineAnswer answer → All IsTextLine (login_filter_reply answer)
login_filter_all None fine = All-nil IsTextLine
login_filter_all (Some answer) fine = line_alone IsTextLine (reply_of (filter_reply answer)) fine

module _ (s : Setting) (sound : IsSound s) (link : ℕ) where
  first_all : (new : Admission) → All IsTextLine (first_lines s new)
  first_all (Served (Client port)) = line_alone IsTextLine (first_line s (Client port)) refl
  first_all (Served (Uplink uplink)) =
      let digits = code_digits s.code (let small = sound.code in omega (arith, small)) in
      line_alone IsTextLine (first_line s (Uplink uplink)) (login_is_line s.server (decimal s.code) (station_call s.server sound.server) digits.0 digits.1)
  first_all new = All-nil IsTextLine

  refused_all : (t : Trace) (from : Source) (why : Refusal) → IsFine (Refused why) → All IsTextLine (refused_lines t from why link)
  refused_all t from (refusal.Duplicate parts line) fine =
      let packet = packet_of from (moment_of t) parts line in
      if_all IsTextLine (is_shown t from link) (shown packet ∷ []) (λ is. line_alone IsTextLine (shown packet) fine)
  refused_all t from (refusal.Login why) fine =
      let reply = reply_of (refused_login (fault_word why)) in
      if_all IsTextLine (is_from link from) (reply ∷ []) (λ is. line_alone IsTextLine reply (fault_is_line why))
  refused_all t from refusal.OwnName fine =
      let reply = reply_of (refused_login (codes "own name")) in
      if_all IsTextLine (is_from link from) (reply ∷ []) (λ is. line_alone IsTextLine reply refl)
  refused_all t from other fine = if_all IsTextLine (is_from link from) [] (λ is. All-nil IsTextLine)

  added_all : (t : Trace) (from : Source) (verdict : Verdict) → IsFine verdict → All IsTextLine (added_by s t from verdict link)
  added_all t from PassedOver fine = All-nil IsTextLine
  added_all t from (Refused why) fine = refused_all t from why fine
  added_all t from (LoggedIn session answer) fine =
      let reply = reply_of (login_reply s.server session) in
      if_all IsTextLine (is_from link from) (reply ∷ login_filter_reply answer)
      (λ is. All-cons IsTextLine reply (login_filter_reply answer) (reply_is_line s.server session (station_call s.server sound.server) (station_call session.call fine.0)) (login_filter_all answer fine.1))
  added_all t from (Filtered answer) fine = let reply = reply_of (filter_reply answer) in if_all IsTextLine (is_from link from) (reply ∷ []) (λ is. line_alone IsTextLine reply fine)
  added_all t from (Accepted parts line) fine =
      let packet = packet_of from (moment_of t) parts line in
      if_all IsTextLine (wants t packet link) (relayed packet ∷ []) (λ is. line_alone IsTextLine (relayed packet) fine)

  text_all : (t : Trace) → Each (IsFineAt s sound) t → All IsTextLine (text_to s t link).lines
  text_all [] fine = All-nil IsTextLine
  text_all (Opened door new opened from ∷ t) fine = of (link == opened) (text_all t fine.1)
    where
      of : (b : Bool) → All IsTextLine (text_to s t link).lines → All IsTextLine (if b then record { lines = first_lines s new; over = false } else text_to s t link).lines
      of true before = first_all new
      of false before = before
  text_all (Said from said verdict ∷ t) fine =
      lines_all IsTextLine (taken_by t link) (added_by s t from verdict link) (text_to s t link) (added_all t from verdict fine.0.1) (text_all t fine.1)
  text_all (Dated moment ∷ t) fine =
      let comment = comment_line s.server moment in
      lines_all IsTextLine (taken_by t link) (if is_client t link then comment ∷ [] else []) (text_to s t link)
      (if_all IsTextLine (is_client t link) (comment ∷ []) (λ is. line_alone IsTextLine comment (comment_is_line s.server moment (station_call s.server sound.server)))) (text_all t fine.1)
  text_all (entry ∷ t) fine = text_all t fine.1

pub texts_are_lines : TextsAreLines
texts_are_lines s h link sound joins =
    All-map IsLine plain_line (text_to s (trace_of s h) link).lines (text_all s sound link (trace_of s h) (fine_history s sound h joins).1)
