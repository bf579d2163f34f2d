-- What the verdicts on a line say, and that they go by the voice.
use Rattle.std.proofs.Common.{if◌then◌else◌, Result, Ok, Err, Option, Some, None, ◌≡◌, ℕ, Bool, true, false, List, length, refl, IsTrue}
use Rattle.std.proofs.lemmas.Bool.{le-leb}
use Rattle.filter_lang.specs.Grammar.{terms_of}
use Rattle.filter_lang.specs.Terms.{TermSeen}
use Rattle.filter_lang.specs.declared.errors.FilterError.{FilterError}
use Rattle.filter_lang.specs.declared.errors.FilterError.TheVariants as error
use Rattle.filter_lang.proofs.ReadBounds.{few_terms}
use Rattle.line_verdict.specs.Fit.{IsFit, all_few, has_few}
use Rattle.line_verdict.specs.Voices.{comment_verdict, filtered, voice_of, voice_verdict}
use Rattle.line_verdict.specs.declared.voices.Voice.{Voice}
use Rattle.line_verdict.specs.declared.voices.Voice.TheVariants as voice
use Rattle.aprs_base.specs.declared.packets.PortKind.{PortKind}
use Rattle.aprs_base.specs.declared.packets.PortKind.TheVariants as kind
use Rattle.aprs_history.specs.declared.verdicts.Verdict.{Verdict}
use Rattle.aprs_history.specs.declared.verdicts.Session.{Session}
use Rattle.aprs_history.specs.Verdicts.{Carrier, Scene, Speaker, Visitor, answer_by, answer_of, command_verdict, filter_command, login_answer, login_verdict, spoken_verdict, text_at, is_comment}
use Rattle.login_pass.specs.Login.{login_of, is_verified}
use Rattle.login_pass.specs.declared.login_line.LoginFault.{LoginFault}
use Rattle.dupe_window.specs.Keys.{is_text}
use Rattle.aprs_history.specs.declared.verdicts.Refusal.TheVariants as refusal
use Rattle.aprs_history.specs.declared.verdicts.Verdict.TheVariants.{Refused, LoggedIn}
use Rattle.login_pass.specs.declared.login_line.Login.{Login}
use Rattle.aprs_history.proofs.LineLemmas.{login_station}

few_by : (text : List ℕ) (read : Result (List TermSeen) FilterError) → terms_of text ≡ read → IsTrue (has_few (answer_by read))
few_by text (Ok terms) is = le-leb (length terms) 64 (few_terms text terms is)
few_by text (Err error.Long) is = refl
few_by text (Err (error.Term n)) is = refl
few_by text (Err (error.TooMany letter)) is = refl
few_by text (Err error.Memory) is = refl

few_answer : (filters : Bool) (text : List ℕ) → IsTrue (has_few (answer_of filters text))
few_answer true text = few_by text (terms_of text) refl
few_answer false text = refl

few_login : (filters : Bool) (line : List ℕ) (place : Option (ℕ × ℕ)) → IsTrue (all_few (login_answer filters line place))
few_login filters line None = refl
few_login filters line (Some place) = few_answer filters (text_at line place)

pub login_fit : (server : List ℕ) (filters : Bool) (line : List ℕ) (read : Result Login LoginFault) → login_of line ≡ read → IsFit (login_verdict server filters line read)
login_fit server filters line (Err why) is = tt
login_fit server filters line (Ok login) is = by_name (is_text login.call server)
  where
    by_name : (own : Bool)
        → IsFit (if own then Refused refusal.OwnName else LoggedIn (record { call = login.call; verified = is_verified login }) (login_answer filters line login.filter))
    by_name true = tt
    by_name false = (login_station line login is, few_login filters line login.filter)

filtered_fit : (filters : Bool) (command : Option (List ℕ)) → IsFit (filtered filters command)
filtered_fit filters None = tt
filtered_fit filters (Some text) = few_answer filters text

pub comment_fit : (who : Voice) (text : List ℕ) → IsFit (comment_verdict who text)
comment_fit (voice.Nameless filters) text = tt
comment_fit voice.Reader text = filtered_fit false (filter_command text)
comment_fit (voice.Client filters origin) text = filtered_fit filters (filter_command text)
comment_fit (voice.Carrier origin) text = tt

-- ---- the verdict goes by the voice

by_command : (filters : Bool) (session : Session) (command : Option (List ℕ)) → command_verdict filters (Some session) command ≡ filtered filters command
by_command filters session None = refl
by_command filters session (Some text) = refl

by_comment : (b : Bool) (v w x y : Verdict) → v ≡ x → w ≡ y → (if b then v else w) ≡ (if b then x else y)
by_comment true v w x y first second = first
by_comment false v w x y first second = second

visitor_says : (scene : Scene) (port : PortKind) (session : Option Session) (text : List ℕ) → spoken_verdict scene (Visitor port session) text ≡ voice_verdict scene (voice_of (Visitor port session)) text
visitor_says scene port None text = refl
visitor_says scene kind.Igate (Some session) text = by_comment (is_comment text) _ _ _ _ (by_command true session (filter_command text)) refl
visitor_says scene kind.Only (Some session) text = by_comment (is_comment text) _ _ _ _ (by_command true session (filter_command text)) refl
visitor_says scene port (Some session) text = by_comment (is_comment text) _ _ _ _ (by_command false session (filter_command text)) refl

pub voice_says : (scene : Scene) (speaker : Speaker) (text : List ℕ) → spoken_verdict scene speaker text ≡ voice_verdict scene (voice_of speaker) text
voice_says scene (Visitor port session) text = visitor_says scene port session text
voice_says scene (Carrier origin) text = refl
