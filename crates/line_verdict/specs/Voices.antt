-- Who speaks, and what becomes of its lines.
use Rattle.std.specs.Prelude.{ℕ, Bool, false, List, Option, Some, None, IsTrue, if◌then◌else◌, ⊤}
use Rattle.aprs_base.specs.declared.packets.PortKind.{PortKind}
use Rattle.login_pass.specs.Login.{login_of}
use Rattle.q_construct.specs.Rule.{has_station}
use Rattle.aprs_history.specs.Setting.{is_dupe_kind, is_filter_kind, is_only_kind}
use Rattle.aprs_history.specs.declared.verdicts.Refusal.TheVariants.{ReadOnly}
use Rattle.aprs_history.specs.declared.verdicts.Session.{Session}
use Rattle.aprs_history.specs.declared.verdicts.Verdict.{Verdict}
use Rattle.aprs_history.specs.declared.verdicts.Verdict.TheVariants.{PassedOver, Refused, Filtered}
use Rattle.aprs_history.specs.Verdicts.{Carrier, Scene, Speaker, Visitor, answer_of, carried_verdict, client_origin, filter_command, is_comment, login_verdict}
use Rattle.line_verdict.specs.declared.voices.Voice.{Voice}
use Rattle.line_verdict.specs.declared.voices.Voice.TheVariants as voice

abbrev pub visitor_voice : PortKind → Option Session → Voice
visitor_voice kind None = voice.Nameless (is_filter_kind kind)
visitor_voice kind (Some session) = if is_dupe_kind kind then voice.Reader else voice.Client (is_filter_kind kind) (client_origin (is_only_kind kind) session)

abbrev pub voice_of : Speaker → Voice
voice_of (Visitor kind session) = visitor_voice kind session
voice_of (Carrier origin) = voice.Carrier origin

-- what becomes of a command, where there is one
abbrev pub filtered : Bool → Option (List ℕ) → Verdict
filtered filters None = PassedOver
filtered filters (Some text) = Filtered (answer_of filters text)

-- what becomes of a comment or a command
abbrev pub comment_verdict : Voice → List ℕ → Verdict
comment_verdict (voice.Nameless filters) text = PassedOver
comment_verdict voice.Reader text = filtered false (filter_command text)
comment_verdict (voice.Client filters origin) text = filtered filters (filter_command text)
comment_verdict (voice.Carrier origin) text = PassedOver

-- what becomes of another line
abbrev pub line_verdict : Scene → Voice → List ℕ → Verdict
line_verdict scene (voice.Nameless filters) text = login_verdict scene.server filters text (login_of text)
line_verdict scene voice.Reader text = Refused ReadOnly
line_verdict scene (voice.Client filters origin) text = carried_verdict scene origin text
line_verdict scene (voice.Carrier origin) text = carried_verdict scene origin text

abbrev pub voice_verdict : Scene → Voice → List ℕ → Verdict
voice_verdict scene who text = if is_comment text then comment_verdict who text else line_verdict scene who text

-- a packet comes from a station
abbrev pub HasStation : Voice → Type 0
HasStation (voice.Nameless filters) = ⊤
HasStation voice.Reader = ⊤
HasStation (voice.Client filters origin) = IsTrue (has_station origin)
HasStation (voice.Carrier origin) = IsTrue (has_station origin)
