-- What becomes of a line: each line has one verdict (aprs-is.net, Connecting, and q Construct).
use Rattle.std.specs.Prelude.{ℕ, ◌-◌, ◌==◌, ◌&&◌, Bool, true, nat_lt, List, [], ◌∷◌, ◌++◌, take, drop, codes, Option, Some, None, option_map, Result, Ok, Err, if◌then◌else◌}
use Rattle.std.specs.List.{list_any, prefix_len, starts_with}
use Rattle.aprs_base.specs.Bytes.{is_blank}
use Rattle.aprs_base.specs.PacketSeen.{PacketSeen}
use Rattle.aprs_base.specs.declared.packets.PortKind.{PortKind}
use Rattle.aprs_base.specs.declared.packets.Parts.{Parts}
use Rattle.aprs_base.specs.declared.cutting.Cut.{Cut}
use Rattle.aprs_base.specs.declared.cutting.Cut.TheVariants as cut
use Rattle.tnc2_line.specs.Packet.{parts_of, text_of}
use Rattle.tnc2_line.specs.declared.reading.LineFault.{LineFault}
use Rattle.login_pass.specs.Login.{login_of, is_keyword, is_verified, trimmed}
use Rattle.login_pass.specs.declared.login_line.Login.{Login}
use Rattle.login_pass.specs.declared.login_line.LoginFault.{LoginFault}
use Rattle.filter_lang.specs.Canonical.{canonical}
use Rattle.filter_lang.specs.Grammar.{terms_of}
use Rattle.filter_lang.specs.Terms.{TermSeen}
use Rattle.filter_lang.specs.declared.errors.FilterError.{FilterError}
use Rattle.filter_lang.specs.declared.errors.FilterError.TheVariants as error
use Rattle.q_construct.specs.Rule.{process_of}
use Rattle.q_construct.specs.declared.origins.Origin.{Origin}
use Rattle.q_construct.specs.declared.origins.Origin.TheVariants as origin
use Rattle.q_construct.specs.declared.drops.QDrop.{QDrop}
use Rattle.q_construct.specs.declared.drops.QDrop.TheVariants.{Unverified}
use Rattle.aprs_history.specs.Setting.{is_dupe_kind, is_filter_kind, is_only_kind}
use Rattle.dupe_window.specs.Keys.{Key, key_of, is_same_key, is_text}
use Rattle.aprs_history.specs.declared.verdicts.FilterAnswer.{FilterAnswer}
use Rattle.aprs_history.specs.declared.verdicts.FilterAnswer.TheVariants.{Active, Denied}
use Rattle.aprs_history.specs.declared.verdicts.FilterFault.TheVariants as filter_fault
use Rattle.aprs_history.specs.declared.verdicts.Session.{Session}
use Rattle.aprs_history.specs.declared.verdicts.Refusal.{Refusal}
use Rattle.aprs_history.specs.declared.verdicts.Refusal.TheVariants as refusal
use Rattle.aprs_history.specs.declared.verdicts.Verdict.{Verdict}
use Rattle.aprs_history.specs.declared.verdicts.Verdict.TheVariants.{PassedOver, Refused, LoggedIn, Filtered, Accepted}

-- who says a line: a client on a port of that kind, which may have logged in; or another server or a station that sends its
-- packets in datagrams, from whom packets alone are taken
pub data Speaker : Type 0 where
  Visitor : (kind : PortKind) → (session : Option Session) → Speaker
  Carrier : (origin : Origin) → Speaker

-- what a line meets: the server's call, who says it, the logins of the other verified links, and which packets are copies of
-- one that was accepted a short while before
pub record Scene : Type 0 where
  pub server : List ℕ
  pub speaker : Speaker
  pub others : List (List ℕ)
  pub copies : Parts → Bool

-- a comment or command line
abbrev pub is_comment : List ℕ → Bool
is_comment text = starts_with ◌==◌ text (codes "#")

-- ---- filters (aprs-is.net, Server-side Filter Commands)

-- the reply to a filter that holds from now on
abbrev pub active_reply : List TermSeen → List ℕ
active_reply terms = codes "# filter " ++ (canonical terms ++ codes " active")

-- what becomes of a filter that reads so; no text reads as want of memory
abbrev pub answer_by : Result (List TermSeen) FilterError → FilterAnswer
answer_by (Ok terms) = Active terms (active_reply terms)
answer_by (Err (error.Term n)) = Denied (filter_fault.Term n)
answer_by (Err (error.TooMany letter)) = Denied (filter_fault.TooMany letter)
answer_by (Err other) = Denied filter_fault.Long

-- what becomes of a filter's text, on a port with filters or without
abbrev pub answer_of : Bool → List ℕ → FilterAnswer
answer_of filters text = if filters then answer_by (terms_of text) else Denied filter_fault.NoFilters

-- so many bytes from there
abbrev pub text_at : List ℕ → ℕ × ℕ → List ℕ
text_at line at = take at.1 (drop at.0 line)

-- the text without the blanks at both ends
abbrev pub unpadded : List ℕ → List ℕ
unpadded text = text_at text (trimmed 0 text)

abbrev pub ends_word : List ℕ → Bool
ends_word [] = true
ends_word (b ∷ bytes) = is_blank b

-- what follows the word `filter`, which has no case
abbrev pub after_filter : List ℕ → Option (List ℕ)
after_filter text = if is_keyword (codes "filter") (take 6 text) && ends_word (drop 6 text) then Some (drop 6 text) else None

abbrev pub without_first_blanks : List ℕ → List ℕ
without_first_blanks text = drop (prefix_len is_blank text) text

-- the filter that a command sets: `#`, perhaps blanks, the word `filter`, and then the text up to the line's end
abbrev pub filter_command : List ℕ → Option (List ℕ)
filter_command line = option_map unpadded (after_filter (without_first_blanks (drop 1 line)))

-- a comment or command, which only a link that has logged in may give
abbrev pub command_verdict : Bool → Option Session → Option (List ℕ) → Verdict
command_verdict filters None text = PassedOver
command_verdict filters (Some session) None = PassedOver
command_verdict filters (Some session) (Some text) = Filtered (answer_of filters text)

-- ---- logins

-- what becomes of a login's filter, where it has one
abbrev pub login_answer : Bool → List ℕ → Option (ℕ × ℕ) → Option FilterAnswer
login_answer filters line at = option_map (λ place. answer_of filters (text_at line place)) at

-- a login is good where it isn't the server's own call
abbrev pub login_verdict : List ℕ → Bool → List ℕ → Result Login LoginFault → Verdict
login_verdict server filters line (Err fault) = Refused (refusal.Login fault)
login_verdict server filters line (Ok login) =
    if is_text login.call server then Refused refusal.OwnName
    else LoggedIn (record { call = login.call; verified = is_verified login }) (login_answer filters line login.filter)

-- ---- packets

abbrev pub client_origin : Bool → Session → Origin
client_origin only session = origin.Client session.call session.verified only

-- the packet as the q construct rule sends it on
abbrev pub routed : Result Parts QDrop → Result Parts Refusal
routed (Err drop') = Err (refusal.Path drop')
routed (Ok parts) = Ok parts

abbrev pub read_and_routed : List ℕ → Origin → List (List ℕ) → Result Parts LineFault → Result Parts Refusal
read_and_routed server from others (Err fault) = Err (refusal.Packet fault)
read_and_routed server from others (Ok parts) = routed (process_of parts from server others)

-- a packet with this key was accepted less than so many seconds before
abbrev pub is_repeat : ℕ → ℕ → Key → PacketSeen → Bool
is_repeat seconds now key packet = nat_lt (now - packet.moment) seconds && is_same_key key (key_of packet.parts)

abbrev pub is_duplicate : ℕ → ℕ → List PacketSeen → Parts → Bool
is_duplicate seconds now accepted parts = list_any (is_repeat seconds now (key_of parts)) accepted

abbrev pub packet_verdict : (copies : Parts → Bool) → Result Parts Refusal → Verdict
packet_verdict copies (Err why) = Refused why
packet_verdict copies (Ok parts) =
    if copies parts then Refused (refusal.Duplicate parts (text_of parts)) else Accepted parts (text_of parts)

abbrev pub carried_verdict : Scene → Origin → List ℕ → Verdict
carried_verdict scene from text = packet_verdict scene.copies (read_and_routed scene.server from scene.others (parts_of text))

-- the verdict on a line of a client that is no comment: before the login it is a login, after it a packet, unless its port
-- only shows refused duplicates
abbrev pub visitor_verdict : Scene → PortKind → Option Session → List ℕ → Verdict
visitor_verdict scene kind None text = login_verdict scene.server (is_filter_kind kind) text (login_of text)
visitor_verdict scene kind (Some session) text =
    if is_dupe_kind kind then Refused refusal.ReadOnly else carried_verdict scene (client_origin (is_only_kind kind) session) text

abbrev pub spoken_verdict : Scene → Speaker → List ℕ → Verdict
spoken_verdict scene (Visitor kind session) text =
    if is_comment text then command_verdict (is_filter_kind kind) session (filter_command text) else visitor_verdict scene kind session text
spoken_verdict scene (Carrier from) text = if is_comment text then PassedOver else carried_verdict scene from text

-- the verdict on what was said
abbrev pub verdict_of : Scene → Cut → Verdict
verdict_of scene cut.Long = Refused refusal.Long
verdict_of scene (cut.Line text) = spoken_verdict scene scene.speaker text

-- ---- datagrams

-- the login that a datagram begins with
abbrev pub submitter_by : List ℕ → Result Login LoginFault → Result (List ℕ) Refusal
submitter_by server (Err fault) = Err (refusal.Login fault)
submitter_by server (Ok login) =
    if is_text login.call server then Err refusal.OwnName
    else if is_verified login then Ok login.call
    else Err (refusal.Path Unverified)

-- who submits a datagram by its first line, or why the whole is refused
abbrev pub submitter_of : List ℕ → Cut → Result (List ℕ) Refusal
submitter_of server cut.Long = Err refusal.Long
submitter_of server (cut.Line text) = submitter_by server (login_of text)
