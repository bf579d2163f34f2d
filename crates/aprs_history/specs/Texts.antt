-- The text that each link is to take, line by line, and what of it is still to be taken.
use Rattle.std.specs.Prelude.{ℕ, ◌==◌, ◌&&◌, ◌||◌, Bool, true, false, not, is_some, List, [], ◌∷◌, ◌++◌, length, map, filter, drop, codes, Option, Some, None, if◌then◌else◌}
use Rattle.std.specs.Str.{byte}
use Rattle.std.specs.Fmt.{decimal}
use Rattle.aprs_base.specs.PacketSeen.{PacketSeen}
use Rattle.aprs_base.specs.declared.packets.PortKind.{PortKind}
use Rattle.aprs_base.specs.declared.packets.PortKind.TheVariants as kind
use Rattle.aprs_base.specs.declared.packets.Source.{Source}
use Rattle.link_queue.specs.Lines.{queued, text_bytes}
use Rattle.aprs_history.specs.Dates.{comment_text}
use Rattle.aprs_history.specs.Setting.{Setting, is_dupe_kind}
use Rattle.aprs_history.specs.declared.verdicts.LinkKind.{LinkKind}
use Rattle.aprs_history.specs.declared.verdicts.LinkKind.TheVariants.{Client, Uplink}
use Rattle.login_pass.specs.declared.login_line.LoginFault.{LoginFault}
use Rattle.login_pass.specs.declared.login_line.LoginFault.TheVariants as fault
use Rattle.aprs_history.specs.declared.verdicts.FilterAnswer.{FilterAnswer}
use Rattle.aprs_history.specs.declared.verdicts.FilterAnswer.TheVariants.{Active, Denied}
use Rattle.aprs_history.specs.declared.verdicts.FilterFault.{FilterFault}
use Rattle.aprs_history.specs.declared.verdicts.FilterFault.TheVariants as filter_fault
use Rattle.aprs_history.specs.declared.verdicts.Session.{Session}
use Rattle.aprs_history.specs.declared.verdicts.Refusal.{Refusal}
use Rattle.aprs_history.specs.declared.verdicts.Refusal.TheVariants as refusal
use Rattle.aprs_history.specs.declared.verdicts.Verdict.{Verdict}
use Rattle.aprs_history.specs.declared.verdicts.Verdict.TheVariants.{PassedOver, Refused, LoggedIn, Filtered, Accepted}
use Rattle.aprs_history.specs.declared.verdicts.Admission.{Admission}
use Rattle.aprs_history.specs.declared.verdicts.Admission.TheVariants.{Served}
use Rattle.aprs_history.specs.Trace.{Trace, Opened, Said, Dated, is_from, is_live, live_links, moment_of}
use Rattle.aprs_history.specs.Links.{Opening, is_client, is_submitted, opening_of, session_of, taken_by}
use Rattle.aprs_history.specs.Scenes.{packet_of}
use Rattle.aprs_history.specs.Messages.{is_asked}
use Rattle.aprs_history.specs.Sights.{filter_passes}

abbrev pub banner : List ℕ
banner = codes "# aprsc 1.0"

abbrev pub verified_word : Bool → List ℕ
verified_word true = codes " verified, server "
verified_word false = codes " unverified, server "

-- the reply to a login
abbrev pub login_reply : List ℕ → Session → List ℕ
login_reply server session = codes "# logresp " ++ (session.call ++ (verified_word session.verified ++ server))

-- what a login that is refused is told
abbrev pub fault_word : LoginFault → List ℕ
fault_word fault.NotUser = codes "no user"
fault_word fault.BadCall = codes "bad call"
fault_word fault.NoPass = codes "no pass"
fault_word fault.BadPass = codes "bad pass"

abbrev pub refused_login : List ℕ → List ℕ
refused_login word = codes "# login refused, " ++ word

-- the reply to a line that is refused, where there is one
abbrev pub refusal_reply : Refusal → Option (List ℕ)
refusal_reply (refusal.Login why) = Some (refused_login (fault_word why))
refusal_reply refusal.OwnName = Some (refused_login (codes "own name"))
refusal_reply other = None

-- what is told of a filter that is refused
abbrev pub refused_filter : List ℕ → List ℕ
refused_filter words = codes "# filter refused, " ++ words

-- the kinds of which there may be nine are `r`, `f` and `a`
abbrev pub excess_words : ℕ → List ℕ
excess_words letter =
    if letter == byte "*" then codes "too many terms"
    else if letter == byte "r" then codes "too many r"
    else if letter == byte "f" then codes "too many f"
    else codes "too many a"

abbrev pub filter_words : FilterFault → List ℕ
filter_words filter_fault.NoFilters = codes "this port has no filter"
filter_words filter_fault.Long = codes "too long"
filter_words (filter_fault.Term n) = codes "term " ++ decimal n
filter_words (filter_fault.TooMany letter) = excess_words letter

-- the reply to a filter
abbrev pub filter_reply : FilterAnswer → List ℕ
filter_reply (Active terms reply) = reply
filter_reply (Denied why) = refused_filter (filter_words why)

-- where a line of a text comes from
pub data LineKind : Type 0 where
  Banner : LineKind
  Login : LineKind
  Reply : LineKind
  Comment : LineKind
  Relayed : (packet : PacketSeen) → LineKind
  -- a refused duplicate
  Shown : (packet : PacketSeen) → LineKind

pub record TextLine : Type 0 where
  pub kind : LineKind
  pub line : List ℕ

abbrev pub reply_of : List ℕ → TextLine
reply_of line = record { kind = Reply; line = line }

abbrev pub relayed : PacketSeen → TextLine
relayed packet = record { kind = Relayed packet; line = packet.line }

abbrev pub shown : PacketSeen → TextLine
shown packet = record { kind = Shown packet; line = packet.line }

abbrev pub login_filter_reply : Option FilterAnswer → List TextLine
login_filter_reply None = []
login_filter_reply (Some answer) = reply_of (filter_reply answer) ∷ []

abbrev pub reply_lines : Option (List ℕ) → List TextLine
reply_lines None = []
reply_lines (Some line) = reply_of line ∷ []

-- the line by which the server logs in at an uplink
abbrev pub login_by : (call digits : List ℕ) → List ℕ
login_by call digits = codes "user " ++ (call ++ (codes " pass " ++ (digits ++ codes " vers aprsc 1.0")))

abbrev pub login_with : (call : List ℕ) (code : ℕ) → List ℕ
login_with call code = login_by call (decimal code)

abbrev pub uplink_login : Setting → List ℕ
uplink_login setting = login_with setting.server setting.code

-- what the text of a link begins with
abbrev pub first_line : Setting → LinkKind → TextLine
first_line setting (Client port) = record { kind = Banner; line = banner }
first_line setting (Uplink uplink) = record { kind = Login; line = uplink_login setting }

abbrev pub first_lines : Setting → Admission → List TextLine
first_lines setting (Served link) = first_line setting link ∷ []
first_lines setting admission = []

-- whether a port of that kind sends an accepted packet of another link, as the link's filter or the message rule asks for it or not
abbrev pub port_wants : PortKind → (asked : Bool) → Bool
port_wants kind.Full asked = true
port_wants kind.Igate asked = asked
port_wants kind.Only asked = asked
port_wants other asked = false

-- a client's port must want it, and the client must have logged in; an uplink is sent what was submitted here
abbrev pub link_wants : LinkKind → (named submitted asked : Bool) → Bool
link_wants (Client port) named submitted asked = named && port_wants port asked
link_wants (Uplink uplink) named submitted asked = submitted

abbrev pub opening_wants : Option Opening → (named submitted asked : Bool) → Bool
opening_wants None named submitted asked = false
opening_wants (Some opening) named submitted asked = link_wants opening.kind named submitted asked

-- whether a link is sent an accepted packet: it lives, isn't the one that it came from, and wants it
abbrev pub wants : Trace → PacketSeen → ℕ → Bool
wants trace packet link =
    not (is_from link packet.from) && is_live trace link
    && opening_wants (opening_of trace link) (is_some (session_of trace link)) (is_submitted trace packet.from) (filter_passes trace packet link || is_asked trace packet link)

-- a client that is shown the duplicates that others are refused
abbrev pub is_dupe_of : LinkKind → Bool
is_dupe_of (Client port) = is_dupe_kind port
is_dupe_of (Uplink uplink) = false

abbrev pub shows_duplicates : Option Opening → Option Session → Bool
shows_duplicates None session = false
shows_duplicates (Some opening) session = is_dupe_of opening.kind && is_some session

abbrev pub is_shown : Trace → Source → ℕ → Bool
is_shown trace from link = not (is_from link from) && is_live trace link && shows_duplicates (opening_of trace link) (session_of trace link)

-- what a refusal adds to the text of the link whose line it is, and to those of others
abbrev pub refused_lines : Trace → Source → Refusal → ℕ → List TextLine
refused_lines earlier from (refusal.Duplicate parts line) link =
    if is_shown earlier from link then shown (packet_of from (moment_of earlier) parts line) ∷ [] else []
refused_lines earlier from why link = if is_from link from then reply_lines (refusal_reply why) else []

-- what a verdict on a line adds to the text of a link
abbrev pub added_by : Setting → Trace → Source → Verdict → ℕ → List TextLine
added_by setting earlier from PassedOver link = []
added_by setting earlier from (Refused why) link = refused_lines earlier from why link
added_by setting earlier from (LoggedIn session answer) link =
    if is_from link from then reply_of (login_reply setting.server session) ∷ login_filter_reply answer else []
added_by setting earlier from (Filtered answer) link = if is_from link from then reply_of (filter_reply answer) ∷ [] else []
added_by setting earlier from (Accepted parts line) link =
    let packet = packet_of from (moment_of earlier) parts line in
    if wants earlier packet link then relayed packet ∷ [] else []

-- the comment line that tells the date
abbrev pub comment_line : List ℕ → ℕ → TextLine
comment_line server moment = record { kind = Comment; line = comment_text server moment }

-- the text of a link: its lines, in order, from its opening on; and whether a line didn't fit any more
pub record Text : Type 0 where
  pub lines : List TextLine
  pub over : Bool

abbrev pub plain_line : TextLine → List ℕ
plain_line text = text.line

abbrev pub plain : List TextLine → List (List ℕ)
plain lines = map plain_line lines

-- the most lines that a link hasn't wholly taken
abbrev pub most_waiting : ℕ
most_waiting = 1000

-- how many lines of a text, of which so many bytes are taken, aren't wholly taken
abbrev pub waiting_lines : Text → ℕ → ℕ
waiting_lines text taken = length (queued (plain text.lines) taken).lines

-- a line more, where it fits; from the first on that doesn't, none is added
abbrev pub with_text_line : ℕ → TextLine → Text → Text
with_text_line taken line text =
    if text.over then text
    else if waiting_lines text taken == most_waiting then record text { over = true }
    else record text { lines = text.lines ++ line ∷ [] }

abbrev pub with_text_lines : ℕ → List TextLine → Text → Text
with_text_lines taken [] text = text
with_text_lines taken (line ∷ lines) text = with_text_lines taken lines (with_text_line taken line text)

abbrev pub text_to : Setting → Trace → ℕ → Text
text_to setting [] link = record { lines = []; over = false }
text_to setting (Opened door admission opened from ∷ earlier) link =
    if link == opened then record { lines = first_lines setting admission; over = false } else text_to setting earlier link
text_to setting (Said from cut verdict ∷ earlier) link =
    with_text_lines (taken_by earlier link) (added_by setting earlier from verdict link) (text_to setting earlier link)
text_to setting (Dated moment ∷ earlier) link =
    with_text_lines (taken_by earlier link) (if is_client earlier link then comment_line setting.server moment ∷ [] else []) (text_to setting earlier link)
text_to setting (entry ∷ earlier) link = text_to setting earlier link

-- the links that are overfull
abbrev pub over_links : Setting → Trace → List ℕ
over_links setting trace = filter (λ link. (text_to setting trace link).over) (live_links trace)

-- its lines, wherever they come from
abbrev pub lines_of : Setting → Trace → ℕ → List (List ℕ)
lines_of setting trace link = plain (text_to setting trace link).lines

-- the bytes of the text that the link has not taken yet
abbrev pub untaken : Setting → Trace → ℕ → List ℕ
untaken setting trace link = drop (taken_by trace link) (text_bytes (lines_of setting trace link))
