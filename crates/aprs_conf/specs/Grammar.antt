-- The grammar of a configuration: the value of a text, or its first fault (aprsc manual, Configuration).
use Rattle.std.specs.Prelude.{ℕ, ◌+◌, ◌%◌, ◌==◌, ◌&&◌, Bool, true, false, if◌then◌else◌, nat_le, not, min, List, [], ◌∷◌, ◌++◌, length, codes, Option, Some, None, Result, Ok, Err, unwrap_or, is_some}
use Rattle.std.specs.List.{find, list_any}
use Rattle.std.specs.Option.{option_map}
use Rattle.aprs_base.specs.UplinkSeen.{UplinkSeen}
use Rattle.aprs_base.specs.declared.texts.Addr.{Addr}
use Rattle.aprs_base.specs.ResultSteps.{◌>>=◌}
use Rattle.login_pass.specs.Login.{is_keyword}
use Rattle.aprs_conf.specs.declared.reading.LineWord.{LineWord}
use Rattle.aprs_conf.specs.declared.reading.LineWord.TheVariants as word
use Rattle.aprs_conf.specs.declared.errors.ConfError.{ConfError}
use Rattle.aprs_conf.specs.declared.errors.ConfError.TheVariants as cause
use Rattle.aprs_conf.specs.declared.errors.ConfFault.{ConfFault}
use Rattle.aprs_conf.specs.declared.errors.ConfFault.TheVariants as fault
use Rattle.aprs_conf.specs.declared.errors.ConfWord.TheVariants as needed
use Rattle.aprs_conf.specs.declared.types.Listen.{Listen}
use Rattle.aprs_conf.specs.declared.types.PeerSpec.{PeerSpec}
use Rattle.aprs_conf.specs.Arguments.{same, udp, tcp, station_of, code_of, clients_of, port_of, time_of, window_of, ip_of, host_of, kind_of}
use Rattle.aprs_conf.specs.Seen.{ConfSeen, DraftSeen}
use Rattle.aprs_conf.specs.Served.{all_listens}
use Rattle.aprs_conf.specs.Words.{Word, words_of, lines_of, is_remark, has_open, closed}

-- what is wanted, or else this fault
abbrev pub need : {E A : Type 0} → E → Option A → Result A E
need e None = Err e
need e (Some x) = Ok x

abbrev pub unless : Bool → ConfFault → {A : Type 0} → Result A ConfFault → Result A ConfFault
unless bad e more = if bad then Err e else more

-- ---- so many arguments

abbrev pub one_of : List (List ℕ) → Option (List ℕ)
one_of (a ∷ []) = Some a
one_of _ = None

abbrev pub two_of : List (List ℕ) → Option (List ℕ × List ℕ)
two_of (a ∷ b ∷ []) = Some (a, b)
two_of _ = None

abbrev pub five_of : List (List ℕ) → Option (List ℕ × List ℕ × List ℕ × List ℕ × List ℕ)
five_of (a ∷ b ∷ c ∷ d ∷ e ∷ []) = Some (a, b, c, d, e)
five_of _ = None

-- `hidden` alone, or nothing
abbrev pub is_hidden_at_most : List (List ℕ) → Bool
is_hidden_at_most [] = true
is_hidden_at_most (last ∷ more) = same last (codes "hidden") && (length more == 0)

-- five, and perhaps `hidden`
abbrev pub listen_of : List (List ℕ) → Option (List ℕ × List ℕ × List ℕ × List ℕ × List ℕ)
listen_of (a ∷ b ∷ c ∷ d ∷ e ∷ more) = if is_hidden_at_most more then Some (a, b, c, d, e) else None
listen_of _ = None

-- four, and three for each of 1 to 8 peers
abbrev pub is_group : List (List ℕ) → Bool
is_group args = nat_le 7 (length args) && nat_le (length args) 28 && (length args % 3 == 1)

-- ---- what a line says: the draft with it, or its first fault

abbrev pub at_of : List ℕ → List ℕ → Result Addr ConfFault
at_of address number = do
  ip ← need fault.BadAddr (ip_of address)
  port ← need fault.BadNumber (port_of number)
  Ok (record { ip = ip; port = port })

-- `Listen NAME KIND PROTO ADDR PORT`
abbrev pub listen_in : List (List ℕ) → Result Listen ConfFault
listen_in args = do
  five ← need fault.BadCount (listen_of args)
  port ← need fault.BadKind (kind_of five.1 five.2)
  at ← at_of five.3 five.4
  Ok (record { name = five.0; spec = record { kind = port.kind; at = at }; idle = port.idle })

-- no listener more may come
abbrev pub is_full : DraftSeen → Bool
is_full draft = nat_le 16 (length (all_listens draft.listens draft.upload draft.page))

abbrev pub with_listen : DraftSeen → Listen → Result DraftSeen ConfFault
with_listen draft listen = unless (is_full draft) fault.TooMany (Ok (record draft { listens = draft.listens ++ listen ∷ [] }))

unfoldable pub listen_says : DraftSeen → List (List ℕ) → Result DraftSeen ConfFault
listen_says draft args = listen_in args >>= with_listen draft

-- `ADDR PORT`
abbrev pub front_in : List (List ℕ) → Result Addr ConfFault
front_in args = do
  two ← need fault.BadCount (two_of args)
  at_of two.0 two.1

-- `HTTPUpload ADDR PORT`
abbrev pub with_upload : DraftSeen → Addr → Result DraftSeen ConfFault
with_upload draft at = unless (is_full draft) fault.TooMany (Ok (record draft { upload = Some at }))

unfoldable pub upload_says : DraftSeen → List (List ℕ) → Result DraftSeen ConfFault
upload_says draft args = front_in args >>= with_upload draft

-- `HTTPStatus ADDR PORT`
abbrev pub with_page : DraftSeen → Addr → Result DraftSeen ConfFault
with_page draft at = unless (is_full draft) fault.TooMany (Ok (record draft { page = Some at }))

unfoldable pub page_says : DraftSeen → List (List ℕ) → Result DraftSeen ConfFault
page_says draft args = front_in args >>= with_page draft

-- `Uplink NAME full tcp HOST PORT`
abbrev pub is_full_feed : List ℕ → List ℕ → Bool
is_full_feed kind proto = same kind (codes "full") && same proto tcp

abbrev pub uplink_in : List (List ℕ) → Result UplinkSeen ConfFault
uplink_in args = do
  five ← need fault.BadCount (five_of args)
  unless (not (is_full_feed five.1 five.2)) fault.BadKind (do
    host ← need fault.BadHost (host_of five.3)
    port ← need fault.BadNumber (port_of five.4)
    Ok (record { host = host; port = port }))

abbrev pub with_uplink : DraftSeen → UplinkSeen → Result DraftSeen ConfFault
with_uplink draft uplink =
    unless (nat_le 8 (length draft.uplinks)) fault.TooMany (Ok (record draft { uplinks = draft.uplinks ++ uplink ∷ [] }))

unfoldable pub uplink_says : DraftSeen → List (List ℕ) → Result DraftSeen ConfFault
uplink_says draft args = uplink_in args >>= with_uplink draft

abbrev pub peer_of : List ℕ → List ℕ → List ℕ → Result PeerSpec ConfFault
peer_of name address port = do
  call ← need fault.BadCall (station_of name)
  at ← at_of address port
  Ok (record { call = call; at = at })

-- these peers, and those of the arguments behind them, by threes
abbrev pub peers_from : List PeerSpec → List (List ℕ) → Result (List PeerSpec) ConfFault
peers_from peers [] = Ok peers
peers_from peers (call ∷ address ∷ port ∷ more) = peer_of call address port >>= λ peer. peers_from (peers ++ peer ∷ []) more
peers_from peers _ = Err fault.BadCount

-- `PeerGroup NAME udp ADDR PORT`, and what stands behind it
abbrev pub group_in : List (List ℕ) → Result (Addr × List (List ℕ)) ConfFault
group_in (name ∷ proto ∷ address ∷ port ∷ more) = unless (not (same proto udp)) fault.BadKind (at_of address port >>= λ at. Ok (at, more))
group_in _ = Err fault.BadCount

-- and behind it `CALL ADDR PORT` for each peer
unfoldable pub group_says : DraftSeen → List (List ℕ) → Result DraftSeen ConfFault
group_says draft args = unless (not (is_group args)) fault.BadCount (do
  group ← group_in args
  peers ← peers_from [] group.1
  Ok (record draft { group = Some group.0; peers = peers }))

abbrev pub server_says : DraftSeen → List (List ℕ) → Result DraftSeen ConfFault
server_says draft args = do
  text ← need fault.BadCount (one_of args)
  call ← need fault.BadCall (station_of text)
  Ok (record draft { server = Some call })

abbrev pub code_says : DraftSeen → List (List ℕ) → Result DraftSeen ConfFault
code_says draft args = do
  text ← need fault.BadCount (one_of args)
  code ← need fault.BadNumber (code_of text)
  Ok (record draft { code = Some code })

abbrev pub admin_says : DraftSeen → List (List ℕ) → Result DraftSeen ConfFault
admin_says draft args = do
  text ← need fault.BadCount (one_of args)
  Ok (record draft { admin = Some text })

abbrev pub email_says : DraftSeen → List (List ℕ) → Result DraftSeen ConfFault
email_says draft args = do
  text ← need fault.BadCount (one_of args)
  Ok (record draft { email = Some text })

-- `UpstreamTimeout TIME`, `ClientTimeout TIME`
abbrev pub time_in_line : List (List ℕ) → Result ℕ ConfFault
time_in_line args = do
  text ← need fault.BadCount (one_of args)
  need fault.BadTime (time_of text)

abbrev pub timeout_says : (ℕ → DraftSeen) → List (List ℕ) → Result DraftSeen ConfFault
timeout_says with_time args = time_in_line args >>= λ time. Ok (with_time time)

abbrev pub clients_say : DraftSeen → List (List ℕ) → Result DraftSeen ConfFault
clients_say draft args = do
  text ← need fault.BadCount (one_of args)
  most ← need fault.BadNumber (clients_of text)
  Ok (record draft { max_clients = Some most })

abbrev pub window_says : DraftSeen → List (List ℕ) → Result DraftSeen ConfFault
window_says draft args = do
  text ← need fault.BadCount (one_of args)
  window ← need fault.BadTime (window_of text)
  Ok (record draft { dupe_window = Some window })

-- what has no effect here has one argument or more
abbrev pub nothing_says : DraftSeen → List (List ℕ) → Result DraftSeen ConfFault
nothing_says draft args = unless (length args == 0) fault.BadCount (Ok draft)

abbrev pub says : LineWord → DraftSeen → List (List ℕ) → Result DraftSeen ConfFault
says word.ServerId draft args = server_says draft args
says word.PassCode draft args = code_says draft args
says word.MyAdmin draft args = admin_says draft args
says word.MyEmail draft args = email_says draft args
says word.Listen draft args = listen_says draft args
says word.HttpUpload draft args = upload_says draft args
says word.HttpStatus draft args = page_says draft args
says word.Uplink draft args = uplink_says draft args
says word.PeerGroup draft args = group_says draft args
says word.UpstreamTimeout draft args = timeout_says (λ time. record draft { up_timeout = Some time }) args
says word.ClientTimeout draft args = timeout_says (λ time. record draft { client_timeout = Some time }) args
says word.MaxClients draft args = clients_say draft args
says word.DupeWindow draft args = window_says draft args
says word.Unused draft args = nothing_says draft args

-- ---- a line

-- the words that begin a line, letters taken without their case
pub record WordRow : Type 0 where
  pub name : List ℕ
  pub word : LineWord

abbrev pub word_row : List ℕ → LineWord → WordRow
word_row name w = record { name = name; word = w }

abbrev pub line_words : List WordRow
line_words =
    word_row (codes "ServerId") word.ServerId
    ∷ word_row (codes "PassCode") word.PassCode
    ∷ word_row (codes "MyAdmin") word.MyAdmin
    ∷ word_row (codes "MyEmail") word.MyEmail
    ∷ word_row (codes "Listen") word.Listen
    ∷ word_row (codes "HTTPUpload") word.HttpUpload
    ∷ word_row (codes "HTTPStatus") word.HttpStatus
    ∷ word_row (codes "Uplink") word.Uplink
    ∷ word_row (codes "PeerGroup") word.PeerGroup
    ∷ word_row (codes "UpstreamTimeout") word.UpstreamTimeout
    ∷ word_row (codes "ClientTimeout") word.ClientTimeout
    ∷ word_row (codes "MaxClients") word.MaxClients
    ∷ word_row (codes "DupeWindow") word.DupeWindow
    ∷ []

-- those without effect here
abbrev pub unused : List (List ℕ)
unused = codes "RunDir" ∷ codes "LogRotate" ∷ codes "FileLimit" ∷ []

abbrev pub is_unused : List ℕ → Bool
is_unused text = list_any (λ name. is_keyword name text) unused

abbrev pub or_unused : Bool → Option LineWord → Option LineWord
or_unused is_there (Some w) = Some w
or_unused is_there None = if is_there then Some word.Unused else None

abbrev pub word_of : List ℕ → Option LineWord
word_of text = or_unused (is_unused text) (option_map (λ row. row.word) (find (λ row. is_keyword row.name text) line_words))

-- whether a line of this word has said what may be said once
abbrev pub was_said : LineWord → DraftSeen → Bool
was_said word.ServerId draft = is_some draft.server
was_said word.PassCode draft = is_some draft.code
was_said word.MyAdmin draft = is_some draft.admin
was_said word.MyEmail draft = is_some draft.email
was_said word.HttpUpload draft = is_some draft.upload
was_said word.HttpStatus draft = is_some draft.page
was_said word.PeerGroup draft = is_some draft.group
was_said word.UpstreamTimeout draft = is_some draft.up_timeout
was_said word.ClientTimeout draft = is_some draft.client_timeout
was_said word.MaxClients draft = is_some draft.max_clients
was_said word.DupeWindow draft = is_some draft.dupe_window
was_said word.Listen draft = false
was_said word.Uplink draft = false
was_said word.Unused draft = false

abbrev pub line_says : DraftSeen → List (List ℕ) → Result DraftSeen ConfFault
line_says draft [] = Ok draft
line_says draft (name ∷ args) = do
  word ← need fault.UnknownWord (word_of name)
  unless (was_said word draft) fault.Repeated (says word draft args)

-- lines without words and remarks are skipped
abbrev pub words_say : DraftSeen → List Word → Result DraftSeen ConfFault
words_say draft words =
    if is_remark words then Ok draft else unless (has_open words) fault.OpenQuote (line_says draft (closed words))

unfoldable pub after : DraftSeen → List ℕ → Result DraftSeen ConfFault
after draft line = words_say draft (words_of line)

-- ---- the whole

-- the number of the next line, which stands still at the greatest of 32 bits
abbrev pub next : ℕ → ℕ
next n = min (n + 1) 4294967295

abbrev pub at_line : {A : Type 0} → ℕ → Result A ConfFault → Result A ConfError
at_line n (Ok x) = Ok x
at_line n (Err e) = Err (cause.Line n e)

-- the draft of these lines, of which the first has this number
abbrev pub drafted : ℕ → DraftSeen → List (List ℕ) → Result DraftSeen ConfError
drafted n draft [] = Ok draft
drafted n draft (line ∷ lines) = at_line n (after draft line) >>= λ more. drafted (next n) more lines

abbrev pub empty : DraftSeen
empty = record { server = None; code = None; admin = None; email = None; listens = []; upload = None; page = None; uplinks = []; group = None; peers = []; up_timeout = None; client_timeout = None; max_clients = None; dupe_window = None }

-- the configuration of a draft: 15 seconds, 48 hours, 500 clients and a window of 30 seconds, where the lines say nothing else
abbrev pub filled : DraftSeen → List ℕ → ℕ → ConfSeen
filled draft server code = record {
  server = server;
  code = code;
  admin = unwrap_or draft.admin [];
  email = unwrap_or draft.email [];
  listens = draft.listens;
  upload = draft.upload;
  page = draft.page;
  uplinks = draft.uplinks;
  group = draft.group;
  peers = draft.peers;
  up_timeout = unwrap_or draft.up_timeout 15;
  client_timeout = unwrap_or draft.client_timeout 172800;
  max_clients = unwrap_or draft.max_clients 500;
  dupe_window = unwrap_or draft.dupe_window 30;
}

-- where no required word is missing
abbrev pub listening : DraftSeen → ConfSeen → Result ConfSeen ConfError
listening draft conf = if length draft.listens == 0 then Err (cause.Missing needed.Listen) else Ok conf

abbrev pub conf_with : DraftSeen → Result ConfSeen ConfError
conf_with draft = do
  server ← need (cause.Missing needed.ServerId) draft.server
  code ← need (cause.Missing needed.PassCode) draft.code
  listening draft (filled draft server code)

-- the configuration that a text is, or the fault of its first bad line, or the first word that is missing
unfoldable pub conf_of : List ℕ → Result ConfSeen ConfError
conf_of text = drafted 1 empty (lines_of text) >>= conf_with
