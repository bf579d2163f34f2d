-- The journal of a history: a line for each refusal, each loop, and each step of a session, in order.
use Rattle.std.specs.Prelude.{ℕ, ◌-◌, Bool, true, false, List, [], ◌∷◌, ◌++◌, codes, length, Option, Some, None, if◌then◌else◌}
use Rattle.std.specs.Fmt.{decimal}
use Rattle.aprs_base.specs.Journals.{JournalLineSeen}
use Rattle.aprs_base.specs.declared.journals.Kind.{Kind}
use Rattle.aprs_base.specs.declared.journals.Kind.TheVariants as kind
use Rattle.aprs_base.specs.declared.events.Happening.TheVariants as did
use Rattle.aprs_base.specs.declared.packets.Source.{Source}
use Rattle.aprs_base.specs.declared.packets.Source.TheVariants as source
use Rattle.tnc2_line.specs.declared.reading.LineFault.{LineFault}
use Rattle.tnc2_line.specs.declared.reading.LineFault.TheVariants as line_fault
use Rattle.login_pass.specs.declared.login_line.LoginFault.{LoginFault}
use Rattle.login_pass.specs.declared.login_line.LoginFault.TheVariants as login_fault
use Rattle.q_construct.specs.declared.drops.QDrop.{QDrop}
use Rattle.q_construct.specs.declared.drops.QDrop.TheVariants as drop_for
use Rattle.uplinks_peers.specs.Uplinks.{is_dialled}
use Rattle.aprs_history.specs.declared.verdicts.Admission.{Admission}
use Rattle.aprs_history.specs.declared.verdicts.Admission.TheVariants.{NoPort}
use Rattle.aprs_history.specs.declared.verdicts.EndReason.{EndReason}
use Rattle.aprs_history.specs.declared.verdicts.EndReason.TheVariants.{ByPeer, FoundGone, NoLogin, Silent, Overfull, Full, Unasked, ByStop}
use Rattle.aprs_history.specs.declared.verdicts.FilterAnswer.{FilterAnswer}
use Rattle.aprs_history.specs.declared.verdicts.FilterAnswer.TheVariants.{Active, Denied}
use Rattle.aprs_history.specs.declared.verdicts.Refusal.{Refusal}
use Rattle.aprs_history.specs.declared.verdicts.Refusal.TheVariants as refusal
use Rattle.aprs_history.specs.declared.verdicts.Session.{Session}
use Rattle.aprs_history.specs.declared.verdicts.Verdict.{Verdict}
use Rattle.aprs_history.specs.declared.verdicts.Verdict.TheVariants.{Refused, LoggedIn, Filtered}
use Rattle.aprs_history.specs.Setting.{Setting, serving_listens}
use Rattle.aprs_history.specs.Trace.{Trace, Entry, Door, AtListener, ByUplink, RoundBegan, Opened, Said, Ended, Unjoined, moment_of}
use Rattle.aprs_history.specs.Dials.{uplinks_of}
use Rattle.aprs_history.specs.History.{History, ends_round, open_events, trace_of}

-- ---- the texts of lines

abbrev pub line_of : Kind → ℕ → List ℕ → JournalLineSeen
line_of kind moment text = record { kind = kind; moment = moment; text = text }

-- who said it: a link's number, or `u` and the number of the listener to which the datagram came; peers send to the last one
abbrev pub label : (group : ℕ) → Source → List ℕ
label group (source.Link link) = decimal link
label group (source.Submit listener) = codes "u" ++ decimal listener
label group (source.Peer peer) = codes "u" ++ decimal group

abbrev pub login_name : LoginFault → List ℕ
login_name login_fault.NotUser = codes "no-user"
login_name login_fault.BadCall = codes "bad-call"
login_name login_fault.NoPass = codes "no-pass"
login_name login_fault.BadPass = codes "bad-pass"

abbrev pub packet_name : LineFault → List ℕ
packet_name line_fault.NoColon = codes "no-colon"
packet_name line_fault.NoArrow = codes "no-arrow"
packet_name line_fault.BadSource = codes "bad-source"
packet_name line_fault.BadDest = codes "bad-dest"
packet_name (line_fault.BadVia n) = codes "bad-via " ++ decimal n
packet_name line_fault.TwoConstructs = codes "two-constructs"
packet_name line_fault.NoBody = codes "no-body"

abbrev pub path_name : QDrop → List ℕ
path_name drop_for.Unverified = codes "unverified"
path_name drop_for.NoGate = codes "no-gate"
path_name drop_for.ThirdParty = codes "third-party"
path_name drop_for.Query = codes "query"
path_name drop_for.QAZ = codes "qaz"
path_name drop_for.NamesServer = codes "names-server"
path_name (drop_for.Twice call) = codes "twice " ++ call
path_name (drop_for.OtherLogin call) = codes "other-login " ++ call
path_name drop_for.LoginNotLast = codes "login-not-last"
path_name drop_for.Long = codes "too-long"

-- the drops that tell of a loop
abbrev pub is_loop : QDrop → Bool
is_loop drop_for.NamesServer = true
is_loop (drop_for.Twice call) = true
is_loop (drop_for.OtherLogin call) = true
is_loop drop_for.LoginNotLast = true
is_loop other = false

abbrev pub refused_line : (label : List ℕ) → (moment : ℕ) → (name : List ℕ) → JournalLineSeen
refused_line label moment name = line_of kind.Refusal moment (codes "refused " ++ (label ++ (codes " " ++ name)))

abbrev pub loop_line : (label : List ℕ) → (moment : ℕ) → (name : List ℕ) → JournalLineSeen
loop_line label moment name = line_of kind.Loop moment (codes "loop " ++ (label ++ (codes " " ++ name)))

abbrev pub path_line : (label : List ℕ) → (moment : ℕ) → QDrop → JournalLineSeen
path_line label moment why = if is_loop why then loop_line label moment (path_name why) else refused_line label moment (path_name why)

-- the line of a refusal
abbrev pub refusal_line : (label : List ℕ) → (moment : ℕ) → Refusal → JournalLineSeen
refusal_line label moment refusal.Long = refused_line label moment (codes "long")
refusal_line label moment (refusal.Login fault) = refused_line label moment (login_name fault)
refusal_line label moment refusal.OwnName = refused_line label moment (codes "own-name")
refusal_line label moment (refusal.Packet fault) = refused_line label moment (packet_name fault)
refusal_line label moment refusal.ReadOnly = refused_line label moment (codes "read-only")
refusal_line label moment refusal.Stranger = refused_line label moment (codes "stranger")
refusal_line label moment (refusal.Path why) = path_line label moment why
refusal_line label moment (refusal.Duplicate parts line) = refused_line label moment (codes "duplicate")

-- a filter that is refused
abbrev pub filter_line : (label : List ℕ) → (moment : ℕ) → JournalLineSeen
filter_line label moment = refused_line label moment (codes "filter")

abbrev pub mark_name : (verified : Bool) → List ℕ
mark_name verified = if verified then codes "verified" else codes "unverified"

abbrev pub login_line : (label : List ℕ) → (moment : ℕ) → Session → JournalLineSeen
login_line label moment session = line_of kind.Session moment (codes "login " ++ (label ++ (codes " " ++ (session.call ++ (codes " " ++ mark_name session.verified)))))

abbrev pub open_line : (moment link listener : ℕ) → JournalLineSeen
open_line moment link listener = line_of kind.Session moment (codes "open " ++ (decimal link ++ (codes " " ++ decimal listener)))

abbrev pub join_line : (moment link uplink : ℕ) → JournalLineSeen
join_line moment link uplink = line_of kind.Session moment (codes "join " ++ (decimal link ++ (codes " " ++ decimal uplink)))

abbrev pub unjoined_line : (moment uplink : ℕ) → JournalLineSeen
unjoined_line moment uplink = line_of kind.Session moment (codes "unjoined " ++ decimal uplink)

abbrev pub reason_name : EndReason → List ℕ
reason_name ByPeer = codes "ended"
reason_name FoundGone = codes "gone"
reason_name NoLogin = codes "nologin"
reason_name Silent = codes "silent"
reason_name Overfull = codes "overfull"
reason_name Full = codes "full"
reason_name Unasked = codes "unasked"
reason_name ByStop = codes "stop"

abbrev pub end_line : (moment link : ℕ) → EndReason → JournalLineSeen
end_line moment link reason = line_of kind.Session moment (codes "end " ++ (decimal link ++ (codes " " ++ reason_name reason)))

-- ---- which lines there are

-- a filter has a line where it is refused
abbrev pub answer_lines : (label : List ℕ) → (moment : ℕ) → FilterAnswer → List JournalLineSeen
answer_lines label moment (Active terms reply) = []
answer_lines label moment (Denied fault) = filter_line label moment ∷ []

abbrev pub given_lines : (label : List ℕ) → (moment : ℕ) → Option FilterAnswer → List JournalLineSeen
given_lines label moment None = []
given_lines label moment (Some answer) = answer_lines label moment answer

-- what was said has a line where it is refused, and where it is a login; then comes that of the login's filter
abbrev pub verdict_lines : (label : List ℕ) → (moment : ℕ) → Verdict → List JournalLineSeen
verdict_lines label moment (Refused refusal) = refusal_line label moment refusal ∷ []
verdict_lines label moment (LoggedIn session answer) = login_line label moment session ∷ given_lines label moment answer
verdict_lines label moment (Filtered answer) = answer_lines label moment answer
verdict_lines label moment verdict = []

-- a link has a line as it comes, also where it is turned away or nobody had asked for it; a listener that isn't one for
-- clients has none
abbrev pub opening_lines : Door → Admission → (moment link : ℕ) → List JournalLineSeen
opening_lines (AtListener listener) NoPort moment link = []
opening_lines (AtListener listener) admission moment link = open_line moment link listener ∷ []
opening_lines (ByUplink uplink) admission moment link = join_line moment link uplink ∷ []

-- a dial that came to nothing has a line where that uplink was being dialled
abbrev pub unjoined_lines : (dialled : Option ℕ) → (moment uplink : ℕ) → List JournalLineSeen
unjoined_lines dialled moment uplink = if is_dialled uplink dialled then unjoined_line moment uplink ∷ [] else []

-- the number of the peer group's listener, which is the last
abbrev pub group_of : Setting → ℕ
group_of setting = serving_listens setting - 1

-- the lines of an entry, after those before it
abbrev pub entry_lines : Setting → Entry → (earlier : Trace) → List JournalLineSeen
entry_lines setting (Opened door admission link from) earlier = opening_lines door admission (moment_of earlier) link
entry_lines setting (Said from cut verdict) earlier = verdict_lines (label (group_of setting) from) (moment_of earlier) verdict
entry_lines setting (Ended link reason) earlier = end_line (moment_of earlier) link reason ∷ []
entry_lines setting (Unjoined uplink) earlier = unjoined_lines (uplinks_of setting earlier).dialled (moment_of earlier) uplink
entry_lines setting entry earlier = []

-- the lines of the last round, in order
abbrev pub round_lines : Setting → Trace → List JournalLineSeen
round_lines setting [] = []
round_lines setting (RoundBegan ∷ earlier) = []
round_lines setting (entry ∷ earlier) = round_lines setting earlier ++ entry_lines setting entry earlier

-- those of each round that is finished, in order
abbrev pub journal_of : Setting → History → List JournalLineSeen
journal_of setting [] = []
journal_of setting (did.Event e ∷ earlier) =
    if ends_round (open_events earlier) e then journal_of setting earlier ++ round_lines setting (trace_of setting (did.Event e ∷ earlier)) else journal_of setting earlier
journal_of setting (x ∷ earlier) = journal_of setting earlier
