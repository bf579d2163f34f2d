-- What is known of one link: each is the last fitting entry of the trace, back to the link's opening.
use Rattle.std.specs.Prelude.{ℕ, ◌==◌, ◌+◌, ◌-◌, ◌&&◌, ◌||◌, Bool, true, false, is_none, nat_le, nat_lt, List, [], ◌∷◌, ◌++◌, Option, Some, None, filter, if◌then◌else◌}
use Rattle.aprs_base.specs.declared.packets.Source.{Source}
use Rattle.aprs_base.specs.declared.packets.Source.TheVariants as source
use Rattle.aprs_base.specs.declared.texts.Addr.{Addr}
use Rattle.filter_lang.specs.Terms.{TermSeen}
use Rattle.aprs_history.specs.declared.verdicts.FilterAnswer.{FilterAnswer}
use Rattle.aprs_history.specs.declared.verdicts.FilterAnswer.TheVariants.{Active, Denied}
use Rattle.aprs_history.specs.declared.verdicts.Session.{Session}
use Rattle.aprs_history.specs.declared.verdicts.Verdict.{Verdict}
use Rattle.aprs_history.specs.declared.verdicts.Verdict.TheVariants.{LoggedIn, Filtered}
use Rattle.aprs_history.specs.declared.verdicts.Admission.{Admission}
use Rattle.aprs_history.specs.declared.verdicts.Admission.TheVariants.{Served}
use Rattle.aprs_history.specs.declared.verdicts.LinkKind.{LinkKind}
use Rattle.aprs_history.specs.declared.verdicts.LinkKind.TheVariants.{Client, Uplink}
use Rattle.aprs_history.specs.Setting.{Setting, is_filter_kind}
use Rattle.aprs_history.specs.Trace.{Trace, Opened, Brought, Said, Roomed, Took, Lost, moment_of, is_from, is_live, live_links}
use Rattle.aprs_history.specs.declared.verdicts.EndReason.{EndReason}
use Rattle.aprs_history.specs.declared.verdicts.EndReason.TheVariants.{NoLogin, Silent}

-- a link's opening: what it is, where it came from, and when
pub record Opening : Type 0 where
  pub kind : LinkKind
  pub from : Addr
  pub moment : ℕ

abbrev pub opening_by : Admission → Addr → ℕ → Option Opening
opening_by (Served kind) from moment = Some (record { kind = kind; from = from; moment = moment })
opening_by admission from moment = None

abbrev pub opening_of : Trace → ℕ → Option Opening
opening_of [] link = None
opening_of (Opened door admission opened from ∷ earlier) link = if link == opened then opening_by admission from (moment_of earlier) else opening_of earlier link
opening_of (entry ∷ earlier) link = opening_of earlier link

-- ---- what a link is

abbrev pub is_client_of : LinkKind → Bool
is_client_of (Client kind) = true
is_client_of (Uplink uplink) = false

abbrev pub is_client_link : Option Opening → Bool
is_client_link None = false
is_client_link (Some opening) = is_client_of opening.kind

-- the links that live and are clients
abbrev pub client_links : Trace → List ℕ
client_links trace = filter (λ link. is_client_link (opening_of trace link)) (live_links trace)

abbrev pub is_client : Trace → ℕ → Bool
is_client trace link = is_live trace link && is_client_link (opening_of trace link)

-- a client whose port has filters
abbrev pub is_filter_of : LinkKind → Bool
is_filter_of (Client kind) = is_filter_kind kind
is_filter_of (Uplink uplink) = false

abbrev pub has_filters : Option Opening → Bool
has_filters None = false
has_filters (Some opening) = is_filter_of opening.kind

-- whether what comes from there was submitted: by a client, or in a datagram of its own
abbrev pub is_submitted : Trace → Source → Bool
is_submitted trace (source.Link link) = is_client_link (opening_of trace link)
is_submitted trace (source.Submit listener) = true
is_submitted trace (source.Peer peer) = false

-- when its last bytes came, or else it was opened
abbrev pub last_heard : Trace → ℕ → ℕ
last_heard [] link = 0
last_heard (Opened door admission opened from ∷ earlier) link = if link == opened then moment_of earlier else last_heard earlier link
last_heard (Brought from bytes ∷ earlier) link = if link == from then moment_of earlier else last_heard earlier link
last_heard (entry ∷ earlier) link = last_heard earlier link

-- all that it brought
abbrev pub brought_by : Trace → ℕ → List ℕ
brought_by [] link = []
brought_by (Opened door admission opened from ∷ earlier) link = if link == opened then [] else brought_by earlier link
brought_by (Brought from bytes ∷ earlier) link = if link == from then brought_by earlier link ++ bytes else brought_by earlier link
brought_by (entry ∷ earlier) link = brought_by earlier link

abbrev pub session_after : Verdict → Option Session → Option Session
session_after (LoggedIn session answer) before = Some session
session_after verdict before = before

-- the last accepted login
abbrev pub session_of : Trace → ℕ → Option Session
session_of [] link = None
session_of (Opened door admission opened from ∷ earlier) link = if link == opened then None else session_of earlier link
session_of (Said by cut verdict ∷ earlier) link = if is_from link by then session_after verdict (session_of earlier link) else session_of earlier link
session_of (entry ∷ earlier) link = session_of earlier link

-- a filter that is refused leaves the one before
abbrev pub filter_by : FilterAnswer → List TermSeen → List TermSeen
filter_by (Active terms reply) before = terms
filter_by (Denied fault) before = before

abbrev pub filter_after : Verdict → List TermSeen → List TermSeen
filter_after (LoggedIn session None) before = before
filter_after (LoggedIn session (Some answer)) before = filter_by answer before
filter_after (Filtered answer) before = filter_by answer before
filter_after verdict before = before

-- the last filter that was accepted, or else the empty one
abbrev pub filter_of : Trace → ℕ → List TermSeen
filter_of [] link = []
filter_of (Opened door admission opened from ∷ earlier) link = if link == opened then [] else filter_of earlier link
filter_of (Said by cut verdict ∷ earlier) link = if is_from link by then filter_after verdict (filter_of earlier link) else filter_of earlier link
filter_of (entry ∷ earlier) link = filter_of earlier link

-- how many bytes of its text it took
abbrev pub taken_by : Trace → ℕ → ℕ
taken_by [] link = 0
taken_by (Opened door admission opened from ∷ earlier) link = if link == opened then 0 else taken_by earlier link
taken_by (Took by offered taken ∷ earlier) link = if link == by then taken_by earlier link + taken else taken_by earlier link
taken_by (entry ∷ earlier) link = taken_by earlier link

-- it took less than it was offered, and has had no room since
abbrev pub is_blocked : Trace → ℕ → Bool
is_blocked [] link = false
is_blocked (Opened door admission opened from ∷ earlier) link = if link == opened then false else is_blocked earlier link
is_blocked (Took by offered taken ∷ earlier) link = if link == by then nat_lt taken offered else is_blocked earlier link
is_blocked (Roomed roomed ∷ earlier) link = if link == roomed then false else is_blocked earlier link
is_blocked (entry ∷ earlier) link = is_blocked earlier link

-- a send found it gone
abbrev pub is_gone : Trace → ℕ → Bool
is_gone [] link = false
is_gone (Opened door admission opened from ∷ earlier) link = if link == opened then false else is_gone earlier link
is_gone (Lost lost ∷ earlier) link = if link == lost then true else is_gone earlier link
is_gone (entry ∷ earlier) link = is_gone earlier link

abbrev pub gone_links : Trace → List ℕ
gone_links trace = filter (is_gone trace) (live_links trace)

-- ---- ends by time

-- the most seconds from a client's opening to its login, less one
abbrev pub login_seconds : ℕ
login_seconds = 30

abbrev pub opened_at : Option Opening → ℕ
opened_at None = 0
opened_at (Some opening) = opening.moment

-- it is a client, and has not logged in for half a minute
abbrev pub is_nameless : Trace → ℕ → Bool
is_nameless trace link = is_client_link (opening_of trace link) && (is_none (session_of trace link) && nat_le login_seconds (moment_of trace - opened_at (opening_of trace link)))

-- the most seconds without bytes, less one
abbrev pub timeout_of : Setting → Option Opening → ℕ
timeout_of setting opening = if is_client_link opening then setting.client_timeout else setting.up_timeout

-- it has brought no bytes for so many seconds
abbrev pub is_silent : Setting → Trace → ℕ → Bool
is_silent setting trace link = nat_le (timeout_of setting (opening_of trace link)) (moment_of trace - last_heard trace link)

-- whether a link ends by time, and why: where both rules apply it is for want of a login
abbrev pub is_late : Setting → Trace → ℕ → Bool
is_late setting trace link = is_nameless trace link || is_silent setting trace link

abbrev pub late_reason : Trace → ℕ → EndReason
late_reason trace link = if is_nameless trace link then NoLogin else Silent

abbrev pub late_links : Setting → Trace → List ℕ
late_links setting trace = filter (is_late setting trace) (live_links trace)
