-- What a history counts: packets that are accepted, duplicates, what else is refused, and the packet lines in the texts of links.
use Rattle.std.specs.Prelude.{ℕ, ◌+◌, ◌-◌, ◌^◌, Bool, true, false, List, [], ◌∷◌, length, filter, min, Option, Some, None}
use Rattle.aprs_base.specs.declared.totals.Totals.{Totals}
use Rattle.aprs_base.specs.declared.events.Happening.TheVariants as did
use Rattle.aprs_base.specs.declared.events.Sent.TheVariants as sent
use Rattle.aprs_history.specs.declared.verdicts.FilterAnswer.{FilterAnswer}
use Rattle.aprs_history.specs.declared.verdicts.FilterAnswer.TheVariants.{Active, Denied}
use Rattle.aprs_history.specs.declared.verdicts.Refusal.{Refusal}
use Rattle.aprs_history.specs.declared.verdicts.Refusal.TheVariants as refusal
use Rattle.aprs_history.specs.declared.verdicts.Verdict.{Verdict}
use Rattle.aprs_history.specs.declared.verdicts.Verdict.TheVariants.{Refused, LoggedIn, Filtered, Accepted}
use Rattle.aprs_history.specs.Setting.{Setting}
use Rattle.aprs_history.specs.Trace.{Trace, Entry, Said, live_links}
use Rattle.aprs_history.specs.Texts.{Text, TextLine, LineKind, Relayed, Shown, text_to}
use Rattle.aprs_history.specs.History.{History}

-- ---- verdicts

-- those on all that was said
abbrev pub verdicts_in : Trace → List Verdict
verdicts_in [] = []
verdicts_in (Said from cut verdict ∷ earlier) = verdict ∷ verdicts_in earlier
verdicts_in (entry ∷ earlier) = verdicts_in earlier

abbrev pub is_accepted : Verdict → Bool
is_accepted (Accepted parts line) = true
is_accepted verdict = false

abbrev pub is_duplicate_refusal : Refusal → Bool
is_duplicate_refusal (refusal.Duplicate parts line) = true
is_duplicate_refusal why = false

abbrev pub is_duplicate : Verdict → Bool
is_duplicate (Refused why) = is_duplicate_refusal why
is_duplicate verdict = false

abbrev pub is_denied : FilterAnswer → Bool
is_denied (Active terms reply) = false
is_denied (Denied why) = true

abbrev pub is_other_refusal : Refusal → Bool
is_other_refusal (refusal.Duplicate parts line) = false
is_other_refusal why = true

abbrev pub is_login_denied : Option FilterAnswer → Bool
is_login_denied None = false
is_login_denied (Some answer) = is_denied answer

-- refused for any other reason: a line, a datagram, or a filter, also that of a login
abbrev pub is_refused : Verdict → Bool
is_refused (Refused why) = is_other_refusal why
is_refused (LoggedIn session answer) = is_login_denied answer
is_refused (Filtered answer) = is_denied answer
is_refused verdict = false

-- how many verdicts are so
abbrev pub counted : (Verdict → Bool) → Trace → ℕ
counted test trace = length (filter test (verdicts_in trace))

-- ---- packet lines in the texts of links

abbrev pub is_packet_kind : LineKind → Bool
is_packet_kind (Relayed packet) = true
is_packet_kind (Shown packet) = true
is_packet_kind kind = false

abbrev pub is_packet_line : TextLine → Bool
is_packet_line text = is_packet_kind text.kind

abbrev pub packet_lines : Text → ℕ
packet_lines text = length (filter is_packet_line text.lines)

-- how many an entry puts into the text of a link
abbrev pub put_to : Setting → Entry → (earlier : Trace) → ℕ → ℕ
put_to setting entry earlier link = packet_lines (text_to setting (entry ∷ earlier) link) - packet_lines (text_to setting earlier link)

-- and into those of several links
abbrev pub put_to_all : Setting → Entry → (earlier : Trace) → List ℕ → ℕ
put_to_all setting entry earlier [] = 0
put_to_all setting entry earlier (link ∷ links) = put_to setting entry earlier link + put_to_all setting entry earlier links

-- all that were put into the texts of links: only what is said puts any, into those of links that live
abbrev pub put_in : Setting → Trace → ℕ
put_in setting [] = 0
put_in setting (Said from cut verdict ∷ earlier) = put_in setting earlier + put_to_all setting (Said from cut verdict) earlier (live_links earlier)
put_in setting (entry ∷ earlier) = put_in setting earlier

-- ---- the counts

-- a count, which stays at a counter's last value
abbrev pub capped : ℕ → ℕ
capped n = min n (2 ^ 64 - 1)

unfoldable pub totals_of : Setting → Trace → Totals
totals_of setting trace = record {
  accepted = capped (counted is_accepted trace);
  duplicate = capped (counted is_duplicate trace);
  refused = capped (counted is_refused trace);
  queued = capped (put_in setting trace);
}

-- the bytes that all links took
abbrev pub taken_in : History → ℕ
taken_in [] = 0
taken_in (did.Sent link bytes (sent.Took n) ∷ earlier) = taken_in earlier + n
taken_in (x ∷ earlier) = taken_in earlier
