-- What the journals are told of links that end.
use Rattle.std.specs.Prelude.{ℕ, if◌then◌else◌}
use Rattle.aprs_base.specs.Journals.{JournalLineSeen}
use Rattle.aprs_history.specs.declared.verdicts.EndReason.{EndReason}
use Rattle.aprs_history.specs.declared.verdicts.EndReason.TheVariants.{FoundGone, NoLogin, Silent, ByStop}
use Rattle.aprs_history.specs.Journal.{end_line}
use Rattle.aprs_history.specs.Stands.{LinkSeen}
use Rattle.served_links.specs.Links.{is_nameless_link}

-- the line of a link that was found gone
abbrev pub lost_line : ℕ → LinkSeen → JournalLineSeen
lost_line now link = end_line now link.link FoundGone

-- that of a link that is late, and why it ends
abbrev pub late_reason_kept : ℕ → LinkSeen → EndReason
late_reason_kept now link = if is_nameless_link now link then NoLogin else Silent

abbrev pub late_line : ℕ → LinkSeen → JournalLineSeen
late_line now link = end_line now link.link (late_reason_kept now link)

-- that of a link that a stop ends
abbrev pub stop_line : ℕ → LinkSeen → JournalLineSeen
stop_line now link = end_line now link.link ByStop
