-- What every verdict is fit for: a login is a station's, filters have few terms, and what is accepted is no copy.
use Rattle.std.specs.Prelude.{◌≡◌, Bool, true, false, nat_le, length, Option, Some, None, IsTrue, ⊤}
use Rattle.aprs_base.specs.Bytes.{is_station}
use Rattle.aprs_base.specs.declared.packets.Parts.{Parts}
use Rattle.aprs_history.specs.declared.verdicts.FilterAnswer.{FilterAnswer}
use Rattle.aprs_history.specs.declared.verdicts.FilterAnswer.TheVariants.{Active, Denied}
use Rattle.aprs_history.specs.declared.verdicts.Verdict.{Verdict}
use Rattle.aprs_history.specs.declared.verdicts.Verdict.TheVariants.{PassedOver, Refused, LoggedIn, Filtered, Accepted}

-- a filter has 64 terms at most
abbrev pub has_few : FilterAnswer → Bool
has_few (Active terms reply) = nat_le (length terms) 64
has_few (Denied why) = true

abbrev pub all_few : Option FilterAnswer → Bool
all_few None = true
all_few (Some answer) = has_few answer

abbrev pub IsFit : Verdict → Type 0
IsFit PassedOver = ⊤
IsFit (Refused why) = ⊤
IsFit (LoggedIn session answer) = IsTrue (is_station session.call) × IsTrue (all_few answer)
IsFit (Filtered answer) = IsTrue (has_few answer)
IsFit (Accepted parts line) = ⊤

-- what is accepted is no copy
abbrev pub IsNew : (copies : Parts → Bool) → Verdict → Type 0
IsNew copies PassedOver = ⊤
IsNew copies (Refused why) = ⊤
IsNew copies (LoggedIn session answer) = ⊤
IsNew copies (Filtered answer) = ⊤
IsNew copies (Accepted parts line) = copies parts ≡ false
