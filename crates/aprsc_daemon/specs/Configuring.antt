-- What is wrong with a text that is no configuration.
use Rattle.std.specs.Prelude.{◌≡◌, ℕ, List, codes, Result, Err}
use Rattle.aprs_conf.specs.Seen.{ConfSeen}
use Rattle.aprs_conf.specs.declared.errors.ConfError.{ConfError}
use Rattle.aprs_conf.specs.declared.errors.ConfError.TheVariants as cause
use Rattle.aprs_conf.specs.declared.errors.ConfFault.{ConfFault}
use Rattle.aprs_conf.specs.declared.errors.ConfFault.TheVariants as fault
use Rattle.aprs_conf.specs.declared.errors.ConfWord.{ConfWord}
use Rattle.aprs_conf.specs.declared.errors.ConfWord.TheVariants as word
use Rattle.aprsc_daemon.specs.declared.configuring.Trouble.{Trouble}
use Rattle.aprsc_daemon.specs.declared.configuring.Trouble.TheVariants as trouble

-- what is wrong with a text that reads as this
abbrev pub IsTrouble : Trouble → Result ConfSeen ConfError → Type 0
IsTrouble (trouble.Line n f) said = said ≡ Err (cause.Line n f)
IsTrouble (trouble.Missing w) said = said ≡ Err (cause.Missing w)

-- ---- names

abbrev pub fault_name : ConfFault → List ℕ
fault_name fault.OpenQuote = codes "open-quote"
fault_name fault.UnknownWord = codes "unknown-word"
fault_name fault.Repeated = codes "repeated"
fault_name fault.BadCount = codes "bad-count"
fault_name fault.BadCall = codes "bad-call"
fault_name fault.BadNumber = codes "bad-number"
fault_name fault.BadTime = codes "bad-time"
fault_name fault.BadKind = codes "bad-kind"
fault_name fault.BadAddr = codes "bad-addr"
fault_name fault.BadHost = codes "bad-host"
fault_name fault.TooMany = codes "too-many"

abbrev pub word_name : ConfWord → List ℕ
word_name word.ServerId = codes "ServerId"
word_name word.PassCode = codes "PassCode"
word_name word.Listen = codes "Listen"
