-- What the reading of a configuration's file gives, and what is said of a file that gives none.
use Rattle.std.specs.Prelude.{◌≡◌, ◌⊎◌, ℕ, ◌<◌, ◌≤◌, List, length, Option, Result, Ok, Err, ⊤}
use Rattle.aprs_base.specs.Outside.{one_more}
use Rattle.aprs_base.specs.Stores.{FilesShown, Holds, SinkShown}
use Rattle.aprs_base.specs.declared.files.MemFile.{MemFile}
use Rattle.aprs_conf.specs.Grammar.{conf_of}
use Rattle.aprs_conf.specs.Seen.{ConfSeen}
use Rattle.aprs_conf.specs.Sound.{IsSound}
use Rattle.aprsc_daemon.specs.Causes.{ReadsNone, ReadsOne, Said}
use Rattle.aprsc_daemon.specs.Configuring.{IsTrouble}
use Rattle.aprsc_daemon.specs.Saying.{too_large_text, trouble_text, unread_text}
use Rattle.aprsc_daemon.specs.declared.configuring.Unfit.{Unfit}
use Rattle.aprsc_daemon.specs.declared.configuring.Unfit.TheVariants as unfit
use Rattle.aprsc_daemon.specs.declared.program.Status.{Status}
use Rattle.aprsc_daemon.specs.declared.program.Status.TheVariants as status

-- a text is neither too large nor unread
abbrev pub IsOfText : Unfit → Type 0
IsOfText unfit.TooLarge = ⊥
IsOfText unfit.Unread = ⊥
IsOfText (unfit.Trouble trouble) = ⊤
IsOfText unfit.Memory = ⊤

-- as far as the files tell, the file holds such bytes, of which this holds
abbrev pub HoldsSuch : Option (List MemFile) → List ℕ → (List ℕ → Type 0) → Type 0
HoldsSuch told name P = (bytes : List ℕ) × Holds told name bytes × P bytes

-- what they are where the file gives this
abbrev pub IsFit : Result ConfSeen Unfit → Option (List MemFile) → List ℕ → Type 0
IsFit (Ok conf) told name = IsSound conf × HoldsSuch told name (λ bytes. (length bytes ≤ 65536) × (conf_of bytes ≡ Ok conf))
IsFit (Err (unfit.Trouble trouble)) told name = HoldsSuch told name (λ bytes. (length bytes ≤ 65536) × IsTrouble trouble (conf_of bytes))
IsFit (Err unfit.TooLarge) told name = HoldsSuch told name (λ bytes. 65536 < length bytes)
IsFit (Err unfit.Unread) told name = ⊤
IsFit (Err unfit.Memory) told name = ⊤

-- the file was read, once; where memory was wanting, perhaps not at all
abbrev pub IsReadFor : Result ConfSeen Unfit → List ℕ → FilesShown → FilesShown → Type 0
IsReadFor (Err unfit.Memory) name old new = ReadsNone old new ⊎ ReadsOne name old new
IsReadFor result name old new = ReadsOne name old new

-- and that counts as failed where it couldn't be read
abbrev pub failed_by_loading : Result ConfSeen Unfit → ℕ → ℕ
failed_by_loading (Err unfit.Unread) faults = one_more faults
failed_by_loading result faults = faults

pub record Loads (old new : FilesShown) (name : List ℕ) (result : Result ConfSeen Unfit) : Type 0 where
  pub fit : IsFit result old.told name
  pub read : IsReadFor result name old new
  pub faults : new.faults ≡ failed_by_loading result old.faults

-- what is said of a file that gives no configuration
abbrev pub SaysUnfit : SinkShown → SinkShown → List ℕ → Unfit → Status → Type 0
SaysUnfit old new name unfit.TooLarge result = Said old new (too_large_text name) status.BadFile result
SaysUnfit old new name unfit.Unread result = Said old new (unread_text name) status.UnreadFile result
SaysUnfit old new name (unfit.Trouble trouble) result = Said old new (trouble_text name trouble) status.BadFile result
SaysUnfit old new name unfit.Memory result = (result ≡ status.NoMemory) × (new ≡ old)
