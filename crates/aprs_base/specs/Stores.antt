-- What files hold and what a sink was given, where they tell it.
use Rattle.std.specs.Prelude.{◌≡◌, ℕ, ◌≤◌, ◌<◌, ◌==◌, ◌&&◌, nat_lt, List, [], ◌∷◌, ◌++◌, length, take, Option, Some, None, Result, Ok, Err, OnOk, OnErr, IfOk, IsErrOf, ⊤, if◌then◌else◌}
use Rattle.std.specs.Option.{option_map}
use Rattle.std.specs.List.{position}
use Rattle.std.specs.Cmp.Lexicographic.{pointwise}
use Rattle.aprs_base.specs.Outside.{one_more}
use Rattle.aprs_base.specs.declared.files.FileError.{FileError}
use Rattle.aprs_base.specs.declared.files.FileError.TheVariants as file_error
use Rattle.aprs_base.specs.declared.files.MemFile.{MemFile}
use Rattle.aprs_base.specs.declared.sinks.SinkError.{SinkError}
use Rattle.aprs_base.specs.declared.sinks.SinkError.TheVariants as sink_error

-- the bytes of the first file of that name
abbrev pub bytes_named : List ℕ → List MemFile → Option (List ℕ)
bytes_named name [] = None
bytes_named name (file ∷ files) = if pointwise ◌==◌ file.name name then Some file.bytes else bytes_named name files

-- the place of the first file of that name, where files tell their names
abbrev pub place_named : List ℕ → Option (List MemFile) → Option ℕ
place_named name None = None
place_named name (Some files) = position (λ file. pointwise ◌==◌ file.name name) files

-- what files show: their names and bytes, and the place of the one that was read last, where they tell them; how many reads were
-- made, and how many of these failed
pub record FilesShown : Type 0 where
  pub told : Option (List MemFile)
  pub last : Option ℕ
  pub reads : ℕ
  pub faults : ℕ

-- the file holds these bytes, as far as the files tell
abbrev pub Holds : Option (List MemFile) → List ℕ → List ℕ → Type 0
Holds None name bytes = ⊤
Holds (Some files) name bytes = bytes_named name files ≡ Some bytes

-- what stood before a read, or what stands after it; a read for which memory was wanting counts as not made
abbrev pub after_reading : {T A : Type 0} → Result T FileError → A → A → A
after_reading (Ok _) before after = after
after_reading (Err file_error.Big) before after = after
after_reading (Err file_error.Failed) before after = after
after_reading (Err file_error.Memory) before after = before

-- the count of failed reads after one more: it is one more exactly where that failed
abbrev pub failed_reads_after : {T : Type 0} → Result T FileError → ℕ → ℕ
failed_reads_after (Ok _) faults = faults
failed_reads_after (Err file_error.Big) faults = faults
failed_reads_after (Err file_error.Failed) faults = one_more faults
failed_reads_after (Err file_error.Memory) faults = faults

pub record AfterRead {T : Type 0} (old new : FilesShown) (name : List ℕ) (limit : ℕ) (before after : List ℕ) (result : Result T FileError) : Type 0 where
  pub ok : OnOk result ((bytes : List ℕ) × Holds old.told name bytes × (length bytes ≤ limit) × (after ≡ before ++ bytes))
  pub big : IsErrOf result file_error.Big → (bytes : List ℕ) × Holds old.told name bytes × (limit < length bytes)
  pub err : OnErr result (after ≡ before)
  pub told : new.told ≡ old.told
  pub last : new.last ≡ after_reading result old.last (place_named name old.told)
  pub reads : new.reads ≡ after_reading result old.reads (one_more old.reads)
  pub faults : new.faults ≡ failed_reads_after result old.faults

-- what a sink shows: what it took, where it tells that, and how often it failed or took nothing of something
pub record SinkShown : Type 0 where
  pub told : Option (List ℕ)
  pub faults : ℕ

-- the count of a sink's faults after a write of these bytes: it is one more exactly where that failed, or took nothing of something
abbrev pub failed_writes_after : Result ℕ SinkError → List ℕ → ℕ → ℕ
failed_writes_after (Ok n) bytes faults = if n == 0 && nat_lt 0 (length bytes) then one_more faults else faults
failed_writes_after (Err sink_error.Failed) bytes faults = one_more faults
failed_writes_after (Err sink_error.Memory) bytes faults = faults

pub record AfterWrite (old new : SinkShown) (bytes : List ℕ) (result : Result ℕ SinkError) : Type 0 where
  pub ok : IfOk result (λ n. (n ≤ length bytes) × (new.told ≡ option_map (λ text. text ++ take n bytes) old.told))
  pub err : OnErr result (new.told ≡ old.told)
  pub faults : new.faults ≡ failed_writes_after result bytes old.faults
