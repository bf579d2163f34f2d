-- Files and a sink in memory, as contracts see them: what they hold, and which calls are to fail.
use Rattle.std.specs.Prelude.{ℕ, ◌==◌, List, ◌++◌, take, Bool, Option, Some, Result, Ok, Err}
use Rattle.std.specs.List.{list_any}
use Rattle.aprs_base.specs.Outside.{one_more}
use Rattle.aprs_base.specs.Stores.{FilesShown, SinkShown, after_reading, failed_reads_after, failed_writes_after, place_named}
use Rattle.aprs_base.specs.declared.files.FileError.{FileError}
use Rattle.aprs_base.specs.declared.files.MemFile.{MemFile}
use Rattle.aprs_base.specs.declared.sinks.SinkError.{SinkError}
use Rattle.aprs_base.specs.declared.sinks.SinkError.TheVariants as sink_error

pub record FileTable : Type 0 where
  pub files : List MemFile
  pub fail : List ℕ
  pub last : Option ℕ
  pub calls : ℕ
  pub faults : ℕ

pub record SinkText : Type 0 where
  pub text : List ℕ
  pub fail : List ℕ
  pub most : ℕ
  pub calls : ℕ
  pub faults : ℕ

-- the call before which n were made is to fail
abbrev pub is_to_fail : List ℕ → ℕ → Bool
is_to_fail fail n = list_any (λ m. m == n) fail

abbrev pub files_shown : FileTable → FilesShown
files_shown table = record { told = Some table.files; last = table.last; reads = table.calls; faults = table.faults }

abbrev pub sink_shown : SinkText → SinkShown
sink_shown sink = record { told = Some sink.text; faults = sink.faults }

-- the files after a read of this name, by its answer: a read for which memory was wanting counts as not made
abbrev pub after_read : {T : Type 0} → FileTable → List ℕ → Result T FileError → FileTable
after_read table name result = record table {
  last = after_reading result table.last (place_named name (Some table.files));
  calls = after_reading result table.calls (one_more table.calls);
  faults = failed_reads_after result table.faults;
}

-- the sink after a write of these bytes, by its answer: a write for which memory was wanting counts as not made
abbrev pub after_write : SinkText → List ℕ → Result ℕ SinkError → SinkText
after_write sink bytes (Ok n) = record sink {
  text = sink.text ++ take n bytes;
  calls = one_more sink.calls;
  faults = failed_writes_after (Ok n) bytes sink.faults;
}
after_write sink bytes (Err sink_error.Failed) = record sink { calls = one_more sink.calls; faults = one_more sink.faults }
after_write sink bytes (Err sink_error.Memory) = sink
