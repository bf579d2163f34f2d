use Rattle.std.proofs.Common.{◌≡◌, drop}
use Rattle.aprs_base.specs.Stores.{bytes_named}
use Rattle.aprs_base.proofs.memory_files.bytes_of.Given as goal

abbrev pub invariant-loop-file : goal.invariant-loop-file
invariant-loop-file l = bytes_named l.name (drop l.file-index l.files) ≡ bytes_named l.name l.files
