use Rattle.std.proofs.Common.{◌≡◌, ◌∙◌, ◌++◌, Err, ap, inl}
use Rattle.aprs_base.specs.declared.files.FileError.TheVariants as file_error
use Rattle.aprsc_daemon.proofs.CauseLemmas.{read_as}
use Rattle.aprsc_daemon.proofs.LoadLemmas.{loads_text}
use Rattle.aprsc_daemon.proofs.configuring.load.Goals as goal

pub returns-in-Ok : goal.returns-in-Ok
returns-in-Ok g c =
    let found = c.in-Ok.ensures.ok in
    let text : c.as_slice.result.now ≡ found.0 = c.as_slice.ensures.value ∙ found.3 ∙ ap (λ front. front ++ found.0) c.new-text.ensures.items in
    loads_text c.read_conf.result _ _ c.args.name.now c.as_slice.result.now found.0 found.1 found.2 text (c.in-Ok.ensures.told, c.in-Ok.ensures.last, c.in-Ok.ensures.reads) c.in-Ok.ensures.faults
    c.read_conf.ensures.value c.read_conf.ensures.sound c.read_conf.ensures.trouble c.read_conf.ensures.text

pub returns-in-Err-Big : goal.returns-in-Err-Big
returns-in-Err-Big g c =
    let big = c.in-Err-Big.ensures.big (ap Err c.in-Err-Big.field-0-is) in
    let read = read_as c.in-Err-Big.field-0 file_error.Big c.in-Err-Big.field-0-is c.in-Err-Big.ensures in
    record { fit = (big.0, big.1, big.2); read = (read.told, read.last, read.reads); faults = read.faults }

pub returns-in-Err-Failed : goal.returns-in-Err-Failed
returns-in-Err-Failed g c =
    let read = read_as c.in-Err-Failed.field-0 file_error.Failed c.in-Err-Failed.field-0-is c.in-Err-Failed.ensures in
    record { fit = tt; read = (read.told, read.last, read.reads); faults = read.faults }

pub returns : goal.returns
returns g c =
    let read = read_as c.in-Err-Memory.field-0 file_error.Memory c.in-Err-Memory.field-0-is c.in-Err-Memory.ensures in
    record { fit = tt; read = inl (read.told, read.last, read.reads); faults = read.faults }
