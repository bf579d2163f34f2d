use Rattle.std.proofs.Common.{rules, refl}
use Rattle.aprsc_daemon.proofs.WriteLemmas.{goes_on}
use Rattle.aprsc_daemon.proofs.real.RealFilesFiles.read.Goals as goal

pub returns-in-Ok-append : goal.returns-in-Ok-append
returns-in-Ok-append g c = record {
  ok = goes_on c.args.out.now.items c.append.new.out.items c.in-Ok-append.count c.args.limit c.append.ensures.appends c.in-Ok-append.ensures.count c.if-count-limit.true;
  big = search rules;
  err = search rules;
  told = refl;
  last = refl;
  reads = search rules;
  faults = search rules;
}
