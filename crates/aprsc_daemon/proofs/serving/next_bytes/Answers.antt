use Rattle.std.proofs.Common.{take}
use Rattle.server_core.specs.LinkSteps.{pending_at}
use Rattle.server_core.specs.Meaning.{setting_of}
use Rattle.aprs_history.specs.Texts.{untaken}
use Rattle.aprs_history.specs.History.{trace_of}
use Rattle.aprsc_daemon.proofs.ActLemmas.{offered_bytes}
use Rattle.aprsc_daemon.proofs.serving.next_bytes.Goals as goal

pub returns-clause-bytes : goal.returns-clause-bytes
returns-clause-bytes c =
    offered_bytes (take c.offer-count.result c.offer-count.new.out) (pending_at c.args.link c.args.core.now.seen.links) _ c.requires.room c.offer-count.ensures.bytes

pub returns-clause-next : goal.returns-clause-next
returns-clause-next c = λ h stands.
    offered_bytes (take c.offer-count.result c.offer-count.new.out) (untaken (setting_of c.args.core.now.conf) (trace_of (setting_of c.args.core.now.conf) h) c.args.link) _ c.requires.room
    (c.offer-count.ensures.next h stands)
