use Rattle.std.proofs.Common.{◌<◌, IfSome, Option, subst}
use Rattle.aprs_base.specs.declared.texts.Addr.{Addr}
use Rattle.server_core.proofs.server.State.new_down.Goals as goal

pub next_down-number-requires : goal.next_down-number-requires
next_down-number-requires c = subst (λ (asked : Option Addr). IfSome asked (λ to. c.args.self.now.seen.downs < 65280)) c.in-Some.is c.requires
