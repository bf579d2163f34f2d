use Rattle.net_schedule.proofs.StandLemmas.{new_more}
use Rattle.net_schedule.proofs.network.add_server.Goals as goal

pub returns : goal.returns
returns c = λ confs are. new_more confs c.args.conf c.args.servers.now.items c.in_ok-new.field-0 c.push.new.self.items c.in_ok-push.ensures.items c.in_ok-new.ensures.keeps c.in_ok-new.ensures.conf are
