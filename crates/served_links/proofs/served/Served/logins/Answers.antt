use Rattle.std.proofs.Common.{refl}
use Rattle.served_links.specs.Links.{others_from}
use Rattle.served_links.proofs.ServedLemmas.{others_same}
use Rattle.served_links.proofs.ServedSteps.{asked}
use Rattle.served_links.proofs.served.Served.logins.Goals as goal

pub returns : goal.returns
returns c = asked c.self.inside c.self.view_is c.self.invariant.0.match refl (others_from c.args.from) (others_same c.args.from)
