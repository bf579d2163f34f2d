use Rattle.std.proofs.Common.{filter}
use Rattle.served_links.specs.Links.{is_none_of}
use Rattle.server_core.proofs.CoreLemmas.{kept_left}
use Rattle.served_links.proofs.ServedSteps.{emptied_rises}
use Rattle.served_links.proofs.LinkLemmas.{rises_filter}
use Rattle.server_core.proofs.server.State.let_go.Goals as goal

pub invariant_of-self : goal.invariant_of-self
invariant_of-self c =
    kept_left _ c.drop_these.new.self c.forget_all.new.heard c.end_all.new.self c.self.inside.turned.items c.self.inside.closing.items
    (emptied_rises c.in_err-drop_these.ensures.err c.self.inside.greatest) c.self.invariant

pub invariant_of-self-2 : goal.invariant_of-self-2
invariant_of-self-2 c =
    rw c.in_ok-drop_these.ensures.ok (kept_left _ (record c.self.inside.links { links = filter (is_none_of c.args.ends.now) c.self.inside.links.links }) c.forget_all.new.heard c.end_all.new.self c.self.inside.turned.items c.place_all.new.numbers.items
    (rises_filter (is_none_of c.args.ends.now) 0 c.self.inside.greatest c.self.inside.links.links c.self.invariant.rising) c.self.invariant)
