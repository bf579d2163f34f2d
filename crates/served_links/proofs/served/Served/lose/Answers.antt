use Rattle.std.proofs.Common.{refl}
use Rattle.served_links.specs.Changes.{when_gone}
use Rattle.served_links.proofs.ServedSteps.{stepped_are, stepped_rests, stepped_seen}
use Rattle.served_links.proofs.served.Served.lose.Goals as goal

pub invariant_of-self : goal.invariant_of-self
invariant_of-self c = (
  stepped_are c.args.number when_gone (λ h s m. record { link = m.link; inbound = m.inbound; alive = m.alive; limit = m.limit; feed = m.feed; me = m.me; many = m.many }) (λ h s. refl) (λ h. refl)
      c.self.inside c.lose.new.self c.lose.ensures c.self.invariant.0,
  stepped_rests c.args.number when_gone (λ h s m. record { link = m.link; inbound = m.inbound; alive = m.alive; limit = m.limit; feed = m.feed; me = m.me; many = m.many }) (λ h s. refl) (λ h. refl)
      c.self.inside c.lose.new.self c.lose.ensures c.self.invariant.1,
)

pub returns : goal.returns
returns c =
    stepped_seen c.args.number when_gone (λ h s m. record { link = m.link; inbound = m.inbound; alive = m.alive; limit = m.limit; feed = m.feed; me = m.me; many = m.many }) (λ h s. refl) (λ h. refl)
    c.self.inside c.lose.new.self c.lose.ensures c.self.view_is
