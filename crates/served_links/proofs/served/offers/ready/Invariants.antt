use Rattle.std.proofs.Common.{◌≡◌, take, filter}
use Rattle.served_links.specs.Fed.{joined_all}
use Rattle.served_links.specs.Links.{is_ready, numbers}
use Rattle.served_links.proofs.served.offers.ready.Given as goal

abbrev pub invariant-loop-place : goal.invariant-loop-place
invariant-loop-place l = l.numbers.items ≡ numbers (filter is_ready (take l.place (joined_all l.sessions l.feeds.links)))
