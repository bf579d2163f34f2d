use Rattle.std.proofs.Common.{◌++◌, ◌∷◌, [], ap, ◌∙◌, append_assoc, rules}
use Rattle.net_schedule.proofs.network.servers_of.Goals as goal

pub loop-conf-preserved : goal.loop-conf-preserved
loop-conf-preserved c = (
  tt,
  tt,
  append_assoc c.loop-conf.yielded (c.in-Some.conf ∷ []) _ ∙ ap (λ xs. c.loop-conf.yielded ++ xs) (let steps = c.in-Some.ensures.steps in grind rules) ∙ c.loop-conf.invariant.2,
  c.in_ok-add_server.ensures c.loop-conf.yielded c.loop-conf.invariant.3,
)
