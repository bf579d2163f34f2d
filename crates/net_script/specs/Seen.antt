-- Scripts as contracts see them.
use Rattle.std.specs.Prelude.{List}
use Rattle.net_history.specs.declared.events.Pair.{Pair}
use Rattle.net_history.specs.declared.events.PeerPair.{PeerPair}
use Rattle.net_script.specs.declared.types.ScriptServer.{ScriptServer}
use Rattle.net_script.specs.declared.types.StepLine.{StepLine}

pub record ScriptSeen : Type 0 where
  pub servers : List ScriptServer
  pub pairs : List Pair
  pub peers : List PeerPair
  pub steps : List StepLine
