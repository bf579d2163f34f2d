-- What the words ask for, of the server, of a drill or of a network.
use Rattle.std.specs.Prelude.{◌≡◌, ◌≤◌, ℕ, List, None, Some, ⊤}
use Rattle.aprsc_daemon.specs.Words.{asked_of, drill_of, net_of}
use Rattle.aprsc_daemon.specs.declared.words.Words.{Words}
use Rattle.aprsc_daemon.specs.declared.words.Words.TheVariants as ask

-- this is what the words ask for
abbrev pub AskFor : List (List ℕ) → Words → Type 0
AskFor words (ask.Server asked) = asked_of words ≡ Some asked
AskFor words (ask.Drill asked) = drill_of words ≡ Some asked
AskFor words (ask.Net asked) = net_of words ≡ Some asked

-- the words ask for nothing
pub record AskNothing (words : List (List ℕ)) : Type 0 where
  pub no_server : asked_of words ≡ None
  pub no_drill : drill_of words ≡ None
  pub no_net : net_of words ≡ None

-- the bounds of what they ask for
abbrev pub IsBounded : Words → Type 0
IsBounded (ask.Server asked) = (1 ≤ asked.workers) × (asked.workers ≤ 64)
IsBounded (ask.Drill asked) = (1 ≤ asked.workers) × (asked.workers ≤ 64) × (asked.plan.links ≤ 1000)
IsBounded (ask.Net asked) = ⊤
