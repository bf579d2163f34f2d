-- A server to dial as contracts see it.
use Rattle.std.specs.Prelude.{ℕ, List}

pub record UplinkSeen : Type 0 where
  pub host : List ℕ
  pub port : ℕ
