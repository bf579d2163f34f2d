-- Names as contracts see them (aprs-is.net, Server-side Filter Commands).
use Rattle.std.specs.Prelude.{ℕ, Bool, List}

pub record NameSeen : Type 0 where
  pub text : List ℕ
  pub wild : Bool
