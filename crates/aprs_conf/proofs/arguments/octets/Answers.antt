use Rattle.std.proofs.Common.{◌≡◌, ℕ, Option, Some, None, refl, sym, ◌∙◌}
use Rattle.aprs_conf.specs.Arguments.{four, octet_of}
use Rattle.aprs_conf.proofs.arguments.octets.Goals as goal

no_last : (a b c : Option ℕ) → four a b c None ≡ None
no_last None b c = refl
no_last (Some a) None c = refl
no_last (Some a) (Some b) None = refl
no_last (Some a) (Some b) (Some c) = refl

pub returns-in_err-first : goal.returns-in_err-first
returns-in_err-first c = rw c.in_err-first.ensures c.from_residual.ensures

pub returns-in_err-second : goal.returns-in_err-second
returns-in_err-second c = rw (c.in_ok-first.ensures, c.in_err-second.ensures) c.from_residual-in_err-second.ensures

pub returns-in_err-third : goal.returns-in_err-third
returns-in_err-third c =
    rw (c.in_ok-first.ensures, c.in_ok-second.ensures, c.in_err-third.ensures)
    (c.from_residual-in_err-third.ensures ∙ sym (no_last (octet_of c.in_ok-first.first.now) (octet_of c.in_ok-second.second.now) (octet_of c.in_ok-second.rest.now)))

pub returns : goal.returns
returns c = rw (c.in_ok-first.ensures, c.in_ok-second.ensures, c.in_ok-third.ensures) c.four_octets.ensures
