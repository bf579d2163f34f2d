use Rattle.std.proofs.Common.{◌≡◌, ◌<◌, ℕ, List, ◌∷◌, Err, length, refl, arith}
use Rattle.aprs_conf.specs.declared.errors.ConfFault.TheVariants as fault
use Rattle.aprs_conf.specs.Grammar.{group_in}
use Rattle.aprs_conf.specs.Words.{arguments_of}
use Rattle.aprs_conf.proofs.draft.read_group.Goals as goal

too_few : (args : List (List ℕ)) → length args < 4 → group_in args ≡ Err fault.BadCount
too_few (a ∷ b ∷ c ∷ d ∷ more) less = absurd (omega arith)
too_few _ less = refl

pub returns-in_default : goal.returns-in_default
returns-in_default c = too_few (arguments_of c.args.args.now) c.in_default.ensures
