use Rattle.std.proofs.Common.{◌≡◌, ◌<◌, ℕ, false, List, [], ◌∷◌, None, length, refl, arith, sym, ◌∙◌}
use Rattle.std.specs.Prelude.{◌==◌}
use Rattle.aprs_conf.specs.Grammar.{two_of}
use Rattle.aprs_conf.specs.Words.{arguments_of}
use Rattle.aprs_conf.proofs.words.two_alone.Goals as goal

too_few : (args : List (List ℕ)) → length args < 2 → two_of args ≡ None
too_few (a ∷ b ∷ more) less = absurd (omega arith)
too_few _ less = refl

too_many : (a b : List ℕ) (more : List (List ℕ)) → (length more == 0) ≡ false → two_of (a ∷ b ∷ more) ≡ None
too_many a b [] h = cc
too_many a b (last ∷ more) h = refl

pub returns-in_err-first : goal.returns-in_err-first
returns-in_err-first c = rw c.from_residual.ensures (sym (too_few (arguments_of c.args.text.now) c.in_err-first.ensures))

pub returns-else-may_end : goal.returns-else-may_end
returns-else-may_end c =
    rw c.in_ok-first.ensures
    (sym (too_many c.in_ok-first.first.now c.in_ok-first.second.now (arguments_of c.in_ok-first.behind.now) (sym c.may_end.ensures ∙ c.if-may_end.false)))
