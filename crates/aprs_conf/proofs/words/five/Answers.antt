use Rattle.std.proofs.Common.{◌≡◌, ◌<◌, Bool, ℕ, true, false, List, [], ◌∷◌, None, length, refl, arith, sym, ◌∙◌}
use Rattle.std.specs.Prelude.{if◌then◌else◌, ◌==◌}
use Rattle.aprs_conf.specs.Grammar.{five_of, is_hidden_at_most, listen_of}
use Rattle.aprs_conf.specs.Words.{arguments_of}
use Rattle.aprs_conf.proofs.words.five.Goals as goal

too_few : (may_hide : Bool) (args : List (List ℕ)) → length args < 4 → (if may_hide then listen_of args else five_of args) ≡ None
too_few true (a ∷ b ∷ c ∷ d ∷ more) less = absurd (omega arith)
too_few false (a ∷ b ∷ c ∷ d ∷ more) less = absurd (omega arith)
too_few true _ less = refl
too_few false _ less = refl

too_many : (may_hide : Bool) (a b c d e : List ℕ) (more : List (List ℕ)) → (if may_hide then is_hidden_at_most more else length more == 0) ≡ false
    → (let args = a ∷ b ∷ c ∷ d ∷ e ∷ more in (if may_hide then listen_of args else five_of args) ≡ None)
too_many true a b c d e more h = rw h refl
too_many false a b c d e [] h = cc
too_many false a b c d e (last ∷ more) h = refl

pub returns-in_err-first : goal.returns-in_err-first
returns-in_err-first c = rw c.from_residual.ensures (sym (too_few c.args.may_hide (arguments_of c.args.text.now) c.in_err-first.ensures))

pub returns-else-may_end : goal.returns-else-may_end
returns-else-may_end c =
    rw (c.in_ok-first.ensures, c.in_ok-fifth.ensures.words)
    (sym (too_many c.args.may_hide c.in_ok-first.first.now c.in_ok-first.second.now c.in_ok-first.third.now c.in_ok-first.fourth.now c.in_ok-fifth.fifth.now
    (arguments_of c.in_ok-fifth.behind.now) (sym c.may_end.ensures ∙ c.if-may_end.false)))
