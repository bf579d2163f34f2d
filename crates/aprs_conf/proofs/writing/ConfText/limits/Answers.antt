use Rattle.std.proofs.Common.{◌≡◌, ◌++◌, ℕ, List, [], append_assoc, append-nil}
use Rattle.std.proofs.lemmas.Result.{IfOk-equal}
use Rattle.aprs_conf.proofs.writing.ConfText.limits.Goals as goal

four : (out first second third fourth one two three : List ℕ) → one ≡ out ++ first → two ≡ one ++ second → three ≡ two ++ third → three ++ fourth ≡ out ++ (first ++ (second ++ (third ++ (fourth ++ []))))
four out first second third fourth one two three e f g = rw (g, f, e) (simp (append_assoc, append-nil))

pub returns : goal.returns
returns c = rw (← c.conf.view_is) (IfOk-equal c.number_line-4.result c.number_line-4.new.self _ _ c.number_line-4.ensures (four c.args.self.now _ _ _ _ _ _ _ c.in_ok-number_line.ensures c.in_ok-number_line-2.ensures c.in_ok-number_line-3.ensures))
