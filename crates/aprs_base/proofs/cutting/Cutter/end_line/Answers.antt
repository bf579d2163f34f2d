use Rattle.std.proofs.Common.{◌∙◌, ap, sym, ◌++◌, []}
use Rattle.std.proofs.lemmas.Result.{on_ok_weaker}
use Rattle.std.specs.List.{cons_option}
use Rattle.aprs_base.specs.Held.{Held}
use Rattle.aprs_base.proofs.CutLemmas.{long_cut}
use Rattle.aprs_base.proofs.cutting.Cutter.end_line.Goals as goal

pub returns-then-self : goal.returns-then-self
returns-then-self c = λ line inner is.
    let long = sym (ap (λ (held : Held). held.long) c.self.view_is) ∙ c.if-self.true in
    on_ok_weaker c.put_long.result
    (λ put. put ∙ ap (λ one. c.args.out.now.items ++ cons_option one []) (sym (long_cut line c.args.bytes.now c.args.self.now is long)))
    c.put_long.ensures
