use Rattle.std.proofs.Common.{◌≡◌, ◌++◌, ◌∙◌, Ok, ap, subst, sym}
use Rattle.aprs_conf.specs.Grammar.{conf_of}
use Rattle.aprs_conf.specs.Writing.{text_of_conf}
use Rattle.aprs_conf.proofs.WrittenConf.{written_again}
use Rattle.aprs_conf.proofs.types.Conf.write.Goals as goal

pub returns-clause-again : goal.returns-clause-again
returns-clause-again c = λ text h.
    let conf = c.args.self.now in
    let is : c.new-2.result ≡ text_of_conf conf = c.new-2.ensures ∙ c.out.view_is ∙ c.in_ok-conf.ensures ∙ ap (λ front. front ++ text_of_conf conf) c.new.ensures.items in
    subst (λ written. conf_of written ≡ Ok conf) (sym is) (written_again text conf h)
