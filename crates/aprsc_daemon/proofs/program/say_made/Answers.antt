use Rattle.std.proofs.Common.{refl, inl, inr}
use Rattle.aprsc_daemon.proofs.CauseLemmas.{grew_nothing}
use Rattle.aprsc_daemon.proofs.program.say_made.Goals as goal

-- no byte of a text that was not made is written
pub returns-in-Err : goal.returns-in-Err
returns-in-Err g c = λ t made. inr (inl (refl, (0, grew_nothing (g.S.Sink.shown c.args.out.now).told), refl))
