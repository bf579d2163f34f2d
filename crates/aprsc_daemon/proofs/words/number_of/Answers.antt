use Rattle.std.proofs.Common.{◌<◌, ◌^◌}
use Rattle.std.specs.Str.Parse.{ParsesUnsigned, ExplainsUnsignedError, HasUnsignedDigitsIfOk}
use Rattle.clap.specs.Words.{found_of, one_text}
use Rattle.aprsc_daemon.proofs.WordsLemmas.{number_found, no_number_found}
use Rattle.aprsc_daemon.proofs.words.number_of.Goals as goal

pub returns-in-Some-clause-value : goal.returns-in-Some-clause-value
returns-in-Some-clause-value c =
    number_found _ (λ bs r. ParsesUnsigned 32 10 bs r × ExplainsUnsignedError 10 bs r × HasUnsignedDigitsIfOk bs r) (λ bs r gives. gives.0) c.args.low c.args.high (one_text (found_of c.args.matches.now) c.args.id.now)
    c.get_one.result c.get_one.ensures.none c.get_one.ensures.value c.in-Some.number c.in-Some.is c.if-low-number.true c.if-number-high.true

pub returns-in_default-3-clause-value : goal.returns-in_default-3-clause-value
returns-in_default-3-clause-value c =
    let few : c.args.high < 2 ^ 32 = c.ranges.high.fits in
    no_number_found _ (λ bs r. ParsesUnsigned 32 10 bs r × ExplainsUnsignedError 10 bs r × HasUnsignedDigitsIfOk bs r) (λ bs r gives. gives.0) c.args.low c.args.high (one_text (found_of c.args.matches.now) c.args.id.now)
    c.get_one.result few c.get_one.ensures.value (λ n found least most. let nothing = c.in_default.is in cc)
