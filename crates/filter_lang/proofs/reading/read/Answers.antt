use Rattle.std.proofs.Common.{arith}
use Rattle.filter_lang.specs.Parts.{words_of}
use Rattle.filter_lang.proofs.TextLaws.{words_fault}
use Rattle.filter_lang.proofs.ReadBounds.{few_read}
use Rattle.filter_lang.proofs.reading.read.Goals as goal

pub returns-clause-long : goal.returns-clause-long
returns-clause-long c = (λ e. absurd (words_fault c.read_words.result (words_of c.args.text.now) c.read_words.ensures e), λ lt. absurd (let le = c.if-text-gt-MOST_BYTES.false in omega arith))

pub returns-clause-few : goal.returns-clause-few
returns-clause-few c = few_read c.read_words.result (words_of c.args.text.now) c.read_words.ensures
