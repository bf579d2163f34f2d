use Rattle.std.proofs.Common.{◌+◌, ◌<◌, length, arith, length-drop}
use Rattle.std.specs.List.{position_or_len}
use Rattle.std.proofs.lemmas.List.{take_rest}
use Rattle.aprs_conf.specs.Words.{is_quote}
use Rattle.aprs_conf.proofs.WordLemmas.{quoted_cut, quoted_open}
use Rattle.aprs_conf.proofs.words.quoted_word.Goals as goal

pub returns-then-end-text : goal.returns-then-end-text
returns-then-end-text c = quoted_open c.args.text.now (omega arith)

pub returns : goal.returns
returns c =
    let place = c.first_place-end.ensures.place in
    let within : position_or_len is_quote c.args.text.now < length c.args.text.now = omega arith in
    rw (take_rest, place) (quoted_cut c.args.text.now within, omega (arith, length-drop (position_or_len is_quote c.args.text.now + 1) c.args.text.now))
