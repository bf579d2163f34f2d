use Rattle.std.proofs.Common.{◌≡◌, false, true}
use Rattle.q_construct.proofs.HexLemmas.{eight}
use Rattle.q_construct.proofs.origins.hex_call.Goals as goal

pub unreachable-requires : goal.unreachable-requires
unreachable-requires c =
    let is = eight c.hex_digit.result c.hex_digit-2.result c.hex_digit-3.result c.hex_digit-4.result c.hex_digit-5.result c.hex_digit-6.result c.hex_digit-7.result c.hex_digit-8.result c.hex_digit.ensures.letter c.hex_digit-2.ensures.letter c.hex_digit-3.ensures.letter c.hex_digit-4.ensures.letter c.hex_digit-5.ensures.letter c.hex_digit-6.ensures.letter c.hex_digit-7.ensures.letter c.hex_digit-8.ensures.letter in
    let none : false ≡ true = c.in-None.ensures.some.1 is in
    cc
