-- Worked rows of the writing: words, kinds, addresses and lines.
use Rattle.std.proofs.Common.{◌≡◌, [], ◌∷◌, ◌++◌, refl, codes, arith, true, false}
use Rattle.std.proofs.lemmas.Fmt.{decimal_digit}
use Rattle.aprs_base.specs.declared.packets.PortKind.TheVariants as kind
use Rattle.aprs_conf.specs.Writing.{ip_text, kind_name, line_text, proto_name, word_text}

plain_word : word_text (codes "T2TEST") ≡ codes "T2TEST "
unfolding word_text
plain_word = refl

no_byte : word_text [] ≡ codes "\"\" "
unfolding word_text
no_byte = refl

blank_inside : word_text (codes "Jane Doe") ≡ codes "\"Jane Doe\" "
unfolding word_text
blank_inside = refl

tab_inside : word_text (97 ∷ 9 ∷ 98 ∷ []) ≡ 34 ∷ 97 ∷ 9 ∷ 98 ∷ 34 ∷ 32 ∷ []
unfolding word_text
tab_inside = refl

quote_inside : word_text (codes "a\"b") ≡ codes "a\"b "
unfolding word_text
quote_inside = refl

return_last : word_text (97 ∷ 13 ∷ []) ≡ 97 ∷ 13 ∷ 32 ∷ []
unfolding word_text
return_last = refl

mark_first : word_text (codes "#a") ≡ codes "#a "
unfolding word_text
mark_first = refl

one_line : line_text (codes "MyAdmin" ∷ codes "Jane Doe" ∷ []) ≡ codes "MyAdmin \"Jane Doe\" " ++ 10 ∷ []
unfolding word_text line_text
one_line = refl

submissions : kind_name kind.Submit ∷ proto_name kind.Submit false ∷ [] ≡ codes "udpsubmit" ∷ codes "udp" ∷ []
submissions = refl

served : kind_name kind.Full ∷ proto_name kind.Full false ∷ [] ≡ codes "fullfeed" ∷ codes "tcp" ∷ []
served = refl

idle : kind_name kind.Only ∷ proto_name kind.Only true ∷ [] ≡ codes "clientonly" ∷ codes "udp" ∷ []
idle = refl

address : ip_text (1 ∷ 0 ∷ 3 ∷ 9 ∷ []) ≡ codes "1.0.3.9"
unfolding ip_text
address = rw (decimal_digit 1 (omega arith), decimal_digit 0 (omega arith), decimal_digit 3 (omega arith), decimal_digit 9 (omega arith)) refl
