-- A call is a text, of which JSON escapes no byte.
use Rattle.std.proofs.Common.{◌≡◌, ℕ, ◌<◌, ◌==◌, true, false, List, [], ◌∷◌, ◌++◌, refl, ap, ◌∙◌, arith, nat_lt}
use Rattle.std.specs.List.{list_all}
use Rattle.std.specs.Str.{IsAscii, IsUtf8}
use Rattle.std.proofs.lemmas.Bool.{and_parts, eqb-true, false_from_ne_true}
use Rattle.std.proofs.lemmas.Grind.{common_steps}
use Rattle.std.proofs.lemmas.Str.{IsUtf8-from_ascii}
use Rattle.std.proofs.lemmas.Str.Ascii.{IsAscii-cons, IsAscii-nil}
use Rattle.aprs_base.specs.Bytes.{IsCall}
use Rattle.aprs_base.proofs.CallLemmas.{call_bytes, is_call_byte}
use Rattle.json.specs.Print.{escape, escape_byte}

differs : (b n : ℕ) → (b ≡ n → ⊥) → (b == n) ≡ false
differs b n other = false_from_ne_true _ (λ is. other (eqb-true b n is))

unescaped_byte : (b : ℕ) → is_call_byte b ≡ true → escape_byte b ≡ b ∷ []
unfolding escape_byte
unescaped_byte b plain =
    let quote = differs b 34 (λ is. grind (arith, common_steps)) in
    let slash = differs b 92 (λ is. grind (arith, common_steps)) in
    let back = differs b 8 (λ is. grind (arith, common_steps)) in
    let form = differs b 12 (λ is. grind (arith, common_steps)) in
    let line = differs b 10 (λ is. grind (arith, common_steps)) in
    let carriage = differs b 13 (λ is. grind (arith, common_steps)) in
    let tab = differs b 9 (λ is. grind (arith, common_steps)) in
    let high : nat_lt b 32 ≡ false = grind (arith, common_steps) in
    rw (quote, slash, back, form, line, carriage, tab, high) refl

unescaped : (text : List ℕ) → list_all is_call_byte text ≡ true → escape text ≡ text
unescaped [] plain = refl
unescaped (b ∷ text) plain =
    let parts = and_parts (is_call_byte b) (list_all is_call_byte text) plain in
    ap (λ front. front ++ escape text) (unescaped_byte b parts.0) ∙ ap (λ rest. b ∷ rest) (unescaped text parts.1)

pub call_unescaped : (call : List ℕ) → IsCall call → escape call ≡ call
call_unescaped call is = unescaped call (call_bytes call is)

low_byte : (b : ℕ) → is_call_byte b ≡ true → b < 128
low_byte b plain = grind (arith, common_steps)

all_ascii : (text : List ℕ) → list_all is_call_byte text ≡ true → IsAscii text
all_ascii [] plain = IsAscii-nil
all_ascii (b ∷ text) plain =
    let parts = and_parts (is_call_byte b) (list_all is_call_byte text) plain in
    IsAscii-cons b text (low_byte b parts.0) (all_ascii text parts.1)

pub call_is_text : (call : List ℕ) → IsCall call → IsUtf8 call
call_is_text call is = IsUtf8-from_ascii call (all_ascii call (call_bytes call is))
