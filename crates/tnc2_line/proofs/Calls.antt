-- The bytes of a call are none of those that part a packet line.
use Rattle.std.proofs.Common.{◌≡◌, ℕ, Bool, true, not, List, arith}
use Rattle.std.specs.List.{list_all}
use Rattle.std.proofs.lemmas.Bool.Decides.{nat_tests}
use Rattle.aprs_base.specs.Bytes.{is_call}
use Rattle.aprs_base.proofs.CallLemmas.{is_call_byte, each_weaker, call_bytes}
use Rattle.tnc2_line.specs.Packet.{is_colon, is_arrow, is_comma, is_star}

-- a text whose bytes are those of calls has none that passes a test for another byte
pub call_without : (test : ℕ → Bool) → ((b : ℕ) → is_call_byte b ≡ true → not (test b) ≡ true) → (text : List ℕ) → is_call text ≡ true → list_all (λ b. not (test b)) text ≡ true
call_without test other text h = each_weaker is_call_byte (λ b. not (test b)) other text (call_bytes text h)

pub no_colon : (b : ℕ) → is_call_byte b ≡ true → not (is_colon b) ≡ true
no_colon b h = grind (arith, nat_tests)

pub no_arrow : (b : ℕ) → is_call_byte b ≡ true → not (is_arrow b) ≡ true
no_arrow b h = grind (arith, nat_tests)

pub no_comma : (b : ℕ) → is_call_byte b ≡ true → not (is_comma b) ≡ true
no_comma b h = grind (arith, nat_tests)

pub no_star : (b : ℕ) → is_call_byte b ≡ true → not (is_star b) ≡ true
no_star b h = grind (arith, nat_tests)
