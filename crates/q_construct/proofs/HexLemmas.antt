-- Letters and digits are a call.
use Rattle.std.proofs.Common.{◌≡◌, ℕ, ◌≤◌, true, not, List, [], ◌∷◌, take, length, refl, ap, ◌∙◌, leb, arith}
use Rattle.std.specs.List.{list_all}
use Rattle.std.proofs.lemmas.Bool.{and_from, le-leb, eq-eqb}
use Rattle.std.proofs.lemmas.Bool.Decides.{nat_tests}
use Rattle.std.proofs.Math.Seq.{take-length}
use Rattle.std.specs.Char.{is_ascii_alphanumeric}
use Rattle.aprs_base.specs.Bytes.{is_call, is_dash, base_of, has_no_bad_ssid}
use Rattle.aprs_base.proofs.CallLemmas.{each_weaker}
use Rattle.tnc2_line.proofs.Cuts.{position_none}

no_dash : (b : ℕ) → is_ascii_alphanumeric b ≡ true → not (is_dash b) ≡ true
no_dash b h = grind (arith, nat_tests)

base_is : (text : List ℕ) → list_all is_ascii_alphanumeric text ≡ true → base_of text ≡ text
base_is text h = ap (λ n. take n text) (position_none is_dash text (each_weaker is_ascii_alphanumeric (λ b. not (is_dash b)) no_dash text h)) ∙ take-length text

pub alphanumeric_call : (text : List ℕ) → list_all is_ascii_alphanumeric text ≡ true → 1 ≤ length text → length text ≤ 9 → is_call text ≡ true
alphanumeric_call text h some few =
    let base = base_is text h in
    let one : leb 1 (length (base_of text)) ≡ true = ap (λ t. leb 1 (length t)) base ∙ le-leb 1 (length text) some in
    let whole : has_no_bad_ssid text ≡ true = rw (eq-eqb (length (base_of text)) (length text) (ap length base)) refl in
    and_from _ _ (and_from _ _ (and_from _ _ (le-leb (length text) 9 few) one) (ap (list_all is_ascii_alphanumeric) base ∙ h)) whole

pub eight : (a b c d e f g h : ℕ) → is_ascii_alphanumeric a ≡ true → is_ascii_alphanumeric b ≡ true → is_ascii_alphanumeric c ≡ true → is_ascii_alphanumeric d ≡ true
    → is_ascii_alphanumeric e ≡ true → is_ascii_alphanumeric f ≡ true → is_ascii_alphanumeric g ≡ true → is_ascii_alphanumeric h ≡ true → is_call (a ∷ b ∷ c ∷ d ∷ e ∷ f ∷ g ∷ h ∷ []) ≡ true
eight a b c d e f g h ia ib ic id ie ig ih ii =
    alphanumeric_call (a ∷ b ∷ c ∷ d ∷ e ∷ f ∷ g ∷ h ∷ [])
    (and_from _ _ ia (and_from _ _ ib (and_from _ _ ic (and_from _ _ id (and_from _ _ ie (and_from _ _ ig (and_from _ _ ih (and_from _ _ ii refl))))))))
    (omega arith) (omega arith)
