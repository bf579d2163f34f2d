-- An element of a path, as the reading makes it of a text and of the place of its first `*`.
use Rattle.std.proofs.Common.{◌≡◌, ℕ, ◌+◌, ◌<◌, ◌≤◌, true, false, cond, ◌&&◌, List, take, length, Option, Some, None, refl, sym, ltb, leb, arith}
use Rattle.std.specs.List.{position_or_len}
use Rattle.std.proofs.lemmas.List.{length-take-le}
use Rattle.std.proofs.lemmas.Bool.{false_from_ne_true, le-leb}
use Rattle.std.proofs.lemmas.Bool.Decides.{nat_tests}
use Rattle.aprs_base.specs.Bytes.{IsCall, is_call}
use Rattle.aprs_base.specs.declared.packets.Via.{Via}
use Rattle.tnc2_line.specs.Packet.{via_of, is_star}
use Rattle.tnc2_line.proofs.Cuts.{any_is}

-- the element whose call is the first n bytes
abbrev pub via_to : List ℕ → ℕ → Option Via
via_to text n = cond (is_call (take n text) && leb (length text) (n + 1)) (Some (record { call = take n text; star = ltb n (length text) })) None

pub via_is : (text : List ℕ) (n : ℕ) → n ≡ position_or_len is_star text → n ≤ length text → via_of text ≡ via_to text n
unfolding via_of
via_is text n e within =
    let p : position_or_len is_star text ≡ n = sym e in
    let long : length (take n text) ≡ n = length-take-le n text within in
    rw (any_is is_star text, p, long) refl

module _ (text : List ℕ) (n : ℕ) (e : n ≡ position_or_len is_star text) (within : n ≤ length text) where
  pub via_long : n + 1 < length text → None ≡ via_of text
  via_long lt =
      let long : leb (length text) (n + 1) ≡ false = grind (arith, nat_tests) in
      let short : (is_call (take n text) && false) ≡ false = grind (arith, nat_tests) in
      rw (via_is text n e within, long, short) refl

  pub via_off : (IsCall (take n text) → ⊥) → None ≡ via_of text
  via_off off =
      let bad : is_call (take n text) ≡ false = false_from_ne_true _ off in
      rw (via_is text n e within, bad) refl

  pub via_on : (call : List ℕ) → IsCall (take n text) → call ≡ take n text → length text ≤ n + 1 → Some (record { call = call; star = ltb n (length text) }) ≡ via_of text
  via_on call on same short =
      let good : is_call (take n text) ≡ true = on in
      let fits : leb (length text) (n + 1) ≡ true = le-leb _ _ short in
      rw (via_is text n e within, good, fits, same) refl
