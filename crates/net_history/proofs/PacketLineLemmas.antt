-- The line of a packet is neither a login nor a comment.
use Rattle.std.proofs.Common.{◌≡◌, ℕ, ◌==◌, ◌&&◌, Bool, true, false, not, List, [], ◌∷◌, ◌++◌, length, map, flat_map, refl, sym, ap, ◌∙◌, subst, arith, Ok, ⊎_elim, append_assoc}
use Rattle.std.specs.Prelude.{codes}
use Rattle.std.specs.List.{list_all, onto_first, slice_split}
use Rattle.std.specs.Char.{to_ascii_lowercase}
use Rattle.std.specs.Cmp.Lexicographic.{pointwise}
use Rattle.std.proofs.lemmas.Bool.{and_parts, cases_Bool, eqb-true, not-true, true≢false}
use Rattle.std.proofs.lemmas.List.Splits.{slice_split-cons_no}
use Rattle.aprs_base.specs.Bytes.{is_blank, is_call}
use Rattle.aprs_base.specs.PartsSeen.{PartsSeen}
use Rattle.aprs_base.proofs.CallLemmas.{call_bytes, each_weaker, is_call_byte}
use Rattle.tnc2_line.specs.Packet.{IsPacket, with_comma}
use Rattle.tnc2_line.proofs.Laws.{sound_is, text_is}
use Rattle.login_pass.specs.Login.{is_keyword, login_in, login_of, words_in}
use Rattle.login_pass.specs.declared.login_line.Login.{Login}
use Rattle.aprs_history.specs.Verdicts.{is_comment}

-- a source, and the arrow behind it
record BeginsSo (line : List ℕ) : Type 0 where
  source : List ℕ
  rest : List ℕ
  is : line ≡ source ++ 62 ∷ rest
  call : is_call source ≡ true

packet_begins : (line : List ℕ) (parts : PartsSeen) → IsPacket line parts → BeginsSo line
packet_begins line parts packet = record {
  source = parts.source;
  rest = (parts.dest ++ flat_map with_comma parts.vias) ++ 58 ∷ parts.body;
  is = sym packet.spelled ∙ text_is parts ∙ append_assoc parts.source (62 ∷ (parts.dest ++ flat_map with_comma parts.vias)) (58 ∷ parts.body);
  call = (sound_is parts packet.sound).source;
}

-- ---- no comment

call_byte_first : (b : ℕ) → is_call_byte b ≡ true → (35 == b) ≡ false
call_byte_first b is = ⊎_elim (λ same. let e : 35 ≡ b = eqb-true 35 b same in absurd (true≢false (sym is ∙ ap is_call_byte (sym e)))) (λ other. other) (cases_Bool (35 == b))

pub packet_is_no_comment : (line : List ℕ) (parts : PartsSeen) → IsPacket line parts → is_comment line ≡ false
packet_is_no_comment line parts packet = let begins = packet_begins line parts packet in ap is_comment begins.is ∙ of begins.source begins.rest begins.call
  where
    of : (source rest : List ℕ) → is_call source ≡ true → is_comment (source ++ 62 ∷ rest) ≡ false
    of [] rest call = refl
    of (b ∷ source) rest call = rw (call_byte_first b (and_parts (is_call_byte b) (list_all is_call_byte source) (call_bytes (b ∷ source) call)).0) refl

-- ---- no login

abbrev is_unblank : ℕ → Bool
is_unblank b = not (is_blank b)

call_unblank : (b : ℕ) → is_call_byte b ≡ true → is_unblank b ≡ true
call_unblank b is = ⊎_elim (λ same. let e : b ≡ 32 = eqb-true b 32 same in absurd (true≢false (sym is ∙ ap is_call_byte e))) (λ other. ap not other) (cases_Bool (is_blank b))

-- the first word has the arrow
first_piece : (xs rest : List ℕ) → list_all is_unblank xs ≡ true → (p : List ℕ) × (ps : List (List ℕ)) × (slice_split is_blank (xs ++ 62 ∷ rest) ≡ (xs ++ 62 ∷ p) ∷ ps)
first_piece [] rest unblank = of (slice_split is_blank rest) (slice_split-cons_no is_blank 62 rest refl)
  where
    of : (pieces : List (List ℕ)) → slice_split is_blank (62 ∷ rest) ≡ onto_first 62 pieces → (p : List ℕ) × (ps : List (List ℕ)) × (slice_split is_blank (62 ∷ rest) ≡ (62 ∷ p) ∷ ps)
    of [] is = ([], [], is)
    of (p ∷ ps) is = (p, ps, is)
first_piece (b ∷ xs) rest unblank =
    let both = and_parts (is_unblank b) (list_all is_unblank xs) unblank in
    let later = first_piece xs rest both.1 in
    (later.0, later.1, slice_split-cons_no is_blank b (xs ++ 62 ∷ rest) (not-true (is_blank b) both.0) ∙ ap (onto_first b) later.2)

abbrev is_no_arrow : ℕ → Bool
is_no_arrow b = not (62 == b)

-- a text with an arrow isn't one without
arrow_differs : (xs p ys : List ℕ) → list_all is_no_arrow ys ≡ true → pointwise ◌==◌ (map to_ascii_lowercase (xs ++ 62 ∷ p)) ys ≡ false
arrow_differs [] p [] none = refl
arrow_differs [] p (y ∷ ys) none = ap (λ b. b && pointwise ◌==◌ (map to_ascii_lowercase p) ys) (not-true (62 == y) (and_parts (is_no_arrow y) (list_all is_no_arrow ys) none).0)
arrow_differs (x ∷ xs) p [] none = refl
arrow_differs (x ∷ xs) p (y ∷ ys) none =
    ap (λ b. (to_ascii_lowercase x == y) && b) (arrow_differs xs p ys (and_parts (is_no_arrow y) (list_all is_no_arrow ys) none).1) ∙ neither (to_ascii_lowercase x == y)
  where
    neither : (b : Bool) → (b && false) ≡ false
    neither true = refl
    neither false = refl

some_long : (xs p : List ℕ) → (length (xs ++ 62 ∷ p) == 0) ≡ false
some_long [] p = grind arith
some_long (x ∷ xs) p = grind arith

no_user : (line : List ℕ) (words : List (List ℕ)) (xs p : List ℕ) (ps : List (List ℕ)) (login : Login) → words ≡ (xs ++ 62 ∷ p) ∷ ps → login_in line (words_in 0 words) ≡ Ok login → ⊥
no_user line words xs p ps login are reads =
    let e : login_in line (words_in 0 ((xs ++ 62 ∷ p) ∷ ps)) ≡ Ok login = subst (λ w. login_in line (words_in 0 w) ≡ Ok login) are reads in
    (refused (some_long xs p) (arrow_differs xs p (map to_ascii_lowercase (codes "user")) refl) e)
  where
    refused : (length (xs ++ 62 ∷ p) == 0) ≡ false → is_keyword (codes "user") (xs ++ 62 ∷ p) ≡ false → login_in line (words_in 0 ((xs ++ 62 ∷ p) ∷ ps)) ≡ Ok login → ⊥
    refused long other e = let fails = rw (long, other) at e in cc

pub packet_is_no_login : (line : List ℕ) (parts : PartsSeen) (login : Login) → IsPacket line parts → login_of line ≡ Ok login → ⊥
unfolding login_of
packet_is_no_login line parts login packet reads =
    let begins = packet_begins line parts packet in
    let unblank = each_weaker is_call_byte is_unblank call_unblank begins.source (call_bytes begins.source begins.call) in
    let piece = first_piece begins.source begins.rest unblank in
    no_user line (slice_split is_blank line) begins.source piece.0 piece.1 login (ap (slice_split is_blank) begins.is ∙ piece.2) reads
