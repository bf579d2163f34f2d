-- Keys and their texts.
use Rattle.std.proofs.Common.{None, ◌≡◌, ◌==◌, ℕ, suc, Bool, true, false, filter, List, [], ◌∷◌, ◌++◌, length, take, drop, refl, sym, ap, subst, ◌∙◌, arith}
use Rattle.std.specs.Bool.{Decides, one_answer}
use Rattle.std.specs.Cmp.{IsEquivalence, and_equiv, on_equiv, unsigned_Decides}
use Rattle.std.specs.Map.{lookup}
use Rattle.std.proofs.Math.Seq.{take-append_seam, drop-append_seam}
use Rattle.std.proofs.lemmas.Bool.{and_parts}
use Rattle.std.proofs.lemmas.Cmp.{nat_eq_equiv, nat_list_eq_equiv}
use Rattle.std.proofs.lemmas.Slice.Eq.{slice_eq-Decides}
use Rattle.dupe_window.specs.Keys.{Key, is_same_key, is_text}
use Rattle.std.specs.declared.random_state.RandomState.{RandomState}
use Rattle.dupe_window.specs.Digests.{AreDigestedBy, DigestedText, digest_by, digested_by, is_same_text, text_of, unpacked_pair, unpacked_pairs}
use Rattle.dupe_window.specs.Packed.{packed, unpacked}
use Rattle.dupe_window.specs.Windows.{is_inside, is_inside_pair}
use Rattle.dupe_window.proofs.PartLemmas.{same_key_equiv}

abbrev key_from : List ℕ → List ℕ → List ℕ → Key
key_from source dest body = record { source = source; dest = dest; body = body }

-- the text of a key is that key's
pub unpacked-packed : (key : Key) → unpacked (packed key) ≡ key
unpacked-packed key =
    let rest : List ℕ = key.dest ++ key.body in
    let past : drop (length key.source) (key.source ++ rest) ≡ rest = drop-append_seam key.source rest in
    ap (λ source. key_from source (take (length key.dest) (drop (length key.source) (key.source ++ rest))) (drop (length key.dest) (drop (length key.source) (key.source ++ rest)))) (take-append_seam key.source rest)
    ∙ ap (λ text. key_from key.source (take (length key.dest) text) (drop (length key.dest) text)) past
    ∙ ap (λ dest. key_from key.source dest (drop (length key.dest) rest)) (take-append_seam key.dest key.body)
    ∙ ap (λ body. key_from key.source key.dest body) (drop-append_seam key.dest key.body)

-- so it is with its digest
pub unpacked-text_of : (hasher : RandomState) (key : Key) (text : DigestedText) → text ≡ text_of (digested_by hasher key) → unpacked text.text ≡ key
unpacked-text_of hasher key text is = ap (λ (other : DigestedText). unpacked other.text) is ∙ unpacked-packed key

-- ---- what is the same

text_decides : (a b : List ℕ) → Decides (is_text a b) (a ≡ b)
text_decides a b = slice_eq-Decides unsigned_Decides a b (is_text a b) refl

key_decides : (a b : Key) → Decides (is_same_key a b) (a ≡ b)
key_decides a b = (same, λ is. subst (λ key. is_same_key a key ≡ true) is (same_key_equiv.refl a))
  where
    same : is_same_key a b ≡ true → a ≡ b
    same is =
        let first = and_parts _ _ is in
        let second = and_parts _ _ first.1 in
        ap (λ source. key_from source a.dest a.body) ((text_decides a.source b.source).0 first.0)
        ∙ ap (λ dest. key_from b.source dest a.body) ((text_decides a.dest b.dest).0 second.0)
        ∙ ap (λ body. key_from b.source b.dest body) ((text_decides a.body b.body).0 second.1)

same_text_equiv : IsEquivalence is_same_text
same_text_equiv = and_equiv (on_equiv (λ text. text.digest) nat_eq_equiv) (on_equiv (λ text. text.text) nat_list_eq_equiv)

-- two keys are the same where their texts and the digests of these are
same_packed : (hasher : RandomState) (key : Key) (text : DigestedText) → text_of (digested_by hasher (unpacked text.text)) ≡ text
    → is_same_text (text_of (digested_by hasher key)) text ≡ is_same_key key (unpacked text.text)
same_packed hasher key text is = one_answer (is_same_text (text_of (digested_by hasher key)) text) (is_same_key key (unpacked text.text)) (there, back) (key_decides key (unpacked text.text))
  where
    there : is_same_text (text_of (digested_by hasher key)) text ≡ true → key ≡ unpacked text.text
    there same = sym (unpacked-packed key) ∙ ap unpacked ((text_decides (packed key) text.text).0 (and_parts (digest_by hasher (packed key) == text.digest) (is_text (packed key) text.text) same).1)

    back : key ≡ unpacked text.text → is_same_text (text_of (digested_by hasher key)) text ≡ true
    back same = subst (λ other. is_same_text (text_of (digested_by hasher key)) other ≡ true) (ap (λ other. text_of (digested_by hasher other)) same ∙ is) (same_text_equiv.refl (text_of (digested_by hasher key)))

-- ---- pairs

pub lookup-unpacked : (hasher : RandomState) (key : Key) (pairs : List (DigestedText × ℕ)) → AreDigestedBy hasher pairs
    → lookup (is_same_text (text_of (digested_by hasher key))) pairs ≡ lookup (is_same_key key) (unpacked_pairs pairs)
lookup-unpacked hasher key [] are = refl
lookup-unpacked hasher key (pair ∷ pairs) are =
    by (is_same_key key (unpacked pair.0.text)) refl (same_packed hasher key pair.0 (are 0 pair (omega arith)))
    (lookup-unpacked hasher key pairs (λ k d within. are (suc k) d (omega arith)))
  where
    test : DigestedText → Bool
    test = is_same_text (text_of (digested_by hasher key))

    by : (b : Bool) → is_same_key key (unpacked pair.0.text) ≡ b → test pair.0 ≡ is_same_key key (unpacked pair.0.text)
        → lookup test pairs ≡ lookup (is_same_key key) (unpacked_pairs pairs)
        → lookup test (pair ∷ pairs) ≡ lookup (is_same_key key) (unpacked_pairs (pair ∷ pairs))
    by true is same rest = rw (same, is) refl
    by false is same rest = rw (same, is) rest

pub no_pairs : (key : Key) (pairs : List (DigestedText × ℕ)) → length pairs ≡ 0 → None ≡ lookup (is_same_key key) (unpacked_pairs pairs)
no_pairs key [] none = refl
no_pairs key (pair ∷ pairs) none = absurd (cc)

-- what is kept by the moments alone
pub unpacked_pairs-filter : (seconds now : ℕ) (pairs : List (DigestedText × ℕ))
    → unpacked_pairs (filter (λ pair. is_inside seconds now pair.1) pairs) ≡ filter (is_inside_pair seconds now) (unpacked_pairs pairs)
unpacked_pairs-filter seconds now [] = refl
unpacked_pairs-filter seconds now (pair ∷ pairs) = by (is_inside seconds now pair.1) refl (unpacked_pairs-filter seconds now pairs)
  where
    by : (b : Bool) → is_inside seconds now pair.1 ≡ b
        → unpacked_pairs (filter (λ pair. is_inside seconds now pair.1) pairs) ≡ filter (is_inside_pair seconds now) (unpacked_pairs pairs)
        → unpacked_pairs (filter (λ pair. is_inside seconds now pair.1) (pair ∷ pairs)) ≡ filter (is_inside_pair seconds now) (unpacked_pairs (pair ∷ pairs))
    by true is rest = rw is (ap (λ l. unpacked_pair pair ∷ l) rest)
    by false is rest = rw is rest
