-- Bounds of what a text reads as, and of its canonical text.
use Rattle.std.proofs.Common.{◌≡◌, ℕ, ◌<◌, ◌≤◌, true, nat_lt, List, [], ◌∷◌, ◌++◌, Option, Some, None, Result, Ok, Err, length, refl, sym, ap, arith, rules, subst}
use Rattle.std.specs.Prelude.{IfOk, not}
use Rattle.std.specs.List.{list_all}
use Rattle.std.proofs.lemmas.List.{length-append}
use Rattle.std.proofs.lemmas.List.Folds.{list_all-append}
use Rattle.std.proofs.lemmas.Bool.{and_parts}
use Rattle.std.proofs.lemmas.Result.{IfOk-weaker}
use Rattle.std.proofs.lemmas.Bool.Decides.{nat_tests}
use Rattle.aprs_base.specs.Bytes.{is_blank, is_inner, IsInner}
use Rattle.aprs_base.proofs.CallLemmas.{each_weaker}
use Rattle.filter_lang.specs.declared.errors.FilterError.{FilterError}
use Rattle.filter_lang.specs.declared.errors.FilterError.TheVariants as fault
use Rattle.filter_lang.specs.Terms.{TermSeen}
use Rattle.filter_lang.specs.Parts.{words_of}
use Rattle.filter_lang.specs.Grammar.{added_all, excess_by, excess_of, excess_of_all, limited, terms_of, Gives}
use Rattle.filter_lang.specs.Canonical.{canonical, more_text, term_text}
use Rattle.filter_lang.proofs.Tools.{is_inside, cond_not_ok}
use Rattle.filter_lang.proofs.TextLaws.{canonical_again, is_one_word, read_is, added_is}

-- there is room for a term only where there are fewer than 64
pub room_of_all : (terms : List TermSeen) → excess_of_all terms ≡ None → length terms < 64
room_of_all terms h = grind (arith, nat_tests)

pub room_by : (terms : List TermSeen) (o : Option ℕ) → excess_by terms o ≡ None → length terms < 64
room_by terms None h = room_of_all terms h
room_by terms (Some letter) h = grind (arith, nat_tests)

pub room_of : (terms : List TermSeen) (t : TermSeen) → excess_of terms t.what ≡ None → length terms < 64
unfolding excess_of
room_of terms t h = room_by terms (limited t.what) h

pub few_added : (words : List (List ℕ)) (done terms : List TermSeen) → length done ≤ 64 → added_all done words ≡ Ok terms → length terms ≤ 64
few_added [] done terms few h = let e : done ≡ terms = cc in let same = ap length e in omega arith
few_added (word ∷ words) done terms few h =
    let is = added_is done word words terms h in
    let less = room_of done is.0 is.2 in
    few_added words (done ++ is.0 ∷ []) terms (omega (arith, length-append done (is.0 ∷ []))) is.3

-- a filter has at most 64 terms
pub few_terms : (text : List ℕ) (terms : List TermSeen) → terms_of text ≡ Ok terms → length terms ≤ 64
unfolding terms_of
few_terms text terms h = few_added (words_of text) [] terms (omega arith) (cond_not_ok (nat_lt 480 (length text)) fault.Long (added_all [] (words_of text)) terms h).1

-- a reading that may answer that memory is wanting gives at most 64 terms
pub few_read : (r : Result (List TermSeen) FilterError) (words : List (List ℕ)) → Gives r (added_all [] words) → IfOk r (λ terms. length terms ≤ 64)
few_read (Ok terms) words h = few_added words [] terms (omega arith) h
few_read (Err e) words h = search rules

-- a filter's canonical text has at most 480 bytes
pub short_canonical : (text : List ℕ) (terms : List TermSeen) → terms_of text ≡ Ok terms → length (canonical terms) ≤ 480
short_canonical text terms h = (read_is (canonical terms) terms (canonical_again text terms h)).short

-- a call that may answer that memory is wanting gives a canonical text of at most 480 bytes
pub short_ok : {E : Type 0} (r : Result (List ℕ) E) (terms : List TermSeen) → IfOk r (λ written. written ≡ canonical terms) → (text : List ℕ) → terms_of text ≡ Ok terms → IfOk r (λ written. length written ≤ 480)
short_ok r terms h text is = IfOk-weaker r (λ written. written ≡ canonical terms) (λ written. length written ≤ 480) (λ written e. let short = short_canonical text terms is in let same = ap length e in omega arith) h

-- a canonical text has no line end
pub inner_inside : (text : List ℕ) → list_all is_inside text ≡ true → IsInner text
inner_inside text h = each_weaker is_inside is_inner (λ b e. (and_parts (not (is_blank b)) (is_inner b) e).1) text h

pub inner_joined : (t : TermSeen) (rest : List ℕ) → is_one_word t ≡ true → IsInner rest → IsInner (term_text t ++ rest)
inner_joined t rest h inner = rw (list_all-append is_inner (term_text t) rest, inner_inside (term_text t) h, inner) refl

pub inner_more : (terms : List TermSeen) → list_all is_one_word terms ≡ true → IsInner (more_text terms)
inner_more [] h = refl
inner_more (t ∷ terms) h =
    let parts = and_parts (is_one_word t) (list_all is_one_word terms) h in
    inner_joined t (more_text terms) parts.0 (inner_more terms parts.1)

pub inner_words : (terms : List TermSeen) → list_all is_one_word terms ≡ true → IsInner (canonical terms)
unfolding canonical
inner_words [] h = refl
inner_words (t ∷ terms) h = inner_more (t ∷ terms) h

pub inner_canonical : (text : List ℕ) (terms : List TermSeen) → terms_of text ≡ Ok terms → IsInner (canonical terms)
inner_canonical text terms h =
    let read = read_is text terms h in
    rw read.words.is (inner_words read.words.more read.words.inside)

-- a call that may answer that memory is wanting gives a canonical text without a line end
pub inner_ok : {E : Type 0} (r : Result (List ℕ) E) (terms : List TermSeen) → IfOk r (λ written. written ≡ canonical terms) → (text : List ℕ) → terms_of text ≡ Ok terms → IfOk r (λ written. IsInner written)
inner_ok r terms h text is = IfOk-weaker r (λ written. written ≡ canonical terms) (λ written. IsInner written) (λ written e. subst (λ (t : List ℕ). IsInner t) (sym e) (inner_canonical text terms is)) h
