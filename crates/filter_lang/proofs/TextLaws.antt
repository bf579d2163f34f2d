-- The canonical text of what a text reads as reads as the same and is no longer.
use Rattle.std.proofs.Common.{◌≡◌, ℕ, ◌+◌, ◌<◌, ◌≤◌, Bool, true, false, cond, nat_lt, List, [], ◌∷◌, ◌++◌, Option, Some, None, Result, Ok, Err, map, filter, length, get_or, refl, sym, ap, ◌∙◌, arith, append-nil, append_assoc}
use Rattle.std.specs.Prelude.{IsErrOf, IfOk}
use Rattle.std.specs.List.{list_all, slice_split, All}
use Rattle.std.proofs.lemmas.List.{length-append}
use Rattle.std.proofs.lemmas.List.Splits.{slice_split_none, slice_split_at}
use Rattle.std.proofs.lemmas.List.Sums.{AllPass-from_list_all}
use Rattle.std.proofs.lemmas.Result.{IfOk-weaker}
use Rattle.std.proofs.lemmas.Bool.{le-ltb, ltb-true, ltb-false, and_parts}
use Rattle.aprs_base.specs.Bytes.{is_blank}
use Rattle.filter_lang.specs.declared.errors.FilterError.{FilterError}
use Rattle.filter_lang.specs.declared.errors.FilterError.TheVariants as fault
use Rattle.filter_lang.specs.Terms.{TermSeen}
use Rattle.filter_lang.specs.Parts.{is_used, words_of}
use Rattle.filter_lang.specs.Grammar.{term_of, added, added_all, added_unless, and_then, excess_of, terms_of, Gives}
use Rattle.filter_lang.specs.Canonical.{term_text, more_text, canonical}
use Rattle.filter_lang.proofs.Tools.{is_inside, inside_unblank, cond_not_ok}
use Rattle.filter_lang.proofs.SlashLaws.{spread, total, parts-total, parts-some}
use Rattle.filter_lang.proofs.KindLaws.{some_not_empty}
use Rattle.filter_lang.proofs.TermLaws.{KeepsTerm, term_keeps}

abbrev pub is_one_word : TermSeen → Bool
is_one_word t = list_all is_inside (term_text t)

abbrev pub has_bytes : TermSeen → Bool
has_bytes t = is_used (term_text t)

-- what words read as reads again from its own texts
pub record Again (done : List TermSeen) (words : List (List ℕ)) (ts : List TermSeen) : Type 0 where
  pub more : List TermSeen
  pub is : ts ≡ done ++ more
  pub again : added_all done (map term_text more) ≡ Ok ts
  pub shorter : length (more_text more) ≤ spread words
  pub inside : list_all is_one_word more ≡ true
  pub some : list_all has_bytes more ≡ true

pub again_step : (done : List TermSeen) (word : List ℕ) (words : List (List ℕ)) (ts : List TermSeen) (t : TermSeen) → KeepsTerm word t → excess_of done t.what ≡ None → Again (done ++ t ∷ []) words ts → Again done (word ∷ words) ts
again_step done word words ts t keeps room rest = record {
  more = t ∷ rest.more;
  is = rest.is ∙ append_assoc done (t ∷ []) rest.more;
  again = rw (keeps.again, room) rest.again;
  shorter = (let less = keeps.shorter in let others = rest.shorter in omega (arith, length-append (term_text t) (more_text rest.more)));
  inside = rw (keeps.inside, rest.inside) refl;
  some = rw (some_not_empty (term_text t) keeps.some, rest.some) refl;
}

-- a word whose term is added, and the words after it
pub added_is : (done : List TermSeen) (word : List ℕ) (words : List (List ℕ)) (ts : List TermSeen) → added_all done (word ∷ words) ≡ Ok ts →
    (t : TermSeen) × (term_of word ≡ Some t) × (excess_of done t.what ≡ None) × (added_all (done ++ t ∷ []) words ≡ Ok ts)
added_is done word words ts h = by (term_of word) refl h
  where
    unless : (t : TermSeen) → term_of word ≡ Some t → (o : Option ℕ) → excess_of done t.what ≡ o → and_then (added_unless done t o) (λ more. added_all more words) ≡ Ok ts →
        (t : TermSeen) × (term_of word ≡ Some t) × (excess_of done t.what ≡ None) × (added_all (done ++ t ∷ []) words ≡ Ok ts)
    unless t e None room h' = (t, e, room, h')
    unless t e (Some letter) room h' = cc

    by : (o : Option TermSeen) → term_of word ≡ o → and_then (added done o) (λ more. added_all more words) ≡ Ok ts →
        (t : TermSeen) × (term_of word ≡ Some t) × (excess_of done t.what ≡ None) × (added_all (done ++ t ∷ []) words ≡ Ok ts)
    by None e h' = cc
    by (Some t) e h' = unless t e (excess_of done t.what) refl h'

pub again_all : (words : List (List ℕ)) (done ts : List TermSeen) → added_all done words ≡ Ok ts → Again done words ts
again_all [] done ts h =
    let e : done ≡ ts = cc in
    record { more = []; is = sym e ∙ sym (append-nil done); again = h; shorter = omega arith; inside = refl; some = refl }
again_all (word ∷ words) done ts h =
    let is = added_is done word words ts h in
    again_step done word words ts is.0 (term_keeps word is.0 is.1) is.2 (again_all words (done ++ is.0 ∷ []) ts is.3)

-- the words of the canonical text
pub inside_all : (text : List ℕ) → list_all is_inside text ≡ true → All (λ b. is_blank b ≡ false) text
inside_all text h = λ k d lt. inside_unblank (get_or text k d) (AllPass-from_list_all is_inside text h k d lt)

pub split_terms : (t : TermSeen) (ts : List TermSeen) → list_all is_one_word (t ∷ ts) ≡ true → slice_split is_blank (term_text t ++ more_text ts) ≡ map term_text (t ∷ ts)
split_terms t [] h =
    let parts = and_parts (is_one_word t) true h in
    rw (append-nil (term_text t)) (slice_split_none is_blank (term_text t) (inside_all (term_text t) parts.0))
split_terms t (u ∷ us) h =
    let parts = and_parts (is_one_word t) (list_all is_one_word (u ∷ us)) h in
    slice_split_at is_blank (term_text t) 32 (term_text u ++ more_text us) (inside_all (term_text t) parts.0) refl ∙ ap (λ (ws : List (List ℕ)). term_text t ∷ ws) (split_terms u us parts.1)

pub filter_used : (ts : List TermSeen) → list_all has_bytes ts ≡ true → filter is_used (map term_text ts) ≡ map term_text ts
filter_used [] h = refl
filter_used (t ∷ ts) h =
    let parts = and_parts (has_bytes t) (list_all has_bytes ts) h in
    rw (parts.0, filter_used ts parts.1) refl

pub words_of-canonical : (ts : List TermSeen) → list_all is_one_word ts ≡ true → list_all has_bytes ts ≡ true → words_of (canonical ts) ≡ map term_text ts
unfolding canonical
words_of-canonical [] h some = refl
words_of-canonical (t ∷ ts) h some = ap (λ (ws : List (List ℕ)). filter is_used ws) (split_terms t ts h) ∙ filter_used (t ∷ ts) some

-- how long the words of a text are
pub spread-filter : (parts : List (List ℕ)) → spread (filter is_used parts) ≤ spread parts
spread-filter [] = omega arith
spread-filter (part ∷ parts) = by (is_used part) (spread-filter parts)
  where
    by : (c : Bool) → spread (filter is_used parts) ≤ spread parts → spread (cond c (part ∷ filter is_used parts) (filter is_used parts)) ≤ 1 + length part + spread parts
    by true rest = omega arith
    by false rest = omega arith

pub spread-total : (parts : List (List ℕ)) → (length parts ≡ 0 → ⊥) → spread parts ≡ 1 + total parts
spread-total [] some = absurd (some refl)
spread-total (part ∷ parts) some = omega arith

pub words-spread : (text : List ℕ) → spread (words_of text) ≤ 1 + length text
words-spread text =
    let kept = spread-filter (slice_split is_blank text) in
    let all = spread-total (slice_split is_blank text) (parts-some is_blank text) in
    let whole = parts-total is_blank text in
    omega arith

pub canonical-length : (ts : List TermSeen) (n : ℕ) → length (more_text ts) ≤ 1 + n → length (canonical ts) ≤ n
unfolding canonical
canonical-length [] n h = omega arith
canonical-length (t ∷ ts) n h = omega arith

-- what a text reads as
pub record Read (text : List ℕ) (ts : List TermSeen) : Type 0 where
  pub short : length text ≤ 480
  pub words : Again [] (words_of text) ts

pub read_is : (text : List ℕ) (ts : List TermSeen) → terms_of text ≡ Ok ts → Read text ts
unfolding terms_of
read_is text ts h =
    let fits = cond_not_ok (nat_lt 480 (length text)) fault.Long (added_all [] (words_of text)) ts h in
    record { short = ltb-false 480 (length text) fits.0; words = again_all (words_of text) [] ts fits.1 }

pub canonical_shortest : (text : List ℕ) (ts : List TermSeen) → terms_of text ≡ Ok ts → length (canonical ts) ≤ length text
canonical_shortest text ts h =
    let read = read_is text ts h in
    let words = words-spread text in
    let less = read.words.shorter in
    canonical-length ts (length text) (rw read.words.is (omega arith))

pub canonical_again : (text : List ℕ) (ts : List TermSeen) → terms_of text ≡ Ok ts → terms_of (canonical ts) ≡ Ok ts
unfolding terms_of
canonical_again text ts h =
    let read = read_is text ts h in
    let more : List TermSeen = read.words.more in
    let is : ts ≡ more = read.words.is in
    let less = canonical_shortest text ts h in
    let short = read.short in
    let fits : nat_lt 480 (length (canonical ts)) ≡ false = le-ltb 480 (length (canonical ts)) (omega arith) in
    let words : words_of (canonical ts) ≡ map term_text more = ap (λ (us : List TermSeen). words_of (canonical us)) is ∙ words_of-canonical more read.words.inside read.words.some in
    rw (fits, words) read.words.again

-- a text that isn't too long has no such fault
pub not_long : (words : List (List ℕ)) (done : List TermSeen) → added_all done words ≡ Err fault.Long → ⊥
not_long [] done h = cc
not_long (word ∷ words) done h = by (λ next. not_long words next) (term_of word) h
  where
    unless : (t : TermSeen) → ((next : List TermSeen) → added_all next words ≡ Err fault.Long → ⊥) → (o : Option ℕ) → and_then (added_unless done t o) (λ more. added_all more words) ≡ Err fault.Long → ⊥
    unless t each None h' = each (done ++ t ∷ []) h'
    unless t each (Some letter) h' = cc

    by : ((next : List TermSeen) → added_all next words ≡ Err fault.Long → ⊥) → (o : Option TermSeen) → and_then (added done o) (λ more. added_all more words) ≡ Err fault.Long → ⊥
    by each None h' = cc
    by each (Some t) h' = unless t each (excess_of done t.what) h'

pub long_is : (text : List ℕ) → terms_of text ≡ Err fault.Long → 480 < length text
unfolding terms_of
long_is text h = by (nat_lt 480 (length text)) refl h
  where
    by : (c : Bool) → nat_lt 480 (length text) ≡ c → cond c (Err fault.Long) (added_all [] (words_of text)) ≡ Err fault.Long → 480 < length text
    by true e h' = ltb-true 480 (length text) e
    by false e h' = absurd (not_long (words_of text) [] h')

-- reading words never answers that the text is too long
pub words_fault : (r : Result (List TermSeen) FilterError) (words : List (List ℕ)) → Gives r (added_all [] words) → IsErrOf r fault.Long → ⊥
words_fault (Ok ts) words h e = cc
words_fault (Err fault.Long) words h e = not_long words [] h
words_fault (Err (fault.Term n)) words h e = cc
words_fault (Err (fault.TooMany letter)) words h e = cc
words_fault (Err fault.Memory) words h e = cc

-- a canonical text from a call that may answer that memory is wanting reads as the terms again, and is no longer than their text
pub again_ok : {E : Type 0} (r : Result (List ℕ) E) (ts : List TermSeen) → IfOk r (λ t. t ≡ canonical ts) → (text : List ℕ) → terms_of text ≡ Ok ts → IfOk r (λ t. terms_of t ≡ Ok ts)
again_ok r ts h text is = IfOk-weaker r (λ t. t ≡ canonical ts) (λ t. terms_of t ≡ Ok ts) (λ t e. ap terms_of e ∙ canonical_again text ts is) h

pub shortest_ok : {E : Type 0} (r : Result (List ℕ) E) (ts : List TermSeen) → IfOk r (λ t. t ≡ canonical ts) → (text : List ℕ) → terms_of text ≡ Ok ts → IfOk r (λ t. length t ≤ length text)
shortest_ok r ts h text is = IfOk-weaker r (λ t. t ≡ canonical ts) (λ t. length t ≤ length text) (λ t e. let short = canonical_shortest text ts is in let same = ap length e in omega arith) h
