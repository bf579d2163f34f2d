-- The canonical text of a term reads as it and is no longer.
use Rattle.std.proofs.Common.{◌≡◌, ℕ, ◌+◌, ◌<◌, ◌≤◌, Bool, true, false, cond, ◌==◌, ◌&&◌, List, [], ◌∷◌, ◌++◌, Option, Some, map, drop, length, refl, sym, ap, ◌∙◌, arith, subst}
use Rattle.std.specs.Prelude.{not, option_map}
use Rattle.std.specs.List.{list_all}
use Rattle.std.proofs.lemmas.List.Folds.{list_all-append}
use Rattle.std.proofs.lemmas.Bool.{eqb-true, eqb-false, and_parts, not-true}
use Rattle.std.proofs.lemmas.List.{map-id}
use Rattle.aprs_base.proofs.CallLemmas.{each_weaker}
use Rattle.filter_lang.specs.declared.terms.What.{What}
use Rattle.filter_lang.specs.declared.terms.What.TheVariants as what
use Rattle.filter_lang.specs.Seen.{NameSeen}
use Rattle.filter_lang.specs.Terms.{TermSeen}
use Rattle.filter_lang.specs.Parts.{is_empty, fields_of, without_last, all_by}
use Rattle.filter_lang.specs.Numbers.{has_minus}
use Rattle.filter_lang.specs.Names.{name_of, names_of, names_text, starless}
use Rattle.filter_lang.specs.Grammar.{other_of, named_of, what_of, what_of_fields, lower, term_of, term_if}
use Rattle.filter_lang.specs.Canonical.{what_fields, what_text, kind_letter, term_text}
use Rattle.aprs_base.proofs.StepLemmas.{bind_some, cond_not_some, map_some}
use Rattle.filter_lang.proofs.Tools.{is_inside, is_clean}
use Rattle.filter_lang.proofs.LastLaws.{without_last-length, without_last-same}
use Rattle.filter_lang.proofs.NumberLaws.{minus_size}
use Rattle.filter_lang.proofs.NameLaws.{bare, KeepsName, name_again, starless_again, starless_twice}
use Rattle.filter_lang.proofs.SlashLaws.{slashed, spread, length-slashed, is_neat, ends_some, fields_of-slashed, slashed-ends, fields_of-length}
use Rattle.filter_lang.proofs.KindLaws.{Keeps, some_not_empty, range_keeps, area_keeps, friend_keeps, mine_keeps, class_keeps, symbol_keeps, construct_keeps}

-- names, each by g
pub record NamesKeep (g : NameSeen → NameSeen) (fields : List (List ℕ)) (names : List NameSeen) : Type 0 where
  pub again : all_by name_of (map bare (map g names)) ≡ Some (map g names)
  pub shorter : spread (map bare (map g names)) ≤ spread fields
  pub clean : list_all is_neat (map bare (map g names)) ≡ true
  pub size : length (map bare (map g names)) ≡ length fields
  pub ends : (length fields ≡ 0 → ⊥) → ends_some (map bare (map g names)) ≡ true

pub names_keep : (g : NameSeen → NameSeen) → ((f : List ℕ) (n : NameSeen) → name_of f ≡ Some n → KeepsName f (g n)) → (fields : List (List ℕ)) (names : List NameSeen) → all_by name_of fields ≡ Some names → NamesKeep g fields names
names_keep g each [] names h =
    let e : [] ≡ names = cc in
    subst (λ (ns : List NameSeen). NamesKeep g [] ns) e (record { again = refl; shorter = omega arith; clean = refl; size = refl; ends = λ some. absurd (some refl) })
names_keep g each (f ∷ fields) names h =
    let n = bind_some (name_of f) _ names h in
    let rest = map_some (λ (ns : List NameSeen). n.0 ∷ ns) (all_by name_of fields) names n.2 in
    let first = each f n.0 n.1 in
    let more = names_keep g each fields rest.0 rest.1 in
    subst (λ (ns : List NameSeen). NamesKeep g (f ∷ fields) ns) rest.2 (record {
      again = rw (first.again, more.again) refl;
      shorter = (let x = first.neat.shorter in let y = more.shorter in omega arith);
      clean = rw (first.neat.clean, more.clean) refl;
      size = (let y = more.size in omega arith);
      ends = λ some. last (bare (g n.0)) (map bare (map g rest.0)) first.some (λ e. more.ends (λ z. e (more.size ∙ z)));
    })
  where
    last : (x : List ℕ) (xs : List (List ℕ)) → 0 < length x → ((length xs ≡ 0 → ⊥) → ends_some xs ≡ true) → ends_some (x ∷ xs) ≡ true
    last x [] some ends = some_not_empty x some
    last x (y ∷ xs) some ends = ends (λ e. omega arith)

pub names_text-slashed : (names : List NameSeen) → names_text names ≡ slashed (map bare names)
names_text-slashed [] = refl
names_text-slashed (n ∷ names) = ap (λ (t : List ℕ). (47 ∷ bare n) ++ t) (names_text-slashed names)

pub starless_all : (names : List NameSeen) → map starless (map starless names) ≡ map starless names
starless_all [] = refl
starless_all (n ∷ names) = rw (starless_twice n, starless_all names) refl

-- what a list of names keeps
pub record ListKeeps (fields : List (List ℕ)) (names : List NameSeen) : Type 0 where
  pub again : names_of (map bare names) ≡ Some names
  pub shorter : spread (map bare names) ≤ spread fields
  pub clean : list_all is_neat (map bare names) ≡ true
  pub ends : ends_some (map bare names) ≡ true

pub list_by : (g : NameSeen → NameSeen) (fields : List (List ℕ)) (names : List NameSeen) → is_empty fields ≡ false → NamesKeep g fields names → ListKeeps fields (map g names)
list_by g fields names some keeps = record {
  again = (let size = keeps.size in rw (ap (λ (n : ℕ). n == 0) size ∙ some) keeps.again);
  shorter = keeps.shorter;
  clean = keeps.clean;
  ends = keeps.ends (eqb-false (length fields) 0 some);
}

pub list_keeps : (fields : List (List ℕ)) (names : List NameSeen) → names_of fields ≡ Some names → ListKeeps fields names
list_keeps fields names h =
    let test = cond_not_some (is_empty fields) (all_by name_of fields) names h in
    subst (λ (ns : List NameSeen). ListKeeps fields ns) (map-id names) (list_by (λ n. n) fields names test.0 (names_keep (λ n. n) name_again fields names test.1))

pub starless_keeps : (fields : List (List ℕ)) (names : List NameSeen) → names_of fields ≡ Some names → ListKeeps fields (map starless names)
starless_keeps fields names h =
    let test = cond_not_some (is_empty fields) (all_by name_of fields) names h in
    list_by starless fields names test.0 (names_keep starless starless_again fields names test.1)

-- the kinds of names
module _ (make : List NameSeen → What) (letter : ℕ) (fields : List (List ℕ)) (w : What) where
  pub named_keeps : ((names : List NameSeen) → what_fields (make names) ≡ names_text names) → ((names : List NameSeen) → kind_letter (make names) ≡ letter) → ((canon : List (List ℕ)) → other_of letter canon ≡ option_map make (names_of canon)) → option_map make (names_of fields) ≡ Some w → Keeps letter fields w
  named_keeps text kind read h =
      let found = map_some make (names_of fields) w h in
      let names : List NameSeen = found.0 in
      let keeps = list_keeps fields names found.1 in
      subst (λ (u : What). Keeps letter fields u) found.2 (record {
        canon = map bare names;
        text = text names ∙ names_text-slashed names;
        kind = kind names;
        again = read (map bare names) ∙ ap (option_map make) keeps.again;
        shorter = keeps.shorter;
        clean = keeps.clean;
        ends = keeps.ends;
      })

pub prefix_keeps : (fields : List (List ℕ)) (w : What) → option_map (λ names. what.Prefix (map starless names)) (names_of fields) ≡ Some w → Keeps 112 fields w
unfolding other_of named_of
prefix_keeps fields w h =
    let found = map_some (λ (names : List NameSeen). what.Prefix (map starless names)) (names_of fields) w h in
    let names : List NameSeen = found.0 in
    let keeps = starless_keeps fields names found.1 in
    subst (λ (u : What). Keeps 112 fields u) found.2 (record {
      canon = map bare (map starless names);
      text = ap names_text (starless_all names) ∙ names_text-slashed (map starless names);
      kind = refl;
      again = ap (option_map (λ (ns : List NameSeen). what.Prefix (map starless ns))) keeps.again ∙ ap (λ (ns : List NameSeen). Some (what.Prefix ns)) (starless_all names);
      shorter = keeps.shorter;
      clean = keeps.clean;
      ends = keeps.ends;
    })

pub choose : {K : Type 0} {w : What} (b : Bool) (x y : Option What) → cond b x y ≡ Some w → (b ≡ true → x ≡ Some w → K) → (y ≡ Some w → K) → K
choose true x y h this others = this refl h
choose false x y h this others = others h

module _ (letter : ℕ) (fields : List (List ℕ)) (w : What) where
  pub at_letter : (c : ℕ) → (letter == c) ≡ true → Keeps c fields w → Keeps letter fields w
  at_letter c e keeps = subst (λ (k : ℕ). Keeps k fields w) (sym (eqb-true letter c e)) keeps

  pub named_of-keeps : named_of letter fields ≡ Some w → Keeps letter fields w
  unfolding named_of other_of
  named_of-keeps h =
      choose (letter == 112) _ _ h (λ e x. at_letter 112 e (prefix_keeps fields w x)) (λ h1.
      choose (letter == 98) _ _ h1 (λ e x. at_letter 98 e (named_keeps what.Buddy 98 fields w (λ ns. refl) (λ ns. refl) (λ canon. refl) x)) (λ h2.
      choose (letter == 111) _ _ h2 (λ e x. at_letter 111 e (named_keeps what.Object 111 fields w (λ ns. refl) (λ ns. refl) (λ canon. refl) x)) (λ h3.
      choose (letter == 100) _ _ h3 (λ e x. at_letter 100 e (named_keeps what.Digi 100 fields w (λ ns. refl) (λ ns. refl) (λ canon. refl) x)) (λ h4.
      choose (letter == 101) _ _ h4 (λ e x. at_letter 101 e (named_keeps what.Entry 101 fields w (λ ns. refl) (λ ns. refl) (λ canon. refl) x)) (λ h5.
      choose (letter == 103) _ _ h5 (λ e x. at_letter 103 e (named_keeps what.Group 103 fields w (λ ns. refl) (λ ns. refl) (λ canon. refl) x)) (λ h6.
      choose (letter == 117) _ _ h6 (λ e x. at_letter 117 e (named_keeps what.Dest 117 fields w (λ ns. refl) (λ ns. refl) (λ canon. refl) x)) (λ h7. cc)))))))

  pub other_of-keeps : other_of letter fields ≡ Some w → Keeps letter fields w
  unfolding other_of
  other_of-keeps h =
      choose (letter == 114) _ _ h (λ e x. at_letter 114 e (range_keeps fields w x)) (λ h1.
      choose (letter == 97) _ _ h1 (λ e x. at_letter 97 e (area_keeps fields w x)) (λ h2.
      choose (letter == 102) _ _ h2 (λ e x. at_letter 102 e (friend_keeps fields w x)) (λ h3.
      choose (letter == 109) _ _ h3 (λ e x. at_letter 109 e (mine_keeps fields w x)) (λ h4.
      choose (letter == 116) _ _ h4 (λ e x. at_letter 116 e (class_keeps fields w x)) (λ h5.
      choose (letter == 115) _ _ h5 (λ e x. at_letter 115 e (symbol_keeps fields w x)) (λ h6.
      choose (letter == 113) _ _ h6 (λ e x. at_letter 113 e (construct_keeps fields w x)) named_of-keeps))))))

-- each kind's letter is small, and neither a blank nor a slash nor a minus
abbrev pub is_kind : ℕ → Bool
is_kind l = is_clean l && (not (l == 45) && lower l == l)

pub kind_letter-good : (w : What) → is_kind (kind_letter w) ≡ true
kind_letter-good (what.Range lat lon km) = refl
kind_letter-good (what.Prefix names) = refl
kind_letter-good (what.Buddy names) = refl
kind_letter-good (what.Object names) = refl
kind_letter-good (what.Class mask) = refl
kind_letter-good (what.ClassNear mask call km) = refl
kind_letter-good (what.Symbol pri alt over) = refl
kind_letter-good (what.Digi names) = refl
kind_letter-good (what.Entry names) = refl
kind_letter-good (what.Group names) = refl
kind_letter-good (what.Dest names) = refl
kind_letter-good (what.Friend call km) = refl
kind_letter-good (what.Mine km) = refl
kind_letter-good (what.Area north west south east) = refl
kind_letter-good (what.Construct letters gates) = refl

pub slashed_inside : (fields : List (List ℕ)) → list_all is_neat fields ≡ true → list_all is_inside (slashed fields) ≡ true
slashed_inside [] h = refl
slashed_inside (f ∷ fields) h =
    let parts = and_parts (is_neat f) (list_all is_neat fields) h in
    rw (list_all-append is_inside f (slashed fields), each_weaker is_clean is_inside (λ b e. (and_parts (is_inside b) _ e).0) f parts.0, slashed_inside fields parts.1) refl

pub record KeepsWhat (body : List ℕ) (w : What) : Type 0 where
  pub again : what_of (what_text w) ≡ Some w
  pub shorter : length (what_text w) ≤ length body
  pub inside : list_all is_inside (what_text w) ≡ true
  pub plain : has_minus (what_text w) ≡ false

pub front_kind : (letter : ℕ) (canon : List (List ℕ)) → ends_some canon ≡ true → what_of_fields ((letter ∷ []) ∷ canon) ≡ other_of (lower letter) canon
front_kind letter [] h = cc
front_kind letter (f ∷ fields) h = refl

pub what_by : (body : List ℕ) (letter : ℕ) (fields : List (List ℕ)) (w : What) → Keeps (lower letter) fields w → 1 + spread fields ≤ length body → KeepsWhat body w
unfolding what_of
what_by body letter fields w keeps size =
    let l : ℕ = kind_letter w in
    let canon : List (List ℕ) = keeps.canon in
    let good = and_parts (is_clean l) (not (l == 45) && lower l == l) (kind_letter-good w) in
    let more = and_parts (not (l == 45)) (lower l == l) good.1 in
    let front : is_neat (l ∷ []) ≡ true = rw good.0 refl in
    let text : what_text w ≡ l ∷ slashed canon = ap (λ (t : List ℕ). l ∷ t) keeps.text in
    let ends = slashed-ends (l ∷ []) canon keeps.clean keeps.ends in
    let same = without_last-same 47 (l ∷ slashed canon) ends in
    let fs = fields_of-slashed (l ∷ []) canon front keeps.clean in
    let kind : lower l ≡ lower letter = eqb-true (lower l) l more.1 ∙ keeps.kind in
    let whole : what_of (l ∷ slashed canon) ≡ Some w = ap (λ (t : List ℕ). what_of_fields (fields_of t)) same ∙ ap what_of_fields fs ∙ front_kind l canon keeps.ends ∙ ap (λ (k : ℕ). other_of k canon) kind ∙ keeps.again in
    let inside : list_all is_inside (l ∷ slashed canon) ≡ true = rw ((and_parts (is_inside l) _ good.0).0, slashed_inside canon keeps.clean) refl in
    record {
      again = ap what_of text ∙ whole;
      shorter = (let less = keeps.shorter in let long = length-slashed canon in let e = ap length text in omega arith);
      inside = ap (list_all is_inside) text ∙ inside;
      plain = not-true (l == 45) more.0;
    }

pub what_keeps : (body : List ℕ) (w : What) → what_of body ≡ Some w → KeepsWhat body w
unfolding what_of
what_keeps body w h = by (fields_of (without_last 47 body)) refl h
  where
    by : (parts : List (List ℕ)) → fields_of (without_last 47 body) ≡ parts → what_of_fields parts ≡ Some w → KeepsWhat body w
    by [] e h' = cc
    by ([] ∷ fields) e h' = cc
    by ((letter ∷ []) ∷ []) e h' = cc
    by ((letter ∷ []) ∷ field ∷ fields) e h' =
        let long = fields_of-length (without_last 47 body) (letter ∷ []) (field ∷ fields) e in
        let less = without_last-length 47 body in
        what_by body letter (field ∷ fields) w (other_of-keeps (lower letter) (field ∷ fields) w h') (omega arith)
    by ((letter ∷ b ∷ more) ∷ fields) e h' = cc

-- a term
pub record KeepsTerm (word : List ℕ) (t : TermSeen) : Type 0 where
  pub again : term_of (term_text t) ≡ Some t
  pub shorter : length (term_text t) ≤ length word
  pub inside : list_all is_inside (term_text t) ≡ true
  pub some : 0 < length (term_text t)

pub excluding_by : (word : List ℕ) (w : What) → length (drop 1 word) + 1 ≤ length word → KeepsWhat (drop 1 word) w → KeepsTerm word (record { exclude = true; what = w })
unfolding term_of term_text
excluding_by word w size keeps = record {
  again = ap (option_map (λ (v : What). (let t : TermSeen = record { exclude = true; what = v } in t))) keeps.again;
  shorter = (let less = keeps.shorter in omega arith);
  inside = keeps.inside;
  some = omega arith;
}

pub plain_by : (word : List ℕ) (w : What) → KeepsWhat word w → KeepsTerm word (record { exclude = false; what = w })
unfolding term_of term_text
plain_by word w keeps = record {
  again = rw keeps.plain (ap (option_map (λ (v : What). (let t : TermSeen = record { exclude = false; what = v } in t))) keeps.again);
  shorter = keeps.shorter;
  inside = keeps.inside;
  some = omega arith;
}

pub term_keeps : (word : List ℕ) (t : TermSeen) → term_of word ≡ Some t → KeepsTerm word t
unfolding term_of
term_keeps word t h = by (has_minus word) refl h
  where
    by : (c : Bool) → has_minus word ≡ c → cond c (term_if true (drop 1 word)) (term_if false word) ≡ Some t → KeepsTerm word t
    by true e h' =
        let found = map_some (λ (v : What). (let u : TermSeen = record { exclude = true; what = v } in u)) (what_of (drop 1 word)) t h' in
        subst (λ (u : TermSeen). KeepsTerm word u) found.2 (excluding_by word found.0 (minus_size word e) (what_keeps (drop 1 word) found.0 found.1))
    by false e h' =
        let found = map_some (λ (v : What). (let u : TermSeen = record { exclude = false; what = v } in u)) (what_of word) t h' in
        subst (λ (u : TermSeen). KeepsTerm word u) found.2 (plain_by word found.0 (what_keeps word found.0 found.1))
