-- Lists of names, one after another.
use Rattle.std.proofs.Common.{◌≡◌, ℕ, Bool, true, false, List, [], ◌∷◌, ◌++◌, Some, None, refl, ap, append-nil, arith, cond}
use Rattle.std.specs.Prelude.{option_map}
use Rattle.std.specs.List.{onto_first}
use Rattle.std.proofs.lemmas.Bool.Decides.{nat_tests}
use Rattle.filter_lang.specs.Seen.{NameSeen}
use Rattle.filter_lang.specs.Names.{name_of, names_of, starless}
use Rattle.filter_lang.specs.Parts.{all_by, fields_after, fields_of, is_empty, is_slash}

pub fields_of-some : (text : List ℕ) → is_empty (fields_of text) ≡ false
fields_of-some [] = refl
fields_of-some (b ∷ text) = by_slash (is_slash b) (fields_of text)
  where
    by_slash : (c : Bool) (parts : List (List ℕ)) → is_empty (cond c ([] ∷ parts) (onto_first b parts)) ≡ false
    by_slash true parts = grind (arith, nat_tests)
    by_slash false [] = refl
    by_slash false (part ∷ parts) = grind (arith, nat_tests)

pub names_end : (text : List ℕ) (list : List NameSeen) → option_map (λ more. list ++ more) (all_by name_of (fields_after None)) ≡ all_by name_of (fields_of text) → Some list ≡ names_of (fields_of text)
names_end text list h = rw (fields_of-some text, ← h, append-nil list) refl

-- the fields of a starless name
pub starless_is : (text : List ℕ) (wild star : Bool) (n : NameSeen) → (let m : NameSeen = record { text = text; wild = wild } in m ≡ n) → star ≡ (starless n).wild → (let m : NameSeen = record { text = text; wild = star } in m ≡ starless n)
starless_is text wild star n same is =
    let bytes : text ≡ n.text = ap (λ (x : NameSeen). x.text) same in
    rw (bytes, is) refl
