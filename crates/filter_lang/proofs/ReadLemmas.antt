-- The letter of a term, and its words one after another.
use Rattle.std.proofs.Common.{◌≡◌, ℕ, ◌-◌, ◌≤◌, Bool, true, false, cond, ◌==◌, List, [], ◌∷◌, None, take, drop, length, get_or, refl, arith, eqb-true}
use Rattle.std.specs.List.{onto_first}
use Rattle.std.proofs.lemmas.List.{take_rest}
use Rattle.filter_lang.specs.Parts.{is_empty, fields_of}
use Rattle.filter_lang.specs.Grammar.{what_of_fields, other_of, named_of, lower}
use Rattle.filter_lang.proofs.NameLemmas.{fields_of-some}

pub no_kind : (parts : List (List ℕ)) → other_of (lower 47) parts ≡ None
unfolding other_of named_of
no_kind parts = refl

pub kind_of : (letter : ℕ) (parts : List (List ℕ)) (c : Bool) → (letter == 47) ≡ c → is_empty parts ≡ false → what_of_fields (cond c ([] ∷ [] ∷ parts) (onto_first letter ([] ∷ parts))) ≡ other_of (lower letter) parts
kind_of letter parts true slash some = rw (eqb-true letter 47 slash, no_kind parts) refl
kind_of letter [] false other some = cc
kind_of letter (field ∷ fields) false other some = refl

-- a body as a match on a slice gives it
pub kind_at : (body : List ℕ) → 2 ≤ length body → get_or body 1 0 ≡ 47 → what_of_fields (fields_of body) ≡ other_of (lower (get_or body 0 0)) (fields_of (take (length body - 2) (drop 2 body)))
kind_at [] h e = absurd (omega arith)
kind_at (a ∷ []) h e = absurd (omega arith)
kind_at (a ∷ b ∷ more) h e = rw (e, take_rest (a ∷ b ∷ more) 2) (kind_of a (fields_of more) (a == 47) refl (fields_of-some more))
