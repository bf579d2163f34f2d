-- Lists of keys and values: the first entry of a key, and what setting it leaves.
use Rattle.std.proofs.Common.{◌≡◌, Bool, true, false, cond, List, [], ◌∷◌, Some, refl, sym, ap, ◌∙◌}
use Rattle.std.specs.Cmp.{IsEquivalence}
use Rattle.std.specs.List.{AllByRecursion, IsDistinct}
use Rattle.std.specs.Map.{keys_of, lookup}
use Rattle.std.proofs.lemmas.Map.Keys.{IsDistinct-head, IsDistinct-tail, IsDistinct-cons}
use Rattle.indexmap.specs.IndexMap.{insert_entry}

-- where only one of two tests can pass, either may be asked first
either_first : {A : Type 0} (a b : Bool) (x y z : A) → (b ≡ true → a ≡ false) → cond a x (cond b y z) ≡ cond b y (cond a x z)
either_first a false x y z h = refl
either_first a true x y z h = ap (λ t. cond t x y) (h refl)

asked_twice : {A : Type 0} (b : Bool) (x y z : A) → cond b x z ≡ cond b x (cond b y z)
asked_twice true x y z = refl
asked_twice false x y z = refl

module _ {K X : Type 0} {eq : K → K → Bool} (laws : IsEquivalence eq) where
  -- a key that is set has its new value, and each other key what it had
  pub lookup_set : (k q : K) (v : X) (es : List (K × X)) → lookup (eq q) (insert_entry eq es k v) ≡ cond (eq q k) (Some v) (lookup (eq q) es)
  lookup_set k q v [] = refl
  lookup_set k q v (e ∷ es) = by (lookup_set k q v es) (eq k e.0) refl
    where
      by : lookup (eq q) (insert_entry eq es k v) ≡ cond (eq q k) (Some v) (lookup (eq q) es) → (b : Bool) → eq k e.0 ≡ b
          → lookup (eq q) (cond (eq k e.0) ((e.0, v) ∷ es) (e ∷ insert_entry eq es k v)) ≡ cond (eq q k) (Some v) (cond (eq q e.0) (Some e.1) (lookup (eq q) es))
      by rest true is =
          let same : eq q e.0 ≡ eq q k = laws.symm q e.0 ∙ sym (laws.congr k e.0 q is) ∙ laws.symm k q in
          rw is (ap (λ b. cond b (Some v) (lookup (eq q) es)) same ∙ asked_twice (eq q k) (Some v) (Some e.1) (lookup (eq q) es)
          ∙ ap (λ b. cond (eq q k) (Some v) (cond b (Some e.1) (lookup (eq q) es))) (sym same))
      by rest false is =
          rw is (ap (cond (eq q e.0) (Some e.1)) rest
          ∙ either_first (eq q e.0) (eq q k) (Some e.1) (Some v) (lookup (eq q) es) (λ h. laws.congr q k e.0 h ∙ is))

  set_all : (P : K → Type 0) (k : K) (v : X) (es : List (K × X)) → AllByRecursion P (keys_of es) → P k → AllByRecursion P (keys_of (insert_entry eq es k v))
  set_all P k v [] h at = (at, tt)
  set_all P k v (e ∷ es) h at = by (set_all P k v es h.1 at) (eq k e.0) refl
    where
      by : AllByRecursion P (keys_of (insert_entry eq es k v)) → (b : Bool) → eq k e.0 ≡ b → AllByRecursion P (keys_of (cond (eq k e.0) ((e.0, v) ∷ es) (e ∷ insert_entry eq es k v)))
      by rest true is = rw is h
      by rest false is = rw is (h.0, rest)

  -- no key stands twice after one is set
  pub distinct_set : (k : K) (v : X) (es : List (K × X)) → IsDistinct eq (keys_of es) → IsDistinct eq (keys_of (insert_entry eq es k v))
  distinct_set k v [] h = IsDistinct-cons eq k [] tt h
  distinct_set k v (e ∷ es) h = by (distinct_set k v es (IsDistinct-tail eq e.0 (keys_of es) h)) (eq k e.0) refl
    where
      by : IsDistinct eq (keys_of (insert_entry eq es k v)) → (b : Bool) → eq k e.0 ≡ b → IsDistinct eq (keys_of (cond (eq k e.0) ((e.0, v) ∷ es) (e ∷ insert_entry eq es k v)))
      by rest true is = rw is h
      by rest false is =
          rw is (IsDistinct-cons eq e.0 (keys_of (insert_entry eq es k v))
          (set_all (λ y. eq e.0 y ≡ false) k v es (IsDistinct-head eq e.0 (keys_of es) h) (laws.symm e.0 k ∙ is)) rest)
