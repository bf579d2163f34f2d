-- Writes one after another.
use Rattle.std.proofs.Common.{◌≡◌, ℕ, zero, suc, ◌+◌, ◌-◌, ◌≤◌, List, [], ◌∷◌, ◌++◌, length, take, drop, Option, Some, None, refl, ap, ◌∙◌, arith, append_assoc, length-drop}
use Rattle.std.specs.Io.KnownBytes.{Appends, Keeps}
use Rattle.std.proofs.lemmas.List.{take_all}

-- the first t and n more
take_more_of : (t n : ℕ) (bytes : List ℕ) → take t bytes ++ take n (drop t bytes) ≡ take (t + n) bytes
take_more_of zero n bytes = let e : 0 + n ≡ n = omega arith in rw e refl
take_more_of (suc t) zero [] = let e : suc t + 0 ≡ suc t = omega arith in rw e refl
take_more_of (suc t) (suc n) [] = let e : suc t + suc n ≡ suc (t + suc n) = omega arith in rw e refl
take_more_of (suc t) n (b ∷ bytes) = let e : suc t + n ≡ suc (t + n) = omega arith in rw e (ap (λ more. b ∷ more) (take_more_of t n bytes))

pub appends_more : (a b c : Option (List ℕ)) (t n : ℕ) (bytes : List ℕ) → Appends a b (take t bytes) → Appends b c (take n (drop t bytes)) → Appends a c (take (t + n) bytes)
appends_more None b c t n bytes p q = tt
appends_more (Some xs) None c t n bytes p q = absurd p
appends_more (Some xs) (Some ys) None t n bytes p q = q
appends_more (Some xs) (Some ys) (Some zs) t n bytes p q =
    q ∙ ap (λ front. front ++ take n (drop t bytes)) p ∙ append_assoc xs (take t bytes) (take n (drop t bytes)) ∙ ap (λ more. xs ++ more) (take_more_of t n bytes)

pub appends_keeps : (a b c : Option (List ℕ)) (bytes : List ℕ) → Appends a b bytes → Keeps b c → Appends a c bytes
appends_keeps None b c bytes p q = tt
appends_keeps (Some xs) None c bytes p q = absurd p
appends_keeps (Some xs) (Some ys) None bytes p q = q
appends_keeps (Some xs) (Some ys) (Some zs) bytes p q = q ∙ p

pub rest_is : (t : ℕ) (bytes : List ℕ) → take (length bytes - t) (drop t bytes) ≡ drop t bytes
rest_is t bytes = let size = length-drop t bytes in take_all (length bytes - t) (drop t bytes) (omega arith)

pub rest_within : (t n : ℕ) (bytes : List ℕ) → t ≤ length bytes → n ≤ length (take (length bytes - t) (drop t bytes)) → t + n ≤ length bytes
rest_within t n bytes le within =
    let size = length-drop t bytes in
    let same = ap length (rest_is t bytes) in
    omega arith
