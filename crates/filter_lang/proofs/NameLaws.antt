-- Canonical names read as the same and are no longer.
use Rattle.std.proofs.Common.{◌≡◌, ℕ, ◌+◌, ◌<◌, ◌≤◌, Bool, true, false, ◌||◌, ◌&&◌, nat_le, List, [], ◌∷◌, ◌++◌, Some, map, length, refl, ap, ◌∙◌, arith, subst, append-nil}
use Rattle.std.specs.Prelude.{not}
use Rattle.std.specs.List.{list_all}
use Rattle.std.proofs.lemmas.List.{length-map, length-append}
use Rattle.std.proofs.lemmas.Bool.{leb-true, le-leb, and_parts}
use Rattle.std.proofs.lemmas.Bool.Decides.{nat_tests}
use Rattle.std.proofs.lemmas.Simd.{map-map}
use Rattle.filter_lang.specs.Seen.{NameSeen}
use Rattle.filter_lang.specs.Parts.{is_empty, ends_in, without_last}
use Rattle.filter_lang.specs.Names.{meant, spelled, is_plain, is_name, name_if, name_of, starless, star_text}
use Rattle.filter_lang.proofs.LastLaws.{ends_in-put, without_last-put, ends_in-other, without_last-shorter, without_last-length}
use Rattle.aprs_base.proofs.StepLemmas.{cond_some}
use Rattle.filter_lang.proofs.Tools.{is_clean, clean_append, Neat, map_agree, map_all}

-- a name without its slash
abbrev pub bare : NameSeen → List ℕ
bare n = map spelled n.text ++ star_text n.wild

abbrev pub respelled : ℕ → ℕ
respelled b = spelled (meant b)

pub respelled_plain : (b : ℕ) → is_plain b ≡ true → is_plain (respelled b) ≡ true
respelled_plain b h = grind (arith, nat_tests)

pub respelled_clean : (b : ℕ) → is_plain b ≡ true → is_clean (respelled b) ≡ true
respelled_clean b h = grind (arith, nat_tests)

pub respelled_meant : (b : ℕ) → is_plain b ≡ true → meant (respelled b) ≡ meant b
respelled_meant b h = grind (arith, nat_tests)

-- the parts of a name's text
pub name_text-parts : (body : List ℕ) (wild : Bool) → list_all is_plain body ≡ true → name_of (body ++ star_text wild) ≡ name_if body wild
unfolding name_of
name_text-parts body true plain =
    ap (λ (b : List ℕ). name_if b (ends_in 42 (body ++ 42 ∷ []))) (without_last-put 42 body) ∙ ap (λ (w : Bool). name_if body w) (ends_in-put 42 body)
name_text-parts body false plain =
    let other = ends_in-other 42 is_plain body (λ e. omega arith) refl plain in
    rw (append-nil body, other) refl

pub record KeepsName (field : List ℕ) (n : NameSeen) : Type 0 where
  pub again : name_of (bare n) ≡ Some n
  pub neat : Neat field (bare n)
  pub some : 0 < length (bare n)

pub star_clean : (wild : Bool) → list_all is_clean (star_text wild) ≡ true
star_clean true = refl
star_clean false = refl

-- a name of plain bytes
pub name_by : (field body : List ℕ) (wild : Bool) → list_all is_plain body ≡ true → length body ≤ 9 → (wild || not (is_empty body)) ≡ true → length body + length (star_text wild) ≤ length field → KeepsName field (record { text = map meant body; wild = wild })
name_by field body wild plain nine some size =
    let both_ways : map spelled (map meant body) ≡ map respelled body = map-map spelled meant body in
    let plain' = map_all is_plain is_plain respelled respelled_plain body plain in
    let clean = map_all is_plain is_clean respelled respelled_clean body plain in
    let meant' : map meant (map respelled body) ≡ map meant body = map-map meant respelled body ∙ map_agree is_plain (λ b. meant (respelled b)) meant respelled_meant body plain in
    let same = length-map body respelled in
    record {
      again = rw both_ways (name_text-parts (map respelled body) wild plain' ∙ rw (plain', same, le-leb (length body) 9 nine, some, meant') refl);
      neat = record { shorter = rw (both_ways, length-append (map respelled body) (star_text wild), same) size; clean = rw both_ways (clean_append (map respelled body) (star_text wild) clean (star_clean wild)) };
      some = rw (both_ways, length-append (map respelled body) (star_text wild), same) (one wild body some);
    }
  where
    one : (c : Bool) (xs : List ℕ) → (c || not (is_empty xs)) ≡ true → 0 < length xs + length (star_text c)
    one true xs h = omega arith
    one false [] h = cc
    one false (x ∷ xs) h = omega arith

-- what a field has
pub record NameParts (field : List ℕ) (n : NameSeen) : Type 0 where
  pub body : List ℕ
  pub wild : Bool
  pub is : (let m : NameSeen = record { text = map meant body; wild = wild } in m ≡ n)
  pub plain : list_all is_plain body ≡ true
  pub nine : length body ≤ 9
  pub some : (wild || not (is_empty body)) ≡ true
  pub size : length body + length (star_text wild) ≤ length field

pub name_parts : (field : List ℕ) (n : NameSeen) → name_of field ≡ Some n → NameParts field n
unfolding name_of
name_parts field n h =
    let body : List ℕ = without_last 42 field in
    let wild : Bool = ends_in 42 field in
    let test = cond_some (is_name body wild) (Some (record { text = map meant body; wild = wild })) n h in
    let first = and_parts (list_all is_plain body && nat_le (length body) 9) (wild || not (is_empty body)) test.0 in
    let second = and_parts (list_all is_plain body) (nat_le (length body) 9) first.0 in
    record {
      body = body;
      wild = wild;
      is = cc;
      plain = second.0;
      nine = leb-true (length body) 9 second.1;
      some = first.1;
      size = by (ends_in 42 field) refl;
    }
  where
    by : (c : Bool) → ends_in 42 field ≡ c → length (without_last 42 field) + length (star_text c) ≤ length field
    by true e = omega (arith, without_last-shorter 42 field (λ z. omega arith) e)
    by false e = omega (arith, without_last-length 42 field)

pub name_again : (field : List ℕ) (n : NameSeen) → name_of field ≡ Some n → KeepsName field n
name_again field n h =
    let parts = name_parts field n h in
    subst (λ (m : NameSeen). KeepsName field m) parts.is (name_by field parts.body parts.wild parts.plain parts.nine parts.some parts.size)

-- without a star after other bytes
pub starless_again : (field : List ℕ) (n : NameSeen) → name_of field ≡ Some n → KeepsName field (starless n)
starless_again field n h =
    let parts = name_parts field n h in
    let empty : is_empty (map meant parts.body) ≡ is_empty parts.body = rw (length-map parts.body meant) refl in
    subst (λ (m : NameSeen). KeepsName field (starless m)) parts.is
    (rw empty (name_by field parts.body (parts.wild && is_empty parts.body) parts.plain parts.nine (some parts.wild (is_empty parts.body) parts.some) (let less = size parts.wild (is_empty parts.body) in let all = parts.size in omega arith)))
  where
    some : (c e : Bool) → (c || not e) ≡ true → ((c && e) || not e) ≡ true
    some true true h' = refl
    some true false h' = refl
    some false true h' = cc
    some false false h' = refl

    size : (c e : Bool) → length (star_text (c && e)) ≤ length (star_text c)
    size true true = omega arith
    size true false = omega arith
    size false e = omega arith

pub starless_twice : (n : NameSeen) → starless (starless n) ≡ starless n
starless_twice n = ap (λ (w : Bool). (let m : NameSeen = record { text = n.text; wild = w } in m)) (twice n.wild (is_empty n.text))
  where
    twice : (c e : Bool) → ((c && e) && e) ≡ (c && e)
    twice true true = refl
    twice true false = refl
    twice false e = refl
