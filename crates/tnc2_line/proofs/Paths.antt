-- The elements of a path, written and read.
use Rattle.std.proofs.Common.{◌≡◌, ℕ, ◌+◌, ◌<◌, ◌≤◌, Bool, true, false, cond, not, ◌||◌, ◌&&◌, List, [], ◌∷◌, ◌++◌, map, take, length, Option, Some, None, Ok, refl, sym, ap, ◌∙◌, inl, inr, leb, ltb, arith, append_assoc}
use Rattle.std.specs.List.{list_all, list_any, position_or_len, before_first, after_first, slice_split, flat_map, join_with_byte}
use Rattle.std.specs.Option.{ok_or, option_and_then}
use Rattle.std.proofs.lemmas.Bool.{and_parts, and_from, cases_lt, lt-ltb, ltb-true, leb-true, eqb-true}
use Rattle.std.proofs.lemmas.Bool.Decides.{nat_tests}
use Rattle.std.proofs.lemmas.Grind.{common_steps}
use Rattle.std.proofs.lemmas.List.{length-append, append-nil, take_all, nil_from_length}
use Rattle.std.proofs.lemmas.List.Folds.{list_all-append, list_any-append}
use Rattle.std.proofs.Math.Bool.{and-true, and-false, or-false}
use Rattle.aprs_base.specs.Bytes.{is_call}
use Rattle.aprs_base.specs.declared.packets.Via.{Via}
use Rattle.tnc2_line.specs.Packet.{via_of, via_text, with_comma, is_star, is_comma, is_element, has_no_star, names_construct, from_construct, may_follow, next_via, vias_of}
use Rattle.aprs_base.specs.ResultSteps.{◌>>=◌}
use Rattle.tnc2_line.specs.declared.reading.LineFault.TheVariants as fault
use Rattle.tnc2_line.proofs.Calls.{call_without, no_star, no_comma}
use Rattle.tnc2_line.proofs.Cuts.{position_at, position_none, any_at, any_none, cut_whole, cut_there, split_cut, split_none, parted}
use Rattle.tnc2_line.proofs.Vias.{via_on}

-- what an element's text reads as
pub via_back : (call : List ℕ) (star : Bool) → is_call call ≡ true → via_of (call ++ cond star (42 ∷ []) []) ≡ Some (record { call = call; star = star })
via_back call true h =
    let place : length call ≡ position_or_len is_star (call ++ 42 ∷ []) = sym (position_at is_star call 42 [] (call_without is_star no_star call h) refl) in
    let long : length (call ++ 42 ∷ []) ≡ length call + 1 = length-append call (42 ∷ []) in
    let front : take (length call) (call ++ 42 ∷ []) ≡ call = grind (arith, common_steps) in
    let less : ltb (length call) (length (call ++ 42 ∷ [])) ≡ true = lt-ltb _ _ (omega arith) in
    sym (via_on (call ++ 42 ∷ []) (length call) place (omega arith) call (rw front h) (sym front) (omega arith)) ∙ ap (λ b. Some (record { call = call; star = b })) less
via_back call false h =
    let place : length call ≡ position_or_len is_star call = sym (position_none is_star call (call_without is_star no_star call h)) in
    let front : take (length call) call ≡ call = grind (arith, common_steps) in
    let less : ltb (length call) (length call) ≡ false = grind (arith, nat_tests) in
    ap via_of (append-nil call) ∙ sym (via_on call (length call) place (omega arith) call (rw front h) (sym front) (omega arith)) ∙ ap (λ b. Some (record { call = call; star = b })) less

pub via_again : (via : Via) → is_element via ≡ true → via_of (via_text via) ≡ Some via
via_again via h = via_back via.call via.star h

-- a text that reads as an element is that element's text
star_text : (text : List ℕ) (starred : Bool) → list_any is_star text ≡ starred → length text ≤ length (before_first is_star text) + 1
    → before_first is_star text ++ cond starred (42 ∷ []) [] ≡ text
star_text text true any short =
    let whole = cut_whole is_star text any in
    let star : whole.0 ≡ 42 = eqb-true _ _ whole.1 in
    let long = ap length whole.2 ∙ length-append (before_first is_star text) (whole.0 ∷ after_first is_star text) in
    let none : length (after_first is_star text) ≡ 0 = omega (arith, long) in
    let rest : after_first is_star text ≡ [] = nil_from_length _ none in
    ap (λ c. before_first is_star text ++ c ∷ []) (sym star) ∙ ap (λ xs. before_first is_star text ++ whole.0 ∷ xs) (sym rest) ∙ sym whole.2
star_text text false none short =
    let past : length text ≤ position_or_len is_star text =
    elim (cases_lt (position_or_len is_star text) (length text)) [
      | inl lt ↦ absurd (let any : list_any is_star text ≡ true = any_at is_star text lt in cc)
      | inr le ↦ le
    ] in
    append-nil _ ∙ take_all _ text past

pub via_gives : (text : List ℕ) (via : Via) → via_of text ≡ Some via → (via_text via ≡ text) × (is_element via ≡ true)
unfolding via_of
via_gives text via h =
    elim (is_call (before_first is_star text) && leb (length text) (length (before_first is_star text) + 1)) as (λ b.
    (is_call (before_first is_star text) && leb (length text) (length (before_first is_star text) + 1)) ≡ b → found b ≡ Some via → (via_text via ≡ text) × (is_element via ≡ true)) [
      | true ↦ λ e same.
          let tests = and_parts _ _ e in
          let is : the_via ≡ via = from_some _ _ same in
          (ap via_text (sym is) ∙ star_text text (list_any is_star text) refl (leb-true _ _ tests.1), ap is_element (sym is) ∙ tests.0)
      | false ↦ λ _ same. cc
    ] refl h
  where
    the_via : Via
    the_via = record { call = before_first is_star text; star = list_any is_star text }

    found : Bool → Option Via
    found b = cond b (Some (record { call = before_first is_star text; star = list_any is_star text })) None

    from_some : (x y : Via) → Some x ≡ Some y → x ≡ y
    from_some x y e = cc

-- no `*` on a construct or after one, where `any` says whether a construct went before
abbrev pub stars_fit : Bool → List Via → Bool
stars_fit any vias = cond any (list_all has_no_star vias) (list_all has_no_star (from_construct vias))

-- this element has none there, and no later one has
stars_step : (any : Bool) (via : Via) (vias : List Via) → stars_fit any (via ∷ vias) ≡ (not (via.star && (names_construct via || any)) && stars_fit (any || names_construct via) vias)
stars_step true via vias =
    elim (names_construct via) as (λ n. list_all has_no_star (via ∷ vias) ≡ (not (via.star && (n || true)) && list_all has_no_star vias)) [
      | true ↦ ap (λ b. not b && list_all has_no_star vias) (sym (and-true via.star))
      | false ↦ ap (λ b. not b && list_all has_no_star vias) (sym (and-true via.star))
    ]
stars_step false via vias =
    elim (names_construct via) as (λ n. list_all has_no_star (cond n (via ∷ vias) (from_construct vias)) ≡ (not (via.star && (n || false)) && cond n (list_all has_no_star vias) (list_all has_no_star (from_construct vias)))) [
      | true ↦ ap (λ b. not b && list_all has_no_star vias) (sym (and-true via.star))
      | false ↦ ap (λ b. not b && list_all has_no_star (from_construct vias)) (sym (and-false via.star))
    ]

any_push : (earlier : List Via) (via : Via) → list_any names_construct (earlier ++ via ∷ []) ≡ (list_any names_construct earlier || names_construct via)
any_push earlier via = list_any-append names_construct earlier (via ∷ []) ∙ ap (λ b. list_any names_construct earlier || b) (or-false (names_construct via))

-- the elements that may follow these
pub record Follow (earlier more : List Via) : Type 0 where
  pub few : length earlier + length more ≤ 32
  pub elements : list_all is_element more ≡ true
  pub stars : stars_fit (list_any names_construct earlier) more ≡ true

follow_first : (earlier : List Via) (via : Via) (more : List Via) → Follow earlier (via ∷ more) → may_follow earlier via ≡ true
follow_first earlier via more f =
    let room : ltb (length earlier) 32 ≡ true = lt-ltb _ _ (omega (arith, f.few)) in
    let stars = and_parts _ _ (sym (stars_step (list_any names_construct earlier) via more) ∙ f.stars) in
    and_from _ _ room stars.0

follow_rest : (earlier : List Via) (via : Via) (more : List Via) → Follow earlier (via ∷ more) → Follow (earlier ++ via ∷ []) more
follow_rest earlier via more f = record {
  few = omega (arith, f.few, length-append earlier (via ∷ []));
  elements = (and_parts _ _ f.elements).1;
  stars =
      let stars = and_parts _ _ (sym (stars_step (list_any names_construct earlier) via more) ∙ f.stars) in
      ap (λ b. stars_fit b more) (any_push earlier via) ∙ stars.1;
}

next_back : (earlier : List Via) (via : Via) → is_element via ≡ true → may_follow earlier via ≡ true → next_via earlier (via_text via) ≡ Some via
next_back earlier via e m =
    ap (λ o. option_and_then (λ v. cond (may_follow earlier v) (Some v) None) o) (via_again via e) ∙ ap (λ b. cond b (Some via) None) m

-- what the texts of elements read as
pub vias_back : (earlier more : List Via) → Follow earlier more → vias_of earlier (map via_text more) ≡ Ok (earlier ++ more)
vias_back earlier [] f = ap Ok (sym (append-nil earlier))
vias_back earlier (via ∷ more) f =
    let next = next_back earlier via (and_parts _ _ f.elements).0 (follow_first earlier via more f) in
    ap (λ o. ok_or o (fault.BadVia (length earlier + 1)) >>= λ v. vias_of (earlier ++ v ∷ []) (map via_text more)) next
    ∙ vias_back (earlier ++ via ∷ []) more (follow_rest earlier via more f)
    ∙ ap Ok (append_assoc earlier (via ∷ []) more)

-- what the elements of texts are
pub record Gave (earlier more : List Via) (texts : List (List ℕ)) (all : List Via) : Type 0 where
  pub whole : all ≡ earlier ++ more
  pub texts_are : map via_text more ≡ texts
  pub follow : Follow earlier more

next_gives : (earlier : List Via) (text : List ℕ) (via : Via) → next_via earlier text ≡ Some via → (via_of text ≡ Some via) × (may_follow earlier via ≡ true)
next_gives earlier text via h =
    elim (via_of text) as (λ o. via_of text ≡ o → option_and_then (λ v. cond (may_follow earlier v) (Some v) None) o ≡ Some via → (via_of text ≡ Some via) × (may_follow earlier via ≡ true)) [
      | None ↦ λ _ e. cc
      | Some v ↦ λ is e. chosen v is (may_follow earlier v) refl e
    ] refl h
  where
    chosen : (v : Via) → via_of text ≡ Some v → (b : Bool) → may_follow earlier v ≡ b → cond b (Some v) None ≡ Some via → (via_of text ≡ Some via) × (may_follow earlier via ≡ true)
    chosen v is true m e = let same : v ≡ via = cc in (is ∙ e, ap (may_follow earlier) (sym same) ∙ m)
    chosen v is false m e = cc

pub vias_gives : (earlier : List Via) (texts : List (List ℕ)) (all : List Via) → length earlier ≤ 32 → vias_of earlier texts ≡ Ok all → (more : List Via) × Gave earlier more texts all
vias_gives earlier [] all few h =
    let same : earlier ≡ all = cc in
    ([], record { whole = sym same ∙ sym (append-nil earlier); texts_are = refl; follow = record { few = omega arith; elements = refl; stars = no_stars (list_any names_construct earlier) } })
  where
    no_stars : (b : Bool) → stars_fit b [] ≡ true
    no_stars true = refl
    no_stars false = refl
vias_gives earlier (text ∷ texts) all few h =
    elim (next_via earlier text) as (λ o. next_via earlier text ≡ o → (ok_or o (fault.BadVia (length earlier + 1)) >>= λ v. vias_of (earlier ++ v ∷ []) texts) ≡ Ok all → (more : List Via) × Gave earlier more (text ∷ texts) all) [
      | None ↦ λ _ e. cc
      | Some via ↦ λ is e.
          let next = next_gives earlier text via is in
          let tests = and_parts _ _ next.1 in
          let room : length earlier < 32 = ltb-true _ _ tests.0 in
          let long = length-append earlier (via ∷ []) in
          let rest = vias_gives (earlier ++ via ∷ []) texts all (omega (arith, long)) e in
          let reads = via_gives text via next.0 in (
            via ∷ rest.0,
            record {
              whole = rest.1.whole ∙ append_assoc earlier (via ∷ []) rest.0;
              texts_are = ap (λ t. t ∷ map via_text rest.0) reads.0 ∙ ap (λ ts. text ∷ ts) rest.1.texts_are;
              follow = record {
                few = omega (arith, rest.1.follow.few, long);
                elements = and_from _ _ reads.1 rest.1.follow.elements;
                stars = stars_step (list_any names_construct earlier) via rest.0 ∙ and_from _ _ tests.1 (ap (λ b. stars_fit b rest.0) (sym (any_push earlier via)) ∙ rest.1.follow.stars);
              };
            },
          )
    ] refl h

-- ---- the commas

pub text_without_comma : (via : Via) → is_element via ≡ true → list_all (λ b. not (is_comma b)) (via_text via) ≡ true
text_without_comma via h =
    list_all-append (λ b. not (is_comma b)) via.call (cond via.star (42 ∷ []) []) ∙ and_from _ _ (call_without is_comma no_comma via.call h) (star_without via.star)
  where
    star_without : (b : Bool) → list_all (λ c. not (is_comma c)) (cond b (42 ∷ []) []) ≡ true
    star_without true = refl
    star_without false = refl

-- the texts between the commas of a path, behind a text that has none
pub split_back : (first : List ℕ) (vias : List Via) → list_all (λ b. not (is_comma b)) first ≡ true → list_all is_element vias ≡ true
    → slice_split is_comma (first ++ flat_map with_comma vias) ≡ first ∷ map via_text vias
split_back first [] h k = ap (slice_split is_comma) (append-nil first) ∙ split_none is_comma first (any_none is_comma first h)
split_back first (via ∷ vias) h k =
    let parts = and_parts _ _ k in
    sym (split_cut is_comma (first ++ (44 ∷ (via_text via ++ flat_map with_comma vias))))
    ∙ ap (parted is_comma (first ++ (44 ∷ (via_text via ++ flat_map with_comma vias)))) (cut_there is_comma first 44 (via_text via ++ flat_map with_comma vias) h refl)
    ∙ ap (λ texts. first ∷ texts) (split_back (via_text via) vias (text_without_comma via parts.0) parts.1)

pub join_back : (first : List ℕ) (vias : List Via) → join_with_byte 44 (first ∷ map via_text vias) ≡ first ++ flat_map with_comma vias
join_back first [] = sym (append-nil first)
join_back first (via ∷ vias) = ap (λ t. first ++ (44 ∷ t)) (join_back (via_text via) vias)
