-- The place of what is written, with the mark that counts.
use Rattle.std.proofs.Common.{◌≡◌, ℕ, ◌+◌, ◌*◌, ◌/◌, Bool, true, cond, ◌⊎◌, inl, inr, List, Some, None, refl, sym, ap, subst, ◌∙◌, arith}
use Rattle.std.specs.declared.option.Option.{Option}
use Rattle.std.specs.Option.{option_and_then, option_or}
use Rattle.aprs_base.specs.declared.packets.Place.{Place}
use Rattle.aprs_base.proofs.StepLemmas.{cond_some}
use Rattle.aprs_position.specs.MarkGrammar.{Counts, Fits, IsPlaceOf, Leftmost}
use Rattle.aprs_position.specs.MarkGrammar.Counts.{coarse, finer}
use Rattle.aprs_position.specs.Marks.{mark_in, unmarked}
use Rattle.aprs_position.specs.Written.{finest, millionths, place_with}
use Rattle.aprs_position.specs.declared.marks.Mark.{Mark}
use Rattle.aprs_position.specs.declared.written.Written.{Written}
use Rattle.aprs_position.proofs.MarkLemmas.{in_leftmost, leftmost_in}
use Rattle.aprs_position.proofs.PlaceLemmas.{place_at_again, place_at_none, place_at_numbers, place_at_on, place_at_some}

-- without a mark, by tenths of a hundredth of a minute and by ninety-firsts: each value is cut once
pub whole_hundredths : (degrees hundredths : ℕ) → millionths degrees hundredths 0 ≡ degrees * 1000000 + hundredths * 1000000 / 6000
whole_hundredths degrees hundredths = omega arith

pub by_tenths : (degrees hundredths n : ℕ) → millionths degrees hundredths (n * 91) ≡ degrees * 1000000 + (hundredths * 10 + n) * 1000000 / 60000
by_tenths degrees hundredths n = omega arith

pub by_ninety_firsts : (degrees hundredths n : ℕ) → millionths degrees hundredths (n * 10) ≡ degrees * 1000000 + (hundredths * 91 + n) * 1000000 / 546000
by_ninety_firsts degrees hundredths n = omega arith

one_or_other : {A : Type 0} (first second : Option A) (x : A) → option_or first second ≡ Some x → (first ≡ Some x) ⊎ ((first ≡ None) × (second ≡ Some x))
one_or_other (Some y) second x h = inl h
one_or_other None second x h = inr (refl, h)

then_some : {A B : Type 0} (f : A → Option B) (o : Option A) (y : B) → option_and_then f o ≡ Some y → (x : A) × (o ≡ Some x) × (f x ≡ Some y)
then_some f (Some x) y h = (x, refl, h)
then_some f None y h = cc

none_some : {A : Type 0} (x : A) → ◌≡◌ {A = Option A} None (Some x) → ⊥
none_some x h = cc

abbrev pub counted : (exact : Bool) (rest : List ℕ) → Option Mark
counted exact rest = cond exact (mark_in rest) None

counted_is : (exact : Bool) (rest : List ℕ) (mark : Mark) → exact ≡ true → Leftmost rest mark → counted exact rest ≡ Some mark
counted_is exact rest mark whole leftmost = ap (λ b. counted b rest) whole ∙ leftmost_in rest mark leftmost

-- with a mark that counts
placed : (exact : Bool) (written : Written) (rest : List ℕ) (place : Place) (mark : Mark) → place_with written mark ≡ Some place →
    Counts exact written rest mark → IsPlaceOf exact written rest place
unfolding place_with
placed exact written rest place mark given counts =
    let has = place_at_numbers _ _ _ _ _ place given in
    record { mark = mark; counts = counts; lat = has.lat; lon = has.lon; table = has.table; code = has.code; used = has.used }

fits : (written : Written) (mark : Mark) (place : Place) → place_with written mark ≡ Some place → Fits written mark
unfolding place_with
fits written mark place given = place_at_on _ _ _ _ _ place given

fitting : (written : Written) (mark : Mark) → Fits written mark → (place : Place) × (place_with written mark ≡ Some place)
unfolding place_with
fitting written mark on = place_at_some _ _ _ _ _ on

unfit : (written : Written) (mark : Mark) → ¬ Fits written mark → place_with written mark ≡ None
unfolding place_with
unfit written mark off = place_at_none _ _ _ _ _ off

passed_over : (exact : Bool) (written : Written) (rest : List ℕ) → option_and_then (place_with written) (counted exact rest) ≡ None →
    exact ≡ true → (other : Mark) → Leftmost rest other → ¬ Fits written other
passed_over exact written rest none whole other leftmost on =
    let place = fitting written other on in
    none_some place.0 (sym none ∙ ap (option_and_then (place_with written)) (counted_is exact rest other whole leftmost) ∙ place.1)

pub finest_read : (exact : Bool) (written : Written) (rest : List ℕ) (place : Place) → finest written (counted exact rest) ≡ Some place → IsPlaceOf exact written rest place
unfolding finest
finest_read exact written rest place given =
    elim (one_or_other (option_and_then (place_with written) (counted exact rest)) (place_with written unmarked) place given) [
      | inl with' ↦
          let mark = then_some (place_with written) (counted exact rest) place with' in
          let test = cond_some exact (mark_in rest) mark.0 mark.1 in
          placed exact written rest place mark.0 mark.2 (finer test.0 (in_leftmost rest mark.0 test.1) (fits written mark.0 place mark.2))
      | inr without ↦ placed exact written rest place unmarked without.1 (coarse (passed_over exact written rest without.0) refl)
    ]

all_none : {A B : Type 0} (f : A → Option B) (o : Option A) → ((x : A) → o ≡ Some x → f x ≡ None) → option_and_then f o ≡ None
all_none f (Some x) none = none x refl
all_none f None none = refl

with_counted : (exact : Bool) (written : Written) (rest : List ℕ) (place : Place) (mark : Mark) → Counts exact written rest mark →
    place_with written mark ≡ Some place → finest written (counted exact rest) ≡ Some place
unfolding finest
with_counted exact written rest place mark (finer whole leftmost on) given =
    ap (λ o. option_or (option_and_then (place_with written) o) (place_with written unmarked)) (counted_is exact rest mark whole leftmost)
    ∙ ap (λ o. option_or o (place_with written unmarked)) given
with_counted exact written rest place mark (coarse none is) given =
    let over = all_none (place_with written) (counted exact rest) (λ other found. let test = cond_some exact (mark_in rest) other found in
    unfit written other (none test.0 other (in_leftmost rest other test.1))) in
    ap (λ o. option_or o (place_with written unmarked)) over ∙ subst (λ m. place_with written m ≡ Some place) is given

placed_again : (exact : Bool) (written : Written) (rest : List ℕ) (place : Place) (is : IsPlaceOf exact written rest place) → place_with written is.mark ≡ Some place
unfolding place_with
placed_again exact written rest place is =
    place_at_again _ _ _ _ _ place (record { lat = is.lat; lon = is.lon; table = is.table; code = is.code; used = is.used })

pub finest_again : (exact : Bool) (written : Written) (rest : List ℕ) (place : Place) → IsPlaceOf exact written rest place → finest written (counted exact rest) ≡ Some place
finest_again exact written rest place is = with_counted exact written rest place is.mark is.counts (placed_again exact written rest place is)
