-- The leftmost mark: where a search may begin, and that the definition finds the grammar's.
use Rattle.std.proofs.Common.{◌≡◌, ℕ, suc, ◌+◌, ◌-◌, ◌*◌, ◌<◌, ◌≤◌, Bool, true, false, cond, not, ◌&&◌, eqb, List, [], ◌∷◌, ◌++◌, length, drop, Some, None, refl, sym, ap, ◌∙◌, ⊎_elim, arith, rules}
use Rattle.std.specs.Char.{is_ascii_digit}
use Rattle.std.specs.List.{position_or_len}
use Rattle.std.specs.declared.option.Option.{Option}
use Rattle.std.specs.Option.{option_or}
use Rattle.std.proofs.lemmas.Bool.{cases_Bool}
use Rattle.std.proofs.lemmas.Grind.{common_steps}
use Rattle.aprs_position.specs.Compressed.{is_base91}
use Rattle.aprs_position.specs.MarkGrammar.{Leftmost, WritesMark}
use Rattle.aprs_position.specs.MarkGrammar.WritesMark.{ninety_firsts, tenths}
use Rattle.aprs_position.specs.Marks.{mark_at, mark_in, mark_with}
use Rattle.aprs_position.specs.declared.marks.Mark.{Mark}

-- a mark begins with `!`
no_mark : (b : ℕ) (more : List ℕ) → eqb b 33 ≡ false → mark_at (b ∷ more) ≡ None
no_mark b [] other = refl
no_mark b (c ∷ []) other = refl
no_mark b (c ∷ d ∷ []) other = refl
no_mark b (c ∷ d ∷ e ∷ []) other = refl
no_mark b (c ∷ d ∷ e ∷ f ∷ more) other = rw other refl

drop_one_more : (b n : ℕ) (more : List ℕ) → drop (1 + n) (b ∷ more) ≡ drop n more
drop_one_more b n more = grind (arith, common_steps)

one_further : (here : Bool) (b : ℕ) (more : List ℕ) (n : ℕ) → eqb b 33 ≡ here → mark_in (drop n more) ≡ mark_in more →
    mark_in (drop (cond (not here) (1 + n) 0) (b ∷ more)) ≡ mark_in (b ∷ more)
one_further true b more n is later = refl
one_further false b more n is later = ap mark_in (drop_one_more b n more) ∙ later ∙ sym (ap (λ m. option_or m (mark_in more)) (no_mark b more is))

-- a text has its leftmost mark from its first `!` on
pub mark_from_first : (text : List ℕ) → mark_in (drop (position_or_len (λ b. eqb b 33) text) text) ≡ mark_in text
mark_from_first [] = refl
mark_from_first (b ∷ more) = one_further (eqb b 33) b more (position_or_len (λ b. eqb b 33) more) refl (mark_from_first more)

-- what a number is written as
digit_of_sum : (n : ℕ) → n < 10 → is_ascii_digit (n + 48) ≡ true
digit_of_sum n below = grind (arith, common_steps)

base91_of_sum : (n : ℕ) → n < 91 → is_base91 (n + 33) ≡ true
base91_of_sum n below = grind (arith, common_steps)

less_sum : (n m : ℕ) → n + m - m ≡ n
less_sum n m = omega arith

writes_at : (five after : List ℕ) (mark : Mark) → WritesMark five mark → mark_at (five ++ after) ≡ Some mark
writes_at five after mark (tenths a o a_below o_below spelled is) =
    rw (spelled, is, digit_of_sum a a_below, digit_of_sum o o_below, less_sum a 48, less_sum o 48) refl
writes_at five after mark (ninety_firsts a o a_below o_below spelled is) =
    rw (spelled, is, base91_of_sum a a_below, base91_of_sum o o_below, less_sum a 33, less_sum o 33) refl

-- the mark that a text begins with
record Begun (text : List ℕ) (mark : Mark) : Type 0 where
  five : List ℕ
  after : List ℕ
  spelled : text ≡ five ++ after
  written : WritesMark five mark

with_writes : (letter a o : ℕ) (mark : Mark) → mark_with letter a o ≡ Some mark → WritesMark (33 ∷ letter ∷ a ∷ o ∷ 33 ∷ []) mark
with_writes letter a o mark is =
    ⊎_elim
    (λ yes.
    let letter_is : letter ≡ 87 = grind (arith, common_steps) in
    let a_is : a ≡ a - 48 + 48 = grind (arith, common_steps) in
    let o_is : o ≡ o - 48 + 48 = grind (arith, common_steps) in
    let a_below : a - 48 < 10 = grind (arith, common_steps) in
    let o_below : o - 48 < 10 = grind (arith, common_steps) in
    let same : mark ≡ record { lat = (a - 48) * 91; lon = (o - 48) * 91 } = search rules in
    tenths (a - 48) (o - 48) a_below o_below (rw (letter_is, ← a_is, ← o_is) refl) same)
    (λ no.
    ⊎_elim
    (λ yes.
    let letter_is : letter ≡ 119 = grind (arith, common_steps) in
    let a_is : a ≡ a - 33 + 33 = grind (arith, common_steps) in
    let o_is : o ≡ o - 33 + 33 = grind (arith, common_steps) in
    let a_below : a - 33 < 91 = grind (arith, common_steps) in
    let o_below : o - 33 < 91 = grind (arith, common_steps) in
    let same : mark ≡ record { lat = (a - 33) * 10; lon = (o - 33) * 10 } = search rules in
    ninety_firsts (a - 33) (o - 33) a_below o_below (rw (letter_is, ← a_is, ← o_is) refl) same)
    (λ other. absurd (search rules))
    (cases_Bool (eqb letter 119 && is_base91 a && is_base91 o)))
    (cases_Bool (eqb letter 87 && is_ascii_digit a && is_ascii_digit o))

at_writes : (text : List ℕ) (mark : Mark) → mark_at text ≡ Some mark → Begun text mark
at_writes (first ∷ letter ∷ a ∷ o ∷ last ∷ more) mark is =
    ⊎_elim
    (λ yes.
    let first_is : first ≡ 33 = grind (arith, common_steps) in
    let last_is : last ≡ 33 = grind (arith, common_steps) in
    let found : mark_with letter a o ≡ Some mark = sym (ap (λ b. cond b (mark_with letter a o) None) yes) ∙ is in
    record { five = 33 ∷ letter ∷ a ∷ o ∷ 33 ∷ []; after = more; spelled = rw (first_is, last_is) refl; written = with_writes letter a o mark found })
    (λ no. absurd (search rules))
    (cases_Bool (eqb first 33 && eqb last 33))
at_writes _ mark is = absurd (search rules)

-- a mark has bytes
not_empty : (other rest : List ℕ) (m : Mark) → [] ≡ other ++ rest → WritesMark other m → ⊥
not_empty other rest m is written = absurd (search (rules, writes_at other rest m written))

pub leftmost_in : (text : List ℕ) (mark : Mark) → Leftmost text mark → mark_in text ≡ Some mark
leftmost_in text mark found = of text found.before found.spelled found.first
  where
    nowhere : (text before : List ℕ) → ((front other rest : List ℕ) (m : Mark) → text ≡ front ++ (other ++ rest) → WritesMark other m → suc (length before) ≤ length front)
        → (here : Option Mark) → mark_at text ≡ here → mark_at text ≡ None
    nowhere text before first None is = is
    nowhere text before first (Some m) is = let begun = at_writes text m is in let no = first [] begun.five begun.after m begun.spelled begun.written in absurd (omega arith)

    of : (text before : List ℕ) → text ≡ before ++ (found.five ++ found.after)
        → ((front other rest : List ℕ) (m : Mark) → text ≡ front ++ (other ++ rest) → WritesMark other m → length before ≤ length front) → mark_in text ≡ Some mark
    of [] [] spelled first = absurd (not_empty found.five found.after mark spelled found.written)
    of [] (c ∷ before) spelled first = absurd (search rules)
    of (b ∷ more) [] spelled first = ap (λ t. option_or (mark_at t) (mark_in more)) spelled ∙ ap (λ x. option_or x (mark_in more)) (writes_at found.five found.after mark found.written)
    of (b ∷ more) (c ∷ before) spelled first =
        ap (λ x. option_or x (mark_in more)) (nowhere (b ∷ more) before first (mark_at (b ∷ more)) refl)
        ∙ of more before (ap (drop 1) spelled) (λ front other rest m sp w. let le = first (b ∷ front) other rest m (ap (λ t. b ∷ t) sp) w in omega arith)

pub in_leftmost : (text : List ℕ) (mark : Mark) → mark_in text ≡ Some mark → Leftmost text mark
in_leftmost [] mark is = absurd (search rules)
in_leftmost (b ∷ more) mark is = at (mark_at (b ∷ more)) refl is (in_leftmost more mark)
  where
    first : (later : Leftmost more mark) → mark_at (b ∷ more) ≡ None → (front other rest : List ℕ) (m : Mark) → b ∷ more ≡ front ++ (other ++ rest) → WritesMark other m → suc (length later.before) ≤ length front
    first later none [] other rest m spelled written = let here = ap mark_at spelled ∙ writes_at other rest m written in absurd (search rules)
    first later none (c ∷ front) other rest m spelled written = let le = later.first front other rest m (ap (drop 1) spelled) written in omega arith

    at : (here : Option Mark) → mark_at (b ∷ more) ≡ here → option_or here (mark_in more) ≡ Some mark → (mark_in more ≡ Some mark → Leftmost more mark) → Leftmost (b ∷ more) mark
    at (Some m) found is later =
        let begun = at_writes (b ∷ more) mark (found ∙ is) in
        record { before = []; five = begun.five; after = begun.after; spelled = begun.spelled; written = begun.written; first = λ front other rest m spelled written. omega arith }
    at None none is later =
        let rest = later is in
        record { before = b ∷ rest.before; five = rest.five; after = rest.after; spelled = ap (λ t. b ∷ t) rest.spelled; written = rest.written; first = first rest none }
