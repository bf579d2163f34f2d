-- What bytes ask for is one thing: two answers can be compared, and neither a head nor its want lets them differ.
use Rattle.std.proofs.Common.{◌≡◌, ℕ, Bool, true, false, refl, sym, ap, ◌∙◌, inl, inr, ◌⊎◌, arith}
use Rattle.std.proofs.lemmas.Bool.{cases_eq, false≢true, true≢false}
use Rattle.http_submit.specs.Heads.{HasNoHead}
use Rattle.http_submit.specs.Laws.{BytesAskOnce}
use Rattle.http_submit.specs.declared.requests.Post.{Post}
use Rattle.http_submit.specs.declared.requests.Post.TheVariants.{Whole, More, Refused}

abbrev first_number : Post → ℕ
first_number (Whole start len known) = start
first_number More = 0
first_number (Refused status) = status

abbrev second_number : Post → ℕ
second_number (Whole start len known) = len
second_number More = 0
second_number (Refused status) = 0

abbrev flag : Post → Bool
flag (Whole start len known) = known
flag More = false
flag (Refused status) = false

abbrev kind : Post → ℕ
kind (Whole start len known) = 0
kind More = 1
kind (Refused status) = 2

cases_flag : (a b : Bool) → (a ≡ b) ⊎ (a ≡ b → ⊥)
cases_flag true true = inl refl
cases_flag true false = inr true≢false
cases_flag false true = inr false≢true
cases_flag false false = inl refl

other_kind : {A : Type 0} (one other : Post) → (kind one ≡ kind other → ⊥) → ((one ≡ other → ⊥) → ⊥) → A
other_kind one other differ close = absurd (close (λ e. differ (ap kind e)))

-- posts that can't differ are the same
compared : (one other : Post) → ((one ≡ other → ⊥) → ⊥) → one ≡ other
compared (Whole s l k) (Whole t m j) close = elim (cases_eq s t) [
  | inr differ ↦ absurd (close (λ e. differ (ap first_number e)))
  | inl start ↦ elim (cases_eq l m) [
    | inr differ ↦ absurd (close (λ e. differ (ap second_number e)))
    | inl len ↦ elim (cases_flag k j) [
      | inr differ ↦ absurd (close (λ e. differ (ap flag e)))
      | inl known ↦ rw (start, len, known) refl
    ]
  ]
]
compared More More close = refl
compared (Refused s) (Refused t) close = elim (cases_eq s t) [
  | inl same ↦ rw same refl
  | inr differ ↦ absurd (close (λ e. differ (ap first_number e)))
]
compared (Whole s l k) More close = other_kind (Whole s l k) More (λ e. omega (arith, e)) close
compared (Whole s l k) (Refused t) close = other_kind (Whole s l k) (Refused t) (λ e. omega (arith, e)) close
compared More (Whole s l k) close = other_kind More (Whole s l k) (λ e. omega (arith, e)) close
compared More (Refused t) close = other_kind More (Refused t) (λ e. omega (arith, e)) close
compared (Refused t) (Whole s l k) close = other_kind (Refused t) (Whole s l k) (λ e. omega (arith, e)) close
compared (Refused t) More close = other_kind (Refused t) More (λ e. omega (arith, e)) close

pub asks_once : BytesAskOnce
asks_once bytes one other first second =
    compared one other (λ differ.
    let none : HasNoHead bytes = λ head rest begins. differ (first.headed head rest begins ∙ sym (second.headed head rest begins)) in
    differ (first.headless none ∙ sym (second.headless none)))
