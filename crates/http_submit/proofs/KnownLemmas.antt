-- The first line of a body is the first cut of a datagram with its bytes.
use Rattle.std.proofs.Common.{◌≡◌, ℕ, suc, ◌+◌, ◌<◌, true, ◌&&◌, List, [], ◌∷◌, ◌++◌, length, take, drop, refl, sym, ap, ◌∙◌, inl, inr, arith}
use Rattle.std.specs.List.{after_first, before_first, cons_option, list_all, position_or_len, prefix_len}
use Rattle.std.specs.Str.{byte}
use Rattle.std.proofs.lemmas.Bool.{cases_Bool, cases_lt, le-leb, le-ltb, lt-leb, lt-ltb}
use Rattle.aprs_base.specs.Bytes.{is_inner, is_line, is_line_end}
use Rattle.aprs_base.specs.Cuts.{cut_of, cuts_of}
use Rattle.aprs_base.specs.declared.cutting.Cut.{Cut}
use Rattle.aprs_base.proofs.CutLemmas.{cuts_of-first}
use Rattle.login_pass.specs.Login.{login_of}
use Rattle.http_submit.specs.Heads.{from_text}
use Rattle.http_submit.specs.Laws.{FirstCutIsKnown, begins_known}
use Rattle.http_submit.specs.Requests.{is_good, is_known}

-- the bytes of a datagram with the end of its last line
abbrev ended : List ℕ → List ℕ
ended bytes = bytes ++ byte "\n" ∷ []

take_one : (n x : ℕ) (xs : List ℕ) → take (1 + n) (x ∷ xs) ≡ x ∷ take n xs
take_one n x xs = let e : 1 + n ≡ suc n = omega arith in rw e refl

drop_one : (n x : ℕ) (xs : List ℕ) → drop (1 + n) (x ∷ xs) ≡ drop n xs
drop_one n x xs = let e : 1 + n ≡ suc n = omega arith in rw e refl

-- a line goes up to its end
up_to_end : (xs : List ℕ) → take (prefix_len is_inner xs) xs ≡ before_first is_line_end (ended xs)
up_to_end [] = refl
up_to_end (x ∷ xs) = elim (cases_Bool (is_line_end x)) [
  | inl ends ↦ rw ends refl
  | inr goes ↦ rw goes (take_one (prefix_len is_inner xs) x xs ∙ ap (λ ys. x ∷ ys) (up_to_end xs) ∙ sym (take_one (position_or_len is_line_end (ended xs)) x (ended xs)))
]

ends_within : (xs : List ℕ) → position_or_len is_line_end (ended xs) < length (ended xs)
ends_within [] = omega arith
ends_within (x ∷ xs) = elim (cases_Bool (is_line_end x)) [
  | inl ends ↦ rw ends (omega arith)
  | inr goes ↦ let more = ends_within xs in rw goes (omega arith)
]

inner_line : (xs : List ℕ) → list_all is_inner (take (prefix_len is_inner xs) xs) ≡ true
inner_line [] = refl
inner_line (x ∷ xs) = elim (cases_Bool (is_line_end x)) [
  | inl ends ↦ rw ends refl
  | inr goes ↦ rw (goes, take_one (prefix_len is_inner xs) x xs, goes) (inner_line xs)
]

-- a line that isn't empty is known as its cut is
line_known : (b : ℕ) (line : List ℕ) (later : List Cut) → list_all is_inner (b ∷ line) ≡ true
    → (is_line (b ∷ line) && is_good (login_of (b ∷ line))) ≡ begins_known (cons_option (cut_of (b ∷ line)) later)
line_known b line later inner =
    let some = le-leb 1 (length (b ∷ line)) (omega arith) in
    elim (cases_lt 510 (length (b ∷ line))) [
      | inl long ↦ rw (some, lt-ltb 510 (length (b ∷ line)) long, lt-leb (length (b ∷ line)) 510 long) refl
      | inr short ↦ rw (some, le-ltb 510 (length (b ∷ line)) short, le-leb (length (b ∷ line)) 510 short, inner) refl
    ]

first_known : (body : List ℕ) → is_known body ≡ begins_known (cuts_of (ended body))
first_known [] = refl
first_known (b ∷ more) = elim (cases_Bool (is_line_end b)) [
  | inl ends ↦
      let skipped : from_text (b ∷ more) ≡ from_text more = rw ends (drop_one (prefix_len is_line_end more) b more) in
      let cut : cuts_of (ended (b ∷ more)) ≡ cuts_of (ended more) = cuts_of-first [] (ended (b ∷ more)) refl (ends_within (b ∷ more)) ∙ rw ends refl in
      ap (λ rest. let line = take (prefix_len is_inner rest) rest in is_line line && is_good (login_of line)) skipped ∙ first_known more ∙ sym (ap begins_known cut)
  | inr goes ↦
      let text : from_text (b ∷ more) ≡ b ∷ more = rw goes refl in
      let line : take (prefix_len is_inner (b ∷ more)) (b ∷ more) ≡ b ∷ take (prefix_len is_inner more) more = rw goes (take_one (prefix_len is_inner more) b more) in
      let later = cuts_of (after_first is_line_end (ended (b ∷ more))) in
      let cut = cuts_of-first [] (ended (b ∷ more)) refl (ends_within (b ∷ more)) ∙ ap (λ first. cons_option (cut_of first) later) (sym (up_to_end (b ∷ more)) ∙ line) in
      ap (λ rest. let line = take (prefix_len is_inner rest) rest in is_line line && is_good (login_of line)) text
      ∙ ap (λ line. is_line line && is_good (login_of line)) line
      ∙ line_known b (take (prefix_len is_inner more) more) later (ap (list_all is_inner) (sym line) ∙ inner_line (b ∷ more))
      ∙ sym (ap begins_known cut)
]

pub known_by_first : FirstCutIsKnown
known_by_first body = first_known body
