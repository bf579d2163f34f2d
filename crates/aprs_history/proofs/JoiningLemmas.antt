-- The server's login at an uplink is read word by word.
use Rattle.std.proofs.Common.{◌≡◌, ℕ, ◌+◌, ◌*◌, ◌-◌, ◌<◌, ◌≤◌, ◌==◌, ◌&&◌, ◌%◌, ◌^◌, Bool, true, false, not, List, [], ◌∷◌, ◌++◌, length, map, refl, sym, ap, ◌∙◌, arith, Some, None, Ok, ⊎_elim}
use Rattle.std.specs.Prelude.{codes}
use Rattle.std.specs.List.{list_all, slice_split, onto_first}
use Rattle.std.specs.Char.{is_ascii_digit, to_ascii_uppercase}
use Rattle.std.specs.Fmt.{decimal}
use Rattle.std.specs.Cmp.Lexicographic.{pointwise}
use Rattle.std.proofs.lemmas.Bool.{cases_Bool, and_parts, and_from, not-true, eqb-true, eq-eqb, true≢false, le-leb}
use Rattle.std.proofs.lemmas.Fmt.{decimal_by_steps, length-decimal-le}
use Rattle.std.proofs.lemmas.List.{length-append}
use Rattle.std.proofs.lemmas.Nat.{and_le_r}
use Rattle.std.proofs.lemmas.List.Folds.{list_all-append}
use Rattle.std.proofs.lemmas.List.Splits.{slice_split-cons_yes, slice_split-cons_no}
use Rattle.aprs_base.specs.Bytes.{base_of, is_blank, is_call, is_construct, is_station}
use Rattle.aprs_base.proofs.CallLemmas.{call_bytes, each_weaker, is_call_byte}
use Rattle.login_pass.specs.Login.{is_code_number, number_from, code_of, login_in, login_of, words_in}
use Rattle.login_pass.specs.Passcode.{folded, passcode_of}
use Rattle.aprs_history.specs.Verdicts.{login_verdict}
use Rattle.aprs_history.specs.Texts.{login_by, uplink_login}
use Rattle.aprs_history.specs.Joining.{UplinkLoginsAreRead, UplinkLoginsAreVerified}

-- ---- words between blanks

abbrev is_unblank : ℕ → Bool
is_unblank b = not (is_blank b)

parted : (word rest : List ℕ) → list_all is_unblank word ≡ true → slice_split is_blank (word ++ 32 ∷ rest) ≡ word ∷ slice_split is_blank rest
parted [] rest unblank = slice_split-cons_yes is_blank 32 rest refl
parted (b ∷ word) rest unblank =
    let both = and_parts (is_unblank b) (list_all is_unblank word) unblank in
    slice_split-cons_no is_blank b (word ++ 32 ∷ rest) (not-true (is_blank b) both.0) ∙ ap (onto_first b) (parted word rest both.1)

-- a test that the blank doesn't pass
unblank_by : (test : ℕ → Bool) → test 32 ≡ false → (b : ℕ) → test b ≡ true → is_unblank b ≡ true
unblank_by test blank b passes = ⊎_elim
    (λ is. let e : b ≡ 32 = eqb-true b 32 is in absurd (true≢false (sym passes ∙ ap test e ∙ blank)))
    (λ other. ap not other)
    (cases_Bool (is_blank b))

-- ---- the code

not_minus : (digits : List ℕ) → list_all is_ascii_digit digits ≡ true → pointwise ◌==◌ digits (codes "-1") ≡ false
not_minus [] all = refl
not_minus (b ∷ digits) all = ⊎_elim
    (λ is. let e : b ≡ 45 = eqb-true b 45 is in absurd (true≢false (sym (and_parts (is_ascii_digit b) (list_all is_ascii_digit digits) all).0 ∙ ap is_ascii_digit e)))
    (λ other. ap (λ x. x && pointwise ◌==◌ digits (49 ∷ [])) other)
    (cases_Bool (b == 45))

record Spells (n : ℕ) (digits : List ℕ) : Type 0 where
  all : list_all is_ascii_digit digits ≡ true
  value : number_from 0 digits ≡ n
  some : 1 ≤ length digits

number_more : (before : ℕ) (digits : List ℕ) (d : ℕ) → number_from before (digits ++ (48 + d) ∷ []) ≡ number_from before digits * 10 + d
number_more before [] d = omega arith
number_more before (x ∷ digits) d = number_more (before * 10 + (x - 48)) digits d

one_digit : (n : ℕ) → n < 10 → is_ascii_digit (48 + n) ≡ true
one_digit n low = and_from _ _ (le-leb 48 (48 + n) (omega arith)) (le-leb (48 + n) 57 (omega arith))

spells : (n : ℕ) → n < 2 ^ 64 → Spells n (decimal n)
spells = decimal_by_steps Spells
    (λ n low. record { all = rw (one_digit n low) refl; value = omega arith; some = omega arith })
    (λ n digits high before. record {
      all = list_all-append is_ascii_digit digits ((48 + n % 10) ∷ []) ∙ rw (before.all, one_digit (n % 10) (omega arith)) refl;
      value = number_more 0 digits (n % 10) ∙ omega (arith, before.value);
      some = omega (arith, length-append digits ((48 + n % 10) ∷ []));
    })

code_read : (code : ℕ) → code < 100000 → code_of (decimal code) ≡ Some (Some code)
code_read code small =
    let is = spells code (omega arith) in
    let number : is_code_number (decimal code) ≡ true =
    and_from _ _ (and_from _ _ (le-leb 1 (length (decimal code)) is.some) (le-leb (length (decimal code)) 5 (length-decimal-le 5 code (omega arith) small (omega arith)))) is.all in
    rw (not_minus (decimal code) is.all, number, is.value) refl

digits_unblank : (code : ℕ) → code < 100000 → list_all is_unblank (decimal code) ≡ true
digits_unblank code small = each_weaker is_ascii_digit is_unblank (unblank_by is_ascii_digit refl) (decimal code) (spells code (omega arith)).all

-- ---- the line

call_length : (call : List ℕ) → is_call call ≡ true → 1 ≤ length call
call_length [] is = absurd (true≢false (sym is))
call_length (b ∷ call) is = omega arith

-- the words behind `user`
pieces : (server digits : List ℕ) → list_all is_unblank server ≡ true → list_all is_unblank digits ≡ true
    → slice_split is_blank (server ++ 32 ∷ (codes "pass" ++ 32 ∷ (digits ++ 32 ∷ codes "vers aprsc 1.0"))) ≡ server ∷ codes "pass" ∷ digits ∷ codes "vers" ∷ codes "aprsc" ∷ codes "1.0" ∷ []
pieces server digits s d =
    parted server (codes "pass" ++ 32 ∷ (digits ++ 32 ∷ codes "vers aprsc 1.0")) s
    ∙ ap (λ more. server ∷ more) (parted (codes "pass") (digits ++ 32 ∷ codes "vers aprsc 1.0") refl ∙ ap (λ more. codes "pass" ∷ more) (parted digits (codes "vers aprsc 1.0") d))

nonempty : (word : List ℕ) → 1 ≤ length word → (length word == 0) ≡ false
nonempty word some = grind arith

login_by_words : (line server digits : List ℕ) (code : ℕ) → is_station server ≡ true → 1 ≤ length server → 1 ≤ length digits → code_of digits ≡ Some (Some code)
    → login_in line (words_in 0 (codes "user" ∷ server ∷ codes "pass" ∷ digits ∷ codes "vers" ∷ codes "aprsc" ∷ codes "1.0" ∷ [])) ≡ Ok (record { call = server; code = Some code; filter = None })
login_by_words line server digits code station some few read = rw (nonempty server some, nonempty digits few, station, read) refl

pub uplink_logins_are_read : UplinkLoginsAreRead
unfolding login_of
uplink_logins_are_read setting station small =
    let server = setting.server in
    let code = setting.code in
    let call : is_call server ≡ true = (and_parts (is_call server) (not (is_construct server)) station).0 in
    let unblank = each_weaker is_call_byte is_unblank (unblank_by is_call_byte refl) server (call_bytes server call) in
    ap (λ texts. login_in (login_by server (decimal code)) (words_in 0 (codes "user" ∷ texts))) (pieces server (decimal code) unblank (digits_unblank code small))
    ∙ login_by_words (login_by server (decimal code)) server (decimal code) code station (call_length server call) (spells code (omega arith)).some (code_read code small)

-- ---- it is verified

code_small : (call : List ℕ) → passcode_of call < 100000
unfolding passcode_of
code_small call = let most = and_le_r (folded 0x73E2 (map to_ascii_uppercase (base_of call))) 0x7FFF in omega (arith, most)

pub uplink_logins_are_verified : UplinkLoginsAreVerified
uplink_logins_are_verified setting other filters station code own =
    let read = uplink_logins_are_read setting station (let small = code_small setting.server in omega (arith, small, code)) in
    ap (login_verdict other filters (uplink_login setting)) read ∙ rw (own, eq-eqb setting.code (passcode_of setting.server) code) refl
