-- The lines that a server writes are lines, and a login that is read names a station.
use Rattle.std.proofs.lemmas.Bool.Decides.{nat_tests}
use Rattle.std.proofs.Common.{if◌then◌else◌, Result, Ok, Err, Option, Some, None, sym, ap, ◌∙◌, ◌≡◌, ℕ, ◌≤◌, ◌<◌, ◌^◌, Bool, true, false, List, ◌++◌, length, refl, IsTrue, arith, not, codes, length-append}
use Rattle.std.proofs.lemmas.Bool.{le-leb}
use Rattle.std.proofs.lemmas.List.Folds.{list_all-append}
use Rattle.std.specs.Fmt.{decimal}
use Rattle.aprs_base.proofs.CallLemmas.{call_inner, call_short, each_weaker}
use Rattle.filter_lang.proofs.NumberLaws.{decimal_is, decimal_short, digits_all}
use Rattle.std.proofs.lemmas.Fmt.{decimal_is_IsNumeral, length-decimal-le}
use Rattle.std.specs.Char.{is_ascii_digit}
use Rattle.comment_date.specs.Dates.{date_at}
use Rattle.comment_date.proofs.TextLemmas.{date_prints, is_printed}
use Rattle.aprs_history.specs.Dates.{comment_text}
use Rattle.aprs_history.specs.declared.verdicts.Session.{Session}
use Rattle.aprs_history.specs.Texts.{login_by, login_reply, verified_word}
use Rattle.aprs_base.specs.Bytes.{IsCall, is_inner, is_station, IsInner, IsLine}
use Rattle.login_pass.specs.Login.{login_of, login_with, words_of, later, first_text, is_keyword, code_of, filter_in}
use Rattle.login_pass.specs.declared.login_line.LoginFault.{LoginFault}
use Rattle.login_pass.specs.declared.login_line.LoginFault.TheVariants as fault
use Rattle.login_pass.specs.declared.login_line.Login.{Login}

word_inner : (verified : Bool) → (IsInner (verified_word verified)) × (length (verified_word verified) ≤ 20)
word_inner true = (refl, omega arith)
word_inner false = (refl, omega arith)

-- the reply to a login is a line
pub reply_is_line : (server : List ℕ) (session : Session) → IsCall server → IsCall session.call → IsLine (login_reply server session)
reply_is_line server session h k =
    let word = word_inner session.verified in
    let rest = verified_word session.verified ++ server in
    let rest_inner : IsInner rest = rw list_all-append (rw (word.0, call_inner server h) refl) in
    let inner : IsInner (session.call ++ rest) = rw list_all-append (rw (call_inner session.call k, rest_inner) refl) in
    let size : length (login_reply server session) ≤ 510 = omega (arith, length-append session.call rest, length-append (verified_word session.verified) server, word.1, call_short server h, call_short session.call k) in
    let some : 1 ≤ length (login_reply server session) = omega arith in
    rw (le-leb 1 (length (login_reply server session)) some, le-leb (length (login_reply server session)) 510 size) inner

printed_inner : (b : ℕ) → is_printed b ≡ true → is_inner b ≡ true
printed_inner b printed = grind (arith, nat_tests)

-- the line that tells the date is one
pub comment_is_line : (server : List ℕ) (moment : ℕ) → IsCall server → IsLine (comment_text server moment)
comment_is_line server moment h =
    let date = date_prints moment in
    let rest = codes " " ++ server in
    let rest_inner : IsInner rest = rw list_all-append (rw (call_inner server h) refl) in
    let inner : IsInner (date_at moment ++ rest) = rw list_all-append (rw (each_weaker is_printed is_inner printed_inner (date_at moment) date.printed, rest_inner) refl) in
    let size : length (comment_text server moment) ≤ 510 = omega (arith, length-append (date_at moment) rest, date.size, call_short server h) in
    let some : 1 ≤ length (comment_text server moment) = omega arith in
    rw (le-leb 1 (length (comment_text server moment)) some, le-leb (length (comment_text server moment)) 510 size) inner

-- what is said of a term has no line end
no_line_end : (b : ℕ) → is_ascii_digit b ≡ true → is_inner b ≡ true
no_line_end b digit = grind (arith, nat_tests)

pub term_words : (n : ℕ) → n < 2 ^ 16 → (IsInner (codes "term " ++ decimal n)) × (length (codes "term " ++ decimal n) ≤ 30)
term_words n small =
    let short : length (decimal n) ≤ 5 = decimal_short n 5 (omega arith) (omega arith) (omega arith) in
    let digits = decimal_is n (omega arith) in
    (rw list_all-append (rw (each_weaker is_ascii_digit is_inner no_line_end (decimal n) digits.digits) refl), omega (arith, length-append (codes "term ") (decimal n), short))

-- the line by which the server logs in is one
pub code_digits : (n : ℕ) → n < 2 ^ 32 → (IsInner (decimal n)) × (length (decimal n) ≤ 10)
code_digits n small =
    let digits = decimal_is_IsNumeral n (omega arith) in
    (each_weaker is_ascii_digit is_inner no_line_end (decimal n) (digits_all (decimal n) digits.0.1), length-decimal-le 10 n (omega arith) (omega arith) (omega arith))

pub login_is_line : (server digits : List ℕ) → IsCall server → IsInner digits → length digits ≤ 10 → IsLine (login_by server digits)
login_is_line server digits h inner_digits short =
    let last = digits ++ codes " vers aprsc 1.0" in
    let last_inner : IsInner last = rw list_all-append (rw inner_digits refl) in
    let rest = codes " pass " ++ last in
    let rest_inner : IsInner rest = rw list_all-append (rw last_inner refl) in
    let inner : IsInner (server ++ rest) = rw list_all-append (rw (call_inner server h, rest_inner) refl) in
    let size : length (login_by server digits) ≤ 510 = omega (arith, length-append server rest, length-append digits (codes " vers aprsc 1.0"), call_short server h, short) in
    let some : 1 ≤ length (login_by server digits) = omega arith in
    rw (le-leb 1 (length (login_by server digits)) some, le-leb (length (login_by server digits)) 510 size) inner

-- ---- a login that is read names a station

with_call : (call : List ℕ) (code : Option (Option ℕ)) (filter : Option (ℕ × ℕ)) (login : Login) → login_with call code filter ≡ Ok login → call ≡ login.call
with_call call None filter login is = absurd (cc)
with_call call (Some code) filter login is =
    let same : record { call = call; code = code; filter = filter } ≡ login = cc in ap (λ (l : Login). l.call) same

station_in : (user station pass : Bool) (result : Result Login LoginFault) (login : Login)
    → (if not user then Err fault.NotUser else (if not station then Err fault.BadCall else (if not pass then Err fault.NoPass else result))) ≡ Ok login
    → (station ≡ true) × (result ≡ Ok login)
station_in false station pass result login is = absurd (cc)
station_in true false pass result login is = absurd (cc)
station_in true true false result login is = absurd (cc)
station_in true true true result login is = (refl, is)

pub login_station : (line : List ℕ) (login : Login) → login_of line ≡ Ok login → IsTrue (is_station login.call)
unfolding login_of
login_station line login is =
    let words = words_of line in
    let call = later words in
    let code = later (later call) in
    let parts = station_in (is_keyword (codes "user") (first_text words)) (is_station (first_text call)) (is_keyword (codes "pass") (first_text (later call)))
    (login_with (first_text call) (code_of (first_text code)) (filter_in line (later code))) login is in
    ap is_station (sym (with_call (first_text call) (code_of (first_text code)) (filter_in line (later code)) login parts.1)) ∙ parts.0
