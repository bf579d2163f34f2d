-- A request that hands packets in: what its head and its body ask for.
use Rattle.std.specs.Prelude.{◌≡◌, ℕ, ◌+◌, ◌≤◌, ◌==◌, ◌&&◌, Bool, false, not, nat_lt, if◌then◌else◌, List, [], ◌∷◌, length, filter, map, codes, take, Option, Some, None, Result, Ok, Err, ⊤}
use Rattle.std.specs.List.{list_any, prefix_len}
use Rattle.std.specs.Char.{to_ascii_lowercase}
use Rattle.std.specs.Cmp.Lexicographic.{pointwise}
use Rattle.aprs_base.specs.Bytes.{is_inner, is_line}
use Rattle.login_pass.specs.Login.{is_code_number, is_verified, login_of, number_from}
use Rattle.login_pass.specs.declared.login_line.Login.{Login}
use Rattle.login_pass.specs.declared.login_line.LoginFault.{LoginFault}
use Rattle.httparse.specs.Grammar.{RequestHead, print_request}
use Rattle.httparse.specs.Spans.{name_and_value}
use Rattle.http_submit.specs.Heads.{Begins, HasNoHead, from_text, has_empty_line}
use Rattle.http_submit.specs.declared.requests.Post.{Post}
use Rattle.http_submit.specs.declared.requests.Post.TheVariants.{Whole, More, Refused}

abbrev pub same_text : List ℕ → List ℕ → Bool
same_text a b = pointwise ◌==◌ a b

-- ---- headers, each a name and a value

-- names of headers have no case
abbrev pub is_named : List ℕ → List ℕ × List ℕ → Bool
is_named name field = same_text (map to_ascii_lowercase field.0) name

abbrev pub has_field : List ℕ → List (List ℕ × List ℕ) → Bool
has_field name fields = list_any (is_named name) fields

abbrev pub above_zero : ℕ → Option ℕ
above_zero number = if nat_lt 0 number then Some number else None

-- one to five digits, and not 0
abbrev pub length_text : List ℕ → Option ℕ
length_text text = if is_code_number text then above_zero (number_from 0 text) else None

-- the length that the only one of these headers tells
abbrev pub length_in : List (List ℕ × List ℕ) → Option ℕ
length_in [] = None
length_in (field ∷ []) = length_text field.1
length_in (field ∷ other ∷ more) = None

abbrev pub length_of : List (List ℕ × List ℕ) → Option ℕ
length_of fields = length_in (filter (is_named (codes "content-length")) fields)

-- ---- bodies

-- the first line that isn't empty, without its end
abbrev pub first_line : List ℕ → List ℕ
first_line body = let rest = from_text body in take (prefix_len is_inner rest) rest

abbrev pub is_good : Result Login LoginFault → Bool
is_good (Ok login) = is_verified login
is_good (Err fault) = false

-- the first line is a login, and verified
abbrev pub is_known : List ℕ → Bool
is_known body = let line = first_line body in is_line line && is_good (login_of line)

-- ---- the table of statuses: the first that applies

-- the body begins at that place, and of its length this much has come
abbrev pub with_body : (start : ℕ) → (rest : List ℕ) → (wanted : ℕ) → Post
with_body start rest wanted = if nat_lt (length rest) wanted then More else Whole start wanted (is_known (take wanted rest))

abbrev pub with_length : (start : ℕ) → (rest : List ℕ) → Option ℕ → Post
with_length start rest None = Refused 411
with_length start rest (Some wanted) = if nat_lt 1460 wanted then Refused 413 else with_body start rest wanted

-- what a whole head asks for, of a method, a target and headers, which ends at that place and has that rest behind it
abbrev pub asked : (method target : List ℕ) → List (List ℕ × List ℕ) → (start : ℕ) → (rest : List ℕ) → Post
asked method target fields start rest =
    if not (same_text method (codes "POST")) then Refused 405
    else (if not (same_text target (codes "/")) then Refused 404
    else (if has_field (codes "content-encoding") fields then Refused 415
    else (if has_field (codes "transfer-encoding") fields then Refused 411
    else with_length start rest (length_of fields))))

abbrev pub asked_by : RequestHead → List ℕ → Post
asked_by head rest = asked head.method head.target (map name_and_value head.fields) (length (print_request head)) rest

-- what bytes ask for: by their head, where they begin with one, and else by an empty line in them
pub record IsPost (bytes : List ℕ) (post : Post) : Type 0 where
  pub headed : (head : RequestHead) (rest : List ℕ) → Begins bytes head rest → post ≡ asked_by head rest
  pub headless : HasNoHead bytes → post ≡ (if has_empty_line (from_text bytes) then Refused 400 else More)

-- a whole body lies in that many bytes, and fits a datagram
abbrev pub LiesWithin : ℕ → Post → Type 0
LiesWithin n (Whole start len known) = (start + len ≤ n) × (len ≤ 1460)
LiesWithin n More = ⊤
LiesWithin n (Refused status) = ⊤
