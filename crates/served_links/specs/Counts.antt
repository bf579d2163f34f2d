-- How many verified links that are here have logged in with each call.
use Rattle.std.specs.Prelude.{◌≡◌, ℕ, zero, suc, Bool, not, List, length, filter, Option, Some, None, unwrap_or, if◌then◌else◌}
use Rattle.std.specs.Map.{lookup}
use Rattle.q_construct.specs.Rule.{among, same}
use Rattle.aprs_history.specs.Stands.{LinkSeen}
use Rattle.served_links.specs.Links.{is_none_of, login_here}

-- how many have the call, by the table
abbrev pub count_in : List ℕ → List (List ℕ × ℕ) → ℕ
count_in call counts = unwrap_or (lookup (same call) counts) 0

-- a call that none has is not there
abbrev pub entry_for : ℕ → Option ℕ
entry_for zero = None
entry_for (suc n) = Some (suc n)

-- so many have the call
abbrev pub IsCounted : List ℕ → ℕ → List (List ℕ × ℕ) → Type 0
IsCounted call n counts = lookup (same call) counts ≡ entry_for n

-- whether the link is here, is verified and has logged in with the call
abbrev pub has_login : List ℕ → LinkSeen → Bool
has_login call link = among call (login_here link)

-- how many such links there are
abbrev pub having : List ℕ → List LinkSeen → ℕ
having call links = length (filter (has_login call) links)

-- each call is counted as often as a link has it
abbrev pub CountsLogins : List (List ℕ × ℕ) → List LinkSeen → Type 0
CountsLogins counts links = (call : List ℕ) → IsCounted call (having call links) counts

-- one where the call is among these
abbrev pub one_among : List ℕ → List (List ℕ) → ℕ
one_among call logins = if among call logins then 1 else 0

-- it is one of these
abbrev pub leaves : List ℕ → LinkSeen → Bool
leaves numbers link = not (is_none_of numbers link)
