-- What the tokens of the poll stand for.
use Rattle.std.specs.Prelude.{ℕ, ◌-◌, ◌*◌, ◌^◌, ◌==◌, ◌&&◌, not, nat_le, nat_lt, Bool, true, false, List, [], ◌∷◌, ◌++◌, filter, if◌then◌else◌}
use Rattle.std.specs.List.{list_any}
use Rattle.mio_wire.specs.declared.links.Reading.{Reading}
use Rattle.mio_wire.specs.declared.links.Reading.TheVariants as reading
use Rattle.mio_wire.specs.declared.turns.Ready.{Ready}
use Rattle.mio_wire.specs.declared.turns.Source.{Source}
use Rattle.mio_wire.specs.declared.turns.Source.TheVariants.{Dial, Ear, Link, Mailbox}

-- four ranges, of 2 ^ 32 tokens each but for the last
abbrev pub source_of : ℕ → Source
source_of token =
    if nat_lt token (2 ^ 32) then Link token
    else (if nat_lt token (2 * 2 ^ 32) then Ear (token - 2 ^ 32)
    else (if nat_lt token (3 * 2 ^ 32) then Mailbox (token - 2 * 2 ^ 32)
    else Dial token))

-- a source of which more can be read in another turn
abbrev pub to_read : (token : ℕ) → Ready
to_read token = record { token = token; readable = true; writable = false; closed = false; again = true }

-- a link whose end is to be read in another turn
abbrev pub to_end : (token : ℕ) → Ready
to_end token = record (to_read token) { closed = true }

-- what waits once a link was read, by what the read tells: the rest, its end, or nothing, since the poll tells when it brings more
unfoldable pub after_read : Reading → (token : ℕ) → List Ready → List Ready
after_read reading.More token later = later ++ to_read token ∷ []
after_read reading.Last token later = later ++ to_end token ∷ []
after_read reading.All token later = later
after_read reading.End token later = later

-- a link whose peer will send no more
abbrev pub is_end : Ready → Bool
is_end r = r.closed && nat_lt r.token (2 ^ 32)

-- the links that end, and what doesn't
abbrev pub ending : List Ready → List Ready
ending sources = filter is_end sources

abbrev pub going : List Ready → List Ready
going sources = filter (λ r. not (is_end r)) sources

-- a link of which more can be read in another turn, and not only its end
abbrev pub reads_link : Ready → Bool
reads_link r = r.readable && not r.closed && nat_lt r.token (2 ^ 32)

-- what waits for the next turn with one source more, which waits once
unfoldable pub with_waiting : (token : ℕ) → List Ready → List Ready
with_waiting token later = if list_any (λ r. r.token == token) later then later else later ++ to_read token ∷ []

-- what waits once a source had its turn: it does where it had as much as one turn gives
unfoldable pub waiting_after : (most had token : ℕ) → List Ready → List Ready
waiting_after most had token later = if nat_le most had then with_waiting token later else later
