-- The links whose requests haven't come whole, and the replies that are owed.
use Rattle.std.specs.Prelude.{ℕ, ◌-◌, ◌==◌, Bool, not, nat_le, nat_lt, if◌then◌else◌, List, [], ◌∷◌, ◌++◌, length, filter, map, take}
use Rattle.aprs_base.specs.declared.texts.Addr.{Addr}
use Rattle.http_submit.specs.declared.pool.Owed.{Owed}

-- a link that waits: where it came from, when, and its bytes so far
pub record WaitingSeen : Type 0 where
  pub link : ℕ
  pub from : Addr
  pub moment : ℕ
  pub bytes : List ℕ

pub record PoolSeen : Type 0 where
  pub waiting : List WaitingSeen
  pub owed : List Owed

-- the most links that wait at once
abbrev pub most_waiting : ℕ
most_waiting = 16

-- the most bytes of a request
abbrev pub most_bytes : ℕ
most_bytes = 4096

-- the seconds for which a link may wait
abbrev pub most_seconds : ℕ
most_seconds = 30

abbrev pub is_link : ℕ → WaitingSeen → Bool
is_link link waiting = waiting.link == link

-- a link that was opened waits, or is owed a refusal where too many wait
abbrev pub opened : ℕ → Addr → ℕ → PoolSeen → PoolSeen
opened link from moment pool =
    if nat_lt (length pool.waiting) most_waiting
    then record pool { waiting = pool.waiting ++ record { link = link; from = from; moment = moment; bytes = [] } ∷ [] }
    else record pool { owed = pool.owed ++ record { link = link; status = 503 } ∷ [] }

abbrev pub is_late : ℕ → WaitingSeen → Bool
is_late now waiting = nat_le most_seconds (now - waiting.moment)

abbrev pub owed_late : WaitingSeen → Owed
owed_late waiting = record { link = waiting.link; status = 408 }

-- at a moment the links that have waited for too long are owed that
abbrev pub ticked : ℕ → PoolSeen → PoolSeen
ticked now pool = record {
  waiting = filter (λ w. not (is_late now w)) pool.waiting;
  owed = pool.owed ++ map owed_late (filter (is_late now) pool.waiting);
}

-- the bytes of a link with those that came: no more than the most
abbrev pub heard : WaitingSeen → List ℕ → List ℕ
heard waiting bytes = waiting.bytes ++ take (most_bytes - length waiting.bytes) bytes

abbrev pub grown : ℕ → List ℕ → WaitingSeen → WaitingSeen
grown link bytes waiting = if is_link link waiting then record waiting { bytes = heard waiting bytes } else waiting

-- bytes came on a link
abbrev pub added : ℕ → List ℕ → PoolSeen → PoolSeen
added link bytes pool = record pool { waiting = map (grown link bytes) pool.waiting }

-- a link waits no more
abbrev pub without : ℕ → PoolSeen → PoolSeen
without link pool = record pool { waiting = filter (λ w. not (is_link link w)) pool.waiting }

-- a link waits no more, and is owed a reply
abbrev pub settled : ℕ → ℕ → PoolSeen → PoolSeen
settled link status pool = record (without link pool) { owed = pool.owed ++ record { link = link; status = status } ∷ [] }
