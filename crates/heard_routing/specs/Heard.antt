-- Which stations links heard, and whose next positions links were promised.
use Rattle.std.specs.Prelude.{ℕ, ◌≡◌, ◌-◌, ◌==◌, ◌&&◌, Bool, nat_le, nat_lt, length, List, [], map, filter, Option}
use Rattle.std.specs.List.{list_all, list_any}
use Rattle.std.specs.List.Sorted.{IsStrictlyIncreasing}
use Rattle.std.specs.Map.{keys_of, set_value}
use Rattle.std.specs.declared.random_state.RandomState.{RandomState}
use Rattle.filter_eval.specs.Passes.{is_some_and, is_text}
use Rattle.heard_routing.specs.Entries.{Entry, Group, is_another, links_of, moment_at, with_moment}

-- when links heard calls, and when they were promised the next position of a sender, the calls in the order in which they
-- first came; and the key of the hasher
pub record HeardSeen : Type 0 where
  pub heard : List Group
  pub promises : List Group
  pub hasher : RandomState

abbrev pub nothing : RandomState → HeardSeen
nothing hasher = record { heard = []; promises = []; hasher = hasher }

-- when the link last heard the call
abbrev pub heard_at : HeardSeen → ℕ → List ℕ → Option ℕ
heard_at table link call = moment_at table.heard link call

-- when the link was last promised the sender's next position
abbrev pub promised_at : HeardSeen → ℕ → List ℕ → Option ℕ
promised_at table link sender = moment_at table.promises link sender

abbrev pub noted : ℕ → List ℕ → ℕ → HeardSeen → HeardSeen
noted link call moment table = record table { heard = with_moment link call moment table.heard }

abbrev pub promised : ℕ → List ℕ → ℕ → HeardSeen → HeardSeen
promised link sender moment table = record table { promises = with_moment link sender moment table.promises }

-- ---- ages

-- three hours, in seconds
abbrev pub heard_age : ℕ
heard_age = 10800

-- half an hour, in seconds
abbrev pub promise_age : ℕ
promise_age = 1800

-- a moment at most so long before
abbrev pub is_recent : ℕ → ℕ → ℕ → Bool
is_recent age now moment = nat_le (now - moment) age

abbrev pub is_recent_entry : ℕ → ℕ → Entry → Bool
is_recent_entry age now entry = is_recent age now entry.1

-- ---- who is given

-- the links that have the call, at most so old
abbrev pub links_with : ℕ → List ℕ → ℕ → List Group → List ℕ
links_with age call now groups = keys_of (filter (is_recent_entry age now) (links_of call groups))

-- the links that heard a message's receiver
abbrev pub receivers : HeardSeen → List ℕ → ℕ → List ℕ
receivers table to now = links_with heard_age to now table.heard

-- the links that are owed the sender's position
abbrev pub courtesies : HeardSeen → List ℕ → ℕ → List ℕ
courtesies table sender now = links_with promise_age sender now table.promises

-- by look-ups: the link has the call, at most so old
abbrev pub has_recent : ℕ → ℕ → List Group → List ℕ → ℕ → Bool
has_recent age now groups call link = is_some_and (is_recent age now) (moment_at groups link call)

abbrev pub is_receiver : HeardSeen → List ℕ → ℕ → ℕ → Bool
is_receiver table to now link = is_some_and (is_recent heard_age now) (heard_at table link to)

abbrev pub is_promised : HeardSeen → List ℕ → ℕ → ℕ → Bool
is_promised table sender now link = is_some_and (is_recent promise_age now) (promised_at table link sender)

abbrev pub is_among : ℕ → List ℕ → Bool
is_among number numbers = list_any (λ other. number == other) numbers

-- exactly the numbers that pass, rising and each once
pub record IsRisingListOf (numbers : List ℕ) (passes : ℕ → Bool) : Type 0 where
  pub rises : IsStrictlyIncreasing numbers
  pub exactly : (number : ℕ) → is_among number numbers ≡ passes number

-- ---- what is removed

-- each call with those of its links that pass
abbrev pub kept_links : (Entry → Bool) → List Group → List Group
kept_links test groups = map (λ group. (group.0, filter test group.1)) groups

abbrev pub has_links : Group → Bool
has_links group = nat_lt 0 (length group.1)

-- a link has the call, and none has it from longer ago
abbrev pub is_recent_group : ℕ → ℕ → Group → Bool
is_recent_group age now group = has_links group && list_all (is_recent_entry age now) group.1

-- what is at most so old; a call that no link has is dropped
abbrev pub recent_groups : ℕ → ℕ → List Group → List Group
recent_groups age now groups = filter has_links (kept_links (is_recent_entry age now) groups)

-- what can still be given
abbrev pub recent : ℕ → HeardSeen → HeardSeen
recent now table = record table { heard = recent_groups heard_age now table.heard; promises = recent_groups promise_age now table.promises }

-- the call stays, with no link
abbrev pub without_links : List ℕ → List Group → List Group
without_links call groups = set_value (is_text call) groups []

abbrev pub without_promises : List ℕ → HeardSeen → HeardSeen
without_promises sender table = record table { promises = without_links sender table.promises }

abbrev pub without_link : ℕ → HeardSeen → HeardSeen
without_link link table = record table { heard = kept_links (is_another link) table.heard; promises = kept_links (is_another link) table.promises }
