-- What the status page counts over what happened on a wire.
use Rattle.std.specs.Prelude.{ℕ, ◌+◌, ◌-◌, ◌^◌, Bool, true, false, List, [], length, min}
use Rattle.std.specs.List.{count_by, sum_by}
use Rattle.aprs_base.specs.CameSeen.{bytes_of}
use Rattle.aprs_base.specs.declared.events.Event.TheVariants as event
use Rattle.aprs_base.specs.declared.events.Sent.TheVariants as sent
use Rattle.aprs_base.specs.declared.events.Happening.{Happening}
use Rattle.aprs_base.specs.declared.events.Happening.TheVariants as did
use Rattle.status_page.specs.declared.counts.Counts.{Counts}

abbrev pub is_opened : Happening → Bool
is_opened (did.Event (event.Opened listener link from)) = true
is_opened x = false

abbrev pub is_joined : Happening → Bool
is_joined (did.Event (event.Joined uplink link at)) = true
is_joined x = false

abbrev pub is_datagram : Happening → Bool
is_datagram (did.Event (event.Datagram listener from bytes)) = true
is_datagram x = false

abbrev pub is_cast : Happening → Bool
is_cast (did.Cast peer bytes) = true
is_cast x = false

-- how many bytes came, on a link or in a datagram
abbrev pub received_by : Happening → ℕ
received_by (did.Event e) = length (bytes_of e)
received_by x = 0

-- how many bytes a link took of an offer
abbrev pub taken_by : Happening → ℕ
taken_by (did.Sent link bytes (sent.Took n)) = n
taken_by x = 0

-- what of all this there is to count
abbrev pub sums_of : List Happening → Counts
sums_of done = record {
  opened = count_by is_opened done;
  joined = count_by is_joined done;
  received = sum_by received_by done;
  datagrams = count_by is_datagram done;
  taken = sum_by taken_by done;
  casts = count_by is_cast done;
}

-- no count passes the greatest u64
abbrev pub at_most : ℕ → ℕ
at_most n = min n (2 ^ 64 - 1)

abbrev pub plus : Counts → Counts → Counts
plus counts more = record {
  opened = at_most (counts.opened + more.opened);
  joined = at_most (counts.joined + more.joined);
  received = at_most (counts.received + more.received);
  datagrams = at_most (counts.datagrams + more.datagrams);
  taken = at_most (counts.taken + more.taken);
  casts = at_most (counts.casts + more.casts);
}

-- the counts once all of this happened, too
abbrev pub counts_after : Counts → List Happening → Counts
counts_after counts done = plus counts (sums_of done)

abbrev pub no_counts : Counts
no_counts = sums_of []
