-- When links last heard calls, where packets stand in the order in which they came.
use Rattle.std.specs.Prelude.{ℕ, ◌≡◌, ◌==◌, ◌&&◌, Bool, true, false, not, List, Option, Some, None, if◌then◌else◌}
use Rattle.aprs_base.specs.PacketSeen.{PacketSeen}
use Rattle.aprs_base.specs.declared.packets.Source.{Source}
use Rattle.aprs_base.specs.declared.packets.Source.TheVariants as source
use Rattle.filter_eval.specs.Passes.{is_some_and, is_text}
use Rattle.station_table.specs.Last.{last_told}
use Rattle.heard_routing.specs.Heard.{HeardSeen, heard_age, heard_at, is_recent}

abbrev pub is_from : ℕ → Source → Bool
is_from link (source.Link other) = link == other
is_from link from = false

-- when a packet came from this link with this call for its source
abbrev pub heard_by : ℕ → List ℕ → PacketSeen → Option ℕ
heard_by link call packet = if is_from link packet.from && is_text call packet.parts.source then Some packet.moment else None

-- when the link last heard the call
abbrev pub last_heard : List PacketSeen → ℕ → List ℕ → Option ℕ
last_heard packets link call = last_told (heard_by link call) packets

-- a moment that is at most so old
abbrev pub still : ℕ → ℕ → Option ℕ → Option ℕ
still age now None = None
still age now (Some moment) = if is_recent age now moment then Some moment else None

-- a packet that came from this link with this source at this moment
pub record IsHeard (packet : PacketSeen) (link : ℕ) (call : List ℕ) (moment : ℕ) : Type 0 where
  pub from_link : packet.from ≡ source.Link link
  pub of_call : packet.parts.source ≡ call
  pub at_moment : packet.moment ≡ moment

-- A table has when the living links last heard each call, as far as that is at most three hours old. It has nothing of
-- other links.
pub record AgreesAt (now : ℕ) (lives : ℕ → Bool) (table : HeardSeen) (packets : List PacketSeen) : Type 0 where
  pub heard : (link : ℕ) → lives link ≡ true → (call : List ℕ) → still heard_age now (heard_at table link call) ≡ still heard_age now (last_heard packets link call)
  pub others : (link : ℕ) → lives link ≡ false → (call : List ℕ) → heard_at table link call ≡ None

-- A table has when the living links last heard each call, without regard to age. It has nothing of other links.
pub record Agrees (lives : ℕ → Bool) (table : HeardSeen) (packets : List PacketSeen) : Type 0 where
  pub heard : (link : ℕ) → lives link ≡ true → (call : List ℕ) → heard_at table link call ≡ last_heard packets link call
  pub others : (link : ℕ) → lives link ≡ false → (call : List ℕ) → heard_at table link call ≡ None

-- A table has when the living links last heard each call, where that is at most three hours old, and nothing older. It has nothing of
-- other links.
pub record HasExactly (now : ℕ) (lives : ℕ → Bool) (table : HeardSeen) (packets : List PacketSeen) : Type 0 where
  pub heard : (link : ℕ) → lives link ≡ true → (call : List ℕ) → heard_at table link call ≡ still heard_age now (last_heard packets link call)
  pub others : (link : ℕ) → lives link ≡ false → (call : List ℕ) → heard_at table link call ≡ None

-- the living links without one
abbrev pub but_not : ℕ → (ℕ → Bool) → ℕ → Bool
but_not gone lives link = not (gone == link) && lives link

-- the links that heard a call at most three hours before
abbrev pub is_hearer : (ℕ → Bool) → List PacketSeen → List ℕ → ℕ → ℕ → Bool
is_hearer lives packets call now link = lives link && is_some_and (is_recent heard_age now) (last_heard packets link call)
