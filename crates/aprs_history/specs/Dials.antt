-- The server's uplinks as a trace leaves them, and what a round has for other servers: a dial, and packets for the peers.
use Rattle.std.specs.Prelude.{ℕ, ◌+◌, Bool, List, [], ◌∷◌, ◌++◌, length, Option, None, if◌then◌else◌}
use Rattle.uplinks_peers.specs.declared.uplinks.UpEvent.TheVariants as up
use Rattle.uplinks_peers.specs.Uplinks.{UplinksSeen, acts_at, untried, uplinks_after}
use Rattle.aprs_history.specs.declared.verdicts.Verdict.{Verdict}
use Rattle.aprs_history.specs.declared.verdicts.Verdict.TheVariants.{Accepted}
use Rattle.aprs_history.specs.Setting.{Peer, Setting}
use Rattle.aprs_history.specs.Trace.{Trace, AtListener, ByUplink, Door, RoundBegan, Opened, Brought, Said, Ended, Looked, Unjoined, moment_of}
use Rattle.aprs_history.specs.Links.{is_submitted}

abbrev pub joined_by : Door → (link now : ℕ) → UplinksSeen → UplinksSeen
joined_by (AtListener listener) link now uplinks = uplinks
joined_by (ByUplink uplink) link now uplinks = uplinks_after (up.Joined uplink link) now uplinks

-- the uplinks: which one is next, is being dialled or joined, by the rule of dialling
abbrev pub uplinks_of : Setting → Trace → UplinksSeen
uplinks_of setting [] = untried (length setting.uplinks) setting.up_timeout
uplinks_of setting (Looked ∷ earlier) = uplinks_after up.Tick (moment_of earlier) (uplinks_of setting earlier)
uplinks_of setting (Opened door admission link from ∷ earlier) = joined_by door link (moment_of earlier) (uplinks_of setting earlier)
uplinks_of setting (Unjoined uplink ∷ earlier) = uplinks_after (up.Unjoined uplink) (moment_of earlier) (uplinks_of setting earlier)
uplinks_of setting (Brought link bytes ∷ earlier) = uplinks_after (up.Heard link) (moment_of earlier) (uplinks_of setting earlier)
uplinks_of setting (Ended link reason ∷ earlier) = uplinks_after (up.Ended link) (moment_of earlier) (uplinks_of setting earlier)
uplinks_of setting (entry ∷ earlier) = uplinks_of setting earlier

-- the uplink that is to be dialled after the last round
abbrev pub dial_of : Setting → Trace → Option ℕ
dial_of setting [] = None
dial_of setting (RoundBegan ∷ earlier) = None
dial_of setting (Looked ∷ earlier) = (acts_at up.Tick (moment_of earlier) (uplinks_of setting earlier)).dial
dial_of setting (entry ∷ earlier) = dial_of setting earlier

-- a line for a peer
pub record CastSeen : Type 0 where
  pub peer : ℕ
  pub line : List ℕ

-- a line for each of so many peers, rising
abbrev pub casts_to : ℕ → List Peer → List ℕ → List CastSeen
casts_to n [] line = []
casts_to n (peer ∷ peers) line = record { peer = n; line = line } ∷ casts_to (n + 1) peers line

-- an accepted packet is for the peers where it was submitted here
abbrev pub cast_by : List Peer → (submitted : Bool) → Verdict → List CastSeen
cast_by peers submitted (Accepted parts line) = if submitted then casts_to 0 peers line else []
cast_by peers submitted verdict = []

-- the lines that the last round has for the peers, in order
abbrev pub casts_of : Setting → Trace → List CastSeen
casts_of setting [] = []
casts_of setting (RoundBegan ∷ earlier) = []
casts_of setting (Said from cut verdict ∷ earlier) = casts_of setting earlier ++ cast_by setting.peers (is_submitted earlier from) verdict
casts_of setting (entry ∷ earlier) = casts_of setting earlier
