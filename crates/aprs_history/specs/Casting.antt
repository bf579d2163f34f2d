-- What is cast to a peer: the packets that were submitted here, each once and in order.
use Rattle.std.specs.Prelude.{◌≡◌, ℕ, ◌<◌, ◌==◌, Bool, List, [], ◌∷◌, ◌++◌, length, map, if◌then◌else◌}
use Rattle.aprs_base.specs.declared.events.Happening.TheVariants as did
use Rattle.link_queue.specs.Lines.{ended_line}
use Rattle.aprs_history.specs.declared.verdicts.Verdict.{Verdict}
use Rattle.aprs_history.specs.declared.verdicts.Verdict.TheVariants.{Accepted}
use Rattle.aprs_history.specs.Setting.{Setting}
use Rattle.aprs_history.specs.Trace.{Trace, Said}
use Rattle.aprs_history.specs.Links.{is_submitted}
use Rattle.aprs_history.specs.History.{History, open_events, trace_of}
use Rattle.aprs_history.specs.Acts.{IsRun, due}

-- the line of an accepted packet, where it was submitted here
abbrev pub submitted_line : (submitted : Bool) → Verdict → List (List ℕ)
submitted_line submitted (Accepted parts line) = if submitted then line ∷ [] else []
submitted_line submitted verdict = []

-- the lines of the accepted packets that were submitted here, in order
abbrev pub submitted_lines : Trace → List (List ℕ)
submitted_lines [] = []
submitted_lines (Said from said verdict ∷ earlier) = submitted_lines earlier ++ submitted_line (is_submitted earlier from) verdict
submitted_lines (entry ∷ earlier) = submitted_lines earlier

-- the datagrams that were cast to a peer, in order
abbrev pub casts_to_peer : History → ℕ → List (List ℕ)
casts_to_peer [] peer = []
casts_to_peer (did.Cast to bytes ∷ earlier) peer = if to == peer then casts_to_peer earlier peer ++ bytes ∷ [] else casts_to_peer earlier peer
casts_to_peer (x ∷ earlier) peer = casts_to_peer earlier peer

-- in a run whose last round is finished, and in which nothing is due any more, each peer was sent these lines, each in a datagram
abbrev pub SubmissionsAreCast : Type 0
SubmissionsAreCast = (setting : Setting) (history : History) (peer : ℕ) → IsRun setting history → peer < length setting.peers → open_events history ≡ 0 → due setting history ≡ []
    → casts_to_peer history peer ≡ map ended_line (submitted_lines (trace_of setting history))
