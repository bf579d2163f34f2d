-- Descents in small networks.
use Rattle.std.proofs.Common.{◌≡◌, refl, ℕ, List, [], ◌∷◌, ◌++◌, codes, map, true, Option, Some, None}
use Rattle.std.specs.Prelude.{reverse}
use Rattle.std.specs.Fmt.{digits}
use Rattle.aprs_body.specs.Bodies.{body_of}
use Rattle.login_pass.specs.Login.{login_of}
use Rattle.login_pass.specs.Passcode.{passcode_of}
use Rattle.q_construct.specs.Rule.{process_of, given_drops, built_drops, built_row, rows}
use Rattle.tnc2_line.specs.Packet.{parts_of, text_of, via_of, head_of}
use Rattle.aprs_history.specs.History.{trace_of}
use Rattle.aprs_history.specs.Acts.{due}
use Rattle.net_history.specs.declared.events.NetEvent.{NetEvent}
use Rattle.net_history.specs.declared.events.NetEvent.TheVariants as net
use Rattle.net_history.specs.Network.{Layout}
use Rattle.net_history.specs.Steps.{network_of}
use Rattle.net_history.specs.Trails.{Passed, Submitted, Trail}
use Rattle.net_history.specs.Descents.{Known, known_of}
use Rattle.net_history.proofs.Rows.{leaf_and_hub, repeated, submission, two_peers}

-- the submitted line, and the servers that accepted it, in order
way_of : Trail → List (List ℕ)
way_of (Submitted line) = line ∷ []
way_of (Passed before by) = way_of before ++ by.call ∷ []

way_of_descent : Option Trail → List (List ℕ)
way_of_descent None = []
way_of_descent (Some trail) = way_of trail

ways : Layout → List NetEvent → List (List (List (List ℕ)))
ways layout steps = map (λ (known : Known). map way_of_descent known.descents) (known_of layout (reverse steps))

-- the submitted line, and the packet as each server sent it on, in order
lines_of : Trail → List (List ℕ)
lines_of (Submitted line) = line ∷ []
lines_of (Passed before by) = lines_of before ++ text_of by.parts ∷ []

lines_of_descent : Option Trail → List (List ℕ)
lines_of_descent None = []
lines_of_descent (Some trail) = lines_of trail

sent_on : Layout → List NetEvent → List (List (List (List ℕ)))
sent_on layout steps = map (λ (known : Known). map lines_of_descent known.descents) (known_of layout (reverse steps))

-- ---- a leaf and its hub

submission_descends : ways leaf_and_hub submission
    ≡ ((codes "K1ABC>APRS:>hi" ∷ codes "T2LEAF" ∷ []) ∷ []) ∷ ((codes "K1ABC>APRS:>hi" ∷ codes "T2LEAF" ∷ codes "T2TEST" ∷ []) ∷ []) ∷ []
unfolding due trace_of network_of known_of leaf_and_hub submission ways way_of way_of_descent digits parts_of text_of via_of head_of login_of passcode_of process_of given_drops built_drops built_row rows body_of
submission_descends = refl

-- the first server leaves its call behind qAC, and each one behind qAI
marked : List (List ℕ)
marked = codes "K1ABC>APRS:>hi" ∷ codes "K1ABC>APRS,TCPIP*,qAC,T2LEAF:>hi" ∷ []

submission_is_marked : sent_on leaf_and_hub submission ≡ (marked ∷ []) ∷ ((marked ++ codes "K1ABC>APRS,TCPIP*,qAC,T2LEAF:>hi" ∷ []) ∷ []) ∷ []
unfolding due trace_of network_of known_of leaf_and_hub submission sent_on lines_of lines_of_descent marked digits parts_of text_of via_of head_of login_of passcode_of process_of given_drops built_drops built_row rows body_of
submission_is_marked = refl

traced : List NetEvent
traced =
    net.Round 1 1000 ∷ net.Round 0 1000 ∷ net.Join 0 ∷ net.Round 0 1001 ∷ net.Carry 0 true 39 ∷ net.Round 1 1001
    ∷ net.Open 0 0 (codes "K1ABC") ∷ net.Say 0 2 (codes "K1ABC>APRS,qAI,K1ABC:>hi") ∷ net.Round 0 1002 ∷ net.Carry 0 true 33 ∷ net.Round 1 1002 ∷ []

traces : List (List ℕ)
traces = codes "K1ABC>APRS,qAI,K1ABC:>hi" ∷ codes "K1ABC>APRS,qAI,K1ABC,T2LEAF:>hi" ∷ []

traced_is_named : sent_on leaf_and_hub traced ≡ (traces ∷ []) ∷ ((traces ++ codes "K1ABC>APRS,qAI,K1ABC,T2LEAF,T2TEST:>hi" ∷ []) ∷ []) ∷ []
unfolding due trace_of network_of known_of leaf_and_hub traced sent_on lines_of lines_of_descent traces digits parts_of text_of via_of head_of login_of passcode_of process_of given_drops built_drops built_row rows body_of
traced_is_named = refl

-- ---- two peers, and a datagram that comes twice

repeated_descends : ways two_peers repeated
    ≡ ((codes "K1ABC>APRS:>hi" ∷ codes "T2A" ∷ []) ∷ [])
    ∷ ((codes "K1ABC>APRS:>hi" ∷ codes "T2A" ∷ codes "T2B" ∷ []) ∷ (codes "K1ABC>APRS:>hi" ∷ codes "T2A" ∷ codes "T2B" ∷ []) ∷ []) ∷ []
unfolding due trace_of network_of known_of two_peers repeated ways way_of way_of_descent digits parts_of text_of via_of head_of login_of passcode_of process_of given_drops built_drops built_row rows body_of
repeated_descends = refl
