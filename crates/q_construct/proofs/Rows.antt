-- Worked lines: what the rule makes of them at the server T2TEST.
use Rattle.std.specs.Prelude.{◌≡◌, ℕ, List, [], ◌∷◌, true, false, Ok, Err, refl, codes, Result}
use Rattle.aprs_base.specs.PartsSeen.{PartsSeen}
use Rattle.tnc2_line.specs.Packet.{parts_of, head_of, via_of, text_of}
use Rattle.tnc2_line.specs.declared.reading.LineFault.{LineFault}
use Rattle.q_construct.specs.Rule.{process_of, given_drops, built_drops, built_row, rows}
use Rattle.q_construct.specs.declared.origins.Origin.{Origin}
use Rattle.q_construct.specs.declared.origins.Origin.TheVariants.{Udp, Client, Uplink, Peer}
use Rattle.q_construct.specs.declared.drops.QDrop.{QDrop}
use Rattle.q_construct.specs.declared.drops.QDrop.TheVariants as drop_for

abbrev texts : Result PartsSeen QDrop → Result (List ℕ) QDrop
texts (Ok parts) = Ok (text_of parts)
texts (Err d) = Err d

abbrev answer_to : Origin → List ℕ → List (List ℕ) → Result PartsSeen LineFault → Result (List ℕ) QDrop
answer_to origin server others (Ok parts) = texts (process_of parts origin server others)
answer_to origin server others (Err fault) = Err drop_for.Long

abbrev answer : Origin → List (List ℕ) → List ℕ → Result (List ℕ) QDrop
answer origin others line = answer_to origin (codes "T2TEST") others (parts_of line)

abbrev goes_on : List ℕ → Result (List ℕ) QDrop
goes_on line = Ok line

abbrev k1abc : Origin
k1abc = Client (codes "K1ABC") true false

abbrev oh7lzb : List (List ℕ)
oh7lzb = codes "OH7LZB" ∷ []

-- what the rule answers to lines from K1ABC, where OH7LZB is linked too
answers :
    -- no gate
    (answer k1abc oh7lzb (codes "K1XYZ>APRS,NOGATE*:>x") ≡ Err drop_for.NoGate)
    -- third party
    × (answer k1abc oh7lzb (codes "K1ABC>APRS:}x") ≡ Err drop_for.ThirdParty)
    -- query
    × (answer k1abc oh7lzb (codes "K1ABC>APRS:?x") ≡ Err drop_for.Query)
    -- zapped
    × (answer k1abc oh7lzb (codes "K1XYZ>APRS,qAZ,K1ABC:>x") ≡ Err drop_for.QAZ)
    -- zapped last
    × (answer k1abc oh7lzb (codes "K1ABC>APRS,qAZ:>x") ≡ goes_on (codes "K1ABC>APRS,TCPIP*,qAC,T2TEST:>x"))
    -- names server
    × (answer k1abc oh7lzb (codes "K1XYZ>APRS,qAR,G,T2TEST:>x") ≡ Err drop_for.NamesServer)
    -- twice
    × (answer k1abc oh7lzb (codes "K1XYZ>APRS,qAR,G,G:>x") ≡ Err (drop_for.Twice (codes "G")))
    -- other login
    × (answer k1abc oh7lzb (codes "K1XYZ>APRS,qAR,OH7LZB:>x") ≡ Err (drop_for.OtherLogin (codes "OH7LZB")))
    -- login not last
    × (answer k1abc oh7lzb (codes "K1XYZ>APRS,qAR,K1ABC,G:>x") ≡ Err drop_for.LoginNotLast)
    -- kept
    × (answer k1abc oh7lzb (codes "K1XYZ>APRS,qAR,G:>x") ≡ goes_on (codes "K1XYZ>APRS,qAR,G:>x"))
unfolding process_of given_drops built_drops built_row rows parts_of head_of via_of text_of
answers = (refl, refl, refl, refl, refl, refl, refl, refl, refl, refl)

-- what the rule answers to lines from other origins
answers_by_origin :
    -- own packet
    (answer (Client (codes "N0CALL") true false) [] (codes "N0CALL>APRS,WIDE1-1:>hi") ≡ goes_on (codes "N0CALL>APRS,TCPIP*,qAC,T2TEST:>hi"))
    -- own unverified
    × (answer (Client (codes "N0CALL") false false) [] (codes "N0CALL>APRS,WIDE1-1:>hi") ≡ goes_on (codes "N0CALL>APRS,TCPXX*,qAX,T2TEST:>hi"))
    -- other unverified
    × (answer (Client (codes "N0CALL") false false) [] (codes "K1XYZ>APRS:>hi") ≡ Err drop_for.Unverified)
    -- gated by login
    × (answer (Client (codes "OH7LZB") true false) [] (codes "K1ABC>APRS,DIG*,OH7LZB,I:>x") ≡ goes_on (codes "K1ABC>APRS,DIG*,qAR,OH7LZB:>x"))
    -- gated by another
    × (answer (Client (codes "K1XYZ") true false) [] (codes "K1ABC>APRS,DIG*,OH7LZB,I:>x") ≡ goes_on (codes "K1ABC>APRS,DIG*,qAr,OH7LZB:>x"))
    -- gated by a linked
    × (answer (Client (codes "K1XYZ") true false) oh7lzb (codes "K1ABC>APRS,DIG*,OH7LZB,I:>x") ≡ Err (drop_for.OtherLogin (codes "OH7LZB")))
    -- gated receive only
    × (answer (Client (codes "OH7LZB") true true) [] (codes "K1ABC>APRS,DIG*,OH7LZB,I:>x") ≡ goes_on (codes "K1ABC>APRS,DIG*,qAo,OH7LZB:>x"))
    -- marked receive only
    × (answer (Client (codes "OH7LZB") true true) [] (codes "K1ABC>APRS,DIG*,qAR,OH7LZB:>x") ≡ goes_on (codes "K1ABC>APRS,DIG*,qAo,OH7LZB:>x"))
    -- heard on client port
    × (answer (Client (codes "OH7LZB") true true) [] (codes "K1ABC>APRS,DIG*:>x") ≡ goes_on (codes "K1ABC>APRS,DIG*,qAO,OH7LZB:>x"))
    -- heard on full port
    × (answer (Client (codes "OH7LZB") true false) [] (codes "K1ABC>APRS,DIG*:>x") ≡ goes_on (codes "K1ABC>APRS,DIG*,qAS,OH7LZB:>x"))
    -- uplink loop
    × (answer (Uplink (record { ip = 10 ∷ 0 ∷ 0 ∷ 9 ∷ []; port = 1 })) [] (codes "K1ABC>APRS,qAR,GATE,T2TEST:>x") ≡ Err drop_for.NamesServer)
    -- from uplink
    × (answer (Uplink (record { ip = 10 ∷ 0 ∷ 0 ∷ 9 ∷ []; port = 1 })) [] (codes "K1ABC>APRS:>x") ≡ goes_on (codes "K1ABC>APRS,qAS,0A000009:>x"))
    -- traced here
    × (answer (Client (codes "T2LEAF") true false) [] (codes "K1ABC>APRS,qAI,K1ABC,T2LEAF:>t") ≡ goes_on (codes "K1ABC>APRS,qAI,K1ABC,T2LEAF,T2TEST:>t"))
    -- traced from peer
    × (answer (Peer (codes "T2HUB")) [] (codes "K1ABC>APRS,qAI,K1ABC:>t") ≡ goes_on (codes "K1ABC>APRS,qAI,K1ABC,T2HUB,T2TEST:>t"))
    -- submitted
    × (answer (Udp (codes "N0CALL")) [] (codes "N0CALL>APRS:>hi") ≡ goes_on (codes "N0CALL>APRS,TCPIP*,qAU,T2TEST:>hi"))
    -- submitted for another
    × (answer (Udp (codes "N0CALL")) [] (codes "K1ABC>APRS,DIG*,qAR,G:>hi") ≡ goes_on (codes "K1ABC>APRS,DIG*,qAU,T2TEST:>hi"))
    -- mark alone
    × (answer (Peer (codes "T2HUB")) [] (codes "K1ABC>APRS,I:>x") ≡ goes_on (codes "K1ABC>APRS,I,qAS,T2HUB:>x"))
unfolding process_of given_drops built_drops built_row rows parts_of head_of via_of text_of
answers_by_origin = (refl, refl, refl, refl, refl, refl, refl, refl, refl, refl, refl, refl, refl, refl, refl, refl, refl)
