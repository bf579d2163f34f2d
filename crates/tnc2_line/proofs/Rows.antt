-- Worked lines: what the definitions make of them.
use Rattle.std.specs.Prelude.{◌≡◌, [], ◌∷◌, true, false, Some, Ok, Err, refl, codes}
use Rattle.tnc2_line.specs.Packet.{parts_of, text_of, is_parts, construct_at, via_of, head_of}
use Rattle.tnc2_line.specs.declared.reading.LineFault.TheVariants as fault
use Rattle.aprs_base.specs.PartsSeen.{PartsSeen}

a_packet : PartsSeen
a_packet = record {
  source = codes "K1ABC";
  dest = codes "APRS";
  vias = record { call = codes "DIG"; star = true } ∷ record { call = codes "qAR"; star = false } ∷ record { call = codes "GATE-1"; star = false } ∷ [];
  body = codes ">x:y";
}

-- lines that read or don't, and a packet
rows :
    -- no colon
    (parts_of (codes "K1ABC") ≡ Err fault.NoColon)
    -- no arrow
    × (parts_of (codes "K1ABC:>x") ≡ Err fault.NoArrow)
    -- bad source
    × (parts_of (codes "TOOLONGCALL>APRS:>x") ≡ Err fault.BadSource)
    -- bad dest
    × (parts_of (codes "K1ABC>:>x") ≡ Err fault.BadDest)
    -- starred construct
    × (parts_of (codes "K1ABC>APRS,qAC*,G:>x") ≡ Err (fault.BadVia 1))
    -- star after construct
    × (parts_of (codes "K1ABC>APRS,qAC,G*:>x") ≡ Err (fault.BadVia 2))
    -- empty element
    × (parts_of (codes "K1ABC>APRS,:>x") ≡ Err (fault.BadVia 1))
    -- two constructs
    × (parts_of (codes "K1ABC>APRS,qAC,G,qAR,H:>x") ≡ Err fault.TwoConstructs)
    -- no body
    × (parts_of (codes "K1ABC>APRS:") ≡ Err fault.NoBody)
    -- a whole line
    × (parts_of (codes "K1ABC>APRS,DIG*,qAR,GATE-1:>x:y") ≡ Ok a_packet)
    -- a packet, written as its line
    × (text_of a_packet ≡ codes "K1ABC>APRS,DIG*,qAR,GATE-1:>x:y")
    -- its parts are those of a text
    × (is_parts a_packet ≡ true)
    -- its construct is the second element
    × (construct_at a_packet ≡ Some 1)
unfolding parts_of head_of via_of a_packet text_of is_parts
rows = (refl, refl, refl, refl, refl, refl, refl, refl, refl, refl, refl, refl, refl)
