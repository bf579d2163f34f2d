-- Positions of the public standard's own examples, computed by the definition.
use Rattle.std.proofs.Common.{◌≡◌, ℕ, ℤ, pos, negsuc, Some, None, refl}
use Rattle.std.specs.Prelude.{codes}
use Rattle.std.specs.declared.option.Option.{Option}
use Rattle.std.specs.Option.{option_map}
use Rattle.aprs_base.specs.declared.packets.Place.{Place}
use Rattle.aprs_position.specs.Written.{finest, place_with}
use Rattle.mic_e.specs.MicE.{digit_of, from_equator, from_greenwich, late_digit_of, mark_after, mic_e_place, pair, place_of, written_of}

-- a place's numbers
abbrev numbers : Option Place → Option (ℤ × ℤ × ℕ × ℕ × ℕ)
numbers place = option_map (λ p. (p.lat, p.lon, p.table, p.code, p.used)) place

-- each destination and body read as their place's numbers, or as none
rows :
    -- west of Greenwich
    (numbers (mic_e_place (codes "S32U6T") (codes "`(_fn\"Oj/")) ≡ Some (pos 33427333, negsuc 12128999, 47, 106, 9))
    -- with a mark
    × (numbers (mic_e_place (codes "S32U6T") (codes "`(_fn\"Oj/!W52!")) ≡ Some (pos 33427416, negsuc 12129032, 47, 106, 9))
    -- blank hundredths with a mark
    × (numbers (mic_e_place (codes "S32U6L") (codes "`(_fn\"Oj/!W52!")) ≡ Some (pos 33426666, pos 12129000, 47, 106, 9))
    -- blank degrees with a mark
    × (numbers (mic_e_place (codes "SK2U6T") (codes "`(_fn\"Oj/!W52!")) ≡ Some (pos 30427416, negsuc 12129032, 47, 106, 9))
    -- mark within the nine bytes
    × (numbers (mic_e_place (codes "S32U6T") (codes "`(_fab!W52!")) ≡ Some (pos 33427333, negsuc 12128999, 53, 87, 9))
    -- a hundred degrees more
    × (numbers (mic_e_place (codes "S32UVT-7") (codes "`(_fn\"Oj/")) ≡ Some (pos 33427333, negsuc 112128999, 47, 106, 9))
    -- short body
    × (mic_e_place (codes "S32U6T") (codes "`(_fn\"Oj") ≡ None)
    -- short destination
    × (mic_e_place (codes "S32U6") (codes "`(_fn\"Oj/") ≡ None)
unfolding place_of written_of mark_after finest place_with from_equator from_greenwich pair digit_of late_digit_of
rows = (refl, refl, refl, refl, refl, refl, refl, refl)
