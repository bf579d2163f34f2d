-- Positions of the public standard's own examples, computed by the definitions.
use Rattle.std.proofs.Common.{◌≡◌, ℕ, ℤ, pos, negsuc, Some, None, refl}
use Rattle.std.specs.Prelude.{codes}
use Rattle.std.specs.declared.option.Option.{Option}
use Rattle.std.specs.Option.{option_map}
use Rattle.aprs_base.specs.declared.packets.Place.{Place}
use Rattle.aprs_position.specs.Compressed.{compressed_place}
use Rattle.aprs_position.specs.Plain.{mark_after, plain_place, written_of}
use Rattle.aprs_position.specs.Written.{finest, place_with}

-- a place's numbers
abbrev numbers : Option Place → Option (ℤ × ℤ × ℕ × ℕ × ℕ)
numbers place = option_map (λ p. (p.lat, p.lon, p.table, p.code, p.used)) place

-- each text reads as its place's numbers, or as none
rows :
    -- home
    (numbers (plain_place (codes "4903.50N/07201.75W-")) ≡ Some (pos 49058333, negsuc 72029165, 47, 45, 19))
    -- last digits blank
    × (numbers (plain_place (codes "4903.5 N/07201.7 W-Test")) ≡ Some (pos 49058333, negsuc 72028332, 47, 45, 19))
    -- beyond the pole
    × (plain_place (codes "9000.01N/00000.00E-") ≡ None)
    -- all blank
    × (numbers (plain_place (codes "49  .  N/07201.75W-")) ≡ Some (pos 49000000, negsuc 72029165, 47, 45, 19))
    -- digit after blank
    × (plain_place (codes "4903. 0N/07201.75W-") ≡ None)
    -- sixty minutes
    × (plain_place (codes "4960.00N/07201.75W-") ≡ None)
    -- tenths of a hundredth
    × (numbers (plain_place (codes "4903.50N/07201.75W-!W52!")) ≡ Some (pos 49058416, negsuc 72029199, 47, 45, 19))
    -- ninety-firsts of a hundredth
    × (numbers (plain_place (codes "4903.50N/07201.75W-!wN!!")) ≡ Some (pos 49058415, negsuc 72029165, 47, 45, 19))
    -- blank digit with a mark
    × (numbers (plain_place (codes "4903.5 N/07201.75W-!W52!")) ≡ Some (pos 49058333, negsuc 72029165, 47, 45, 19))
    -- mark that leads beyond the pole
    × (numbers (plain_place (codes "9000.00N/00000.00E-!W11!")) ≡ Some (pos 90000000, pos 0, 47, 45, 19))
    -- mark that leaves one number as it is, and so stays on the pole
    × (numbers (plain_place (codes "9000.00N/00000.00E-!W01!")) ≡ Some (pos 90000000, pos 16, 47, 45, 19))
    -- leftmost of two, within a comment, over an earlier `!`
    × (numbers (plain_place (codes "4903.50N/07201.75W-Hi!!W52!!W99!")) ≡ Some (pos 49058416, negsuc 72029199, 47, 45, 19))
    -- mark that begins within the position
    × (numbers (plain_place (codes "4903.50N/07201.75W!W52!")) ≡ Some (pos 49058333, negsuc 72029165, 47, 33, 19))
    -- bytes that only look like a mark
    × (numbers (plain_place (codes "4903.50N/07201.75W-!W5A!!X52!")) ≡ Some (pos 49058333, negsuc 72029165, 47, 45, 19))
    -- compressed
    × (numbers (compressed_place (codes "/5L!!<*e7>7P[!W52!")) ≡ Some (pos 49500000, negsuc 72750003, 47, 62, 13))
    -- overlay three
    × (numbers (compressed_place (codes "d5L!!<*e7>7P[")) ≡ Some (pos 49500000, negsuc 72750003, 51, 62, 13))
    -- too short
    × (compressed_place (codes "/5L!!<*e7>7P") ≡ None)
unfolding plain_place written_of mark_after finest place_with compressed_place
rows = (refl, refl, refl, refl, refl, refl, refl, refl, refl, refl, refl, refl, refl, refl, refl, refl, refl)
