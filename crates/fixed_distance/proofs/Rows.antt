-- Worked numbers of the definitions.
use Rattle.std.proofs.Common.{◌≡◌, pos, negsuc, true, false, refl}
use Rattle.fixed_distance.specs.Distance.{half_sine_of, cosine_of, arc_of, longitude_gap, haversine_of, is_within}

-- each number of the definitions, and what is near and far
rows :
    -- arcs of kilometres
    (arc_of 23 ≡ 206843)
    × (arc_of 22 ≡ 197850)
    -- a fifth of a degree
    × (half_sine_of 200000 ≡ 3490400000)
    -- a tenth of a degree from the pole
    × (cosine_of (pos 89900000) ≡ 1745)
    -- over the date line
    × (longitude_gap (pos 179900000) (negsuc 179899999) ≡ 200000)
    -- near, and far
    × (is_within (pos 0) (pos 179900000) (pos 0) (negsuc 179899999) 23 ≡ true)
    × (is_within (pos 0) (pos 179900000) (pos 0) (negsuc 179899999) 22 ≡ false)
    -- over the pole
    × (is_within (pos 89900000) (pos 0) (pos 89900000) (pos 180000000) 23 ≡ true)
    × (is_within (pos 89900000) (pos 0) (pos 89900000) (pos 180000000) 22 ≡ false)
unfolding half_sine_of cosine_of is_within haversine_of
rows = (refl, refl, refl, refl, refl, refl, refl, refl, refl)
