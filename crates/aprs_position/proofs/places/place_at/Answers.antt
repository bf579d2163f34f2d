use Rattle.std.proofs.Common.{◌≡◌, sym, ◌∙◌, to_z, of_z, w32, rules}
use Rattle.std.proofs.lemmas.Int.{to_z-of_z}
use Rattle.aprs_position.proofs.PlaceLemmas.{place_at_none, place_at_same}
use Rattle.aprs_position.proofs.places.place_at.Goals as goal

pub returns-then-not-is_on_globe : goal.returns-then-not-is_on_globe
returns-then-not-is_on_globe c = sym (place_at_none c.args.lat c.args.lon _ _ _ (search rules))

pub returns : goal.returns
returns c =
    let lat : to_z w32 (of_z w32 c.args.lat) ≡ c.args.lat = to_z-of_z _ _ c.ranges.lat in
    let lon : to_z w32 (of_z w32 c.args.lon) ≡ c.args.lon = to_z-of_z _ _ c.ranges.lon in
    sym (place_at_same _) ∙ cc
