use Rattle.aprs_base.proofs.PlaceLemmas.{place_found, place_missing}
use Rattle.aprs_base.proofs.texts.first_place.Goals as goal

pub returns-in-Some-clause-place : goal.returns-in-Some-clause-place
returns-in-Some-clause-place c = place_found _ _ _ c.in-Some.ensures.0 c.in-Some.ensures.1

pub returns-in-None-clause-place : goal.returns-in-None-clause-place
returns-in-None-clause-place c = place_missing _ _ c.in-None.ensures
