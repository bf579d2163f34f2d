-- The parts of a text behind its first.
use Rattle.std.proofs.Common.{◌≡◌, ℕ, ◌<◌, List, [], ◌∷◌, None, length, refl, arith}
use Rattle.std.specs.List.{slice_split}
use Rattle.std.proofs.lemmas.List.Splits.{length-slice_split}
use Rattle.aprs_conf.specs.Arguments.{is_dot, last_in}
use Rattle.aprs_conf.specs.Words.{is_feed, ended, lines_of, without_return}

-- a part that another follows has a line end
pub line_first : (part text : List ℕ) → ended (part ∷ slice_split is_feed text) ≡ without_return part ∷ lines_of text
line_first part text = by (slice_split is_feed text) (omega (arith, length-slice_split is_feed text))
  where
    by : (parts : List (List ℕ)) → 0 < length parts → ended (part ∷ parts) ≡ without_return part ∷ ended parts
    by [] some = absurd (omega arith)
    by (next ∷ more) some = refl

-- a part that another follows is not the last
pub not_last : (part text : List ℕ) → last_in (part ∷ slice_split is_dot text) ≡ None
not_last part text = by (slice_split is_dot text) (omega (arith, length-slice_split is_dot text))
  where
    by : (parts : List (List ℕ)) → 0 < length parts → last_in (part ∷ parts) ≡ None
    by [] some = absurd (omega arith)
    by (next ∷ more) some = refl
