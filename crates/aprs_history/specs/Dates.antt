-- The comment line that tells the date.
use Rattle.std.specs.Prelude.{ℕ, List, ◌++◌, codes}
use Rattle.comment_date.specs.Dates.{date_at}

-- the server's name and the date of a moment, in seconds since 1970
abbrev pub comment_text : List ℕ → ℕ → List ℕ
comment_text server moment = codes "# aprsc 1.0 " ++ (date_at moment ++ (codes " " ++ server))
