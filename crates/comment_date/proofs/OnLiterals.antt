use Rattle.std.specs.Prelude.{⊤}
use Rattle.httpdate.proofs.OnLiterals.{httpdate_on_literals}

-- what a row unfolds to compute the premises of `date_is`
unfoldable pub dates_on_literals : ⊤
unfolding httpdate_on_literals
dates_on_literals = tt
