-- Small histories with sends, and the bytes that their links took.
use Rattle.std.proofs.Common.{◌≡◌, refl, [], ◌∷◌, codes}
use Rattle.aprs_base.specs.declared.events.Sent.TheVariants as sent
use Rattle.aprs_base.specs.declared.events.Happening.TheVariants as did
use Rattle.aprs_history.specs.History.{History}
use Rattle.aprs_history.specs.Headline.{taken_bytes}

-- a part of one offer and the whole of the next; then the link is gone
sends : History
sends = did.Sent 1 (codes "efgh") sent.Gone ∷ did.Sent 1 (codes "cd") (sent.Took 2) ∷ did.Sent 2 (codes "xyz") (sent.Took 3) ∷ did.Sent 1 (codes "abcd") (sent.Took 2) ∷ []

took_parts : taken_bytes sends 1 ≡ codes "abcd"
unfolding sends
took_parts = refl

took_whole : taken_bytes sends 2 ≡ codes "xyz"
unfolding sends
took_whole = refl

took_none : taken_bytes sends 3 ≡ []
unfolding sends
took_none = refl
