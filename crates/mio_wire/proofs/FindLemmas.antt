-- What a search by number finds.
use Rattle.std.proofs.Common.{◌≡◌, ◌≢◌, ℕ, zero, suc, ◌<◌, List, [], ◌∷◌, length, get_or, Some, Ok, Err, Result, sym, ap, arith}
use Rattle.std.specs.List.{All, slice_get}
use Rattle.std.specs.List.Sorted.{IsBinarySearchResult, IsSearchInRange}
use Rattle.std.specs.Option.{IfNone, IfSome, option_map}
use Rattle.std.specs.Ordering.{nat_cmp}
use Rattle.std.specs.declared.cmp.Ordering.TheVariants.{Equal}
use Rattle.std.specs.Result.{result_ok}
use Rattle.std.proofs.lemmas.Cmp.{ranked}
use Rattle.mio_wire.specs.Linked.{IsRising, numbers}
use Rattle.mio_wire.specs.declared.links.Link.{Link}
use Rattle.mio_wire.proofs.LinkLemmas.{none_found}

found_at : {S : Type 0} → (links : List (Link S)) (number place : ℕ) → place < length links → ((d : Link S) → nat_cmp (get_or links place d).number number ≡ Equal) →
    option_map (λ l. l.number) (slice_get links place) ≡ Some number
found_at [] number place lt equal = absurd (omega arith)
found_at (link ∷ links) number zero lt equal = ap Some (ranked _ number _ (sym (equal link)))
found_at (link ∷ links) number (suc place) lt equal = found_at links number place (omega arith) equal

pub found : {S : Type 0} → (links : List (Link S)) (number : ℕ) (r : Result ℕ ℕ) → IsSearchInRange r (length links) → IsBinarySearchResult (λ l. nat_cmp l.number number) links r →
    IfSome (result_ok r) (λ place. option_map (λ l. l.number) (slice_get links place) ≡ Some number)
found links number (Ok place) within equal = found_at links number place within equal
found links number (Err place) within parted = tt

pub unfound : {S : Type 0} → (links : List (Link S)) (number : ℕ) (r : Result ℕ ℕ) → IsRising (numbers links) → IsBinarySearchResult (λ l. nat_cmp l.number number) links r →
    IfNone (result_ok r) (All (λ n. n ≢ number) (numbers links))
unfound links number (Ok place) rising equal = tt
unfound links number (Err place) rising parted = none_found number place links rising parted
