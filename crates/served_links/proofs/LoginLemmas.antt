-- A call is looked for link by link.
use Rattle.std.proofs.Common.{◌≡◌, ℕ, List, [], ◌∷◌, ◌∙◌, ap, refl, sym}
use Rattle.std.specs.Prelude.{◌||◌}
use Rattle.std.specs.List.{flat_map, list_any}
use Rattle.std.proofs.lemmas.List.Folds.{list_any-append}
use Rattle.q_construct.specs.Rule.{among, same}
use Rattle.aprs_history.specs.Stands.{LinkSeen}

pub any_of : (call : List ℕ) (logins : LinkSeen → List (List ℕ)) (links : List LinkSeen) → list_any (λ link. among call (logins link)) links ≡ among call (flat_map logins links)
any_of call logins [] = refl
any_of call logins (link ∷ links) =
    ap (λ rest. among call (logins link) || rest) (any_of call logins links) ∙ sym (list_any-append (same call) (logins link) (flat_map logins links))
