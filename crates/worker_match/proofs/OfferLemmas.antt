-- Packets as they are offered, one of the items after another.
use Rattle.std.proofs.Common.{◌≡◌, ℕ, ◌+◌, ◌<◌, ◌≤◌, List, [], ◌∷◌, ◌++◌, length, drop, get_or, sym, ap, ◌∙◌, append_assoc, append-nil}
use Rattle.std.proofs.lemmas.List.{drop_all, map-append}
use Rattle.worker_match.specs.declared.items.Item.{Item}
use Rattle.worker_match.specs.Items.{item_seen, items_seen}
use Rattle.worker_match.specs.Seen.{OfferSeen, Came, came_all}
use Rattle.worker_match.proofs.WalkLemmas.{left_is}

-- one more
pub offered_more : (items : List Item) (i : ℕ) (x : Item) (offers new : List OfferSeen) (offer : OfferSeen) → i < length items → x ≡ get_or items i x
    → item_seen x ≡ Came offer → new ≡ offers ++ offer ∷ [] → came_all offers ++ items_seen (drop i items) ≡ items_seen items
    → came_all new ++ items_seen (drop (i + 1) items) ≡ items_seen items
offered_more items i x offers new offer lt at is more so_far =
    let later = items_seen (drop (i + 1) items) in
    ap (λ all. came_all all ++ later) more
    ∙ ap (λ seen. seen ++ later) (map-append Came offers (offer ∷ []))
    ∙ append_assoc (came_all offers) (Came offer ∷ []) later
    ∙ ap (λ first. came_all offers ++ first ∷ later) (sym is)
    ∙ ap (λ left. came_all offers ++ items_seen left) (sym (left_is items i x lt at))
    ∙ so_far

-- all
pub offered_all : (items : List Item) (i : ℕ) (offers : List OfferSeen) → length items ≤ i → came_all offers ++ items_seen (drop i items) ≡ items_seen items
    → came_all offers ≡ items_seen items
offered_all items i offers past so_far =
    sym (append-nil (came_all offers)) ∙ ap (λ left. came_all offers ++ items_seen left) (sym (drop_all i items past)) ∙ so_far
