-- A walk of a link over items, and of links one after another.
use Rattle.std.proofs.Common.{◌≡◌, ℕ, zero, suc, ◌+◌, ◌≤◌, ◌<◌, true, false, List, [], ◌∷◌, ◌++◌, length, get_or, map, refl, sym, ap, ◌∙◌, subst, arith, cond, All, slice_set, take, drop, take_all, append-nil, add-one}
use Rattle.std.specs.List.{drop-map, take-map}
use Rattle.std.proofs.lemmas.List.Elements.{All-drop, All-take}
use Rattle.std.proofs.lemmas.List.{drop_all, drop_more}
use Rattle.worker_match.specs.declared.items.Item.{Item}
use Rattle.worker_match.specs.Items.{item_seen, items_seen}
use Rattle.worker_match.specs.Seen.{FeedSeen, ItemSeen}
use Rattle.worker_match.specs.Walk.{IsOrdered, after, is_open, met, walked}

-- a link that doesn't live, or is over, stays
pub closed_stays : (items : List ItemSeen) (link : FeedSeen) → is_open link ≡ false → walked items link ≡ link
closed_stays [] link is = refl
closed_stays (item ∷ items) link is = ap (walked items) (ap (λ b. cond b (met item link) link) is) ∙ closed_stays items link is

-- the first element that is left
pub left_is : {X : Type 0} (items : List X) (i : ℕ) (x : X) → i < length items → x ≡ get_or items i x → drop i items ≡ x ∷ drop (i + 1) items
left_is items i x lt at = drop_more items i x lt ∙ ap (λ y. y ∷ drop (i + 1) items) (sym at)

-- of what is seen as items
module _ {X : Type 0} (seen : X → ItemSeen) where
  -- one item more is taken
  pub take_more : (items : List X) (i : ℕ) (x : X) (link new total : FeedSeen) → i < length items → x ≡ get_or items i x → new ≡ after link (seen x)
      → walked (map seen (drop i items)) link ≡ total → walked (map seen (drop (i + 1) items)) new ≡ total
  take_more items i x link new total lt at is so_far =
      ap (walked (map seen (drop (i + 1) items))) (is ∙ ap (λ y. after link (seen y)) at)
      ∙ sym (ap (λ left. walked (map seen left) link) (drop_more items i x lt))
      ∙ so_far

  -- and where the link lives and isn't over one more is met
  pub walk_more : (items : List X) (i : ℕ) (x : X) (link new total : FeedSeen) → i < length items → x ≡ get_or items i x → is_open link ≡ true
      → new ≡ met (seen x) link → walked (map seen (drop i items)) link ≡ total → walked (map seen (drop (i + 1) items)) new ≡ total
  walk_more items i x link new total lt at open' is so_far =
      take_more items i x link new total lt at (is ∙ sym (ap (λ b. cond b (met (seen x) link) link) open')) so_far

  pub ordered_at : (items : List X) (i : ℕ) (x : X) → All IsOrdered (map seen items) → i < length items → x ≡ get_or items i x → IsOrdered (seen x)
  ordered_at [] i x all lt at = absurd (omega arith)
  ordered_at (y ∷ items) zero x all lt at = subst (λ z. IsOrdered (seen z)) (sym at) (all 0 (seen y) (omega arith))
  ordered_at (y ∷ items) (suc i) x all lt at = ordered_at items i x (λ k d within. all (suc k) d (omega arith)) (omega arith) at

-- ---- a loop that changes each element

module _ {X : Type 0} (f : X → X) where
  mapped_at : (xs : List X) (i : ℕ) (new d : X) → i < length xs → new ≡ f (get_or xs i d)
      → slice_set (map f (take i xs) ++ drop i xs) i new ≡ map f (take (suc i) xs) ++ drop (suc i) xs
  mapped_at [] i new d lt is = absurd (omega arith)
  mapped_at (x ∷ xs) zero new d lt is = ap (λ y. y ∷ xs) is
  mapped_at (x ∷ xs) (suc i) new d lt is = ap (λ ys. f x ∷ ys) (mapped_at xs i new d (omega arith) is)

  pub get_mapped : (xs : List X) (i : ℕ) (d : X) → i < length xs → get_or (map f (take i xs) ++ drop i xs) i d ≡ get_or xs i d
  get_mapped [] i d lt = absurd (omega arith)
  get_mapped (x ∷ xs) zero d lt = refl
  get_mapped (x ∷ xs) (suc i) d lt = get_mapped xs i d (omega arith)

  pub mapped_more : (xs ys : List X) (i : ℕ) (new d : X) → i < length xs → ys ≡ map f (take i xs) ++ drop i xs → new ≡ f (get_or ys i d)
      → slice_set ys i new ≡ map f (take (i + 1) xs) ++ drop (i + 1) xs
  mapped_more xs ys i new d lt so_far is =
      rw add-one (ap (λ zs. slice_set zs i new) so_far
      ∙ mapped_at xs i new d lt (is ∙ ap f (ap (λ zs. get_or zs i d) so_far ∙ get_mapped xs i d lt)))

  pub mapped_all : (xs ys : List X) (i : ℕ) → length xs ≤ i → ys ≡ map f (take i xs) ++ drop i xs → ys ≡ map f xs
  mapped_all xs ys i past is =
      is ∙ ap (λ rest. map f (take i xs) ++ rest) (drop_all i xs past) ∙ append-nil (map f (take i xs)) ∙ ap (map f) (take_all i xs past)

-- ---- items met a block after another

module _ (n : ℕ) (items : List Item) where
  pub ordered_front : All IsOrdered (items_seen items) → All IsOrdered (items_seen (take n items))
  ordered_front all = subst (All IsOrdered) (take-map item_seen n items) (All-take IsOrdered n (items_seen items) all)

  pub ordered_back : All IsOrdered (items_seen items) → All IsOrdered (items_seen (drop n items))
  ordered_back all = subst (All IsOrdered) (drop-map item_seen n items) (All-drop IsOrdered n (items_seen items) all)

walked_on : (n : ℕ) (items : List Item) (link : FeedSeen) → walked (items_seen (drop n items)) (walked (items_seen (take n items)) link) ≡ walked (items_seen items) link
walked_on zero items link = refl
walked_on (suc n) [] link = refl
walked_on (suc n) (x ∷ items) link = walked_on n items (after link (item_seen x))

all_walked_on : (n : ℕ) (items : List Item) (links : List FeedSeen)
    → map (walked (items_seen (drop n items))) (map (walked (items_seen (take n items))) links) ≡ map (walked (items_seen items)) links
all_walked_on n items [] = refl
all_walked_on n items (link ∷ links) =
    ap (λ first. first ∷ map (walked (items_seen (drop n items))) (map (walked (items_seen (take n items))) links)) (walked_on n items link)
    ∙ ap (λ others. walked (items_seen items) link ∷ others) (all_walked_on n items links)

-- one block more
pub block_more : (n : ℕ) (items block later : List Item) (links new total : List FeedSeen) → block ≡ take n items → later ≡ drop n items
    → new ≡ map (walked (items_seen block)) links → map (walked (items_seen items)) links ≡ total → map (walked (items_seen later)) new ≡ total
block_more n items block later links new total front back is so_far =
    ap (λ left. map (walked (items_seen left)) new) back
    ∙ ap (map (walked (items_seen (drop n items)))) (is ∙ ap (λ met. map (walked (items_seen met)) links) front)
    ∙ all_walked_on n items links
    ∙ so_far

-- no items are left
unchanged : (links : List FeedSeen) → map (walked []) links ≡ links
unchanged [] = refl
unchanged (link ∷ links) = ap (λ others. link ∷ others) (unchanged links)

pub blocks_done : (rest : List Item) (links total : List FeedSeen) → length rest ≡ 0 → map (walked (items_seen rest)) links ≡ total → links ≡ total
blocks_done [] links total none so_far = sym (unchanged links) ∙ so_far
blocks_done (x ∷ rest) links total none so_far = absurd (omega arith)
