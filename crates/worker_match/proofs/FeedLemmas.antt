-- What comes to links, matched at once or later.
use Rattle.std.proofs.Common.{◌≡◌, ℕ, ◌+◌, ◌-◌, ◌^◌, ◌<◌, List, [], ◌∷◌, ◌++◌, length, map, sym, ap, ◌∙◌, subst, take, drop, take_all, append-nil, arith, slice_set, slice_get, get_or, Some, min}
use Rattle.std.specs.List.{sum_by, All}
use Rattle.std.proofs.lemmas.Option.{get_or_from_slice_get}
use Rattle.std.proofs.lemmas.List.Sums.{sum_by_more, fold-append}
use Rattle.std.proofs.lemmas.List.{drop_all, length-append, length-map, map-append, map-id}
use Rattle.std.proofs.lemmas.Simd.{map-map}
use Rattle.std.proofs.lemmas.List.Elements.{All-append, All-cons, All-nil}
use Rattle.link_queue.specs.Queues.{QueueSeen, without_bytes}
use Rattle.worker_match.specs.Items.{item_seen, items_seen}
use Rattle.worker_match.specs.declared.items.Item.{Item}
use Rattle.worker_match.specs.Seen.{FeedSeen, ItemSeen}
use Rattle.worker_match.specs.Walk.{IsOrdered, after, walked}
use Rattle.worker_match.specs.Feeds.{FeedsSeen, met_by, put_in, put_of, seen_after, with_taken}

-- all items that came are in order, and so are they with one more
pub one_ordered : (item : Item) → IsOrdered (item_seen item) → All IsOrdered (items_seen (item ∷ []))
one_ordered item ordered = All-cons IsOrdered (item_seen item) [] ordered (All-nil IsOrdered)

pub more_ordered : (items : List Item) (item : Item) → All IsOrdered (items_seen items) → IsOrdered (item_seen item) → All IsOrdered (items_seen (items ++ item ∷ []))
more_ordered items item before ordered =
    subst (All IsOrdered) (sym (map-append item_seen items (item ∷ []))) (All-append IsOrdered (items_seen items) (items_seen (item ∷ [])) before (one_ordered item ordered))

one_more : (items : List ItemSeen) (item : ItemSeen) → length (items ++ item ∷ []) ≡ length items + 1
one_more items item = length-append items (item ∷ [])

walked_more : (items : List ItemSeen) (item : ItemSeen) (links : List FeedSeen) → map (walked (items ++ item ∷ [])) links ≡ met_by item (map (walked items) links)
walked_more items item links = (λ i. map (λ link. fold-append after link items (item ∷ []) i) links) ∙ sym (map-map (λ link. after link item) (walked items) links)

-- one thing more comes to links
pub brought : (items : List Item) (item : Item) (links : List FeedSeen)
    → seen_after links (items_seen (items ++ item ∷ [])) ≡ record { links = met_by (item_seen item) (map (walked (items_seen items)) links); waiting = length (items_seen items) + 1 }
brought items item links =
    ap (seen_after links) (map-append item_seen items (item ∷ []))
    ∙ ap (λ (met : List FeedSeen). record { links = met; waiting = length (items_seen items ++ item_seen item ∷ []) }) (walked_more (items_seen items) (item_seen item) links)
    ∙ ap (λ n. record { links = met_by (item_seen item) (map (walked (items_seen items)) links); waiting = n }) (one_more (items_seen items) (item_seen item))

-- what came is matched
pub matched : (items : List ItemSeen) (links : List FeedSeen) → seen_after (map (walked items) links) [] ≡ record { links = map (walked items) links; waiting = 0 }
matched items links = ap (λ (met : List FeedSeen). record { links = met; waiting = 0 }) (map-id (map (walked items) links))

-- a vector whose elements were all written holds what was written
pub all_written : {X : Type 0} (size : ℕ) (new old : List X) → length new ≡ length old → size ≡ length old → take size (new ++ drop (length new) old) ≡ new
all_written size new old same whole =
    ap (λ more. take size (new ++ more)) (drop_all (length new) old (omega (arith, same))) ∙ ap (take size) (append-nil new) ∙ take_all size new (omega (arith, same, whole))

-- what came is matched where a vector of links was written through a slice, once what came was let go
pub matched_all : (items : List ItemSeen) (states : List FeedSeen) (seen : FeedsSeen) → seen_after states items ≡ seen → (size : ℕ) (new old : List FeedSeen) (came left : List ItemSeen)
    → came ≡ items → old ≡ states → size ≡ length states → new ≡ map (walked came) old → left ≡ [] → seen_after (take size (new ++ drop (length new) states)) left ≡ record seen { waiting = 0 }
matched_all items states seen is size new old came left same at whole met none =
    let here : new ≡ map (walked items) states = met ∙ ap (map (walked came)) at ∙ ap (λ came. map (walked came) states) same in
    let many : length new ≡ length states = ap length here ∙ length-map states (walked items) in
    ap (λ links. seen_after links left) (all_written size new states many whole ∙ here)
    ∙ ap (seen_after (map (walked items) states)) none
    ∙ matched items states
    ∙ ap (λ (feeds : FeedsSeen). record { links = feeds.links; waiting = 0 }) is

-- where all that came is matched, links are as they stand
pub standing : (items : List ItemSeen) (links : List FeedSeen) → length items ≡ 0 → map (walked items) links ≡ links
standing [] links nothing = map-id links
standing (item ∷ items) links nothing = absurd (omega (arith, nothing))

-- a link whose queue some bytes were taken of
pub queue_taken : (inside link : FeedSeen) (n : ℕ) (queue : QueueSeen) → inside ≡ link → queue ≡ without_bytes n inside.queue → record inside { queue = queue } ≡ with_taken n link
queue_taken inside link n queue is taken = ap (λ (q : QueueSeen). record inside { queue = q }) taken ∙ ap (with_taken n) is

module _ (items : List ItemSeen) (states : List FeedSeen) (seen : FeedsSeen) (is : seen_after states items ≡ seen) (settled : seen.waiting ≡ 0) where
  pub nothing_left : length items ≡ 0
  nothing_left = ap (λ (feeds : FeedsSeen). feeds.waiting) is ∙ settled

  -- all that came is matched: links are seen as they stand
  pub seen_standing : seen.links ≡ states
  seen_standing = ap (λ (feeds : FeedsSeen). feeds.links) (sym is) ∙ standing items states nothing_left

  -- links are seen as they stand once they were written
  pub written : (f : List FeedSeen → List FeedSeen) (new : List FeedSeen) → new ≡ f states → seen_after new items ≡ record seen { links = f seen.links }
  written f new changed =
      ap (λ (links : List FeedSeen). record { links = links; waiting = length items }) (standing items new nothing_left ∙ changed ∙ ap f (sym seen_standing))
      ∙ ap (λ n. record { links = f seen.links; waiting = n }) (nothing_left ∙ sym settled)

  -- links are seen as they stand once all of them were written through a slice
  pub all_changed : (f : List FeedSeen → List FeedSeen) (size : ℕ) (new old : List FeedSeen) → length new ≡ length states → size ≡ length states → old ≡ states → new ≡ f old
      → seen_after (take size (new ++ drop (length new) states)) items ≡ record seen { links = f seen.links }
  all_changed f size new old many whole at changed = written f (take size (new ++ drop (length new) states)) (all_written size new states many whole ∙ changed ∙ ap f at)

  -- links are seen as they stand once one of them was written
  pub written_at : (place : ℕ) (changed new : FeedSeen) → new ≡ changed → seen_after (slice_set states place new) items ≡ record seen { links = slice_set seen.links place changed }
  written_at place changed new is = written (λ links. slice_set links place changed) (slice_set states place new) (ap (slice_set states place) is)

  -- the link at a place
  pub found_there : (place : ℕ) (link found : FeedSeen) → slice_get seen.links place ≡ Some link → found ≡ get_or states place found → found ≡ link
  found_there place link found there at = at ∙ get_or_from_slice_get states place link found (ap (λ links. slice_get links place) (sym seen_standing) ∙ there)

  pub changed_there : (f : FeedSeen → FeedSeen) (place : ℕ) (link old new : FeedSeen) → slice_get seen.links place ≡ Some link → old ≡ get_or states place old → new ≡ f old
      → seen_after (slice_set states place new) items ≡ record seen { links = slice_set seen.links place (f link) }
  changed_there f place link old new there at changed =
      written_at place (f link) new (changed ∙ ap f (found_there place link old there at))

-- ---- what was put

-- a sum that stays at a counter's last value
pub capped : (a b m : ℕ) → min (min a m + b) m ≡ min (a + b) m
capped a b m = omega arith

pub put_more : (links : List FeedSeen) (i : ℕ) (d : FeedSeen) (sum put new : ℕ) → i < length links → sum ≡ put_in (take i links) → put ≡ put_of (get_or links i d) → new ≡ min (sum + put) (2 ^ 64 - 1)
    → new ≡ put_in (take (i + 1) links)
put_more links i d sum put new lt so_far at is =
    is ∙ ap (λ n. min (n + put) (2 ^ 64 - 1)) so_far ∙ capped (sum_by put_of (take i links)) put (2 ^ 64 - 1)
    ∙ ap (λ n. min (sum_by put_of (take i links) + n) (2 ^ 64 - 1)) at
    ∙ ap (λ n. min n (2 ^ 64 - 1)) (sym (sum_by_more put_of links i d lt))
