-- Lists of links in two halves.
use Rattle.std.proofs.Common.{◌≡◌, ℕ, zero, suc, ◌+◌, ◌-◌, ◌^◌, ◌≤◌, ◌<◌, ◌==◌, ◌||◌, Bool, true, false, not, List, [], ◌∷◌, ◌++◌, length, map, filter, get_or, slice_get, slice_set, min, refl, sym, ap, ◌∙◌, subst, arith, cond, take, take_all, append-nil, ⊎_elim, Some, if◌then◌else◌}
use Rattle.std.specs.List.{All, flat_map, list_any, position, position_or_len, sum_by}
use Rattle.std.proofs.lemmas.Bool.{cases_Bool}
use Rattle.std.proofs.lemmas.List.{length-map, map-append}
use Rattle.std.proofs.lemmas.List.Elements.{filter_more}
use Rattle.std.proofs.lemmas.List.Sums.{sum_by-append, sum_by-cons}
use Rattle.std.proofs.lemmas.Slice.Zip.{AllZip-long}
use Rattle.std.proofs.lemmas.Option.{get_or_from_slice_get, slice_get-get_or}
use Rattle.aprs_base.specs.declared.packets.Source.{Source}
use Rattle.aprs_base.specs.declared.packets.Source.TheVariants as source
use Rattle.aprs_history.specs.Stands.{LinkSeen}
use Rattle.worker_match.specs.Feeds.{counted, is_other, is_over, link_of, put_in, put_of}
use Rattle.worker_match.proofs.FeedLemmas.{capped}
use Rattle.worker_match.specs.Seen.{FeedSeen}
use Rattle.worker_match.specs.Walk.{one_more}
use Rattle.served_links.specs.Fed.{AllMatch, Matches, joined, joined_all}
use Rattle.served_links.specs.Links.{Rises, client_kept, has_that, is_none_of, is_overfull, is_ready, login_kept, number_of, numbers, other_login, others_from, picked_at, submitted_from}
use Rattle.served_links.specs.Changes.{at_link}
use Rattle.served_links.specs.Halves.{more}

-- ---- both lists are of one length, and hold the halves of one link at one place

pub as_many : (hs : List LinkSeen) (ss : List FeedSeen) → AllMatch hs ss → length ss ≡ length hs
as_many = AllZip-long Matches

pub match_at : (hs : List LinkSeen) (ss : List FeedSeen) (i : ℕ) (h : LinkSeen) (s : FeedSeen) → AllMatch hs ss → i < length hs → h ≡ get_or hs i h → s ≡ get_or ss i s → Matches h s
match_at [] [] i h s all lt at there = absurd (omega arith)
match_at [] (x ∷ ss) i h s all lt at there = absurd all
match_at (x ∷ hs) [] i h s all lt at there = absurd all
match_at (x ∷ hs) (y ∷ ss) zero h s all lt at there = subst (λ a. Matches a s) (sym at) (subst (Matches x) (sym there) all.0)
match_at (x ∷ hs) (y ∷ ss) (suc i) h s all lt at there = match_at hs ss i h s all.1 (omega arith) at there

pub joined_at : (hs : List LinkSeen) (ss : List FeedSeen) (i : ℕ) (h : LinkSeen) (s : FeedSeen) → AllMatch hs ss → i < length hs → h ≡ get_or hs i h → s ≡ get_or ss i s
    → joined h s ≡ get_or (joined_all hs ss) i (joined h s)
joined_at [] [] i h s all lt at there = absurd (omega arith)
joined_at [] (x ∷ ss) i h s all lt at there = absurd all
joined_at (x ∷ hs) [] i h s all lt at there = absurd all
joined_at (x ∷ hs) (y ∷ ss) zero h s all lt at there = ap (λ a. joined a s) at ∙ ap (joined x) there
joined_at (x ∷ hs) (y ∷ ss) (suc i) h s all lt at there = joined_at hs ss i h s all.1 (omega arith) at there

-- what a link is fed is there
pub state_at : (ss : List FeedSeen) (i : ℕ) → i < length ss → (s : FeedSeen) × (slice_get ss i ≡ Some s) × (s ≡ get_or ss i s)
state_at [] i lt = absurd (omega arith)
state_at (s ∷ ss) i lt =
    let there = slice_get-get_or (s ∷ ss) i s lt in
    let found = get_or (s ∷ ss) i s in (found, there, sym (get_or_from_slice_get (s ∷ ss) i found found there))

-- ---- what hangs on what is kept of the sessions alone

-- what is made of the links one after another
folded : {X : Type 0} (F : List LinkSeen → X) (more : LinkSeen → X → X) → ((l : LinkSeen) (ls : List LinkSeen) → F (l ∷ ls) ≡ more l (F ls))
    → ((h : LinkSeen) (s : FeedSeen) (x : X) → more (joined h s) x ≡ more h x) → (hs : List LinkSeen) (ss : List FeedSeen) → AllMatch hs ss → F (joined_all hs ss) ≡ F hs
folded F more each same [] ss all = refl
folded F more each same (h ∷ hs) [] all = absurd all
folded F more each same (h ∷ hs) (s ∷ ss) all =
    each (joined h s) (joined_all hs ss) ∙ same h s (F (joined_all hs ss)) ∙ ap (more h) (folded F more each same hs ss all.1) ∙ sym (each h hs)

joined_many : (hs : List LinkSeen) (ss : List FeedSeen) → AllMatch hs ss → length (joined_all hs ss) ≡ length hs
joined_many = folded length (λ l n. suc n) (λ l ls. refl) (λ h s n. refl)

module _ {X : Type 0} (f : LinkSeen → X) (same : (h : LinkSeen) (s : FeedSeen) → f (joined h s) ≡ f h) where
  pub map_same : (hs : List LinkSeen) (ss : List FeedSeen) → AllMatch hs ss → map f (joined_all hs ss) ≡ map f hs
  map_same = folded (map f) (λ l xs. f l ∷ xs) (λ l ls. refl) (λ h s xs. ap (λ x. x ∷ xs) (same h s))

  pub picked_same : (none : X) (number : ℕ) (hs : List LinkSeen) (ss : List FeedSeen) → AllMatch hs ss → picked_at f none number (joined_all hs ss) ≡ picked_at f none number hs
  picked_same none number =
      folded (picked_at f none number) (λ l x. if has_that number l then f l else x) (λ l ls. refl) (λ h s x. ap (λ y. if has_that number h then y else x) (same h s))

  pub passing_same : (p : LinkSeen → Bool) → ((h : LinkSeen) (s : FeedSeen) → p (joined h s) ≡ p h) → (hs : List LinkSeen) (ss : List FeedSeen) → AllMatch hs ss
      → map f (filter p (joined_all hs ss)) ≡ map f (filter p hs)
  passing_same p alike = folded (λ ls. map f (filter p ls)) (λ l xs. cond (p l) (f l ∷ xs) xs)
      (λ l ls. elim (p l) as (λ b. map f (cond b (l ∷ filter p ls) (filter p ls)) ≡ cond b (f l ∷ map f (filter p ls)) (map f (filter p ls))) [ true ↦ refl | false ↦ refl ])
      (λ h s xs. ap (λ b. cond b (f (joined h s) ∷ xs) xs) (alike h s) ∙ ap (λ x. cond (p h) (x ∷ xs) xs) (same h s))

pub flat_same : {X : Type 0} (f : LinkSeen → List X) → ((h : LinkSeen) (s : FeedSeen) → f (joined h s) ≡ f h) → (hs : List LinkSeen) (ss : List FeedSeen) → AllMatch hs ss
    → flat_map f (joined_all hs ss) ≡ flat_map f hs
flat_same f same = folded (flat_map f) (λ l xs. f l ++ xs) (λ l ls. refl) (λ h s xs. ap (λ ys. ys ++ xs) (same h s))

module _ (p : LinkSeen → Bool) (same : (h : LinkSeen) (s : FeedSeen) → p (joined h s) ≡ p h) where
  pub any_same : (hs : List LinkSeen) (ss : List FeedSeen) → AllMatch hs ss → list_any p (joined_all hs ss) ≡ list_any p hs
  any_same = folded (list_any p) (λ l b. p l || b) (λ l ls. refl) (λ h s b. ap (λ a. a || b) (same h s))

  pub count_same : (hs : List LinkSeen) (ss : List FeedSeen) → AllMatch hs ss → length (filter p (joined_all hs ss)) ≡ length (filter p hs)
  count_same hs ss all =
      sym (length-map (filter p (joined_all hs ss)) number_of) ∙ ap length (passing_same number_of (λ h s. refl) p same hs ss all) ∙ length-map (filter p hs) number_of

  place_same : (hs : List LinkSeen) (ss : List FeedSeen) → AllMatch hs ss → position_or_len p (joined_all hs ss) ≡ position_or_len p hs
  place_same = folded (position_or_len p) (λ l n. cond (not (p l)) (1 + n) 0) (λ l ls. refl) (λ h s n. ap (λ b. cond (not b) (1 + n) 0) (same h s))

  pub position_same : (hs : List LinkSeen) (ss : List FeedSeen) → AllMatch hs ss → position p (joined_all hs ss) ≡ position p hs
  position_same hs ss all =
      let many : length (joined_all hs ss) ≡ length hs = joined_many hs ss all in
      rw (place_same hs ss all, many) refl

pub numbers_same : (hs : List LinkSeen) (ss : List FeedSeen) → AllMatch hs ss → numbers (joined_all hs ss) ≡ numbers hs
numbers_same = map_same number_of (λ h s. refl)

pub rises_same : (high : ℕ) (hs : List LinkSeen) (ss : List FeedSeen) → AllMatch hs ss → Rises 0 (numbers hs) high → Rises 0 (numbers (joined_all hs ss)) high
rises_same high hs ss all rises = subst (λ ns. Rises 0 ns high) (sym (numbers_same hs ss all)) rises

-- ---- a step of what is kept of the sessions

module _ (step : LinkSeen → LinkSeen) (same : (h : LinkSeen) (s : FeedSeen) → joined (step h) s ≡ step (joined h s)) where
  at_same : (number : ℕ) (h : LinkSeen) (s : FeedSeen) → joined (at_link number step h) s ≡ at_link number step (joined h s)
  at_same number h s = by (has_that number h)
    where
      by : (b : Bool) → joined (if b then step h else h) s ≡ (if b then step (joined h s) else joined h s)
      by true = same h s
      by false = refl

  pub halves_changed : (number : ℕ) (hs : List LinkSeen) (ss : List FeedSeen) → joined_all (map (at_link number step) hs) ss ≡ map (at_link number step) (joined_all hs ss)
  halves_changed number [] ss = refl
  halves_changed number (h ∷ hs) [] = refl
  halves_changed number (h ∷ hs) (s ∷ ss) = ap (λ l. l ∷ joined_all (map (at_link number step) hs) ss) (at_same number h s) ∙ ap (λ ls. at_link number step (joined h s) ∷ ls) (halves_changed number hs ss)

pub halves_match : (step : LinkSeen → LinkSeen) → ((h : LinkSeen) (s : FeedSeen) → Matches h s → Matches (step h) s) → (number : ℕ) (hs : List LinkSeen) (ss : List FeedSeen) → AllMatch hs ss
    → AllMatch (map (at_link number step) hs) ss
halves_match step kept number [] [] all = all
halves_match step kept number [] (s ∷ ss) all = all
halves_match step kept number (h ∷ hs) [] all = all
halves_match step kept number (h ∷ hs) (s ∷ ss) all = (by (has_that number h), halves_match step kept number hs ss all.1)
  where
    by : (b : Bool) → Matches (if b then step h else h) s
    by true = kept h s all.0
    by false = all.0

-- ---- a step of what all links are fed

module _ (g : FeedSeen → FeedSeen) where
  pub states_match : ((h : LinkSeen) (s : FeedSeen) → Matches h s → Matches h (g s)) → (hs : List LinkSeen) (ss : List FeedSeen) → AllMatch hs ss → AllMatch hs (map g ss)
  states_match kept [] [] all = all
  states_match kept [] (s ∷ ss) all = all
  states_match kept (h ∷ hs) [] all = all
  states_match kept (h ∷ hs) (s ∷ ss) all = (kept h s all.0, states_match kept hs ss all.1)

  -- where it holds of what is kept of each session
  module _ (Q : LinkSeen → Type 0) where
    pub states_changed : (step : LinkSeen → LinkSeen) → ((h : LinkSeen) (s : FeedSeen) → Q h → Matches h s → joined h (g s) ≡ step (joined h s))
        → (hs : List LinkSeen) (ss : List FeedSeen) → All Q hs → AllMatch hs ss → joined_all hs (map g ss) ≡ map step (joined_all hs ss)
    states_changed step is [] ss each all = refl
    states_changed step is (h ∷ hs) [] each all = absurd all
    states_changed step is (h ∷ hs) (s ∷ ss) each all =
        ap (λ l. l ∷ joined_all hs (map g ss)) (is h s (each 0 h (omega arith)) all.0)
        ∙ ap (λ ls. step (joined h s) ∷ ls) (states_changed step is hs ss (λ k d lt. each (suc k) d (omega arith)) all.1)

    sums_changed : (takes : LinkSeen → Bool) → ((h : LinkSeen) (s : FeedSeen) → Q h → Matches h s → (g s).put ≡ (if takes (joined h s) then one_more s.put else s.put))
        → (hs : List LinkSeen) (ss : List FeedSeen) → All Q hs → AllMatch hs ss → put_in (map g ss) ≡ min (sum_by put_of ss + length (filter takes (joined_all hs ss))) (2 ^ 64 - 1)
    sums_changed takes is [] [] each all = refl
    sums_changed takes is [] (s ∷ ss) each all = absurd all
    sums_changed takes is (h ∷ hs) [] each all = absurd all
    sums_changed takes is (h ∷ hs) (s ∷ ss) each all =
        let rest = sums_changed takes is hs ss (λ k d lt. each (suc k) d (omega arith)) all.1 in
        let here = is h s (each 0 h (omega arith)) all.0 in
        let sum = sum_by put_of (map g ss) in
        let before = sum_by put_of ss in
        let n = length (filter takes (joined_all hs ss)) in
        let top = 2 ^ 64 - 1 in
        let all_links = filter takes (joined_all (h ∷ hs) (s ∷ ss)) in
        let whole : sum_by put_of (s ∷ ss) ≡ s.put + before = sum_by-cons put_of s ss in
        ap (λ m. min m top) (sum_by-cons put_of (g s) (map g ss))
        ∙ ⊎_elim
        (λ (taken : takes (joined h s) ≡ true).
        let put : (g s).put ≡ min (s.put + 1) top = here ∙ ap (λ b. if b then one_more s.put else s.put) taken in
        let many : length all_links ≡ n + 1 = rw taken (omega arith) in
        ap (λ p. min (p + sum) top) put
        ∙ capped (s.put + 1) sum top
        ∙ more_first (s.put + 1) sum before n rest
        ∙ ap (λ m. min m top) (let same : s.put + 1 + (before + n) ≡ sum_by put_of (s ∷ ss) + length all_links = omega (arith, whole, many) in same))
        (λ (passed : takes (joined h s) ≡ false).
        let put : (g s).put ≡ s.put = here ∙ ap (λ b. if b then one_more s.put else s.put) passed in
        let many : length all_links ≡ n = rw passed refl in
        ap (λ p. min (p + sum) top) put
        ∙ more_first s.put sum before n rest
        ∙ ap (λ m. min m top) (let same : s.put + (before + n) ≡ sum_by put_of (s ∷ ss) + length all_links = omega (arith, whole, many) in same))
        (cases_Bool (takes (joined h s)))
      where
        -- a sum whose later part is known up to a counter's last value
        more_first : (a sum before n : ℕ) → min sum (2 ^ 64 - 1) ≡ min (before + n) (2 ^ 64 - 1) → min (a + sum) (2 ^ 64 - 1) ≡ min (a + (before + n)) (2 ^ 64 - 1)
        more_first a sum before n is = omega (arith, is)

    -- how many lines are put
    pub put_changed : (takes : LinkSeen → Bool) → ((h : LinkSeen) (s : FeedSeen) → Q h → Matches h s → (g s).put ≡ (if takes (joined h s) then one_more s.put else s.put))
        → (hs : List LinkSeen) (ss : List FeedSeen) → All Q hs → AllMatch hs ss → put_in (map g ss) ≡ more (length (filter takes (joined_all hs ss))) (put_in ss)
    put_changed takes is hs ss each all =
        sums_changed takes is hs ss each all ∙ sym (capped (sum_by put_of ss) (length (filter takes (joined_all hs ss))) (2 ^ 64 - 1))

pub any_half : (hs : List LinkSeen) → All (λ h. h ≡ h) hs
any_half hs = λ k d lt. refl

-- what was put is counted
pub counted_all : (hs : List LinkSeen) (ss : List FeedSeen) → joined_all hs (map counted ss) ≡ joined_all hs ss
counted_all [] ss = refl
counted_all (h ∷ hs) [] = refl
counted_all (h ∷ hs) (s ∷ ss) = ap (λ ls. joined h s ∷ ls) (counted_all hs ss)

pub counted_match : (h : LinkSeen) (s : FeedSeen) → Matches h s → Matches h (counted s)
counted_match h s m = record { link = m.link; inbound = m.inbound; alive = m.alive; limit = m.limit; feed = m.feed; me = m.me; many = m.many }

pub none_put : (ss : List FeedSeen) → put_in (map counted ss) ≡ 0
none_put ss = ap (λ n. min n (2 ^ 64 - 1)) (none ss)
  where
    none : (ss : List FeedSeen) → sum_by put_of (map counted ss) ≡ 0
    none [] = refl
    none (s ∷ ss) = let first = sum_by-cons put_of (counted s) (map counted ss) in let rest = none ss in omega (arith, first, rest)

-- nor do some of them count then
pub none_put_of : (p : FeedSeen → Bool) (ss : List FeedSeen) → put_in (filter p (map counted ss)) ≡ 0
none_put_of p ss = ap (λ n. min n (2 ^ 64 - 1)) (none ss)
  where
    none : (ss : List FeedSeen) → sum_by put_of (filter p (map counted ss)) ≡ 0
    none [] = refl
    none (s ∷ ss) =
        let rest = none ss in
        ⊎_elim
        (λ (stays : p (counted s) ≡ true). rw stays (let first = sum_by-cons put_of (counted s) (filter p (map counted ss)) in omega (arith, first, rest)))
        (λ (leaves : p (counted s) ≡ false). rw leaves rest)
        (cases_Bool (p (counted s)))

pub capped_put : (ss : List FeedSeen) → min (put_in ss + 0) (2 ^ 64 - 1) ≡ put_in ss
capped_put ss = capped (sum_by put_of ss) 0 (2 ^ 64 - 1) ∙ ap (λ n. min n (2 ^ 64 - 1)) (let same : sum_by put_of ss + 0 ≡ sum_by put_of ss = omega arith in same)

pub put_alone : (ss : List FeedSeen) → more (put_in ss) 0 ≡ put_in ss
put_alone ss = ap (λ n. min n (2 ^ 64 - 1)) (let same : 0 + put_in ss ≡ put_in ss + 0 = omega arith in same) ∙ capped_put ss

-- a step that puts no packet line
pub put_kept : (g : FeedSeen → FeedSeen) → ((h : LinkSeen) (s : FeedSeen) → Matches h s → (g s).put ≡ s.put) → (hs : List LinkSeen) (ss : List FeedSeen) → AllMatch hs ss → put_in (map g ss) ≡ put_in ss
put_kept g same hs ss all = ap (λ n. min n (2 ^ 64 - 1)) (sums hs ss all)
  where
    sums : (hs : List LinkSeen) (ss : List FeedSeen) → AllMatch hs ss → sum_by put_of (map g ss) ≡ sum_by put_of ss
    sums [] [] all = refl
    sums [] (s ∷ ss) all = absurd all
    sums (h ∷ hs) [] all = absurd all
    sums (h ∷ hs) (s ∷ ss) all =
        sum_by-cons put_of (g s) (map g ss) ∙ ap (λ n. n + sum_by put_of (map g ss)) (same h s all.0) ∙ ap (λ n. s.put + n) (sums hs ss all.1) ∙ sym (sum_by-cons put_of s ss)

-- ---- a link comes

pub joined_push : (hs : List LinkSeen) (ss : List FeedSeen) (h : LinkSeen) (s : FeedSeen) → AllMatch hs ss → joined_all (hs ++ h ∷ []) (ss ++ s ∷ []) ≡ joined_all hs ss ++ joined h s ∷ []
joined_push [] [] h s all = refl
joined_push [] (x ∷ ss) h s all = absurd all
joined_push (x ∷ hs) [] h s all = absurd all
joined_push (x ∷ hs) (y ∷ ss) h s all = ap (λ ls. joined x y ∷ ls) (joined_push hs ss h s all.1)

pub match_push : (hs : List LinkSeen) (ss : List FeedSeen) (h : LinkSeen) (s : FeedSeen) → AllMatch hs ss → Matches h s → AllMatch (hs ++ h ∷ []) (ss ++ s ∷ [])
match_push [] [] h s all new = (new, tt)
match_push [] (x ∷ ss) h s all new = absurd all
match_push (x ∷ hs) [] h s all new = absurd all
match_push (x ∷ hs) (y ∷ ss) h s all new = (all.0, match_push hs ss h s all.1 new)

pub put_push : (ss : List FeedSeen) (s : FeedSeen) → s.put ≡ 0 → put_in (ss ++ s ∷ []) ≡ put_in ss
put_push ss s none =
    let one : sum_by put_of (s ∷ []) ≡ 0 = sum_by-cons put_of s [] ∙ ap (λ n. n + 0) none in
    ap (λ n. min n (2 ^ 64 - 1)) (sum_by-append put_of ss (s ∷ []) ∙ (let same : sum_by put_of ss + sum_by put_of (s ∷ []) ≡ sum_by put_of ss = omega (arith, one) in same))

-- ---- links leave

module _ (ns : List ℕ) where
  left_same : (h : LinkSeen) (s : FeedSeen) → Matches h s → is_other ns s ≡ is_none_of ns h
  left_same h s m = ap (λ link. not (list_any (λ n. n == link) ns)) m.link

  pub joined_left : (hs : List LinkSeen) (ss : List FeedSeen) → AllMatch hs ss → joined_all (filter (is_none_of ns) hs) (filter (is_other ns) ss) ≡ filter (is_none_of ns) (joined_all hs ss)
  joined_left [] ss all = refl
  joined_left (h ∷ hs) [] all = absurd all
  joined_left (h ∷ hs) (s ∷ ss) all =
      let rest = joined_left hs ss all.1 in
      ap (λ b. joined_all (cond (is_none_of ns h) (h ∷ filter (is_none_of ns) hs) (filter (is_none_of ns) hs)) (cond b (s ∷ filter (is_other ns) ss) (filter (is_other ns) ss))) (left_same h s all.0)
      ∙ ⊎_elim
      (λ (stays : is_none_of ns h ≡ true). rw stays (ap (λ ls. joined h s ∷ ls) rest))
      (λ (leaves : is_none_of ns h ≡ false). rw leaves rest)
      (cases_Bool (is_none_of ns h))

  pub match_left : (hs : List LinkSeen) (ss : List FeedSeen) → AllMatch hs ss → AllMatch (filter (is_none_of ns) hs) (filter (is_other ns) ss)
  match_left [] [] all = all
  match_left [] (s ∷ ss) all = absurd all
  match_left (h ∷ hs) [] all = absurd all
  match_left (h ∷ hs) (s ∷ ss) all =
      let rest = match_left hs ss all.1 in
      subst (λ b. AllMatch (cond (is_none_of ns h) (h ∷ filter (is_none_of ns) hs) (filter (is_none_of ns) hs)) (cond b (s ∷ filter (is_other ns) ss) (filter (is_other ns) ss)))
      (sym (left_same h s all.0))
      (⊎_elim
      (λ (stays : is_none_of ns h ≡ true). rw stays (all.0, rest))
      (λ (leaves : is_none_of ns h ≡ false). rw leaves rest)
      (cases_Bool (is_none_of ns h)))

  pub put_left : (ss : List FeedSeen) → put_in ss ≡ 0 → put_in (filter (is_other ns) ss) ≡ 0
  put_left ss none = ap (λ n. min n (2 ^ 64 - 1)) (sums ss (nothing (sum_by put_of ss) none))
    where
      nothing : (n : ℕ) → min n (2 ^ 64 - 1) ≡ 0 → n ≡ 0
      nothing zero is = refl
      nothing (suc n) is = absurd (omega (arith, is))

      sums : (ss : List FeedSeen) → sum_by put_of ss ≡ 0 → sum_by put_of (filter (is_other ns) ss) ≡ 0
      sums [] is = refl
      sums (s ∷ ss) is =
          let whole : sum_by put_of (s ∷ ss) ≡ s.put + sum_by put_of ss = sum_by-cons put_of s ss in
          let first : s.put ≡ 0 = omega (arith, whole, is) in
          let rest = sums ss (omega (arith, whole, is)) in
          ⊎_elim
          (λ (stays : is_other ns s ≡ true). rw stays (let left = sum_by-cons put_of s (filter (is_other ns) ss) in let both : s.put + sum_by put_of (filter (is_other ns) ss) ≡ 0 = omega (arith, first, rest) in left ∙ both))
          (λ (leaves : is_other ns s ≡ false). rw leaves rest)
          (cases_Bool (is_other ns s))

-- ---- a step at one place

pub state_set : (hs : List LinkSeen) (ss : List FeedSeen) (i : ℕ) (h g : LinkSeen) (s t : FeedSeen) → i < length hs → AllMatch hs ss
    → joined_all (slice_set hs i g) (slice_set ss i t) ≡ slice_set (joined_all hs ss) i (joined g t)
state_set [] ss i h g s t lt all = absurd (omega arith)
state_set (x ∷ hs) [] i h g s t lt all = absurd all
state_set (x ∷ hs) (y ∷ ss) zero h g s t lt all = refl
state_set (x ∷ hs) (y ∷ ss) (suc i) h g s t lt all = ap (λ ls. joined x y ∷ ls) (state_set hs ss i h g s t (omega arith) all.1)

pub match_set : (hs : List LinkSeen) (ss : List FeedSeen) (i : ℕ) (g : LinkSeen) (t : FeedSeen) → AllMatch hs ss → Matches g t → AllMatch (slice_set hs i g) (slice_set ss i t)
match_set [] [] i g t all new = all
match_set [] (y ∷ ss) i g t all new = absurd all
match_set (x ∷ hs) [] i g t all new = absurd all
match_set (x ∷ hs) (y ∷ ss) zero g t all new = (new, all.1)
match_set (x ∷ hs) (y ∷ ss) (suc i) g t all new = (all.0, match_set hs ss i g t all.1 new)

pub put_set : (ss : List FeedSeen) (i : ℕ) (t : FeedSeen) → ((d : FeedSeen) → d ≡ get_or ss i d → t.put ≡ d.put) → put_in (slice_set ss i t) ≡ put_in ss
put_set ss i t same = ap (λ n. min n (2 ^ 64 - 1)) (sums ss i same)
  where
    sums : (ss : List FeedSeen) (i : ℕ) → ((d : FeedSeen) → d ≡ get_or ss i d → t.put ≡ d.put) → sum_by put_of (slice_set ss i t) ≡ sum_by put_of ss
    sums [] i same = refl
    sums (s ∷ ss) zero same = sum_by-cons put_of t ss ∙ ap (λ n. n + sum_by put_of ss) (same s refl) ∙ sym (sum_by-cons put_of s ss)
    sums (s ∷ ss) (suc i) same = sum_by-cons put_of s (slice_set ss i t) ∙ ap (λ n. s.put + n) (sums ss i same) ∙ sym (sum_by-cons put_of s ss)

-- ---- what is asked of all links

pub submitted_same : (from : Source) (hs : List LinkSeen) (ss : List FeedSeen) → AllMatch hs ss → submitted_from from (joined_all hs ss) ≡ submitted_from from hs
submitted_same (source.Link number) hs ss all = picked_same client_kept (λ h s. refl) false number hs ss all
submitted_same from hs ss all = refl

pub over_same : (hs : List LinkSeen) (ss : List FeedSeen) → AllMatch hs ss → map link_of (filter is_over ss) ≡ numbers (filter is_overfull (joined_all hs ss))
over_same [] [] all = refl
over_same [] (s ∷ ss) all = absurd all
over_same (h ∷ hs) [] all = absurd all
over_same (h ∷ hs) (s ∷ ss) all =
    let rest = over_same hs ss all.1 in
    ⊎_elim
    (λ (over : s.over ≡ true). rw over (ap (λ n. n ∷ map link_of (filter is_over ss)) all.0.link ∙ ap (λ ns. h.link ∷ ns) rest))
    (λ (under : s.over ≡ false). rw under rest)
    (cases_Bool s.over)

-- one more of those that are to be offered bytes, or not
ready_by : (ready : Bool) (link : LinkSeen) (number : ℕ) (ns : List ℕ) (before : List LinkSeen) → number ≡ link.link → ready ≡ is_ready link → ns ≡ numbers before
    → (if ready then ns ++ number ∷ [] else ns) ≡ numbers (before ++ cond (is_ready link) (link ∷ []) [])
ready_by true link number ns before same is so_far =
    ap (λ xs. xs ++ number ∷ []) so_far ∙ ap (λ n. numbers before ++ n ∷ []) same ∙ sym (map-append number_of before (link ∷ [])) ∙ ap (λ b. numbers (before ++ cond b (link ∷ []) [])) is
ready_by false link number ns before same is so_far =
    so_far ∙ ap numbers (sym (append-nil before)) ∙ ap (λ b. numbers (before ++ cond b (link ∷ []) [])) is

pub ready_more : (hs : List LinkSeen) (ss : List FeedSeen) (i : ℕ) (h : LinkSeen) (number : ℕ) (ready : Bool) (ns : List ℕ) → AllMatch hs ss → i < length hs → h ≡ get_or hs i h
    → number ≡ h.link → ((s : FeedSeen) → slice_get ss i ≡ Some s → ready ≡ is_ready (joined h s)) → ns ≡ numbers (filter is_ready (take i (joined_all hs ss)))
    → (if ready then ns ++ number ∷ [] else ns) ≡ numbers (filter is_ready (take (i + 1) (joined_all hs ss)))
ready_more hs ss i h number ready ns all lt at same is so_far =
    let many = as_many hs ss all in
    let found = state_at ss i (omega (arith, many)) in
    let link = joined h found.0 in
    let links = joined_all hs ss in
    let long = joined_many hs ss all in
    let within : i < length links = omega (arith, long) in
    let there : link ≡ get_or links i link = joined_at hs ss i h found.0 all lt at found.2 in
    ready_by ready link number ns (filter is_ready (take i links)) same (is found.0 found.1) so_far
    ∙ ap (λ (l : LinkSeen). numbers (filter is_ready (take i links) ++ cond (is_ready l) (l ∷ []) [])) there
    ∙ sym (ap numbers (filter_more is_ready links i link within))

pub ready_all : (hs : List LinkSeen) (ss : List FeedSeen) (i : ℕ) (ns : List ℕ) → AllMatch hs ss → length hs ≤ i → ns ≡ numbers (filter is_ready (take i (joined_all hs ss)))
    → ns ≡ numbers (filter is_ready (joined_all hs ss))
ready_all hs ss i ns all past is =
    let long = joined_many hs ss all in
    is ∙ ap (λ links. numbers (filter is_ready links)) (take_all i (joined_all hs ss) (omega (arith, long)))

-- one half that changes where it stands
pub half_changed : (hs : List LinkSeen) (ss : List FeedSeen) (i : ℕ) (h g : LinkSeen) → AllMatch hs ss → h ≡ get_or hs i h → ((s : FeedSeen) → Matches h s → Matches g s) → AllMatch (slice_set hs i g) ss
half_changed [] ss i h g all at kept = all
half_changed (x ∷ hs) [] i h g all at kept = absurd all
half_changed (x ∷ hs) (y ∷ ss) zero h g all at kept = (kept y (subst (λ l. Matches l y) (sym at) all.0), all.1)
half_changed (x ∷ hs) (y ∷ ss) (suc i) h g all at kept = (all.0, half_changed hs ss i h g all.1 at kept)

-- a link that brought bytes
pub brought_matches : (h g : LinkSeen) (s : FeedSeen) → g ≡ record h { last = g.last; held = g.held } → Matches h s → Matches g s
brought_matches h g s is m =
    subst (λ l. Matches l s) (sym is) (record { link = m.link; inbound = m.inbound; alive = m.alive; limit = m.limit; feed = m.feed; me = m.me; many = m.many })

pub others_same : (from : Source) (hs : List LinkSeen) (ss : List FeedSeen) → AllMatch hs ss → others_from from (joined_all hs ss) ≡ others_from from hs
others_same (source.Link number) hs ss all = flat_same (other_login number) (λ h s. refl) hs ss all
others_same from hs ss all = flat_same login_kept (λ h s. refl) hs ss all
