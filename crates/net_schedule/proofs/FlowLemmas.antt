-- What is on its way between the ends of pairs, while no round comes.
use Rattle.std.proofs.Common.{◌≡◌, ℕ, zero, suc, List, [], ◌∷◌, ◌++◌, refl, sym, ap, ◌∙◌, subst, Option, Some, None}
use Rattle.std.specs.Prelude.{slice_get}
use Rattle.std.specs.Bool.{⊤}
use Rattle.net_history.specs.Places.{Each}
use Rattle.std.specs.Option.{option_map}
use Rattle.net_history.specs.Network.{End, NetSeen, ServerSeen, brought_at, changed_at, number_of, taken_at}
use Rattle.net_history.proofs.BetweenLemmas.{none_some}
use Rattle.net_history.proofs.GrowthLemmas.{AllGrow, Ends, HasEnd, HasEnds}
use Rattle.net_history.proofs.PlaceLemmas.{some_same}
use Rattle.net_schedule.specs.Running.{WayKept, joined_of, joins_of}
use Rattle.net_schedule.specs.Standing.{IsOnItsWay, brought_in, taken_in}

-- ---- all elements, and each by its place

pub all_places : {X : Type 0} (P : X → Type 0) (xs : List X) → Each P xs → (i : ℕ) (x : X) → slice_get xs i ≡ Some x → P x
all_places P [] all i x is = absurd (none_some x is)
all_places P (y ∷ xs) all zero x is = subst P (some_same y x is) all.0
all_places P (y ∷ xs) all (suc i) x is = all_places P xs all.1 i x is

pub places_all : {X : Type 0} (P : X → Type 0) (xs : List X) → ((i : ℕ) (x : X) → slice_get xs i ≡ Some x → P x) → Each P xs
places_all P [] each = tt
places_all P (y ∷ xs) each = (each 0 y refl, places_all P xs (λ i x is. each (suc i) x is))

-- ---- the ends of the pairs that are joined

abbrev pub HasItsEnds : List ServerSeen → Option WayKept → Type 0
HasItsEnds servers None = ⊤
HasItsEnds servers (Some way) = HasEnds servers (joined_of way)

-- where a way stands, its pair is joined
pub way_joins : (ways : List (Option WayKept)) (i : ℕ) (way : WayKept) → slice_get ways i ≡ Some (Some way) → slice_get (joins_of ways) i ≡ Some (Some (joined_of way))
way_joins [] i way is = absurd (none_some (Some way) is)
way_joins (w ∷ ways) zero way is = ap (λ o. Some (option_map joined_of o)) (some_same w (Some way) is)
way_joins (w ∷ ways) (suc i) way is = way_joins ways i way is

pub have_ends : (n : NetSeen) (ways : List (Option WayKept)) → joins_of ways ≡ n.pairs → Ends n → Each (HasItsEnds n.servers) ways
have_ends n ways joins ends = places_all (HasItsEnds n.servers) ways (λ i way is. of i way is)
  where
    of : (i : ℕ) (way : Option WayKept) → slice_get ways i ≡ Some way → HasItsEnds n.servers way
    of i None is = tt
    of i (Some way) is = ends i (joined_of way) (ap (λ pairs. slice_get pairs i) (sym joins) ∙ way_joins ways i way is)

-- ---- nothing changes on the way

-- what was brought to the ends of a pair, or taken there, is the same
abbrev pub IsSame : (b t b' t' : End → List ℕ) → Option WayKept → Type 0
IsSame b t b' t' None = ⊤
IsSame b t b' t' (Some way) = (b' way.high ≡ b way.high) × (t' way.low ≡ t way.low) × (b' way.low ≡ b way.low) × (t' way.high ≡ t way.high)

pub same_way : (b t b' t' : End → List ℕ) (way : Option WayKept) → IsSame b t b' t' way → IsOnItsWay b t way → IsOnItsWay b' t' way
same_way b t b' t' None same flows = tt
same_way b t b' t' (Some way) same flows = (ap (λ bytes. bytes ++ way.up) same.0 ∙ flows.0 ∙ sym same.1, ap (λ bytes. bytes ++ way.down) same.2 ∙ flows.1 ∙ sym same.3)

pub same_ways : (b t b' t' : End → List ℕ) (ways : List (Option WayKept)) → Each (IsSame b t b' t') ways → Each (IsOnItsWay b t) ways → Each (IsOnItsWay b' t') ways
same_ways b t b' t' [] same flows = tt
same_ways b t b' t' (way ∷ ways) same flows = (same_way b t b' t' way same.0 flows.0, same_ways b t b' t' ways same.1 flows.1)

-- the links of pairs are brought nothing
pub same_brought : (before after : NetSeen) (end other : End) → AllGrow before.servers after.servers → HasEnd before.servers end other → brought_in after end ≡ brought_in before end
same_brought before after end other grow has =
    let s = has.0 in
    let u = grow.on end.server s has.1 in
    ap (λ o. brought_at o (number_of end)) u.1 ∙ u.2.same end.place other has.2 ∙ ap (λ o. brought_at o (number_of end)) (sym has.1)

-- a change of one server that keeps its history
pub same_taken : (f : ServerSeen → ServerSeen) → ((s : ServerSeen) → (f s).history ≡ s.history) → (i j link : ℕ) (servers : List ServerSeen)
    → taken_at (slice_get (changed_at f i servers) j) link ≡ taken_at (slice_get servers j) link
same_taken f keeps i j link [] = refl
same_taken f keeps zero zero link (s ∷ servers) = ap (λ h. Rattle.aprs_history.specs.Headline.taken_bytes h link) (keeps s)
same_taken f keeps zero (suc j) link (s ∷ servers) = refl
same_taken f keeps (suc i) zero link (s ∷ servers) = refl
same_taken f keeps (suc i) (suc j) link (s ∷ servers) = same_taken f keeps i j link servers

-- a step in which nothing is taken, and no link of a pair is brought anything
pub quiet : (before after : NetSeen) (ways : List (Option WayKept)) → AllGrow before.servers after.servers → ((end : End) → taken_in after end ≡ taken_in before end) → Each (HasItsEnds before.servers) ways
    → Each (IsOnItsWay (brought_in before) (taken_in before)) ways → Each (IsOnItsWay (brought_in after) (taken_in after)) ways
quiet before after ways grow taken ends flows =
    same_ways (brought_in before) (taken_in before) (brought_in after) (taken_in after) ways (all_same ways ends) flows
  where
    one : (way : Option WayKept) → HasItsEnds before.servers way → IsSame (brought_in before) (taken_in before) (brought_in after) (taken_in after) way
    one None ends = tt
    one (Some way) ends = (
      same_brought before after way.high way.low grow ends.1,
      taken way.low,
      same_brought before after way.low way.high grow ends.0,
      taken way.high,
    )

    all_same : (ways : List (Option WayKept)) → Each (HasItsEnds before.servers) ways → Each (IsSame (brought_in before) (taken_in before) (brought_in after) (taken_in after)) ways
    all_same [] ends = tt
    all_same (way ∷ ways) ends = (one way ends.0, all_same ways ends.1)
