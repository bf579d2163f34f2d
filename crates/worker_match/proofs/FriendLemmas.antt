-- Where the calls of terms were last seen, as a loop over them goes on.
use Rattle.std.proofs.Common.{◌≡◌, ℕ, zero, suc, ◌+◌, ◌<◌, ◌≤◌, min, ◌||◌, Bool, true, false, List, [], ◌∷◌, length, take, get_or, slice_get, slice_set, Option, Some, refl, ap, ◌∙◌, arith, add-one, cond}
use Rattle.filter_lang.specs.Terms.{TermSeen}
use Rattle.filter_lang.specs.declared.terms.What.{What}
use Rattle.filter_lang.specs.declared.terms.What.TheVariants as what
use Rattle.filter_eval.specs.declared.seen.Seen.{Seen}
use Rattle.worker_match.specs.Walk.{friend_seen, friends_seen, has_naming, is_naming, names}

module _ (call : List ℕ) (seen : Seen) where
  seen_at : (terms : List TermSeen) (friends : List (Option Seen)) (i : ℕ) (x : TermSeen) (y new : Option Seen) → i < length terms → i < length friends
      → new ≡ friend_seen call seen (get_or terms i x) (get_or friends i y)
      → slice_set (friends_seen call seen (take i terms) friends) i new ≡ friends_seen call seen (take (suc i) terms) friends
  seen_at [] friends i x y new lt within is = absurd (omega arith)
  seen_at (t ∷ terms) [] i x y new lt within is = absurd (omega arith)
  seen_at (t ∷ terms) (f ∷ friends) zero x y new lt within is = ap (λ z. z ∷ friends) is
  seen_at (t ∷ terms) (f ∷ friends) (suc i) x y new lt within is =
      ap (λ rest. friend_seen call seen t f ∷ rest) (seen_at terms friends i x y new (omega arith) (omega arith) is)

  get_unseen : (terms : List TermSeen) (friends : List (Option Seen)) (i : ℕ) (d : Option Seen) → get_or (friends_seen call seen (take i terms) friends) i d ≡ get_or friends i d
  get_unseen [] friends zero d = refl
  get_unseen [] friends (suc i) d = refl
  get_unseen (t ∷ terms) friends zero d = refl
  get_unseen (t ∷ terms) [] (suc i) d = refl
  get_unseen (t ∷ terms) (f ∷ friends) (suc i) d = get_unseen terms friends i d

  -- one term more
  pub seen_more : (terms : List TermSeen) (friends now : List (Option Seen)) (i : ℕ) (x : TermSeen) (y new : Option Seen) → i < length terms → i < length friends
      → now ≡ friends_seen call seen (take i terms) friends → x ≡ get_or terms i x → y ≡ get_or now i y → new ≡ friend_seen call seen x y
      → slice_set now i new ≡ friends_seen call seen (take (i + 1) terms) friends
  seen_more terms friends now i x y new lt within so_far at_x at_y is =
      let there : y ≡ get_or friends i y = at_y ∙ ap (λ rest. get_or rest i y) so_far ∙ get_unseen terms friends i y in
      rw add-one (ap (λ rest. slice_set rest i new) so_far
      ∙ seen_at terms friends i x y new lt within (is ∙ ap (friend_seen call seen x) there ∙ ap (λ z. friend_seen call seen z (get_or friends i y)) at_x))

  -- all terms that have a friend
  pub seen_all : (terms : List TermSeen) (friends : List (Option Seen)) (i : ℕ) → min (length terms) (length friends) ≤ i
      → friends_seen call seen (take i terms) friends ≡ friends_seen call seen terms friends
  seen_all [] friends zero past = refl
  seen_all [] friends (suc i) past = refl
  seen_all (t ∷ terms) [] zero past = refl
  seen_all (t ∷ terms) [] (suc i) past = refl
  seen_all (t ∷ terms) (f ∷ friends) zero past = absurd (omega arith)
  seen_all (t ∷ terms) (f ∷ friends) (suc i) past = ap (λ rest. friend_seen call seen t f ∷ rest) (seen_all terms friends i (omega arith))

-- each friend by its term, and as many as before
pub seen_each : (call : List ℕ) (seen : Seen) (terms : List TermSeen) (friends : List (Option Seen)) (i : ℕ) (term : TermSeen) (friend : Option Seen)
    → slice_get terms i ≡ Some term → slice_get friends i ≡ Some friend → slice_get (friends_seen call seen terms friends) i ≡ Some (friend_seen call seen term friend)
seen_each call seen [] friends zero term friend at_term at_friend = absurd (cc)
seen_each call seen [] friends (suc i) term friend at_term at_friend = absurd (cc)
seen_each call seen (t ∷ terms) [] zero term friend at_term at_friend = absurd (cc)
seen_each call seen (t ∷ terms) [] (suc i) term friend at_term at_friend = absurd (cc)
seen_each call seen (t ∷ terms) (f ∷ friends) zero term friend at_term at_friend =
    let one : t ≡ term = cc in
    let two : f ≡ friend = cc in
    rw (one, two) refl
seen_each call seen (t ∷ terms) (f ∷ friends) (suc i) term friend at_term at_friend = seen_each call seen terms friends i term friend at_term at_friend

pub seen_many : (call : List ℕ) (seen : Seen) (terms : List TermSeen) (friends : List (Option Seen)) → length (friends_seen call seen terms friends) ≡ length friends
seen_many call seen [] friends = refl
seen_many call seen (t ∷ terms) [] = refl
seen_many call seen (t ∷ terms) (f ∷ friends) = ap suc (seen_many call seen terms friends)

-- ---- terms that ask for no call's position

unnamed : (call : List ℕ) (asked : What) → is_naming asked ≡ false → names call asked ≡ false
unnamed call (what.Range lat lon km) is = refl
unnamed call (what.Prefix texts) is = refl
unnamed call (what.Buddy texts) is = refl
unnamed call (what.Object texts) is = refl
unnamed call (what.Class mask) is = refl
unnamed call (what.ClassNear mask named km) is = absurd (cc)
unnamed call (what.Symbol pri alt over) is = refl
unnamed call (what.Digi texts) is = refl
unnamed call (what.Entry texts) is = refl
unnamed call (what.Group texts) is = refl
unnamed call (what.Dest texts) is = refl
unnamed call (what.Friend named km) is = absurd (cc)
unnamed call (what.Mine km) is = refl
unnamed call (what.Area north west south east) is = refl
unnamed call (what.Construct letters gates) is = refl

neither : (a b : Bool) → (a || b) ≡ false → (a ≡ false) × (b ≡ false)
neither true b is = absurd (cc)
neither false b is = (refl, is)

-- nothing is seen of them
pub none_seen : (call : List ℕ) (seen : Seen) (terms : List TermSeen) (friends : List (Option Seen)) → has_naming terms ≡ false → friends_seen call seen terms friends ≡ friends
none_seen call seen [] friends is = refl
none_seen call seen (t ∷ terms) [] is = refl
none_seen call seen (t ∷ terms) (f ∷ friends) is =
    let apart = neither (is_naming t.what) (has_naming terms) is in
    ap (λ b. cond b (Some seen) f ∷ friends_seen call seen terms friends) (unnamed call t.what apart.0)
    ∙ ap (λ rest. f ∷ rest) (none_seen call seen terms friends apart.1)
