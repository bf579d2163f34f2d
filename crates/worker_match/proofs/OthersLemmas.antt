-- A link that takes the stretches of a run between its own packets.
use Rattle.std.proofs.Common.{◌≡◌, ℕ, zero, suc, ◌+◌, ◌-◌, ◌<◌, ◌≤◌, ◌^◌, true, false, List, [], ◌∷◌, ◌++◌, length, take, drop, get_or, ap, sym, ◌∙◌, cond, arith, append_assoc}
use Rattle.std.specs.List.{flat_map}
use Rattle.std.proofs.Math.Seq.{drop-nil, take-add}
use Rattle.worker_match.specs.Seen.{FeedSeen, OfferSeen, came_all}
use Rattle.worker_match.specs.Walk.{is_from, walked}
use Rattle.worker_match.specs.Runs.{IsRunOf, RunSeen, fresh, suits_others, with_run}
use Rattle.worker_match.proofs.AlongLemmas.{IsAlong, along, along_more}
use Rattle.worker_match.proofs.RunLemmas.{line_of_others, others_suited}
use Rattle.worker_match.proofs.TakenLemmas.{both_taken}
use Rattle.worker_match.proofs.WalkLemmas.{left_is}

drop_twice : {X : Type 0} (from to : ℕ) (xs : List X) → from ≤ to → drop (to - from) (drop from xs) ≡ drop to xs
drop_twice zero to xs le = ap (λ n. drop n xs) (let same : to - 0 ≡ to = omega arith in same)
drop_twice (suc from) zero xs le = absurd (omega arith)
drop_twice (suc from) (suc to) [] le = drop-nil (suc to - suc from)
drop_twice (suc from) (suc to) (x ∷ xs) le =
    ap (λ n. drop n (drop from xs)) (let same : suc to - suc from ≡ to - from = omega arith in same) ∙ drop_twice from to xs (omega arith)

-- the stretch so far, and after it the lines of the others that are left, leave of the link what all packets leave of it
pub record IsAround (offers : List OfferSeen) (lines : List (List ℕ)) (start link : FeedSeen) (i from place : ℕ) : Type 0 where
  pub along : IsAlong offers lines i place
  pub within : from ≤ place
  pub so_far : length link.queue.lines ≤ link.queue.limit → link.put < 2 ^ 64
      → with_run (take (place - from) (drop from lines) ++ flat_map (line_of_others start.link) (came_all (drop i offers))) link ≡ walked (came_all offers) start

pub around : (offers : List OfferSeen) (run : RunSeen) (link : FeedSeen) → IsRunOf (came_all offers) run → suits_others link run ≡ true → IsAround offers run.lines link link 0 0 0
around offers run link is suit = record { along = along offers run is; within = omega arith; so_far = λ few counted. others_suited (came_all offers) run link is suit few counted }

module _ (offers : List OfferSeen) (lines : List (List ℕ)) (start link : FeedSeen) (i from place : ℕ) (offer : OfferSeen) (is : IsAround offers lines start link i from place)
    (lt : i < length offers) (at : offer ≡ get_or offers i offer) (step : ℕ)
    (counted : step ≡ length (fresh offer.dupe offer.packet.line)) where
  abbrev later : List (List ℕ)
  later = flat_map (line_of_others start.link) (came_all (drop (i + 1) offers))

  others_left : flat_map (line_of_others start.link) (came_all (drop i offers)) ≡ cond (is_from start.link offer.packet.from) [] (fresh offer.dupe offer.packet.line) ++ later
  others_left = ap (λ left. flat_map (line_of_others start.link) (came_all left)) (left_is offers i offer lt at)

  next : IsAlong offers lines (i + 1) (place + step) × (take (place + step - place) (drop place lines) ≡ fresh offer.dupe offer.packet.line)
  next = along_more offers lines i place offer is.along lt at step counted

  -- the link's own packet
  pub around_own : (new : FeedSeen) → is_from start.link offer.packet.from ≡ true → new ≡ with_run (take (place - from) (drop from lines)) link
      → length link.queue.lines ≤ link.queue.limit → link.put < 2 ^ 64 → IsAround offers lines start new (i + 1) (place + step) (place + step)
  around_own new own taken few under = record {
    along = next.0;
    within = omega arith;
    so_far = λ _ _.
        ap (λ n. with_run (take n (drop (place + step) lines) ++ later) new) (let none : place + step - (place + step) ≡ 0 = omega arith in none)
        ∙ ap (with_run later) taken
        ∙ sym (both_taken link few under (take (place - from) (drop from lines)) later)
        ∙ ap (λ left. with_run (take (place - from) (drop from lines) ++ left) link)
        (sym (others_left ∙ ap (λ b. cond b [] (fresh offer.dupe offer.packet.line) ++ later) own))
        ∙ is.so_far few under;
  }

  -- another's
  pub around_other : is_from start.link offer.packet.from ≡ false → IsAround offers lines start link (i + 1) from (place + step)
  around_other other =
      let within = is.within in
      let sum : place + step - from ≡ place - from + (place + step - place) = omega arith in
      record {
        along = next.0;
        within = omega arith;
        so_far = λ few under.
            ap (λ all. with_run (all ++ later) link)
            (ap (λ n. take n (drop from lines)) sum ∙ take-add (place - from) (place + step - place) (drop from lines)
            ∙ ap (λ left. take (place - from) (drop from lines) ++ take (place + step - place) left) (drop_twice from place lines within)
            ∙ ap (λ more. take (place - from) (drop from lines) ++ more) next.1)
            ∙ ap (λ all. with_run all link) (append_assoc (take (place - from) (drop from lines)) (fresh offer.dupe offer.packet.line) later)
            ∙ ap (λ left. with_run (take (place - from) (drop from lines) ++ left) link)
            (sym (others_left ∙ ap (λ b. cond b [] (fresh offer.dupe offer.packet.line) ++ later) other))
            ∙ is.so_far few under;
      }
