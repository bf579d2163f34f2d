-- A walk along the run of the packets that are met.
use Rattle.std.proofs.Common.{◌≡◌, ℕ, suc, ◌+◌, ◌-◌, ◌<◌, ◌≤◌, ◌^◌, true, false, List, [], ◌∷◌, ◌++◌, length, take, drop, get_or, inl, inr, OnOk, Result, Ok, Err, ap, sym, ◌∙◌, subst, cond, arith}
use Rattle.std.specs.List.{flat_map}
use Rattle.std.proofs.lemmas.Bool.{cases_Bool}
use Rattle.std.proofs.lemmas.List.{drop_more, length-drop}
use Rattle.worker_match.specs.Seen.{FeedSeen, OfferSeen, came_all}
use Rattle.worker_match.specs.Walk.{wants, with_copy, with_packet}
use Rattle.worker_match.specs.Runs.{IsRunOf, RunSeen, fresh, line_of, with_run}
use Rattle.worker_match.proofs.TakenLemmas.{one_taken}
use Rattle.worker_match.proofs.WalkLemmas.{left_is}

-- the run's line of a wanted packet
pub placed_taken : {T E : Type 0} (result : Result T E) (lines : List (List ℕ)) (offer : OfferSeen) (link new : FeedSeen)
    → lines ≡ fresh offer.dupe offer.packet.line → offer.dupe ≡ false → wants offer link ≡ true → OnOk result (new ≡ with_run lines link)
    → OnOk result (length link.queue.lines ≤ link.queue.limit) → OnOk result (link.put < 2 ^ 64) → OnOk result (new ≡ with_packet offer link)
placed_taken (Err e) lines offer link new is fresh_is wanted taken few counted = tt
placed_taken (Ok x) lines offer link new is fresh_is wanted taken few counted =
    taken
    ∙ ap (λ xs. with_run xs link) (is ∙ ap (λ b. fresh b offer.packet.line) fresh_is)
    ∙ one_taken link few counted offer.packet.line
    ∙ ap (λ b. cond b (with_copy offer.packet.line link) link) (sym wanted)

-- what is left of the run are the lines of the packets that are left
pub record IsAlong (offers : List OfferSeen) (lines : List (List ℕ)) (i place : ℕ) : Type 0 where
  pub left : drop place lines ≡ flat_map line_of (came_all (drop i offers))
  pub few : place ≤ i
  pub within : place ≤ length lines

pub along : (offers : List OfferSeen) (run : RunSeen) → IsRunOf (came_all offers) run → IsAlong offers run.lines 0 0
along offers run is = record { left = is.lines; few = omega arith; within = omega arith }

-- the first line that is left
one_line : (lines : List (List ℕ)) (place : ℕ) (line : List ℕ) (rest : List (List ℕ)) → drop place lines ≡ line ∷ rest
    → (place + 1 ≤ length lines) × (drop (place + 1) lines ≡ rest)
one_line lines place line rest is =
    let size : length lines - place ≡ suc (length rest) = sym (length-drop place lines) ∙ ap length is in
    let lt : place < length lines = omega arith in
    let split : line ∷ rest ≡ get_or lines place [] ∷ drop (place + 1) lines = sym is ∙ drop_more lines place [] lt in
    (omega arith, (let tail : drop (place + 1) lines ≡ rest = cc in tail))

-- a packet's lines are the next of the run
module _ (offers : List OfferSeen) (lines : List (List ℕ)) (i place : ℕ) (offer : OfferSeen) (so_far : IsAlong offers lines i place) (lt : i < length offers)
    (at : offer ≡ get_or offers i offer) where
  abbrev rest : List (List ℕ)
  rest = flat_map line_of (came_all (drop (i + 1) offers))

  lines_left : drop place lines ≡ fresh offer.dupe offer.packet.line ++ rest
  lines_left = so_far.left ∙ ap (λ left. flat_map line_of (came_all left)) (left_is offers i offer lt at)

  pub along_more : (step : ℕ) → step ≡ length (fresh offer.dupe offer.packet.line)
      → IsAlong offers lines (i + 1) (place + step) × (take (place + step - place) (drop place lines) ≡ fresh offer.dupe offer.packet.line)
  along_more step counted =
      let few = so_far.few in
      let within = so_far.within in
      elim (cases_Bool offer.dupe) [
        | inl dupe ↦
            let none : step ≡ 0 = counted ∙ ap (λ b. length (fresh b offer.packet.line)) dupe in
            let none_there : drop place lines ≡ rest = lines_left ∙ ap (λ b. fresh b offer.packet.line ++ rest) dupe in
            subst (λ n. IsAlong offers lines (i + 1) (place + n) × (take (place + n - place) (drop place lines) ≡ fresh offer.dupe offer.packet.line)) (sym none) (
              record { left = ap (λ n. drop n lines) (let same : place + 0 ≡ place = omega arith in same) ∙ none_there; few = omega arith; within = omega arith },
              ap (λ n. take n (drop place lines)) (let same : place + 0 - place ≡ 0 = omega arith in same) ∙ ap (λ b. fresh b offer.packet.line) (sym dupe),
            )
        | inr fresh_is ↦
            let one : step ≡ 1 = counted ∙ ap (λ b. length (fresh b offer.packet.line)) fresh_is in
            let one_there : drop place lines ≡ offer.packet.line ∷ rest = lines_left ∙ ap (λ b. fresh b offer.packet.line ++ rest) fresh_is in
            let after = one_line lines place offer.packet.line rest one_there in
            subst (λ n. IsAlong offers lines (i + 1) (place + n) × (take (place + n - place) (drop place lines) ≡ fresh offer.dupe offer.packet.line)) (sym one) (
              record { left = after.1; few = omega arith; within = after.0 },
              ap (λ n. take n (drop place lines)) (let one_more : place + 1 - place ≡ 1 = omega arith in one_more) ∙ ap (take 1) one_there ∙ ap (λ b. fresh b offer.packet.line) (sym fresh_is),
            )
      ]
