-- Numbers of links that are served, and their places.
use Rattle.std.proofs.Common.{◌≡◌, ℕ, suc, ◌+◌, Bool, true, false, List, [], ◌∷◌, refl, sym, ap, ◌∙◌, arith, ⊎_elim, cond, nat_le, ◌||◌, filter, ◌==◌}
use Rattle.std.specs.List.{insert, prefix_len}
use Rattle.std.proofs.lemmas.Bool.{cases_Bool}
use Rattle.aprs_history.specs.Trace.{is_member, placed}
use Rattle.aprs_history.specs.Stands.{LinkSeen}
use Rattle.server_core.specs.LinkSteps.{AreServed}
use Rattle.served_links.specs.Links.{has_number, numbers}

-- the numbers of links are served, also where only some of them are taken
pub served_filter : (p : LinkSeen → Bool) (links : List LinkSeen) → AreServed (numbers (filter p links)) links
served_filter p [] n member = member
served_filter p (x ∷ links) n member =
    ⊎_elim
    (λ here. ap (λ b. b || has_number n links) here)
    (λ other. ap (λ b. b || has_number n links) other ∙ served_filter p links n (⊎_elim
    (λ kept. sym (ap (λ b. b || is_member n (numbers (filter p links))) other) ∙ sym (ap (λ b. is_member n (numbers (cond b (x ∷ filter p links) (filter p links)))) kept) ∙ member)
    (λ left. sym (ap (λ b. is_member n (numbers (cond b (x ∷ filter p links) (filter p links)))) left) ∙ member)
    (cases_Bool (p x))))
    (cases_Bool (x.link == n))

-- whether a number is a link's shows in the numbers alone
pub served_numbers : (n : ℕ) (links : List LinkSeen) → has_number n links ≡ is_member n (numbers links)
served_numbers n [] = refl
served_numbers n (x ∷ links) = ap (λ b. (x.link == n) || b) (served_numbers n links)

-- a number in its place is a number put after those that aren't above it
pub placed_after : (n : ℕ) (ms : List ℕ) → insert ms (prefix_len (λ m. nat_le m n) ms) n ≡ placed n ms
placed_after n [] = refl
placed_after n (m ∷ ms) =
    ⊎_elim
    (λ (below : nat_le m n ≡ true).
    let one_more : 1 + prefix_len (λ x. nat_le x n) ms ≡ suc (prefix_len (λ x. nat_le x n) ms) = omega arith in
    rw (below, one_more) (ap (λ ns. m ∷ ns) (placed_after n ms)))
    (λ (above : nat_le m n ≡ false). rw above refl)
    (cases_Bool (nat_le m n))
