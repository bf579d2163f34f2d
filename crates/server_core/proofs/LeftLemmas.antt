-- The links that are left once those of some numbers have gone.
use Rattle.std.proofs.Common.{◌≡◌, ℕ, ◌==◌, ◌||◌, Bool, true, false, not, List, [], ◌∷◌, filter, get_or, suc, refl, ap, ◌∙◌, arith, cond, ⊎_elim}
use Rattle.std.specs.List.{All}
use Rattle.std.proofs.Math.Bool.{or-false}
use Rattle.std.proofs.lemmas.Bool.{cases_Bool}
use Rattle.aprs_history.specs.Stands.{LinkSeen}
use Rattle.aprs_history.specs.Trace.{is_member}
use Rattle.heard_routing.specs.Heard.{is_among}
use Rattle.served_links.specs.Links.{Rises, is_another, is_none_of, numbers}
use Rattle.served_links.proofs.AskedLemmas.{listed_at}
use Rattle.server_core.proofs.MemberLemmas.{eqb_turned}

member_among : (n : ℕ) (ns : List ℕ) → is_member n ns ≡ is_among n ns
member_among n [] = refl
member_among n (m ∷ ns) = ap (λ b. b || is_member n ns) (eqb_turned m n) ∙ ap (λ b. (n == m) || b) (member_among n ns)

-- two tests that agree on all links leave the same
agree : (p q : LinkSeen → Bool) (links : List LinkSeen) → All (λ l. p l ≡ q l) links → filter p links ≡ filter q links
agree p q [] same = refl
agree p q (l ∷ links) same =
    let rest = agree p q links (λ k d lt. same (suc k) d (omega arith)) in
    ap (λ b. cond b (l ∷ filter p links) (filter p links)) (same 0 l (omega arith))
    ∙ ⊎_elim
    (λ (stays : q l ≡ true). rw stays (ap (λ ls. l ∷ ls) rest))
    (λ (leaves : q l ≡ false). rw leaves rest)
    (cases_Bool (q l))

-- those that pass a test have gone, by their numbers
pub passing_left : (p : LinkSeen → Bool) (high : ℕ) (links : List LinkSeen) → Rises 0 (numbers links) high → filter (is_none_of (numbers (filter p links))) links ≡ filter (λ l. not (p l)) links
passing_left p high links rises =
    agree (is_none_of (numbers (filter p links))) (λ l. not (p l)) links
    (λ k d lt. ap not (member_among (get_or links k d).link (numbers (filter p links)) ∙ listed_at p 0 high links k d (get_or links k d) rises lt refl))

-- the link of one number has gone
pub one_left : (number : ℕ) (links : List LinkSeen) → filter (is_none_of (number ∷ [])) links ≡ filter (is_another number) links
one_left number links = agree (is_none_of (number ∷ [])) (is_another number) links (λ k d lt. ap not (or-false (number == (get_or links k d).link) ∙ eqb_turned number (get_or links k d).link))
