-- Links that are offered something, one after another: each differs from those behind it, and a send to one leaves what is left to another.
pub use Rattle.aprs_conf.proofs.ServedLemmas.{numbered_short}
use Rattle.std.proofs.Common.{◌≡◌, ℕ, zero, suc, ◌<◌, ◌==◌, true, false, List, [], ◌∷◌, length, drop, sym, ap, ◌∙◌, arith, get_or, refl}
use Rattle.std.proofs.Math.Seq.{drop-nil}
use Rattle.std.proofs.lemmas.Bool.{eqb-true, false_from_ne_true, or_right, true≢false}
use Rattle.aprs_base.specs.declared.events.Sent.{Sent}
use Rattle.aprs_base.specs.declared.events.Sent.TheVariants as sent
use Rattle.aprs_base.specs.declared.events.Happening.TheVariants as did
use Rattle.aprs_history.specs.Setting.{Setting}
use Rattle.aprs_history.specs.Trace.{is_member}
use Rattle.aprs_history.specs.Texts.{untaken}
use Rattle.aprs_history.specs.History.{History, trace_of}
use Rattle.aprs_history.proofs.NumberLemmas.{member_first}
use Rattle.server_core.specs.LinkSteps.{Rises}
use Rattle.server_core.proofs.WalkLemmas.{member_below}

pub left_by_other : (s : Setting) (h : History) (link k : ℕ) (bytes : List ℕ) (outcome : Sent) → (k == link) ≡ false → untaken s (trace_of s (did.Sent link bytes outcome ∷ h)) k ≡ untaken s (trace_of s h) k
unfolding trace_of
left_by_other s h link k bytes (sent.Took n) other = rw other refl
left_by_other s h link k bytes sent.Gone other = refl

pub member_differs : (link k : ℕ) (offers : List ℕ) → is_member link offers ≡ false → is_member k offers ≡ true → (k == link) ≡ false
member_differs link k offers none member =
    false_from_ne_true _ (λ is. let same : k ≡ link = eqb-true k link is in true≢false (sym member ∙ ap (λ n. is_member n offers) same ∙ none))

-- ---- numbers that rise differ

pub first_differs : (low high : ℕ) (ns : List ℕ) (i n : ℕ) (rest : List ℕ) → Rises low ns high → drop i ns ≡ n ∷ rest → is_member n rest ≡ false
first_differs low high [] i n rest rises is = cc (drop-nil {A = ℕ} i)
first_differs low high (x ∷ ns) zero n rest rises is =
    let first : x ≡ n = cc in
    let others : ns ≡ rest = cc in
    false_from_ne_true _ (λ member.
    let above = member_below x high ns n rises.1 (ap (is_member n) others ∙ member) in
    let lt = above.0 in absurd (omega arith))
first_differs low high (x ∷ ns) (suc i) n rest rises is = first_differs x high ns i n rest rises.1 is

pub member_at : (ns : List ℕ) (i d : ℕ) → i < length ns → is_member (get_or ns i d) ns ≡ true
member_at [] i d lt = absurd (omega arith)
member_at (n ∷ ns) zero d lt = member_first n ns
member_at (n ∷ ns) (suc i) d lt = or_right (n == get_or ns i d) _ (member_at ns i d (omega arith))

pub same_at : {X : Type 0} (xs : List X) (n : ℕ) (d e : X) → n < length xs → get_or xs n d ≡ get_or xs n e
same_at [] n d e lt = absurd (omega arith)
same_at (x ∷ xs) zero d e lt = refl
same_at (x ∷ xs) (suc n) d e lt = same_at xs n d e (omega arith)
