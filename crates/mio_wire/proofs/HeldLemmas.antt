-- Bytes that are left are those of a link that is there.
use Rattle.std.proofs.Common.{◌≡◌, ℕ, zero, suc, ◌<◌, ◌==◌, not, Bool, true, false, cond, Some, Option, None, List, [], ◌∷◌, length, get_or, drop, refl, sym, ap, arith, length-drop}
use Rattle.std.specs.List.{Contains, slice_get}
use Rattle.std.specs.Option.{IfSome, OnSome, option_map}
use Rattle.std.proofs.lemmas.Bool.Decides.{nat_tests}
use Rattle.mio_wire.specs.Linked.{dropped, numbers}
use Rattle.mio_wire.specs.Unread.{Brought, IsHeld, forgotten}
use Rattle.mio_wire.specs.declared.links.Link.{Link}

contains_first : (n x : ℕ) (ns : List ℕ) → n ≡ x → Contains (n ∷ ns) x
contains_first n x ns same = (0, omega arith, same)

contains_later : (n x : ℕ) (ns : List ℕ) → Contains ns x → Contains (n ∷ ns) x
contains_later n x ns there = (suc there.0, omega (arith, there.1), there.2)

pub contains_link : {S : Type 0} → (links : List (Link S)) (place : ℕ) (link : Link S) → place < length links → link ≡ get_or links place link → Contains (numbers links) link.number
contains_link [] place link lt at = absurd (omega arith)
contains_link {S} (l ∷ links) zero link lt at = contains_first l.number link.number (numbers links) (ap (λ (k : Link S). k.number) (sym at))
contains_link (l ∷ links) (suc place) link lt at = contains_later l.number link.number (numbers links) (contains_link links place link (omega arith) at)

pub contains_got : (ns : List ℕ) (place x : ℕ) → slice_get ns place ≡ Some x → Contains ns x
contains_got [] place x at = absurd cc
contains_got (n ∷ ns) zero x at = contains_first n x ns cc
contains_got (n ∷ ns) (suc place) x at = contains_later n x ns (contains_got ns place x at)

pub contains_at : {S : Type 0} → (links : List (Link S)) (place number : ℕ) → option_map (λ l. l.number) (slice_get links place) ≡ Some number → Contains (numbers links) number
contains_at [] place number at = absurd cc
contains_at (l ∷ links) zero number at = contains_first l.number number (numbers links) cc
contains_at (l ∷ links) (suc place) number at = contains_later l.number number (numbers links) (contains_at links place number at)

pub found_there : {S : Type 0} → (links : List (Link S)) (number : ℕ) (r : Option ℕ) → IfSome r (λ place. option_map (λ l. l.number) (slice_get links place) ≡ Some number) → OnSome r (Contains (numbers links) number)
found_there links number None found = tt
found_there links number (Some place) found = contains_at links place number found

contains_kept : (link x n : ℕ) (ns : List ℕ) (kept : Bool) → not (n == link) ≡ kept → (x == link) ≡ false → n ≡ x → Contains (cond kept (n ∷ dropped link ns) (dropped link ns)) x
contains_kept link x n ns true is other same = contains_first n x (dropped link ns) same
contains_kept link x n ns false is other same = absurd (grind (arith, nat_tests))

contains_either : (x n : ℕ) (ns : List ℕ) (kept : Bool) → Contains ns x → Contains (cond kept (n ∷ ns) ns) x
contains_either x n ns true there = contains_later n x ns there
contains_either x n ns false there = there

contains_dropped_at : (link x : ℕ) (ns : List ℕ) (k : ℕ) → (x == link) ≡ false → k < length ns → get_or ns k x ≡ x → Contains (dropped link ns) x
contains_dropped_at link x [] k other lt at = absurd (omega arith)
contains_dropped_at link x (n ∷ ns) zero other lt at = contains_kept link x n ns (not (n == link)) refl other at
contains_dropped_at link x (n ∷ ns) (suc k) other lt at = contains_either x n (dropped link ns) (not (n == link)) (contains_dropped_at link x ns k other (omega arith) at)

held_but : (link : ℕ) (b : Brought) (ns : List ℕ) (same : Bool) → (b.link == link) ≡ same → IsHeld b ns → 0 < length (cond same [] b.left) → Contains (dropped link ns) b.link
unfolding IsHeld
held_but link b ns true is held left = absurd (omega arith)
held_but link b ns false is held left = let there = held left in contains_dropped_at link b.link ns there.0 is there.1 there.2

pub held_at : (b : Brought) (ns : List ℕ) → Contains ns b.link → IsHeld b ns
unfolding IsHeld
held_at b ns there = λ left. there

-- a link is let go with what it brought
pub held_without : (link : ℕ) (b : Brought) (ns : List ℕ) → IsHeld b ns → IsHeld (forgotten link b) (dropped link ns)
unfolding IsHeld
held_without link b ns held = λ left. held_but link b ns (b.link == link) refl held left

-- what is left after an event is held as before
pub held_rest : (n : ℕ) (b : Brought) (ns : List ℕ) → IsHeld b ns → IsHeld (record b { left = drop n b.left }) ns
unfolding IsHeld
held_rest n b ns held = λ left. held (omega (arith, length-drop n b.left))

held_still : (b : Brought) (ns : List ℕ) (same : Bool) → IsHeld b ns → 0 < length (cond same [] b.left) → Contains ns b.link
unfolding IsHeld
held_still b ns true held left = absurd (omega arith)
held_still b ns false held left = held left

-- of bytes that are let go none are left
pub held_forgotten : (link : ℕ) (b : Brought) (ns : List ℕ) → IsHeld b ns → IsHeld (forgotten link b) ns
unfolding IsHeld
held_forgotten link b ns held = λ left. held_still b ns (b.link == link) held left
