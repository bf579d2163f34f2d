-- Counts add up.
use Rattle.std.proofs.Common.{◌≡◌, ℕ, ◌+◌, Bool, cond, refl, arith}
use Rattle.std.proofs.lemmas.List.Sums.{sum_by-append}
use Rattle.aprs_base.specs.declared.events.Happening.{Happening}
use Rattle.status_page.specs.Counting.{at_most, is_cast, is_datagram, is_joined, is_opened, received_by, taken_by}
use Rattle.status_page.specs.Laws.{CountsGoOn, CountsInAnyOrder}

by_pieces : (start whole first later : ℕ) → whole ≡ first + later → at_most (start + whole) ≡ at_most (at_most (start + first) + later)
by_pieces start whole first later is = omega (arith, is)

turned : (start one other first later : ℕ) → one ≡ first + later → other ≡ later + first → at_most (start + one) ≡ at_most (start + other)
turned start one other first later is turns = omega (arith, is, turns)

abbrev one : (Happening → Bool) → Happening → ℕ
one test x = cond (test x) 1 0

pub counts_go_on : CountsGoOn
counts_go_on counts first later =
    let more = λ (size : Happening → ℕ) (start : ℕ). by_pieces start _ _ _ (sum_by-append size first later) in
    rw (more (one is_opened) counts.opened, more (one is_joined) counts.joined, more received_by counts.received, more (one is_datagram) counts.datagrams, more taken_by counts.taken, more (one is_cast) counts.casts) refl

pub counts_in_any_order : CountsInAnyOrder
counts_in_any_order counts first later =
    let either = λ (size : Happening → ℕ) (start : ℕ). turned start _ _ _ _ (sum_by-append size first later) (sum_by-append size later first) in
    rw (either (one is_opened) counts.opened, either (one is_joined) counts.joined, either received_by counts.received, either (one is_datagram) counts.datagrams, either taken_by counts.taken, either (one is_cast) counts.casts) refl
