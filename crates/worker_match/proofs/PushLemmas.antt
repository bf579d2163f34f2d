-- A line more in a link's queue, or the link over.
use Rattle.std.proofs.Common.{◌≡◌, ℕ, true, false, List, length, refl, eq-eqb}
use Rattle.std.proofs.lemmas.Bool.{eqb-true, false_from_ne_true}
use Rattle.link_queue.specs.Queues.{QueueSeen, with_line}
use Rattle.worker_match.specs.Seen.{FeedSeen}
use Rattle.worker_match.specs.Walk.{is_full, one_more, with_copy, with_text}

pub not_full : (queue : QueueSeen) → (length queue.lines ≡ queue.limit → ⊥) → is_full queue ≡ false
not_full queue room = false_from_ne_true _ (λ full. room (eqb-true (length queue.lines) queue.limit full))

pub full_is : (queue : QueueSeen) → length queue.lines ≡ queue.limit → is_full queue ≡ true
full_is queue full = eq-eqb (length queue.lines) queue.limit full

module _ (line : List ℕ) (inside now : FeedSeen) (queue : QueueSeen) (is : inside ≡ now) where
  pub text_fits : queue ≡ with_line line inside.queue → (length inside.queue.lines ≡ inside.queue.limit → ⊥) → record inside { queue = queue } ≡ with_text line now
  unfolding with_text
  text_fits more room = rw (← is, not_full inside.queue room, more) refl

  pub text_over : queue ≡ inside.queue → length inside.queue.lines ≡ inside.queue.limit → record inside { queue = queue; over = true } ≡ with_text line now
  unfolding with_text
  text_over same full = rw (← is, full_is inside.queue full, same) refl

  pub copy_fits : (put : ℕ) → put ≡ one_more inside.put → queue ≡ with_line line inside.queue → (length inside.queue.lines ≡ inside.queue.limit → ⊥)
      → record inside { queue = queue; put = put } ≡ with_copy line now
  unfolding with_copy
  copy_fits put counted more room = rw (← is, not_full inside.queue room, more, counted) refl

  pub copy_over : queue ≡ inside.queue → length inside.queue.lines ≡ inside.queue.limit → record inside { queue = queue; over = true } ≡ with_copy line now
  unfolding with_copy
  copy_over same full = rw (← is, full_is inside.queue full, same) refl
