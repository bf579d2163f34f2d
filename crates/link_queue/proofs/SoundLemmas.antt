-- What is true of each queue, and what its calls keep of it.
use Rattle.std.proofs.Common.{◌≡◌, ℕ, ◌+◌, ◌-◌, ◌≤◌, List, ◌++◌, length, drop, subst, arith, length-append, length-drop}
use Rattle.link_queue.specs.Lines.{AreShort, IsWithinFirst, queued, text_bytes}
use Rattle.link_queue.specs.Queues.{IsSound}
use Rattle.link_queue.proofs.LineLemmas.{all_append, begun_more, queued_begun, queued_counted, queued_fewer, queued_short, text_more, text_short}

module _ (lines : List (List ℕ)) (offset pending limit : ℕ) (sound : IsSound lines offset pending limit) where
  pub push_fits : (more : List (List ℕ)) → AreShort more → length lines + length more ≤ limit → pending + length (text_bytes more) ≤ 1000000
  push_fits more all room =
      let short = text_short lines sound.short in
      let size = text_short more all in
      let counted = sound.counted in
      let limited = sound.limited in
      omega arith

  pub push_sound : (more : List (List ℕ)) → AreShort more → length lines + length more ≤ limit → IsSound (lines ++ more) offset (pending + length (text_bytes more)) limit
  push_sound more all room =
      let text = text_more lines more in
      let counted = sound.counted in
      let size = length-append lines more in
      record {
        begun = begun_more lines more offset pending sound.counted sound.begun;
        counted = omega arith;
        short = all_append lines more sound.short all;
        few = omega arith;
        limited = sound.limited;
      }

  pub pending_is : length (drop offset (text_bytes lines)) ≡ pending
  pending_is =
      let size = length-drop offset (text_bytes lines) in
      let counted = sound.counted in
      omega arith

  pub taken_fits : (n : ℕ) → n ≤ pending → offset + n ≤ 1000000
  taken_fits n le =
      let short = text_short lines sound.short in
      let counted = sound.counted in
      let few = sound.few in
      let limited = sound.limited in
      omega arith

  pub taken_sound : (n left room : ℕ) (rest : List (List ℕ)) → n ≤ pending → queued lines (offset + n) ≡ record { lines = rest; offset = left } → room ≡ limit →
      IsSound rest left (pending - n) room
  taken_sound n left room rest le is same =
      let counted = sound.counted in
      let few = sound.few in
      let limited = sound.limited in
      let fewer = subst (λ q. length q.lines ≤ length lines) is (queued_fewer lines (offset + n)) in
      record {
        begun = subst (λ q. IsWithinFirst q.lines q.offset) is (queued_begun lines (offset + n));
        counted = subst (λ q. q.offset + (pending - n) ≡ length (text_bytes q.lines)) is (queued_counted lines (offset + n) (pending - n) (omega arith));
        short = subst (λ q. AreShort q.lines) is (queued_short lines (offset + n) sound.short);
        few = omega arith;
        limited = omega arith;
      }
