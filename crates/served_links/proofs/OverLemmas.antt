-- A link that is overfull stays as it is.
use Rattle.std.proofs.Common.{◌≡◌, ℕ, Bool, true, false, List, refl, Option, Some, None, if◌then◌else◌}
use Rattle.filter_eval.specs.declared.seen.Seen.{Seen}
use Rattle.aprs_history.specs.Stands.{LinkSeen}
use Rattle.served_links.specs.Changes.{has_room, with_text, with_seen}

pub text_after : (line : List ℕ) (link : LinkSeen) → link.over ≡ true → link ≡ with_text line link
unfolding with_text
text_after line link over = rw over refl

-- an overfull link takes no copy
pub copy_over : (line : List ℕ) (link : LinkSeen) (wanted : Bool) → link.over ≡ true → link ≡ (if wanted then with_text line link else link)
copy_over line link true over = text_after line link over
copy_over line link false over = refl

-- whether a line fits, by the queue that it goes into
pub fits_not_after : (link : LinkSeen) → link.over ≡ true → false ≡ has_room link
fits_not_after link over = rw over refl

-- an overfull link sees nothing
pub over_unseen : (call : List ℕ) (told : Option Seen) (link : LinkSeen) → link.over ≡ true → link ≡ with_seen call told link
over_unseen call None link over = refl
over_unseen call (Some seen) link over = rw over refl
