-- Which links are the ends of pairs: each is one of one pair.
use Rattle.std.specs.Prelude.{◌≡◌, ◌≢◌, ℕ, Some, ◌⊎◌, slice_get}
use Rattle.net_history.specs.Network.{End, JoinedSeen, NetSeen}

-- it is one of the pair's two ends
abbrev pub IsEndOf : End → JoinedSeen → Type 0
IsEndOf end joined = (end ≡ joined.low) ⊎ (end ≡ joined.high)

-- no link is an end of two pairs
abbrev pub Apart : NetSeen → Type 0
Apart n = (i j : ℕ) (a b : JoinedSeen) → slice_get n.pairs i ≡ Some (Some a) → slice_get n.pairs j ≡ Some (Some b) → i ≢ j → (end : End) → IsEndOf end a → IsEndOf end b → ⊥

-- the two ends of a pair are two links
abbrev pub HasTwoEnds : NetSeen → Type 0
HasTwoEnds n = (i : ℕ) (joined : JoinedSeen) → slice_get n.pairs i ≡ Some (Some joined) → joined.low ≢ joined.high
