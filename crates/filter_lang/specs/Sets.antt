-- Sets of bytes below 128, as the rising list of their members, and the classes of a packet (aprs-is.net, Server-side
-- Filter Commands, s, q and t).
use Rattle.std.specs.Prelude.{ℕ, ◌==◌, ◌+◌, ◌++◌, bit_and, ◌&&◌, not, length, Option, Some, None, Bool, List, [], ◌∷◌, filter, if◌then◌else◌}
use Rattle.std.specs.Int.{bit_at}
use Rattle.std.specs.List.{list_all, list_any, range_with_len}
use Rattle.std.specs.Str.{byte}

abbrev pub is_set : ℕ → ℕ → Bool
is_set bits b = bit_at bits b == 1

-- the bytes whose bit is set
unfoldable pub members_of : ℕ → List ℕ
members_of bits = filter (is_set bits) (range_with_len 0 128)

abbrev pub has : List ℕ → ℕ → Bool
has bytes b = list_any (λ c. c == b) bytes

-- the set of the bytes of a list
unfoldable pub set_of : List ℕ → List ℕ
set_of bytes = filter (has bytes) (range_with_len 0 128)

-- the class letters, each with its bit in a mask (aprs-is.net, Server-side Filter Commands, t)
abbrev pub classes : List (ℕ × ℕ)
classes = (byte "p", 1) ∷ (byte "o", 2) ∷ (byte "i", 4) ∷ (byte "m", 8) ∷ (byte "q", 16) ∷ (byte "s", 32) ∷ (byte "t", 64) ∷ (byte "u", 128) ∷ (byte "n", 256) ∷ (byte "w", 512) ∷ []

abbrev pub is_class : ℕ → Bool
is_class letter = list_any (λ class. class.0 == letter) classes

-- the mask of the letters
abbrev pub mask_over : List (ℕ × ℕ) → List ℕ → ℕ
mask_over [] letters = 0
mask_over (class ∷ more) letters = (if has letters class.0 then class.1 else 0) + mask_over more letters

-- one or more letters of the table
unfoldable pub mask_of : List ℕ → Option ℕ
mask_of letters = if list_all is_class letters && not (length letters == 0) then Some (mask_over classes letters) else None

-- the letters of a mask, in the order of the table
abbrev pub mask_text : List (ℕ × ℕ) → ℕ → List ℕ
mask_text [] mask = []
mask_text (class ∷ more) mask = (if bit_and mask class.1 == 0 then [] else class.0 ∷ []) ++ mask_text more mask

unfoldable pub letters_of : ℕ → List ℕ
letters_of mask = mask_text classes mask
