-- A key as one text: a number for the length of its source, one for that of its destination, and then its source, its destination and its body.
use Rattle.std.specs.Prelude.{ℕ, List, [], ◌∷◌, ◌++◌, length, take, drop}
use Rattle.dupe_window.specs.Keys.{Key}

abbrev pub packed : Key → List ℕ
packed key = length key.source ∷ length key.dest ∷ (key.source ++ (key.dest ++ key.body))

-- the key with source and destination of these lengths
abbrev pub divided : ℕ → ℕ → List ℕ → Key
divided source dest text = record { source = take source text; dest = take dest (drop source text); body = drop dest (drop source text) }

-- the key of such a text
abbrev pub unpacked : List ℕ → Key
unpacked [] = divided 0 0 []
unpacked (source ∷ []) = divided 0 0 []
unpacked (source ∷ dest ∷ text) = divided source dest text
