-- Lists of what lines were found to be.
use Rattle.std.proofs.Common.{◌≡◌, ℕ, ◌+◌, ◌<◌, List, [], ◌∷◌, ◌++◌, Result, Ok, Err, IfOk, map, length, get_or, take, refl, ap, subst, ◌∙◌}
use Rattle.std.specs.List.{All, AllZip, Contains, flat_map}
use Rattle.std.specs.Prelude.{MatchResult}
use Rattle.std.specs.declared.alloc.AllocError.{AllocError}
use Rattle.std.specs.declared.alloc.Global.{Global}
use Rattle.std.specs.declared.vec.Vec.{Vec}
use Rattle.std.proofs.lemmas.List.{take_more}
use Rattle.std.proofs.lemmas.List.Elements.{All-cons, All-nil}
use Rattle.std.proofs.lemmas.Slice.Zip.{all_zipped_more}
use Rattle.rayon.proofs.ListFacts.{AllZip-append}
use Rattle.parsed_lines.specs.Lines.{IsParsed, IsSound, parsed_of}
use Rattle.parsed_lines.specs.Pieces.{joined}
use Rattle.parsed_lines.specs.declared.parsing.Parsed.{Parsed}

pub all_sound : (lines : List (List ℕ)) (parsed : List Parsed) → AllZip IsParsed lines parsed → All IsSound parsed
all_sound [] [] h = All-nil IsSound
all_sound (line ∷ lines) (p ∷ parsed) h = All-cons IsSound p parsed h.0.1 (all_sound lines parsed h.1)
all_sound _ _ h = absurd h

pub each_parsed : (lines : List (List ℕ)) (parsed : List Parsed) → AllZip IsParsed lines parsed → parsed ≡ map parsed_of lines
each_parsed [] [] h = refl
each_parsed (line ∷ lines) (p ∷ parsed) h = ap (λ q. q ∷ parsed) h.0.0 ∙ ap (λ ps. parsed_of line ∷ ps) (each_parsed lines parsed h.1)
each_parsed _ _ h = absurd h

-- the next line is parsed
pub one_more_parsed : (lines : List (List ℕ)) (i : ℕ) (line : List ℕ) (parsed : List Parsed) (p : Parsed) → i < length lines → line ≡ get_or lines i line
    → AllZip IsParsed (take i lines) parsed → IsParsed line p → AllZip IsParsed (take (i + 1) lines) (parsed ++ p ∷ [])
one_more_parsed lines i line parsed p less is earlier last =
    rw (take_more lines i line less, ← is) (all_zipped_more IsParsed (take i lines) parsed line p earlier last)

-- a piece was parsed, or memory was wanting
abbrev pub IsPiece : List (List ℕ) → Result (Vec Parsed Global) AllocError → Type 0
IsPiece lines result = IfOk result (λ parsed. AllZip IsParsed lines parsed.items)

-- pieces that were parsed are, side by side, what all the lines are
pub pieces_parsed : (pieces : List (List (List ℕ))) (found : List (Vec Parsed Global)) → AllZip IsPiece pieces (map Ok found)
    → AllZip IsParsed (flat_map (λ piece. piece) pieces) (joined found)
pieces_parsed [] [] h = tt
pieces_parsed (piece ∷ pieces) (parsed ∷ found) h =
    AllZip-append IsParsed piece (flat_map (λ piece. piece) pieces) parsed.items (joined found) h.0 (pieces_parsed pieces found h.1)
pieces_parsed _ _ h = absurd h

-- pieces that were collected are, side by side, what all the lines are
pub collected_parsed : (pieces : List (List (List ℕ))) (results : List (Result (Vec Parsed Global) AllocError))
    (collected : Result (Vec (Vec Parsed Global) Global) AllocError) → AllZip IsPiece pieces results
    → MatchResult collected (λ c. (found : List (Vec Parsed Global)) × (results ≡ map Ok found) × (c.items ≡ found)) (λ e. Contains results (Err e))
    → IfOk collected (λ c. AllZip IsParsed (flat_map (λ piece. piece) pieces) (joined c.items))
collected_parsed pieces results (Ok c) each h = rw h.2 (pieces_parsed pieces h.0 (subst (AllZip IsPiece pieces) h.1 each))
collected_parsed pieces results (Err e) each h = tt
