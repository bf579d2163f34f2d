-- A position in either form: the first byte tells which.
use Rattle.std.proofs.Common.{◌≡◌, ℕ, inl, inr, List, get_or, Some, ◌∙◌}
use Rattle.std.proofs.lemmas.Bool.{cond-false, cond-true}
use Rattle.std.specs.Char.{is_ascii_digit}
use Rattle.aprs_base.specs.declared.packets.Place.{Place}
use Rattle.aprs_position.specs.Compressed.{compressed_place}
use Rattle.aprs_position.specs.Either.{either_place}
use Rattle.aprs_position.specs.Grammar.{BeginsPosition}
use Rattle.aprs_position.specs.Plain.{plain_place}
use Rattle.aprs_position.proofs.CompressedGrammar.{compressed_again, compressed_first, compressed_read}
use Rattle.aprs_position.proofs.PlainGrammar.{plain_again, plain_first, plain_read}
use Rattle.aprs_position.proofs.Steps.{chosen}

pub either_read : (text : List ℕ) (place : Place) → either_place text ≡ Some place → BeginsPosition text place
unfolding either_place
either_read text place h =
    elim (chosen (is_ascii_digit (get_or text 0 0)) (plain_place text) (compressed_place text) (Some place) h) [
      | inl plain ↦ inl (plain_read text place plain.1)
      | inr compressed ↦ inr (compressed_read text place compressed.1)
    ]

pub either_again : (text : List ℕ) (place : Place) → BeginsPosition text place → either_place text ≡ Some place
unfolding either_place
either_again text place (inl plain) =
    let is = plain_again text place plain in
    cond-true _ _ _ (plain_first text place is) ∙ is
either_again text place (inr compressed) =
    let is = compressed_again text place compressed in
    cond-false _ _ _ (compressed_first text place is) ∙ is
