-- A position in either form (APRS Protocol Reference 1.0.1, Position Reports): a digit begins the plain form.
use Rattle.std.specs.Prelude.{ℕ, List, slice_index, if◌then◌else◌}
use Rattle.std.specs.Char.{is_ascii_digit}
use Rattle.std.specs.declared.option.Option.{Option}
use Rattle.aprs_base.specs.declared.packets.Place.{Place}
use Rattle.aprs_position.specs.Compressed.{compressed_place}
use Rattle.aprs_position.specs.Plain.{plain_place}

-- the place that a text begins with
unfoldable pub either_place : List ℕ → Option Place
either_place text = if is_ascii_digit (slice_index text 0) then plain_place text else compressed_place text
