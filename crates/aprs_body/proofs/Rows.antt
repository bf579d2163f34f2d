-- Bodies of the public standard's kinds, computed by the definition.
use Rattle.std.proofs.Common.{◌≡◌, ℕ, ℤ, pos, negsuc, Bool, true, false, List, Some, None, refl}
use Rattle.std.specs.Prelude.{codes}
use Rattle.std.specs.declared.option.Option.{Option}
use Rattle.std.specs.Option.{option_map}
use Rattle.aprs_base.specs.declared.packets.Body.{Body}
use Rattle.aprs_position.specs.Either.{either_place}
use Rattle.aprs_position.specs.Plain.{mark_after, plain_place, written_of}
use Rattle.aprs_position.specs.Written.{finest, place_with}
use Rattle.aprs_position.specs.Compressed.{compressed_place}
use Rattle.mic_e.specs.MicE.{place_of}
use Rattle.aprs_body.specs.Bodies.{body_of}

-- a body's class, place and names
abbrev parts : Body → ℕ × Option (ℤ × ℤ) × Option (List ℕ) × Bool × Option (List ℕ)
parts body = (body.class, option_map (λ p. (p.lat, p.lon)) body.place, body.name, body.live, body.to)

abbrev home : Option (ℤ × ℤ)
home = Some (pos 49058333, negsuc 72029165)

-- each body by what it says
rows :
    -- object
    (parts (body_of (codes "APRS") (codes ";LEADER   *092345z4903.50N/07201.75W>")) ≡ (2, home, Some (codes "LEADER"), true, None))
    -- object with a fine mark
    × (parts (body_of (codes "APRS") (codes ";LEADER   *092345z4903.50N/07201.75W>!W52!")) ≡ (2, Some (pos 49058416, negsuc 72029199), Some (codes "LEADER"), true, None))
    -- item
    × (parts (body_of (codes "APRS") (codes ")AID #2!4903.50N/07201.75WA")) ≡ (4, home, Some (codes "AID #2"), true, None))
    -- warning
    × (parts (body_of (codes "APRS") (codes ":NWS-WARN :x")) ≡ (264, None, None, false, Some (codes "NWS-WARN")))
    -- definitions
    × (parts (body_of (codes "APRS") (codes ":N0CALL-1 :PARM.A")) ≡ (64, None, None, false, Some (codes "N0CALL-1")))
    -- weather
    × (parts (body_of (codes "APRS") (codes "@092345z4903.50N/07201.75W_")) ≡ (513, home, None, false, None))
    -- bad position
    × (parts (body_of (codes "APRS") (codes "!bad")) ≡ (1, None, None, false, None))
    -- short object
    × (parts (body_of (codes "APRS") (codes ";short")) ≡ (0, None, None, false, None))
    -- telemetry
    × (parts (body_of (codes "APRS") (codes "T#001")) ≡ (64, None, None, false, None))
    -- lone mark
    × (parts (body_of (codes "APRS") (codes "`")) ≡ (1, None, None, false, None))
unfolding body_of either_place plain_place written_of mark_after finest place_with compressed_place place_of
rows = (refl, refl, refl, refl, refl, refl, refl, refl, refl, refl)
