-- The lines that a downlink is sent, each in a datagram of its own.
use Rattle.std.specs.Prelude.{◌≡◌, ℕ, ◌+◌, List, [], ◌∷◌, length}
use Rattle.aprs_base.specs.declared.events.Happening.TheVariants as did
use Rattle.aprs_base.specs.declared.events.Sent.TheVariants as sent
use Rattle.aprs_history.specs.History.{History}
use Rattle.aprs_history.specs.Wired.{first_down, on_wire}
use Rattle.server_core.specs.Meaning.{CoreMeaning, Stands, setting_of}

-- how many bytes they have
abbrev pub bytes_in : List (List ℕ) → ℕ
bytes_in [] = 0
bytes_in (line ∷ lines) = length line + bytes_in lines

-- the link takes them whole, in order
abbrev pub with_lines : (link : ℕ) → List (List ℕ) → History → History
with_lines link [] history = history
with_lines link (line ∷ lines) history = with_lines link lines (did.Sent link line (sent.Took (length line)) ∷ history)

-- the wire shows each of them as a cast to the downlink of that number
abbrev pub with_casts : (number : ℕ) → List (List ℕ) → History → History
with_casts number [] wired = wired
with_casts number (line ∷ lines) wired = with_casts number lines (did.Cast (first_down + number) line ∷ wired)

-- the core stands after what the wire shows as this
abbrev pub StandsAsShown : CoreMeaning → (wired : History) → Type 0
StandsAsShown core wired = (h : History) × Stands core h × (on_wire (setting_of core.conf) h ≡ wired)
