-- How lines arrive: what comes of a text, and what is said on a link.
use Rattle.std.specs.Prelude.{◌≡◌, ℕ, ◌==◌, List, [], ◌∷◌, ◌++◌, map, Some, if◌then◌else◌, ⊤}
use Rattle.std.specs.List.{All}
use Rattle.aprs_base.specs.Bytes.{IsLine}
use Rattle.aprs_base.specs.Cuts.{cuts_of}
use Rattle.aprs_base.specs.declared.cutting.Cut.{Cut}
use Rattle.aprs_base.specs.declared.cutting.Cut.TheVariants as cut
use Rattle.aprs_base.specs.Outside.{new_link}
use Rattle.aprs_base.specs.declared.events.Event.{Event}
use Rattle.aprs_base.specs.declared.events.Event.TheVariants as event
use Rattle.aprs_base.specs.declared.events.Happening.TheVariants as did
use Rattle.link_queue.specs.Lines.{text_bytes}
use Rattle.aprs_history.specs.Setting.{Setting}
use Rattle.aprs_history.specs.Trace.{Trace, Opened, Said, is_from}
use Rattle.aprs_history.specs.Links.{brought_by}
use Rattle.aprs_history.specs.History.{History, trace_of}

-- what has come of a text is cut into some first lines of it, each whole, and into all of them where nothing is left
pub record Arrives (lines : List (List ℕ)) (come left : List ℕ) : Type 0 where
  pub there : List (List ℕ)
  pub more : List (List ℕ)
  pub split : lines ≡ there ++ more
  pub cuts : cuts_of come ≡ map cut.Line there
  pub whole : left ≡ [] → more ≡ []

-- lines arrive whole wherever the bytes of their text are cut
abbrev pub LinesArriveWhole : Type 0
LinesArriveWhole = (lines : List (List ℕ)) (come left : List ℕ) → All IsLine lines → text_bytes lines ≡ come ++ left → Arrives lines come left

-- what was said on a link since its opening, in order
abbrev pub said_on : Trace → ℕ → List Cut
said_on [] link = []
said_on (Opened door admission opened from ∷ earlier) link = if link == opened then [] else said_on earlier link
said_on (Said from said verdict ∷ earlier) link = if is_from link from then said_on earlier link ++ said ∷ [] else said_on earlier link
said_on (entry ∷ earlier) link = said_on earlier link

-- the lines of what it brought are said on a link, and nothing else
abbrev pub LinksSayWhatTheyBrought : Type 0
LinksSayWhatTheyBrought = (setting : Setting) (history : History) (link : ℕ) → said_on (trace_of setting history) link ≡ cuts_of (brought_by (trace_of setting history) link)

-- ---- what came for a link

abbrev pub bytes_for : ℕ → Event → List ℕ
bytes_for link (event.Bytes to bytes) = if link == to then bytes else []
bytes_for link e = []

-- all bytes that came for it, in order
abbrev pub came_to : History → ℕ → List ℕ
came_to [] link = []
came_to (did.Event e ∷ earlier) link = came_to earlier link ++ bytes_for link e
came_to (x ∷ earlier) link = came_to earlier link

-- no bytes came for it before it was opened
abbrev pub NoneCameEarly : History → ℕ → Type 0
NoneCameEarly [] link = ⊤
NoneCameEarly (did.Event e ∷ earlier) link = NoneCameEarly earlier link × (new_link e ≡ Some link → came_to earlier link ≡ [])
NoneCameEarly (x ∷ earlier) link = NoneCameEarly earlier link

-- what a link brought is a beginning of what came for it: nothing is taken of what comes once it has ended
abbrev pub LinksBringWhatCame : Type 0
LinksBringWhatCame = (setting : Setting) (history : History) (link : ℕ) → NoneCameEarly history link
    → (rest : List ℕ) × (came_to history link ≡ brought_by (trace_of setting history) link ++ rest)
