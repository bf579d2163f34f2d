-- What a line is.
use Rattle.std.specs.Prelude.{◌≡◌, ℕ, List, Result, Ok, Err, ⊤}
use Rattle.aprs_base.specs.PartsSeen.{PartsSeen}
use Rattle.aprs_body.specs.Bodies.{body_of}
use Rattle.parsed_lines.specs.declared.parsing.Parsed.{Parsed}
use Rattle.parsed_lines.specs.declared.parsing.Parsed.TheVariants.{Good, Bad}
use Rattle.tnc2_line.specs.Packet.{IsParts, parts_of}
use Rattle.tnc2_line.specs.declared.reading.LineFault.{LineFault}

-- what a text is by its parts, or by the fault that it has in place of them
abbrev pub parsed_by : Result PartsSeen LineFault → Parsed
parsed_by (Ok parts) = Good parts (body_of parts.dest parts.body)
parsed_by (Err fault) = Bad fault

abbrev pub parsed_of : List ℕ → Parsed
parsed_of line = parsed_by (parts_of line)

-- the parts of a packet are parts of some text
abbrev pub IsSound : Parsed → Type 0
IsSound (Good parts body) = IsParts parts
IsSound (Bad fault) = ⊤

-- what a line was found to be
abbrev pub IsParsed : List ℕ → Parsed → Type 0
IsParsed line parsed = (parsed ≡ parsed_of line) × IsSound parsed

-- lines that were parsed ahead, and what that one is that was looked for last
pub record AheadSeen : Type 0 where
  pub lines : List (List ℕ)
  pub last : Parsed
