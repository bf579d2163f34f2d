-- Where the setting and the addresses are sound: whoever speaks is named as a station, and each line of a text is a line.
use Rattle.std.specs.Prelude.{◌≡◌, ℕ, ◌<◌, ◌==◌, ◌&&◌, Bool, nat_lt, List, [], ◌∷◌, ◌++◌, length, Some, slice_get, IsTrue, ⊤}
use Rattle.std.specs.List.{All, list_all}
use Rattle.aprs_base.specs.Bytes.{IsLine, is_station}
use Rattle.aprs_base.specs.declared.cutting.Cut.{Cut}
use Rattle.aprs_base.specs.declared.events.Event.TheVariants as event
use Rattle.aprs_base.specs.declared.events.Happening.TheVariants as did
use Rattle.aprs_base.specs.declared.packets.Source.{Source}
use Rattle.aprs_base.specs.declared.texts.Addr.{Addr}
use Rattle.q_construct.specs.Rule.{name_of}
use Rattle.q_construct.specs.declared.origins.Origin.{Origin}
use Rattle.aprs_history.specs.declared.verdicts.Verdict.{Verdict}
use Rattle.aprs_history.specs.Setting.{Peer, Setting}
use Rattle.aprs_history.specs.Trace.{Trace, Said}
use Rattle.aprs_history.specs.Texts.{lines_of}
use Rattle.aprs_history.specs.History.{History, trace_of}
use Rattle.aprs_history.specs.Accepting.{IsSaidAs}

-- the server and its peers are stations, and the code has five digits at most
pub record IsSound (setting : Setting) : Type 0 where
  pub server : IsTrue (is_station setting.server)
  pub code : setting.code < 100000
  pub peers : (number : ℕ) (peer : Peer) → slice_get setting.peers number ≡ Some peer → IsTrue (is_station peer.call)

-- four bytes
abbrev pub is_address : Addr → Bool
is_address at = length at.ip == 4 && list_all (λ b. nat_lt b 256) at.ip

-- each uplink joins from an address
abbrev pub JoinsHaveAddresses : History → Type 0
JoinsHaveAddresses [] = ⊤
JoinsHaveAddresses (did.Event (event.Joined uplink link at) ∷ earlier) = JoinsHaveAddresses earlier × IsTrue (is_address at)
JoinsHaveAddresses (x ∷ earlier) = JoinsHaveAddresses earlier

-- whoever says a line has the name of a station, as the q construct rule names it
abbrev pub OriginsAreStations : Type 0
OriginsAreStations = (setting : Setting) (history : History) (later earlier : Trace) (from : Source) (said : Cut) (verdict : Verdict) (by : Origin) (others : List (List ℕ))
    → IsSound setting → JoinsHaveAddresses history → trace_of setting history ≡ later ++ Said from said verdict ∷ earlier → IsSaidAs setting earlier from by others
    → IsTrue (is_station (name_of by))

-- each line of each text has 1 to 510 bytes, and no line end
abbrev pub TextsAreLines : Type 0
TextsAreLines = (setting : Setting) (history : History) (link : ℕ) → IsSound setting → JoinsHaveAddresses history → All IsLine (lines_of setting (trace_of setting history) link)
