-- What each server of a network accepts, whatever else is there.
use Rattle.std.specs.Prelude.{◌≡◌, ℕ, List, ◌∷◌, ◌++◌, Some, Ok, slice_get, IsFalse}
use Rattle.std.specs.List.{All}
use Rattle.aprs_base.specs.PartsSeen.{PartsSeen}
use Rattle.aprs_base.specs.declared.cutting.Cut.{Cut}
use Rattle.aprs_base.specs.declared.cutting.Cut.TheVariants as cut
use Rattle.aprs_base.specs.declared.packets.Source.{Source}
use Rattle.tnc2_line.specs.Packet.{parts_of}
use Rattle.q_construct.specs.Rule.{among, names_after}
use Rattle.aprs_history.specs.declared.verdicts.Verdict.TheVariants.{Accepted}
use Rattle.aprs_history.specs.Trace.{Trace, Said, moment_of}
use Rattle.aprs_history.specs.Scenes.{accepted_of}
use Rattle.aprs_history.specs.Accepting.{IsPast}
use Rattle.net_history.specs.declared.events.NetEvent.{NetEvent}
use Rattle.net_history.specs.Network.{Layout, ServerSeen, trace_at}
use Rattle.net_history.specs.Steps.{network_of}

-- two acceptances of one key at one server are at least that server's window apart
abbrev pub AcceptancesAreApart : Type 0
AcceptancesAreApart = (layout : Layout) (steps : List NetEvent) (place : ℕ) (s : ServerSeen) (later earlier : Trace) (from : Source) (said : Cut) (parts : PartsSeen) (line : List ℕ)
    → slice_get (network_of layout steps).servers place ≡ Some s → trace_at s ≡ later ++ Said from said (Accepted parts line) ∷ earlier
    → All (IsPast s.setting (moment_of earlier) parts) (accepted_of earlier)

-- no server accepts a line in which its call stands after the construct
abbrev pub NoneNamesTheServer : Type 0
NoneNamesTheServer = (layout : Layout) (steps : List NetEvent) (place : ℕ) (s : ServerSeen) (later earlier : Trace) (from : Source) (text : List ℕ) (before parts : PartsSeen) (line : List ℕ)
    → slice_get (network_of layout steps).servers place ≡ Some s → trace_at s ≡ later ++ Said from (cut.Line text) (Accepted parts line) ∷ earlier → parts_of text ≡ Ok before
    → IsFalse (among s.setting.server (names_after before.vias))
