-- What each server of a network accepts, by the laws of its own history.
use Rattle.aprs_history.proofs.AcceptingLemmas as accepting
use Rattle.net_history.specs.Acceptances.{AcceptancesAreApart, NoneNamesTheServer}

pub acceptances_are_apart : AcceptancesAreApart
acceptances_are_apart layout steps place s later earlier from said parts line at split = accepting.acceptances_are_apart s.setting s.history later earlier from said parts line split

pub none_names_the_server : NoneNamesTheServer
none_names_the_server layout steps place s later earlier from text before parts line at split reads =
    accepting.none_names_the_server s.setting s.history later earlier from text before parts line split reads
