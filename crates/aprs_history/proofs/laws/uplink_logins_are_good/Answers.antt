use Rattle.aprs_history.proofs.JoiningLemmas.{uplink_logins_are_read, uplink_logins_are_verified}
use Rattle.aprs_history.proofs.laws.uplink_logins_are_good.Goals as goal

pub returns-clause-read : goal.returns-clause-read
returns-clause-read c = uplink_logins_are_read

pub returns-clause-verified : goal.returns-clause-verified
returns-clause-verified c = uplink_logins_are_verified
