-- How the server joins an uplink: its login there is one that another server takes.
use Rattle.std.specs.Prelude.{◌≡◌, ℕ, ◌<◌, Bool, true, List, Some, None, Ok, IsTrue, IsFalse}
use Rattle.aprs_base.specs.Bytes.{is_station}
use Rattle.dupe_window.specs.Keys.{is_text}
use Rattle.login_pass.specs.Login.{login_of}
use Rattle.login_pass.specs.Passcode.{passcode_of}
use Rattle.aprs_history.specs.declared.verdicts.Verdict.TheVariants.{LoggedIn}
use Rattle.aprs_history.specs.Setting.{Setting}
use Rattle.aprs_history.specs.Verdicts.{login_verdict}
use Rattle.aprs_history.specs.Texts.{uplink_login}

-- it reads as a login with the server's call and its code, which has five digits at most
abbrev pub UplinkLoginsAreRead : Type 0
UplinkLoginsAreRead = (setting : Setting) → IsTrue (is_station setting.server) → setting.code < 100000
    → login_of (uplink_login setting) ≡ Ok (record { call = setting.server; code = Some setting.code; filter = None })

-- where the code is the call's passcode, each server of another call takes it for a verified login, whatever the port is
abbrev pub UplinkLoginsAreVerified : Type 0
UplinkLoginsAreVerified = (setting : Setting) (other : List ℕ) (filters : Bool) → IsTrue (is_station setting.server) → setting.code ≡ passcode_of setting.server
    → IsFalse (is_text setting.server other)
    → login_verdict other filters (uplink_login setting) (login_of (uplink_login setting)) ≡ LoggedIn (record { call = setting.server; verified = true }) None
