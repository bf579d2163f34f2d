-- The events of a drill: links come and log in, and link 1 sends lines, each made from a state that follows from the seed.
use Rattle.std.specs.Prelude.{ℕ, zero, suc, ◌+◌, ◌*◌, ◌/◌, ◌%◌, ◌-◌, ◌==◌, List, [], ◌∷◌, ◌++◌, codes, length, map, if◌then◌else◌}
use Rattle.std.proofs.Math.ListN.{replicate}
use Rattle.std.specs.Fmt.{decimal}
use Rattle.std.specs.Fork.{slice_chunk}
use Rattle.std.specs.Int.{div_ceil}
use Rattle.std.specs.List.{flat_map, range_with_len}
use Rattle.std.specs.Str.{byte}
use Rattle.aprs_base.specs.declared.texts.Addr.{Addr}
use Rattle.aprs_base.specs.declared.events.Event.{Event}
use Rattle.aprs_base.specs.declared.events.Event.TheVariants as event
use Rattle.login_pass.specs.Passcode.{passcode_of}
use Rattle.drill_plan.specs.declared.plan.Plan.{Plan}

-- the state after this one, the one n steps on, and the next n
abbrev pub next_state : ℕ → ℕ
next_state x = (x * 1103515245 + 12345) % 2147483648

abbrev pub state_after : ℕ → ℕ → ℕ
state_after zero x = x
state_after (suc n) x = state_after n (next_state x)

abbrev pub states : ℕ → ℕ → List ℕ
states zero x = []
states (suc n) x = next_state x ∷ states n (next_state x)

-- the last two and the last three digits of a number
abbrev pub two_digits : ℕ → List ℕ
two_digits n = (byte "0" + n / 10 % 10) ∷ (byte "0" + n % 10) ∷ []

abbrev pub three_digits : ℕ → List ℕ
three_digits n = (byte "0" + n / 100 % 10) ∷ two_digits n

-- a station, and the same with blanks up to nine bytes
abbrev pub station : ℕ → List ℕ
station n = codes "S" ++ decimal n

abbrev pub receiver : ℕ → List ℕ
receiver n = station n ++ replicate (9 - length (station n)) (byte " ")

-- what a line says: where a station is, a status, a message, or a measurement
abbrev pub position_text : ℕ → List ℕ
position_text x = codes "!" ++ (two_digits (x / 65536 % 60) ++ (codes "00.00N/" ++ (three_digits (x / 1024 % 120) ++ codes "00.00E-")))

abbrev pub status_text : ℕ → List ℕ
status_text x = codes ">s" ++ decimal (x / 65536 % 8)

abbrev pub message_text : ℕ → List ℕ
message_text x = codes ":" ++ (receiver (x / 4096 % 50) ++ (codes ":m" ++ decimal (x / 65536 % 8)))

unfoldable pub body_text : ℕ → List ℕ
body_text x =
    let kind = x / 256 % 4 in
    if kind == 0 then position_text x else if kind == 1 then status_text x else if kind == 2 then message_text x else codes "T#001"

-- the line of a state
unfoldable pub drill_line : ℕ → List ℕ
drill_line x = station (x / 65536 % 50) ++ (codes ">APRS,D1,I:" ++ body_text x)

-- the name of a link, its filter, and its login, which for link 1 has no filter
abbrev pub link_name : ℕ → List ℕ
link_name link = codes "D" ++ decimal link

abbrev pub filter_of : ℕ → List ℕ
filter_of link =
    let kind = link % 4 in
    if kind == 0 then codes "t/m" else if kind == 1 then codes "p/S1/S2" else if kind == 2 then codes "r/50/30/1500" else codes "t/poims -b/S3*"

abbrev pub filter_part : ℕ → List ℕ
filter_part link = if link == 1 then [] else codes " filter " ++ filter_of link

unfoldable pub drill_login : ℕ → List ℕ
drill_login link = codes "user " ++ (link_name link ++ (codes " pass " ++ (decimal (passcode_of (link_name link)) ++ filter_part link)))

-- a link comes: the first to listener 0, the others to listener 1
abbrev pub nowhere : Addr
nowhere = record { ip = 0 ∷ 0 ∷ 0 ∷ 0 ∷ []; port = 0 }

abbrev pub opening_of : ℕ → Event
opening_of link = event.Opened (if link == 1 then 0 else 1) link nowhere

-- a link sends its login, and link 1 the line of a state
abbrev pub login_of : ℕ → Event
login_of link = event.Bytes link (drill_login link ++ codes "\r\n")

abbrev pub line_of : ℕ → Event
line_of x = event.Bytes 1 (drill_line x ++ codes "\r\n")

-- the lines of the n-th hundred of states, or of as many as there are, and the tick after them
abbrev pub hundred_of : List ℕ → ℕ → List Event
hundred_of xs n = map line_of (slice_chunk xs 100 n) ++ event.Tick (1000001 + n) ∷ []

-- all events: the first tick, the openings, the logins, the lines with their ticks, and the stop
abbrev pub drill_events : Plan → List Event
drill_events plan =
    let links = range_with_len 1 plan.links in
    let hundreds = range_with_len 0 (div_ceil plan.lines 100) in
    event.Tick 1000000 ∷ (map opening_of links ++ (map login_of links ++ (flat_map (hundred_of (states plan.lines plan.seed)) hundreds ++ event.Stop ∷ [])))
