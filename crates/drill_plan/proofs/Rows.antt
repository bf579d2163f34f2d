-- Worked lines, logins and whole drills: what the definitions make of them.
use Rattle.std.specs.Prelude.{◌≡◌, ℕ, ◌+◌, ◌++◌, List, [], ◌∷◌, codes, map, refl}
use Rattle.std.specs.Fmt.{digits}
use Rattle.aprs_base.specs.declared.events.Event.{Event}
use Rattle.aprs_base.specs.declared.events.Event.TheVariants as event
use Rattle.login_pass.specs.Passcode.{passcode_of}
use Rattle.drill_plan.specs.Drill.{body_text, drill_events, drill_line, drill_login, next_state, nowhere, states}

-- ---- lines

first_line : drill_line (next_state 1) ≡ codes "S38>APRS,D1,I::S15      :m6"
unfolding drill_line body_text digits
first_line = refl

second_line : drill_line (next_state (next_state 1)) ≡ codes "S8>APRS,D1,I:!5800.00N/03600.00E-"
unfolding drill_line body_text digits
second_line = refl

of_zero : map drill_line (states 3 0) ≡ codes "S0>APRS,D1,I:!0000.00N/01200.00E-" ∷ codes "S18>APRS,D1,I::S39      :m4" ∷ codes "S38>APRS,D1,I:T#001" ∷ []
unfolding drill_line body_text digits
of_zero = refl

of_the_last_seed : drill_line (next_state 2147483647) ≡ codes "S29>APRS,D1,I:>s1"
unfolding drill_line body_text digits
of_the_last_seed = refl

-- ---- logins

first_login : drill_login 1 ≡ codes "user D1 pass 14291"
unfolding drill_login passcode_of digits
first_login = refl

later_logins : map drill_login (2 ∷ 3 ∷ 4 ∷ 5 ∷ []) ≡ codes "user D2 pass 14288 filter r/50/30/1500" ∷ codes "user D3 pass 14289 filter t/poims -b/S3*" ∷ codes "user D4 pass 14294 filter t/m" ∷ codes "user D5 pass 14295 filter p/S1/S2" ∷ []
unfolding drill_login passcode_of digits
later_logins = refl

last_login : drill_login 1000 ≡ codes "user D1000 pass 14307 filter t/m"
unfolding drill_login passcode_of digits
last_login = refl

-- ---- drills

says : ℕ → List ℕ → Event
says link text = event.Bytes link (text ++ 13 ∷ 10 ∷ [])

small : drill_events (record { seed = 1; lines = 2; links = 2 })
    ≡ event.Tick 1000000 ∷ event.Opened 0 1 nowhere ∷ event.Opened 1 2 nowhere
    ∷ says 1 (codes "user D1 pass 14291") ∷ says 2 (codes "user D2 pass 14288 filter r/50/30/1500")
    ∷ says 1 (codes "S38>APRS,D1,I::S15      :m6") ∷ says 1 (codes "S8>APRS,D1,I:!5800.00N/03600.00E-")
    ∷ event.Tick 1000001 ∷ event.Stop ∷ []
unfolding drill_line drill_login body_text passcode_of digits says
small = refl

-- the moments of the ticks among these events, and where they stand
ticks : ℕ → List Event → List (ℕ × ℕ)
ticks place [] = []
ticks place (e ∷ events) = noted e (ticks (place + 1) events)
  where
    noted : Event → List (ℕ × ℕ) → List (ℕ × ℕ)
    noted (event.Tick moment) later = (place, moment) ∷ later
    noted (event.Opened listener link from) later = later
    noted (event.Joined uplink link at) later = later
    noted (event.Unjoined uplink) later = later
    noted (event.Bytes link bytes) later = later
    noted (event.Ended link) later = later
    noted (event.Room link) later = later
    noted (event.Datagram listener from bytes) later = later
    noted event.Stop later = later

ticks_of : ℕ → List (ℕ × ℕ)
ticks_of lines = ticks 0 (drill_events (record { seed = 1; lines = lines; links = 2 }))

one_short : ticks_of 99 ≡ (0, 1000000) ∷ (104, 1000001) ∷ []
unfolding ticks ticks_of
one_short = refl

a_hundred : ticks_of 100 ≡ (0, 1000000) ∷ (105, 1000001) ∷ []
unfolding ticks ticks_of
a_hundred = refl

one_more : ticks_of 101 ≡ (0, 1000000) ∷ (105, 1000001) ∷ (107, 1000002) ∷ []
unfolding ticks ticks_of
one_more = refl

two_hundred : ticks_of 200 ≡ (0, 1000000) ∷ (105, 1000001) ∷ (206, 1000002) ∷ []
unfolding ticks ticks_of
two_hundred = refl
