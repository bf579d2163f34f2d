-- Worked rows of downlinks: which links become one, and that their lines go to them one by one.
use Rattle.std.proofs.Common.{◌≡◌, ℕ, List, [], ◌∷◌, ◌++◌, codes, Option, Some, None, refl}
use Rattle.aprs_base.specs.declared.packets.PortKind.TheVariants as kind
use Rattle.aprs_base.specs.declared.events.Event.TheVariants as event
use Rattle.aprs_base.specs.declared.events.Sent.TheVariants as sent
use Rattle.aprs_base.specs.declared.events.Happening.TheVariants as did
use Rattle.aprs_body.specs.Bodies.{body_of}
use Rattle.login_pass.specs.Downlinks.{downlink_of}
use Rattle.login_pass.specs.Login.{login_of}
use Rattle.login_pass.specs.Passcode.{passcode_of}
use Rattle.q_construct.specs.Rule.{process_of}
use Rattle.tnc2_line.specs.Packet.{parts_of}
use Rattle.aprs_history.specs.Setting.{Setting, kind_at}
use Rattle.aprs_history.specs.History.{History, trace_of}
use Rattle.aprs_history.specs.Acts.{Closes, Offers, SendsLine, due}
use Rattle.aprs_history.specs.Downs.{DownSeen, down_of, downs_in, whole_lines}
use Rattle.aprs_history.proofs.Rows.{client, crlf, listen, server_on}

-- a full feed, a port with filters, and a listener that the lines of full feeds are cast from
with_downs : Setting
with_downs = record (server_on (listen kind.Full 10152 ∷ listen kind.Igate 14580 ∷ listen kind.Submit 10152 ∷ [])) { downs = kind.Full ∷ [] }

-- nothing that comes there is served
cast_from_alone : kind_at with_downs 2 ≡ None
unfolding with_downs
cast_from_alone = refl

listening : History
listening = did.Listen 2 ∷ did.Listen 1 ∷ did.Listen 0 ∷ []

banner_sent : ℕ → ℕ → History
banner_sent listener taken =
    did.Sent 1 (codes "# aprsc 1.0" ++ crlf) (sent.Took taken) ∷ did.Event (event.Tick 1000) ∷ did.Event (event.Opened listener 1 client) ∷ did.Event (event.Tick 1000) ∷ listening

says : List ℕ → History → History
says line history = did.Event (event.Tick 1001) ∷ did.Event (event.Bytes 1 (line ++ crlf)) ∷ history

-- the login makes it one, and its reply goes by datagram already
asked : History
asked = says (codes "user K1ABC pass 14993 vers t 1 UDP 9001") (banner_sent 0 13)

is_down : down_of with_downs (trace_of with_downs asked) 1 ≡ Some (record { number = 0; to = record { ip = 10 ∷ 0 ∷ 0 ∷ 7 ∷ []; port = 9001 } })
unfolding trace_of with_downs asked says banner_sent listening client crlf login_of passcode_of downlink_of
is_down = refl

one_down : downs_in with_downs (trace_of with_downs asked) ≡ 1
unfolding trace_of with_downs asked says banner_sent listening client crlf login_of passcode_of downlink_of
one_down = refl

reply_sent : due with_downs asked ≡ SendsLine 1 (codes "# logresp K1ABC verified, server T2TEST" ++ crlf) ∷ []
unfolding due trace_of with_downs asked says banner_sent listening client crlf login_of passcode_of downlink_of
reply_sent = refl

-- without such a listener, on a port of another kind, with port 0, without the passcode, or with half a line taken: all at once, as ever
asks_in : Setting → List ℕ → ℕ → ℕ → Option DownSeen
asks_in setting login listener taken = down_of setting (trace_of setting (says login (banner_sent listener taken))) 1

without_listener : asks_in (server_on (listen kind.Full 10152 ∷ [])) (codes "user K1ABC pass 14993 vers t 1 UDP 9001") 0 13 ≡ None
unfolding asks_in trace_of says banner_sent listening client crlf login_of passcode_of downlink_of
without_listener = refl

of_another_kind : asks_in with_downs (codes "user K1ABC pass 14993 vers t 1 UDP 9001") 1 13 ≡ None
unfolding asks_in trace_of with_downs says banner_sent listening client crlf login_of passcode_of downlink_of
of_another_kind = refl

port_zero : asks_in with_downs (codes "user K1ABC pass 14993 vers t 1 UDP 0") 0 13 ≡ None
unfolding asks_in trace_of with_downs says banner_sent listening client crlf login_of passcode_of downlink_of
port_zero = refl

unverified : asks_in with_downs (codes "user K1ABC pass -1 vers t 1 UDP 9001") 0 13 ≡ None
unfolding asks_in trace_of with_downs says banner_sent listening client crlf login_of passcode_of downlink_of
unverified = refl

half_taken : asks_in with_downs (codes "user K1ABC pass 14993 vers t 1 UDP 9001") 0 5 ≡ None
unfolding asks_in trace_of with_downs says banner_sent listening client crlf login_of passcode_of downlink_of
half_taken = refl

nothing_taken : asks_in with_downs (codes "user K1ABC pass 14993 vers t 1 UDP 9001") 0 0 ≡ Some (record { number = 0; to = record { ip = 10 ∷ 0 ∷ 0 ∷ 7 ∷ []; port = 9001 } })
unfolding asks_in trace_of with_downs says banner_sent listening client crlf login_of passcode_of downlink_of
nothing_taken = refl

-- bytes behind the last LF are no line
cut_behind : whole_lines (codes "ab\ncd\r\ne") ≡ codes "ab\n" ∷ codes "cd\r\n" ∷ []
cut_behind = refl
