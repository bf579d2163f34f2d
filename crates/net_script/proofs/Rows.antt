-- Worked scripts: what a text is read as, and what it comes to.
use Rattle.std.proofs.Common.{◌≡◌, true, false, [], ◌∷◌, Ok, Err, refl, codes}
use Rattle.std.specs.Fmt.{digits}
use Rattle.aprs_base.specs.declared.packets.PortKind.TheVariants as kind
use Rattle.aprs_body.specs.Bodies.{body_of}
use Rattle.aprs_history.specs.Acts.{due}
use Rattle.aprs_history.specs.History.{trace_of}
use Rattle.login_pass.specs.Login.{login_of}
use Rattle.login_pass.specs.Passcode.{passcode_of}
use Rattle.net_history.specs.Steps.{network_of}
use Rattle.q_construct.specs.Rule.{process_of, given_drops, built_drops, built_row, rows}
use Rattle.tnc2_line.specs.Packet.{parts_of, text_of, via_of, head_of}
use Rattle.net_script.specs.declared.errors.ScriptError.TheVariants as cause
use Rattle.net_script.specs.declared.types.ScriptStep.TheVariants as step
use Rattle.net_script.specs.Grammar.{after, peer_says, server_says, step_says, uplink_says}
use Rattle.net_script.specs.Layouts.{layout_of, port, some_uplink}
use Rattle.net_script.specs.Reading.{empty, script_of}
use Rattle.net_script.specs.Running.{progress_of, script_text}
use Rattle.net_script.specs.Seen.{ScriptSeen}

-- ---- two servers, of which one is the other's uplink

unfoldable leaf_and_hub : ScriptSeen
leaf_and_hub = record {
  servers = record { call = codes "T2LEAF"; window = 30 } ∷ record { call = codes "T2TEST"; window = 30 } ∷ [];
  pairs = record { low = 0; uplink = 0; high = 1; listener = 0 } ∷ [];
  peers = [];
  steps =
      record { number = 4; step = step.Round 0 1000 }
      ∷ record { number = 5; step = step.Join 0 }
      ∷ record { number = 6; step = step.Round 0 1001 }
      ∷ record { number = 7; step = step.Carry 0 true 39 }
      ∷ record { number = 8; step = step.Round 1 1001 }
      ∷ record { number = 9; step = step.Open 0 (codes "K1ABC") }
      ∷ record { number = 10; step = step.Say 0 (codes "K1ABC") (codes "K1ABC>APRS:>hi") }
      ∷ record { number = 11; step = step.Round 0 1002 }
      ∷ record { number = 12; step = step.Carry 0 true 34 }
      ∷ record { number = 13; step = step.Round 1 1002 }
      ∷ [];
}

leaf_and_hub_read : script_of (codes "server T2LEAF\nserver T2TEST\nuplink T2LEAF T2TEST\nround T2LEAF 1000\njoin T2LEAF T2TEST\nround T2LEAF 1001\ncarry T2LEAF T2TEST 39\nround T2TEST 1001\nopen T2LEAF K1ABC\nsay T2LEAF K1ABC K1ABC>APRS:>hi\nround T2LEAF 1002\ncarry T2LEAF T2TEST 34\nround T2TEST 1002\n")
    ≡ Ok leaf_and_hub
unfolding leaf_and_hub script_of after server_says uplink_says peer_says step_says
leaf_and_hub_read = refl

leaf_and_hub_laid_out : layout_of leaf_and_hub ≡ record {
  servers =
      record { server = codes "T2LEAF"; code = 10963; listens = port kind.Full 10152 ∷ port kind.Igate 14580 ∷ []; downs = []; uplinks = some_uplink ∷ []; peers = []; up_timeout = 15; client_timeout = 172800; max_clients = 500; window = 30 }
      ∷ record { server = codes "T2TEST"; code = 8385; listens = port kind.Full 10152 ∷ port kind.Igate 14580 ∷ []; downs = []; uplinks = []; peers = []; up_timeout = 15; client_timeout = 172800; max_clients = 500; window = 30 }
      ∷ [];
  pairs = record { low = 0; uplink = 0; high = 1; listener = 0 } ∷ [];
  peers = [];
}
unfolding leaf_and_hub passcode_of
leaf_and_hub_laid_out = refl

-- ---- a line before its client's link, which isn't there

said_too_early : ScriptSeen
said_too_early = record {
  servers = record { call = codes "T2A"; window = 30 } ∷ [];
  pairs = [];
  peers = [];
  steps =
      record { number = 2; step = step.Round 0 1000 }
      ∷ record { number = 3; step = step.Say 0 (codes "K1ABC") (codes "K1ABC>APRS:>hi") }
      ∷ record { number = 4; step = step.Open 0 (codes "K1ABC") }
      ∷ record { number = 5; step = step.Say 0 (codes "K1ABC") (codes "K1ABC>APRS:>hi all") }
      ∷ record { number = 6; step = step.Round 0 1001 }
      ∷ [];
}

said_too_early_read : script_of (codes "server T2A\nround T2A 1000\nsay T2A K1ABC K1ABC>APRS:>hi\nopen T2A K1ABC\nsay T2A K1ABC K1ABC>APRS:>hi all\nround T2A 1001") ≡ Ok said_too_early
unfolding said_too_early script_of after server_says uplink_says peer_says step_says
said_too_early_read = refl

said_too_early_told : script_text said_too_early ≡ codes "line 3: not there\nserver T2A accepted 1\nK1ABC>APRS,TCPIP*,qAC,T2A:>hi all\n"
unfolding said_too_early script_text progress_of due trace_of network_of digits parts_of text_of via_of head_of login_of passcode_of process_of given_drops built_drops built_row rows body_of
said_too_early_told = refl

-- ---- good texts

no_line : script_of [] ≡ Ok empty
unfolding script_of after server_says uplink_says peer_says step_says
no_line = refl

two_peers : script_of (codes "server T2A\nserver T2B 60\npeer T2B T2A\ncast T2A T2B 4294967295\nround T2B 000000001000") ≡ Ok (record {
  servers = record { call = codes "T2A"; window = 30 } ∷ record { call = codes "T2B"; window = 60 } ∷ [];
  pairs = [];
  peers = record { a = 1; at_a = 0; b = 0; at_b = 0 } ∷ [];
  steps = record { number = 4; step = step.Cast 0 1 4294967295 } ∷ record { number = 5; step = step.Round 1 1000 } ∷ [];
})
unfolding script_of after server_says uplink_says peer_says step_says
two_peers = refl

both_ways : script_of (codes "server T2A\nserver T2B\nuplink T2B T2A\ncut T2B T2A\ncarry T2B T2A 1\ncarry T2A T2B 1460\n") ≡ Ok (record {
  servers = record { call = codes "T2A"; window = 30 } ∷ record { call = codes "T2B"; window = 30 } ∷ [];
  pairs = record { low = 1; uplink = 0; high = 0; listener = 0 } ∷ [];
  peers = [];
  steps = record { number = 4; step = step.Cut 0 } ∷ record { number = 5; step = step.Carry 0 true 1 } ∷ record { number = 6; step = step.Carry 0 false 1460 } ∷ [];
})
unfolding script_of after server_says uplink_says peer_says step_says
both_ways = refl

-- ---- bad steps

empty_line : script_of (codes "\n") ≡ Err (cause.BadStep 1)
unfolding script_of after server_says uplink_says peer_says step_says
empty_line = refl

empty_second_line : script_of (codes "server T2A\n\n") ≡ Err (cause.BadStep 2)
unfolding script_of after server_says uplink_says peer_says step_says
empty_second_line = refl

two_blanks : script_of (codes "server  T2A") ≡ Err (cause.BadStep 1)
unfolding script_of after server_says uplink_says peer_says step_says
two_blanks = refl

blank_behind : script_of (codes "server T2A\nround T2A 1000 ") ≡ Err (cause.BadStep 2)
unfolding script_of after server_says uplink_says peer_says step_says
blank_behind = refl

unknown_word : script_of (codes "Server T2A") ≡ Err (cause.BadStep 1)
unfolding script_of after server_says uplink_says peer_says step_says
unknown_word = refl

construct_as_server : script_of (codes "server qAC") ≡ Err (cause.BadStep 1)
unfolding script_of after server_says uplink_says peer_says step_says
construct_as_server = refl

server_again : script_of (codes "server T2A\nserver T2A") ≡ Err (cause.BadStep 2)
unfolding script_of after server_says uplink_says peer_says step_says
server_again = refl

short_window : script_of (codes "server T2A 9") ≡ Err (cause.BadStep 1)
unfolding script_of after server_says uplink_says peer_says step_says
short_window = refl

long_window : script_of (codes "server T2A 301") ≡ Err (cause.BadStep 1)
unfolding script_of after server_says uplink_says peer_says step_says
long_window = refl

window_with_zero : script_of (codes "server T2A 060") ≡ Err (cause.BadStep 1)
unfolding script_of after server_says uplink_says peer_says step_says
window_with_zero = refl

server_behind_step : script_of (codes "server T2A\nround T2A 1\nserver T2B") ≡ Err (cause.BadStep 3)
unfolding script_of after server_says uplink_says peer_says step_says
server_behind_step = refl

long_moment : script_of (codes "server T2A\nround T2A 0000000001000") ≡ Err (cause.BadStep 2)
unfolding script_of after server_says uplink_says peer_says step_says
long_moment = refl

unknown_server : script_of (codes "round T2A 1000") ≡ Err (cause.BadStep 1)
unfolding script_of after server_says uplink_says peer_says step_says
unknown_server = refl

uplink_to_itself : script_of (codes "server T2A\nuplink T2A T2A") ≡ Err (cause.BadStep 2)
unfolding script_of after server_says uplink_says peer_says step_says
uplink_to_itself = refl

uplink_back : script_of (codes "server T2A\nserver T2B\nuplink T2A T2B\nuplink T2B T2A") ≡ Err (cause.BadStep 4)
unfolding script_of after server_says uplink_says peer_says step_says
uplink_back = refl

uplink_again : script_of (codes "server T2A\nserver T2B\nuplink T2A T2B\nuplink T2A T2B") ≡ Err (cause.BadStep 4)
unfolding script_of after server_says uplink_says peer_says step_says
uplink_again = refl

peer_to_itself : script_of (codes "server T2A\npeer T2A T2A") ≡ Err (cause.BadStep 2)
unfolding script_of after server_says uplink_says peer_says step_says
peer_to_itself = refl

peer_back : script_of (codes "server T2A\nserver T2B\npeer T2A T2B\npeer T2B T2A") ≡ Err (cause.BadStep 4)
unfolding script_of after server_says uplink_says peer_says step_says
peer_back = refl

joined_backwards : script_of (codes "server T2A\nserver T2B\nuplink T2A T2B\njoin T2B T2A") ≡ Err (cause.BadStep 4)
unfolding script_of after server_says uplink_says peer_says step_says
joined_backwards = refl

cut_backwards : script_of (codes "server T2A\nserver T2B\nuplink T2A T2B\ncut T2B T2A") ≡ Err (cause.BadStep 4)
unfolding script_of after server_says uplink_says peer_says step_says
cut_backwards = refl

join_of_peers : script_of (codes "server T2A\nserver T2B\npeer T2A T2B\njoin T2A T2B") ≡ Err (cause.BadStep 4)
unfolding script_of after server_says uplink_says peer_says step_says
join_of_peers = refl

none_carried : script_of (codes "server T2A\nserver T2B\nuplink T2A T2B\ncarry T2A T2B 0") ≡ Err (cause.BadStep 4)
unfolding script_of after server_says uplink_says peer_says step_says
none_carried = refl

too_much_carried : script_of (codes "server T2A\nserver T2B\nuplink T2A T2B\ncarry T2A T2B 1461") ≡ Err (cause.BadStep 4)
unfolding script_of after server_says uplink_says peer_says step_says
too_much_carried = refl

carried_with_zero : script_of (codes "server T2A\nserver T2B\nuplink T2A T2B\ncarry T2A T2B 01") ≡ Err (cause.BadStep 4)
unfolding script_of after server_says uplink_says peer_says step_says
carried_with_zero = refl

cast_along_uplink : script_of (codes "server T2A\nserver T2B\nuplink T2A T2B\ncast T2A T2B 1") ≡ Err (cause.BadStep 4)
unfolding script_of after server_says uplink_says peer_says step_says
cast_along_uplink = refl

none_cast : script_of (codes "server T2A\nserver T2B\npeer T2A T2B\ncast T2A T2B 0") ≡ Err (cause.BadStep 4)
unfolding script_of after server_says uplink_says peer_says step_says
none_cast = refl

too_great_cast : script_of (codes "server T2A\nserver T2B\npeer T2A T2B\ncast T2A T2B 4294967296") ≡ Err (cause.BadStep 4)
unfolding script_of after server_says uplink_says peer_says step_says
too_great_cast = refl

return_in_text : script_of (codes "server T2A\nsay T2A K1ABC a\rb") ≡ Err (cause.BadStep 2)
unfolding script_of after server_says uplink_says peer_says step_says
return_in_text = refl

no_text : script_of (codes "server T2A\nsay T2A K1ABC ") ≡ Err (cause.BadStep 2)
unfolding script_of after server_says uplink_says peer_says step_says
no_text = refl

no_text_at_all : script_of (codes "server T2A\nsay T2A K1ABC") ≡ Err (cause.BadStep 2)
unfolding script_of after server_says uplink_says peer_says step_says
no_text_at_all = refl

bad_call : script_of (codes "server T2A\nopen T2A K1-ABC") ≡ Err (cause.BadStep 2)
unfolding script_of after server_says uplink_says peer_says step_says
bad_call = refl

seventeen_servers : script_of (codes "server S0\nserver S1\nserver S2\nserver S3\nserver S4\nserver S5\nserver S6\nserver S7\nserver S8\nserver S9\nserver S10\nserver S11\nserver S12\nserver S13\nserver S14\nserver S15\nserver S16") ≡ Err (cause.BadStep 17)
unfolding script_of after server_says uplink_says peer_says step_says
seventeen_servers = refl

nine_uplinks : script_of (codes "server S0\nserver S1\nserver S2\nserver S3\nserver S4\nserver S5\nserver S6\nserver S7\nserver S8\nserver S9\nuplink S0 S1\nuplink S0 S2\nuplink S0 S3\nuplink S0 S4\nuplink S0 S5\nuplink S0 S6\nuplink S0 S7\nuplink S0 S8\nuplink S0 S9") ≡ Err (cause.BadStep 19)
unfolding script_of after server_says uplink_says peer_says step_says
nine_uplinks = refl

nine_peers : script_of (codes "server S0\nserver S1\nserver S2\nserver S3\nserver S4\nserver S5\nserver S6\nserver S7\nserver S8\nserver S9\npeer S1 S0\npeer S2 S0\npeer S3 S0\npeer S4 S0\npeer S5 S0\npeer S6 S0\npeer S7 S0\npeer S8 S0\npeer S9 S0") ≡ Err (cause.BadStep 19)
unfolding script_of after server_says uplink_says peer_says step_says
nine_peers = refl
