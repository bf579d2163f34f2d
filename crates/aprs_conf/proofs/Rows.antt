-- Worked rows of the grammar: the value of a text, or its first fault.
use Rattle.std.proofs.Common.{◌≡◌, ℕ, Bool, true, false, List, [], ◌∷◌, ◌++◌, None, Some, Ok, Err, refl, codes}
use Rattle.aprs_base.specs.declared.packets.PortKind.{PortKind}
use Rattle.aprs_base.specs.declared.packets.PortKind.TheVariants as kind
use Rattle.aprs_conf.specs.declared.errors.ConfError.TheVariants as cause
use Rattle.aprs_conf.specs.declared.errors.ConfFault.TheVariants as fault
use Rattle.aprs_conf.specs.declared.errors.ConfWord.TheVariants as needed
use Rattle.aprs_conf.specs.declared.types.Listen.{Listen}
use Rattle.aprs_conf.specs.Seen.{ConfSeen}
use Rattle.aprs_conf.specs.Served.{page_number, served_conf, upload_number}
use Rattle.aprs_conf.specs.Words.{words_of}
use Rattle.aprs_conf.specs.Arguments.{time_of, window_of, ip_of, code_of, port_of}
use Rattle.aprs_conf.specs.Grammar.{after, conf_of, group_says, listen_says, page_says, uplink_says, upload_says}

listen : List ℕ → PortKind → List ℕ → ℕ → Bool → Listen
listen name kind ip port idle = record { name = name; spec = record { kind = kind; at = record { ip = ip; port = port } }; idle = idle }

-- of T2TEST, with these listens and nothing else
plain : List Listen → ConfSeen
plain listens = record {
  server = codes "T2TEST";
  code = 8385;
  admin = [];
  email = [];
  listens = listens;
  upload = None;
  page = None;
  uplinks = [];
  group = None;
  peers = [];
  up_timeout = 15;
  client_timeout = 172800;
  max_clients = 500;
  dupe_window = 30;
}

five_listens : conf_of (codes "ServerId T2TEST" ++ (10 ∷ [] ++ (codes "PassCode 8385" ++ (10 ∷ [] ++ (codes "Listen \"full\" fullfeed tcp 0.0.0.0 10152" ++ (10 ∷ [] ++ (codes "Listen \"filt\" igate tcp 0.0.0.0 14580" ++ (10 ∷ [] ++ (codes "Listen \"sub\" udpsubmit udp 0.0.0.0 8080" ++ (10 ∷ [] ++ (codes "Listen \"dup\" dupefeed tcp 0.0.0.0 20152" ++ (10 ∷ [] ++ (codes "Listen \"only\" clientonly tcp 0.0.0.0 14579" ++ (10 ∷ [])))))))))))))) ≡ Ok (plain (listen (codes "full") kind.Full (0 ∷ 0 ∷ 0 ∷ 0 ∷ []) 10152 false ∷ listen (codes "filt") kind.Igate (0 ∷ 0 ∷ 0 ∷ 0 ∷ []) 14580 false ∷ listen (codes "sub") kind.Submit (0 ∷ 0 ∷ 0 ∷ 0 ∷ []) 8080 false ∷ listen (codes "dup") kind.Dupe (0 ∷ 0 ∷ 0 ∷ 0 ∷ []) 20152 false ∷ listen (codes "only") kind.Only (0 ∷ 0 ∷ 0 ∷ 0 ∷ []) 14579 false ∷ []))
unfolding listen plain conf_of after group_says listen_says uplink_says
five_listens = refl

-- lines may end in CR LF
ends_with_return : conf_of (codes "ServerId T2TEST" ++ (13 ∷ [] ++ (10 ∷ [] ++ (codes "PassCode 8385" ++ (13 ∷ [] ++ (10 ∷ [] ++ (codes "Listen \"full\" fullfeed tcp 0.0.0.0 10152" ++ (13 ∷ [] ++ (10 ∷ [] ++ (codes "Listen \"filt\" igate tcp 0.0.0.0 14580" ++ (13 ∷ [] ++ (10 ∷ [] ++ (codes "Listen \"sub\" udpsubmit udp 0.0.0.0 8080" ++ (13 ∷ [] ++ (10 ∷ [] ++ (codes "Listen \"dup\" dupefeed tcp 0.0.0.0 20152" ++ (13 ∷ [] ++ (10 ∷ [] ++ (codes "Listen \"only\" clientonly tcp 0.0.0.0 14579" ++ (13 ∷ [] ++ (10 ∷ []))))))))))))))))))))) ≡ Ok (plain (listen (codes "full") kind.Full (0 ∷ 0 ∷ 0 ∷ 0 ∷ []) 10152 false ∷ listen (codes "filt") kind.Igate (0 ∷ 0 ∷ 0 ∷ 0 ∷ []) 14580 false ∷ listen (codes "sub") kind.Submit (0 ∷ 0 ∷ 0 ∷ 0 ∷ []) 8080 false ∷ listen (codes "dup") kind.Dupe (0 ∷ 0 ∷ 0 ∷ 0 ∷ []) 20152 false ∷ listen (codes "only") kind.Only (0 ∷ 0 ∷ 0 ∷ 0 ∷ []) 14579 false ∷ []))
unfolding listen plain conf_of after group_says listen_says uplink_says
ends_with_return = refl

nothing : conf_of ([]) ≡ Err (cause.Missing needed.ServerId)
unfolding listen plain conf_of after
nothing = refl

twice : conf_of (codes "ServerId T2TEST" ++ (10 ∷ [] ++ (codes "ServerId T2TEST" ++ (10 ∷ [])))) ≡ Err (cause.Line 2 fault.Repeated)
unfolding listen plain conf_of after
twice = refl

quote : conf_of (codes "MyAdmin \"A") ≡ Err (cause.Line 1 fault.OpenQuote)
unfolding listen plain conf_of after
quote = refl

unknown : conf_of (codes "Foo 1") ≡ Err (cause.Line 1 fault.UnknownWord)
unfolding listen plain conf_of after
unknown = refl

no_call : conf_of (codes "ServerId") ≡ Err (cause.Line 1 fault.BadCount)
unfolding listen plain conf_of after
no_call = refl

no_number : conf_of (codes "PassCode x") ≡ Err (cause.Line 1 fault.BadNumber)
unfolding listen plain conf_of after
no_number = refl

no_time : conf_of (codes "ClientTimeout 0s") ≡ Err (cause.Line 1 fault.BadTime)
unfolding listen plain conf_of after
no_time = refl

no_host : conf_of (codes "Uplink u full tcp \"\" 1") ≡ Err (cause.Line 1 fault.BadHost)
unfolding listen plain conf_of after group_says listen_says uplink_says
no_host = refl

seventeen : conf_of (codes "Listen a fullfeed tcp :: 1" ++ (10 ∷ [] ++ (codes "Listen a fullfeed tcp :: 1" ++ (10 ∷ [] ++ (codes "Listen a fullfeed tcp :: 1" ++ (10 ∷ [] ++ (codes "Listen a fullfeed tcp :: 1" ++ (10 ∷ [] ++ (codes "Listen a fullfeed tcp :: 1" ++ (10 ∷ [] ++ (codes "Listen a fullfeed tcp :: 1" ++ (10 ∷ [] ++ (codes "Listen a fullfeed tcp :: 1" ++ (10 ∷ [] ++ (codes "Listen a fullfeed tcp :: 1" ++ (10 ∷ [] ++ (codes "Listen a fullfeed tcp :: 1" ++ (10 ∷ [] ++ (codes "Listen a fullfeed tcp :: 1" ++ (10 ∷ [] ++ (codes "Listen a fullfeed tcp :: 1" ++ (10 ∷ [] ++ (codes "Listen a fullfeed tcp :: 1" ++ (10 ∷ [] ++ (codes "Listen a fullfeed tcp :: 1" ++ (10 ∷ [] ++ (codes "Listen a fullfeed tcp :: 1" ++ (10 ∷ [] ++ (codes "Listen a fullfeed tcp :: 1" ++ (10 ∷ [] ++ (codes "Listen a fullfeed tcp :: 1" ++ (10 ∷ [] ++ (codes "Listen a fullfeed tcp :: 1"))))))))))))))))))))))))))))))))) ≡ Err (cause.Line 17 fault.TooMany)
unfolding listen plain conf_of after group_says listen_says uplink_says
seventeen = refl

no_kind : conf_of (codes "ServerId T2TEST" ++ (10 ∷ [] ++ (codes "PassCode 8385" ++ (10 ∷ [] ++ (codes "Listen \"full\" fullfeed tcp 0.0.0.0 10152" ++ (10 ∷ [] ++ (codes "Listen \"x\" fullfed tcp 0.0.0.0 1" ++ (10 ∷ [])))))))) ≡ Err (cause.Line 4 fault.BadKind)
unfolding listen plain conf_of after group_says listen_says uplink_says
no_kind = refl

no_server : conf_of (codes "PassCode 8385" ++ (10 ∷ [] ++ (codes "Listen \"full\" fullfeed tcp 0.0.0.0 10152" ++ (10 ∷ [] ++ (codes "Listen \"filt\" igate tcp 0.0.0.0 14580" ++ (10 ∷ [] ++ (codes "Listen \"sub\" udpsubmit udp 0.0.0.0 8080" ++ (10 ∷ [] ++ (codes "Listen \"dup\" dupefeed tcp 0.0.0.0 20152" ++ (10 ∷ [] ++ (codes "Listen \"only\" clientonly tcp 0.0.0.0 14579" ++ (10 ∷ [])))))))))))) ≡ Err (cause.Missing needed.ServerId)
unfolding listen plain conf_of after group_says listen_says uplink_says
no_server = refl

no_code : conf_of (codes "ServerId T2TEST" ++ (10 ∷ [])) ≡ Err (cause.Missing needed.PassCode)
unfolding listen plain conf_of after
no_code = refl

no_listen : conf_of (codes "ServerId T2TEST" ++ (10 ∷ [] ++ (codes "PassCode 1" ++ (10 ∷ [])))) ≡ Err (cause.Missing needed.Listen)
unfolding listen plain conf_of after
no_listen = refl

name_with_blanks : conf_of (codes "ServerId T2TEST" ++ (10 ∷ [] ++ (codes "PassCode 8385" ++ (10 ∷ [] ++ (codes "Listen \"a b\" fullfeed tcp :: 1"))))) ≡ Ok (plain (listen (codes "a b") kind.Full (0 ∷ 0 ∷ 0 ∷ 0 ∷ []) 1 false ∷ []))
unfolding listen plain conf_of after group_says listen_says uplink_says
name_with_blanks = refl

-- remarks and empty lines are skipped
remarks : conf_of (codes "# a \"remark" ++ (10 ∷ [] ++ (10 ∷ [] ++ (codes "ServerId T2TEST" ++ (10 ∷ [] ++ (codes "PassCode 8385" ++ (10 ∷ [] ++ (9 ∷ [] ++ (codes "#  x" ++ (10 ∷ [] ++ (codes "\"#y\" z" ++ (10 ∷ [] ++ (codes "  " ++ (9 ∷ [] ++ (codes " " ++ (10 ∷ [] ++ (codes "Listen a fullfeed tcp 1.2.3.4 1 hidden" ++ (10 ∷ [])))))))))))))))))) ≡ Ok (plain (listen (codes "a") kind.Full (1 ∷ 2 ∷ 3 ∷ 4 ∷ []) 1 false ∷ []))
unfolding listen plain conf_of after group_says listen_says uplink_says
remarks = refl

-- but a word without its end is none
remark_in_open_quote : conf_of (10 ∷ [] ++ (codes "\"#x")) ≡ Err (cause.Line 2 fault.OpenQuote)
unfolding listen plain conf_of after
remark_in_open_quote = refl

-- an idle listen is enough
idle : conf_of (codes "ServerId T2TEST" ++ (10 ∷ [] ++ (codes "PassCode 8385" ++ (10 ∷ [] ++ (codes "listen a igate udp 0.0.0.0 8080" ++ (10 ∷ [])))))) ≡ Ok (plain (listen (codes "a") kind.Igate (0 ∷ 0 ∷ 0 ∷ 0 ∷ []) 8080 true ∷ []))
unfolding listen plain conf_of after group_says listen_says uplink_says
idle = refl

-- `hidden` has case
sixth : conf_of (codes "ServerId T2TEST" ++ (10 ∷ [] ++ (codes "PassCode 8385" ++ (10 ∷ [] ++ (codes "Listen a igate tcp :: 1 Hidden" ++ (10 ∷ [])))))) ≡ Err (cause.Line 3 fault.BadCount)
unfolding listen plain conf_of after group_says listen_says uplink_says
sixth = refl

text_twice : conf_of (codes "MyAdmin a b" ++ (10 ∷ [])) ≡ Err (cause.Line 1 fault.BadCount)
unfolding listen plain conf_of after
text_twice = refl

-- without a line feed a CR is a byte of its word
return_at_the_end : conf_of (codes "PassCode 1" ++ (13 ∷ [])) ≡ Err (cause.Line 1 fault.BadNumber)
unfolding listen plain conf_of after
return_at_the_end = refl

-- of two faults of a line the first in order
order : conf_of (10 ∷ [] ++ (codes "ServerId x" ++ (10 ∷ [] ++ (codes "ServerId \"" ++ (10 ∷ []))))) ≡ Err (cause.Line 3 fault.OpenQuote)
unfolding listen plain conf_of after
order = refl

window_twice : conf_of (codes "DupeWindow 60" ++ (10 ∷ codes "dupewindow 60")) ≡ Err (cause.Line 2 fault.Repeated)
unfolding listen plain conf_of after
window_twice = refl

no_window : conf_of (codes "DupeWindow 301") ≡ Err (cause.Line 1 fault.BadTime)
unfolding listen plain conf_of after
no_window = refl

repeated_first : conf_of (codes "PassCode 1" ++ (10 ∷ [] ++ (codes "PassCode" ++ (10 ∷ [])))) ≡ Err (cause.Line 2 fault.Repeated)
unfolding listen plain conf_of after
repeated_first = refl

count_first : conf_of (codes "Listen a b" ++ (10 ∷ [])) ≡ Err (cause.Line 1 fault.BadCount)
unfolding listen plain conf_of after group_says listen_says uplink_says
count_first = refl

from_the_left : conf_of (codes "Listen a igate tcp 1.2.3 x" ++ (10 ∷ [])) ≡ Err (cause.Line 1 fault.BadAddr)
unfolding listen plain conf_of after group_says listen_says uplink_says
from_the_left = refl

-- of two bad lines the first
first_line : conf_of (codes "Foo" ++ (10 ∷ [] ++ (codes "ServerId \"" ++ (10 ∷ [])))) ≡ Err (cause.Line 1 fault.UnknownWord)
unfolding listen plain conf_of after
first_line = refl

dupes_by_datagram : conf_of (codes "Listen a dupefeed udp :: 1") ≡ Err (cause.Line 1 fault.BadKind)
unfolding listen plain conf_of after group_says listen_says uplink_says
dupes_by_datagram = refl

submissions_by_stream : conf_of (codes "Listen a udpsubmit tcp :: 1") ≡ Err (cause.Line 1 fault.BadKind)
unfolding listen plain conf_of after group_says listen_says uplink_says
submissions_by_stream = refl

port_zero : conf_of (codes "Listen a igate tcp :: 0") ≡ Err (cause.Line 1 fault.BadNumber)
unfolding listen plain conf_of after group_says listen_says uplink_says
port_zero = refl

leading_zero : conf_of (codes "Listen a igate tcp :: 01") ≡ Err (cause.Line 1 fault.BadNumber)
unfolding listen plain conf_of after group_says listen_says uplink_says
leading_zero = refl

ninth_uplink : conf_of (codes "Uplink u full tcp h 1" ++ (10 ∷ [] ++ (codes "Uplink u full tcp h 1" ++ (10 ∷ [] ++ (codes "Uplink u full tcp h 1" ++ (10 ∷ [] ++ (codes "Uplink u full tcp h 1" ++ (10 ∷ [] ++ (codes "Uplink u full tcp h 1" ++ (10 ∷ [] ++ (codes "Uplink u full tcp h 1" ++ (10 ∷ [] ++ (codes "Uplink u full tcp h 1" ++ (10 ∷ [] ++ (codes "Uplink u full tcp h 1" ++ (10 ∷ [] ++ (codes "Uplink u full tcp h 1" ++ (10 ∷ [])))))))))))))))))) ≡ Err (cause.Line 9 fault.TooMany)
unfolding listen plain conf_of after group_says listen_says uplink_says
ninth_uplink = refl

-- submissions by HTTP: one listener more
upload : conf_of (codes "ServerId T2TEST" ++ (10 ∷ codes "PassCode 8385" ++ (10 ∷ codes "httpupload :: 8081" ++ (10 ∷ codes "Listen a fullfeed tcp 1.2.3.4 1")))) ≡ Ok (record (plain (listen (codes "a") kind.Full (1 ∷ 2 ∷ 3 ∷ 4 ∷ []) 1 false ∷ [])) { upload = Some (record { ip = 0 ∷ 0 ∷ 0 ∷ 0 ∷ []; port = 8081 }) })
unfolding listen plain conf_of after group_says listen_says uplink_says upload_says
upload = refl

upload_twice : conf_of (codes "HTTPUpload :: 8081" ++ (10 ∷ codes "HTTPUpload")) ≡ Err (cause.Line 2 fault.Repeated)
unfolding listen plain conf_of after group_says listen_says uplink_says upload_says
upload_twice = refl

upload_at_port_alone : conf_of (codes "HTTPUpload 8081") ≡ Err (cause.Line 1 fault.BadCount)
unfolding listen plain conf_of after group_says listen_says uplink_says upload_says
upload_at_port_alone = refl

upload_by_three : conf_of (codes "HTTPUpload :: 8081 hidden") ≡ Err (cause.Line 1 fault.BadCount)
unfolding listen plain conf_of after group_says listen_says uplink_says upload_says
upload_by_three = refl

upload_by_name : conf_of (codes "HTTPUpload localhost 0") ≡ Err (cause.Line 1 fault.BadAddr)
unfolding listen plain conf_of after group_says listen_says uplink_says upload_says
upload_by_name = refl

upload_at_zero : conf_of (codes "HTTPUpload :: 0") ≡ Err (cause.Line 1 fault.BadNumber)
unfolding listen plain conf_of after group_says listen_says uplink_says upload_says
upload_at_zero = refl

-- of 17 listeners the last is too many, whichever it is
upload_last : conf_of (codes "Listen a fullfeed tcp :: 1" ++ (10 ∷ codes "Listen a fullfeed tcp :: 1" ++ (10 ∷ codes "Listen a fullfeed tcp :: 1" ++ (10 ∷ codes "Listen a fullfeed tcp :: 1" ++ (10 ∷ codes "Listen a fullfeed tcp :: 1" ++ (10 ∷ codes "Listen a fullfeed tcp :: 1" ++ (10 ∷ codes "Listen a fullfeed tcp :: 1" ++ (10 ∷ codes "Listen a fullfeed tcp :: 1" ++ (10 ∷ codes "Listen a fullfeed tcp :: 1" ++ (10 ∷ codes "Listen a fullfeed tcp :: 1" ++ (10 ∷ codes "Listen a fullfeed tcp :: 1" ++ (10 ∷ codes "Listen a fullfeed tcp :: 1" ++ (10 ∷ codes "Listen a fullfeed tcp :: 1" ++ (10 ∷ codes "Listen a fullfeed tcp :: 1" ++ (10 ∷ codes "Listen a fullfeed tcp :: 1" ++ (10 ∷ codes "Listen a fullfeed tcp :: 1" ++ (10 ∷ codes "HTTPUpload :: 8081"))))))))))))))))) ≡ Err (cause.Line 17 fault.TooMany)
unfolding listen plain conf_of after group_says listen_says uplink_says upload_says
upload_last = refl

upload_first : conf_of (codes "HTTPUpload :: 8081" ++ (10 ∷ codes "Listen a fullfeed tcp :: 1" ++ (10 ∷ codes "Listen a fullfeed tcp :: 1" ++ (10 ∷ codes "Listen a fullfeed tcp :: 1" ++ (10 ∷ codes "Listen a fullfeed tcp :: 1" ++ (10 ∷ codes "Listen a fullfeed tcp :: 1" ++ (10 ∷ codes "Listen a fullfeed tcp :: 1" ++ (10 ∷ codes "Listen a fullfeed tcp :: 1" ++ (10 ∷ codes "Listen a fullfeed tcp :: 1" ++ (10 ∷ codes "Listen a fullfeed tcp :: 1" ++ (10 ∷ codes "Listen a fullfeed tcp :: 1" ++ (10 ∷ codes "Listen a fullfeed tcp :: 1" ++ (10 ∷ codes "Listen a fullfeed tcp :: 1" ++ (10 ∷ codes "Listen a fullfeed tcp :: 1" ++ (10 ∷ codes "Listen a fullfeed tcp :: 1" ++ (10 ∷ codes "Listen a fullfeed tcp :: 1" ++ (10 ∷ codes "Listen a fullfeed tcp :: 1"))))))))))))))))) ≡ Err (cause.Line 17 fault.TooMany)
unfolding listen plain conf_of after group_says listen_says uplink_says upload_says
upload_first = refl

-- a port for submissions alone isn't enough
upload_alone : conf_of (codes "ServerId T2TEST" ++ (10 ∷ codes "PassCode 8385" ++ (10 ∷ codes "HTTPUpload :: 8081"))) ≡ Err (cause.Missing needed.Listen)
unfolding listen plain conf_of after group_says listen_says uplink_says upload_says
upload_alone = refl

-- which number it has, and what is served: an idle listener has none
upload_behind : upload_number (record (plain (listen (codes "a") kind.Igate (0 ∷ 0 ∷ 0 ∷ 0 ∷ []) 1 true ∷ listen (codes "b") kind.Full (0 ∷ 0 ∷ 0 ∷ 0 ∷ []) 2 false ∷ [])) { upload = Some (record { ip = 1 ∷ 2 ∷ 3 ∷ 4 ∷ []; port = 8081 }) }) ≡ Some 1
unfolding listen plain
upload_behind = refl

served : served_conf (record (plain (listen (codes "a") kind.Igate (0 ∷ 0 ∷ 0 ∷ 0 ∷ []) 1 true ∷ [])) { upload = Some (record { ip = 1 ∷ 2 ∷ 3 ∷ 4 ∷ []; port = 8081 }) })
    ≡ plain (listen (codes "a") kind.Igate (0 ∷ 0 ∷ 0 ∷ 0 ∷ []) 1 true ∷ listen (codes "http") kind.Submit (1 ∷ 2 ∷ 3 ∷ 4 ∷ []) 8081 false ∷ [])
unfolding listen plain
served = refl

-- the status page: one listener more, too
page : conf_of (codes "ServerId T2TEST" ++ (10 ∷ codes "PassCode 8385" ++ (10 ∷ codes "httpstatus :: 14501" ++ (10 ∷ codes "Listen a fullfeed tcp 1.2.3.4 1")))) ≡ Ok (record (plain (listen (codes "a") kind.Full (1 ∷ 2 ∷ 3 ∷ 4 ∷ []) 1 false ∷ [])) { page = Some (record { ip = 0 ∷ 0 ∷ 0 ∷ 0 ∷ []; port = 14501 }) })
unfolding listen plain conf_of after group_says listen_says page_says uplink_says upload_says
page = refl

page_twice : conf_of (codes "HTTPStatus :: 14501" ++ (10 ∷ codes "HTTPStatus")) ≡ Err (cause.Line 2 fault.Repeated)
unfolding listen plain conf_of after group_says listen_says page_says uplink_says upload_says
page_twice = refl

page_at_port_alone : conf_of (codes "HTTPStatus 14501") ≡ Err (cause.Line 1 fault.BadCount)
unfolding listen plain conf_of after group_says listen_says page_says uplink_says upload_says
page_at_port_alone = refl

page_by_name : conf_of (codes "HTTPStatus localhost 0") ≡ Err (cause.Line 1 fault.BadAddr)
unfolding listen plain conf_of after group_says listen_says page_says uplink_says upload_says
page_by_name = refl

page_at_zero : conf_of (codes "HTTPStatus :: 0") ≡ Err (cause.Line 1 fault.BadNumber)
unfolding listen plain conf_of after group_says listen_says page_says uplink_says upload_says
page_at_zero = refl

-- of 17 listeners the last is too many, whichever it is
page_last : conf_of (codes "HTTPUpload :: 8081" ++ (10 ∷ codes "Listen a fullfeed tcp :: 1" ++ (10 ∷ codes "Listen a fullfeed tcp :: 1" ++ (10 ∷ codes "Listen a fullfeed tcp :: 1" ++ (10 ∷ codes "Listen a fullfeed tcp :: 1" ++ (10 ∷ codes "Listen a fullfeed tcp :: 1" ++ (10 ∷ codes "Listen a fullfeed tcp :: 1" ++ (10 ∷ codes "Listen a fullfeed tcp :: 1" ++ (10 ∷ codes "Listen a fullfeed tcp :: 1" ++ (10 ∷ codes "Listen a fullfeed tcp :: 1" ++ (10 ∷ codes "Listen a fullfeed tcp :: 1" ++ (10 ∷ codes "Listen a fullfeed tcp :: 1" ++ (10 ∷ codes "Listen a fullfeed tcp :: 1" ++ (10 ∷ codes "Listen a fullfeed tcp :: 1" ++ (10 ∷ codes "Listen a fullfeed tcp :: 1" ++ (10 ∷ codes "Listen a fullfeed tcp :: 1" ++ (10 ∷ codes "HTTPStatus :: 14501"))))))))))))))))) ≡ Err (cause.Line 17 fault.TooMany)
unfolding listen plain conf_of after group_says listen_says page_says uplink_says upload_says
page_last = refl

page_first : conf_of (codes "HTTPStatus :: 14501" ++ (10 ∷ codes "Listen a fullfeed tcp :: 1" ++ (10 ∷ codes "Listen a fullfeed tcp :: 1" ++ (10 ∷ codes "Listen a fullfeed tcp :: 1" ++ (10 ∷ codes "Listen a fullfeed tcp :: 1" ++ (10 ∷ codes "Listen a fullfeed tcp :: 1" ++ (10 ∷ codes "Listen a fullfeed tcp :: 1" ++ (10 ∷ codes "Listen a fullfeed tcp :: 1" ++ (10 ∷ codes "Listen a fullfeed tcp :: 1" ++ (10 ∷ codes "Listen a fullfeed tcp :: 1" ++ (10 ∷ codes "Listen a fullfeed tcp :: 1" ++ (10 ∷ codes "Listen a fullfeed tcp :: 1" ++ (10 ∷ codes "Listen a fullfeed tcp :: 1" ++ (10 ∷ codes "Listen a fullfeed tcp :: 1" ++ (10 ∷ codes "Listen a fullfeed tcp :: 1" ++ (10 ∷ codes "Listen a fullfeed tcp :: 1" ++ (10 ∷ codes "HTTPUpload :: 8081"))))))))))))))))) ≡ Err (cause.Line 17 fault.TooMany)
unfolding listen plain conf_of after group_says listen_says page_says uplink_says upload_says
page_first = refl

-- and 16 are not
sixteen : conf_of (codes "HTTPStatus :: 14501" ++ (10 ∷ codes "Listen a fullfeed tcp :: 1" ++ (10 ∷ codes "Listen a fullfeed tcp :: 1" ++ (10 ∷ codes "Listen a fullfeed tcp :: 1" ++ (10 ∷ codes "Listen a fullfeed tcp :: 1" ++ (10 ∷ codes "Listen a fullfeed tcp :: 1" ++ (10 ∷ codes "Listen a fullfeed tcp :: 1" ++ (10 ∷ codes "Listen a fullfeed tcp :: 1" ++ (10 ∷ codes "Listen a fullfeed tcp :: 1" ++ (10 ∷ codes "Listen a fullfeed tcp :: 1" ++ (10 ∷ codes "Listen a fullfeed tcp :: 1" ++ (10 ∷ codes "Listen a fullfeed tcp :: 1" ++ (10 ∷ codes "Listen a fullfeed tcp :: 1" ++ (10 ∷ codes "Listen a fullfeed tcp :: 1" ++ (10 ∷ codes "Listen a fullfeed tcp :: 1" ++ (10 ∷ codes "HTTPUpload :: 8081")))))))))))))))) ≡ Err (cause.Missing needed.ServerId)
unfolding listen plain conf_of after group_says listen_says page_says uplink_says upload_says
sixteen = refl

-- a port of the status page alone isn't enough
page_alone : conf_of (codes "ServerId T2TEST" ++ (10 ∷ codes "PassCode 8385" ++ (10 ∷ codes "HTTPStatus :: 14501"))) ≡ Err (cause.Missing needed.Listen)
unfolding listen plain conf_of after group_says listen_says page_says uplink_says upload_says
page_alone = refl

-- it has the number behind that for submissions, where there is such
page_behind : page_number (record (plain (listen (codes "a") kind.Igate (0 ∷ 0 ∷ 0 ∷ 0 ∷ []) 1 true ∷ listen (codes "b") kind.Full (0 ∷ 0 ∷ 0 ∷ 0 ∷ []) 2 false ∷ [])) { page = Some (record { ip = 1 ∷ 2 ∷ 3 ∷ 4 ∷ []; port = 14501 }) }) ≡ Some 1
unfolding listen plain
page_behind = refl

page_behind_upload : page_number (record (plain (listen (codes "a") kind.Igate (0 ∷ 0 ∷ 0 ∷ 0 ∷ []) 1 true ∷ listen (codes "b") kind.Full (0 ∷ 0 ∷ 0 ∷ 0 ∷ []) 2 false ∷ [])) { upload = Some (record { ip = 1 ∷ 2 ∷ 3 ∷ 4 ∷ []; port = 8081 }); page = Some (record { ip = 1 ∷ 2 ∷ 3 ∷ 4 ∷ []; port = 14501 }) }) ≡ Some 2
unfolding listen plain
page_behind_upload = refl

both_served : served_conf (record (plain (listen (codes "a") kind.Igate (0 ∷ 0 ∷ 0 ∷ 0 ∷ []) 1 true ∷ [])) { upload = Some (record { ip = 1 ∷ 2 ∷ 3 ∷ 4 ∷ []; port = 8081 }); page = Some (record { ip = 1 ∷ 2 ∷ 3 ∷ 5 ∷ []; port = 14501 }) })
    ≡ plain (listen (codes "a") kind.Igate (0 ∷ 0 ∷ 0 ∷ 0 ∷ []) 1 true ∷ listen (codes "http") kind.Submit (1 ∷ 2 ∷ 3 ∷ 4 ∷ []) 8081 false ∷ listen (codes "status") kind.Submit (1 ∷ 2 ∷ 3 ∷ 5 ∷ []) 14501 false ∷ [])
unfolding listen plain
both_served = refl

no_peers : conf_of (codes "PeerGroup g udp :: 1" ++ (10 ∷ [])) ≡ Err (cause.Line 1 fault.BadCount)
unfolding listen plain conf_of after group_says listen_says uplink_says
no_peers = refl

ninth_peer : conf_of (codes "PeerGroup g udp :: 1 A :: 1 A :: 1 A :: 1 A :: 1 A :: 1 A :: 1 A :: 1 A :: 1 A :: 1") ≡ Err (cause.Line 1 fault.BadCount)
unfolding listen plain conf_of after group_says listen_says uplink_says
ninth_peer = refl

peer_construct : conf_of (codes "PeerGroup g udp :: 1 qAC :: 1") ≡ Err (cause.Line 1 fault.BadCall)
unfolding listen plain conf_of after group_says listen_says uplink_says
peer_construct = refl

-- every kind of line once
whole : conf_of (codes "ServerId T2TEST" ++ (10 ∷ codes "PASSCODE 08385" ++ (10 ∷ codes "MyAdmin \"A B\"" ++ (10 ∷ codes "MyEmail a@b" ++ (10 ∷ codes "Listen a clientonly udp :: 1" ++ (10 ∷ codes "Uplink u full tcp h.example 10152" ++ (10 ∷ codes "PeerGroup g udp 10.0.0.1 16404 T2A 10.0.0.2 16404 T2B 10.0.0.3 16405" ++ (10 ∷ codes "UpstreamTimeout 060s" ++ (10 ∷ codes "ClientTimeout 2d" ++ (10 ∷ codes "MaxClients 10000" ++ (10 ∷ codes "DupeWindow 1m" ++ (10 ∷ codes "RunDir data x")))))))))))) ≡ Ok (record {
  server = codes "T2TEST";
  code = 8385;
  admin = codes "A B";
  email = codes "a@b";
  listens = listen (codes "a") kind.Only (0 ∷ 0 ∷ 0 ∷ 0 ∷ []) 1 true ∷ [];
  upload = None;
  page = None;
  uplinks = record { host = codes "h.example"; port = 10152 } ∷ [];
  group = Some (record { ip = 10 ∷ 0 ∷ 0 ∷ 1 ∷ []; port = 16404 });
  peers = record { call = codes "T2A"; at = record { ip = 10 ∷ 0 ∷ 0 ∷ 2 ∷ []; port = 16404 } } ∷ record { call = codes "T2B"; at = record { ip = 10 ∷ 0 ∷ 0 ∷ 3 ∷ []; port = 16405 } } ∷ [];
  up_timeout = 60;
  client_timeout = 172800;
  max_clients = 10000;
  dupe_window = 60;
})
unfolding listen conf_of after group_says listen_says uplink_says
whole = refl

-- words
split_words : words_of (codes " a\"b \"c d\"e \"\"  \"f") ≡ Some (codes "a\"b") ∷ Some (codes "c d") ∷ Some (codes "e") ∷ Some [] ∷ None ∷ []
split_words = refl

-- times
longest : time_of (codes "0010000000s") ≡ Some 10000000
longest = refl

too_long : time_of (codes "10000001") ≡ None
too_long = refl

days : time_of (codes "115d") ≡ Some 9936000
days = refl

too_many_days : time_of (codes "116d") ≡ None
too_many_days = refl

unit_alone : time_of (codes "s") ≡ None
unit_alone = refl

large_unit : time_of (codes "1S") ≡ None
large_unit = refl

-- windows
shortest_window : window_of (codes "10") ≡ Some 10
shortest_window = refl

longest_window : window_of (codes "5m") ≡ Some 300
longest_window = refl

window_too_short : window_of (codes "9s") ≡ None
window_too_short = refl

window_too_long : window_of (codes "301") ≡ None
window_too_long = refl

window_off_the_form : window_of (codes "60x") ≡ None
window_off_the_form = refl

-- addresses
whole_address : ip_of (codes "255.0.10.1") ≡ Some (255 ∷ 0 ∷ 10 ∷ 1 ∷ [])
whole_address = refl

octet_too_large : ip_of (codes "256.0.0.1") ≡ None
octet_too_large = refl

five_octets : ip_of (codes "1.2.3.4.5") ≡ None
five_octets = refl

octet_with_zero : ip_of (codes "1.2.3.04") ≡ None
octet_with_zero = refl

-- numbers
six_digits : code_of (codes "000001") ≡ None
six_digits = refl

greatest_port : port_of (codes "65535") ≡ Some 65535
greatest_port = refl

port_too_large : port_of (codes "65536") ≡ None
port_too_large = refl
