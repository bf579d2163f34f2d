-- The text that is written of a configuration (aprsc manual, Configuration).
use Rattle.std.specs.Prelude.{ℕ, ◌&&◌, Bool, false, if◌then◌else◌, not, List, [], ◌∷◌, ◌++◌, map, codes, Option, Some, None, slice_index}
use Rattle.std.specs.Fmt.{decimal}
use Rattle.std.specs.List.{flat_map, list_all}
use Rattle.std.specs.Str.{byte}
use Rattle.aprs_base.specs.declared.packets.PortKind.{PortKind}
use Rattle.aprs_base.specs.declared.packets.PortKind.TheVariants as kind
use Rattle.aprs_base.specs.UplinkSeen.{UplinkSeen}
use Rattle.aprs_base.specs.declared.texts.Addr.{Addr}
use Rattle.aprs_conf.specs.declared.types.Listen.{Listen}
use Rattle.aprs_conf.specs.declared.types.PeerSpec.{PeerSpec}
use Rattle.aprs_conf.specs.Arguments.{tcp, udp}
use Rattle.aprs_conf.specs.Seen.{ConfSeen}
use Rattle.aprs_conf.specs.Words.{is_gap, is_quote}

-- ---- words and lines

-- a word that may stand without quotes: some bytes, none of them a blank or a tab, the first no quote
abbrev pub is_bare : List ℕ → Bool
is_bare [] = false
is_bare (b ∷ more) = not (is_quote b) && list_all (λ x. not (is_gap x)) (b ∷ more)

abbrev pub in_quotes : List ℕ → List ℕ
in_quotes word = byte "\"" ∷ (word ++ byte "\"" ∷ [])

abbrev pub spelled : List ℕ → List ℕ
spelled word = if is_bare word then word else in_quotes word

-- a blank stands behind each word, so a CR that ends a word is no part of the line's end
unfoldable pub word_text : List ℕ → List ℕ
word_text word = spelled word ++ byte " " ∷ []

unfoldable pub line_text : List (List ℕ) → List ℕ
line_text words = flat_map word_text words ++ byte "\n" ∷ []

-- ---- arguments

-- four numbers, with single dots between them
abbrev pub dotted : ℕ → List ℕ → List ℕ
dotted number rest = decimal number ++ byte "." ∷ rest

unfoldable pub ip_text : List ℕ → List ℕ
ip_text ip = dotted (slice_index ip 0) (dotted (slice_index ip 1) (dotted (slice_index ip 2) (decimal (slice_index ip 3))))

abbrev pub kind_name : PortKind → List ℕ
kind_name kind.Full = codes "fullfeed"
kind_name kind.Igate = codes "igate"
kind_name kind.Only = codes "clientonly"
kind_name kind.Dupe = codes "dupefeed"
kind_name kind.Submit = codes "udpsubmit"
kind_name kind.Core = []

-- submissions are datagrams, and what is idle was asked to take them
abbrev pub proto_name : PortKind → Bool → List ℕ
proto_name kind.Submit idle = udp
proto_name kind.Full idle = if idle then udp else tcp
proto_name kind.Igate idle = if idle then udp else tcp
proto_name kind.Only idle = if idle then udp else tcp
proto_name kind.Dupe idle = if idle then udp else tcp
proto_name kind.Core idle = if idle then udp else tcp

-- ---- the words of each line

abbrev pub at_words : Addr → List (List ℕ)
at_words at = ip_text at.ip ∷ decimal at.port ∷ []

abbrev pub listen_line : Listen → List (List ℕ)
listen_line listen = codes "Listen" ∷ listen.name ∷ kind_name listen.spec.kind ∷ proto_name listen.spec.kind listen.idle ∷ at_words listen.spec.at

-- a line of this word, where there is an address
abbrev pub front_lines : List ℕ → Option Addr → List (List (List ℕ))
front_lines word None = []
front_lines word (Some at) = (word ∷ at_words at) ∷ []

abbrev pub upload_lines : Option Addr → List (List (List ℕ))
upload_lines upload = front_lines (codes "HTTPUpload") upload

abbrev pub page_lines : Option Addr → List (List (List ℕ))
page_lines page = front_lines (codes "HTTPStatus") page

-- the name of an uplink is not kept
abbrev pub uplink_line : UplinkSeen → List (List ℕ)
uplink_line uplink = codes "Uplink" ∷ codes "uplink" ∷ codes "full" ∷ tcp ∷ uplink.host ∷ decimal uplink.port ∷ []

abbrev pub peer_words : PeerSpec → List (List ℕ)
peer_words peer = peer.call ∷ at_words peer.at

-- nor is that of a group
abbrev pub group_line : Addr → List PeerSpec → List (List ℕ)
group_line at peers = codes "PeerGroup" ∷ codes "peers" ∷ udp ∷ (at_words at ++ flat_map peer_words peers)

abbrev pub group_lines : Option Addr → List PeerSpec → List (List (List ℕ))
group_lines None peers = []
group_lines (Some at) peers = group_line at peers ∷ []

abbrev pub identity_lines : ConfSeen → List (List (List ℕ))
identity_lines conf =
    (codes "ServerId" ∷ conf.server ∷ [])
    ∷ (codes "PassCode" ∷ decimal conf.code ∷ [])
    ∷ (codes "MyAdmin" ∷ conf.admin ∷ [])
    ∷ (codes "MyEmail" ∷ conf.email ∷ [])
    ∷ []

abbrev pub limit_lines : ConfSeen → List (List (List ℕ))
limit_lines conf =
    (codes "UpstreamTimeout" ∷ decimal conf.up_timeout ∷ [])
    ∷ (codes "ClientTimeout" ∷ decimal conf.client_timeout ∷ [])
    ∷ (codes "MaxClients" ∷ decimal conf.max_clients ∷ [])
    ∷ (codes "DupeWindow" ∷ decimal conf.dupe_window ∷ [])
    ∷ []

abbrev pub list_lines : ConfSeen → List (List (List ℕ))
list_lines conf =
    map listen_line conf.listens ++ (upload_lines conf.upload ++ (page_lines conf.page ++ (map uplink_line conf.uplinks ++ group_lines conf.group conf.peers)))

-- each line's words; a line that may be left out is written too, but for those of requests by HTTP and of a group where there are none
abbrev pub conf_lines : ConfSeen → List (List (List ℕ))
conf_lines conf = identity_lines conf ++ (limit_lines conf ++ list_lines conf)

unfoldable pub text_of_conf : ConfSeen → List ℕ
text_of_conf conf = flat_map line_text (conf_lines conf)
