-- The text that is written of a configuration reads as it.
use Rattle.std.proofs.Common.{◌≡◌, ℕ, ◌+◌, ◌*◌, ◌%◌, ◌<◌, ◌≤◌, ◌==◌, true, false, cond, List, [], ◌∷◌, ◌++◌, Option, Some, None, Result, Ok, Err, IfSome, map, length, refl, sym, ap, ◌∙◌, arith, append_assoc, append-nil}
use Rattle.std.specs.Prelude.{codes, is_some}
use Rattle.std.specs.List.{AllByRecursion as Each, flat_map, list_all}
use Rattle.std.specs.Fmt.{decimal}
use Rattle.std.proofs.lemmas.Bool.{eq-eqb, ne_eqb, le-leb, lt-leb}
use Rattle.std.proofs.lemmas.List.{length-append}
use Rattle.std.proofs.lemmas.Result.{IfOk-at_ok}
use Rattle.aprs_base.specs.UplinkSeen.{UplinkSeen}
use Rattle.aprs_base.specs.declared.texts.Addr.{Addr}
use Rattle.aprs_conf.specs.declared.errors.ConfError.{ConfError}
use Rattle.aprs_conf.specs.declared.errors.ConfFault.{ConfFault}
use Rattle.aprs_conf.specs.declared.errors.ConfFault.TheVariants as fault
use Rattle.aprs_conf.specs.declared.types.Listen.{Listen}
use Rattle.aprs_conf.specs.declared.types.PeerSpec.{PeerSpec}
use Rattle.aprs_conf.specs.Arguments.{port_of, tcp, udp}
use Rattle.aprs_conf.specs.Grammar.{after, at_line, at_of, conf_of, conf_with, drafted, empty, group_says, is_group, line_says, listen_in, listen_says, next, page_says, peer_of, peers_from, unless, uplink_in, uplink_says, upload_says, with_listen, with_uplink, words_say}
use Rattle.aprs_base.specs.ResultSteps.{◌>>=◌}
use Rattle.aprs_conf.specs.Seen.{ConfSeen, DraftSeen}
use Rattle.aprs_conf.specs.Served.{all_listens}
use Rattle.aprs_conf.specs.Words.{closed, has_open, lines_of}
use Rattle.aprs_conf.specs.Writing.{at_words, conf_lines, group_line, group_lines, identity_lines, ip_text, kind_name, limit_lines, line_text, list_lines, listen_line, page_lines, peer_words, proto_name, text_of_conf, uplink_line, upload_lines, word_text}
use Rattle.aprs_conf.specs.Sound.{IsWithin}
use Rattle.aprs_conf.proofs.WritableDrafts.{WritableAt, WritableConf, WritableGroup, WritableListen, WritablePeer, WritablePeers, WritableUplink, conf_writable, count_all}
use Rattle.aprs_conf.proofs.WrittenLines.{line_read}
use Rattle.aprs_conf.proofs.WrittenNumbers.{code_again, decimal_word, ip_again, ip_word, number_again, time_again, window_again}
use Rattle.aprs_conf.proofs.WrittenWords.{all_closed, is_word, none_open, words_read}

-- ---- lines, as lists of words

bind_ok : {E A B : Type 0} (r : Result A E) (f : A → Result B E) (y : B) → (r >>= f) ≡ Ok y → (x : A) × (r ≡ Ok x) × (f x ≡ Ok y)
bind_ok (Ok x) f y h = (x, refl, h)
bind_ok (Err e) f y h = cc

-- what these lines say
abbrev all_say : DraftSeen → List (List (List ℕ)) → Result DraftSeen ConfFault
all_say draft [] = Ok draft
all_say draft (words ∷ lines) = line_says draft words >>= λ more. all_say more lines

-- words that may be a line, of which the first begins no remark
abbrev IsLine : List (List ℕ) → Type 0
IsLine [] = ⊥
IsLine ([] ∷ args) = ⊥
IsLine ((b ∷ name) ∷ args) = ((b == 35) ≡ false) × (list_all is_word ((b ∷ name) ∷ args) ≡ true)

-- what is written of them says the same
written_says : (draft : DraftSeen) (b : ℕ) (name : List ℕ) (args : List (List ℕ)) → (b == 35) ≡ false → list_all is_word ((b ∷ name) ∷ args) ≡ true
    → after draft (flat_map word_text ((b ∷ name) ∷ args)) ≡ line_says draft ((b ∷ name) ∷ args)
unfolding after
written_says draft b name args other words =
    let line : List (List ℕ) = (b ∷ name) ∷ args in
    ap (words_say draft) (words_read line words)
    ∙ ap (λ r. cond r (Ok draft) (unless (has_open (map Some line)) fault.OpenQuote (line_says draft (closed (map Some line))))) other
    ∙ ap (λ open'. unless open' fault.OpenQuote (line_says draft (closed (map Some line)))) (none_open line)
    ∙ ap (line_says draft) (all_closed line)

last_line : (n : ℕ) (draft : DraftSeen) → drafted n draft (lines_of []) ≡ Ok draft
unfolding after
last_line n draft = refl

lines_again : (n : ℕ) (draft new : DraftSeen) (lines : List (List (List ℕ))) → Each IsLine lines → all_say draft lines ≡ Ok new → drafted n draft (lines_of (flat_map line_text lines)) ≡ Ok new
lines_again n draft new [] each h = last_line n draft ∙ cc
lines_again n draft new ([] ∷ lines) each h = absurd each.0
lines_again n draft new (([] ∷ args) ∷ lines) each h = absurd each.0
lines_again n draft new (((b ∷ name) ∷ args) ∷ lines) each h =
    let line : List (List ℕ) = (b ∷ name) ∷ args in
    let rest : List ℕ = flat_map line_text lines in
    let more = bind_ok (line_says draft line) (λ d. all_say d lines) new h in
    let own : after draft (flat_map word_text line) ≡ Ok more.0 = written_says draft b name args each.0.0 each.0.1 ∙ more.1 in
    ap (drafted n draft) (line_read (b ∷ name) args rest each.0.1)
    ∙ ap (λ (r : Result DraftSeen ConfFault). at_line n r >>= λ d. drafted (next n) d (lines_of rest)) own
    ∙ lines_again (next n) more.0 new lines each.1 more.2

all_say-append : (draft middle : DraftSeen) (before lines : List (List (List ℕ))) → all_say draft before ≡ Ok middle → all_say draft (before ++ lines) ≡ all_say middle lines
all_say-append draft middle [] lines h = (let is : draft ≡ middle = cc in ap (λ d. all_say d lines) is)
all_say-append draft middle (words ∷ before) lines h =
    let more = bind_ok (line_says draft words) (λ d. all_say d before) middle h in
    ap (λ (r : Result DraftSeen ConfFault). r >>= λ d. all_say d (before ++ lines)) more.1
    ∙ all_say-append more.0 middle before lines more.2

-- ---- arguments

port_again : (port : ℕ) → IsWithin 1 65535 port → port_of (decimal port) ≡ Some port
port_again port is = number_again 1 65535 port is (omega arith)

at_again : (at : Addr) → WritableAt at → at_of (ip_text at.ip) (decimal at.port) ≡ Ok at
at_again at is = rw (ip_again at.ip is.ip, port_again at.port is.port) refl

port_word : (port : ℕ) → IsWithin 1 65535 port → is_word (decimal port) ≡ true
port_word port is = decimal_word port (omega arith)

-- ---- listeners

listen_again : (listen : Listen) → WritableListen listen → listen_in (listen.name ∷ kind_name listen.spec.kind ∷ proto_name listen.spec.kind listen.idle ∷ at_words listen.spec.at) ≡ Ok listen
listen_again listen is = rw (is.service.again, at_again listen.spec.at is.at) refl

listen_is_line : (listen : Listen) → WritableListen listen → IsLine (listen_line listen)
listen_is_line listen is = (refl, rw (is.name, is.service.kind, is.service.proto, ip_word listen.spec.at.ip is.at.ip, port_word listen.spec.at.port is.at.port) refl)

one_listen_says : (draft : DraftSeen) (listen : Listen) → WritableListen listen → length (all_listens draft.listens draft.upload draft.page) < 16 → line_says draft (listen_line listen) ≡ Ok (record draft { listens = draft.listens ++ listen ∷ [] })
unfolding listen_says group_says page_says uplink_says upload_says
one_listen_says draft listen is room =
    ap (λ (r : Result Listen ConfFault). r >>= with_listen draft) (listen_again listen is)
    ∙ ap (λ full. unless full fault.TooMany (Ok (record draft { listens = draft.listens ++ listen ∷ [] }))) (lt-leb 16 (length (all_listens draft.listens draft.upload draft.page)) room)

listens_say : (draft : DraftSeen) (listens : List Listen) → Each WritableListen listens → length (all_listens draft.listens draft.upload draft.page) + length listens ≤ 16 → all_say draft (map listen_line listens) ≡ Ok (record draft { listens = draft.listens ++ listens })
listens_say draft [] each few = ap (λ ls. Ok (record draft { listens = ls })) (sym (append-nil draft.listens))
listens_say draft (listen ∷ listens) each few =
    let more : DraftSeen = record draft { listens = draft.listens ++ listen ∷ [] } in
    let room : length (all_listens more.listens draft.upload draft.page) + length listens ≤ 16 = omega (arith, count_all draft.listens draft.upload draft.page, count_all more.listens draft.upload draft.page, length-append draft.listens (listen ∷ [])) in
    ap (λ (r : Result DraftSeen ConfFault). r >>= λ d. all_say d (map listen_line listens)) (one_listen_says draft listen each.0 (omega arith))
    ∙ listens_say more listens each.1 room
    ∙ ap (λ ls. Ok (record draft { listens = ls })) (append_assoc draft.listens (listen ∷ []) listens)

-- ---- requests by HTTP

uploads_say : (draft : DraftSeen) (upload : Option Addr) → IfSome upload WritableAt → draft.upload ≡ None → length (all_listens draft.listens upload draft.page) ≤ 16 → all_say draft (upload_lines upload) ≡ Ok (record draft { upload = upload })
unfolding listen_says group_says page_says uplink_says upload_says
uploads_say draft None is none few = ap (λ u. Ok (record draft { upload = u })) none
uploads_say draft (Some at) is none few =
    let room : length (all_listens draft.listens None draft.page) < 16 = omega (arith, count_all draft.listens None draft.page, count_all draft.listens (Some at) draft.page) in
    rw (none, at_again at is, lt-leb 16 (length (all_listens draft.listens None draft.page)) room) refl

pages_say : (draft : DraftSeen) (page : Option Addr) → IfSome page WritableAt → draft.page ≡ None → length (all_listens draft.listens draft.upload page) ≤ 16 → all_say draft (page_lines page) ≡ Ok (record draft { page = page })
unfolding listen_says group_says page_says uplink_says upload_says
pages_say draft None is none few = ap (λ p. Ok (record draft { page = p })) none
pages_say draft (Some at) is none few =
    let room : length (all_listens draft.listens draft.upload None) < 16 = omega (arith, count_all draft.listens draft.upload None, count_all draft.listens draft.upload (Some at)) in
    rw (none, at_again at is, lt-leb 16 (length (all_listens draft.listens draft.upload None)) room) refl

uploads_are_lines : (upload : Option Addr) → IfSome upload WritableAt → Each IsLine (upload_lines upload)
uploads_are_lines None is = tt
uploads_are_lines (Some at) is = ((refl, rw (ip_word at.ip is.ip, port_word at.port is.port) refl), tt)

pages_are_lines : (page : Option Addr) → IfSome page WritableAt → Each IsLine (page_lines page)
pages_are_lines None is = tt
pages_are_lines (Some at) is = ((refl, rw (ip_word at.ip is.ip, port_word at.port is.port) refl), tt)

-- ---- uplinks

uplink_again : (uplink : UplinkSeen) → WritableUplink uplink → uplink_in (codes "uplink" ∷ codes "full" ∷ tcp ∷ uplink.host ∷ decimal uplink.port ∷ []) ≡ Ok uplink
uplink_again uplink is = rw (is.host, port_again uplink.port is.port) refl

uplink_is_line : (uplink : UplinkSeen) → WritableUplink uplink → IsLine (uplink_line uplink)
uplink_is_line uplink is = (refl, rw (is.word, port_word uplink.port is.port) refl)

one_uplink_says : (draft : DraftSeen) (uplink : UplinkSeen) → WritableUplink uplink → length draft.uplinks < 8 → line_says draft (uplink_line uplink) ≡ Ok (record draft { uplinks = draft.uplinks ++ uplink ∷ [] })
unfolding uplink_says group_says listen_says page_says upload_says
one_uplink_says draft uplink is room =
    ap (λ (r : Result UplinkSeen ConfFault). r >>= with_uplink draft) (uplink_again uplink is)
    ∙ ap (λ full. unless full fault.TooMany (Ok (record draft { uplinks = draft.uplinks ++ uplink ∷ [] }))) (lt-leb 8 (length draft.uplinks) room)

uplinks_say : (draft : DraftSeen) (uplinks : List UplinkSeen) → Each WritableUplink uplinks → length draft.uplinks + length uplinks ≤ 8 → all_say draft (map uplink_line uplinks) ≡ Ok (record draft { uplinks = draft.uplinks ++ uplinks })
uplinks_say draft [] each few = ap (λ us. Ok (record draft { uplinks = us })) (sym (append-nil draft.uplinks))
uplinks_say draft (uplink ∷ uplinks) each few =
    let more : DraftSeen = record draft { uplinks = draft.uplinks ++ uplink ∷ [] } in
    let room : length more.uplinks + length uplinks ≤ 8 = omega (arith, length-append draft.uplinks (uplink ∷ [])) in
    ap (λ (r : Result DraftSeen ConfFault). r >>= λ d. all_say d (map uplink_line uplinks)) (one_uplink_says draft uplink each.0 (omega arith))
    ∙ uplinks_say more uplinks each.1 room
    ∙ ap (λ us. Ok (record draft { uplinks = us })) (append_assoc draft.uplinks (uplink ∷ []) uplinks)

-- ---- the group and its peers

peer_again : (peer : PeerSpec) → WritablePeer peer → peer_of peer.call (ip_text peer.at.ip) (decimal peer.at.port) ≡ Ok peer
peer_again peer is = rw (is.call.station, at_again peer.at is.at) refl

peers_again : (before peers : List PeerSpec) → Each WritablePeer peers → peers_from before (flat_map peer_words peers) ≡ Ok (before ++ peers)
peers_again before [] each = ap (λ ps. Ok ps) (sym (append-nil before))
peers_again before (peer ∷ peers) each =
    ap (λ (r : Result PeerSpec ConfFault). r >>= λ p. peers_from (before ++ p ∷ []) (flat_map peer_words peers)) (peer_again peer each.0)
    ∙ peers_again (before ++ peer ∷ []) peers each.1
    ∙ ap (λ ps. Ok ps) (append_assoc before (peer ∷ []) peers)

count_words : (peers : List PeerSpec) → length (flat_map peer_words peers) ≡ 3 * length peers
count_words [] = refl
count_words (peer ∷ peers) = (let more = count_words peers in omega (arith, length-append (peer_words peer) (flat_map peer_words peers)))

peers_words : (peers : List PeerSpec) → Each WritablePeer peers → list_all is_word (flat_map peer_words peers) ≡ true
peers_words [] each = refl
peers_words (peer ∷ peers) each =
    rw (each.0.call.word, ip_word peer.at.ip each.0.at.ip, port_word peer.at.port each.0.at.port, peers_words peers each.1) refl

-- the words behind the first
abbrev group_args : Addr → List PeerSpec → List (List ℕ)
group_args at peers = codes "peers" ∷ udp ∷ ip_text at.ip ∷ decimal at.port ∷ flat_map peer_words peers

group_counted : (at : Addr) (peers : List PeerSpec) → WritablePeers at peers → is_group (group_args at peers) ≡ true
group_counted at peers is =
    let n = length (group_args at peers) in
    let words = count_words peers in
    let some = is.some in
    let few = is.few in
    let size : n ≡ 4 + 3 * length peers = omega arith in
    let low : 7 ≤ n = omega arith in
    let high : n ≤ 28 = omega arith in
    let third : n % 3 ≡ 1 = omega arith in
    rw (le-leb 7 n low, le-leb n 28 high, eq-eqb (n % 3) 1 third) refl

one_group_says : (draft : DraftSeen) (at : Addr) (peers : List PeerSpec) → WritablePeers at peers → group_says draft (group_args at peers) ≡ Ok (record draft { group = Some at; peers = peers })
unfolding group_says
one_group_says draft at peers is = rw (group_counted at peers is, at_again at is.at, peers_again [] peers is.each) refl

group_is_line : (at : Addr) (peers : List PeerSpec) → WritablePeers at peers → IsLine (group_line at peers)
group_is_line at peers is = (refl, rw (ip_word at.ip is.at.ip, port_word at.port is.at.port, peers_words peers is.each) refl)

groups_say : (draft : DraftSeen) (group : Option Addr) (peers : List PeerSpec) → WritableGroup group peers → draft.group ≡ None → draft.peers ≡ [] → all_say draft (group_lines group peers) ≡ Ok (record draft { group = group; peers = peers })
groups_say draft None peers is none no_peers =
    ap (λ g. Ok (record draft { group = g })) none ∙ ap (λ ps. Ok (record draft { group = None; peers = ps })) (no_peers ∙ sym is)
groups_say draft (Some at) peers is none no_peers =
    let own : line_says draft (group_line at peers) ≡ Ok (record draft { group = Some at; peers = peers }) =
    ap (λ said. unless said fault.Repeated (group_says draft (group_args at peers))) (ap is_some none) ∙ one_group_says draft at peers is in
    ap (λ (r : Result DraftSeen ConfFault). r >>= λ d. all_say d []) own

groups_are_lines : (group : Option Addr) (peers : List PeerSpec) → WritableGroup group peers → Each IsLine (group_lines group peers)
groups_are_lines None peers is = tt
groups_are_lines (Some at) peers is = (group_is_line at peers is, tt)

-- ---- the whole

each_append : {A : Type 0} (P : A → Type 0) (xs ys : List A) → Each P xs → Each P ys → Each P (xs ++ ys)
each_append P [] ys first second = second
each_append P (x ∷ xs) ys first second = (first.0, each_append P xs ys first.1 second)

each_map : {A B : Type 0} (P : A → Type 0) (Q : B → Type 0) (f : A → B) → ((x : A) → P x → Q (f x)) → (xs : List A) → Each P xs → Each Q (map f xs)
each_map P Q f each [] all = tt
each_map P Q f each (x ∷ xs) all = (each x all.0, each_map P Q f each xs all.1)

lists_are_lines : (conf : ConfSeen) → WritableConf conf → Each IsLine (list_lines conf)
lists_are_lines conf is =
    each_append IsLine (map listen_line conf.listens) _ (each_map WritableListen IsLine listen_line listen_is_line conf.listens is.listens)
    (each_append IsLine (upload_lines conf.upload) _ (uploads_are_lines conf.upload is.upload)
    (each_append IsLine (page_lines conf.page) _ (pages_are_lines conf.page is.page)
    (each_append IsLine (map uplink_line conf.uplinks) _ (each_map WritableUplink IsLine uplink_line uplink_is_line conf.uplinks is.uplinks)
    (groups_are_lines conf.group conf.peers is.group))))

conf_are_lines : (conf : ConfSeen) → WritableConf conf → Each IsLine (conf_lines conf)
conf_are_lines conf is =
    let code : is_word (decimal conf.code) ≡ true = decimal_word conf.code (let small = is.code in omega arith) in
    let up : is_word (decimal conf.up_timeout) ≡ true = decimal_word conf.up_timeout (let small = is.up_timeout.1 in omega arith) in
    let client : is_word (decimal conf.client_timeout) ≡ true = decimal_word conf.client_timeout (let small = is.client_timeout.1 in omega arith) in
    let most : is_word (decimal conf.max_clients) ≡ true = decimal_word conf.max_clients (let small = is.max_clients.1 in omega arith) in
    let window : is_word (decimal conf.dupe_window) ≡ true = decimal_word conf.dupe_window (let small = is.dupe_window.1 in omega arith) in (
      (refl, rw is.server.word refl),
      (
        (refl, rw code refl),
        (
          (refl, rw is.admin refl),
          (
            (refl, rw is.email refl),
            ((refl, rw up refl), ((refl, rw client refl), ((refl, rw most refl), ((refl, rw window refl), lists_are_lines conf is)))),
          ),
        ),
      ),
    )

-- the draft behind the lines that stand first, and behind all
abbrev first_draft : ConfSeen → DraftSeen
first_draft conf = record empty {
  server = Some conf.server;
  code = Some conf.code;
  admin = Some conf.admin;
  email = Some conf.email;
  up_timeout = Some conf.up_timeout;
  client_timeout = Some conf.client_timeout;
  max_clients = Some conf.max_clients;
  dupe_window = Some conf.dupe_window;
}

abbrev whole_draft : ConfSeen → DraftSeen
whole_draft conf = record (first_draft conf) { listens = conf.listens; upload = conf.upload; page = conf.page; uplinks = conf.uplinks; group = conf.group; peers = conf.peers }

first_say : (conf : ConfSeen) (lines : List (List (List ℕ))) → WritableConf conf → all_say empty (identity_lines conf ++ (limit_lines conf ++ lines)) ≡ all_say (first_draft conf) lines
first_say conf lines is =
    rw (
      is.server.station,
      code_again conf.code is.code,
      time_again conf.up_timeout is.up_timeout,
      time_again conf.client_timeout is.client_timeout,
      number_again 1 10000 conf.max_clients is.max_clients (omega arith),
      window_again conf.dupe_window is.dupe_window,
    ) refl

conf_says : (conf : ConfSeen) → WritableConf conf → all_say empty (conf_lines conf) ≡ Ok (whole_draft conf)
conf_says conf is =
    let group : List (List (List ℕ)) = group_lines conf.group conf.peers in
    let first : DraftSeen = first_draft conf in
    let second : DraftSeen = record first { listens = conf.listens } in
    let third : DraftSeen = record second { upload = conf.upload } in
    let fourth : DraftSeen = record third { page = conf.page } in
    let fifth : DraftSeen = record fourth { uplinks = conf.uplinks } in
    let uplinks : List (List (List ℕ)) = map uplink_line conf.uplinks in
    let pages : List (List (List ℕ)) = page_lines conf.page in
    let counted = count_all conf.listens conf.upload conf.page in
    let room : 0 + length conf.listens ≤ 16 = (let few = is.few_listens in omega arith) in
    let one_less : length (all_listens conf.listens conf.upload None) ≤ 16 = (let few = is.few_listens in omega (arith, count_all conf.listens conf.upload None)) in
    let space : 0 + length conf.uplinks ≤ 8 = (let few = is.few_uplinks in omega arith) in
    first_say conf (list_lines conf) is
    ∙ all_say-append first second (map listen_line conf.listens) (upload_lines conf.upload ++ (pages ++ (uplinks ++ group))) (listens_say first conf.listens is.listens room)
    ∙ all_say-append second third (upload_lines conf.upload) (pages ++ (uplinks ++ group)) (uploads_say second conf.upload is.upload refl one_less)
    ∙ all_say-append third fourth pages (uplinks ++ group) (pages_say third conf.page is.page refl is.few_listens)
    ∙ all_say-append fourth fifth uplinks group (uplinks_say fourth conf.uplinks is.uplinks space)
    ∙ groups_say fifth conf.group conf.peers is.group refl refl

made_of : (conf : ConfSeen) → 1 ≤ length conf.listens → conf_with (whole_draft conf) ≡ Ok conf
made_of conf some = rw (ne_eqb (length conf.listens) 0 (λ e. omega arith)) refl

pub written_again : (text : List ℕ) (conf : ConfSeen) → conf_of text ≡ Ok conf → conf_of (text_of_conf conf) ≡ Ok conf
unfolding conf_of text_of_conf
written_again text conf h =
    let is = IfOk-at_ok WritableConf h (conf_writable text) in
    ap (λ (r : Result DraftSeen ConfError). r >>= conf_with) (lines_again 1 empty (whole_draft conf) (conf_lines conf) (conf_are_lines conf is) (conf_says conf is))
    ∙ made_of conf is.some_listens
