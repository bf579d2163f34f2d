-- What every configuration that is read is: its texts are words, and its numbers and counts are in their ranges.
use Rattle.std.proofs.Common.{◌≡◌, ℕ, ◌+◌, ◌*◌, ◌%◌, ◌<◌, ◌≤◌, ◌&&◌, ◌==◌, Bool, true, false, List, [], ◌∷◌, ◌++◌, Option, Some, None, Result, Ok, Err, IfOk, IfSome, length, refl, arith, rules, nat_le}
use Rattle.std.specs.Prelude.{not, option_map, unwrap_or}
use Rattle.std.specs.List.{AllByRecursion as Each, list_all, find}
use Rattle.std.proofs.lemmas.Bool.{and_parts, cond_both, eqb-false, leb-true, leb-false, not-false}
use Rattle.std.proofs.lemmas.List.{length-append}
use Rattle.std.proofs.lemmas.Result.{IfOk-weaker}
use Rattle.aprs_base.specs.Bytes.{is_station}
use Rattle.aprs_base.specs.UplinkSeen.{UplinkSeen}
use Rattle.aprs_base.specs.declared.texts.Addr.{Addr}
use Rattle.aprs_conf.specs.declared.arguments.Service.{Service}
use Rattle.aprs_conf.specs.declared.errors.ConfError.TheVariants as cause
use Rattle.aprs_conf.specs.declared.errors.ConfFault.{ConfFault}
use Rattle.aprs_conf.specs.declared.errors.ConfFault.TheVariants as fault
use Rattle.aprs_conf.specs.declared.errors.ConfWord.TheVariants as needed
use Rattle.aprs_conf.specs.declared.reading.LineWord.{LineWord}
use Rattle.aprs_conf.specs.declared.reading.LineWord.TheVariants as word
use Rattle.aprs_conf.specs.declared.types.Listen.{Listen}
use Rattle.aprs_conf.specs.declared.types.PeerSpec.{PeerSpec}
use Rattle.aprs_conf.specs.Arguments.{PortRow, clients_of, code_of, host_of, ip_of, kind_of, port_of, ports, same, station_of, time_of, udp, window_of}
use Rattle.aprs_conf.specs.Grammar.{after, at_line, at_of, conf_of, conf_with, drafted, empty, filled, five_of, front_in, group_in, group_says, is_full, is_full_feed, is_group, is_hidden_at_most, line_says, listen_in, listen_of, listen_says, need, next, one_of, page_says, peer_of, peers_from, says, time_in_line, two_of, unless, uplink_in, uplink_says, upload_says, was_said, with_listen, with_page, with_uplink, with_upload, word_of}
use Rattle.aprs_base.specs.ResultSteps.{◌>>=◌}
use Rattle.aprs_conf.specs.Seen.{ConfSeen, DraftSeen}
use Rattle.aprs_conf.specs.Served.{all_listens, http_listens, status_listens}
use Rattle.aprs_conf.specs.Sound.{IsWithin}
use Rattle.aprs_conf.specs.Words.{closed, has_open, is_remark, lines_of, words_of}
use Rattle.aprs_conf.specs.Writing.{kind_name, proto_name}
use Rattle.aprs_conf.proofs.WrittenLines.{is_feedless, lines_feedless, words_are}
use Rattle.aprs_conf.proofs.WrittenNumbers.{IsIp, code_small, ip_within, some_where, time_within, window_within, within}
use Rattle.aprs_conf.proofs.WrittenWords.{is_word}

-- ---- what holds of what is read

then_ok : {E A B : Type 0} (P : A → Type 0) (Q : B → Type 0) (r : Result A E) (f : A → Result B E) → IfOk r P → ((x : A) → P x → IfOk (f x) Q) → IfOk (r >>= f) Q
then_ok P Q (Ok x) f is more = more x is
then_ok P Q (Err e) f is more = tt

need_ok : {E A : Type 0} (P : A → Type 0) (e : E) (o : Option A) → IfSome o P → IfOk (need e o) P
need_ok P e (Some x) is = is
need_ok P e None is = tt

wanted : {E A B : Type 0} (P : A → Type 0) (Q : B → Type 0) (e : E) (o : Option A) (f : A → Result B E) → IfSome o P → ((x : A) → P x → IfOk (f x) Q) → IfOk (need e o >>= f) Q
wanted P Q e o f is more = then_ok P Q (need e o) f (need_ok P e o is) more

unless_ok : {A : Type 0} (P : A → Type 0) (bad : Bool) (e : ConfFault) (r : Result A ConfFault) → (bad ≡ false → IfOk r P) → IfOk (unless bad e r) P
unless_ok P bad e r is = cond_both bad (Err e) r (λ s. IfOk s P) (λ _. tt) is

anything : {A : Type 0} (o : Option A) → IfSome o (λ _. Unit {0})
anything None = tt
anything (Some x) = tt

-- ---- what holds of each part

pub each_more : {A : Type 0} (P : A → Type 0) (xs : List A) (x : A) → Each P xs → P x → Each P (xs ++ x ∷ [])
each_more P [] x all last = (last, tt)
each_more P (y ∷ ys) x all last = (all.0, each_more P ys x all.1 last)

or_default : {A : Type 0} (P : A → Type 0) (o : Option A) (d : A) → IfSome o P → P d → P (unwrap_or o d)
or_default P None d is default = default
or_default P (Some x) d is default = is

abbrev pub IsWord : List ℕ → Type 0
IsWord text = is_word text ≡ true

pub record WritableCall (call : List ℕ) : Type 0 where
  pub station : station_of call ≡ Some call
  pub word : IsWord call

abbrev pub IsCode : ℕ → Type 0
IsCode code = code < 100000

pub record WritableAt (at : Addr) : Type 0 where
  pub ip : IsIp at.ip
  pub port : IsWithin 1 65535 at.port

-- a service that a kind and a protocol stand for
pub record WritableService (service : Service) : Type 0 where
  pub again : kind_of (kind_name service.kind) (proto_name service.kind service.idle) ≡ Some service
  pub kind : IsWord (kind_name service.kind)
  pub proto : IsWord (proto_name service.kind service.idle)

pub record WritableListen (listen : Listen) : Type 0 where
  pub name : IsWord listen.name
  pub service : WritableService (record { kind = listen.spec.kind; idle = listen.idle })
  pub at : WritableAt listen.spec.at

pub record WritableUplink (uplink : UplinkSeen) : Type 0 where
  pub host : host_of uplink.host ≡ Some uplink.host
  pub word : IsWord uplink.host
  pub port : IsWithin 1 65535 uplink.port

pub record WritablePeer (peer : PeerSpec) : Type 0 where
  pub call : WritableCall peer.call
  pub at : WritableAt peer.at

pub record WritablePeers (own : Addr) (peers : List PeerSpec) : Type 0 where
  pub at : WritableAt own
  pub some : 1 ≤ length peers
  pub few : length peers ≤ 8
  pub each : Each WritablePeer peers

abbrev pub WritableGroup : Option Addr → List PeerSpec → Type 0
WritableGroup None peers = peers ≡ []
WritableGroup (Some at) peers = WritablePeers at peers

pub record WritableDraft (draft : DraftSeen) : Type 0 where
  pub server : IfSome draft.server WritableCall
  pub code : IfSome draft.code IsCode
  pub admin : IfSome draft.admin IsWord
  pub email : IfSome draft.email IsWord
  pub listens : Each WritableListen draft.listens
  pub upload : IfSome draft.upload WritableAt
  pub page : IfSome draft.page WritableAt
  pub few_listens : length (all_listens draft.listens draft.upload draft.page) ≤ 16
  pub uplinks : Each WritableUplink draft.uplinks
  pub few_uplinks : length draft.uplinks ≤ 8
  pub group : WritableGroup draft.group draft.peers
  pub up_timeout : IfSome draft.up_timeout (IsWithin 1 10000000)
  pub client_timeout : IfSome draft.client_timeout (IsWithin 1 10000000)
  pub max_clients : IfSome draft.max_clients (IsWithin 1 10000)
  pub dupe_window : IfSome draft.dupe_window (IsWithin 10 300)

pub record WritableConf (conf : ConfSeen) : Type 0 where
  pub server : WritableCall conf.server
  pub code : IsCode conf.code
  pub admin : IsWord conf.admin
  pub email : IsWord conf.email
  pub some_listens : 1 ≤ length conf.listens
  pub listens : Each WritableListen conf.listens
  pub upload : IfSome conf.upload WritableAt
  pub page : IfSome conf.page WritableAt
  pub few_listens : length (all_listens conf.listens conf.upload conf.page) ≤ 16
  pub uplinks : Each WritableUplink conf.uplinks
  pub few_uplinks : length conf.uplinks ≤ 8
  pub group : WritableGroup conf.group conf.peers
  pub up_timeout : IsWithin 1 10000000 conf.up_timeout
  pub client_timeout : IsWithin 1 10000000 conf.client_timeout
  pub max_clients : IsWithin 1 10000 conf.max_clients
  pub dupe_window : IsWithin 10 300 conf.dupe_window

-- ---- what is read is such

each_word : (words : List (List ℕ)) → list_all is_word words ≡ true → Each IsWord words
each_word [] h = tt
each_word (word ∷ words) h = let parts = and_parts (is_word word) (list_all is_word words) h in (parts.0, each_word words parts.1)

one_word : (args : List (List ℕ)) → Each IsWord args → IfSome (one_of args) IsWord
one_word (a ∷ []) words = words.0
one_word _ words = tt

station_writable : (text : List ℕ) → IsWord text → IfSome (station_of text) WritableCall
station_writable text word = some_where WritableCall (is_station text) text (λ is. record { station = rw is refl; word = word })

time_writable : (args : List (List ℕ)) → Each IsWord args → IfOk (time_in_line args) (IsWithin 1 10000000)
time_writable args words = wanted IsWord _ fault.BadCount (one_of args) _ (one_word args words) (λ text _. need_ok _ fault.BadTime (time_of text) (time_within text))

at_writable : (address port : List ℕ) → IfOk (at_of address port) WritableAt
at_writable address port =
    wanted IsIp _ fault.BadAddr (ip_of address) _ (ip_within address) (λ ip is.
    wanted (IsWithin 1 65535) _ fault.BadNumber (port_of port) _ (within 1 65535 port) (λ number fits. record { ip = is; port = fits }))

-- ---- listeners

pub count_all : (listens : List Listen) (upload page : Option Addr) → length (all_listens listens upload page) ≡ length listens + (length (http_listens upload) + length (status_listens page))
count_all listens upload page = rw (length-append listens (http_listens upload ++ status_listens page), length-append (http_listens upload) (status_listens page)) refl

-- each row of the table of kinds is a writable service
found : {A : Type 0} (P : A → Type 0) (test : A → Bool) (xs : List A) → Each P xs → IfSome (find test xs) P
found P test [] all = tt
found P test (x ∷ xs) all = cond_both (test x) (Some x) (find test xs) (λ o. IfSome o P) (λ _. all.0) (λ _. found P test xs all.1)

rows_writable : Each (λ (row : PortRow). WritableService row.service) ports
rows_writable = search rules

kind_writable : (text proto : List ℕ) → IfSome (kind_of text proto) WritableService
kind_writable text proto = by (find test ports) (found (λ (row : PortRow). WritableService row.service) test ports rows_writable)
  where
    test : PortRow → Bool
    test row = same text row.word && same proto row.proto

    by : (row : Option PortRow) → IfSome row (λ r. WritableService r.service) → IfSome (option_map (λ (r : PortRow). r.service) row) WritableService
    by None is = tt
    by (Some row) is = is

listen_words : (args : List (List ℕ)) → Each IsWord args → IfSome (listen_of args) (λ five. IsWord five.0)
listen_words (a ∷ b ∷ c ∷ d ∷ e ∷ more) words = some_where (λ five. IsWord five.0) (is_hidden_at_most more) (a, b, c, d, e) (λ _. words.0)
listen_words _ words = tt

listen_in_writable : (args : List (List ℕ)) → Each IsWord args → IfOk (listen_in args) WritableListen
listen_in_writable args words =
    wanted (λ five. IsWord five.0) _ fault.BadCount (listen_of args) _ (listen_words args words) (λ five name.
    wanted WritableService _ fault.BadKind (kind_of five.1 five.2) _ (kind_writable five.1 five.2) (λ service is.
    then_ok WritableAt _ (at_of five.3 five.4) _ (at_writable five.3 five.4) (λ at own. record { name = name; service = is; at = own })))

listen_writable : (draft : DraftSeen) (listen : Listen) → WritableDraft draft → WritableListen listen → IfOk (with_listen draft listen) WritableDraft
listen_writable draft listen s is =
    unless_ok WritableDraft (is_full draft) fault.TooMany _ (λ room.
    let less = leb-false 16 (length (all_listens draft.listens draft.upload draft.page)) room in
    let few : length (all_listens (draft.listens ++ listen ∷ []) draft.upload draft.page) ≤ 16 = omega (arith, count_all draft.listens draft.upload draft.page, count_all (draft.listens ++ listen ∷ []) draft.upload draft.page, length-append draft.listens (listen ∷ [])) in
    let more = each_more WritableListen draft.listens listen s.listens is in
    assumption)

-- ---- requests by HTTP

front_in_writable : (args : List (List ℕ)) → IfOk (front_in args) WritableAt
front_in_writable args = wanted (λ _. Unit {0}) _ fault.BadCount (two_of args) _ (anything (two_of args)) (λ two _. at_writable two.0 two.1)

upload_writable : (draft : DraftSeen) (at : Addr) → WritableDraft draft → WritableAt at → IfOk (with_upload draft at) WritableDraft
upload_writable draft at s is =
    unless_ok WritableDraft (is_full draft) fault.TooMany _ (λ room.
    let less = leb-false 16 (length (all_listens draft.listens draft.upload draft.page)) room in
    let few : length (all_listens draft.listens (Some at) draft.page) ≤ 16 = omega (arith, count_all draft.listens draft.upload draft.page, count_all draft.listens (Some at) draft.page) in
    assumption)

page_writable : (draft : DraftSeen) (at : Addr) → WritableDraft draft → WritableAt at → IfOk (with_page draft at) WritableDraft
page_writable draft at s is =
    unless_ok WritableDraft (is_full draft) fault.TooMany _ (λ room.
    let less = leb-false 16 (length (all_listens draft.listens draft.upload draft.page)) room in
    let few : length (all_listens draft.listens draft.upload (Some at)) ≤ 16 = omega (arith, count_all draft.listens draft.upload draft.page, count_all draft.listens draft.upload (Some at)) in
    assumption)

-- ---- uplinks

five_words : (args : List (List ℕ)) → Each IsWord args → IfSome (five_of args) (λ five. IsWord five.3)
five_words (a ∷ b ∷ c ∷ d ∷ e ∷ []) words = words.1.1.1.0
five_words _ words = tt

host_writable : (text : List ℕ) → IsWord text → IfSome (host_of text) (λ host. (host_of host ≡ Some host) × IsWord host)
host_writable text word = some_where (λ host. (host_of host ≡ Some host) × IsWord host) (nat_le 1 (length text) && nat_le (length text) 64) text (λ is. (rw is refl, word))

uplink_in_writable : (args : List (List ℕ)) → Each IsWord args → IfOk (uplink_in args) WritableUplink
uplink_in_writable args words =
    wanted (λ five. IsWord five.3) _ fault.BadCount (five_of args) _ (five_words args words) (λ five word.
    unless_ok WritableUplink (not (is_full_feed five.1 five.2)) fault.BadKind _ (λ _.
    wanted _ _ fault.BadHost (host_of five.3) _ (host_writable five.3 word) (λ host own.
    wanted (IsWithin 1 65535) _ fault.BadNumber (port_of five.4) _ (within 1 65535 five.4) (λ port fits. record { host = own.0; word = own.1; port = fits }))))

uplink_writable : (draft : DraftSeen) (uplink : UplinkSeen) → WritableDraft draft → WritableUplink uplink → IfOk (with_uplink draft uplink) WritableDraft
uplink_writable draft uplink s is =
    unless_ok WritableDraft (nat_le 8 (length draft.uplinks)) fault.TooMany _ (λ room.
    let less = leb-false 8 (length draft.uplinks) room in
    let few : length (draft.uplinks ++ uplink ∷ []) ≤ 8 = omega (arith, length-append draft.uplinks (uplink ∷ [])) in
    let more = each_more WritableUplink draft.uplinks uplink s.uplinks is in
    assumption)

-- ---- a group and its peers

peer_writable : (name address port : List ℕ) → IsWord name → IfOk (peer_of name address port) WritablePeer
peer_writable name address port word =
    wanted WritableCall _ fault.BadCall (station_of name) _ (station_writable name word) (λ call is.
    then_ok WritableAt _ (at_of address port) _ (at_writable address port) (λ at own. record { call = is; at = own }))

abbrev ReadPeers : List PeerSpec → List (List ℕ) → List PeerSpec → Type 0
ReadPeers before args peers = Each WritablePeer peers × (3 * length peers ≡ 3 * length before + length args)

peers_writable : (before : List PeerSpec) (args : List (List ℕ)) → Each IsWord args → Each WritablePeer before → IfOk (peers_from before args) (ReadPeers before args)
peers_writable before [] words s = (s, omega arith)
peers_writable before (call ∷ []) words s = tt
peers_writable before (call ∷ address ∷ []) words s = tt
peers_writable before (call ∷ address ∷ port ∷ more) words s =
    then_ok WritablePeer _ (peer_of call address port) _ (peer_writable call address port words.0) (λ peer own.
    let rest = peers_writable (before ++ peer ∷ []) more words.1.1.1 (each_more WritablePeer before peer s own) in
    IfOk-weaker (peers_from (before ++ peer ∷ []) more) _ (ReadPeers before (call ∷ address ∷ port ∷ more)) (λ peers read.
    let size = read.1 in
    (read.0, omega (arith, length-append before (peer ∷ [])))) rest)

abbrev ReadGroup : List (List ℕ) → Addr × List (List ℕ) → Type 0
ReadGroup args group = WritableAt group.0 × Each IsWord group.1 × (length args ≡ 4 + length group.1)

group_in_writable : (args : List (List ℕ)) → Each IsWord args → IfOk (group_in args) (ReadGroup args)
group_in_writable (name ∷ proto ∷ address ∷ port ∷ more) words =
    unless_ok _ (not (same proto udp)) fault.BadKind _ (λ _.
    then_ok WritableAt _ (at_of address port) _ (at_writable address port) (λ at own. (own, words.1.1.1.1, omega arith)))
group_in_writable _ words = tt

group_writable : (draft : DraftSeen) (args : List (List ℕ)) → WritableDraft draft → Each IsWord args → IfOk (group_says draft args) WritableDraft
unfolding group_says
group_writable draft args s words =
    unless_ok WritableDraft (not (is_group args)) fault.BadCount _ (λ count.
    then_ok (ReadGroup args) _ (group_in args) _ (group_in_writable args words) (λ group own.
    then_ok (ReadPeers [] group.1) _ (peers_from [] group.1) _ (peers_writable [] group.1 own.1 tt) (λ peers read.
    let right = and_parts (nat_le 7 (length args) && nat_le (length args) 28) (length args % 3 == 1) (not-false (is_group args) count) in
    let range = and_parts (nat_le 7 (length args)) (nat_le (length args) 28) right.0 in
    let low = leb-true 7 (length args) range.0 in
    let high = leb-true (length args) 28 range.1 in
    let size = own.2 in
    let tripled = read.1 in
    let is : WritablePeers group.0 peers = record { at = own.0; some = omega arith; few = omega arith; each = read.0 } in
    assumption)))

-- ---- lines

says_writable : (w : LineWord) (draft : DraftSeen) (args : List (List ℕ)) → WritableDraft draft → Each IsWord args → IfOk (says w draft args) WritableDraft
unfolding group_says listen_says page_says uplink_says upload_says
says_writable word.ServerId draft args s words =
    wanted IsWord _ fault.BadCount (one_of args) _ (one_word args words) (λ text own. wanted WritableCall _ fault.BadCall (station_of text) _ (station_writable text own) (λ call is. assumption))
says_writable word.PassCode draft args s words =
    wanted IsWord _ fault.BadCount (one_of args) _ (one_word args words) (λ text _. wanted IsCode _ fault.BadNumber (code_of text) _ (code_small text) (λ code is. assumption))
says_writable word.MyAdmin draft args s words = wanted IsWord _ fault.BadCount (one_of args) _ (one_word args words) (λ text is. assumption)
says_writable word.MyEmail draft args s words = wanted IsWord _ fault.BadCount (one_of args) _ (one_word args words) (λ text is. assumption)
says_writable word.Listen draft args s words = then_ok WritableListen _ (listen_in args) _ (listen_in_writable args words) (λ listen. listen_writable draft listen s)
says_writable word.HttpUpload draft args s words = then_ok WritableAt _ (front_in args) _ (front_in_writable args) (λ at. upload_writable draft at s)
says_writable word.HttpStatus draft args s words = then_ok WritableAt _ (front_in args) _ (front_in_writable args) (λ at. page_writable draft at s)
says_writable word.Uplink draft args s words = then_ok WritableUplink _ (uplink_in args) _ (uplink_in_writable args words) (λ uplink. uplink_writable draft uplink s)
says_writable word.PeerGroup draft args s words = group_writable draft args s words
says_writable word.UpstreamTimeout draft args s words = then_ok (IsWithin 1 10000000) _ (time_in_line args) _ (time_writable args words) (λ time is. assumption)
says_writable word.ClientTimeout draft args s words = then_ok (IsWithin 1 10000000) _ (time_in_line args) _ (time_writable args words) (λ time is. assumption)
says_writable word.MaxClients draft args s words =
    wanted IsWord _ fault.BadCount (one_of args) _ (one_word args words) (λ text _. wanted (IsWithin 1 10000) _ fault.BadNumber (clients_of text) _ (within 1 10000 text) (λ most is. assumption))
says_writable word.DupeWindow draft args s words =
    wanted IsWord _ fault.BadCount (one_of args) _ (one_word args words) (λ text _. wanted (IsWithin 10 300) _ fault.BadTime (window_of text) _ (window_within text) (λ window is. assumption))
says_writable word.Unused draft args s words = unless_ok WritableDraft (length args == 0) fault.BadCount _ (λ _. s)

line_writable : (draft : DraftSeen) (words : List (List ℕ)) → WritableDraft draft → Each IsWord words → IfOk (line_says draft words) WritableDraft
line_writable draft [] s words = s
line_writable draft (name ∷ args) s words =
    wanted (λ _. Unit {0}) _ fault.UnknownWord (word_of name) _ (anything (word_of name)) (λ w _. unless_ok WritableDraft (was_said w draft) fault.Repeated _ (λ _. says_writable w draft args s words.1))

after_writable : (draft : DraftSeen) (line : List ℕ) → WritableDraft draft → is_feedless line ≡ true → IfOk (after draft line) WritableDraft
unfolding after
after_writable draft line s fed =
    let words = words_of line in
    cond_both (is_remark words) (Ok draft) (unless (has_open words) fault.OpenQuote (line_says draft (closed words))) (λ r. IfOk r WritableDraft) (λ _. s)
    (λ _. unless_ok WritableDraft (has_open words) fault.OpenQuote _ (λ _. line_writable draft (closed words) s (each_word (closed words) (words_are line fed))))

drafted_writable : (n : ℕ) (draft : DraftSeen) (lines : List (List ℕ)) → WritableDraft draft → list_all is_feedless lines ≡ true → IfOk (drafted n draft lines) WritableDraft
drafted_writable n draft [] s fed = s
drafted_writable n draft (line ∷ lines) s fed =
    let parts = and_parts (is_feedless line) (list_all is_feedless lines) fed in
    then_ok WritableDraft _ (at_line n (after draft line)) _ (at_line_ok (after draft line) (after_writable draft line s parts.0)) (λ more is. drafted_writable (next n) more lines is parts.1)
  where
    at_line_ok : (r : Result DraftSeen ConfFault) → IfOk r WritableDraft → IfOk (at_line n r) WritableDraft
    at_line_ok (Ok new) is = is
    at_line_ok (Err e) is = tt

-- ---- the whole

empty_writable : WritableDraft empty
empty_writable = record {
  server = tt;
  code = tt;
  admin = tt;
  email = tt;
  listens = tt;
  upload = tt;
  page = tt;
  few_listens = omega arith;
  uplinks = tt;
  few_uplinks = omega arith;
  group = refl;
  up_timeout = tt;
  client_timeout = tt;
  max_clients = tt;
  dupe_window = tt;
}

conf_with_writable : (draft : DraftSeen) → WritableDraft draft → IfOk (conf_with draft) WritableConf
conf_with_writable draft s =
    wanted WritableCall _ (cause.Missing needed.ServerId) draft.server _ s.server (λ server named.
    wanted IsCode _ (cause.Missing needed.PassCode) draft.code _ s.code (λ code fits.
    cond_both (length draft.listens == 0) (Err (cause.Missing needed.Listen)) (Ok (filled draft server code)) (λ r. IfOk r WritableConf) (λ _. tt) (λ any.
    let some : length draft.listens ≡ 0 → ⊥ = eqb-false (length draft.listens) 0 any in
    record {
      server = named;
      code = fits;
      admin = or_default IsWord draft.admin [] s.admin refl;
      email = or_default IsWord draft.email [] s.email refl;
      some_listens = omega arith;
      listens = s.listens;
      upload = s.upload;
      page = s.page;
      few_listens = s.few_listens;
      uplinks = s.uplinks;
      few_uplinks = s.few_uplinks;
      group = s.group;
      up_timeout = or_default (IsWithin 1 10000000) draft.up_timeout 15 s.up_timeout (omega arith, omega arith);
      client_timeout = or_default (IsWithin 1 10000000) draft.client_timeout 172800 s.client_timeout (omega arith, omega arith);
      max_clients = or_default (IsWithin 1 10000) draft.max_clients 500 s.max_clients (omega arith, omega arith);
      dupe_window = or_default (IsWithin 10 300) draft.dupe_window 30 s.dupe_window (omega arith, omega arith);
    })))

pub conf_writable : (text : List ℕ) → IfOk (conf_of text) WritableConf
unfolding conf_of
conf_writable text = then_ok WritableDraft _ (drafted 1 empty (lines_of text)) _ (drafted_writable 1 empty (lines_of text) empty_writable (lines_feedless text)) conf_with_writable
