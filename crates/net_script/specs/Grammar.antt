-- The grammar of a script: its lines, and what each says over those before it.
use Rattle.std.specs.Prelude.{ℕ, ◌+◌, ◌==◌, ◌&&◌, ◌||◌, Bool, true, false, if◌then◌else◌, nat_le, nat_lt, not, List, [], ◌∷◌, ◌++◌, length, take, drop, codes, Option, Some, None, is_some, slice_index}
use Rattle.std.specs.Char.{is_ascii_digit}
use Rattle.std.specs.List.{count_by, find, list_all, list_any, position, slice_split}
use Rattle.std.specs.Option.{option_map}
use Rattle.std.specs.Str.{byte}
use Rattle.aprs_base.specs.Bytes.{is_blank, is_call, is_line}
use Rattle.aprs_base.specs.OptionSteps.{◌>>=◌}
use Rattle.aprs_conf.specs.Arguments.{same, station_of}
use Rattle.login_pass.specs.Login.{number_from}
use Rattle.net_history.specs.declared.events.Pair.{Pair}
use Rattle.net_history.specs.declared.events.PeerPair.{PeerPair}
use Rattle.net_script.specs.declared.types.ScriptServer.{ScriptServer}
use Rattle.net_script.specs.declared.types.ScriptStep.{ScriptStep}
use Rattle.net_script.specs.declared.types.ScriptStep.TheVariants as step
use Rattle.net_script.specs.declared.words.LineWord.{LineWord}
use Rattle.net_script.specs.declared.words.LineWord.TheVariants as word
use Rattle.net_script.specs.declared.words.StepWord.{StepWord}
use Rattle.net_script.specs.declared.words.StepWord.TheVariants as verb
use Rattle.net_script.specs.Seen.{ScriptSeen}

-- ---- lines and words

abbrev pub is_feed : ℕ → Bool
is_feed b = b == byte "\n"

-- behind the last line feed there is a line where there is a byte
abbrev pub last_line : List ℕ → List (List ℕ)
last_line [] = []
last_line (b ∷ more) = (b ∷ more) ∷ []

abbrev pub ended : List (List ℕ) → List (List ℕ)
ended [] = []
ended (last ∷ []) = last_line last
ended (line ∷ next ∷ more) = line ∷ ended (next ∷ more)

abbrev pub lines_of : List ℕ → List (List ℕ)
lines_of text = ended (slice_split is_feed text)

-- the word before the first blank, and what stands behind that blank
abbrev pub parted : List ℕ → Option (List ℕ × List ℕ)
parted text = option_map (λ place. (take place text, drop (place + 1) text)) (position is_blank text)

-- three words, of which the last has all that is left
abbrev pub in_three : List ℕ → Option (List ℕ × List ℕ × List ℕ)
in_three text = do
  first ← parted text
  second ← parted first.1
  Some (first.0, second.0, second.1)

-- ---- what a word may be. No call and no number has a blank

abbrev pub call_of : List ℕ → Option (List ℕ)
call_of text = if is_call text then Some text else None

abbrev pub line_of : List ℕ → Option (List ℕ)
line_of text = if is_line text then Some text else None

-- 1 to 12 digits
abbrev pub number_of : List ℕ → Option ℕ
number_of text = if nat_le 1 (length text) && nat_le (length text) 12 && list_all is_ascii_digit text then Some (number_from 0 text) else None

-- a number in a range above zero, which begins with no zero
abbrev pub is_within : ℕ → ℕ → List ℕ → ℕ → Bool
is_within least most text n = not (slice_index text 0 == byte "0") && nat_le least n && nat_le n most

abbrev pub count_within : ℕ → ℕ → List ℕ → Option ℕ
count_within least most text = number_of text >>= λ n. if is_within least most text n then Some n else None

-- ---- what the lines before have made

abbrev pub unless : Bool → {A : Type 0} → Option A → Option A
unless bad more = if bad then None else more

-- the number of the server with that call
abbrev pub server_at : ScriptSeen → List ℕ → Option ℕ
server_at script call = position (λ server. same server.call call) script.servers

-- two servers that differ
abbrev pub two_servers : ScriptSeen → List ℕ → List ℕ → Option (ℕ × ℕ)
two_servers script a b = do
  first ← server_at script a
  second ← server_at script b
  unless (first == second) (Some (first, second))

abbrev pub two_in : ScriptSeen → List ℕ → Option (ℕ × ℕ)
two_in script text = parted text >>= λ words. two_servers script words.0 words.1

-- an uplink of the one to the other
abbrev pub goes : ℕ → ℕ → Pair → Bool
goes low high pair = pair.low == low && pair.high == high

abbrev pub pair_at : ℕ → ℕ → List Pair → Option ℕ
pair_at low high pairs = position (goes low high) pairs

abbrev pub joins : ℕ → ℕ → Pair → Bool
joins a b pair = goes a b pair || goes b a pair

abbrev pub are_joined : ℕ → ℕ → List Pair → Bool
are_joined a b pairs = list_any (joins a b) pairs

abbrev pub uplinks_of : ℕ → List Pair → ℕ
uplinks_of server pairs = count_by (λ pair. pair.low == server) pairs

-- the two are peers of each other
abbrev pub joins_peers : ℕ → ℕ → PeerPair → Bool
joins_peers a b pair = (pair.a == a && pair.b == b) || (pair.a == b && pair.b == a)

abbrev pub are_peers : ℕ → ℕ → List PeerPair → Bool
are_peers a b peers = list_any (joins_peers a b) peers

abbrev pub has_peer : ℕ → PeerPair → Bool
has_peer server pair = pair.a == server || pair.b == server

abbrev pub peers_of : ℕ → List PeerPair → ℕ
peers_of server peers = count_by (has_peer server) peers

-- ---- servers and what joins them

-- the call, and the duplicate window in seconds: 30 where none is said
abbrev pub with_window : List ℕ → Option (List ℕ × List ℕ) → Option (List ℕ × ℕ)
with_window text None = Some (text, 30)
with_window text (Some words) = count_within 10 300 words.1 >>= λ window. Some (words.0, window)

-- `server CALL` or `server CALL W`: the call of a station, and at most 16
abbrev pub server_in : ScriptSeen → List ℕ → Option ScriptServer
server_in script text = do
  words ← with_window text (parted text)
  call ← station_of words.0
  unless (is_some (server_at script call) || nat_le 16 (length script.servers)) (Some (record { call = call; window = words.1 }))

-- `uplink A B`, to the first listener of B: at most 8 of A, and one for two servers
abbrev pub uplink_in : ScriptSeen → List ℕ → Option Pair
uplink_in script text = do
  ends ← two_in script text
  unless (are_joined ends.0 ends.1 script.pairs || nat_le 8 (uplinks_of ends.0 script.pairs))
      (Some (record { low = ends.0; uplink = uplinks_of ends.0 script.pairs; high = ends.1; listener = 0 }))

-- `peer A B`: at most 8 of each, and one for two servers
abbrev pub peer_in : ScriptSeen → List ℕ → Option PeerPair
peer_in script text = do
  ends ← two_in script text
  unless (are_peers ends.0 ends.1 script.peers || (nat_le 8 (peers_of ends.0 script.peers) || nat_le 8 (peers_of ends.1 script.peers)))
      (Some (record { a = ends.0; at_a = peers_of ends.0 script.peers; b = ends.1; at_b = peers_of ends.1 script.peers }))

-- ---- steps

-- `open A CALL`
abbrev pub open_in : ScriptSeen → List ℕ → Option ScriptStep
open_in script text = do
  words ← parted text
  server ← server_at script words.0
  call ← call_of words.1
  Some (step.Open server call)

-- `say A CALL TEXT`
abbrev pub say_in : ScriptSeen → List ℕ → Option ScriptStep
say_in script text = do
  words ← in_three text
  server ← server_at script words.0
  call ← call_of words.1
  line ← line_of words.2
  Some (step.Say server call line)

-- `round A MOMENT`
abbrev pub round_in : ScriptSeen → List ℕ → Option ScriptStep
round_in script text = do
  words ← parted text
  server ← server_at script words.0
  moment ← number_of words.1
  Some (step.Round server moment)

-- A and B in the order of their `uplink`
abbrev pub pair_in : ScriptSeen → List ℕ → Option ℕ
pair_in script text = two_in script text >>= λ ends. pair_at ends.0 ends.1 script.pairs

-- `join A B`
abbrev pub join_in : ScriptSeen → List ℕ → Option ScriptStep
join_in script text = pair_in script text >>= λ pair. Some (step.Join pair)

-- `cut A B`
abbrev pub cut_in : ScriptSeen → List ℕ → Option ScriptStep
cut_in script text = pair_in script text >>= λ pair. Some (step.Cut pair)

-- the pair, and whether the way is up: from the server with the uplink
abbrev pub or_down : Option ℕ → Option ℕ → Option (ℕ × Bool)
or_down (Some up) down = Some (up, true)
or_down None (Some down) = Some (down, false)
or_down None None = None

abbrev pub way_between : ℕ → ℕ → List Pair → Option (ℕ × Bool)
way_between a b pairs = or_down (pair_at a b pairs) (pair_at b a pairs)

-- `carry A B N`: from A to B
abbrev pub carry_in : ScriptSeen → List ℕ → Option ScriptStep
carry_in script text = do
  words ← in_three text
  ends ← two_servers script words.0 words.1
  way ← way_between ends.0 ends.1 script.pairs
  n ← count_within 1 1460 words.2
  Some (step.Carry way.0 way.1 n)

-- `cast A B K`
abbrev pub cast_in : ScriptSeen → List ℕ → Option ScriptStep
cast_in script text = do
  words ← in_three text
  ends ← two_servers script words.0 words.1
  k ← count_within 1 4294967295 words.2
  unless (not (are_peers ends.0 ends.1 script.peers)) (Some (step.Cast ends.0 ends.1 k))

abbrev pub step_in : StepWord → ScriptSeen → List ℕ → Option ScriptStep
step_in verb.Open script text = open_in script text
step_in verb.Say script text = say_in script text
step_in verb.Round script text = round_in script text
step_in verb.Join script text = join_in script text
step_in verb.Cut script text = cut_in script text
step_in verb.Carry script text = carry_in script text
step_in verb.Cast script text = cast_in script text

-- ---- a line

-- the words that begin a line
pub record WordRow : Type 0 where
  pub name : List ℕ
  pub word : LineWord

abbrev pub word_row : List ℕ → LineWord → WordRow
word_row name w = record { name = name; word = w }

abbrev pub line_words : List WordRow
line_words =
    word_row (codes "server") word.Server
    ∷ word_row (codes "uplink") word.Uplink
    ∷ word_row (codes "peer") word.Peer
    ∷ word_row (codes "open") (word.Step verb.Open)
    ∷ word_row (codes "say") (word.Step verb.Say)
    ∷ word_row (codes "round") (word.Step verb.Round)
    ∷ word_row (codes "join") (word.Step verb.Join)
    ∷ word_row (codes "cut") (word.Step verb.Cut)
    ∷ word_row (codes "carry") (word.Step verb.Carry)
    ∷ word_row (codes "cast") (word.Step verb.Cast)
    ∷ []

abbrev pub word_of : List ℕ → Option LineWord
word_of text = option_map (λ row. row.word) (find (λ row. same text row.name) line_words)

-- the script with what a line adds
abbrev pub with_server : ScriptSeen → ScriptServer → Option ScriptSeen
with_server script server = Some (record script { servers = script.servers ++ server ∷ [] })

abbrev pub with_pair : ScriptSeen → Pair → Option ScriptSeen
with_pair script pair = Some (record script { pairs = script.pairs ++ pair ∷ [] })

abbrev pub with_peers : ScriptSeen → PeerPair → Option ScriptSeen
with_peers script pair = Some (record script { peers = script.peers ++ pair ∷ [] })

abbrev pub with_step : ℕ → ScriptSeen → ScriptStep → Option ScriptSeen
with_step number script step = Some (record script { steps = script.steps ++ record { number = number; step = step } ∷ [] })

unfoldable pub server_says : ScriptSeen → List ℕ → Option ScriptSeen
server_says script text = server_in script text >>= with_server script

unfoldable pub uplink_says : ScriptSeen → List ℕ → Option ScriptSeen
uplink_says script text = uplink_in script text >>= with_pair script

unfoldable pub peer_says : ScriptSeen → List ℕ → Option ScriptSeen
peer_says script text = peer_in script text >>= with_peers script

unfoldable pub step_says : StepWord → ℕ → ScriptSeen → List ℕ → Option ScriptSeen
step_says verb number script text = step_in verb script text >>= with_step number script

-- servers and what joins them stand before the first step
abbrev pub is_begun : ScriptSeen → Bool
is_begun script = nat_lt 0 (length script.steps)

abbrev pub says : LineWord → ℕ → ScriptSeen → List ℕ → Option ScriptSeen
says word.Server number script text = unless (is_begun script) (server_says script text)
says word.Uplink number script text = unless (is_begun script) (uplink_says script text)
says word.Peer number script text = unless (is_begun script) (peer_says script text)
says (word.Step verb) number script text = step_says verb number script text

-- the script with the line of this number, or none where the line is a bad step
unfoldable pub after : ℕ → ScriptSeen → List ℕ → Option ScriptSeen
after number script line = do
  words ← parted line
  word ← word_of words.0
  says word number script words.1
