-- The words that the program is started with, and the command by which `clap` reads them.
use Rattle.std.specs.Prelude.{ℕ, drop, ◌*◌, ◌||◌, nat_le, Bool, false, true, if◌then◌else◌, List, [], ◌∷◌, codes, Option, Some, None, unwrap_or}
use Rattle.std.specs.Option.{option_and_then, option_map_or}
use Rattle.std.specs.Str.{byte, bytes_eq}
use Rattle.std.specs.Str.Parse.{digits_value, without_leading_plus}
use Rattle.clap.specs.ValueTests.{is_unsigned_in}
use Rattle.clap.specs.Words.{App, Kinds, Row, Rule, fault_of, first_of, matches_of, new_app, new_rule, one_of, with_rule}
use Rattle.clap.specs.declared.builder.ArgAction.TheVariants.{Set, SetTrue}
use Rattle.clap.specs.declared.builder.value_parser.ValueParser.TheVariants as vp
use Rattle.aprsc_daemon.specs.declared.words.DrillWords.{DrillWords}
use Rattle.aprsc_daemon.specs.declared.words.Task.{Task}
use Rattle.aprsc_daemon.specs.declared.words.Task.TheVariants as task

-- what the words ask of the server: the file of its configuration, the most workers, and what is to be done
pub record ServerWordsSeen : Type 0 where
  pub file : List ℕ
  pub workers : ℕ
  pub task : Task

-- what they ask of a network: the file of its script
pub record NetWordsSeen : Type 0 where
  pub file : List ℕ

-- ---- the server's command

-- `-c FILE`, once
unfoldable pub file_rule : Rule
file_rule = record (new_rule (codes "file")) { short = Some (byte "c"); action = Some Set; required = true }

-- `-w N`, at most once: a whole number from 1 to 64
unfoldable pub workers_rule : Rule
workers_rule = record (new_rule (codes "workers")) { short = Some (byte "w"); action = Some Set; parser = Some (vp.Unsigned 1 64); defaults = codes "1" ∷ [] }

-- `-y`, at most once
unfoldable pub check_rule : Rule
check_rule = record (new_rule (codes "check")) { short = Some (byte "y"); action = Some SetTrue }

-- a command that has no word for its own name, and no flag for help or its version
unfoldable pub bare_app : App
bare_app = record (new_app (codes "aprsc")) {
  top = record (new_app (codes "aprsc")).top { no_binary_name = true; disable_help_flag = true; disable_version_flag = true };
}

abbrev pub server_app : App
server_app = with_rule (with_rule (with_rule bare_app file_rule) workers_rule) check_rule

-- ---- the drill's command

-- a whole number in a range, as a word of its own
unfoldable pub number_rule : (id : List ℕ) → (low high : ℕ) → Rule
number_rule id low high = record (new_rule id) { action = Some Set; required = true; parser = Some (vp.Unsigned low high) }

abbrev pub seed_rule : Rule
seed_rule = number_rule (codes "seed") 0 2147483647

abbrev pub lines_rule : Rule
lines_rule = number_rule (codes "lines") 1 100000

abbrev pub links_rule : Rule
links_rule = number_rule (codes "links") 2 1000

abbrev pub drill_app : App
drill_app = with_rule (with_rule (with_rule (with_rule bare_app seed_rule) lines_rule) links_rule) workers_rule

-- ---- the network's command

-- the name of a file, as a word of its own
unfoldable pub script_rule : Rule
script_rule = record (new_rule (codes "file")) { action = Some Set; required = true }

abbrev pub net_app : App
net_app = with_rule bare_app script_rule

-- ---- what the words ask for

-- the first word is the name of this mode
abbrev pub begins_with : List ℕ → List (List ℕ) → Bool
begins_with mode [] = false
begins_with mode (first ∷ others) = bytes_eq first mode

-- it calls for another mode than the server
abbrev pub names_mode : List (List ℕ) → Bool
names_mode words = begins_with (codes "drill") words || begins_with (codes "net") words

-- a number of a range in digits
abbrev pub number_in : (low high : ℕ) → List ℕ → ℕ
number_in low high text = if is_unsigned_in low high text then digits_value 10 (without_leading_plus text) else low

-- the number that an argument's value is
abbrev pub number_of : List Row → (id : List ℕ) → (low high : ℕ) → ℕ
number_of rows id low high = option_map_or (number_in low high) (one_of id rows) low

abbrev pub task_of : Option (List ℕ) → Task
task_of None = task.Serve
task_of (Some text) = if bytes_eq text (codes "true") then task.Check else task.Serve

-- what the values of the command's arguments say
abbrev pub said_by : List Row → ServerWordsSeen
said_by rows = record {
  file = unwrap_or (first_of (codes "file") rows) [];
  workers = number_of rows (codes "workers") 1 64;
  task = task_of (one_of (codes "check") rows);
}

abbrev pub drill_said_by : List Row → DrillWords
drill_said_by rows = record {
  plan = record {
    seed = number_of rows (codes "seed") 0 2147483647;
    lines = number_of rows (codes "lines") 1 100000;
    links = number_of rows (codes "links") 2 1000;
  };
  workers = number_of rows (codes "workers") 1 64;
}

abbrev pub net_said_by : List Row → NetWordsSeen
net_said_by rows = record { file = unwrap_or (first_of (codes "file") rows) [] }

-- this, unless there is a fault
abbrev pub without_fault : {A : Type 0} → Kinds → A → Option A
without_fault [] x = Some x
without_fault (fault ∷ faults) x = None

-- what the words ask of the server, where they call for no other mode and `clap` takes them
unfoldable pub asked_of : List (List ℕ) → Option ServerWordsSeen
asked_of words = if names_mode words then None else without_fault (fault_of server_app words) (said_by (matches_of server_app words))

-- a drill that isn't too large
abbrev pub is_small : DrillWords → Bool
is_small asked = nat_le (asked.plan.lines * asked.plan.links) 4000000

abbrev pub if_small : DrillWords → Option DrillWords
if_small asked = if is_small asked then Some asked else None

-- what the words after the mode's name ask of a drill, where `clap` takes them
abbrev pub drill_in : List (List ℕ) → Option DrillWords
drill_in words = option_and_then if_small (without_fault (fault_of drill_app words) (drill_said_by (matches_of drill_app words)))

-- what the words ask of a drill
unfoldable pub drill_of : List (List ℕ) → Option DrillWords
drill_of words = if begins_with (codes "drill") words then drill_in (drop 1 words) else None

-- what the words after the mode's name ask of a network, where `clap` takes them
abbrev pub net_in : List (List ℕ) → Option NetWordsSeen
net_in words = without_fault (fault_of net_app words) (net_said_by (matches_of net_app words))

-- what the words ask of a network
unfoldable pub net_of : List (List ℕ) → Option NetWordsSeen
net_of words = if begins_with (codes "net") words then net_in (drop 1 words) else None
