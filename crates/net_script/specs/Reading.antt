-- The script that a text is, and what the parts of the reading say.
use Rattle.std.specs.Prelude.{◌≡◌, ℕ, ◌+◌, ◌≤◌, if◌then◌else◌, nat_lt, List, [], ◌∷◌, length, Option, Some, None, Result, Ok, Err, MatchResult}
use Rattle.aprs_base.specs.ResultSteps.{◌>>=◌}
use Rattle.aprs_conf.specs.Grammar.{need}
use Rattle.net_script.specs.declared.errors.LineError.{LineError}
use Rattle.net_script.specs.declared.errors.LineError.TheVariants as line_error
use Rattle.net_script.specs.declared.errors.ScriptError.{ScriptError}
use Rattle.net_script.specs.declared.errors.ScriptError.TheVariants as cause
use Rattle.net_script.specs.Grammar.{after, lines_of}
use Rattle.net_script.specs.Seen.{ScriptSeen}

-- the script of these lines behind those that made this one; the first of them has this number
abbrev pub drafted : ℕ → ScriptSeen → List (List ℕ) → Result ScriptSeen ScriptError
drafted number script [] = Ok script
drafted number script (line ∷ lines) = need (cause.BadStep number) (after number script line) >>= λ more. drafted (number + 1) more lines

abbrev pub empty : ScriptSeen
empty = record { servers = []; pairs = []; peers = []; steps = [] }

-- the script that a text is, or the number of its first bad line
unfoldable pub script_of : List ℕ → Result ScriptSeen ScriptError
script_of text = if nat_lt 65536 (length text) then Err cause.TooLarge else drafted 1 empty (lines_of text)

-- ---- the parts

-- servers and pairs have numbers of 16 bits
pub record HasNumbers (script : ScriptSeen) : Type 0 where
  pub servers : length script.servers ≤ 65536
  pub pairs : length script.pairs ≤ 65536

-- a line is bad, unless memory ran out
abbrev pub Fails : {A : Type 0} → LineError → Option A → Type 0
Fails line_error.Bad said = said ≡ None
Fails line_error.Memory said = Unit {0}

-- what a line says has become this value, or the line is bad, unless memory ran out
abbrev pub BecomesUnless : {R A : Type 0} → Result R LineError → A → Option A → Type 0
BecomesUnless result new said = MatchResult result (λ _. said ≡ Some new) (λ e. Fails e said)

-- the error of the line of this number
abbrev pub at_number : ℕ → LineError → ScriptError
at_number n line_error.Bad = cause.BadStep n
at_number n line_error.Memory = cause.Memory

-- the text has this fault, unless memory ran out
abbrev pub FailsAt : {A : Type 0} → ScriptError → Result A ScriptError → Type 0
FailsAt (cause.BadStep n) said = said ≡ Err (cause.BadStep n)
FailsAt cause.TooLarge said = said ≡ Err cause.TooLarge
FailsAt cause.Memory said = Unit {0}
