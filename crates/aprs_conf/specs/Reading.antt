-- What the parts of the reading say.
use Rattle.std.specs.Prelude.{◌≡◌, ℕ, ◌<◌, List, [], ◌∷◌, length, Option, Some, None, Result, Ok, Err, MatchResult}
use Rattle.aprs_conf.specs.declared.errors.ConfError.{ConfError}
use Rattle.aprs_conf.specs.declared.errors.ConfError.TheVariants as cause
use Rattle.aprs_conf.specs.declared.errors.ConfFault.{ConfFault}
use Rattle.aprs_conf.specs.declared.errors.LineError.{LineError}
use Rattle.aprs_conf.specs.declared.errors.LineError.TheVariants as line_error
use Rattle.aprs_conf.specs.declared.words.Next.{Next}
use Rattle.aprs_conf.specs.declared.words.Next.TheVariants as next
use Rattle.aprs_conf.specs.Words.{Word, words_of, lines_of}

-- the lines behind a line end, where there is one
abbrev pub lines_behind : Option (List ℕ) → List (List ℕ)
lines_behind None = []
lines_behind (Some text) = lines_of text

-- the words of a text are this one and those behind it, one that stays open, or none
abbrev pub BeginsWith : Next → List Word → List ℕ → Type 0
BeginsWith (next.Word word behind) words text = (words ≡ Some word.now ∷ words_of behind.now) × (length behind.now < length text)
BeginsWith next.Open words text = words ≡ None ∷ []
BeginsWith next.End words text = words ≡ []

-- a line has this fault, unless memory ran out
abbrev pub Fails : {A : Type 0} → LineError → Result A ConfFault → Type 0
Fails (line_error.Fault f) said = said ≡ Err f
Fails line_error.Memory said = Unit {0}

-- what a line says has become this value, or its fault is the result
abbrev pub Becomes : {R A : Type 0} → Result R ConfFault → A → Result A ConfFault → Type 0
Becomes result new said = MatchResult result (λ _. said ≡ Ok new) (λ f. said ≡ Err f)

-- what a line says has become this value, or its fault is the result, unless memory ran out
abbrev pub BecomesUnless : {R A : Type 0} → Result R LineError → A → Result A ConfFault → Type 0
BecomesUnless result new said = MatchResult result (λ _. said ≡ Ok new) (λ e. Fails e said)

-- the error of the line of this number
abbrev pub at_number : ℕ → LineError → ConfError
at_number n (line_error.Fault f) = cause.Line n f
at_number n line_error.Memory = cause.Memory

-- the text has this fault, unless memory ran out
abbrev pub FailsAt : {A : Type 0} → ConfError → Result A ConfError → Type 0
FailsAt (cause.Line n f) said = said ≡ Err (cause.Line n f)
FailsAt (cause.Missing w) said = said ≡ Err (cause.Missing w)
FailsAt cause.Memory said = Unit {0}
