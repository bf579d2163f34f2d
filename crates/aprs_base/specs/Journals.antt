-- Journals as contracts see them, and the lines that they take.
use Rattle.std.specs.Prelude.{◌≡◌, ◌↔◌, ℕ, ◌+◌, List, [], ◌∷◌, ◌++◌, length, filter, Bool, Option, Result, Ok, Err, IsErr, IfSome, OnOk, OnErr}
use Rattle.std.specs.List.{flat_map}
use Rattle.std.specs.Option.{option_map}
use Rattle.std.specs.Str.{byte}
use Rattle.std.specs.Fmt.{decimal}
use Rattle.aprs_base.specs.Outside.{one_more}
use Rattle.aprs_base.specs.declared.journals.Kind.{Kind}

-- a line for the journals: the text is what follows the moment
pub record JournalLineSeen : Type 0 where
  pub kind : Kind
  pub moment : ℕ
  pub text : List ℕ

-- a line as it stands in a journal: the moment in digits, a blank, the text and LF
abbrev pub journal_text : JournalLineSeen → List ℕ
journal_text line = decimal line.moment ++ (byte " " ∷ (line.text ++ byte "\n" ∷ []))

-- what a journal shows: the kinds that it wants, its text and how many lines it is still to take, where it tells them,
-- and how often it failed
pub record JournalShown : Type 0 where
  pub wants : Kind → Bool
  pub told : Option (List ℕ)
  pub left : Option ℕ
  pub faults : ℕ

-- the count of failed lines after one more: it is one more exactly where that failed
abbrev pub failed_lines_after : {T E : Type 0} → Result T E → ℕ → ℕ
failed_lines_after (Ok _) faults = faults
failed_lines_after (Err _) faults = one_more faults

pub record AfterLine {T E : Type 0} (old new : JournalShown) (line : JournalLineSeen) (result : Result T E) : Type 0 where
  pub told : OnOk result (new.told ≡ option_map (λ text. text ++ journal_text line) old.told)
  pub lowered : OnOk result (option_map (λ n. n + 1) new.left ≡ old.left)
  pub spent : IfSome old.left (λ n. IsErr result ↔ (n ≡ 0))
  pub untold : OnErr result (new.told ≡ old.told)
  pub unlowered : OnErr result (new.left ≡ old.left)
  pub wants : new.wants ≡ old.wants
  pub faults : new.faults ≡ failed_lines_after result old.faults

-- the lines of the kinds that a journal wants
abbrev pub due_to : JournalShown → List JournalLineSeen → List JournalLineSeen
due_to journal lines = filter (λ line. journal.wants line.kind) lines

-- a journal that took just these lines, in order
pub record HasTaken (old new : JournalShown) (lines : List JournalLineSeen) : Type 0 where
  pub told : new.told ≡ option_map (λ text. text ++ flat_map journal_text lines) old.told
  pub left : option_map (λ n. n + length lines) new.left ≡ old.left
  pub wants : new.wants ≡ old.wants
