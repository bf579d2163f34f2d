-- Journals in memory, as contracts see them: which lines they want, what they hold, and when they are to fail.
use Rattle.std.specs.Prelude.{ℕ, ◌-◌, ◌/◌, ◌%◌, ◌==◌, List, ◌++◌, Bool, Option, Some, None, Result, Ok, Err}
use Rattle.aprs_base.specs.Outside.{one_more}
use Rattle.aprs_base.specs.Journals.{JournalLineSeen, JournalShown, journal_text}
use Rattle.aprs_base.specs.declared.journals.Kind.{Kind}
use Rattle.aprs_base.specs.declared.journals.Kind.TheVariants as kind

pub record JournalText : Type 0 where
  pub text : List ℕ
  pub kinds : ℕ
  pub fail_at : Option ℕ
  pub room : ℕ
  pub calls : ℕ
  pub faults : ℕ

pub record JournalCount : Type 0 where
  pub kinds : ℕ
  pub left : ℕ
  pub faults : ℕ

-- a number of kinds is a sum of 1 for refusals, 2 for loops and 4 for sessions
abbrev pub is_among : ℕ → Kind → Bool
is_among kinds kind.Refusal = kinds % 2 == 1
is_among kinds kind.Loop = kinds / 2 % 2 == 1
is_among kinds kind.Session = kinds / 4 % 2 == 1

abbrev pub text_shown : JournalText → JournalShown
text_shown journal = record { wants = is_among journal.kinds; told = Some journal.text; left = None; faults = journal.faults }

abbrev pub count_shown : JournalCount → JournalShown
count_shown journal = record { wants = is_among journal.kinds; told = None; left = Some journal.left; faults = journal.faults }

-- a journal that keeps its text, after a line, by its answer
abbrev pub after_line : {T E : Type 0} → JournalText → JournalLineSeen → Result T E → JournalText
after_line journal line (Ok _) = record journal { text = journal.text ++ journal_text line; calls = one_more journal.calls }
after_line journal line (Err _) = record journal { calls = one_more journal.calls; faults = one_more journal.faults }

-- a journal that counts down, after a line, by its answer
abbrev pub after_count : {T E : Type 0} → JournalCount → Result T E → JournalCount
after_count journal (Ok _) = record journal { left = journal.left - 1 }
after_count journal (Err _) = record journal { faults = one_more journal.faults }
