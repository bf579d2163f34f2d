-- Lists of calls with what is known of each.
use Rattle.std.specs.Prelude.{ℕ, List}
use Rattle.std.specs.List.{IsDistinct}
use Rattle.std.specs.Map.{keys_of}
use Rattle.filter_eval.specs.Passes.{is_text}

-- no call stands twice
abbrev pub HasEachOnce : {T : Type 0} → List (List ℕ × T) → Type 0
HasEachOnce entries = IsDistinct is_text (keys_of entries)
