-- What the program writes on its standard output.
use Rattle.std.specs.Prelude.{◌≡◌, ℕ, List, ◌++◌, take, codes, Result, Ok, Err, OnOk, OnErr}
use Rattle.std.specs.Option.{option_map}
use Rattle.std.specs.Fmt.{decimal}
use Rattle.aprs_base.specs.Outside.{one_more}
use Rattle.drill_plan.specs.declared.plan.Plan.{Plan}
use Rattle.aprsc_daemon.specs.Configuring.{fault_name, word_name}
use Rattle.aprsc_daemon.specs.declared.configuring.Trouble.{Trouble}
use Rattle.aprsc_daemon.specs.declared.configuring.Trouble.TheVariants as trouble
use Rattle.aprs_base.specs.Stores.{SinkShown}
use Rattle.aprs_base.specs.declared.totals.Totals.{Totals}
use Rattle.aprs_base.specs.declared.sinks.SinkError.{SinkError}
use Rattle.aprs_base.specs.declared.sinks.SinkError.TheVariants as sink_error

-- the sink's text grew by these bytes, as far as it tells it
abbrev pub Grew : SinkShown → SinkShown → List ℕ → Type 0
Grew old new bytes = new.told ≡ option_map (λ text. text ++ bytes) old.told

-- the count of a sink's faults after a text: it is one more exactly where that failed
abbrev pub failed_by_saying : {T : Type 0} → Result T SinkError → ℕ → ℕ
failed_by_saying (Ok _) faults = faults
failed_by_saying (Err sink_error.Failed) faults = one_more faults
failed_by_saying (Err sink_error.Memory) faults = faults

-- all bytes were written, or else some first ones
pub record AfterSaying {T : Type 0} (old new : SinkShown) (bytes : List ℕ) (result : Result T SinkError) : Type 0 where
  pub ok : OnOk result (Grew old new bytes)
  pub err : OnErr result ((k : ℕ) × Grew old new (take k bytes))
  pub faults : new.faults ≡ failed_by_saying result old.faults

-- ---- the texts

abbrev pub usage_text : List ℕ
usage_text = codes "usage: aprsc -c FILE [-w N] [-y] | aprsc drill SEED LINES LINKS [-w N] | aprsc net FILE\n"

abbrev pub trouble_text : List ℕ → Trouble → List ℕ
trouble_text file (trouble.Line line fault) = file ++ (codes ": line " ++ (decimal line ++ (codes ": " ++ (fault_name fault ++ codes "\n"))))
trouble_text file (trouble.Missing word) = file ++ (codes ": missing " ++ (word_name word ++ codes "\n"))

abbrev pub valid_text : List ℕ → List ℕ
valid_text file = file ++ codes ": configuration is valid\n"

abbrev pub too_large_text : List ℕ → List ℕ
too_large_text file = file ++ codes ": too large\n"

abbrev pub bad_step_text : List ℕ → ℕ → List ℕ
bad_step_text file line = file ++ (codes ": line " ++ (decimal line ++ codes ": bad step\n"))

abbrev pub unread_text : List ℕ → List ℕ
unread_text file = file ++ codes ": cannot be read\n"

abbrev pub listen_failed_text : ℕ → List ℕ
listen_failed_text number = codes "listen " ++ (decimal number ++ codes " failed\n")

-- which drill, and what it counted
abbrev pub drill_name : Plan → List ℕ
drill_name plan = codes "drill seed " ++ (decimal plan.seed ++ (codes " lines " ++ (decimal plan.lines ++ (codes " links " ++ decimal plan.links))))

abbrev pub totals_text : Totals → List ℕ
totals_text totals =
    codes "accepted " ++ (decimal totals.accepted
    ++ (codes " duplicate " ++ (decimal totals.duplicate
    ++ (codes " refused " ++ (decimal totals.refused
    ++ (codes " queued " ++ decimal totals.queued))))))

abbrev pub summary_text : Plan → Totals → (taken : ℕ) → List ℕ
summary_text plan totals taken = drill_name plan ++ (codes " " ++ (totals_text totals ++ (codes " bytes " ++ (decimal taken ++ codes "\n"))))
