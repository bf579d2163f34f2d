-- A script that runs as contracts see it, how far it has come, and what its text comes to.
use Rattle.std.specs.Prelude.{◌≡◌, ℕ, false, List, ◌++◌, Result, Ok}
use Rattle.aprs_base.specs.ResultSteps.{◌>>=◌}
use Rattle.net_history.specs.Network.{Layout}
use Rattle.net_history.specs.Report.{report_of}
use Rattle.net_history.specs.Steps.{network_of}
use Rattle.net_schedule.specs.Running.{NetKept}
use Rattle.net_schedule.specs.Standing.{StandsFor}
use Rattle.net_script.specs.declared.errors.ScriptError.{ScriptError}
use Rattle.net_script.specs.Reading.{script_of}
use Rattle.net_script.specs.declared.types.StepLine.{StepLine}
use Rattle.net_script.specs.Running.{Opening, Progress, progress_of, script_text}

pub record RunKept : Type 0 where
  pub network : NetKept
  -- the last one first
  pub openings : List Opening
  pub answers : List ℕ

-- it has come so far: its network stands for the steps that were there
pub record HasCome (run : RunKept) (progress : Progress) : Type 0 where
  pub going : run.network.spent ≡ false
  pub stands : StandsFor run.network progress.steps
  pub openings : run.openings ≡ progress.openings
  pub answers : run.answers ≡ progress.answers

-- what these lines come to in a network that is laid out so
abbrev pub text_by : Layout → List StepLine → List ℕ
text_by layout lines = let progress = progress_of layout lines in progress.answers ++ report_of (network_of layout progress.steps)

-- what the text of a script comes to, or what is wrong with it
abbrev pub text_of : List ℕ → Result (List ℕ) ScriptError
text_of text = script_of text >>= λ script. Ok (script_text script)
