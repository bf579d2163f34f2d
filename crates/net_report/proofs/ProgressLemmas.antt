-- How far a script has come after one line more.
use Rattle.std.proofs.Common.{◌≡◌, ℕ, ◌+◌, ◌≤◌, true, false, List, [], ◌∷◌, ◌++◌, take, refl, sym, ap, ◌∙◌, subst, Option, Some, None, IfSome, Result, Ok, Err, OnOk, append-nil, arith}
use Rattle.std.specs.Prelude.{◌==◌, ◌&&◌, length, nat_le, nat_lt, reverse, slice_get, if◌then◌else◌}
use Rattle.std.proofs.lemmas.Bool.{and_parts, leb-true}
use Rattle.std.proofs.lemmas.List.{reverse-append}
use Rattle.std.proofs.lemmas.List.Sums.{fold-append}
use Rattle.aprs_conf.specs.Arguments.{same}
use Rattle.net_history.specs.Network.{Layout, ServerSeen}
use Rattle.net_history.specs.Steps.{is_there, may_open, network_of, next_link}
use Rattle.net_schedule.specs.Standing.{StandsFor}
use Rattle.net_script.specs.declared.types.StepLine.{StepLine}
use Rattle.net_script.specs.Layouts.{layout_of as asked_layout}
use Rattle.net_script.specs.Running.{Opening, Progress, beginning, event_of, last_link, link_to_come, not_there, progress_of, script_text, with_line, with_opening}
use Rattle.net_script.specs.Seen.{ScriptSeen}
use Rattle.net_script.proofs.ConfLemmas.{take_next}
use Rattle.net_report.specs.Told.{HasCome, RunKept, text_by}

pub none_yet : (layout : Layout) → progress_of layout [] ≡ beginning
unfolding progress_of
none_yet layout = refl

pub one_more : (layout : Layout) (lines : List StepLine) (line : StepLine) → progress_of layout (lines ++ line ∷ []) ≡ with_line layout (progress_of layout lines) line
unfolding progress_of
one_more layout lines line = fold-append (with_line layout) beginning lines (line ∷ [])

pub whole_text : (script : ScriptSeen) → script_text script ≡ text_by (asked_layout script) script.steps
unfolding script_text
whole_text script = refl

-- a step that was there
pub came_there : (layout : Layout) (before : Progress) (line : StepLine) (run : RunKept) → is_there layout (network_of layout before.steps) (event_of before.openings line.step) ≡ true
    → run.network.spent ≡ false → StandsFor run.network (event_of before.openings line.step ∷ before.steps)
    → run.openings ≡ with_opening (network_of layout before.steps) line.step before.openings → run.answers ≡ before.answers → HasCome run (with_line layout before line)
came_there layout before line run there going stands openings answers =
    let done : with_line layout before line ≡ record before { steps = event_of before.openings line.step ∷ before.steps; openings = with_opening (network_of layout before.steps) line.step before.openings } = rw there refl in
    subst (HasCome run) (sym done) (record { going = going; stands = stands; openings = openings; answers = answers })

-- and one that wasn't
pub came_not_there : (layout : Layout) (before : Progress) (line : StepLine) (run : RunKept) → is_there layout (network_of layout before.steps) (event_of before.openings line.step) ≡ false
    → run.network.spent ≡ false → StandsFor run.network before.steps → run.openings ≡ before.openings → run.answers ≡ before.answers ++ not_there line.number → HasCome run (with_line layout before line)
came_not_there layout before line run missing going stands openings answers =
    let said : with_line layout before line ≡ record before { answers = before.answers ++ not_there line.number } = rw missing refl in
    subst (HasCome run) (sym said) (record { going = going; stands = stands; openings = openings; answers = answers })

-- one opening more
pub last_next : (server : ℕ) (call : List ℕ) (openings : List Opening) (i : ℕ) (opening : Opening) → slice_get openings i ≡ Some opening
    → last_link server call (reverse (take (i + 1) openings)) ≡ (if opening.server == server && same opening.call call then opening.link else last_link server call (reverse (take i openings)))
last_next server call openings i opening is =
    ap (λ xs. last_link server call (reverse xs)) (take_next openings i opening is) ∙ ap (last_link server call) (reverse-append (take i openings) (opening ∷ []))

-- the link of an opening that is there
pub opened_link : (listener link : ℕ) (found : Option ServerSeen) → may_open listener found ≡ true → IfSome found (λ s. next_link s ≤ 4294967295 → link ≡ next_link s) → link ≡ link_to_come found
opened_link listener link None there is = cc
opened_link listener link (Some s) there is = is (leb-true (next_link s) 4294967295 (and_parts (nat_lt listener (length s.setting.listens)) (nat_le (next_link s) 4294967295) there).1)

-- what follows where a call went well
pub on_ok : {T E : Type 0} {A B : Type 0} (r : Result T E) → (A → B) → OnOk r A → OnOk r B
on_ok (Ok x) f a = f a
on_ok (Err e) f a = a

-- where nothing is left, all were given
pub all_given : {A : Type 0} (given rest all : List A) (count : ℕ) → count ≡ length rest → count ≡ 0 → given ++ rest ≡ all → given ≡ all
all_given given [] all count long none is = sym (append-nil given) ∙ is
all_given given (x ∷ rest) all count long none is = absurd (omega (arith, long, none))
