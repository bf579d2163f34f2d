use Rattle.std.proofs.Common.{◌≡◌, ◌++◌, ◌∷◌, [], sym, ap, ◌∙◌, append_assoc, refl, rules, subst, IfOk}
use Rattle.std.specs.Vec.Iter.{into_iter_items}
use Rattle.net_history.specs.Report.{report_of}
use Rattle.net_history.specs.Steps.{network_of}
use Rattle.net_schedule.specs.Running.{layout_of}
use Rattle.net_script.specs.Running.{progress_of, with_line}
use Rattle.net_report.specs.Told.{HasCome}
use Rattle.net_report.proofs.ProgressLemmas.{all_given, none_yet, one_more}
use Rattle.net_report.proofs.running.Run.play.Goals as goal

pub loop-line-init : goal.loop-line-init
loop-line-init g c = (tt, tt, refl, refl, c.requires.going, subst (HasCome c.args.self.now) (sym (none_yet (layout_of c.args.self.now.network))) c.requires)

pub loop-line-preserved : goal.loop-line-preserved
loop-line-preserved g c =
    let layout = layout_of c.args.self.now.network in
    let so_far = progress_of layout c.loop-line.yielded in (
      tt,
      tt,
      append_assoc c.loop-line.yielded (c.in-Some.line ∷ []) _ ∙ ap (λ xs. c.loop-line.yielded ++ xs) (let steps = c.in-Some.ensures.steps in grind rules) ∙ c.loop-line.invariant.2,
      c.in_ok-take.ensures.layout ∙ c.loop-line.invariant.3,
      c.in_ok-take.ensures.going,
      subst (HasCome c.take.new.self) (ap (λ l. with_line l so_far c.in-Some.line) c.loop-line.invariant.3 ∙ sym (one_more layout c.loop-line.yielded c.in-Some.line))
          (c.in_ok-take.ensures.come so_far c.loop-line.invariant.5),
    )

pub returns : goal.returns
returns g c = λ layout is.
    let left = c.loop-line.line-iterator.rest in
    let gives : into_iter_items c.into_iter-line-iterator.result ≡ c.args.lines.items = c.into_iter-line-iterator.ensures.into_iter_gives.0 in
    let all = all_given c.loop-line.yielded left.items c.args.lines.items left.len left.ok.0 c.in-None.ensures.steps.0 (c.loop-line.invariant.2 ∙ gives) in
    let at = c.loop-line.invariant.3 ∙ is in
    let last = progress_of layout c.args.lines.items in
    let has : HasCome c.loop-line.self last =
    subst (λ lines. HasCome c.loop-line.self (progress_of layout lines)) all (subst (λ l. HasCome c.loop-line.self (progress_of l c.loop-line.yielded)) is c.loop-line.invariant.5) in
    subst (λ l. IfOk c.text.result (λ text. text.items ≡ last.answers ++ report_of (network_of l last.steps))) at (c.text.ensures last has)
