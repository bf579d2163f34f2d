use Rattle.std.proofs.Common.{◌≡◌, ◌∙◌, None, Some, ap, refl}
use Rattle.mio_wire.specs.Arrivals.{Steps}
use Rattle.mio_wire.specs.Coming.{StepGives, after_event}
use Rattle.mio_wire.specs.Dialled.{AnswersStep}
use Rattle.mio_wire.specs.Held.{NamesStep, holding, unread}
use Rattle.mio_wire.specs.Linked.{numbers}
use Rattle.mio_wire.specs.Seen.{IsStep, seen}
use Rattle.mio_wire.specs.Unread.{IsHeld, LeavesStep}
use Rattle.mio_wire.specs.declared.wire.MioWire.{MioWire}
use Rattle.mio_wire.proofs.NextLemmas.{comes_after}
use Rattle.mio_wire.proofs.StepLemmas.{after, from_opened, still, told}
use Rattle.mio_wire.proofs.wire.MioWireWire.next.Goals as goal

pub loop-init : goal.loop-init
loop-init g c = (tt, tt, still (seen c.open_sockets.new.self), refl)

pub loop-preserved : goal.loop-preserved
loop-preserved g c =
    let step : IsStep (seen c.loop.self) (seen c.step.new.self) None = rw c.in-Ok-None.field-0-is at c.in-Ok-None.ensures.step in
    (tt, tt, after (seen c.open_sockets.new.self) (seen c.loop.self) (seen c.step.new.self) None c.loop.invariant.2 step, rw c.loop.invariant.3 at c.step.ensures.kept)

-- from where the call began, the steps before handed nothing up, and are one step with the last
pub returns-in-Ok-Some : goal.returns-in-Ok-Some
unfolding AnswersStep LeavesStep NamesStep StepGives Steps
returns-in-Ok-Some g c =
    let opened = c.open_sockets.ensures in
    let first = from_opened c.args.self.now c.open_sockets.new.self (seen c.loop.self) None opened.kept opened.holding c.loop.invariant.2 in
    let last : IsStep (seen c.loop.self) (seen c.step.new.self) (Some c.in-Ok-Some.event) = rw c.in-Ok-Some.field-0-is at c.in-Ok-Some.ensures.step in
    let gives = rw c.in-Ok-Some.field-0-is at c.in-Ok-Some.ensures.gives in
    let course : c.loop.self.course ≡ c.args.self.now.course = ap (λ (w : MioWire _ _ _). w.course) c.loop.invariant.3 ∙ ap (λ (w : MioWire _ _ _). w.course) opened.kept in
    let step = after (seen c.args.self.now) (seen c.loop.self) (seen c.step.new.self) (Some c.in-Ok-Some.event) first last in
    let kept = rw (c.loop.invariant.3, opened.kept) at c.in-Ok-Some.ensures.kept in
    let moves = rw c.in-Ok-Some.field-0-is at c.in-Ok-Some.ensures.moves in
    record {
      next = record {
        ok = refl;
        counts = step.links.1;
        err = tt;
        uncounted = tt;
        listens = ap (λ (w : MioWire _ _ _). w.failed_listens) kept;
        nexts = ap (λ (w : MioWire _ _ _). w.failed_nexts) kept;
        gones = ap (λ (w : MioWire _ _ _). w.gones) kept;
      };
      comes = comes_after c.args.self.now.course (seen c.args.self.now) (seen c.loop.self) c.in-Ok-Some.event first (rw course at gives);
      tells = told (IsHeld (unread c.args.self.now.sockets) (numbers c.args.self.now.links.list.items)) (numbers c.args.self.now.links.list.items) c.in-Ok-Some.event step.tells;
      held = step.held;
      rest = step.rest;
      names = step.names;
      moves = rw course at moves;
      listening = step.heard;
      course = c.note.ensures ∙ ap (λ course. after_event c.in-Ok-Some.event course) (ap (λ (w : MioWire _ _ _). w.course) kept);
      links = step.links.0;
      dials = step.dials;
      err = tt;
      unread = tt;
    }

pub returns-in-Err-step-clause-unread : goal.returns-in-Err-step-clause-unread
unfolding LeavesStep
returns-in-Err-step-clause-unread g c = λ left.
    let opened = c.open_sockets.ensures in
    let first = from_opened c.args.self.now c.open_sockets.new.self (seen c.loop.self) None opened.kept opened.holding c.loop.invariant.2 in
    ap (λ (w : MioWire _ _ _). (holding w.sockets).unread) c.refuse_next-in-Err-step.ensures.counted ∙ ap (λ s. s.unread) c.in-Err-step.ensures.step ∙ first.rest left
