use Rattle.std.proofs.Common.{ℕ, ◌+◌, ◌<◌, ◌≡◌, ◌∷◌, ◌∙◌, [], ap, refl, subst, sym}
use Rattle.std.specs.Option.{option_map}
use Rattle.aprs_base.specs.Outside.{with_cast}
use Rattle.aprs_base.specs.declared.events.Happening.TheVariants as did
use Rattle.aprs_history.specs.Downs.{DownSeen}
use Rattle.aprs_history.specs.Wired.{first_down}
use Rattle.aprsc_daemon.proofs.BringLemmas.{brings_told}
use Rattle.aprsc_daemon.proofs.ReachLemmas.{ok_both, ok_then}
use Rattle.aprsc_daemon.proofs.SendingLemmas.{line_fits, line_goes}
use Rattle.aprsc_daemon.proofs.serving.cast_line.Goals as goal

pub returns-in-Some-clause-run : goal.returns-in-Some-clause-run
returns-in-Some-clause-run g c = λ s lines core link sent left offers closes same other.
    let now = (g.W.Wire.shown c.args.wire.now).told in
    let is_number = ap (λ (d : DownSeen). d.number) c.down.view_is in
    let is_to = ap (λ (d : DownSeen). d.to) c.down.view_is in
    ok_both c.cast.result c.cast.ensures.after.ok c.cast.ensures.counted (λ is counted.
    line_goes lines s core link c.args.down offers closes same now (g.W.Wire.shown c.cast.new.inner).told c.args.fronts.now.page c.cast.new.self
    c.in-Some.number c.args.line.now sent left other (c.in-Some.ensures.1 ∙ ap (λ (n : ℕ). first_down + n) is_number) counted
    (is ∙ ap (λ to. option_map (with_cast c.in-Some.number to c.args.line.now) now) is_to))

pub returns-in-None-clause-run : goal.returns-in-None-clause-run
returns-in-None-clause-run g c = λ s lines core link sent left offers closes same other.
    let is_number = ap (λ (d : DownSeen). d.number) c.down.view_is in
    line_fits lines s core link c.args.down offers closes same (g.W.Wire.shown c.args.wire.now).told c.args.fronts.now.page _ sent (c.args.line.now ∷ left)
    (λ small. c.in-None.ensures (subst (λ (n : ℕ). first_down + n < 65536) (sym is_number) small))

pub returns-in-Some-clause-brings : goal.returns-in-Some-clause-brings
returns-in-Some-clause-brings g c =
    ok_then c.cast.result c.cast.ensures.after.ok
    (brings_told (did.Cast c.in-Some.number c.args.line.now) (with_cast c.in-Some.number c.down.inside.to c.args.line.now) [] (g.W.Wire.shown c.args.wire.now).told (g.W.Wire.shown c.cast.new.inner).told (λ told. refl) refl)
