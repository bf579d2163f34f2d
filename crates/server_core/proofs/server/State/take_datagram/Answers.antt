use Rattle.std.proofs.Common.{List, Option, subst, ◌∙◌}
use Rattle.std.proofs.lemmas.Result.{on_ok_weaker}
use Rattle.aprs_base.specs.declared.cutting.Cut.{Cut}
use Rattle.aprs_base.specs.declared.packets.PortKind.{PortKind}
use Rattle.aprs_history.specs.History.{with_lines}
use Rattle.aprs_history.specs.Setting.{kind_at}
use Rattle.server_core.specs.Meaning.{setting_of}
use Rattle.server_core.specs.Steps.{Walks}
use Rattle.server_core.specs.Telling.{Tells}
use Rattle.server_core.proofs.server.State.take_datagram.Goals as goal

pub returns-clause-walks : goal.returns-clause-walks
returns-clause-walks c = λ t walks.
    let s = setting_of c.args.self.now.conf in
    let after = λ (kind : Option PortKind) (cuts : List Cut). Walks c.serve_datagram.new.self (with_lines s kind c.args.listener c.args.from cuts t) in
    on_ok_weaker c.serve_datagram.result
    (λ walked. subst (λ (cuts : List Cut). after (kind_at s c.args.listener) cuts) (c.as_slice.ensures.value ∙ c.in_ok-cuts.ensures) (subst (λ (kind : Option PortKind). after kind c.as_slice.result.now) c.kind_served-kind.ensures walked))
    (c.serve_datagram.ensures.walks t walks)

pub returns-clause-tells : goal.returns-clause-tells
returns-clause-tells c = λ t walks.
    let s = setting_of c.args.self.now.conf in
    let after = λ (kind : Option PortKind) (cuts : List Cut). Tells s t (with_lines s kind c.args.listener c.args.from cuts t) c.args.lines.now.items c.serve_datagram.new.lines.items in
    on_ok_weaker c.serve_datagram.result
    (λ told. subst (λ (cuts : List Cut). after (kind_at s c.args.listener) cuts) (c.as_slice.ensures.value ∙ c.in_ok-cuts.ensures) (subst (λ (kind : Option PortKind). after kind c.as_slice.result.now) c.kind_served-kind.ensures told))
    (c.serve_datagram.ensures.tells t walks)
