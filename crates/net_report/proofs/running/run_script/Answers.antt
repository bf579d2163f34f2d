use Rattle.std.proofs.Common.{◌≡◌, sym, ◌∙◌, subst, IfOk}
use Rattle.std.specs.List.{AllZip}
use Rattle.net_schedule.specs.Asked.{HavePeers}
use Rattle.net_script.specs.Laws.{IsWired}
use Rattle.net_script.specs.Layouts.{IsConfOf, layout_of}
use Rattle.net_script.specs.Running.{script_text}
use Rattle.net_script.specs.Seen.{ScriptSeen}
use Rattle.net_report.proofs.ConfLemmas.{all_serve, have_peers, layout_is}
use Rattle.net_report.proofs.ProgressLemmas.{whole_text}
use Rattle.net_report.proofs.running.run_script.Goals as goal

pub new-requires-clause-confs : goal.new-requires-clause-confs
new-requires-clause-confs g c = all_serve c.in_ok-confs.confs.items _ c.in_ok-confs.ensures

pub new-requires-clause-peers : goal.new-requires-clause-peers
new-requires-clause-peers g c =
    let script = Rattle.net_script.specs.contracts.types.Script.the_view c.script.inside in
    let all = subst (λ (s : ScriptSeen). AllZip IsConfOf c.in_ok-confs.confs.items (layout_of s).servers) (sym c.script.view_is) c.in_ok-confs.ensures in
    subst HavePeers (sym (layout_is script c.in_ok-confs.confs.items all)) (have_peers (layout_of script) (subst (λ s. IsWired (layout_of s)) (sym c.script.view_is) c.requires.wired))

pub returns : goal.returns
returns g c =
    let script = Rattle.net_script.specs.contracts.types.Script.the_view c.script.inside in
    let all = subst (λ (s : ScriptSeen). AllZip IsConfOf c.in_ok-confs.confs.items (layout_of s).servers) (sym c.script.view_is) c.in_ok-confs.ensures in
    subst (λ s. IfOk c.play-text.result (λ text. text.items ≡ script_text s)) c.script.view_is
    (subst (λ t. IfOk c.play-text.result (λ text. text.items ≡ t)) (sym (whole_text script))
    (c.play-text.ensures (layout_of script) (c.in_ok-new.ensures.layout ∙ layout_is script c.in_ok-confs.confs.items all)))
