use Rattle.std.proofs.Common.{◌≡◌, ◌+◌, ◌∙◌, Some, arith, length, refl, take, ap, subst, sym}
use Rattle.std.specs.Prelude.{slice_get}
use Rattle.std.specs.List.{AllZip}
use Rattle.std.proofs.lemmas.Option.{slice_get_read}
use Rattle.net_script.specs.Layouts.{IsConfOf, layout_of, setting_at}
use Rattle.net_script.proofs.ConfLemmas.{confs_next, confs_whole}
use Rattle.net_script.proofs.types.Script.confs.Goals as goal

pub loop-server-preserved : goal.loop-server-preserved
loop-server-preserved c =
    let script = c.args.self.now in
    let i = c.loop-server.server-index in
    let server = c.server-item.result in
    let conf = c.in_ok-conf.field-0 in
    let items = c.deref-server-items.ensures.value ∙ ap (λ s. s.servers) c.self.view_is in
    let there = subst (λ xs. slice_get xs i ≡ Some server) items (slice_get_read c.deref-server-items.result.now _ i server refl c.loop-server-test.true c.server-item.is) in
    let number = c.loop-server.invariant.0 in
    let sound = c.in_ok-conf.ensures.sound c.requires (c.requires.stations i server there) (c.requires.windows i server there) in
    let is : IsConfOf conf (setting_at script i server) = subst (λ n. IsConfOf conf (setting_at script n server)) number (c.in_ok-conf.ensures.setting, sound) in (
      ap (λ n. n + 1) number,
      subst (λ confs. AllZip IsConfOf confs (take (i + 1) (layout_of script).servers)) (sym c.in_ok-push.ensures.items)
          (confs_next script c.loop-server.confs.items i server conf there is c.loop-server.invariant.1),
    )

pub returns : goal.returns
returns c =
    let items = c.deref-server-items.ensures.value ∙ ap (λ s. s.servers) c.self.view_is in
    confs_whole c.args.self.now c.loop-server.confs.items c.loop-server.server-index (omega (arith, ap length items, c.loop-server-test.false)) c.loop-server.invariant.1
