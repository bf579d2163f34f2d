use Rattle.std.proofs.Common.{refl, ap, ◌∙◌}
use Rattle.std.specs.Prelude.{replicate}
use Rattle.net_script.specs.Grammar.{uplinks_of}
use Rattle.net_script.specs.Layouts.{group_of, some_uplink}
use Rattle.net_script.proofs.ConfLemmas.{conf_sound}
use Rattle.net_script.proofs.types.Script.conf.Goals as goal

pub returns-clause-sound : goal.returns-clause-sound
returns-clause-sound c = λ limits station window.
    let plain = c.conf.view_is ∙ c.in_ok-conf.ensures in
    let pairs = c.as_slice.ensures.value ∙ ap (λ script. script.pairs) c.self.view_is in
    let peers = c.as_slice-2.ensures.value ∙ ap (λ script. script.peers) c.self.view_is in
    conf_sound c.args.self.now c.args.number c.args.server.now _ limits station window
    c.copy_call-conf-inside.ensures
    (ap (λ conf. conf.listens) plain)
    (ap (λ conf. conf.upload) plain)
    (ap (λ conf. conf.page) plain)
    (c.in_ok-conf-inside.ensures ∙ ap (λ n. replicate n some_uplink) (c.count_uplinks.ensures ∙ ap (uplinks_of c.args.number) pairs))
    (c.group_of-conf-inside.ensures ∙ ap (group_of c.args.number) peers)
    c.in_ok-conf-inside-2.ensures
    (ap (λ conf. conf.up_timeout) plain)
    (ap (λ conf. conf.client_timeout) plain)
    (ap (λ conf. conf.max_clients) plain)
    refl
