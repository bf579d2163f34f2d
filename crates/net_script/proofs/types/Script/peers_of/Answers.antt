use Rattle.std.proofs.Common.{[], ◌++◌, get_or, map, sym, ap, ◌∙◌}
use Rattle.std.specs.List.{cons_option}
use Rattle.std.proofs.lemmas.Option.{slice_get-get_or}
use Rattle.net_history.specs.declared.events.PeerPair.{PeerPair}
use Rattle.net_script.specs.Layouts.{peer_in, peer_of}
use Rattle.net_script.proofs.ConfLemmas.{made_next}
use Rattle.net_script.proofs.types.Script.peers_of.Goals as goal

nobody : PeerPair
nobody = record { a = 0; at_a = 0; b = 0; at_b = 0 }

pub loop-pair-preserved : goal.loop-pair-preserved
unfolding nobody
loop-pair-preserved c =
    let pairs = c.deref-pair-items.result.now in
    let i = c.loop-pair.pair-index in
    let pair = get_or pairs i nobody in
    c.in_ok-push_some.ensures
    ∙ ap (λ peer. map peer_of c.loop-pair.peers.items ++ cons_option peer []) c.peer_in.ensures
    ∙ ap (λ peers. peers ++ cons_option (peer_in c.args.self.now c.args.server pair) []) c.loop-pair.invariant
    ∙ sym (made_next c.args.self.now c.args.server i pair pairs (slice_get-get_or pairs i nobody c.loop-pair-test.true))
