use Rattle.std.proofs.Common.{◌∙◌, ◌++◌, ◌∷◌, [], ap, sym}
use Rattle.aprs_base.specs.Cuts.{cuts_by}
use Rattle.aprs_base.proofs.CutLemmas.{cuts_of-append}
use Rattle.server_core.proofs.server.datagrams.cut_datagram.Goals as goal

pub returns : goal.returns
returns c =
    let bytes = c.args.bytes.now in
    let first = c.in_ok-feed.ensures.cuts [] c.new-cutter.ensures in
    let second = c.in_ok-feed-2.ensures.cuts bytes (c.in_ok-feed.ensures.held [] c.new-cutter.ensures) in
    second ∙ ap (λ cuts. cuts ++ cuts_by bytes (10 ∷ [])) (first ∙ ap (λ none. none ++ cuts_by [] bytes) c.new-cuts.ensures.items) ∙ sym (cuts_of-append bytes (10 ∷ []))
