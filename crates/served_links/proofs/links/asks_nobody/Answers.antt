use Rattle.std.proofs.lemmas.List.{nil_from_length}
use Rattle.std.proofs.lemmas.Bool.{eqb-true}
use Rattle.std.proofs.Common.{[], sym, ap, ◌∙◌, filter, length}
use Rattle.served_links.specs.Changes.{is_asked_at}
use Rattle.served_links.proofs.AskedLemmas.{none_asked}
use Rattle.served_links.proofs.links.asks_nobody.Goals as goal

pub returns : goal.returns
returns c none links =
    let packet = c.args.packet.now in
    ap (λ hearers. filter (is_asked_at packet hearers c.args.owed.now) links) (nil_from_length c.args.hearers.now (eqb-true (length c.args.hearers.now) 0 (sym c.if-not-is_empty.ensures)))
    ∙ ap (λ owed. filter (is_asked_at packet [] owed) links) (nil_from_length c.args.owed.now (eqb-true (length c.args.owed.now) 0 (sym c.is_empty-2.ensures ∙ none)))
    ∙ none_asked packet links (sym c.if-is_message.ensures)
