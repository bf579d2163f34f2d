use Rattle.std.proofs.Common.{◌≡◌, true, false, length, filter, ap, sym, subst, ◌∙◌}
use Rattle.std.proofs.Math.ListN.{set}
use Rattle.heard_routing.specs.Entries.{Rises, is_below}
use Rattle.heard_routing.proofs.LinkLemmas.{found_there, is_there, put_there}
use Rattle.heard_routing.proofs.links.touch.Goals as goal

pub returns-then-is_at-clause-there : goal.returns-then-is_at-clause-there
returns-then-is_at-clause-there c = λ up.
    let links = c.args.entries.now.items in
    let link = c.args.link in
    let place = c.place_of-place.result in
    let at : place ≡ length (filter (is_below link) links) = subst (λ l. Rises l → place ≡ length (filter (is_below link) l)) c.as_slice.ensures.value c.place_of-place.ensures.place up in
    let there : is_there link links (length (filter (is_below link) links)) ≡ true =
    ap (is_there link links) (sym at) ∙ ap (λ l. is_there link l place) (sym c.as_slice-2.ensures.value) ∙ sym c.is_at.ensures ∙ c.if-is_at.true in
    sym there ∙ found_there link links up

pub returns-then-is_at-clause-set : goal.returns-then-is_at-clause-set
returns-then-is_at-clause-set c = λ up is.
    let links = c.args.entries.now.items in
    let link = c.args.link in
    let place = c.place_of-place.result in
    let at : place ≡ length (filter (is_below link) links) = subst (λ l. Rises l → place ≡ length (filter (is_below link) l)) c.as_slice.ensures.value c.place_of-place.ensures.place up in
    let there : is_there link links (length (filter (is_below link) links)) ≡ true =
    ap (is_there link links) (sym at) ∙ ap (λ l. is_there link l place) (sym c.as_slice-2.ensures.value) ∙ sym c.is_at.ensures ∙ c.if-is_at.true in
    ap (λ n. set links n (link, c.args.moment)) at ∙ put_there link c.args.moment links up there

pub returns-clause-there : goal.returns-clause-there
returns-clause-there c = λ up.
    let links = c.args.entries.now.items in
    let link = c.args.link in
    let place = c.place_of-place.result in
    let at : place ≡ length (filter (is_below link) links) = subst (λ l. Rises l → place ≡ length (filter (is_below link) l)) c.as_slice.ensures.value c.place_of-place.ensures.place up in
    let there : is_there link links (length (filter (is_below link) links)) ≡ false =
    ap (is_there link links) (sym at) ∙ ap (λ l. is_there link l place) (sym c.as_slice-2.ensures.value) ∙ sym c.is_at.ensures ∙ c.if-is_at.false in
    sym there ∙ found_there link links up
