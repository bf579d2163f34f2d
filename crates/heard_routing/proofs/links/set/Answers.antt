use Rattle.std.proofs.Common.{◌≡◌, false, length, filter, insert, ap, sym, subst, ◌∙◌, rules}
use Rattle.heard_routing.specs.Entries.{Rises, is_below}
use Rattle.heard_routing.proofs.LinkLemmas.{found_there, is_there, put_between}
use Rattle.heard_routing.proofs.links.set.Goals as goal

pub returns-in_ok-insert-clause-ok : goal.returns-in_ok-insert-clause-ok
returns-in_ok-insert-clause-ok c = λ up.
    let links = c.args.entries.now.items in
    let link = c.args.link in
    let place = c.place_of-place.result in
    let gone : c.touch.result ≡ false = search rules in
    let same : c.touch.new.entries.items ≡ links = c.touch.ensures.same gone in
    let at : place ≡ length (filter (is_below link) links) = subst (λ l. Rises l → place ≡ length (filter (is_below link) l)) (c.as_slice.ensures.value ∙ same) c.place_of-place.ensures.place up in
    let there : is_there link links (length (filter (is_below link) links)) ≡ false = found_there link links up ∙ sym (c.touch.ensures.there up) ∙ gone in
    c.in_ok-insert.ensures.items ∙ ap (λ l. insert l place (link, c.args.moment)) same ∙ ap (λ n. insert links n (link, c.args.moment)) at ∙ put_between link c.args.moment links up there
