use Rattle.std.proofs.Common.{◌≡◌, ◌∙◌, sym, Option, Some, None, ℕ, is_some, position, List}
use Rattle.aprs_history.specs.Stands.{LinkSeen}
use Rattle.served_links.specs.Links.{has_number, here, is_at}
use Rattle.served_links.proofs.HereLemmas.{any_there}
use Rattle.served_links.proofs.LinkLemmas.{position_none, position_there}
use Rattle.served_links.proofs.links.has_link.Goals as goal

there : (number : ℕ) (links : List LinkSeen) (found : Option ℕ) → found ≡ position (is_at number) links → is_some found ≡ has_number number (here links)
there number links None is = sym (any_there number links ∙ position_none (is_at number) links is)
there number links (Some place) is = sym (any_there number links ∙ position_there (is_at number) links place is)

pub returns : goal.returns
returns c = c.is_some.ensures ∙ there c.args.number c.args.links.now c.place_here.result c.place_here.ensures
