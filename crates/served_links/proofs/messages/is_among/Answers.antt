use Rattle.std.proofs.Common.{◌∙◌}
use Rattle.worker_match.proofs.MemberLemmas.{found_is_member}
use Rattle.served_links.proofs.messages.is_among.Goals as goal

pub returns : goal.returns
returns c = c.is_ok.ensures.value ∙ found_is_member c.args.number c.args.numbers.now c.requires.rising c.binary_search.result c.binary_search.ensures.position
