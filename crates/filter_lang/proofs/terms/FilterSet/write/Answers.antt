use Rattle.filter_lang.proofs.TextLaws.{again_ok, shortest_ok}
use Rattle.filter_lang.proofs.ReadBounds.{inner_ok, short_ok}
use Rattle.filter_lang.proofs.terms.FilterSet.write.Goals as goal

pub returns-clause-again : goal.returns-clause-again
returns-clause-again c = again_ok c.canonical_text.result c.args.self.now (rw (c.as_slice.ensures.value, c.self.view_is) at c.canonical_text.ensures)

pub returns-clause-shortest : goal.returns-clause-shortest
returns-clause-shortest c = shortest_ok c.canonical_text.result c.args.self.now (rw (c.as_slice.ensures.value, c.self.view_is) at c.canonical_text.ensures)

pub returns-clause-short : goal.returns-clause-short
returns-clause-short c = short_ok c.canonical_text.result c.args.self.now (rw (c.as_slice.ensures.value, c.self.view_is) at c.canonical_text.ensures)

pub returns-clause-inner : goal.returns-clause-inner
returns-clause-inner c = inner_ok c.canonical_text.result c.args.self.now (rw (c.as_slice.ensures.value, c.self.view_is) at c.canonical_text.ensures)
