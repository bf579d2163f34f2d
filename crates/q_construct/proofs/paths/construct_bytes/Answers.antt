use Rattle.q_construct.proofs.PathLemmas.{construct_first, construct_none}
use Rattle.q_construct.proofs.paths.construct_bytes.Goals as goal

pub returns-then-place-path : goal.returns-then-place-path
returns-then-place-path c = construct_first _ _ _ _ c.construct_place-place.ensures.place c.if-place-path.true c.bytes.ensures.bytes

pub returns-else-place-path : goal.returns-else-place-path
returns-else-place-path c = construct_none _ _ c.construct_place-place.ensures.place c.if-place-path.false
