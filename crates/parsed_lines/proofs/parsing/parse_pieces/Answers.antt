use Rattle.std.proofs.Common.{ap, subst, arith, IfOk, ◌∙◌, max}
use Rattle.std.specs.List.{AllZip}
use Rattle.rayon.specs.Lists.{chunks_of}
use Rattle.rayon.proofs.ToStd.{chunks_of-concat, slice-AllZip}
use Rattle.parsed_lines.proofs.ParsedLemmas.{IsPiece, collected_parsed}
use Rattle.parsed_lines.specs.Lines.{IsParsed}
use Rattle.parsed_lines.specs.Pieces.{joined}
use Rattle.parsed_lines.proofs.parsing.parse_pieces.Goals as goal

pub returns : goal.returns
returns g c =
    let lines = c.args.lines.now in
    let slice = ap (λ it. it.slice.now) c.map.ensures.base ∙ c.par_chunks.ensures.slice in
    let size = ap (λ it. it.size) c.map.ensures.base ∙ c.par_chunks.ensures.size in
    let results = c.in_ok-collect.ensures.0 in
    let chain = c.in_ok-collect.ensures.1 in
    let pieces = chunks_of 1024 lines in
    let cut = chain.1 ∙ (λ i. chunks_of (max (size i) 1) (slice i)) in
    let each = slice-AllZip chain.0 pieces cut IsPiece results chain.2 in
    subst (λ whole. IfOk c.in_ok-collect.field-0 (λ found. AllZip IsParsed whole (joined found.items))) (chunks_of-concat 1024 lines (omega arith))
    (collected_parsed pieces results c.in_ok-collect.field-0 each c.in_ok-collect.ensures.2)
