use Rattle.std.proofs.Common.{◌≡◌, ◌-◌, ◌++◌, ◌∷◌, [], length, take, min, sym, ap, ◌∙◌, arith, append_assoc}
use Rattle.std.proofs.lemmas.List.{take_all}
use Rattle.link_queue.specs.Lines.{ended_line}
use Rattle.link_queue.proofs.LineLemmas.{ended_length, put_twice, same_further}
use Rattle.link_queue.proofs.writing.put_line.Goals as goal

pub returns-then-room-lt2-clause-bytes : goal.returns-then-room-lt2-clause-bytes
returns-then-room-lt2-clause-bytes c =
    let before = take c.args.at c.args.out.now in
    let room = length c.args.out.now - c.args.at in
    let same : length c.put-at.new.out ≡ length c.args.out.now = c.put-at.auto.out in
    let left : length c.put-at.new.out - c.put-at.result ≡ room - min room (length c.args.line.now) = omega (arith, c.put-at.ensures.end, same) in
    c.put.ensures.bytes
    ∙ ap (λ bytes. bytes ++ take (length c.put-at.new.out - c.put-at.result) (13 ∷ 10 ∷ [])) c.put-at.ensures.bytes
    ∙ ap (λ n. (before ++ take room c.args.line.now) ++ take n (13 ∷ 10 ∷ [])) left
    ∙ put_twice room before c.args.line.now (13 ∷ 10 ∷ [])

pub returns-clause-bytes : goal.returns-clause-bytes
returns-clause-bytes c =
    let before = take c.args.at c.args.out.now in
    let line = c.args.line.now in
    let size = ended_length line in
    c.put_end.ensures.bytes ∙ ap (λ bytes. bytes ++ 13 ∷ 10 ∷ []) c.put_whole-at.ensures.bytes ∙ append_assoc before line (13 ∷ 10 ∷ [])
    ∙ ap (λ bytes. before ++ bytes) (sym (take_all (length c.args.out.now - c.args.at) (ended_line line) (omega arith)))

pub returns-clause-rest : goal.returns-clause-rest
returns-clause-rest c =
    let end = c.put_end.ensures.end in
    c.put_end.ensures.rest ∙ same_further c.put_whole-at.result c.put_end.result _ _ (omega arith) c.put_whole-at.ensures.rest
