use Rattle.std.proofs.Common.{◌≡◌, ◌^◌, ◌++◌, ap, slice_set, sym, ◌∙◌, Some, None}
use Rattle.std.specs.List.{position}
use Rattle.std.proofs.lemmas.List.{set-get_or}
use Rattle.aprs_base.specs.Held.{Held, held_after}
use Rattle.aprs_base.specs.Cuts.{cuts_by}
use Rattle.served_links.specs.Links.{held_kept, is_at, login_here, named_of}
use Rattle.served_links.specs.Changes.{with_bytes}
use Rattle.served_links.proofs.CountLemmas.{logins_set}
use Rattle.served_links.proofs.FedLemmas.{on_err}
use Rattle.served_links.proofs.HereLemmas.{named_set, picked_missing, picked_there}
use Rattle.served_links.proofs.LinkLemmas.{changed_by}
use Rattle.served_links.proofs.PlaceLemmas.{place_any}
use Rattle.served_links.proofs.ServedLemmas.{brought_matches, half_changed}
use Rattle.served_links.proofs.links.bring.Goals as goal

pub place_here-requires : goal.place_here-requires
place_here-requires c = rw c.as_slice.ensures.value c.requires

some_same : (a b : Held) → Some a ≡ Some b → a ≡ b
some_same a b is = cc

some_none : (a : Held) → Some a ≡ None → ⊥
some_none a is = cc

pub returns-in_ok-bring-in-Some-clause-links : goal.returns-in_ok-bring-in-Some-clause-links
returns-in_ok-bring-in-Some-clause-links c = λ before is.
    let link = c.index_mut.result.now in
    let here = picked_there held_kept None c.args.number c.args.links.now.items c.in-Some.place link (c.in-Some.ensures ∙ ap (position (is_at c.args.number)) c.as_slice.ensures.value) c.index_mut.ensures.value in
    let held = some_same link.held (held_after before) (sym here ∙ is) in
    let brought = c.in_ok-bring-in-Some.ensures.brought before held in
    changed_by c.args.number (with_bytes c.args.moment (held_after (before ++ c.args.bytes.now))) (2 ^ 32) c.args.links.now.items c.in-Some.place link c.bring.new.self c.requires
    (place_any c.args.number (2 ^ 32) c.args.links.now.items c.in-Some.place c.requires (c.in-Some.ensures ∙ ap (position (is_at c.args.number)) c.as_slice.ensures.value)) c.index_mut.ensures.value brought.0

pub returns-in_ok-bring-in-Some-clause-cuts : goal.returns-in_ok-bring-in-Some-clause-cuts
returns-in_ok-bring-in-Some-clause-cuts c = λ before is.
    let link = c.index_mut.result.now in
    let here = picked_there held_kept None c.args.number c.args.links.now.items c.in-Some.place link (c.in-Some.ensures ∙ ap (position (is_at c.args.number)) c.as_slice.ensures.value) c.index_mut.ensures.value in
    let held = some_same link.held (held_after before) (sym here ∙ is) in
    let brought = c.in_ok-bring-in-Some.ensures.brought before held in
    brought.1 ∙ ap (λ cuts. cuts ++ cuts_by before c.args.bytes.now) c.new-cuts.ensures.items

pub returns-in_ok-bring-in-Some-clause-nowhere : goal.returns-in_ok-bring-in-Some-clause-nowhere
returns-in_ok-bring-in-Some-clause-nowhere c = λ is.
    let link = c.index_mut.result.now in
    let here = picked_there held_kept None c.args.number c.args.links.now.items c.in-Some.place link (c.in-Some.ensures ∙ ap (position (is_at c.args.number)) c.as_slice.ensures.value) c.index_mut.ensures.value in
    absurd (some_none link.held (sym here ∙ is))

pub returns-in-None-clause-links : goal.returns-in-None-clause-links
returns-in-None-clause-links c = λ before is. absurd (some_none (held_after before) (sym is ∙ picked_missing held_kept None c.args.number c.args.links.now.items (c.in-None.ensures ∙ ap (position (is_at c.args.number)) c.as_slice.ensures.value)))

pub returns-in-None-clause-cuts : goal.returns-in-None-clause-cuts
returns-in-None-clause-cuts c = λ before is. absurd (some_none (held_after before) (sym is ∙ picked_missing held_kept None c.args.number c.args.links.now.items (c.in-None.ensures ∙ ap (position (is_at c.args.number)) c.as_slice.ensures.value)))

pub returns-in_err-bring-in-Some-clause-named : goal.returns-in_err-bring-in-Some-clause-named
returns-in_err-bring-in-Some-clause-named c = named_set c.args.links.now.items c.in-Some.place c.bring.new.self c.index_mut.result.now c.index_mut.ensures.value (ap named_of c.bring.ensures.frame)

pub returns-in_ok-bring-in-Some-clause-named : goal.returns-in_ok-bring-in-Some-clause-named
returns-in_ok-bring-in-Some-clause-named c = named_set c.args.links.now.items c.in-Some.place c.bring.new.self c.index_mut.result.now c.index_mut.ensures.value (ap named_of c.bring.ensures.frame)

pub returns-in_err-bring-in-Some-clause-logins : goal.returns-in_err-bring-in-Some-clause-logins
returns-in_err-bring-in-Some-clause-logins c = logins_set c.args.links.now.items c.in-Some.place c.bring.new.self c.index_mut.result.now c.index_mut.ensures.value (ap login_here c.bring.ensures.frame)

pub returns-in_ok-bring-in-Some-clause-logins : goal.returns-in_ok-bring-in-Some-clause-logins
returns-in_ok-bring-in-Some-clause-logins c = logins_set c.args.links.now.items c.in-Some.place c.bring.new.self c.index_mut.result.now c.index_mut.ensures.value (ap login_here c.bring.ensures.frame)

pub returns-in_ok-bring-in-Some-clause-halves : goal.returns-in_ok-bring-in-Some-clause-halves
returns-in_ok-bring-in-Some-clause-halves c states all =
    half_changed c.args.links.now.items states c.in-Some.place c.index_mut.result.now c.bring.new.self all c.index_mut.ensures.value (λ s m. brought_matches c.index_mut.result.now c.bring.new.self s c.bring.ensures.frame m)

pub returns-in_err-bring-in-Some-clause-halves : goal.returns-in_err-bring-in-Some-clause-halves
returns-in_err-bring-in-Some-clause-halves c states all =
    half_changed c.args.links.now.items states c.in-Some.place c.index_mut.result.now c.bring.new.self all c.index_mut.ensures.value (λ s m. brought_matches c.index_mut.result.now c.bring.new.self s c.bring.ensures.frame m)

pub returns-in_err-bring-in-Some-clause-err : goal.returns-in_err-bring-in-Some-clause-err
returns-in_err-bring-in-Some-clause-err c =
    let links = c.args.links.now.items in
    on_err c.from_residual.result (ap (slice_set links c.in-Some.place) (c.in_err-bring-in-Some.ensures.err ∙ c.index_mut.ensures.value) ∙ set-get_or links c.in-Some.place c.index_mut.result.now)
