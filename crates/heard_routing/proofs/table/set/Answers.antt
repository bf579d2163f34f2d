use Rattle.std.proofs.Common.{◌≡◌, ◌∷◌, [], sym, subst, unwrap_or, OnOk, OnErr}
use Rattle.indexmap.specs.IndexMap.{insert_entry}
use Rattle.filter_eval.specs.Passes.{is_text}
use Rattle.heard_routing.specs.Entries.{with_link}
use Rattle.heard_routing.proofs.EntryLemmas.{written_back, written_with}
use Rattle.heard_routing.proofs.table.set.Goals as goal

pub returns-in-Some-clause-ok : goal.returns-in-Some-clause-ok
returns-in-Some-clause-ok c =
    written_with c.set.result c.args.link c.args.call.now c.args.moment c.args.table.now.entries (c.get_mut.follows.lender c.set.new.self).entries c.in-Some.links.now c.set.new.self
    (sym c.in-Some.ensures.value) (c.get_mut.follows.holds c.set.new.self).0 c.set.ensures.ok

pub returns-in-Some-clause-err : goal.returns-in-Some-clause-err
returns-in-Some-clause-err c =
    written_back c.set.result c.args.call.now c.args.table.now.entries (c.get_mut.follows.lender c.set.new.self).entries c.in-Some.links.now c.set.new.self
    (sym c.in-Some.ensures.value) (c.get_mut.follows.holds c.set.new.self).0 c.set.ensures.err

pub returns-in-None-clause-ok : goal.returns-in-None-clause-ok
returns-in-None-clause-ok c =
    let added = c.start.new.table.entries in
    let call = c.args.call.now in
    subst (λ o. OnOk c.start.result (added ≡ insert_entry is_text c.args.table.now.entries call (with_link c.args.link c.args.moment (unwrap_or o [])))) c.in-None.ensures.value
    (subst (λ table. OnOk c.start.result (added ≡ insert_entry is_text table.entries call ((c.args.link, c.args.moment) ∷ []))) c.get_mut.follows.holds-at-none c.start.ensures.ok)

pub returns-in-None-clause-err : goal.returns-in-None-clause-err
returns-in-None-clause-err c = subst (λ table. OnErr c.start.result (c.start.new.table.entries ≡ table.entries)) c.get_mut.follows.holds-at-none c.start.ensures.err
