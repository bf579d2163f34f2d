use Rattle.std.proofs.Common.{◌∙◌, ap, sym}
use Rattle.std.specs.Prelude.{slice_set}
use Rattle.std.proofs.lemmas.List.Edits.{map_over_more}
use Rattle.filter_lang.specs.Seen.{NameSeen}
use Rattle.filter_lang.specs.Names.{starless}
use Rattle.filter_lang.proofs.NameLemmas.{starless_is}
use Rattle.filter_lang.proofs.names.without_stars.Goals as goal

pub loop-name-preserved : goal.loop-name-preserved
loop-name-preserved c =
    let step = map_over_more starless c.deref_mut-name-items.result.now c.loop-name.name-items c.loop-name.name-index c.name-item.result c.loop-name-test.true c.loop-name.invariant c.name-item.is in
    let same = starless_is c.name.inside.text.items c.name.inside.wild c.is_star-wild.result c.name-item.result (c.name.view_is ∙ sym c.name-item.is) (c.is_star-wild.ensures ∙ ap (λ (x : NameSeen). (starless x).wild) (sym c.name-item.is)) in
    ap (λ (x : NameSeen). slice_set c.loop-name.name-items c.loop-name.name-index x) same ∙ step
