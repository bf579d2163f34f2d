use Rattle.std.proofs.Common.{◌≡◌, ◌∙◌, ap, filter, rules, subst, sym}
use Rattle.std.proofs.lemmas.List.Elements.{All-filter}
use Rattle.indexmap.proofs.CallerLemmas.{filter-RetainsPairs}
use Rattle.dupe_window.specs.Digests.{AreDigestedBy, PairsSeen, digested_by, text_of, unpacked_pairs}
use Rattle.dupe_window.specs.Packed.{unpacked}
use Rattle.dupe_window.specs.Windows.{is_inside, is_inside_pair}
use Rattle.dupe_window.proofs.PackedLemmas.{unpacked_pairs-filter}
use Rattle.dupe_window.proofs.pairs.Pairs.keep_inside.Goals as goal

pub invariant_of-self : goal.invariant_of-self
invariant_of-self c =
    let fields = c.self.inside in
    subst (AreDigestedBy fields.hasher) (sym (filter-RetainsPairs _ (λ pair. is_inside c.args.seconds c.args.now pair.1) _ (λ k v b w g call. search rules) _ _ c.retain.ensures.filtered))
    (All-filter (λ pair. is_inside c.args.seconds c.args.now pair.1) (λ pair. text_of (digested_by fields.hasher (unpacked pair.0.text)) ≡ pair.0) fields.texts.entries c.self.invariant)

pub returns : goal.returns
returns c =
    let fields = c.self.inside in
    ap (λ pairs. record { pairs = pairs; hasher = fields.hasher })
    (ap unpacked_pairs (filter-RetainsPairs _ (λ pair. is_inside c.args.seconds c.args.now pair.1) _ (λ k v b w g call. search rules) _ _ c.retain.ensures.filtered)
    ∙ unpacked_pairs-filter c.args.seconds c.args.now fields.texts.entries)
    ∙ ap (λ (seen : PairsSeen). record seen { pairs = filter (is_inside_pair c.args.seconds c.args.now) seen.pairs }) c.self.view_is
