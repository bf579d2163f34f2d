use Rattle.std.proofs.Common.{◌∙◌, ap, sym}
use Rattle.std.specs.Map.{lookup}
use Rattle.dupe_window.specs.Digests.{DigestedKey, PairsSeen, digested_by, is_same_text, text_of}
use Rattle.dupe_window.specs.Keys.{is_same_key}
use Rattle.dupe_window.proofs.PackedLemmas.{lookup-unpacked, no_pairs}
use Rattle.dupe_window.proofs.pairs.Pairs.moment_of.Goals as goal

pub returns-then-is_empty : goal.returns-then-is_empty
returns-then-is_empty c =
    let key = c.args.key.now in
    no_pairs key.key c.self.inside.texts.entries (c.is_empty.ensures.0 c.if-is_empty.true) ∙ ap (λ (seen : PairsSeen). lookup (is_same_key key.key) seen.pairs) c.self.view_is

pub returns : goal.returns
returns c =
    let fields = c.self.inside in
    let key = c.args.key.now in
    c.copied.ensures ∙ c.get.ensures.value
    ∙ ap (λ (digested : DigestedKey). lookup (is_same_text (text_of digested)) fields.texts.entries) (c.requires ∙ ap (λ (seen : PairsSeen). digested_by seen.hasher key.key) (sym c.self.view_is))
    ∙ lookup-unpacked fields.hasher key.key fields.texts.entries c.self.invariant
    ∙ ap (λ (seen : PairsSeen). lookup (is_same_key key.key) seen.pairs) c.self.view_is
