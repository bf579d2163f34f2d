use Rattle.std.proofs.Common.{◌≡◌, None, ◌∙◌, ◌++◌, ◌∷◌, [], ap, subst, sym}
use Rattle.std.specs.Map.{lookup}
use Rattle.std.proofs.lemmas.List.{map-append}
use Rattle.std.proofs.lemmas.List.Elements.{All-push}
use Rattle.indexmap.proofs.CallerLemmas.{insert_entry-new}
use Rattle.dupe_window.specs.Digests.{AreDigestedBy, PairsSeen, digested_by, is_same_text, text_of, unpacked_pair, unpacked_pairs}
use Rattle.dupe_window.specs.Keys.{is_same_key}
use Rattle.dupe_window.specs.Packed.{unpacked}
use Rattle.dupe_window.proofs.PackedLemmas.{lookup-unpacked, unpacked-text_of}
use Rattle.dupe_window.proofs.pairs.Pairs.push.Goals as goal

pub invariant_of-self-2 : goal.invariant_of-self-2
invariant_of-self-2 c =
    let fields = c.self.inside in
    let key = c.args.key.now in
    let entries = fields.texts.entries in
    let text = c.in_ok-text.text in
    let is : text ≡ text_of (digested_by fields.hasher key.key) = c.in_ok-text.ensures ∙ ap text_of (c.requires.digested ∙ ap (λ (seen : PairsSeen). digested_by seen.hasher key.key) (sym c.self.view_is)) in
    let absent : lookup (is_same_text text) entries ≡ None =
    ap (λ other. lookup (is_same_text other) entries) is ∙ lookup-unpacked fields.hasher key.key entries c.self.invariant ∙ ap (λ (seen : PairsSeen). lookup (is_same_key key.key) seen.pairs) c.self.view_is ∙ c.requires.new in
    subst (AreDigestedBy fields.hasher) (sym (c.in_ok-insert.ensures.entries ∙ insert_entry-new is_same_text fields.texts text c.args.now absent))
    (All-push (λ pair. text_of (digested_by fields.hasher (unpacked pair.0.text)) ≡ pair.0) entries (text, c.args.now) c.self.invariant
    (ap (λ shown. text_of (digested_by fields.hasher shown)) (unpacked-text_of fields.hasher key.key text is) ∙ sym is))

pub returns-clause-ok : goal.returns-clause-ok
returns-clause-ok c =
    let fields = c.self.inside in
    let key = c.args.key.now in
    let entries = fields.texts.entries in
    let text = c.in_ok-text.text in
    let is : text ≡ text_of (digested_by fields.hasher key.key) = c.in_ok-text.ensures ∙ ap text_of (c.requires.digested ∙ ap (λ (seen : PairsSeen). digested_by seen.hasher key.key) (sym c.self.view_is)) in
    let absent : lookup (is_same_text text) entries ≡ None =
    ap (λ other. lookup (is_same_text other) entries) is ∙ lookup-unpacked fields.hasher key.key entries c.self.invariant ∙ ap (λ (seen : PairsSeen). lookup (is_same_key key.key) seen.pairs) c.self.view_is ∙ c.requires.new in
    ap (λ pairs. record { pairs = pairs; hasher = fields.hasher })
    (ap unpacked_pairs (c.in_ok-insert.ensures.entries ∙ insert_entry-new is_same_text fields.texts text c.args.now absent)
    ∙ map-append unpacked_pair entries ((text, c.args.now) ∷ [])
    ∙ ap (λ shown. unpacked_pairs entries ++ (shown, c.args.now) ∷ []) (unpacked-text_of fields.hasher key.key text is))
    ∙ ap (λ (seen : PairsSeen). record seen { pairs = seen.pairs ++ (key.key, c.args.now) ∷ [] }) c.self.view_is
