use Rattle.std.proofs.Common.{ℕ, List, [], ◌∷◌, ◌++◌, codes, ap, ◌∙◌, append_assoc}
use Rattle.std.specs.Fmt.{decimal}
use Rattle.std.specs.List.{flat_map}
use Rattle.aprs_conf.specs.Writing.{line_text, word_text}
use Rattle.aprs_conf.proofs.writing.ConfText.uplink.Goals as goal

pub returns : goal.returns
unfolding line_text word_text
returns c =
    let head : List ℕ = codes "Uplink uplink full tcp " in
    let host : List ℕ = flat_map word_text (c.args.uplink.now.host ∷ decimal c.args.uplink.now.port ∷ []) in
    let first = c.in_ok-extend_from_slice.ensures.items ∙ ap (λ (text : List ℕ). text ++ head) c.self.view_is in
    let second = c.self-2.view_is ∙ c.in_ok-host.ensures ∙ ap (λ (text : List ℕ). text ++ host) first in
    c.in_ok-push.ensures.items
    ∙ ap (λ (text : List ℕ). text ++ 10 ∷ []) second
    ∙ append_assoc (c.args.self.now ++ head) host (10 ∷ [])
    ∙ append_assoc c.args.self.now head (host ++ 10 ∷ [])
