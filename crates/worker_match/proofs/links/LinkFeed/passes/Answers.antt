use Rattle.std.proofs.Common.{◌≡◌, List, [], false, Bool, Option, refl, ap, sym, ◌∙◌, option_map}
use Rattle.std.specs.Arc.{arc_value}
use Rattle.aprs_base.specs.PacketSeen.{PacketSeen}
use Rattle.filter_lang.specs.Terms.{TermSeen}
use Rattle.filter_eval.specs.Passes.{passes_of}
use Rattle.filter_eval.specs.declared.seen.Seen.{Seen}
use Rattle.worker_match.specs.Seen.{FeedSeen}
use Rattle.worker_match.specs.Walk.{terms_of}
use Rattle.worker_match.proofs.links.LinkFeed.passes.Goals as goal

none_pass : (packet : PacketSeen) (friends : List (Option Seen)) (mine known : Option Seen) (gate : Bool) → false ≡ passes_of [] packet friends mine known gate
unfolding passes_of
none_pass packet friends mine known gate = refl

pub returns-in-None : goal.returns-in-None
returns-in-None c =
    let link = c.args.self.now in
    let offer = c.args.offer.now in
    let none : [] ≡ terms_of link.filter = sym (ap (λ f. terms_of (option_map arc_value f)) c.in-None.is) ∙ ap terms_of c.get.ensures ∙ ap (λ (l : FeedSeen). terms_of l.filter) c.self.view_is in
    none_pass offer.packet link.friends link.mine offer.known offer.gate
    ∙ ap (λ (terms : List TermSeen). passes_of terms offer.packet link.friends link.mine offer.known offer.gate) none
