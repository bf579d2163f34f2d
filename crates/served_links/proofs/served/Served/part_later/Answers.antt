use Rattle.std.proofs.Common.{◌<◌, ◌^◌, ℕ, Some, ap, length, refl, sym, subst, ◌≡◌, ◌∙◌, List}
use Rattle.std.specs.List.{position}
use Rattle.aprs_history.specs.Stands.{LinkSeen}
use Rattle.worker_match.specs.Feeds.{left}
use Rattle.served_links.specs.Links.{Rises, has_that, is_at, numbers, when_left}
use Rattle.served_links.proofs.HereLemmas.{left_matches}
use Rattle.served_links.proofs.PlaceLemmas.{place_any}
use Rattle.served_links.proofs.ServedSteps.{gone_are, gone_seen, links_of, nobody_left, rests_of, waiting_of, within_feeds, within_halves}
use Rattle.served_links.proofs.served.Served.part_later.Goals as goal

-- the link that was found is the first of its number
found : (number place : ℕ) (hs searched : List LinkSeen) → searched ≡ hs → Rises 0 (numbers hs) (2 ^ 32) → Some place ≡ position (is_at number) searched → Some place ≡ position (has_that number) searched
found number place hs searched same rising at = place_any number (2 ^ 32) searched place (subst (λ ls. Rises 0 (numbers ls) (2 ^ 32)) (sym same) rising) at

within : (number place : ℕ) (hs searched : List LinkSeen) → searched ≡ hs → Rises 0 (numbers hs) (2 ^ 32) → Some place ≡ position (is_at number) searched → place < length hs
within number place hs searched same rising at = within_halves number place hs searched same (found number place hs searched same rising at)

pub place_here-requires : goal.place_here-requires
place_here-requires c = rw c.as_slice.ensures.value c.self.invariant.0.rising

pub leave-requires : goal.leave-requires
leave-requires c = within c.args.number c.in-Some.place c.self.inside.sessions c.as_slice.result.now c.as_slice.ensures.value c.self.invariant.0.rising c.in-Some.ensures

pub leave-requires-in-Some-clause-settled : goal.leave-requires-in-Some-clause-settled
leave-requires-in-Some-clause-settled c = ap waiting_of c.self.view_is ∙ c.requires.settled

pub leave-requires-in-Some-clause-within : goal.leave-requires-in-Some-clause-within
leave-requires-in-Some-clause-within c =
    within_feeds c.in-Some.place c.self.inside.sessions c.self.inside.feeds c.self.invariant.0
    (within c.args.number c.in-Some.place c.self.inside.sessions c.as_slice.result.now c.as_slice.ensures.value c.self.invariant.0.rising c.in-Some.ensures)

pub invariant_of-self : goal.invariant_of-self
invariant_of-self c =
    gone_are c.args.number c.self.inside.sessions c.as_slice.result.now c.self.inside.feeds c.leave-in-Some.new.self c.self.invariant.0 c.in-Some.place c.as_slice.ensures.value
    (within c.args.number c.in-Some.place c.self.inside.sessions c.as_slice.result.now c.as_slice.ensures.value c.self.invariant.0.rising c.in-Some.ensures)
    when_left c.leave.new.self c.leave.ensures (λ h. refl) left (λ h s got m. left_matches h s m) c.leave-in-Some.ensures (ap rests_of c.self.view_is ∙ c.requires.wakes)

pub returns-in-Some : goal.returns-in-Some
returns-in-Some c =
    gone_seen c.args.number c.self.inside.sessions c.as_slice.result.now c.self.inside.feeds c.leave-in-Some.new.self c.self.invariant.0 c.in-Some.place c.as_slice.ensures.value
    (within c.args.number c.in-Some.place c.self.inside.sessions c.as_slice.result.now c.as_slice.ensures.value c.self.invariant.0.rising c.in-Some.ensures)
    when_left c.leave.new.self c.leave.ensures (λ h. refl) left (λ h s got m. left_matches h s m) c.leave-in-Some.ensures
    (found c.args.number c.in-Some.place c.self.inside.sessions c.as_slice.result.now c.as_slice.ensures.value c.self.invariant.0.rising c.in-Some.ensures)
    (λ h s got m. refl) (λ h s got m. refl) c.self.inside.queued c.self.inside.rests c.args.self.now c.self.view_is

pub returns-in-None : goal.returns-in-None
returns-in-None c =
    ap (λ (links : List LinkSeen). record c.args.self.now { links = links })
    (nobody_left c.args.number c.self.inside.sessions c.as_slice.result.now c.self.inside.feeds c.args.self.now.links c.self.invariant.0 c.as_slice.ensures.value c.in-None.ensures (ap links_of c.self.view_is))
