-- What the next event of a wire in memory leaves.
use Rattle.std.proofs.Common.{◌≡◌, ℕ, ◌+◌, ◌∷◌, [], List, ◌&&◌, true, drop, eqb, refl, sym, ap, ◌∙◌}
use Rattle.std.proofs.lemmas.Bool.{and_parts, eqb-true}
use Rattle.std.proofs.lemmas.List.{drop-drop}
use Rattle.aprs_base.specs.declared.events.Event.{Event}
use Rattle.aprs_base.specs.declared.events.Event.TheVariants as event
use Rattle.aprs_base.specs.Outside.{CountsLink, are_numbered, new_link}
use Rattle.aprs_base.specs.WireScript.{links_after, next_event}

counted : (link links : ℕ) (events : List Event) → (eqb link (links + 1) && are_numbered (links + 1) events) ≡ true →
    ((link ≡ links + 1) × (link ≡ links + 1)) × (are_numbered link events ≡ true)
counted link links events h =
    let parts = and_parts (eqb link (links + 1)) (are_numbered (links + 1) events) h in
    let is = eqb-true link (links + 1) parts.0 in
    ((is, is), ap (λ n. are_numbered n events) is ∙ parts.1)

-- the links stay numbered, and the event's link is counted
pub numbered_next : (links : ℕ) (left : List Event) → are_numbered links left ≡ true →
    (CountsLink (new_link (next_event left)) links (links_after links (new_link (next_event left)))) × (are_numbered (links_after links (new_link (next_event left))) (drop 1 left) ≡ true)
numbered_next links (event.Opened listener link from ∷ events) h = counted link links events h
numbered_next links (event.Joined uplink link at ∷ events) h = counted link links events h
numbered_next links (event.Tick moment ∷ events) h = (refl, h)
numbered_next links (event.Unjoined uplink ∷ events) h = (refl, h)
numbered_next links (event.Bytes link bytes ∷ events) h = (refl, h)
numbered_next links (event.Ended link ∷ events) h = (refl, h)
numbered_next links (event.Room link ∷ events) h = (refl, h)
numbered_next links (event.Datagram listener from bytes ∷ events) h = (refl, h)
numbered_next links (event.Stop ∷ events) h = (refl, h)
numbered_next links [] h = (refl, refl)

-- what is left after one more
pub left_after : {T : Type 0} (at : ℕ) (items : List T) → drop (at + 1) items ≡ drop 1 (drop at items)
left_after at items = sym (drop-drop 1 at items)
