-- Which row fits.
use Rattle.std.proofs.Common.{◌≡◌, ℕ, Bool, true, false, cond, not, ◌||◌, ◌&&◌, List, [], ◌∷◌, ◌++◌, refl, sym, ap, ◌∙◌, subst}
use Rattle.std.specs.Prelude.{codes}
use Rattle.std.specs.List.{list_any}
use Rattle.aprs_base.specs.declared.texts.Addr.{Addr}
use Rattle.aprs_base.specs.declared.packets.Via.{Via}
use Rattle.tnc2_line.specs.Packet.{names_construct, from_construct}
use Rattle.q_construct.specs.Rule.{first_call, Row, row, rows, built_row, first_row, receive_rows, common_rows, ending, same, has_construct, construct_of, ends_in_gate, gate_call, gate_front, hex_of}
use Rattle.q_construct.specs.Building.{IsBuilt}
use Rattle.q_construct.specs.declared.building.Built.{Built}
use Rattle.q_construct.specs.declared.origins.Origin.{Origin}
use Rattle.q_construct.specs.declared.origins.Origin.TheVariants.{Client, Uplink, Peer}

-- a path without a construct has none of any letter
pub construct_none : (path : List Via) → has_construct path ≡ false → construct_of path ≡ []
construct_none [] h = refl
construct_none (via ∷ vias) h =
    elim (names_construct via) as (λ b. (b || list_any names_construct vias) ≡ false → first_call (cond b (via ∷ vias) (from_construct vias)) ≡ []) [
      | true ↦ λ e. cc
      | false ↦ λ e. construct_none vias e
    ] h

module _ (login : List ℕ) (given : List Via) (rest : List Row) (none : has_construct given ≡ false) where
  -- the gate, as it is found
  pub received_gate : (built : Built) (front : List Via) (gate : List ℕ) → (ends_in_gate given ≡ true) × (front ≡ gate_front given) × (gate ≡ gate_call given) → true ≡ same gate login
      → IsBuilt built (row true (front ++ ending (codes "qAo") login) true) → IsBuilt built (first_row (receive_rows true login given ++ rest))
  received_gate built front gate found own b =
      let mine : same (gate_call given) login ≡ true = ap (λ g. same g login) (sym found.2) ∙ sym own in
      rw (construct_none given none, none, found.0, mine) (b.0 ∙ ap (λ f. f ++ ending (codes "qAo") login) found.1, b.1)

  pub received_other : (front : List Via) (gate : List ℕ) → (ends_in_gate given ≡ true) × (front ≡ gate_front given) × (gate ≡ gate_call given) → false ≡ same gate login
      → first_row (receive_rows true login given ++ rest) ≡ first_row rest
  received_other front gate found other =
      let its : same (gate_call given) login ≡ false = ap (λ g. same g login) (sym found.2) ∙ sym other in
      rw (construct_none given none, none, found.0, its) refl

  pub received_plain : (built : Built) → ends_in_gate given ≡ false → IsBuilt built (row true (given ++ ending (codes "qAO") login) true) → IsBuilt built (first_row (receive_rows true login given ++ rest))
  received_plain built ends b = rw (construct_none given none, none, ends) b

pub uplink_as_peer : (source : List ℕ) (addr : Addr) (server : List ℕ) (given : List Via) (name : List ℕ) (built : Built) → name ≡ hex_of addr
    → IsBuilt built (built_row source (Peer name) server given) → IsBuilt built (built_row source (Uplink addr) server given)
unfolding built_row rows
uplink_as_peer source addr server given name built is b = subst (λ n. IsBuilt built (built_row source (Peer n) server given)) is b

pub verified_rest : (source login : List ℕ) (only : Bool) (server : List ℕ) (given : List Via) (built : Built)
    → ((rest : List Row) → first_row (receive_rows (only && not (same source login)) login given ++ rest) ≡ first_row rest)
    → ((receives : Bool) → IsBuilt built (first_row (common_rows source (Client login true receives) server given))) → IsBuilt built (built_row source (Client login true only) server given)
unfolding built_row rows
verified_rest source login only server given built none b =
    subst (λ r. IsBuilt built r) (sym (none (common_rows source (Client login true only) server given))) (b only)

pub of_origin : (source : List ℕ) (server : List ℕ) (given : List Via) (built : Built) (origin same_one : Origin) → origin ≡ same_one
    → IsBuilt built (built_row source same_one server given) → IsBuilt built (built_row source origin server given)
of_origin source server given built origin same_one e b = subst (λ o. IsBuilt built (built_row source o server given)) (sym e) b

pub verified_first : (source login : List ℕ) (only : Bool) (server : List ℕ) (given : List Via) (built : Built)
    → ((rest : List Row) → IsBuilt built (first_row (receive_rows (only && not (same source login)) login given ++ rest))) → IsBuilt built (built_row source (Client login true only) server given)
unfolding built_row rows
verified_first source login only server given built b = b (common_rows source (Client login true only) server given)

pub peer_as_named : (source call server : List ℕ) (given : List Via) (name : List ℕ) (built : Built) → name ≡ call
    → IsBuilt built (built_row source (Peer name) server given) → IsBuilt built (built_row source (Peer call) server given)
peer_as_named source call server given name built is b = subst (λ n. IsBuilt built (built_row source (Peer n) server given)) is b
