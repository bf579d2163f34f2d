-- The parts of a path, by the places of its elements.
use Rattle.std.proofs.Common.{◌≡◌, ℕ, suc, ◌+◌, ◌-◌, ◌<◌, ◌≤◌, Bool, true, false, cond, not, ◌||◌, List, [], ◌∷◌, map, take, length, get_or, refl, sym, ap, ◌∙◌, arith}
use Rattle.std.proofs.lemmas.List.{length-map, take-map}
use Rattle.std.specs.List.{list_any, position_or_len}
use Rattle.aprs_base.specs.declared.packets.Via.{Via}
use Rattle.tnc2_line.specs.Packet.{names_construct, from_construct}
use Rattle.q_construct.specs.Rule.{same, among, first_call, construct_of, is_own, is_login_not_last}
use Rattle.q_construct.specs.declared.origins.Origin.{Origin}

any_calls : (test : List ℕ → Bool) (vias : List Via) → list_any (λ via. test via.call) vias ≡ list_any test (map (λ via. via.call) vias)
any_calls test [] = refl
any_calls test (via ∷ vias) = ap (λ b. test via.call || b) (any_calls test vias)

pub among_calls : (name : List ℕ) (vias : List Via) → list_any (λ via. same name via.call) vias ≡ among name (map (λ via. via.call) vias)
among_calls name vias = any_calls (same name) vias

get_one : (n : ℕ) (via : Via) (vias : List Via) (d : Via) → get_or (via ∷ vias) (1 + n) d ≡ get_or vias n d
get_one n via vias d = let e : 1 + n ≡ suc n = omega arith in rw e refl

-- the construct stands at the first place that has one
pub construct_there : (path : List Via) (d : Via) → position_or_len names_construct path < length path → (get_or path (position_or_len names_construct path) d).call ≡ construct_of path
construct_there [] d lt = absurd (omega arith)
construct_there (via ∷ vias) d lt =
    elim (names_construct via) as (λ b. cond (not b) (1 + position_or_len names_construct vias) 0 < length (via ∷ vias)
    → (get_or (via ∷ vias) (cond (not b) (1 + position_or_len names_construct vias) 0) d).call ≡ first_call (cond b (via ∷ vias) (from_construct vias))) [
      | true ↦ λ _. refl
      | false ↦ λ less. rw (get_one (position_or_len names_construct vias) via vias d) (construct_there vias d (omega arith))
    ] lt

pub construct_nowhere : (path : List Via) → length path ≤ position_or_len names_construct path → [] ≡ construct_of path
construct_nowhere [] le = refl
construct_nowhere (via ∷ vias) le =
    elim (names_construct via) as (λ b. length (via ∷ vias) ≤ cond (not b) (1 + position_or_len names_construct vias) 0 → [] ≡ first_call (cond b (via ∷ vias) (from_construct vias))) [
      | true ↦ λ more. absurd (omega arith)
      | false ↦ λ more. construct_nowhere vias (omega arith)
    ] le

pub construct_first : (path : List Via) (d : Via) (n : ℕ) (text : List ℕ) → n ≡ position_or_len names_construct path → n < length path → text ≡ (get_or path n d).call → text ≡ construct_of path
construct_first path d n text place lt is = is ∙ ap (λ k. (get_or path k d).call) place ∙ construct_there path d (omega arith)

pub construct_none : (path : List Via) (n : ℕ) → n ≡ position_or_len names_construct path → length path ≤ n → [] ≡ construct_of path
construct_none path n place le = construct_nowhere path (omega arith)

pub own_before_last : (origin : Origin) (vias : List Via) (n : ℕ) → n ≡ length vias - 1 → list_any (λ via. is_own origin via.call) (take n vias) ≡ is_login_not_last origin (map (λ via. via.call) vias)
own_before_last origin vias n e =
    let long : length (map (λ via. via.call) vias) - 1 ≡ n = omega (arith, length-map vias (λ (via : Via). via.call)) in
    any_calls (is_own origin) (take n vias) ∙ ap (list_any (is_own origin)) (sym (take-map (λ (via : Via). via.call) n vias)) ∙ ap (λ k. list_any (is_own origin) (take k (map (λ via. via.call) vias))) (sym long)
