-- The links that the message rule asks for, as a list of their numbers.
use Rattle.std.proofs.Common.{◌≡◌, ℕ, zero, suc, ◌+◌, slice_index, subst, ◌<◌, ◌≤◌, ◌==◌, ◌||◌, Bool, false, List, [], ◌∷◌, length, filter, get_or, refl, sym, ap, ◌∙◌, arith, le_refl, Option, Some, None, ⊎_elim, cond, eq-eqb}
use Rattle.std.specs.List.Sorted.{IsStrictlyIncreasing}
use Rattle.std.proofs.lemmas.Bool.{cases_Bool, ne_eqb}
use Rattle.aprs_base.specs.PacketSeen.{PacketSeen}
use Rattle.aprs_history.specs.declared.verdicts.Session.{Session}
use Rattle.aprs_history.specs.Messages.{is_message, is_to_login}
use Rattle.aprs_history.specs.Stands.{LinkSeen}
use Rattle.heard_routing.specs.Heard.{is_among}
use Rattle.served_links.specs.Links.{Rises, numbers}
use Rattle.served_links.specs.Changes.{is_asked_at}
use Rattle.served_links.proofs.LinkLemmas.{above, rises_filter}

-- what is no message is asked for by courtesy alone
unlogged : (packet : PacketSeen) (session : Option Session) → is_message packet ≡ false → is_to_login packet session ≡ false
unlogged packet None other = refl
unlogged packet (Some session) other = rw other refl

pub none_asked : (packet : PacketSeen) (links : List LinkSeen) → is_message packet ≡ false → filter (is_asked_at packet [] []) links ≡ []
none_asked packet [] other = refl
none_asked packet (link ∷ links) other =
    let rest = filter (is_asked_at packet [] []) links in
    let unasked : is_asked_at packet [] [] link ≡ false = ap (λ b. b || is_among link.link [] || is_among link.link []) (unlogged packet link.session other) ∙ refl in
    ap (λ b. cond b (link ∷ rest) rest) unasked ∙ none_asked packet links other

module _ (p : LinkSeen → Bool) where
  abbrev passing : List LinkSeen → List ℕ
  passing links = numbers (filter p links)

  -- a number that is below those of all links
  absent : (low high : ℕ) (links : List LinkSeen) (n : ℕ) → Rises low (numbers links) high → n ≤ low → is_among n (passing links) ≡ false
  absent low high [] n rises le = refl
  absent low high (x ∷ links) n rises le =
      let first = rises.0 in
      let other : (n == x.link) ≡ false = ne_eqb n x.link (λ is. omega arith) in
      let later = absent x.link high links n rises.1 (omega arith) in
      ⊎_elim
      (λ passes. ap (λ b. is_among n (numbers (cond b (x ∷ filter p links) (filter p links)))) passes ∙ ap (λ b. b || is_among n (passing links)) other ∙ later)
      (λ fails. ap (λ b. is_among n (numbers (cond b (x ∷ filter p links) (filter p links)))) fails ∙ later)
      (cases_Bool (p x))

  -- a link's number is listed exactly where it passes
  pub listed_at : (low high : ℕ) (links : List LinkSeen) (place : ℕ) (d l : LinkSeen) → Rises low (numbers links) high → place < length links
      → l ≡ get_or links place d → is_among l.link (passing links) ≡ p l
  listed_at low high [] place d l rises lt at = absurd (omega arith)
  listed_at low high (x ∷ links) zero d l rises lt at =
      ap (λ (l : LinkSeen). is_among l.link (passing (x ∷ links))) at
      ∙ ⊎_elim
      (λ passes. ap (λ b. is_among x.link (numbers (cond b (x ∷ filter p links) (filter p links)))) passes
      ∙ ap (λ b. b || is_among x.link (passing links)) (eq-eqb x.link x.link refl) ∙ sym passes)
      (λ fails. ap (λ b. is_among x.link (numbers (cond b (x ∷ filter p links) (filter p links)))) fails ∙ absent x.link high links x.link rises.1 (le_refl x.link) ∙ sym fails)
      (cases_Bool (p x))
      ∙ ap p (sym at)
  listed_at low high (x ∷ links) (suc place) d l rises lt at =
      let later = above x.link high links place d rises.1 (omega arith) in
      let same = ap (λ (l : LinkSeen). l.link) at in
      let other : (l.link == x.link) ≡ false = ne_eqb l.link x.link (λ is. omega arith) in
      let rest = listed_at x.link high links place d l rises.1 (omega arith) at in
      ⊎_elim
      (λ passes. ap (λ b. is_among l.link (numbers (cond b (x ∷ filter p links) (filter p links)))) passes ∙ ap (λ b. b || is_among l.link (passing links)) other ∙ rest)
      (λ fails. ap (λ b. is_among l.link (numbers (cond b (x ∷ filter p links) (filter p links)))) fails ∙ rest)
      (cases_Bool (p x))

increasing : (low high : ℕ) (ns : List ℕ) → Rises low ns high → IsStrictlyIncreasing ns
increasing low high [] rises k lt = absurd (omega arith)
increasing low high (n ∷ []) rises k lt = absurd (omega arith)
increasing low high (n ∷ m ∷ ns) rises zero lt = rises.1.0
increasing low high (n ∷ m ∷ ns) rises (suc k) lt =
    let more : suc k + 1 ≡ suc (k + 1) = omega arith in
    subst (λ i. slice_index (n ∷ m ∷ ns) (suc k) < slice_index (n ∷ m ∷ ns) i) (sym more) (increasing n high (m ∷ ns) rises.1 k (omega arith))

-- the listed numbers rise
pub passing_rise : (p : LinkSeen → Bool) (high : ℕ) (links : List LinkSeen) → Rises 0 (numbers links) high → IsStrictlyIncreasing (numbers (filter p links))
passing_rise p high links rises = increasing 0 high (numbers (filter p links)) (rises_filter p 0 high links rises)
