-- What stands after the construct of an accepted packet, and that it keeps the packet away from there.
use Rattle.std.proofs.Common.{◌≡◌, ◌≢◌, ℕ, true, false, cond, List, [], ◌∷◌, ◌++◌, refl, sym, ap, ◌∙◌, subst, Ok, inl, inr}
use Rattle.std.specs.Prelude.{codes}
use Rattle.std.specs.Cmp.Lexicographic.{bytes_decides}
use Rattle.std.proofs.lemmas.Bool.{or_left, or_right, false≢true}
use Rattle.std.proofs.lemmas.List.Folds.{list_any-append}
use Rattle.aprs_base.specs.PartsSeen.{PartsSeen}
use Rattle.aprs_base.specs.declared.packets.Via.{Via}
use Rattle.tnc2_line.specs.Packet.{names_construct}
use Rattle.q_construct.specs.declared.origins.Origin.{Origin}
use Rattle.q_construct.specs.Rule.{among, construct_of, has_construct, name_of, names_after, plain, process_of, same, traced, with_name}
use Rattle.q_construct.proofs.Laws.{Answer, answer_is, built_path, names_more}
use Rattle.q_construct.proofs.RowLemmas.{construct_none}
use Rattle.net_history.specs.declared.events.NetEvent.{NetEvent}
use Rattle.net_history.specs.Network.{Layout}
use Rattle.net_history.specs.Premises.{IsLaidOut}
use Rattle.net_history.specs.Trails.{Acceptance, IsByRule, IsNewTo, NeverReturns, Passed, Submitted, Trail, names}
use Rattle.net_history.specs.Constructs.{ComesLater, Descended, HasConstruct, IsIn, IsMarked, MarkedStayAway, TracedAreNamed, TracedStayAway}
use Rattle.net_history.proofs.PlaceLemmas.{some_same}
use Rattle.net_history.proofs.DescentLemmas.{none_comes_back, packets_descend}

-- ---- the names behind qAI

same_self : (name : List ℕ) → same name name ≡ true
same_self name = (bytes_decides name name).1 refl

among_last : (name : List ℕ) (earlier : List (List ℕ)) → among name (earlier ++ name ∷ []) ≡ true
among_last name earlier = list_any-append (same name) earlier (name ∷ []) ∙ or_right _ _ (or_left _ _ (same_self name))

with_name_named : (name : List ℕ) (path : List Via) → has_construct path ≡ true → among name (names_after (with_name name path)) ≡ true
with_name_named name path has =
    elim (among name (names_after path)) as (λ b. among name (names_after path) ≡ b → among name (names_after (cond b path (path ++ plain name ∷ []))) ≡ true) [
      | true ↦ λ e. e
      | false ↦ λ _. ap (among name) (names_more path (plain name ∷ []) has) ∙ among_last name (names_after path)
    ] refl

has_more : (path more : List Via) → has_construct path ≡ true → has_construct (path ++ more) ≡ true
has_more path more h = list_any-append names_construct path more ∙ or_left _ _ h

with_name_has : (name : List ℕ) (path : List Via) → has_construct path ≡ true → has_construct (with_name name path) ≡ true
with_name_has name path has =
    elim (among name (names_after path)) as (λ b. has_construct (cond b path (path ++ plain name ∷ [])) ≡ true) [
      | true ↦ has
      | false ↦ has_more path (plain name ∷ []) has
    ]

trace_has : (path : List Via) → same (construct_of path) (codes "qAI") ≡ true → has_construct path ≡ true
trace_has path h =
    elim (has_construct path) as (λ b. has_construct path ≡ b → b ≡ true) [
      | true ↦ λ _. refl
      | false ↦ λ none. let other : same (construct_of path) (codes "qAI") ≡ false = ap (λ c. same c (codes "qAI")) (construct_none path none) in cc
    ] refl

-- where the construct is qAI when the rule is done, it was before, and the server was traced
traced_named : (name server : List ℕ) (path : List Via) → construct_of (traced name server path) ≡ codes "qAI" → among server (names_after (traced name server path)) ≡ true
traced_named name server path =
    elim (same (construct_of path) (codes "qAI")) as (λ b. same (construct_of path) (codes "qAI") ≡ b
    → construct_of (cond b (with_name server (with_name name path)) path) ≡ codes "qAI" → among server (names_after (cond b (with_name server (with_name name path)) path)) ≡ true) [
      | true ↦ λ e _. with_name_named server (with_name name path) (with_name_has name path (trace_has path e))
      | false ↦ λ other is. absurd (false≢true (sym other ∙ ap (λ c. same c (codes "qAI")) is))
    ] refl

answer_traced : (parts : PartsSeen) (origin : Origin) (server : List ℕ) (others : List (List ℕ)) (whole : PartsSeen) → process_of parts origin server others ≡ Ok whole
    → construct_of whole.vias ≡ codes "qAI" → names server whole ≡ true
answer_traced parts origin server others whole goes =
    let answer : Answer parts origin server others whole = answer_is parts origin server others whole goes in
    subst (λ w. construct_of w.vias ≡ codes "qAI" → names server w ≡ true) answer.whole_is (traced_named (name_of origin) server (built_path parts origin server))

-- ---- along a trail

traced_in : (by : Acceptance) (trail : Trail) → IsByRule trail → IsIn by trail → HasConstruct (codes "qAI") by → names by.call by.parts ≡ true
traced_in by (Submitted line) ruled is = absurd is
traced_in by (Passed before last) (ruled, (parts, ends, goes)) (inl is) =
    subst (λ a. HasConstruct (codes "qAI") a → names a.call a.parts ≡ true) (sym is) (answer_traced parts last.origin last.call last.others last.parts goes)
traced_in by (Passed before last) ruled (inr is) = traced_in by before ruled.0 is

new_in : (by : Acceptance) (call : List ℕ) (trail : Trail) → IsNewTo call trail → IsIn by trail → names by.call by.parts ≡ true → by.call ≢ call
new_in by call (Submitted line) new is = absurd is
new_in by call (Passed before last) new (inl is) = subst (λ a. names a.call a.parts ≡ true → a.call ≢ call) (sym is) new.1
new_in by call (Passed before last) new (inr is) = new_in by call before new.0 is

later_differs : (earlier later : Acceptance) (trail : Trail) → NeverReturns trail → ComesLater earlier later trail → names earlier.call earlier.parts ≡ true → later.call ≢ earlier.call
later_differs earlier later (Submitted line) returns comes named = absurd comes
later_differs earlier later (Passed before last) returns (inl comes) named =
    λ is. new_in earlier last.call before returns.1 comes.1 named (sym is ∙ ap (λ a. a.call) comes.0)
later_differs earlier later (Passed before last) returns (inr comes) named = later_differs earlier later before returns.0 comes named

earlier_in : (earlier later : Acceptance) (trail : Trail) → ComesLater earlier later trail → IsIn earlier trail
earlier_in earlier later (Submitted line) comes = absurd comes
earlier_in earlier later (Passed before last) (inl comes) = inr comes.1
earlier_in earlier later (Passed before last) (inr comes) = inr (earlier_in earlier later before comes)

marked_named : (construct : List ℕ) (by : Acceptance) → IsMarked construct by → names by.call by.parts ≡ true
marked_named construct by (has, (rest, are)) = ap (among by.call) are ∙ or_left _ _ (same_self by.call)

-- ---- the laws

module _ (layout : Layout) (steps : List NetEvent) (trail : Trail) (laid : IsLaidOut layout) (d : Descended layout steps trail) where
  returns : NeverReturns trail
  returns = none_comes_back layout steps d.server d.place d.s d.packet trail laid d.at d.there d.is

  ruled : IsByRule trail
  ruled =
      let (first, is, descent) = packets_descend layout steps d.server d.place d.s d.packet laid d.at d.there in
      subst IsByRule (some_same first trail (sym is ∙ d.is)) descent.sound.ruled

pub marked_stay_away : MarkedStayAway
marked_stay_away layout steps trail earlier later laid d comes (inl marked) = later_differs earlier later trail (returns layout steps trail laid d) comes (marked_named (codes "qAC") earlier marked)
marked_stay_away layout steps trail earlier later laid d comes (inr marked) = later_differs earlier later trail (returns layout steps trail laid d) comes (marked_named (codes "qAX") earlier marked)

pub traced_are_named : TracedAreNamed
traced_are_named layout steps trail by laid d = traced_in by trail (ruled layout steps trail laid d)

pub traced_stay_away : TracedStayAway
traced_stay_away layout steps trail earlier later laid d comes has =
    later_differs earlier later trail (returns layout steps trail laid d) comes (traced_in earlier trail (ruled layout steps trail laid d) (earlier_in earlier later trail comes) has)
