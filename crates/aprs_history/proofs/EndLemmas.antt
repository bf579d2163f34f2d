-- Links end by the rules.
use Rattle.std.proofs.Common.{◌≡◌, ℕ, true, [], ◌∷◌, ◌++◌, subst}
use Rattle.std.specs.Bool.{⊤}
use Rattle.std.specs.List.{list_any}
use Rattle.std.proofs.lemmas.Bool.{or_right}
use Rattle.aprs_base.specs.Outside.{new_link}
use Rattle.aprs_base.specs.declared.events.Sent.TheVariants as sent
use Rattle.aprs_base.specs.declared.events.Happening.{Happening}
use Rattle.aprs_base.specs.declared.events.Happening.TheVariants as did
use Rattle.aprs_history.specs.Setting.{Setting}
use Rattle.aprs_history.specs.Trace.{Trace, Entry, Ended}
use Rattle.aprs_history.specs.declared.verdicts.EndReason.{EndReason}
use Rattle.aprs_history.specs.declared.verdicts.EndReason.TheVariants.{ByPeer, ByStop}
use Rattle.aprs_history.specs.History.{History, is_stop, is_stopped, trace_of}
use Rattle.aprs_history.specs.Headline.{EndsBy, LinksEndByRules, is_end_by_peer}
use Rattle.aprs_history.proofs.EntryLemmas.{MayAdd, any_link, kept_after}

abbrev IsByRule : Setting → History → Trace → Entry → Type 0
IsByRule s h t (Ended link reason) = EndsBy s h t link reason
IsByRule s h t entry = ⊤

abbrev AllByRule : Setting → History → Trace → Type 0
AllByRule s h [] = ⊤
AllByRule s h (entry ∷ t) = IsByRule s h t entry × AllByRule s h t

by_rule_at : (s : Setting) (h : History) (later t : Trace) → AllByRule s h (later ++ t) → AllByRule s h t
by_rule_at s h [] t all = all
by_rule_at s h (entry ∷ later) t all = by_rule_at s h later t all.1

-- ---- a history that goes on

still_stopped : (x : Happening) (h : History) → is_stopped h ≡ true → is_stopped (x ∷ h) ≡ true
still_stopped (did.Event e) h stopped = or_right (is_stop e) (is_stopped h) stopped
still_stopped happening h stopped = stopped

module _ (s : Setting) (x : Happening) (h : History) where
  ends_still : (t : Trace) (link : ℕ) (reason : EndReason) → EndsBy s h t link reason → EndsBy s (x ∷ h) t link reason
  ends_still t link ByPeer ends = or_right (is_end_by_peer link x) (list_any (is_end_by_peer link) h) ends
  ends_still t link ByStop ends = still_stopped x h ends
  ends_still t link reason ends = ends

  by_rule_still : (t : Trace) → AllByRule s h t → AllByRule s (x ∷ h) t
  by_rule_still [] all = tt
  by_rule_still (Ended link reason ∷ t) all = (ends_still t link reason all.0, by_rule_still t all.1)
  by_rule_still (entry ∷ t) all = (tt, by_rule_still t all.1)

by_rule_added : (s : Setting) (h : History) (t : Trace) (entry : Entry) → MayAdd s h (λ link. ⊤) t entry → AllByRule s h t → AllByRule s h (entry ∷ t)
by_rule_added s h t (Ended link reason) may all = (may.1, all)
by_rule_added s h t entry may all = (tt, all)

all_by_rule : (s : Setting) (h : History) → AllByRule s h (trace_of s h)
unfolding trace_of
all_by_rule s [] = tt
all_by_rule s (did.Event e ∷ h) =
    let all = did.Event e ∷ h in
    kept_after s h e (λ link. ⊤) (AllByRule s all) (by_rule_added s all) (λ t k stopped before. (stopped, before)) (any_link (new_link e)) (by_rule_still s (did.Event e) h (trace_of s h) (all_by_rule s h))
all_by_rule s (did.Sent link bytes (sent.Took n) ∷ h) = (tt, by_rule_still s (did.Sent link bytes (sent.Took n)) h (trace_of s h) (all_by_rule s h))
all_by_rule s (did.Sent link bytes sent.Gone ∷ h) = (tt, by_rule_still s (did.Sent link bytes sent.Gone) h (trace_of s h) (all_by_rule s h))
all_by_rule s (happening ∷ h) = by_rule_still s happening h (trace_of s h) (all_by_rule s h)

pub links_end_by_rules : LinksEndByRules
links_end_by_rules s h later earlier link reason split = (by_rule_at s h later (Ended link reason ∷ earlier) (subst (AllByRule s h) split (all_by_rule s h))).0
