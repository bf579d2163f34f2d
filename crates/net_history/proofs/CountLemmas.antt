-- The links of a server are counted: those that wait have the next numbers, and one that never came takes nothing.
use Rattle.std.proofs.Common.{◌≡◌, ℕ, ◌+◌, ◌<◌, ◌≤◌, ◌||◌, Bool, true, false, List, [], ◌∷◌, ◌++◌, length, map, take, refl, sym, ap, ◌∙◌, subst, arith, IfSome, Option, Some, None, append_assoc, if◌then◌else◌}
use Rattle.std.specs.Bool.{⊤}
use Rattle.std.specs.Prelude.{slice_get}
use Rattle.aprs_base.specs.Outside.{new_link}
use Rattle.aprs_base.specs.declared.events.Event.{Event}
use Rattle.aprs_base.specs.declared.events.Sent.{Sent}
use Rattle.aprs_base.specs.declared.events.Happening.TheVariants as did
use Rattle.aprs_base.specs.declared.packets.ListenSpec.{ListenSpec}
use Rattle.aprs_history.specs.Setting.{Setting}
use Rattle.aprs_history.specs.Trace.{Trace, Rises, closed_links, served_links}
use Rattle.aprs_history.specs.History.{History, ends_round, greater_link, greatest_link, is_stopped, open_events, trace_of}
use Rattle.aprs_history.specs.Rounds.{AreFresh, greatest_after, stopped_after}
use Rattle.aprs_history.specs.Acts.{Act, Offers, SendsLine, Closes, IsRun, MayCome, acts_after, all_offers, but_first, cast_act, dials, due, is_offered, listens_from, offered_links, offers_by, offers_to}
use Rattle.aprs_history.specs.Dials.{CastSeen, casts_of, dial_of}
use Rattle.aprs_history.specs.Downs.{DownSeen, down_of, whole_lines}
use Rattle.aprs_history.specs.Texts.{untaken}
use Rattle.aprs_history.specs.Headline.{HasFreshLinks, taken_bytes, taken_of}
use Rattle.aprs_history.proofs.DueLemmas.{serves}
use Rattle.aprs_history.proofs.NumberLemmas.{differs_above, rises_filtered, rises_within}
use Rattle.net_history.specs.declared.events.NetEvent.{NetEvent}
use Rattle.net_history.specs.Network.{Layout, ServerSeen}
use Rattle.net_history.specs.Steps.{network_of}
use Rattle.net_history.specs.Laws.{CountsLinks}
use Rattle.net_history.proofs.PlaceLemmas.{all_at}
use Rattle.net_history.proofs.RunLemmas.{Comes, Good, networks_good, servers_run}

-- ---- what waits for a server

pub networks_come : (layout : Layout) (steps : List NetEvent) (place : ℕ) (s : ServerSeen) → slice_get (network_of layout steps).servers place ≡ Some s → Comes (greatest_link s.history) s.arrivals (length s.made)
networks_come layout steps place s at = let goes : Good s = all_at Good place (network_of layout steps).servers s at (networks_good layout steps) in goes.comes

next_above : (before : ℕ) (new : Option ℕ) → IfSome new (λ link. link ≡ before + 1) → IfSome new (λ link. before < link)
next_above before None is = tt
next_above before (Some link) is = omega (arith, is)

-- the links of what comes are fresh, up to the last, and no stop is among it
pub comes_fresh : (first last : ℕ) (events : List Event) → Comes first events last → AreFresh first events × (greatest_after events first ≡ last) × (stopped_after events false ≡ false)
comes_fresh first last [] comes = (tt, comes, refl)
comes_fresh first last (e ∷ events) comes =
    let later = comes_fresh (greater_link (new_link e) first) last events comes.2 in
    ((next_above first (new_link e) comes.1, later.0), later.1, ap (λ stop. stopped_after events (stop || false)) comes.0 ∙ later.2)

pub not_less : (new : Option ℕ) (before : ℕ) → before ≤ greater_link new before
not_less None before = omega arith
not_less (Some link) before = omega arith

pub comes_below : (first last : ℕ) (events : List Event) → Comes first events last → first ≤ last
comes_below first last [] comes = omega (arith, comes)
comes_below first last (e ∷ events) comes =
    let here = not_less (new_link e) first in
    let later = comes_below (greater_link (new_link e) first) last events comes.2 in
    omega (arith, here, later)

-- ---- a link that never came

pub counted_fresh : (h : History) → CountsLinks h → HasFreshLinks h
counted_fresh [] counts = tt
counted_fresh (did.Event e ∷ h) counts = (counted_fresh h counts.0, next_above (greatest_link h) (new_link e) counts.1)
counted_fresh (x ∷ h) counts = counted_fresh h counts

-- what is sent goes to links of such a number at most
abbrev Reaches : ℕ → List Act → Type 0
Reaches high [] = ⊤
Reaches high (Offers link bytes ∷ acts) = (link ≤ high) × Reaches high acts
Reaches high (SendsLine link line ∷ acts) = (link ≤ high) × Reaches high acts
Reaches high (act ∷ acts) = Reaches high acts

lines_reach : (high link : ℕ) (lines : List (List ℕ)) (acts : List Act) → link ≤ high → Reaches high acts → Reaches high (map (SendsLine link) lines ++ acts)
lines_reach high link [] acts within reaches = reaches
lines_reach high link (line ∷ lines) acts within reaches = (within, lines_reach high link lines acts within reaches)

offer_reaches : (high link : ℕ) (down : Option DownSeen) (bytes : List ℕ) (acts : List Act) → link ≤ high → Reaches high acts → Reaches high (offers_by down link bytes ++ acts)
offer_reaches high link None bytes acts within reaches = (within, reaches)
offer_reaches high link (Some down) bytes acts within reaches = lines_reach high link (whole_lines bytes) acts within reaches

closes_reach : (high : ℕ) (links : List ℕ) → Reaches high (map Closes links)
closes_reach high [] = tt
closes_reach high (link ∷ links) = closes_reach high links

casts_reach : (high : ℕ) (casts : List CastSeen) (acts : List Act) → Reaches high acts → Reaches high (map cast_act casts ++ acts)
casts_reach high [] acts reaches = reaches
casts_reach high (cast ∷ casts) acts reaches = casts_reach high casts acts reaches

dials_reach : (high : ℕ) (dial : Option ℕ) (acts : List Act) → Reaches high acts → Reaches high (dials dial ++ acts)
dials_reach high None acts reaches = reaches
dials_reach high (Some uplink) acts reaches = reaches

listens_reach : (high n : ℕ) (listens : List ListenSpec) → Reaches high (listens_from n listens)
listens_reach high n [] = tt
listens_reach high n (spec ∷ specs) = listens_reach high (n + 1) specs

module _ (s : Setting) (t : Trace) where
  offers_reach : (low high : ℕ) (links : List ℕ) (acts : List Act) → Rises low links high → Reaches high acts → Reaches high (all_offers s t links ++ acts)
  offers_reach low high [] acts rises reaches = reaches
  offers_reach low high (link ∷ links) acts rises reaches =
      subst (Reaches high) (sym (append_assoc (offers_to s t link) (all_offers s t links) acts))
      (offer_reaches high link (down_of s t link) (take 65536 (untaken s t link)) (all_offers s t links ++ acts) (rises_within link high links rises.1) (offers_reach link high links acts rises.1 reaches))

  -- at the end of a round
  acts_reach : (ends : Bool) (high : ℕ) → Rises 0 (served_links t) high → Reaches high (if ends then acts_after s t else [])
  acts_reach true high rises =
      let closes = map Closes (closed_links t) in
      let offers = all_offers s t (offered_links s t) ++ closes in
      dials_reach high (dial_of s t) (map cast_act (casts_of s t) ++ offers)
      (casts_reach high (casts_of s t) offers (offers_reach 0 high (offered_links s t) closes (rises_filtered (is_offered s t) 0 high (served_links t) rises) (closes_reach high (closed_links t))))
  acts_reach false high rises = tt

reaches_next : (high : ℕ) (acts : List Act) → Reaches high acts → Reaches high (but_first acts)
reaches_next high [] reaches = reaches
reaches_next high (Offers link bytes ∷ acts) reaches = reaches.1
reaches_next high (SendsLine link line ∷ acts) reaches = reaches.1
reaches_next high (act ∷ acts) reaches = reaches

due_reaches : (s : Setting) (h : History) → IsRun s h → HasFreshLinks h → Reaches (greatest_link h) (due s h)
unfolding due
due_reaches s [] run fresh = listens_reach 0 0 s.listens
due_reaches s (did.Event e ∷ h) run fresh =
    acts_reach s (trace_of s (did.Event e ∷ h)) (ends_round (open_events h) e) (greatest_link (did.Event e ∷ h)) (serves s (did.Event e ∷ h) run fresh).1
due_reaches s (x ∷ h) run fresh = reaches_next (greatest_link h) (due s h) (due_reaches s h run.0 fresh)

sent_within : (acts : List Act) (stopped : Bool) (link : ℕ) (bytes : List ℕ) (outcome : Sent) (high : ℕ) → MayCome acts stopped (did.Sent link bytes outcome) → Reaches high acts → link ≤ high
sent_within [] stopped link bytes outcome high may reaches = absurd may.1
sent_within (Offers owed given ∷ acts) stopped link bytes outcome high may reaches = subst (λ k. k ≤ high) (sym may.0) reaches.0
sent_within (SendsLine owed line ∷ acts) stopped link bytes outcome high may reaches = subst (λ k. k ≤ high) (sym may.0) reaches.0
sent_within (act ∷ acts) stopped link bytes outcome high may reaches = absurd may

-- in a run, what is sent is sent to links that have come
pub later_links_take_nothing : (s : Setting) (h : History) → IsRun s h → HasFreshLinks h → (link : ℕ) → greatest_link h < link → taken_bytes h link ≡ []
later_links_take_nothing s [] run fresh link above = refl
later_links_take_nothing s (did.Event e ∷ h) run fresh link above =
    let below = not_less (new_link e) (greatest_link h) in
    later_links_take_nothing s h run.0 fresh.0 link (omega (arith, below, above))
later_links_take_nothing s (did.Sent to bytes outcome ∷ h) run fresh link above =
    let within = sent_within (due s h) (is_stopped h) to bytes outcome (greatest_link h) run.1 (due_reaches s h run.0 fresh) in
    ap (λ b. if b then taken_bytes h link ++ taken_of bytes outcome else taken_bytes h link) (differs_above to link (omega (arith, within, above))) ∙ later_links_take_nothing s h run.0 fresh link above
later_links_take_nothing s (x ∷ h) run fresh link above = later_links_take_nothing s h run.0 fresh link above

pub unmade_take_nothing : (layout : Layout) (steps : List NetEvent) (place : ℕ) (s : ServerSeen) → slice_get (network_of layout steps).servers place ≡ Some s → (link : ℕ) → length s.made < link → taken_bytes s.history link ≡ []
unmade_take_nothing layout steps place s at link above =
    let rests = (servers_run layout steps place s at).0 in
    let below = comes_below (greatest_link s.history) (length s.made) s.arrivals (networks_come layout steps place s at) in
    later_links_take_nothing s.setting s.history rests.run (counted_fresh s.history rests.counts) link (omega (arith, below, above))
