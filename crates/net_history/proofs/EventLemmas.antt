-- The events of a server: links are opened before bytes come on them, uplinks join from addresses, and only clients come to a listener that shows
-- refused duplicates.
use Rattle.std.proofs.Common.{◌≡◌, ◌≢◌, ℕ, zero, suc, ◌+◌, ◌-◌, ◌/◌, ◌%◌, ◌<◌, ◌≤◌, ◌==◌, max, Bool, true, false, List, [], ◌∷◌, ◌++◌, length, map, refl, sym, ap, ◌∙◌, subst, arith, IfSome, Option, Some, None, append-nil, append_assoc, if◌then◌else◌}
use Rattle.std.specs.Bool.{⊤}
use Rattle.std.specs.Prelude.{slice_get}
use Rattle.std.proofs.lemmas.Bool.{and_from, and_parts, lt-ltb, ltb-true, true≢false}
use Rattle.aprs_base.specs.Outside.{new_link}
use Rattle.aprs_base.specs.declared.cutting.Cut.TheVariants as cut
use Rattle.aprs_base.specs.declared.events.Event.{Event}
use Rattle.aprs_base.specs.declared.events.Event.TheVariants as event
use Rattle.aprs_base.specs.declared.events.Happening.TheVariants as did
use Rattle.aprs_base.specs.declared.packets.ListenSpec.{ListenSpec}
use Rattle.aprs_base.specs.declared.packets.PortKind.{PortKind}
use Rattle.aprs_base.specs.declared.packets.PortKind.TheVariants as kind
use Rattle.aprs_base.specs.declared.texts.Addr.{Addr}
use Rattle.link_queue.specs.Lines.{ended_line}
use Rattle.aprs_history.specs.Setting.{Setting, is_dupe_kind, kind_at}
use Rattle.aprs_history.specs.Acts.{Act, Listens, Dials, Casts, Offers, SendsLine, Closes, IsRun, due}
use Rattle.aprs_history.specs.Casting.{casts_to_peer}
use Rattle.aprs_history.specs.History.{History, datagram_cuts, greater_link, greatest_link, open_events}
use Rattle.aprs_history.specs.Rounds.{listens_after}
use Rattle.aprs_history.specs.Arriving.{NoneCameEarly, bytes_for, came_to}
use Rattle.aprs_history.specs.Headline.{HasFreshLinks}
use Rattle.aprs_history.specs.Sound.{IsSound, JoinsHaveAddresses, is_address}
use Rattle.net_history.specs.declared.events.Pair.{Pair}
use Rattle.net_history.specs.declared.events.NetEvent.{NetEvent}
use Rattle.net_history.specs.declared.events.NetEvent.TheVariants as net
use Rattle.net_history.specs.Network.{End, ForClient, ForPair, JoinedSeen, Layout, Made, NetSeen, ServerSeen, address_of, at_server, changed_at, end_beyond, new_server, number_of, parted_at, trace_at, with_arrival}
use Rattle.net_history.specs.Serving.{arrivals_at, due_at, happening_of, told_of_end, with_act, with_acts, with_all, with_dial, with_effect, with_event, with_happening, with_round, without_arrivals}
use Rattle.net_history.specs.Steps.{datagram_at, ends_at, high_end, is_there, joined_at, login_line, low_end, may_join, may_say, network_of, next_link, peering, with_carry, with_cast, with_client, with_cut, with_datagram, with_downlink, with_join, with_link, with_mail, with_step, with_uplink}
use Rattle.net_history.specs.Premises.{IsLaidOut}
use Rattle.net_history.proofs.PlaceLemmas.{AllBut, Each, all_at, all_but, all_mapped, but_all, but_changed, map_at, map_changed, one_changed, one_known}
use Rattle.net_history.proofs.SettingLemmas.{networks_keep, setting_at, settings}
use Rattle.net_history.proofs.BetweenLemmas.{at_end, at_longer, none_some, place_below}
use Rattle.net_history.proofs.GrowthLemmas.{HasEnd, Kept}
use Rattle.net_history.proofs.CastLineLemmas.{IsCast, casts_are_lines, datagram_is_line}
use Rattle.net_history.proofs.FinishLemmas.{rounds_are_finished}
use Rattle.net_history.proofs.MailLemmas.{IsOneLine, OneLineEach}
use Rattle.net_history.proofs.RunLemmas.{servers_run}
use Rattle.net_history.proofs.StreamLemmas.{eqb_other, high_there, joined_there, networks_kept, one_more, says_to}

-- ---- what an event may be

abbrev pub is_dupe_port : Option PortKind → Bool
is_dupe_port None = false
is_dupe_port (Some port) = is_dupe_kind port

-- after so many links: a link has the next number, and bytes are of one that has come
abbrev pub IsFit : Setting → List Made → ℕ → Event → Type 0
IsFit setting made links (event.Opened listener link from) = (link ≡ links + 1) × (is_dupe_port (kind_at setting listener) ≡ true → slice_get made links ≡ Some ForClient)
IsFit setting made links (event.Joined uplink link at) = (link ≡ links + 1) × (is_address at ≡ true)
IsFit setting made links (event.Bytes link bytes) = (1 ≤ link) × (link ≤ links)
IsFit setting made links (event.Datagram listener from bytes) = IsOneLine (event.Datagram listener from bytes)
IsFit setting made links e = ⊤

abbrev pub Had : Setting → List Made → History → Type 0
Had setting made [] = ⊤
Had setting made (did.Event e ∷ earlier) = Had setting made earlier × IsFit setting made (greatest_link earlier) e
Had setting made (x ∷ earlier) = Had setting made earlier

abbrev Comes : Setting → List Made → ℕ → List Event → ℕ → Type 0
Comes setting made links [] last = links ≡ last
Comes setting made links (e ∷ events) last = IsFit setting made links e × Comes setting made (greater_link (new_link e) links) events last

-- what came and what comes is fit
record Fits (rest : List Event) (s : ServerSeen) : Type 0 where
  had : Had s.setting s.made s.history
  comes : Comes s.setting s.made (greatest_link s.history) (rest ++ s.arrivals) (length s.made)

-- ---- what follows of a history

pub fresh_links : (s : Setting) (made : List Made) (h : History) → Had s made h → HasFreshLinks h
fresh_links s made [] had = tt
fresh_links s made (did.Event e ∷ h) had = (fresh_links s made h had.0, of e had.1)
  where
    of : (e : Event) → IsFit s made (greatest_link h) e → IfSome (new_link e) (λ link. greatest_link h < link)
    of (event.Opened listener link from) fit = let is = fit.0 in omega (arith, is)
    of (event.Joined uplink link at) fit = let is = fit.0 in omega (arith, is)
    of (event.Bytes link bytes) fit = tt
    of (event.Tick moment) fit = tt
    of (event.Ended link) fit = tt
    of (event.Room link) fit = tt
    of event.Stop fit = tt
    of (event.Unjoined uplink) fit = tt
    of (event.Datagram listener from bytes) fit = tt
fresh_links s made (did.Listen n ∷ h) had = fresh_links s made h had
fresh_links s made (did.Dialled n ∷ h) had = fresh_links s made h had
fresh_links s made (did.Cast to bytes ∷ h) had = fresh_links s made h had
fresh_links s made (did.Sent link bytes outcome ∷ h) had = fresh_links s made h had
fresh_links s made (did.Closed link ∷ h) had = fresh_links s made h had

pub joins_have_addresses : (s : Setting) (made : List Made) (h : History) → Had s made h → JoinsHaveAddresses h
joins_have_addresses s made [] had = tt
joins_have_addresses s made (did.Event (event.Joined uplink link at) ∷ h) had = (joins_have_addresses s made h had.0, had.1.1)
joins_have_addresses s made (did.Event (event.Opened listener link from) ∷ h) had = joins_have_addresses s made h had.0
joins_have_addresses s made (did.Event (event.Bytes link bytes) ∷ h) had = joins_have_addresses s made h had.0
joins_have_addresses s made (did.Event (event.Tick moment) ∷ h) had = joins_have_addresses s made h had.0
joins_have_addresses s made (did.Event (event.Ended link) ∷ h) had = joins_have_addresses s made h had.0
joins_have_addresses s made (did.Event (event.Room link) ∷ h) had = joins_have_addresses s made h had.0
joins_have_addresses s made (did.Event event.Stop ∷ h) had = joins_have_addresses s made h had.0
joins_have_addresses s made (did.Event (event.Unjoined uplink) ∷ h) had = joins_have_addresses s made h had.0
joins_have_addresses s made (did.Event (event.Datagram listener from bytes) ∷ h) had = joins_have_addresses s made h had.0
joins_have_addresses s made (did.Listen n ∷ h) had = joins_have_addresses s made h had
joins_have_addresses s made (did.Dialled n ∷ h) had = joins_have_addresses s made h had
joins_have_addresses s made (did.Cast to bytes ∷ h) had = joins_have_addresses s made h had
joins_have_addresses s made (did.Sent link bytes outcome ∷ h) had = joins_have_addresses s made h had
joins_have_addresses s made (did.Closed link ∷ h) had = joins_have_addresses s made h had

pub one_line_each : (s : Setting) (made : List Made) (h : History) → Had s made h → OneLineEach h
one_line_each s made [] had = tt
one_line_each s made (did.Event e ∷ h) had = (one_line_each s made h had.0, of e had.1)
  where
    of : (e : Event) → IsFit s made (greatest_link h) e → IsOneLine e
    of (event.Datagram listener from bytes) fit = fit
    of (event.Opened listener link from) fit = tt
    of (event.Joined uplink link at) fit = tt
    of (event.Bytes link bytes) fit = tt
    of (event.Tick moment) fit = tt
    of (event.Ended link) fit = tt
    of (event.Room link) fit = tt
    of event.Stop fit = tt
    of (event.Unjoined uplink) fit = tt
one_line_each s made (did.Listen n ∷ h) had = one_line_each s made h had
one_line_each s made (did.Dialled n ∷ h) had = one_line_each s made h had
one_line_each s made (did.Cast to bytes ∷ h) had = one_line_each s made h had
one_line_each s made (did.Sent link bytes outcome ∷ h) had = one_line_each s made h had
one_line_each s made (did.Closed link ∷ h) had = one_line_each s made h had

-- no bytes came for a link that hasn't come
none_for : (s : Setting) (made : List Made) (h : History) (link : ℕ) → greatest_link h < link → Had s made h → came_to h link ≡ []
none_for s made [] link above had = refl
none_for s made (did.Event e ∷ h) link above had =
    ap (λ bytes. bytes ++ bytes_for link e) (none_for s made h link (lower (greatest_link h) (new_link e) above) had.0) ∙ of e above had.1
  where
    lower : (before : ℕ) (new : Option ℕ) → greater_link new before < link → before < link
    lower before None above = above
    lower before (Some new) above = omega (arith, above)

    of : (e : Event) → greater_link (new_link e) (greatest_link h) < link → IsFit s made (greatest_link h) e → bytes_for link e ≡ []
    of (event.Bytes to bytes) above fit = let low = fit.1 in ap (λ b. if b then bytes else []) (eqb_other link to (λ is. absurd (omega (arith, is, low, above))))
    of (event.Opened listener opened from) above fit = refl
    of (event.Joined uplink opened at) above fit = refl
    of (event.Tick moment) above fit = refl
    of (event.Ended other) above fit = refl
    of (event.Room other) above fit = refl
    of event.Stop above fit = refl
    of (event.Unjoined uplink) above fit = refl
    of (event.Datagram listener from bytes) above fit = refl
none_for s made (did.Listen n ∷ h) link above had = none_for s made h link above had
none_for s made (did.Dialled n ∷ h) link above had = none_for s made h link above had
none_for s made (did.Cast to bytes ∷ h) link above had = none_for s made h link above had
none_for s made (did.Sent to bytes outcome ∷ h) link above had = none_for s made h link above had
none_for s made (did.Closed other ∷ h) link above had = none_for s made h link above had

pub none_came_early : (s : Setting) (made : List Made) (h : History) (link : ℕ) → Had s made h → NoneCameEarly h link
none_came_early s made [] link had = tt
none_came_early s made (did.Event e ∷ h) link had = (none_came_early s made h link had.0, λ opens. none_for s made h link (of (new_link e) (fresh_links s made (did.Event e ∷ h) had).1 opens) had.0)
  where
    of : (new : Option ℕ) → IfSome new (λ k. greatest_link h < k) → new ≡ Some link → greatest_link h < link
    of None above is = absurd (none_some link is)
    of (Some k) above is = let same : k ≡ link = cc in omega (arith, same, above)
none_came_early s made (did.Listen n ∷ h) link had = none_came_early s made h link had
none_came_early s made (did.Dialled n ∷ h) link had = none_came_early s made h link had
none_came_early s made (did.Cast to bytes ∷ h) link had = none_came_early s made h link had
none_came_early s made (did.Sent to bytes outcome ∷ h) link had = none_came_early s made h link had
none_came_early s made (did.Closed other ∷ h) link had = none_came_early s made h link had

-- ---- something comes

module _ (setting : Setting) where
  fit_longer : (made : List Made) (m : Made) (links : ℕ) (e : Event) → IsFit setting made links e → IsFit setting (made ++ m ∷ []) links e
  fit_longer made m links (event.Opened listener link from) fit = (fit.0, λ dupe. at_longer made (m ∷ []) links ForClient (fit.1 dupe))
  fit_longer made m links (event.Joined uplink link at) fit = fit
  fit_longer made m links (event.Bytes link bytes) fit = fit
  fit_longer made m links (event.Tick moment) fit = tt
  fit_longer made m links (event.Ended link) fit = tt
  fit_longer made m links (event.Room link) fit = tt
  fit_longer made m links event.Stop fit = tt
  fit_longer made m links (event.Unjoined uplink) fit = tt
  fit_longer made m links (event.Datagram listener from bytes) fit = fit

  had_longer : (made : List Made) (m : Made) (h : History) → Had setting made h → Had setting (made ++ m ∷ []) h
  had_longer made m [] had = tt
  had_longer made m (did.Event e ∷ h) had = (had_longer made m h had.0, fit_longer made m (greatest_link h) e had.1)
  had_longer made m (did.Listen n ∷ h) had = had_longer made m h had
  had_longer made m (did.Dialled n ∷ h) had = had_longer made m h had
  had_longer made m (did.Cast to bytes ∷ h) had = had_longer made m h had
  had_longer made m (did.Sent link bytes outcome ∷ h) had = had_longer made m h had
  had_longer made m (did.Closed link ∷ h) had = had_longer made m h had

  comes_longer : (made : List Made) (m : Made) (links : ℕ) (events : List Event) (last : ℕ) → Comes setting made links events last → Comes setting (made ++ m ∷ []) links events last
  comes_longer made m links [] last comes = comes
  comes_longer made m links (e ∷ events) last comes = (fit_longer made m links e comes.0, comes_longer made m (greater_link (new_link e) links) events last comes.1)

  comes_more : (made : List Made) (links last : ℕ) (events : List Event) (e : Event) → IsFit setting made last e → Comes setting made links events last → Comes setting made links (events ++ e ∷ []) (greater_link (new_link e) last)
  comes_more made links last [] e fit comes = (subst (λ n. IsFit setting made n e) (sym comes) fit, ap (greater_link (new_link e)) comes)
  comes_more made links last (x ∷ events) e fit comes = (comes.0, comes_more made (greater_link (new_link x) links) last events e fit comes.1)

-- no link comes
fits_arrival : (rest : List Event) (e : Event) (s : ServerSeen) → new_link e ≡ None → IsFit s.setting s.made (length s.made) e → Fits rest s → Fits rest (with_arrival e s)
fits_arrival rest e s none fit fits = record {
  had = fits.had;
  comes = subst (λ events. Comes s.setting s.made (greatest_link s.history) events (length s.made)) (append_assoc rest s.arrivals (e ∷ []))
      (subst (Comes s.setting s.made (greatest_link s.history) ((rest ++ s.arrivals) ++ e ∷ [])) (ap (λ link. greater_link link (length s.made)) none)
      (comes_more s.setting s.made (greatest_link s.history) (length s.made) (rest ++ s.arrivals) e fit fits.comes));
}

next_is : (n : ℕ) → max (n + 1) n ≡ n + 1
next_is n = omega arith

-- a link comes
fits_link : (rest : List Event) (e : Event) (m : Made) (s : ServerSeen) → new_link e ≡ Some (next_link s) → IsFit s.setting (s.made ++ m ∷ []) (length s.made) e → Fits rest s → Fits rest (with_link m (with_arrival e s))
fits_link rest e m s next fit fits =
    let made = s.made ++ m ∷ [] in
    record {
      had = had_longer s.setting s.made m s.history fits.had;
      comes = subst (λ events. Comes s.setting made (greatest_link s.history) events (length made)) (append_assoc rest s.arrivals (e ∷ []))
          (subst (Comes s.setting made (greatest_link s.history) ((rest ++ s.arrivals) ++ e ∷ []))
          (ap (λ link. greater_link link (length s.made)) next ∙ next_is (length s.made) ∙ sym (one_more s.made m))
          (comes_more s.setting made (greatest_link s.history) (length s.made) (rest ++ s.arrivals) e fit
          (comes_longer s.setting s.made m (greatest_link s.history) (rest ++ s.arrivals) (length s.made) fits.comes)));
    }

fits_client : (listener : ℕ) (from : Addr) (call : List ℕ) (s : ServerSeen) → Fits [] s → Fits [] (with_client listener from call s)
fits_client listener from call s fits =
    let opened = event.Opened listener (next_link s) from in
    fits_arrival [] (event.Bytes (next_link s) (ended_line (login_line call))) (with_link ForClient (with_arrival opened s)) refl
    (omega arith, (let long = one_more s.made ForClient in omega (arith, long)))
    (fits_link [] opened ForClient s refl (refl, λ dupe. at_end s.made ForClient) fits)

fits_uplink : (uplink : ℕ) (at : Addr) (other : End) (s : ServerSeen) → is_address at ≡ true → Fits [] s → Fits [] (with_uplink uplink at other s)
fits_uplink uplink at other s address fits =
    let now = fits_link [] (event.Joined uplink (next_link s) at) (ForPair other) s refl (refl, address) fits in
    record { had = now.had; comes = now.comes }

fits_downlink : (listener : ℕ) (from : Addr) (other : End) (s : ServerSeen) → is_dupe_port (kind_at s.setting listener) ≡ false → Fits [] s → Fits [] (with_downlink listener from other s)
fits_downlink listener from other s plain fits =
    fits_link [] (event.Opened listener (next_link s) from) (ForPair other) s refl (refl, λ dupe. absurd (true≢false (sym dupe ∙ plain))) fits

-- ---- a round

fits_ended : (rest : List Event) (link : ℕ) (s : ServerSeen) → Fits rest s → Fits rest (with_arrival (event.Ended link) s)
fits_ended rest link s fits = fits_arrival rest (event.Ended link) s refl tt fits

fits_began : (moment : ℕ) (s : ServerSeen) → Fits [] s → Fits (s.arrivals ++ event.Tick moment ∷ []) (without_arrivals s)
fits_began moment s fits = record {
  had = fits.had;
  comes = subst (λ events. Comes s.setting s.made (greatest_link s.history) events (length s.made)) (sym (append-nil (s.arrivals ++ event.Tick moment ∷ [])))
      (comes_more s.setting s.made (greatest_link s.history) (length s.made) s.arrivals (event.Tick moment) tt fits.comes);
}

fits_came : (e : Event) (rest : List Event) (s : ServerSeen) → Fits (e ∷ rest) s → Fits rest (with_happening (did.Event e) s)
fits_came e rest s fits = record { had = (fits.had, fits.comes.0); comes = fits.comes.1 }

fits_acted : (rest : List Event) (act : Act) (s : ServerSeen) → Fits rest s → Fits rest (with_happening (happening_of act) s)
fits_acted rest (Listens number) s fits = record { had = fits.had; comes = fits.comes }
fits_acted rest (Dials uplink) s fits = record { had = fits.had; comes = fits.comes }
fits_acted rest (Casts peer bytes) s fits = record { had = fits.had; comes = fits.comes }
fits_acted rest (Offers link bytes) s fits = record { had = fits.had; comes = fits.comes }
fits_acted rest (SendsLine link line) s fits = record { had = fits.had; comes = fits.comes }
fits_acted rest (Closes link) s fits = record { had = fits.had; comes = fits.comes }

fits_dial : (rest : List Event) (uplink : ℕ) (s : ServerSeen) → Fits rest s → Fits rest (with_dial uplink s)
fits_dial rest uplink s fits = record { had = fits.had; comes = fits.comes }

-- one server has still these events to come
abbrev AllFit : List Event → ℕ → List ServerSeen → Type 0
AllFit rest server servers = AllBut (Fits []) (Fits rest) server servers

fit_told : (rest : List Event) (server : ℕ) (end : Option End) (n : NetSeen) → AllFit rest server n.servers → AllFit rest server (told_of_end end n).servers
fit_told rest server None n fit = fit
fit_told rest server (Some end) n fit =
    but_changed (Fits []) (Fits rest) (with_arrival (event.Ended (number_of end))) (fits_ended [] (number_of end)) (fits_ended rest (number_of end)) server end.server n.servers fit

fit_effect : (rest : List Event) (server : ℕ) (act : Act) (n : NetSeen) → AllFit rest server n.servers → AllFit rest server (with_effect server act n).servers
fit_effect rest server (Listens number) n fit = fit
fit_effect rest server (Dials uplink) n fit = one_changed (Fits []) (Fits rest) (Fits rest) (with_dial uplink) (fits_dial rest uplink) server n.servers fit
fit_effect rest server (Casts peer bytes) n fit = fit
fit_effect rest server (Offers link bytes) n fit = fit
fit_effect rest server (SendsLine link line) n fit = fit
fit_effect rest server (Closes link) n fit = fit_told rest server (end_beyond server link n.pairs) (record n { pairs = map (parted_at server link) n.pairs }) fit

fit_acts : (rest : List Event) (server : ℕ) (acts : List Act) (n : NetSeen) → AllFit rest server n.servers → AllFit rest server (with_acts server acts n).servers
fit_acts rest server [] n fit = fit
fit_acts rest server (act ∷ acts) n fit =
    fit_acts rest server acts (with_act server act n)
    (fit_effect rest server act (at_server (with_happening (happening_of act)) server n)
    (one_changed (Fits []) (Fits rest) (Fits rest) (with_happening (happening_of act)) (fits_acted rest act) server n.servers fit))

fit_all : (events : List Event) (server : ℕ) (n : NetSeen) → AllFit events server n.servers → AllFit [] server (with_all server events n).servers
fit_all [] server n fit = fit
fit_all (e ∷ events) server n fit =
    let after = at_server (with_happening (did.Event e)) server n in
    fit_all events server (with_event server e n)
    (fit_acts events server (due_at (slice_get after.servers server)) after (one_changed (Fits []) (Fits (e ∷ events)) (Fits events) (with_happening (did.Event e)) (fits_came e events) server n.servers fit))

fit_round : (moment server : ℕ) (n : NetSeen) → Each (Fits []) n.servers → Each (Fits []) (with_round server moment n).servers
fit_round moment server n fit =
    let waiting : List Event = arrivals_at (slice_get n.servers server) ++ event.Tick moment ∷ [] in
    but_all (Fits []) server (with_round server moment n).servers
    (fit_all waiting server (at_server without_arrivals server n)
    (one_changed (Fits []) (λ s. (waiting ≡ s.arrivals ++ event.Tick moment ∷ []) × Fits [] s) (Fits waiting) without_arrivals
    (λ s known. subst (λ events. Fits events (without_arrivals s)) (sym known.0) (fits_began moment s known.1)) server n.servers
    (one_known (Fits []) (Fits []) (λ found s. (arrivals_at found ++ event.Tick moment ∷ [] ≡ s.arrivals ++ event.Tick moment ∷ []) × Fits [] s) (λ s fits. (refl, fits)) server n.servers (all_but (Fits []) server n.servers fit))))

-- ---- the other steps

-- a change that keeps it of that one
pub changed_there : {X : Type 0} (P : X → Type 0) (f : X → X) (i : ℕ) (xs : List X) → ((x : X) → slice_get xs i ≡ Some x → P x → P (f x)) → Each P xs → Each P (changed_at f i xs)
changed_there P f i [] keeps all = tt
changed_there P f zero (x ∷ xs) keeps all = (keeps x refl all.0, all.1)
changed_there P f (suc i) (x ∷ xs) keeps all = (all.0, changed_there P f i xs keeps all.1)

fit_calm : (e : Event) (server : ℕ) (n : NetSeen) → new_link e ≡ None → ((s : ServerSeen) → slice_get n.servers server ≡ Some s → IsFit s.setting s.made (length s.made) e)
    → Each (Fits []) n.servers → Each (Fits []) (at_server (with_arrival e) server n).servers
fit_calm e server n none is fit = changed_there (Fits []) (with_arrival e) server n.servers (λ s at fits. fits_arrival [] e s none (is s at) fits) fit

fit_cut : (number : ℕ) (joined : Option JoinedSeen) (n : NetSeen) → Each (Fits []) n.servers → Each (Fits []) (with_cut number joined n).servers
fit_cut number None n fit = fit
fit_cut number (Some joined) n fit =
    fit_calm (event.Ended (number_of joined.high)) joined.high.server (ends_at joined.low n) refl (λ s at. tt)
    (fit_calm (event.Ended (number_of joined.low)) joined.low.server n refl (λ s at. tt) fit)

-- a server whose datagrams are lines
pub record SendsLines (s : ServerSeen) : Type 0 where
  pub sound : IsSound s.setting
  pub joins : JoinsHaveAddresses s.history
  pub run : IsRun s.setting s.history
  pub finished : open_events s.history ≡ 0
  pub none : due s.setting s.history ≡ []

pub cast_line : (s : ServerSeen) → SendsLines s → (peer k : ℕ) (bytes : List ℕ) → datagram_at peer k (Some s) ≡ Some bytes → IsCast (trace_at s) (k - 1) bytes
cast_line s sends peer k bytes e = of (k == 0) e
  where
    of : (b : Bool) → (if b then None else slice_get (casts_to_peer s.history peer) (k - 1)) ≡ Some bytes → IsCast (trace_at s) (k - 1) bytes
    of true e = absurd (none_some bytes e)
    of false e = casts_are_lines s.setting sends.sound s.history sends.joins sends.run sends.finished sends.none peer (k - 1) bytes e

one_line : (from : Option ServerSeen) → ((s : ServerSeen) → from ≡ Some s → SendsLines s) → (peer k : ℕ) (bytes : List ℕ) → datagram_at peer k from ≡ Some bytes → (line : List ℕ) × (datagram_cuts bytes ≡ cut.Line line ∷ [])
one_line None sends peer k bytes e = absurd (none_some bytes e)
one_line (Some s) sends peer k bytes e = let cast = cast_line s (sends s refl) peer k bytes e in (cast.line, ap datagram_cuts cast.is ∙ datagram_is_line cast.line cast.its.3)

fit_mail : (to peer : ℕ) (bytes : Option (List ℕ)) (n : NetSeen) → ((sent : List ℕ) → bytes ≡ Some sent → (line : List ℕ) × (datagram_cuts sent ≡ cut.Line line ∷ [])) → Each (Fits []) n.servers → Each (Fits []) (with_mail to peer bytes n).servers
fit_mail to peer None n one fit = fit
fit_mail to peer (Some bytes) n one fit = changed_there (Fits []) (with_datagram peer bytes) to n.servers (λ s at fits. fits_arrival [] _ s refl (one bytes refl) fits) fit

fit_cast : (from to k : ℕ) (numbers : Option (ℕ × ℕ)) (n : NetSeen) → ((s : ServerSeen) → slice_get n.servers from ≡ Some s → SendsLines s) → Each (Fits []) n.servers → Each (Fits []) (with_cast from to k numbers n).servers
fit_cast from to k None n sends fit = fit
fit_cast from to k (Some numbers) n sends fit =
    fit_mail to numbers.1 (datagram_at numbers.0 k (slice_get n.servers from)) n (λ bytes e. one_line (slice_get n.servers from) sends numbers.0 k bytes e) fit

-- bytes are for a link that was made
number_made : (end other : End) (n : NetSeen) → HasEnd n.servers end other → (s : ServerSeen) → slice_get n.servers end.server ≡ Some s → (1 ≤ number_of end) × (number_of end ≤ length s.made)
number_made end other n has s at =
    let same : Some has.0 ≡ Some s = sym has.1 ∙ at in
    let is : has.0 ≡ s = cc in
    let below = place_below has.0.made end.place (ForPair other) has.2 in
    (omega arith, subst (λ (x : ServerSeen). number_of end ≤ length x.made) is (omega (arith, below)))

fit_carry : (number : ℕ) (up : Bool) (k : ℕ) (n : NetSeen) (joined : Option JoinedSeen) → joined_at number n ≡ joined → Kept n → Each (Fits []) n.servers → Each (Fits []) (with_carry up k joined n).servers
fit_carry number up k n None is kept fit = fit
fit_carry number true k n (Some joined) is kept fit =
    let ends = kept.ends number joined (joined_there number n joined is) in fit_calm _ joined.high.server n refl (number_made joined.high joined.low n ends.1) fit
fit_carry number false k n (Some joined) is kept fit =
    let ends = kept.ends number joined (joined_there number n joined is) in fit_calm _ joined.low.server n refl (number_made joined.low joined.high n ends.0) fit

say_fits : (link : ℕ) (s : ServerSeen) → may_say link (Some s) ≡ true → (1 ≤ link) × (link ≤ length s.made)
say_fits link s may =
    let is = says_to link s may in
    let below = place_below s.made (link - 1) ForClient is.1 in
    let some = ltb-true 0 link (and_parts _ _ may).0 in
    (omega (arith, some), omega (arith, below, some))

fit_say : (server link : ℕ) (bytes : List ℕ) (n : NetSeen) → may_say link (slice_get n.servers server) ≡ true → Each (Fits []) n.servers → Each (Fits []) (at_server (with_arrival (event.Bytes link bytes)) server n).servers
fit_say server link bytes n may fit = fit_calm (event.Bytes link bytes) server n refl (λ s at. say_fits link s (ap (may_say link) (sym at) ∙ may)) fit

address_is : (server : ℕ) → server < 65536 → is_address (address_of server) ≡ true
address_is server low = and_from _ _ refl (and_from _ _ refl (and_from _ _ refl (and_from _ _ (lt-ltb (server / 256) 256 (omega (arith, low))) (and_from _ _ (lt-ltb (server % 256) 256 (omega arith)) refl))))

module _ (layout : Layout) (laid : IsLaidOut layout) where
  -- no pair goes to a listener that shows refused duplicates
  plain_listener : (number : ℕ) (pair : Pair) (setting : Setting) → slice_get layout.pairs number ≡ Some pair → slice_get layout.servers pair.high ≡ Some setting → is_dupe_port (kind_at setting pair.listener) ≡ false
  plain_listener number pair setting there at = of (kind_at setting pair.listener) (laid.listeners number pair setting there at)
    where
      of : (port : Option PortKind) → port ≢ Some kind.Dupe → is_dupe_port port ≡ false
      of None other = refl
      of (Some kind.Dupe) other = absurd (other refl)
      of (Some kind.Full) other = refl
      of (Some kind.Igate) other = refl
      of (Some kind.Only) other = refl
      of (Some kind.Submit) other = refl
      of (Some kind.Core) other = refl

  fit_join : (number : ℕ) (pair : Option Pair) (n : NetSeen) → slice_get layout.pairs number ≡ pair → settings n ≡ layout.servers → may_join n pair ≡ true → Each (Fits []) n.servers → Each (Fits []) (with_join number pair n).servers
  fit_join number None n there same may fit = fit
  fit_join number (Some pair) n there same may fit =
      let high = high_there n pair may in
      let at : slice_get layout.servers pair.high ≡ Some high.0.setting = ap (λ servers. slice_get servers pair.high) (sym same) ∙ map_at setting_at pair.high n.servers high.0 high.1 in
      let low_joins = with_uplink pair.uplink (address_of pair.high) (high_end pair n) in
      let few = laid.few in
      let below = place_below layout.servers pair.high high.0.setting at in
      changed_there (Fits []) (with_downlink pair.listener (address_of pair.low) (low_end pair n)) pair.high (changed_at low_joins pair.low n.servers)
      (λ s there' fits. fits_downlink pair.listener (address_of pair.low) (low_end pair n) s (plain_listener number pair s.setting there (kept_setting s there')) fits)
      (changed_there (Fits []) low_joins pair.low n.servers
      (λ s there' fits. fits_uplink pair.uplink (address_of pair.high) (high_end pair n) s (address_is pair.high (omega (arith, below, few))) fits) fit)
    where
      kept_setting : (s : ServerSeen) → slice_get (changed_at (with_uplink pair.uplink (address_of pair.high) (high_end pair n)) pair.low n.servers) pair.high ≡ Some s → slice_get layout.servers pair.high ≡ Some s.setting
      kept_setting s there' =
          ap (λ servers. slice_get servers pair.high) (sym (map_changed setting_at (with_uplink pair.uplink (address_of pair.high) (high_end pair n)) (λ x. refl) pair.low n.servers ∙ same))
          ∙ map_at setting_at pair.high (changed_at (with_uplink pair.uplink (address_of pair.high) (high_end pair n)) pair.low n.servers) s there'

  fit_step : (e : NetEvent) (n : NetSeen) → is_there layout n e ≡ true → settings n ≡ layout.servers → Kept n → ((server : ℕ) (s : ServerSeen) → slice_get n.servers server ≡ Some s → SendsLines s) → Each (Fits []) n.servers → Each (Fits []) (with_step layout e n).servers
  fit_step (net.Open server listener call) n there same kept sends fit = changed_there (Fits []) (with_client listener (address_of server) call) server n.servers (λ s at fits. fits_client listener (address_of server) call s fits) fit
  fit_step (net.Say server link line) n there same kept sends fit = fit_say server link (ended_line line) n there fit
  fit_step (net.Round server moment) n there same kept sends fit = fit_round moment server n fit
  fit_step (net.Join pair) n there same kept sends fit = fit_join pair (slice_get layout.pairs pair) n refl same there fit
  fit_step (net.Cut pair) n there same kept sends fit = fit_cut pair (joined_at pair n) n fit
  fit_step (net.Carry pair up k) n there same kept sends fit = fit_carry pair up k n (joined_at pair n) refl kept fit
  fit_step (net.Cast from to k) n there same kept sends fit = fit_cast from to k (peering from to layout.peers) n (sends from) fit

  none_had : (s : Setting) (number : ℕ) (specs : List ListenSpec) (h : History) → Had s [] h × (greatest_link h ≡ 0) → Had s [] (listens_after number specs h) × (greatest_link (listens_after number specs h) ≡ 0)
  none_had s number [] h had = had
  none_had s number (spec ∷ specs) h had = none_had s (number + 1) specs (did.Listen number ∷ h) had

  fits_new : (s : Setting) → Fits [] (new_server s)
  fits_new s = let alone = none_had s 0 s.listens [] (tt, refl) in record { had = alone.0; comes = alone.1 }

  pub sends_lines : (steps : List NetEvent) (server : ℕ) (s : ServerSeen) → slice_get (network_of layout steps).servers server ≡ Some s → Had s.setting s.made s.history → SendsLines s
  sends_lines steps server s at had =
      let runs = servers_run layout steps server s at in
      record {
        sound = laid.sound server s.setting runs.1;
        joins = joins_have_addresses s.setting s.made s.history had;
        run = runs.0.run;
        finished = rounds_are_finished layout steps server s at;
        none = runs.0.none;
      }

  networks_fit : (steps : List NetEvent) → Each (Fits []) (network_of layout steps).servers
  unfolding network_of
  networks_fit [] = all_mapped (Fits []) new_server fits_new layout.servers
  networks_fit (e ∷ steps) =
      let n = network_of layout steps in
      let before = networks_fit steps in
      chosen (is_there layout n e) (with_step layout e n) n
      (λ there. fit_step e n there (networks_keep layout steps) (networks_kept layout steps)
      (λ server s at. sends_lines steps server s at (all_at (Fits []) server n.servers s at before).had) before)
      before
    where
      chosen : (b : Bool) (after before : NetSeen) → (b ≡ true → Each (Fits []) after.servers) → Each (Fits []) before.servers → Each (Fits []) (if b then after else before).servers
      chosen true after before fit same = fit refl
      chosen false after before fit same = same

  -- of each server at any time
  pub networks_had : (steps : List NetEvent) (server : ℕ) (s : ServerSeen) → slice_get (network_of layout steps).servers server ≡ Some s → Had s.setting s.made s.history
  networks_had steps server s at = (all_at (Fits []) server (network_of layout steps).servers s at (networks_fit steps)).had
