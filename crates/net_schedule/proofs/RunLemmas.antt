-- The rounds by which what waits for a server comes.
use Rattle.std.proofs.Common.{◌≡◌, ℕ, zero, suc, ◌+◌, ◌<◌, ◌≤◌, ◌||◌, true, false, List, [], ◌∷◌, ◌++◌, length, map, take, drop, min, refl, sym, ap, ◌∙◌, subst, arith, Option, Some, None, inl, inr, ⊎_elim, append-nil}
use Rattle.std.specs.Prelude.{slice_get, slice_set, IfSome}
use Rattle.std.specs.Bool.{⊤}
use Rattle.std.proofs.lemmas.List.{take-append-drop}
use Rattle.aprs_base.specs.Outside.{new_link}
use Rattle.aprs_base.specs.declared.events.Event.{Event}
use Rattle.aprs_base.specs.declared.events.Event.TheVariants as event
use Rattle.aprs_base.specs.declared.events.Happening.TheVariants as did
use Rattle.aprs_history.specs.Acts.{Act, Casts, Closes, Dials, Listens, Offers, SendsLine, due}
use Rattle.aprs_history.specs.History.{History, greater_link, greatest_link, is_round_event, is_stop, is_stopped, open_events}
use Rattle.aprs_history.specs.Rounds.{AreFresh, greatest_after, is_whole, with_events}
use Rattle.net_history.specs.Network.{End, NetSeen, ServerSeen, at_server, changed_at, end_beyond, number_of, parted_at, with_arrival}
use Rattle.net_history.specs.Serving.{arrivals_at, happening_of, told_of_end, with_act, with_acts, with_all, with_dial, with_effect, with_happening, with_round, without_arrivals}
use Rattle.net_history.proofs.BetweenLemmas.{changed_here, none_some, same_elsewhere, same_or_other}
use Rattle.net_history.proofs.PlaceLemmas.{some_same}
use Rattle.net_schedule.specs.Rounds.{with_round_events}
use Rattle.net_schedule.specs.Running.{ServerKept, WayKept}
use Rattle.net_schedule.specs.Standing.{AllKeep, Goes, Keeps, Turns, WaitsToOpen, taken_in}
use Rattle.net_schedule.specs.Waiting.{AreCalm, EndsByTick, IsReady, MayCome, Ready, Runs, Waits}
use Rattle.net_schedule.proofs.RoundLemmas.{all_both_events, ticks_last, whole_round}
use Rattle.net_schedule.proofs.TurnLemmas.{all_keep, keep_at, keep_set, same_flows, zip_keep}

-- ---- what comes later may come still

pub fresh_parts : (g : ℕ) (xs ys : List Event) → AreFresh g (xs ++ ys) → AreFresh g xs × AreFresh (greatest_after xs g) ys
fresh_parts g [] ys fresh = (tt, fresh)
fresh_parts g (x ∷ xs) ys fresh = let later = fresh_parts (greater_link (new_link x) g) xs ys fresh.1 in ((fresh.0, later.0), later.1)

greatest_came : (events : List Event) (h : History) → greatest_link (with_events events h) ≡ greatest_after events (greatest_link h)
greatest_came [] h = refl
greatest_came (e ∷ events) h = greatest_came events (did.Event e ∷ h)

abbrev NoStops : List Event → Type 0
NoStops [] = ⊤
NoStops (e ∷ events) = (is_stop e ≡ false) × NoStops events

calm_event : (e : Event) → is_round_event e ≡ false → is_stop e ≡ false
calm_event event.Stop calm = calm
calm_event (event.Tick moment) calm = refl
calm_event (event.Opened listener link from) calm = refl
calm_event (event.Joined uplink link at) calm = refl
calm_event (event.Unjoined uplink) calm = refl
calm_event (event.Bytes link bytes) calm = refl
calm_event (event.Ended link) calm = refl
calm_event (event.Room link) calm = refl
calm_event (event.Datagram listener from bytes) calm = refl

part_goes_on : (k : ℕ) (events : List Event) → EndsByTick events → NoStops (take k events)
part_goes_on zero events ends = tt
part_goes_on (suc k) [] ends = tt
part_goes_on (suc k) (e ∷ []) ends = (ends.1, part_goes_on k [] tt)
part_goes_on (suc k) (e ∷ next ∷ events) ends = (calm_event e ends.0, part_goes_on k (next ∷ events) ends.1)

going_on : (events : List Event) (h : History) → NoStops events → is_stopped h ≡ false → is_stopped (with_events events h) ≡ false
going_on [] h none going = going
going_on (e ∷ events) h none going = going_on events (did.Event e ∷ h) none.1 (ap (λ b. b || is_stopped h) none.0 ∙ going)

-- which acts don't change
record Holds (most number : ℕ) (n : NetSeen) : Type 0 where
  server : ServerSeen
  there : slice_get n.servers number ≡ Some server
  greatest : greatest_link server.history ≡ most
  going : is_stopped server.history ≡ false

holds_changed : (g number i : ℕ) (f : ServerSeen → ServerSeen) (n : NetSeen) → ((s : ServerSeen) → greatest_link (f s).history ≡ greatest_link s.history) → ((s : ServerSeen) → is_stopped (f s).history ≡ is_stopped s.history)
    → Holds g number n → Holds g number (at_server f i n)
holds_changed g number i f n greatest stopped holds = ⊎_elim
    (λ here. record {
      server = f holds.server;
      there = ap (λ j. slice_get (changed_at f j n.servers) number) here ∙ changed_here f number n.servers holds.server holds.there;
      greatest = greatest holds.server ∙ holds.greatest;
      going = stopped holds.server ∙ holds.going;
    })
    (λ other. record { server = holds.server; there = same_elsewhere f i number n.servers other ∙ holds.there; greatest = holds.greatest; going = holds.going })
    (same_or_other i number)

holds_told : (g number : ℕ) (end : Option End) (n : NetSeen) → Holds g number n → Holds g number (told_of_end end n)
holds_told g number None n holds = holds
holds_told g number (Some end) n holds = holds_changed g number end.server (with_arrival (event.Ended (number_of end))) n (λ s. refl) (λ s. refl) holds

act_greatest : (act : Act) (h : History) → (greatest_link (happening_of act ∷ h) ≡ greatest_link h) × (is_stopped (happening_of act ∷ h) ≡ is_stopped h)
act_greatest (Listens n) h = (refl, refl)
act_greatest (Dials n) h = (refl, refl)
act_greatest (Casts peer bytes) h = (refl, refl)
act_greatest (Offers link bytes) h = (refl, refl)
act_greatest (SendsLine link line) h = (refl, refl)
act_greatest (Closes link) h = (refl, refl)

holds_effect : (g number server : ℕ) (act : Act) (n : NetSeen) → Holds g number n → Holds g number (with_effect server act n)
holds_effect g number server (Listens k) n holds = holds
holds_effect g number server (Dials uplink) n holds = holds_changed g number server (with_dial uplink) n (λ s. refl) (λ s. refl) holds
holds_effect g number server (Casts peer bytes) n holds = holds
holds_effect g number server (Offers link bytes) n holds = holds
holds_effect g number server (SendsLine link line) n holds = holds
holds_effect g number server (Closes link) n holds =
    holds_told g number (end_beyond server link n.pairs) (record n { pairs = map (parted_at server link) n.pairs }) (record { server = holds.server; there = holds.there; greatest = holds.greatest; going = holds.going })

holds_acts : (g number server : ℕ) (acts : List Act) (n : NetSeen) → Holds g number n → Holds g number (with_acts server acts n)
holds_acts g number server [] n holds = holds
holds_acts g number server (act ∷ acts) n holds =
    holds_acts g number server acts (with_act server act n)
    (holds_effect g number server act (at_server (with_happening (happening_of act)) server n)
    (holds_changed g number server (with_happening (happening_of act)) n (λ s. (act_greatest act s.history).0) (λ s. (act_greatest act s.history).1) holds))

-- once a part has come, the rest may come
pub ready_next : (number k : ℕ) (rest : List Event) (n : NetSeen) (ready : Ready number rest n) → open_events ready.server.history ≡ 0 → EndsByTick rest → is_whole 0 (take k rest) ≡ true → Ready number (drop k rest) (with_all number (take k rest) n)
ready_next number k rest n ready finished ends whole =
    let part = take k rest in
    let s = ready.server in
    let fresh = fresh_parts (greatest_link s.history) part (drop k rest) (subst (AreFresh (greatest_link s.history)) (sym (take-append-drop k rest)) ready.fresh) in
    let came : Holds (greatest_after part (greatest_link s.history)) number (at_server (with_round_events part) number n) = record {
      server = with_round_events part s;
      there = changed_here (with_round_events part) number n.servers s ready.there;
      greatest = greatest_came part s.history;
      going = going_on part s.history (part_goes_on k rest ends) ready.going;
    } in
    let after = holds_acts (greatest_after part (greatest_link s.history)) number number (due s.setting (with_events part s.history)) (at_server (with_round_events part) number n) came in
    subst (Ready number (drop k rest)) (sym (whole_round number part n s ready.there (ap (λ m. is_whole m part) finished ∙ whole)))
    (record { server = after.server; there = after.there; fresh = subst (λ g. AreFresh g (drop k rest)) (sym after.greatest) fresh.1; going = after.going })

-- ---- within a round

-- it begins
begins : (kept : ServerKept) (s : ServerSeen) (moment : ℕ) → Keeps [] kept s → Keeps (kept.arrivals ++ event.Tick moment ∷ []) (record kept { arrivals = [] }) (without_arrivals s)
begins kept s moment keeps = record {
  setting = keeps.setting;
  plain = keeps.plain;
  stands = keeps.stands;
  listens = keeps.listens;
  arrivals = refl;
  made = keeps.made;
  opened = λ place listener at. ⊎_elim (λ was. inl was)
      (λ waits. inr (subst (WaitsToOpen listener (place + 1)) (sym (append-nil (kept.arrivals ++ event.Tick moment ∷ []))) (more listener (place + 1) kept.arrivals (subst (WaitsToOpen listener (place + 1)) (sym keeps.arrivals) waits))))
      (keeps.opened place listener at);
  dialled = keeps.dialled;
  casts = keeps.casts;
  accepted = keeps.accepted;
}
  where
    more : (listener link : ℕ) (events : List Event) → WaitsToOpen listener link events → WaitsToOpen listener link (events ++ event.Tick moment ∷ [])
    more listener link [] waits = absurd waits
    more listener link (e ∷ events) (inl here) = inl here
    more listener link (e ∷ events) (inr later) = inr (more listener link events later)

tick_fresh : (g : ℕ) (events : List Event) (moment : ℕ) → AreFresh g events → AreFresh g (events ++ event.Tick moment ∷ [])
tick_fresh g [] moment fresh = (tt, tt)
tick_fresh g (e ∷ events) moment fresh = (fresh.0, tick_fresh (greater_link (new_link e) g) events moment fresh.1)

pub runs_begin : (number moment : ℕ) (b : End → List ℕ) (n : NetSeen) (servers : List ServerKept) (ways : List (Option WayKept)) (kept : ServerKept) (rest : List Event) → slice_get servers number ≡ Some kept → rest ≡ kept.arrivals ++ event.Tick moment ∷ []
    → Goes b servers ways n → Waits number n → Runs number b (with_round number moment n) rest (slice_set servers number (record kept { arrivals = [] })) ways
runs_begin number moment b n servers ways kept rest at is goes waits =
    let found = keep_at number [] servers n.servers kept (zip_keep number servers n.servers goes.servers) at in
    let s = waits.server in
    let keeps : Keeps [] kept s = subst (Keeps [] kept) (some_same found.0 s (sym found.1 ∙ waits.there)) found.2 in
    let all : List Event = kept.arrivals ++ event.Tick moment ∷ [] in
    let begun = at_server without_arrivals number n in
    subst (λ r. Runs number b (with_round number moment n) r (slice_set servers number (record kept { arrivals = [] })) ways) (sym is) (record {
      now = begun;
      turns = record {
        servers = keep_set number [] all servers n.servers (record kept { arrivals = [] }) without_arrivals s (zip_keep number servers n.servers goes.servers) waits.there (begins kept s moment keeps);
        joins = goes.joins;
        flows = same_flows b (taken_in n) (taken_in begun) (λ end. Rattle.net_schedule.proofs.FlowLemmas.same_taken without_arrivals (λ x. refl) number end.server (number_of end) n.servers) ways goes.flows;
      };
      ready = record {
        server = without_arrivals s;
        there = changed_here without_arrivals number n.servers s waits.there;
        fresh = subst (λ events. AreFresh (greatest_link s.history) (events ++ event.Tick moment ∷ [])) (sym keeps.arrivals) (tick_fresh (greatest_link s.history) s.arrivals moment waits.fresh);
        going = waits.going;
      };
      left = ap (λ events. with_all number (events ++ event.Tick moment ∷ []) begun) (keeps.arrivals ∙ ap arrivals_at (sym waits.there));
    })

pub begins_ticking : (number moment : ℕ) (n : NetSeen) (kept : ServerKept) (servers : List ServerKept) (ways : List (Option WayKept)) (b : End → List ℕ) (rest : List Event) → slice_get servers number ≡ Some kept → rest ≡ kept.arrivals ++ event.Tick moment ∷ []
    → Goes b servers ways n → Waits number n → EndsByTick rest
begins_ticking number moment n kept servers ways b rest at is goes waits =
    let found = keep_at number [] servers n.servers kept (zip_keep number servers n.servers goes.servers) at in
    let same : found.0 ≡ waits.server = some_same found.0 waits.server (sym found.1 ∙ waits.there) in
    subst EndsByTick (sym is) (ticks_last kept.arrivals moment (subst AreCalm (sym (found.2.arrivals ∙ ap (λ (x : ServerSeen). x.arrivals) same)) waits.calm))

-- what is ready may come to the core
pub may_come : (number k : ℕ) (rest : List Event) (b : End → List ℕ) (servers : List ServerKept) (ways : List (Option WayKept)) (n : NetSeen) → Turns number rest b servers ways n → Ready number rest n → IsReady number (take k rest) servers
may_come number k rest b servers ways n turns ready = of (slice_get servers number) refl
  where
    of : (o : Option ServerKept) → slice_get servers number ≡ o → IfSome o (MayCome (take k rest))
    of None none = tt
    of (Some kept) at =
        let found = keep_at number rest servers n.servers kept turns.servers at in
        let same : found.0 ≡ ready.server = some_same found.0 ready.server (sym found.1 ∙ ready.there) in
        let keeps : Keeps rest kept ready.server = subst (Keeps rest kept) same found.2 in (
          subst (λ g. AreFresh g (take k rest)) (sym keeps.stands.greatest) (fresh_parts (greatest_link ready.server.history) (take k rest) (drop k rest) (subst (AreFresh (greatest_link ready.server.history)) (sym (take-append-drop k rest)) ready.fresh)).0,
          keeps.stands.stopped ∙ ready.going,
        )

-- the server is there, and no round of it goes on
pub turning_there : (number : ℕ) (rest : List Event) (servers : List ServerKept) (ss : List ServerSeen) (s : ServerSeen) → AllKeep number rest servers ss → slice_get ss number ≡ Some s
    → (kept : ServerKept) × (slice_get servers number ≡ Some kept) × (number < length servers) × Keeps rest kept s
turning_there number rest [] [] s all at = absurd (none_some s at)
turning_there number rest [] (x ∷ ss) s all at = absurd all
turning_there number rest (kept ∷ servers) [] s all at = absurd all
turning_there zero rest (kept ∷ servers) (x ∷ ss) s all at = (kept, refl, omega arith, subst (Keeps rest kept) (some_same x s at) all.0)
turning_there (suc number) rest (kept ∷ servers) (x ∷ ss) s all at = let later = turning_there number rest servers ss s all.1 at in (later.0, later.1, (let lt = later.2 in omega (arith, lt)), later.3)

pub take_least : (k : ℕ) (events : List Event) → take (min (length events) k) events ≡ take k events
take_least zero events = ap (λ n. take n events) (let none : min (length events) 0 ≡ 0 = omega arith in none)
take_least (suc k) [] = let none : min 0 (suc k) ≡ 0 = omega arith in ap (λ n. take {A = Event} n []) none
take_least (suc k) (e ∷ events) = let least : min (suc (length events)) (suc k) ≡ suc (min (length events) k) = omega arith in ap (λ n. take n (e ∷ events)) least ∙ ap (λ xs. e ∷ xs) (take_least k events)

-- ---- the parts of what comes, one after another

pub runs_first : (number : ℕ) (b : End → List ℕ) (n : NetSeen) (events : List Event) (servers : List ServerKept) (ways : List (Option WayKept)) → Turns number events b servers ways n → Ready number events n
    → Runs number b (with_all number events n) events servers ways
runs_first number b n events servers ways turns ready = record { now = n; turns = turns; ready = ready; left = refl }

finished_at : (number : ℕ) (rest : List Event) (b : End → List ℕ) (servers : List ServerKept) (ways : List (Option WayKept)) (n : NetSeen) → Turns number rest b servers ways n → (ready : Ready number rest n) → open_events ready.server.history ≡ 0
finished_at number rest b servers ways n turns ready = (turning_there number rest servers n.servers ready.server turns.servers ready.there).3.stands.finished

-- a part has come
pub runs_next : (number k : ℕ) (b : End → List ℕ) (after : NetSeen) (rest : List Event) (servers new : List ServerKept) (ways new_ways : List (Option WayKept)) → EndsByTick rest → is_whole 0 (take k rest) ≡ true
    → ((m : NetSeen) → Turns number (take k rest ++ drop k rest) b servers ways m → Turns number (drop k rest) b new new_ways (with_all number (take k rest) m))
    → Runs number b after rest servers ways → Runs number b after (drop k rest) new new_ways
runs_next number k b after rest servers new ways new_ways ends whole step runs = record {
  now = with_all number (take k rest) runs.now;
  turns = step runs.now (subst (λ events. Turns number events b servers ways runs.now) (sym (take-append-drop k rest)) runs.turns);
  ready = ready_next number k rest runs.now runs.ready (finished_at number rest b servers ways runs.now runs.turns runs.ready) ends whole;
  left = sym (all_both_events number (take k rest) (drop k rest) runs.now) ∙ ap (λ events. with_all number events runs.now) (take-append-drop k rest) ∙ runs.left;
}

-- all has come
pub runs_end : (number : ℕ) (b : End → List ℕ) (after : NetSeen) (rest : List Event) (servers : List ServerKept) (ways : List (Option WayKept)) → rest ≡ [] → Runs number b after rest servers ways → Turns number [] b servers ways after
runs_end number b after rest servers ways none runs =
    subst (Turns number [] b servers ways) (ap (λ events. with_all number events runs.now) (sym none) ∙ runs.left) (subst (λ events. Turns number events b servers ways runs.now) none runs.turns)

pub turned_goes : (number : ℕ) (b : End → List ℕ) (servers : List ServerKept) (ways : List (Option WayKept)) (n : NetSeen) → Turns number [] b servers ways n → Goes b servers ways n
turned_goes number b servers ways n turns = record { servers = all_keep number servers n.servers turns.servers; joins = turns.joins; flows = turns.flows }

pub none_left_of : (events : List Event) → length events ≤ 0 → events ≡ []
none_left_of [] none = refl
none_left_of (e ∷ events) none = absurd (omega (arith, none))

-- as the code begins
pub runs_begun : (number place moment : ℕ) (b : End → List ℕ) (n : NetSeen) (servers : List ServerKept) (ways : List (Option WayKept)) (kept new : ServerKept) (rest : List Event) → slice_get servers number ≡ Some kept → rest ≡ kept.arrivals ++ event.Tick moment ∷ []
    → place ≡ number → new ≡ record kept { arrivals = [] } → Goes b servers ways n → Waits number n → Runs number b (with_round number moment n) rest (slice_set servers place new) ways
runs_begun number place moment b n servers ways kept new rest at is same new_is goes waits =
    subst (λ k. Runs number b (with_round number moment n) rest (slice_set servers place k) ways) (sym new_is)
    (subst (λ p. Runs number b (with_round number moment n) rest (slice_set servers p (record kept { arrivals = [] })) ways) (sym same) (runs_begin number moment b n servers ways kept rest at is goes waits))
