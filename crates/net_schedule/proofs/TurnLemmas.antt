-- Within a round of one of its servers a running network goes on as the model does.
use Rattle.std.proofs.Common.{◌≡◌, ℕ, zero, suc, ◌+◌, ◌<◌, ◌==◌, ◌&&◌, ◌||◌, Bool, true, false, List, [], ◌∷◌, ◌++◌, length, map, take, refl, sym, ap, ◌∙◌, subst, Option, Some, None, ⊎_elim, append_assoc, get_or, OnOk, Result}
use Rattle.std.specs.Prelude.{slice_get, slice_set, if◌then◌else◌}
use Rattle.std.specs.List.{AllZip}
use Rattle.std.specs.Option.{option_map}
use Rattle.std.proofs.lemmas.Bool.{cases_Bool}
use Rattle.std.proofs.lemmas.List.{map-append, take_more}
use Rattle.aprs_base.specs.declared.events.Event.{Event}
use Rattle.aprs_base.specs.declared.events.Event.TheVariants as event
use Rattle.aprs_base.specs.declared.events.Happening.TheVariants as did
use Rattle.aprs_base.specs.declared.events.Sent.TheVariants as sent
use Rattle.aprs_history.specs.Acts.{Closes, Offers, cast_act, dials}
use Rattle.aprs_history.specs.Dials.{CastSeen}
use Rattle.aprs_history.specs.Headline.{taken_bytes}
use Rattle.aprs_history.specs.History.{History, open_events, trace_of}
use Rattle.aprs_history.specs.Rounds.{is_whole, with_events}
use Rattle.aprs_history.specs.Setting.{Setting}
use Rattle.aprs_history.specs.Texts.{untaken}
use Rattle.aprs_history.specs.Trace.{Trace, is_member}
use Rattle.aprs_history.proofs.DownLemmas.{all_plain_offers}
use Rattle.server_core.specs.ActsSeen.{ActsSeen}
use Rattle.server_core.proofs.OfferLemmas.{left_by_other, member_differs}
use Rattle.server_core.specs.Meaning.{AreActs}
use Rattle.net_history.specs.Network.{End, NetSeen, ServerSeen, at_server, changed_at, end_beyond, is_end, is_of_pair, number_of, parted_at, taken_at, trace_at, with_arrival}
use Rattle.net_history.specs.Places.{Each}
use Rattle.net_history.specs.Serving.{told_of_end, with_act, with_acts, with_all, with_happening}
use Rattle.net_history.proofs.BetweenLemmas.{changed_here, none_some, same_or_other}
use Rattle.net_history.proofs.PlaceLemmas.{some_same}
use Rattle.net_history.proofs.StreamLemmas.{eqb_other, eqb_same}
use Rattle.net_schedule.specs.Kept.{kept_arrival, kept_told}
use Rattle.net_schedule.specs.Rounds.{Drives, LeftSame, Sends, acted, all_acted, first_acts, next_bytes, offer_to, ways_sent, with_round_events}
use Rattle.net_schedule.specs.Running.{ServerKept, WayKept, all_with_taken, joined_of, joins_of, way_parted_at}
use Rattle.net_schedule.specs.Standing.{AllKeep, IsOnItsWay, Keeps, Turns, taken_in}
use Rattle.net_schedule.proofs.DriveLemmas.{close_keeps}
use Rattle.net_schedule.proofs.KeepLemmas.{arrives_behind, zip_changed}
use Rattle.net_schedule.proofs.RoundLemmas.{NoCloses, acted_both, acts_alone, acts_both, at_twice, changed_as, changed_none, whole_round}

-- ---- offers, one after another

pub left_next : (round : Trace) (link : ℕ) (links : List ℕ) (s : ServerSeen) → is_member link links ≡ false → LeftSame round (link ∷ links) s → LeftSame round links (acted (offer_to s.setting round link) s)
left_next round link links s other left k member =
    left_by_other s.setting s.history link k (next_bytes s.setting round link) (sent.Took (length (next_bytes s.setting round link))) (member_differs link k links other member)
    ∙ left k (⊎_elim (λ here. ap (λ b. b || is_member k links) here) (λ differ. ap (λ b. b || is_member k links) differ ∙ member) (cases_Bool (link == k)))

-- a dial and casts leave it, too
trace_cast : (casts : List CastSeen) (s : ServerSeen) → (trace_at (all_acted (map cast_act casts) s) ≡ trace_at s) × ((all_acted (map cast_act casts) s).setting ≡ s.setting)
unfolding trace_of
trace_cast [] s = (refl, refl)
trace_cast (cast ∷ casts) s = trace_cast casts (acted (cast_act cast) s)

trace_dialled : (uplink : Option ℕ) (s : ServerSeen) → (trace_at (all_acted (dials uplink) s) ≡ trace_at s) × ((all_acted (dials uplink) s).setting ≡ s.setting)
unfolding trace_of
trace_dialled None s = (refl, refl)
trace_dialled (Some uplink) s = (refl, refl)

-- as the offers begin, all is left as at the round's end
pub left_first : (acts : ActsSeen) (s : ServerSeen) → let now = all_acted (map cast_act acts.casts) (all_acted (dials acts.dial) s) in LeftSame (trace_at s) acts.offers now × (now.setting ≡ s.setting)
left_first acts s =
    let dialled = trace_dialled acts.dial s in
    let cast = trace_cast acts.casts (all_acted (dials acts.dial) s) in (
      λ link member. ap (λ c. untaken c (trace_at (all_acted (map cast_act acts.casts) (all_acted (dials acts.dial) s))) link) (cast.1 ∙ dialled.1)
          ∙ ap (λ t. untaken s.setting t link) (cast.0 ∙ dialled.0) ∙ ap (λ c. untaken c (trace_at s) link) (sym (cast.1 ∙ dialled.1)),
      cast.1 ∙ dialled.1,
    )

-- ---- what is on its way

same_flow : (b t t' : End → List ℕ) → ((end : End) → t' end ≡ t end) → (way : Option WayKept) → IsOnItsWay b t way → IsOnItsWay b t' way
same_flow b t t' same None flows = flows
same_flow b t t' same (Some way) flows = (flows.0 ∙ sym (same way.low), flows.1 ∙ sym (same way.high))

pub same_flows : (b t t' : End → List ℕ) → ((end : End) → t' end ≡ t end) → (ways : List (Option WayKept)) → Each (IsOnItsWay b t) ways → Each (IsOnItsWay b t') ways
same_flows b t t' same [] flows = flows
same_flows b t t' same (way ∷ ways) flows = (same_flow b t t' same way flows.0, same_flows b t t' same ways flows.1)

taken_end : (here : Bool) (brought waiting taken bytes : List ℕ) → brought ++ waiting ≡ taken → brought ++ (if here then waiting ++ bytes else waiting) ≡ (if here then taken ++ bytes else taken)
taken_end true brought waiting taken bytes is = sym (append_assoc brought waiting bytes) ∙ ap (λ xs. xs ++ bytes) is
taken_end false brought waiting taken bytes is = is

-- a link took bytes
taken_flows : (server link : ℕ) (bytes : List ℕ) (b t t' : End → List ℕ) → ((end : End) → t' end ≡ (if is_end server link end then t end ++ bytes else t end)) → (ways : List (Option WayKept)) → Each (IsOnItsWay b t) ways
    → Each (IsOnItsWay b t') (all_with_taken server link bytes ways)
taken_flows server link bytes b t t' takes [] flows = flows
taken_flows server link bytes b t t' takes (None ∷ ways) flows = (tt, taken_flows server link bytes b t t' takes ways flows.1)
taken_flows server link bytes b t t' takes (Some way ∷ ways) flows = (
  (
    taken_end (is_end server link way.low) (b way.high) way.up (t way.low) bytes flows.0.0 ∙ sym (takes way.low),
    taken_end (is_end server link way.high) (b way.low) way.down (t way.high) bytes flows.0.1 ∙ sym (takes way.high),
  ),
  taken_flows server link bytes b t t' takes ways flows.1,
)

take_own : (xs : List ℕ) → take (length xs) xs ≡ xs
take_own [] = refl
take_own (x ∷ xs) = ap (λ ys. x ∷ ys) (take_own xs)

eqb_suc : (a b : ℕ) → (suc a == suc b) ≡ (a == b)
eqb_suc a b = ⊎_elim (λ same. ap (λ n. suc a == suc n) (sym same) ∙ eqb_same (suc a) ∙ sym (eqb_same a) ∙ ap (λ n. a == n) same) (λ other. eqb_other (suc a) (suc b) (λ is. other cc) ∙ sym (eqb_other a b other)) (same_or_other a b)

-- what a link took in the model where an offer is taken whole
offer_taken : (server link : ℕ) (bytes : List ℕ) (servers : List ServerSeen) (place number : ℕ) (s : ServerSeen) → slice_get servers server ≡ Some s
    → taken_at (slice_get (changed_at (acted (Offers link bytes)) server servers) place) number
    ≡ (if (place == server) && (number == link) then taken_at (slice_get servers place) number ++ bytes else taken_at (slice_get servers place) number)
offer_taken server link bytes [] place number s at = absurd (none_some s at)
offer_taken zero link bytes (x ∷ servers) zero number s at = ap (λ xs. if number == link then taken_bytes x.history number ++ xs else taken_bytes x.history number) (take_own bytes)
offer_taken zero link bytes (x ∷ servers) (suc place) number s at =
    ap (λ b. if b && (number == link) then taken_at (slice_get servers place) number ++ bytes else taken_at (slice_get servers place) number) (sym (eqb_other (suc place) zero (λ is. cc)))
offer_taken (suc server) link bytes (x ∷ servers) zero number s at = ap (λ b. if b && (number == link) then taken_at (Some x) number ++ bytes else taken_at (Some x) number) (sym (eqb_other zero (suc server) (λ is. cc)))
offer_taken (suc server) link bytes (x ∷ servers) (suc place) number s at =
    offer_taken server link bytes servers place number s at
    ∙ ap (λ b. if b && (number == link) then taken_at (slice_get servers place) number ++ bytes else taken_at (slice_get servers place) number) (sym (eqb_suc place server))

joins_taken : (server link : ℕ) (bytes : List ℕ) (ways : List (Option WayKept)) → joins_of (all_with_taken server link bytes ways) ≡ joins_of ways
joins_taken server link bytes [] = refl
joins_taken server link bytes (None ∷ ways) = ap (λ xs. None ∷ xs) (joins_taken server link bytes ways)
joins_taken server link bytes (Some way ∷ ways) = ap (λ xs. Some (joined_of way) ∷ xs) (joins_taken server link bytes ways)

pub joins_sent : (number : ℕ) (setting : Setting) (round : Trace) (offers : List ℕ) (ways : List (Option WayKept)) → joins_of (ways_sent number setting round offers ways) ≡ joins_of ways
joins_sent number setting round [] ways = refl
joins_sent number setting round (link ∷ links) ways =
    joins_sent number setting round links (all_with_taken number link (next_bytes setting round link) ways) ∙ joins_taken number link (next_bytes setting round link) ways

pub flows_sent : (number : ℕ) (setting : Setting) (round : Trace) (offers : List ℕ) (b : End → List ℕ) (ways : List (Option WayKept)) (n : NetSeen) (s : ServerSeen) → slice_get n.servers number ≡ Some s
    → Each (IsOnItsWay b (taken_in n)) ways → Each (IsOnItsWay b (taken_in (at_server (all_acted (map (offer_to setting round) offers)) number n))) (ways_sent number setting round offers ways)
flows_sent number setting round [] b ways n s at flows = same_flows b (taken_in n) (taken_in (at_server (λ x. x) number n)) (λ end. ap (λ servers. taken_at (slice_get servers end.server) (number_of end)) (changed_none number n.servers)) ways flows
flows_sent number setting round (link ∷ links) b ways n s at flows =
    let act = offer_to setting round link in
    let bytes = next_bytes setting round link in
    let next = at_server (acted act) number n in
    subst (λ m. Each (IsOnItsWay b (taken_in m)) (ways_sent number setting round links (all_with_taken number link bytes ways))) (at_twice (all_acted (map (offer_to setting round) links)) (acted act) number n)
    (flows_sent number setting round links b (all_with_taken number link bytes ways) next (acted act s) (changed_here (acted act) number n.servers s at)
    (taken_flows number link bytes b (taken_in n) (taken_in next) (λ end. offer_taken number link bytes n.servers end.server (number_of end) s at) ways flows))

-- ---- all servers, and one of them

pub keep_changed : (number i : ℕ) (rest : List Event) (f : ServerKept → ServerKept) (g : ServerSeen → ServerSeen) → ((after : List Event) (kept : ServerKept) (s : ServerSeen) → Keeps after kept s → Keeps after (f kept) (g s))
    → (servers : List ServerKept) (ss : List ServerSeen) → AllKeep number rest servers ss → AllKeep number rest (changed_at f i servers) (changed_at g i ss)
keep_changed number i rest f g keeps [] [] all = all
keep_changed number i rest f g keeps [] (s ∷ ss) all = absurd all
keep_changed number i rest f g keeps (kept ∷ servers) [] all = absurd all
keep_changed zero zero rest f g keeps (kept ∷ servers) (s ∷ ss) all = (keeps rest kept s all.0, all.1)
keep_changed zero (suc i) rest f g keeps (kept ∷ servers) (s ∷ ss) all = (all.0, zip_changed (Keeps []) f g i servers ss (λ x y at. keeps [] x y) all.1)
keep_changed (suc number) zero rest f g keeps (kept ∷ servers) (s ∷ ss) all = (keeps [] kept s all.0, all.1)
keep_changed (suc number) (suc i) rest f g keeps (kept ∷ servers) (s ∷ ss) all = (all.0, keep_changed number i rest f g keeps servers ss all.1)

-- a server that is kept is there in the model, and kept so
pub keep_at : (number : ℕ) (rest : List Event) (servers : List ServerKept) (ss : List ServerSeen) (kept : ServerKept) → AllKeep number rest servers ss → slice_get servers number ≡ Some kept → (s : ServerSeen) × (slice_get ss number ≡ Some s) × Keeps rest kept s
keep_at number rest [] [] kept all at = absurd (none_some kept at)
keep_at number rest [] (s ∷ ss) kept all at = absurd all
keep_at number rest (k ∷ servers) [] kept all at = absurd all
keep_at zero rest (k ∷ servers) (s ∷ ss) kept all at = (s, refl, subst (λ x. Keeps rest x s) (some_same k kept at) all.0)
keep_at (suc number) rest (k ∷ servers) (s ∷ ss) kept all at = keep_at number rest servers ss kept all.1 at

-- another stands in its place
pub keep_set : (number : ℕ) (before after : List Event) (servers : List ServerKept) (ss : List ServerSeen) (kept : ServerKept) (f : ServerSeen → ServerSeen) (s : ServerSeen) → AllKeep number before servers ss → slice_get ss number ≡ Some s → Keeps after kept (f s)
    → AllKeep number after (slice_set servers number kept) (changed_at f number ss)
keep_set number before after [] [] kept f s all at keeps = absurd (none_some s at)
keep_set number before after [] (x ∷ ss) kept f s all at keeps = absurd all
keep_set number before after (k ∷ servers) [] kept f s all at keeps = absurd all
keep_set zero before after (k ∷ servers) (x ∷ ss) kept f s all at keeps = (subst (λ y. Keeps after kept (f y)) (sym (some_same x s at)) keeps, all.1)
keep_set (suc number) before after (k ∷ servers) (x ∷ ss) kept f s all at keeps = (all.0, keep_set number before after servers ss kept f s all.1 at keeps)

pub all_keep : (number : ℕ) (servers : List ServerKept) (ss : List ServerSeen) → AllKeep number [] servers ss → AllZip (Keeps []) servers ss
all_keep number [] [] all = all
all_keep number [] (s ∷ ss) all = absurd all
all_keep number (k ∷ servers) [] all = absurd all
all_keep zero (k ∷ servers) (s ∷ ss) all = all
all_keep (suc number) (k ∷ servers) (s ∷ ss) all = (all.0, all_keep number servers ss all.1)

pub zip_keep : (number : ℕ) (servers : List ServerKept) (ss : List ServerSeen) → AllZip (Keeps []) servers ss → AllKeep number [] servers ss
zip_keep number [] [] all = all
zip_keep number [] (s ∷ ss) all = absurd all
zip_keep number (k ∷ servers) [] all = absurd all
zip_keep zero (k ∷ servers) (s ∷ ss) all = all
zip_keep (suc number) (k ∷ servers) (s ∷ ss) all = (all.0, zip_keep number servers ss all.1)

-- ---- a close

joins_parted : (number link : ℕ) (ways : List (Option WayKept)) → joins_of (map (way_parted_at number link) ways) ≡ map (parted_at number link) (joins_of ways)
joins_parted number link [] = refl
joins_parted number link (None ∷ ways) = ap (λ xs. None ∷ xs) (joins_parted number link ways)
joins_parted number link (Some way ∷ ways) = ap (λ xs. option_map joined_of (way_parted_at number link (Some way)) ∷ xs) (joins_parted number link ways) ∙ ap (λ x. x ∷ map (parted_at number link) (joins_of ways)) (of (is_of_pair number link (joined_of way)))
  where
    of : (here : Bool) → option_map joined_of (if here then None else Some way) ≡ (if here then None else Some (joined_of way))
    of true = refl
    of false = refl

flows_parted : (number link : ℕ) (b t : End → List ℕ) (ways : List (Option WayKept)) → Each (IsOnItsWay b t) ways → Each (IsOnItsWay b t) (map (way_parted_at number link) ways)
flows_parted number link b t [] flows = flows
flows_parted number link b t (None ∷ ways) flows = (tt, flows_parted number link b t ways flows.1)
flows_parted number link b t (Some way ∷ ways) flows = (of (is_of_pair number link (joined_of way)), flows_parted number link b t ways flows.1)
  where
    of : (here : Bool) → IsOnItsWay b t (if here then None else Some way)
    of true = tt
    of false = flows.0

-- a change of one server by which nothing is taken
nothing_taken : (f : ServerSeen → ServerSeen) → ((s : ServerSeen) (link : ℕ) → taken_bytes (f s).history link ≡ taken_bytes s.history link) → (i j link : ℕ) (servers : List ServerSeen)
    → taken_at (slice_get (changed_at f i servers) j) link ≡ taken_at (slice_get servers j) link
nothing_taken f keeps i j link [] = refl
nothing_taken f keeps zero zero link (s ∷ servers) = keeps s link
nothing_taken f keeps zero (suc j) link (s ∷ servers) = refl
nothing_taken f keeps (suc i) zero link (s ∷ servers) = refl
nothing_taken f keeps (suc i) (suc j) link (s ∷ servers) = nothing_taken f keeps i j link servers

module _ (number : ℕ) (rest : List Event) (b : End → List ℕ) where
  told_turns : (end : Option End) (servers : List ServerKept) (ways : List (Option WayKept)) (n : NetSeen) → Turns number rest b servers ways n → Turns number rest b (kept_told end servers) ways (told_of_end end n)
  told_turns None servers ways n turns = turns
  told_turns (Some end) servers ways n turns =
      let e = event.Ended (number_of end) in
      record {
        servers = keep_changed number end.server rest (kept_arrival e) (with_arrival e) (λ after kept s. arrives_behind after kept e s) servers n.servers turns.servers;
        joins = turns.joins;
        flows = same_flows b (taken_in n) (taken_in (told_of_end (Some end) n)) (λ at. nothing_taken (with_arrival e) (λ s link. refl) end.server at.server (number_of at) n.servers) ways turns.flows;
      }

  pub close_turns : (link : ℕ) (servers : List ServerKept) (ways : List (Option WayKept)) (n : NetSeen) → Turns number rest b servers ways n
      → Turns number rest b (kept_told (end_beyond number link (joins_of ways)) servers) (map (way_parted_at number link) ways) (with_act number (Closes link) n)
  close_turns link servers ways n turns =
      let closed = at_server (with_happening (did.Closed link)) number n in
      subst (λ pairs. Turns number rest b (kept_told (end_beyond number link pairs) servers) (map (way_parted_at number link) ways) (with_act number (Closes link) n)) (sym turns.joins)
      (told_turns (end_beyond number link n.pairs) servers (map (way_parted_at number link) ways) (record closed { pairs = map (parted_at number link) closed.pairs }) (record {
        servers = subst (λ xs. AllKeep number rest xs closed.servers) (changed_none number servers)
            (keep_changed number number rest (λ kept. kept) (with_happening (did.Closed link)) (λ after kept s. close_keeps after kept link s) servers n.servers turns.servers);
        joins = joins_parted number link ways ∙ ap (map (parted_at number link)) turns.joins;
        flows = flows_parted number link b (taken_in closed) ways
            (same_flows b (taken_in n) (taken_in closed) (λ at. nothing_taken (with_happening (did.Closed link)) (λ s k. refl) number at.server (number_of at) n.servers) ways turns.flows);
      }))

  -- ---- a whole round

  firsts_close_none : (setting : Setting) (round : Trace) (acts : ActsSeen) → NoCloses (first_acts setting round acts)
  firsts_close_none setting round acts = dialled acts.dial
    where
      offered : (offers : List ℕ) → NoCloses (map (offer_to setting round) offers)
      offered [] = tt
      offered (link ∷ offers) = (refl, offered offers)

      cast : (casts : List CastSeen) → NoCloses (map cast_act casts ++ map (offer_to setting round) acts.offers)
      cast [] = offered acts.offers
      cast (c ∷ casts) = (refl, cast casts)

      dialled : (dial : Option ℕ) → NoCloses (dials dial ++ (map cast_act acts.casts ++ map (offer_to setting round) acts.offers))
      dialled None = cast acts.casts
      dialled (Some uplink) = (refl, cast acts.casts)

  -- nothing is taken as events come, a link is dialled and lines are cast
  events_taken : (events : List Event) (h : History) (link : ℕ) → taken_bytes (with_events events h) link ≡ taken_bytes h link
  events_taken [] h link = refl
  events_taken (e ∷ events) h link = events_taken events (did.Event e ∷ h) link

  dialled_taken : (dial : Option ℕ) (s : ServerSeen) (link : ℕ) → taken_bytes (all_acted (dials dial) s).history link ≡ taken_bytes s.history link
  dialled_taken None s link = refl
  dialled_taken (Some uplink) s link = refl

  cast_taken : (casts : List CastSeen) (s : ServerSeen) (link : ℕ) → taken_bytes (all_acted (map cast_act casts) s).history link ≡ taken_bytes s.history link
  cast_taken [] s link = refl
  cast_taken (c ∷ casts) s link = cast_taken casts (acted (cast_act c) s) link

  module _ (events : List Event) (acts : ActsSeen) (kept : ServerKept) (servers : List ServerKept) (ways after : List (Option WayKept)) (n : NetSeen) (turns : Turns number (events ++ rest) b servers ways n) (s : ServerSeen) (at : slice_get n.servers number ≡ Some s)
      (whole : is_whole (open_events s.history) events ≡ true) (drives : Drives number events rest s acts kept ways after) where
    abbrev round : Trace
    round = trace_of s.setting (with_events events s.history)

    abbrev quietly : ServerSeen → ServerSeen
    quietly x = all_acted (map cast_act acts.casts) (all_acted (dials acts.dial) (with_round_events events x))

    abbrev offered : ServerSeen → ServerSeen
    offered = all_acted (map (offer_to s.setting round) acts.offers)

    firsts : (x : ServerSeen) → all_acted (first_acts s.setting round acts) (with_round_events events x) ≡ offered (quietly x)
    firsts x =
        acted_both (dials acts.dial) (map cast_act acts.casts ++ map (offer_to s.setting round) acts.offers) (with_round_events events x)
        ∙ acted_both (map cast_act acts.casts) (map (offer_to s.setting round) acts.offers) (all_acted (dials acts.dial) (with_round_events events x))

    abbrev middle : NetSeen
    middle = at_server quietly number n

    abbrev last : NetSeen
    last = at_server offered number middle

    middle_there : slice_get middle.servers number ≡ Some (quietly s)
    middle_there = changed_here quietly number n.servers s at

    middle_flows : Each (IsOnItsWay b (taken_in middle)) ways
    middle_flows =
        same_flows b (taken_in n) (taken_in middle)
        (λ end. nothing_taken quietly (λ x link. cast_taken acts.casts (all_acted (dials acts.dial) (with_round_events events x)) link ∙ dialled_taken acts.dial (with_round_events events x) link ∙ events_taken events x.history link)
        number end.server (number_of end) n.servers) ways turns.flows

    last_keeps : AllKeep number rest (slice_set servers number kept) last.servers
    last_keeps =
        subst (λ xs. AllKeep number rest (slice_set servers number kept) xs) (sym (ap (λ (m : NetSeen). m.servers) (at_twice offered quietly number n)))
        (keep_set number (events ++ rest) rest servers n.servers kept (λ x. offered (quietly x)) s turns.servers at (subst (Keeps rest kept) (firsts s) drives.keeps))

    pub driven : Turns number rest b (slice_set servers number kept) after last
    driven = record {
      servers = last_keeps;
      joins = ap joins_of drives.ways ∙ joins_sent number s.setting round acts.offers ways ∙ turns.joins;
      flows = subst (Each (IsOnItsWay b (taken_in last))) (sym drives.ways) (flows_sent number s.setting round acts.offers b ways middle (quietly s) middle_there middle_flows);
    }

    -- what is left is to close links
    pub closes_left : with_all number events n ≡ with_acts number (map Closes acts.closes) last
    closes_left =
        let came = at_server (with_round_events events) number n in
        whole_round number events n s at whole
        ∙ ap (λ owed. with_acts number owed came) drives.due
        ∙ acts_both number (first_acts s.setting round acts) (map Closes acts.closes) came
        ∙ ap (with_acts number (map Closes acts.closes))
        (acts_alone number (first_acts s.setting round acts) came (firsts_close_none s.setting round acts)
        ∙ at_twice (all_acted (first_acts s.setting round acts)) (with_round_events events) number n
        ∙ ap (λ (xs : List ServerSeen). record n { servers = xs }) (changed_as (λ x. all_acted (first_acts s.setting round acts) (with_round_events events x)) (λ x. offered (quietly x)) number n.servers s at (firsts s))
        ∙ sym (at_twice offered quietly number n))

-- one close more
pub closes_more : (number : ℕ) (closes : List ℕ) (i d : ℕ) (n : NetSeen) → i < length closes → with_acts number (map Closes (take (i + 1) closes)) n ≡ with_act number (Closes (get_or closes i d)) (with_acts number (map Closes (take i closes)) n)
closes_more number closes i d n lt =
    ap (λ links. with_acts number (map Closes links) n) (take_more closes i d lt)
    ∙ ap (λ acts. with_acts number acts n) (map-append Closes (take i closes) (get_or closes i d ∷ []))
    ∙ acts_both number (map Closes (take i closes)) (Closes (get_or closes i d) ∷ []) n

-- one offer more is made
pub sends_next : (number : ℕ) (rest : List Event) (round : Trace) (offers : List ℕ) (link : ℕ) (links : List ℕ) (s : ServerSeen) (kept new : ServerKept) (before ways after : List (Option WayKept)) → is_member link links ≡ false
    → Sends number rest round offers (link ∷ links) s kept before ways
    → ((now : ServerSeen) → Keeps rest kept now → LeftSame round (link ∷ links) now → Keeps rest new (acted (offer_to now.setting round link) now) × (after ≡ all_with_taken number link (next_bytes now.setting round link) ways))
    → Sends number rest round offers links s new before after
sends_next number rest round offers link links s kept new before ways after other sends step =
    let made = step sends.now sends.keeps sends.same in
    let act_same : offer_to sends.now.setting round link ≡ offer_to s.setting round link = ap (λ c. offer_to c round link) sends.setting in
    record {
      now = acted (offer_to sends.now.setting round link) sends.now;
      keeps = made.0;
      same = left_next round link links sends.now other sends.same;
      setting = sends.setting;
      acts = ap (λ act. all_acted (map (offer_to s.setting round) links) (acted act sends.now)) act_same ∙ sends.acts;
      ways = ap (ways_sent number s.setting round links) (made.1 ∙ ap (λ c. all_with_taken number link (next_bytes c round link) ways) sends.setting) ∙ sends.ways;
    }

-- all offers are made
pub sends_end : (number : ℕ) (rest : List Event) (round : Trace) (offers left : List ℕ) (s : ServerSeen) (kept : ServerKept) (before after : List (Option WayKept)) → left ≡ [] → Sends number rest round offers left s kept before after
    → Keeps rest kept (all_acted (map (offer_to s.setting round) offers) s) × (after ≡ ways_sent number s.setting round offers before)
sends_end number rest round offers left s kept before after none sends =
    let acts = ap (λ links. all_acted (map (offer_to s.setting round) links) sends.now) (sym none) ∙ sends.acts in
    (subst (Keeps rest kept) acts sends.keeps, ap (λ links. ways_sent number s.setting round links after) (sym none) ∙ sends.ways)

-- a whole round came, and all is done but the closes
pub drives_so : (number : ℕ) (events rest : List Event) (s : ServerSeen) (acts : ActsSeen) (new : ServerKept) (before after : List (Option WayKept)) → s.setting.downs ≡ [] → AreActs s.setting (with_events events s.history) acts
    → (let now = all_acted (map cast_act acts.casts) (all_acted (dials acts.dial) (with_round_events events s)) in
    let round = trace_of s.setting (with_events events s.history) in
    Keeps rest new (all_acted (map (offer_to now.setting round) acts.offers) now) × (after ≡ ways_sent number now.setting round acts.offers before))
    → Drives number events rest s acts new before after
drives_so number events rest s acts new before after plain are sent =
    let round = trace_of s.setting (with_events events s.history) in
    let now = all_acted (map cast_act acts.casts) (all_acted (dials acts.dial) (with_round_events events s)) in
    let setting : now.setting ≡ s.setting = (left_first acts (with_round_events events s)).1 in
    let offers = map (offer_to s.setting round) acts.offers in
    let closes = map Closes acts.closes in
    let casts = map cast_act acts.casts in
    let whole : all_acted (first_acts s.setting round acts) (with_round_events events s) ≡ all_acted offers now =
    acted_both (dials acts.dial) (casts ++ offers) (with_round_events events s) ∙ acted_both casts offers (all_acted (dials acts.dial) (with_round_events events s)) in
    record {
      due = are.due ∙ ap (λ xs. dials acts.dial ++ (casts ++ (xs ++ closes))) (all_plain_offers s.setting plain round acts.offers) ∙ ap (λ xs. dials acts.dial ++ xs) (sym (append_assoc casts offers closes)) ∙ sym (append_assoc (dials acts.dial) (casts ++ offers) closes);
      keeps = subst (Keeps rest new) (ap (λ c. all_acted (map (offer_to c round) acts.offers) now) setting ∙ sym whole) sent.0;
      ways = sent.1 ∙ ap (λ c. ways_sent number c round acts.offers before) setting;
    }

-- a whole round came, and its links are closed
pub part_done : (number : ℕ) (rest : List Event) (b : End → List ℕ) (events : List Event) (acts : ActsSeen) (kept : ServerKept) (servers : List ServerKept) (ways after : List (Option WayKept)) (n : NetSeen)
    → Turns number (events ++ rest) b servers ways n → (s : ServerSeen) → slice_get n.servers number ≡ Some s → is_whole (open_events s.history) events ≡ true → Drives number events rest s acts kept ways after
    → {T E : Type 0} (r : Result T E) (servers' : List ServerKept) (ways' : List (Option WayKept))
    → ((m : NetSeen) → Turns number rest b (slice_set servers number kept) after m → OnOk r (Turns number rest b servers' ways' (with_acts number (map Closes acts.closes) m)))
    → OnOk r (Turns number rest b servers' ways' (with_all number events n))
part_done number rest b events acts kept servers ways after n turns s at whole drives r servers' ways' close =
    subst (λ m. OnOk r (Turns number rest b servers' ways' m)) (sym (closes_left number rest b events acts kept servers ways after n turns s at whole drives))
    (close _ (driven number rest b events acts kept servers ways after n turns s at whole drives))
