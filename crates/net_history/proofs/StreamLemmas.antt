-- Each step keeps what goes between the ends of pairs.
use Rattle.std.proofs.Common.{◌≡◌, ◌≢◌, ℕ, ◌+◌, ◌-◌, ◌<◌, ◌==◌, ◌&&◌, Bool, true, false, List, [], ◌∷◌, ◌++◌, length, map, take, drop, refl, sym, ap, ◌∙◌, subst, arith, Option, Some, None, ◌⊎◌, inl, inr, ⊎_elim, append-nil, append_assoc, cond}
use Rattle.std.specs.Prelude.{slice_get, if◌then◌else◌}
use Rattle.std.specs.List.{flat_map}
use Rattle.std.specs.Option.{option_and_then}
use Rattle.std.proofs.lemmas.Bool.{cases_Bool, and_parts, eqb-true, ltb-true, false≢true}
use Rattle.std.proofs.lemmas.Grind.{flat_map-append}
use Rattle.std.proofs.lemmas.List.{take-append-drop}
use Rattle.aprs_base.specs.declared.events.Event.{Event}
use Rattle.aprs_base.specs.declared.events.Event.TheVariants as event
use Rattle.aprs_base.specs.declared.events.Happening.TheVariants as did
use Rattle.aprs_base.specs.declared.packets.ListenSpec.{ListenSpec}
use Rattle.aprs_base.specs.declared.texts.Addr.{Addr}
use Rattle.link_queue.specs.Lines.{ended_line}
use Rattle.aprs_history.specs.Setting.{Setting}
use Rattle.aprs_history.specs.Acts.{Act, Listens, Dials, Casts, Offers, SendsLine, Closes}
use Rattle.aprs_history.specs.Arriving.{bytes_for, came_to}
use Rattle.aprs_history.specs.Headline.{taken_bytes}
use Rattle.aprs_history.specs.History.{History}
use Rattle.aprs_history.specs.Rounds.{listens_after, only_listens}
use Rattle.net_history.specs.declared.events.Pair.{Pair}
use Rattle.net_history.specs.declared.events.NetEvent.{NetEvent}
use Rattle.net_history.specs.declared.events.NetEvent.TheVariants as net
use Rattle.net_history.specs.Network.{End, ForClient, ForPair, JoinedSeen, Layout, Made, NetSeen, ServerSeen, address_of, at_server, brought_at, changed_at, end_beyond, flight, is_of_pair, new_network, new_server, number_of, parted_at, taken_at, unjoined, with_arrival}
use Rattle.net_history.specs.Serving.{arrivals_at, due_at, happening_of, told_of_end, with_act, with_acts, with_all, with_dial, with_effect, with_event, with_happening, with_round, without_arrivals}
use Rattle.net_history.specs.Steps.{datagram_at, ends_at, high_end, has_room, is_dialled, is_for_client, is_there, joined_at, joined_by, login_line, low_end, may_join, may_say, network_of, next_link, next_place, parted, peering, with_carry, with_cast, with_client, with_cut, with_datagram, with_downlink, with_join, with_link, with_mail, with_step, with_uplink}
use Rattle.net_history.specs.Streams.{PairsBringWhatWasTaken}
use Rattle.net_history.proofs.PlaceLemmas.{some_same}
use Rattle.net_history.proofs.BetweenLemmas.{Between, at_changed, at_end, at_mapped, between_both, between_one, between_same, changed_here, none_some, place_below, place_past, same_elsewhere, same_or_other}
use Rattle.net_history.proofs.GrowthLemmas.{AllGrow, Ends, Grows, HasEnd, HasEnds, Kept, NoneUnmade, all_both, brought, end_stays, grows_both, kept_growing, one_grows}

-- ---- one server

abbrev coming : List Event → ℕ → List ℕ
coming events link = flat_map (bytes_for link) events

coming_more : (events : List Event) (e : Event) (link : ℕ) → coming (events ++ e ∷ []) link ≡ coming events link ++ bytes_for link e
coming_more events e link = flat_map-append (bytes_for link) events (e ∷ []) ∙ ap (λ bytes. coming events link ++ bytes) (append-nil (bytes_for link e))

pub brought_more : (s : ServerSeen) (e : Event) (link : ℕ) → brought (with_arrival e s) link ≡ brought s link ++ bytes_for link e
brought_more s e link = ap (λ bytes. came_to s.history link ++ bytes) (coming_more s.arrivals e link) ∙ sym (append_assoc (came_to s.history link) (coming s.arrivals link) (bytes_for link e))

-- what it took goes on
abbrev TakesMore : History → History → Type 0
TakesMore before after = (link : ℕ) → (later : List ℕ) × (taken_bytes after link ≡ taken_bytes before link ++ later)

takes_same : (h : History) → TakesMore h h
takes_same h link = ([], sym (append-nil (taken_bytes h link)))

-- nothing is there that wasn't, but for what it took
grows_quietly : (s u : ServerSeen) → u.made ≡ s.made → ((link : ℕ) → brought u link ≡ brought s link) → TakesMore s.history u.history → Grows s u
grows_quietly s u made same taken = record {
  more = [];
  made = made ∙ sym (append-nil s.made);
  unmade = λ none. record { first = same 0 ∙ none.first; above = λ link high. same link ∙ none.above link (subst (λ m. length m < link) made high) };
  same = λ place end e. same (place + 1);
  fresh = λ none place end e is. absurd (none_some (ForPair end) (sym e ∙ ap (λ m. slice_get m place) (sym made) ∙ is));
  taken = taken;
}

-- an event without bytes waits
pub arrival_grows : (e : Event) → ((link : ℕ) → bytes_for link e ≡ []) → (s : ServerSeen) → Grows s (with_arrival e s)
arrival_grows e silent s = grows_quietly s (with_arrival e s) refl
    (λ link. brought_more s e link ∙ ap (λ bytes. brought s link ++ bytes) (silent link) ∙ append-nil (brought s link))
    (takes_same s.history)

sent_more : (here : Bool) (before bytes : List ℕ) → (later : List ℕ) × ((if here then before ++ bytes else before) ≡ before ++ later)
sent_more true before bytes = (bytes, refl)
sent_more false before bytes = ([], sym (append-nil before))

act_taken : (act : Act) (h : History) → TakesMore h (happening_of act ∷ h)
act_taken (Offers other bytes) h link = sent_more (link == other) (taken_bytes h link) (take (length bytes) bytes)
act_taken (SendsLine other line) h link = sent_more (link == other) (taken_bytes h link) (take (length line) line)
act_taken (Listens n) h link = ([], sym (append-nil (taken_bytes h link)))
act_taken (Dials n) h link = ([], sym (append-nil (taken_bytes h link)))
act_taken (Casts peer bytes) h link = ([], sym (append-nil (taken_bytes h link)))
act_taken (Closes n) h link = ([], sym (append-nil (taken_bytes h link)))

act_came : (act : Act) (h : History) (link : ℕ) → came_to (happening_of act ∷ h) link ≡ came_to h link
act_came (Offers other bytes) h link = refl
act_came (SendsLine other line) h link = refl
act_came (Listens n) h link = refl
act_came (Dials n) h link = refl
act_came (Casts peer bytes) h link = refl
act_came (Closes n) h link = refl

-- ---- a round: what waits comes

-- so many bytes came to each link, and what waits there stays
record Moves (more : ℕ → List ℕ) (s u : ServerSeen) : Type 0 where
  made : u.made ≡ s.made
  came : (link : ℕ) → came_to u.history link ≡ came_to s.history link ++ more link
  waits : (link : ℕ) → coming u.arrivals link ≡ coming s.arrivals link
  taken : TakesMore s.history u.history

abbrev nothing : ℕ → List ℕ
nothing link = []

-- so much comes to one of the servers
abbrev at_one : ℕ → (ℕ → List ℕ) → ℕ → ℕ → List ℕ
at_one server more j link = if server == j then more link else []

moves_same : (s : ServerSeen) → Moves nothing s s
moves_same s = record { made = refl; came = λ link. sym (append-nil (came_to s.history link)); waits = λ link. refl; taken = takes_same s.history }

moves_both : (a b c : ℕ → List ℕ) → ((link : ℕ) → a link ++ b link ≡ c link) → (s u v : ServerSeen) → Moves a s u → Moves b u v → Moves c s v
moves_both a b c is s u v first later = record {
  made = later.made ∙ first.made;
  came = λ link. later.came link ∙ ap (λ bytes. bytes ++ b link) (first.came link) ∙ append_assoc (came_to s.history link) (a link) (b link) ∙ ap (λ bytes. came_to s.history link ++ bytes) (is link);
  waits = λ link. later.waits link ∙ first.waits link;
  taken = λ link.
      let one = first.taken link in
      let two = later.taken link in
      (one.0 ++ two.0, two.1 ∙ ap (λ bytes. bytes ++ two.0) one.1 ∙ append_assoc (taken_bytes s.history link) one.0 two.0);
}

moves_as : (a b : ℕ → List ℕ) → ((link : ℕ) → a link ≡ b link) → (s u : ServerSeen) → Moves a s u → Moves b s u
moves_as a b is s u moves = record { made = moves.made; came = λ link. moves.came link ∙ ap (λ bytes. came_to s.history link ++ bytes) (is link); waits = moves.waits; taken = moves.taken }

abbrev AllMove : ℕ → (ℕ → List ℕ) → List ServerSeen → List ServerSeen → Type 0
AllMove server more before after = Between (λ j. Moves (at_one server more j)) before after

both_at_one : (server : ℕ) (a b c : ℕ → List ℕ) → ((link : ℕ) → a link ++ b link ≡ c link) → (j link : ℕ) → at_one server a j link ++ at_one server b j link ≡ at_one server c j link
both_at_one server a b c is j link = of (server == j)
  where
    of : (here : Bool) → (if here then a link else []) ++ (if here then b link else []) ≡ (if here then c link else [])
    of true = is link
    of false = refl

nothing_at_one : (server j link : ℕ) → at_one server nothing j link ≡ []
nothing_at_one server j link = of (server == j)
  where
    of : (here : Bool) → ◌≡◌ {A = List ℕ} (cond here [] []) []
    of true = refl
    of false = refl

move_both : (server : ℕ) (a b c : ℕ → List ℕ) → ((link : ℕ) → a link ++ b link ≡ c link) → (x y z : List ServerSeen) → AllMove server a x y → AllMove server b y z → AllMove server c x z
move_both server a b c is x y z =
    between_both (λ j. Moves (at_one server a j)) (λ j. Moves (at_one server b j)) (λ j. Moves (at_one server c j)) x y z
    (λ j. moves_both (at_one server a j) (at_one server b j) (at_one server c j) (both_at_one server a b c is j))

still_moves : (server j : ℕ) (s u : ServerSeen) → Moves nothing s u → Moves (at_one server nothing j) s u
still_moves server j s u moves = moves_as nothing (at_one server nothing j) (λ link. sym (nothing_at_one server j link)) s u moves

still : (server : ℕ) (x : List ServerSeen) → AllMove server nothing x x
still server x = between_same (λ j. Moves (at_one server nothing j)) x (λ j s. still_moves server j s s (moves_same s))

still_one : (server : ℕ) (f : ServerSeen → ServerSeen) (at : ℕ) (x : List ServerSeen) → ((s : ServerSeen) → Moves nothing s (f s)) → AllMove server nothing x (changed_at f at x)
still_one server f at x moves = between_one (λ j. Moves (at_one server nothing j)) f at x (λ s e. still_moves server at s (f s) (moves s)) (λ j other s. still_moves server j s s (moves_same s))

still_both : (server : ℕ) (x y z : List ServerSeen) → AllMove server nothing x y → AllMove server nothing y z → AllMove server nothing x z
still_both server x y z = move_both server nothing nothing nothing (λ link. refl) x y z

ended_moves : (link : ℕ) (s : ServerSeen) → Moves nothing s (with_arrival (event.Ended link) s)
ended_moves link s = record {
  made = refl;
  came = λ k. sym (append-nil (came_to s.history k));
  waits = λ k. coming_more s.arrivals (event.Ended link) k ∙ append-nil (coming s.arrivals k);
  taken = takes_same s.history;
}

act_moves : (act : Act) (s : ServerSeen) → Moves nothing s (with_happening (happening_of act) s)
act_moves act s = record { made = refl; came = λ k. act_came act s.history k ∙ sym (append-nil (came_to s.history k)); waits = λ k. refl; taken = act_taken act s.history }

dial_moves : (uplink : ℕ) (s : ServerSeen) → Moves nothing s (with_dial uplink s)
dial_moves uplink s = record { made = refl; came = λ k. sym (append-nil (came_to s.history k)); waits = λ k. refl; taken = takes_same s.history }

told_moves : (server : ℕ) (end : Option End) (n : NetSeen) → AllMove server nothing n.servers (told_of_end end n).servers
told_moves server None n = still server n.servers
told_moves server (Some end) n = still_one server (with_arrival (event.Ended (number_of end))) end.server n.servers (ended_moves (number_of end))

effect_moves : (server : ℕ) (act : Act) (n : NetSeen) → AllMove server nothing n.servers (with_effect server act n).servers
effect_moves server (Dials uplink) n = still_one server (with_dial uplink) server n.servers (dial_moves uplink)
effect_moves server (Closes link) n = told_moves server (end_beyond server link n.pairs) (record n { pairs = map (parted_at server link) n.pairs })
effect_moves server (Listens k) n = still server n.servers
effect_moves server (Casts peer bytes) n = still server n.servers
effect_moves server (Offers link bytes) n = still server n.servers
effect_moves server (SendsLine link line) n = still server n.servers

acts_move : (server : ℕ) (acts : List Act) (n : NetSeen) → AllMove server nothing n.servers (with_acts server acts n).servers
acts_move server [] n = still server n.servers
acts_move server (act ∷ acts) n =
    let one = at_server (with_happening (happening_of act)) server n in
    let two = with_act server act n in
    still_both server n.servers two.servers (with_acts server acts two).servers
    (still_both server n.servers one.servers two.servers (still_one server (with_happening (happening_of act)) server n.servers (act_moves act)) (effect_moves server act one))
    (acts_move server acts two)

pub eqb_same : (i : ℕ) → (i == i) ≡ true
eqb_same i = grind arith

pub eqb_other : (i j : ℕ) → i ≢ j → (i == j) ≡ false
eqb_other i j other = ⊎_elim (λ is. absurd (other (eqb-true i j is))) (λ is. is) (cases_Bool (i == j))

happening_moves : (e : Event) (server : ℕ) (x : List ServerSeen) → AllMove server (λ link. bytes_for link e) x (changed_at (with_happening (did.Event e)) server x)
happening_moves e server x = between_one (λ j. Moves (at_one server (λ link. bytes_for link e) j)) (with_happening (did.Event e)) server x
    (λ s at. record {
      made = refl;
      came = λ link. ap (λ b. came_to s.history link ++ (if b then bytes_for link e else [])) (sym (eqb_same server));
      waits = λ link. refl;
      taken = λ link. ([], sym (append-nil (taken_bytes s.history link)));
    })
    (λ j other s. moves_as nothing (at_one server (λ link. bytes_for link e) j) (λ link. ap (λ b. if b then bytes_for link e else []) (sym (eqb_other server j other))) s s (moves_same s))

event_moves : (e : Event) (server : ℕ) (n : NetSeen) → AllMove server (λ link. bytes_for link e) n.servers (with_event server e n).servers
event_moves e server n =
    let one = at_server (with_happening (did.Event e)) server n in
    move_both server (λ link. bytes_for link e) nothing (λ link. bytes_for link e) (λ link. append-nil (bytes_for link e)) n.servers one.servers (with_event server e n).servers
    (happening_moves e server n.servers) (acts_move server (due_at (slice_get one.servers server)) one)

all_move : (events : List Event) (server : ℕ) (n : NetSeen) → AllMove server (coming events) n.servers (with_all server events n).servers
all_move [] server n = still server n.servers
all_move (e ∷ events) server n =
    move_both server (λ link. bytes_for link e) (coming events) (coming (e ∷ events)) (λ link. refl) n.servers (with_event server e n).servers (with_all server events (with_event server e n)).servers
    (event_moves e server n) (all_move events server (with_event server e n))

-- pairs only part
abbrev pub Fewer : List (Option JoinedSeen) → List (Option JoinedSeen) → Type 0
Fewer before after = (pair : ℕ) (joined : JoinedSeen) → slice_get after pair ≡ Some (Some joined) → slice_get before pair ≡ Some (Some joined)

parted_was : (server link : ℕ) (before : Option JoinedSeen) (joined : JoinedSeen) → parted_at server link before ≡ Some joined → before ≡ Some joined
parted_was server link None joined e = absurd (none_some joined e)
parted_was server link (Some was) joined e = of (is_of_pair server link was) e
  where
    of : (b : Bool) → (if b then None else Some was) ≡ Some joined → Some was ≡ Some joined
    of true e = absurd (none_some joined e)
    of false e = e

told_pairs : (end : Option End) (n : NetSeen) → (told_of_end end n).pairs ≡ n.pairs
told_pairs None n = refl
told_pairs (Some end) n = refl

effect_fewer : (server : ℕ) (act : Act) (n : NetSeen) → Fewer n.pairs (with_effect server act n).pairs
effect_fewer server (Closes link) n pair joined e =
    let few : NetSeen = record n { pairs = map (parted_at server link) n.pairs } in
    let was = at_mapped (parted_at server link) n.pairs pair (Some joined) (ap (λ pairs. slice_get pairs pair) (sym (told_pairs (end_beyond server link n.pairs) few)) ∙ e) in
    was.1 ∙ ap Some (parted_was server link was.0 joined was.2)
effect_fewer server (Dials uplink) n pair joined e = e
effect_fewer server (Listens k) n pair joined e = e
effect_fewer server (Casts peer bytes) n pair joined e = e
effect_fewer server (Offers link bytes) n pair joined e = e
effect_fewer server (SendsLine link line) n pair joined e = e

acts_fewer : (server : ℕ) (acts : List Act) (n : NetSeen) → Fewer n.pairs (with_acts server acts n).pairs
acts_fewer server [] n pair joined e = e
acts_fewer server (act ∷ acts) n pair joined e =
    effect_fewer server act (at_server (with_happening (happening_of act)) server n) pair joined (acts_fewer server acts (with_act server act n) pair joined e)

pub all_fewer : (server : ℕ) (events : List Event) (n : NetSeen) → Fewer n.pairs (with_all server events n).pairs
all_fewer server [] n pair joined e = e
all_fewer server (x ∷ events) n pair joined e =
    let one = at_server (with_happening (did.Event x)) server n in
    acts_fewer server (due_at (slice_get one.servers server)) one pair joined (all_fewer server events (with_event server x n) pair joined e)

ends_fewer : (n m : NetSeen) → AllGrow n.servers m.servers → Fewer n.pairs m.pairs → Ends n → Ends m
ends_fewer n m all fewer ends pair joined e =
    let was = ends pair joined (fewer pair joined e) in
    (end_stays n.servers m.servers joined.low joined.high all was.0, end_stays n.servers m.servers joined.high joined.low all was.1)

module _ (server moment : ℕ) (n : NetSeen) where
  abbrev events : List Event
  events = arrivals_at (slice_get n.servers server) ++ event.Tick moment ∷ []

  abbrev Cleared : ℕ → ServerSeen → ServerSeen → Type 0
  Cleared j s v = ((server ≡ j) × (v ≡ without_arrivals s) × (arrivals_at (slice_get n.servers server) ≡ s.arrivals)) ⊎ ((server ≢ j) × (v ≡ s))

  cleared : Between Cleared n.servers (changed_at without_arrivals server n.servers)
  cleared = between_one Cleared without_arrivals server n.servers (λ s e. inl (refl, refl, ap arrivals_at e)) (λ j other s. inr (other, refl))

  grows_here : (j : ℕ) (s u : ServerSeen) → server ≡ j → arrivals_at (slice_get n.servers server) ≡ s.arrivals → Moves (at_one server (coming events) j) (without_arrivals s) u → Grows s u
  grows_here j s u here its moves = grows_quietly s u moves.made
      (λ link.
      let more : at_one server (coming events) j link ≡ coming s.arrivals link =
      ap (λ b. if b then coming events link else []) (ap (λ l. server == l) (sym here) ∙ eqb_same server) ∙ ap (λ a. coming (a ++ event.Tick moment ∷ []) link) its
      ∙ coming_more s.arrivals (event.Tick moment) link ∙ append-nil (coming s.arrivals link) in
      ap (λ bytes. bytes ++ coming u.arrivals link) (moves.came link ∙ ap (λ bytes. came_to s.history link ++ bytes) more) ∙ ap (λ bytes. (came_to s.history link ++ coming s.arrivals link) ++ bytes) (moves.waits link)
      ∙ append-nil (brought s link))
      moves.taken

  grows_elsewhere : (j : ℕ) (s u : ServerSeen) → server ≢ j → Moves (at_one server (coming events) j) s u → Grows s u
  grows_elsewhere j s u other moves = grows_quietly s u moves.made
      (λ link.
      let more : at_one server (coming events) j link ≡ [] = ap (λ b. if b then coming events link else []) (eqb_other server j other) in
      ap (λ bytes. bytes ++ coming u.arrivals link) (moves.came link ∙ ap (λ bytes. came_to s.history link ++ bytes) more ∙ append-nil (came_to s.history link)) ∙ ap (λ bytes. came_to s.history link ++ bytes) (moves.waits link))
      moves.taken

  pub round_grows : AllGrow n.servers (with_round server moment n).servers
  round_grows = between_both Cleared (λ j. Moves (at_one server (coming events) j)) (λ j. Grows) n.servers (changed_at without_arrivals server n.servers) (with_round server moment n).servers
      (λ j s v u was moves. ⊎_elim
      (λ here. grows_here j s u here.0 here.2 (subst (λ x. Moves (at_one server (coming events) j) x u) here.1 moves))
      (λ other. grows_elsewhere j s u other.0 (subst (λ x. Moves (at_one server (coming events) j) x u) other.1 moves))
      was)
      cleared (all_move events server (at_server without_arrivals server n))

  round_kept : Kept n → Kept (with_round server moment n)
  round_kept kept =
      kept_growing n (with_round server moment n) round_grows (ends_fewer n (with_round server moment n) round_grows (all_fewer server events (at_server without_arrivals server n)) kept.ends) kept

-- ---- clients

not_for : (link place : ℕ) (bytes : List ℕ) → link ≢ place + 1 → bytes_for link (event.Bytes (place + 1) bytes) ≡ []
not_for link place bytes other = ap (λ b. if b then bytes else []) (eqb_other link (place + 1) other)

-- bytes come that are for no other link
bytes_elsewhere : (place : ℕ) (bytes : List ℕ) (s : ServerSeen) (link : ℕ) → link ≢ place + 1 → brought (with_arrival (event.Bytes (place + 1) bytes) s) link ≡ brought s link
bytes_elsewhere place bytes s link other = brought_more s (event.Bytes (place + 1) bytes) link ∙ ap (λ b. brought s link ++ b) (not_for link place bytes other) ∙ append-nil (brought s link)

bytes_unmade : (place : ℕ) (bytes : List ℕ) (s : ServerSeen) (m : Made) → slice_get s.made place ≡ Some m → NoneUnmade s → NoneUnmade (with_arrival (event.Bytes (place + 1) bytes) s)
bytes_unmade place bytes s m there none =
    let below = place_below s.made place m there in
    record {
      first = bytes_elsewhere place bytes s 0 (λ is. absurd (omega (arith, is))) ∙ none.first;
      above = λ link high. bytes_elsewhere place bytes s link (λ is. absurd (omega (arith, is, below, high))) ∙ none.above link high;
    }

client_grows : (place : ℕ) (bytes : List ℕ) (s : ServerSeen) → slice_get s.made place ≡ Some ForClient → Grows s (with_arrival (event.Bytes (place + 1) bytes) s)
client_grows place bytes s client = record {
  more = [];
  made = sym (append-nil s.made);
  unmade = bytes_unmade place bytes s ForClient client;
  same = λ other end e. bytes_elsewhere place bytes s (other + 1)
      (λ is.
      let here : other ≡ place = omega (arith, is) in
      let both : Some ForClient ≡ Some (ForPair end) = sym client ∙ ap (slice_get s.made) (sym here) ∙ e in
      cc);
  fresh = λ none other end e is. absurd (none_some (ForPair end) (sym e ∙ is));
  taken = takes_same s.history;
}

pub one_more : (made : List Made) (m : Made) → length (made ++ m ∷ []) ≡ length made + 1
one_more [] m = refl
one_more (x ∷ made) m = let later = one_more made m in omega (arith, later)

-- a link is made
link_grows : (m : Made) (e : Event) → ((link : ℕ) → bytes_for link e ≡ []) → (s : ServerSeen) → Grows s (with_link m (with_arrival e s))
link_grows m e silent s =
    let same : (link : ℕ) → brought (with_link m (with_arrival e s)) link ≡ brought s link = λ link. brought_more s e link ∙ ap (λ bytes. brought s link ++ bytes) (silent link) ∙ append-nil (brought s link) in
    record {
      more = m ∷ [];
      made = refl;
      unmade = λ none. record { first = same 0 ∙ none.first; above = λ link high. same link ∙ none.above link (let long = one_more s.made m in omega (arith, long, high)) };
      same = λ place end e. same (place + 1);
      fresh = λ none place end no is. same (place + 1) ∙ none.above (place + 1) (let past = place_past s.made place no in omega arith);
      taken = takes_same s.history;
    }

pub opened_grows : (listener : ℕ) (from : Addr) (call : List ℕ) (s : ServerSeen) → Grows s (with_client listener from call s)
opened_grows listener from call s =
    let opened = with_link ForClient (with_arrival (event.Opened listener (next_link s) from) s) in
    grows_both s opened (with_client listener from call s)
    (link_grows ForClient (event.Opened listener (next_link s) from) (λ link. refl) s)
    (client_grows (length s.made) (ended_line (login_line call)) opened (at_end s.made ForClient))

-- where the pairs stay
kept_so : (n m : NetSeen) → AllGrow n.servers m.servers → m.pairs ≡ n.pairs → Kept n → Kept m
kept_so n m all same kept = kept_growing n m all (ends_fewer n m all (λ pair joined e. ap (λ pairs. slice_get pairs pair) (sym same) ∙ e) kept.ends) kept

open_kept : (server listener : ℕ) (call : List ℕ) (n : NetSeen) → Kept n → Kept (at_server (with_client listener (address_of server) call) server n)
open_kept server listener call n kept =
    kept_so n (at_server (with_client listener (address_of server) call) server n)
    (one_grows (with_client listener (address_of server) call) server n.servers (λ s e. opened_grows listener (address_of server) call s)) refl kept

client_is : (m : Option Made) → is_for_client m ≡ true → m ≡ Some ForClient
client_is None is = absurd (false≢true is)
client_is (Some ForClient) is = refl
client_is (Some (ForPair end)) is = absurd (false≢true is)

-- a client's link has a number
pub says_to : (link : ℕ) (s : ServerSeen) → may_say link (Some s) ≡ true → (link ≡ (link - 1) + 1) × (slice_get s.made (link - 1) ≡ Some ForClient)
says_to link s may =
    let parts = and_parts _ _ may in
    let low = ltb-true 0 link parts.0 in
    (omega arith, client_is (slice_get s.made (link - 1)) (and_parts _ _ parts.1).0)

pub say_grows : (link : ℕ) (bytes : List ℕ) (s : ServerSeen) → may_say link (Some s) ≡ true → Grows s (with_arrival (event.Bytes link bytes) s)
say_grows link bytes s may =
    let is = says_to link s may in
    subst (λ number. Grows s (with_arrival (event.Bytes number bytes) s)) (sym is.0) (client_grows (link - 1) bytes s is.1)

say_kept : (server link : ℕ) (bytes : List ℕ) (n : NetSeen) → may_say link (slice_get n.servers server) ≡ true → Kept n → Kept (at_server (with_arrival (event.Bytes link bytes)) server n)
say_kept server link bytes n may kept =
    kept_so n (at_server (with_arrival (event.Bytes link bytes)) server n)
    (one_grows (with_arrival (event.Bytes link bytes)) server n.servers (λ s e. say_grows link bytes s (ap (may_say link) (sym e) ∙ may))) refl kept

-- ---- datagrams, and a pair that is cut

arrival_kept : (server : ℕ) (e : Event) → ((link : ℕ) → bytes_for link e ≡ []) → (n : NetSeen) → Kept n → Kept (at_server (with_arrival e) server n)
arrival_kept server e silent n kept = kept_so n (at_server (with_arrival e) server n) (one_grows (with_arrival e) server n.servers (λ s at. arrival_grows e silent s)) refl kept

mail_kept : (to peer : ℕ) (bytes : Option (List ℕ)) (n : NetSeen) → Kept n → Kept (with_mail to peer bytes n)
mail_kept to peer None n kept = kept
mail_kept to peer (Some bytes) n kept = kept_so n (with_mail to peer (Some bytes) n) (one_grows (with_datagram peer bytes) to n.servers (λ s at. arrival_grows _ (λ link. refl) s)) refl kept

cast_kept : (from to k : ℕ) (numbers : Option (ℕ × ℕ)) (n : NetSeen) → Kept n → Kept (with_cast from to k numbers n)
cast_kept from to k None n kept = kept
cast_kept from to k (Some numbers) n kept = mail_kept to numbers.1 (datagram_at numbers.0 k (slice_get n.servers from)) n kept

pub cut_fewer : (number : ℕ) (pairs : List (Option JoinedSeen)) → Fewer pairs (changed_at parted number pairs)
cut_fewer number pairs pair joined e =
    let was = at_changed parted number pair pairs (Some joined) e in
    was.1 ∙ ⊎_elim (λ here. absurd (none_some joined (sym here.1))) (λ elsewhere. ap Some (sym elsewhere.1)) was.2

cut_kept : (number : ℕ) (joined : Option JoinedSeen) (n : NetSeen) → Kept n → Kept (with_cut number joined n)
cut_kept number None n kept = kept
cut_kept number (Some joined) n kept =
    let one = ends_at joined.low n in
    let both = arrival_kept joined.high.server (event.Ended (number_of joined.high)) (λ link. refl) one (arrival_kept joined.low.server (event.Ended (number_of joined.low)) (λ link. refl) n kept) in
    record { unmade = both.unmade; streams = both.streams; ends = λ pair other e. both.ends pair other (cut_fewer number n.pairs pair other e) }

-- ---- a pair joins

uplink_grows : (uplink : ℕ) (at : Addr) (other : End) (s : ServerSeen) → Grows s (with_uplink uplink at other s)
uplink_grows uplink at other s =
    let grows = link_grows (ForPair other) (event.Joined uplink (next_link s) at) (λ link. refl) s in
    record {
      more = grows.more;
      made = grows.made;
      unmade = λ none. let later = grows.unmade none in record { first = later.first; above = later.above };
      same = grows.same;
      fresh = grows.fresh;
      taken = grows.taken;
    }

module _ (number : ℕ) (pair : Pair) (n : NetSeen) (s t : ServerSeen) (low_there : slice_get n.servers pair.low ≡ Some s) (high_there : slice_get n.servers pair.high ≡ Some t) where
  abbrev low : End
  low = low_end pair n

  abbrev high : End
  high = high_end pair n

  abbrev low_joins : ServerSeen → ServerSeen
  low_joins = with_uplink pair.uplink (address_of pair.high) high

  abbrev high_opens : ServerSeen → ServerSeen
  high_opens = with_downlink pair.listener (address_of pair.low) low

  abbrev one : List ServerSeen
  one = changed_at low_joins pair.low n.servers

  abbrev two : List ServerSeen
  two = changed_at high_opens pair.high one

  one_all : AllGrow n.servers one
  one_all = one_grows low_joins pair.low n.servers (λ x e. uplink_grows pair.uplink (address_of pair.high) high x)

  two_all : AllGrow one two
  two_all = one_grows high_opens pair.high one (λ x e. link_grows (ForPair low) (event.Opened pair.listener (next_link x) (address_of pair.low)) (λ link. refl) x)

  pub join_grows : AllGrow n.servers two
  join_grows = all_both n.servers one two one_all two_all

  pub low_has : HasEnd two low high
  low_has = end_stays one two low high two_all (
    low_joins s,
    changed_here low_joins pair.low n.servers s low_there,
    ap (λ o. slice_get (s.made ++ ForPair high ∷ []) (next_place o)) low_there ∙ at_end s.made (ForPair high),
  )

  -- the server that opens has one link more where it is the one that joined
  pub opener : (u : ServerSeen) × (slice_get one pair.high ≡ Some u) × (length u.made ≡ high.place)
  opener = of (same_or_other pair.low pair.high)
    where
      of : (pair.low ≡ pair.high) ⊎ (pair.low ≢ pair.high) → (u : ServerSeen) × (slice_get one pair.high ≡ Some u) × (length u.made ≡ high.place)
      of (inl same) = (
        low_joins t,
        subst (λ i. slice_get (changed_at low_joins i n.servers) pair.high ≡ Some (low_joins t)) (sym same) (changed_here low_joins pair.high n.servers t high_there),
        one_more t.made (ForPair high) ∙ ap (λ o. next_place o + 1) (sym high_there)
            ∙ ap (λ b. next_place (slice_get n.servers pair.high) + (if b then 1 else 0)) (sym (ap (λ i. i == pair.high) same ∙ eqb_same pair.high)),
      )
      of (inr apart) = (
        t,
        same_elsewhere low_joins pair.low pair.high n.servers apart ∙ high_there,
        no_more (length t.made) ∙ ap (λ o. next_place o + 0) (sym high_there)
            ∙ ap (λ b. next_place (slice_get n.servers pair.high) + (if b then 1 else 0)) (sym (eqb_other pair.low pair.high apart)),
      )
        where
          no_more : (k : ℕ) → k ≡ k + 0
          no_more k = omega arith

  pub high_has : HasEnd two high low
  high_has = (
    high_opens opener.0,
    changed_here high_opens pair.high one opener.0 opener.1,
    ap (slice_get (opener.0.made ++ ForPair low ∷ [])) (sym opener.2) ∙ at_end opener.0.made (ForPair low),
  )

  joined_ends : Ends n → (place : ℕ) (joined : JoinedSeen) → slice_get (changed_at (joined_by low high) number n.pairs) place ≡ Some (Some joined) → HasEnds two joined
  joined_ends ends place joined e =
      let was = at_changed (joined_by low high) number place n.pairs (Some joined) e in
      ⊎_elim
      (λ here. subst (HasEnds two) (sym (some_same joined (record { low = low; high = high }) here.1)) (low_has, high_has))
      (λ other.
      let before = ends place joined (was.1 ∙ ap Some (sym other.1)) in
      (end_stays n.servers two joined.low joined.high join_grows before.0, end_stays n.servers two joined.high joined.low join_grows before.1))
      was.2

  pair_joins : Kept n → Kept (with_join number (Some pair) n)
  pair_joins kept = kept_growing n (with_join number (Some pair) n) join_grows (joined_ends kept.ends) kept

there_by : (o : Option ServerSeen) (test : Option ServerSeen → Bool) → test None ≡ false → test o ≡ true → (s : ServerSeen) × (o ≡ Some s)
there_by None test none is = absurd (false≢true (sym none ∙ is))
there_by (Some s) test none is = (s, refl)

-- both servers of a pair are there where it may join
pub low_there : (n : NetSeen) (pair : Pair) → may_join n (Some pair) ≡ true → (s : ServerSeen) × (slice_get n.servers pair.low ≡ Some s)
low_there n pair may = there_by (slice_get n.servers pair.low) (is_dialled pair.uplink) refl (and_parts _ _ may).0

pub high_there : (n : NetSeen) (pair : Pair) → may_join n (Some pair) ≡ true → (s : ServerSeen) × (slice_get n.servers pair.high ≡ Some s)
high_there n pair may = of (pair.low == pair.high) refl (low_there n pair may) (and_parts _ _ may).1
  where
    of : (b : Bool) → (pair.low == pair.high) ≡ b → (s : ServerSeen) × (slice_get n.servers pair.low ≡ Some s)
        → (if b then has_room 2 (slice_get n.servers pair.low) else has_room 1 (slice_get n.servers pair.low) && has_room 1 (slice_get n.servers pair.high)) ≡ true
        → (s : ServerSeen) × (slice_get n.servers pair.high ≡ Some s)
    of true same first room = (first.0, ap (slice_get n.servers) (sym (eqb-true pair.low pair.high same)) ∙ first.1)
    of false same first room = there_by (slice_get n.servers pair.high) (has_room 1) refl (and_parts _ _ room).1

join_kept : (number : ℕ) (pair : Option Pair) (n : NetSeen) → may_join n pair ≡ true → Kept n → Kept (with_join number pair n)
join_kept number None n may kept = kept
join_kept number (Some pair) n may kept =
    let low = low_there n pair may in
    let high = high_there n pair may in
    pair_joins number pair n low.0 high.0 low.1 high.1 kept

-- ---- bytes are carried

drop_past : (xs ys : List ℕ) → drop (length xs) (xs ++ ys) ≡ ys
drop_past [] ys = refl
drop_past (x ∷ xs) ys = drop_past xs ys

module _ (k : ℕ) (from to : End) (n : NetSeen) (kept : Kept n) (ends : HasEnd n.servers to from × HasEnd n.servers from to) where
  abbrev piece : List ℕ
  piece = take k (flight n from to)

  abbrev carrying : ServerSeen → ServerSeen
  carrying = with_arrival (event.Bytes (number_of to) piece)

  abbrev carried : NetSeen
  carried = at_server carrying to.server n

  -- a server as it was
  record Was (server : ℕ) (s u : ServerSeen) : Type 0 where
    was : slice_get n.servers server ≡ Some s
    made : u.made ≡ s.made
    history : u.history ≡ s.history
    elsewhere : (place : ℕ) → ((server ≡ to.server) → place ≢ to.place) → brought u (place + 1) ≡ brought s (place + 1)
    unmade : NoneUnmade s → NoneUnmade u
    here : server ≡ to.server → brought u (number_of to) ≡ brought s (number_of to) ++ piece

  was_there : (server : ℕ) (u : ServerSeen) → slice_get carried.servers server ≡ Some u → (s : ServerSeen) × Was server s u
  was_there server u e =
      let was = at_changed carrying to.server server n.servers u e in (
        was.0,
        ⊎_elim
            (λ here. subst (Was server was.0) (sym here.1) (record {
              was = was.1;
              made = refl;
              history = refl;
              elsewhere = λ place other. bytes_elsewhere to.place piece was.0 (place + 1) (λ is. other (sym here.0) (let same : place ≡ to.place = omega (arith, is) in same));
              unmade = bytes_unmade to.place piece was.0 (ForPair from)
                  (ap (λ (x : ServerSeen). slice_get x.made to.place) (some_same was.0 ends.0.0 (sym was.1 ∙ ap (slice_get n.servers) (sym here.0) ∙ ends.0.1)) ∙ ends.0.2);
              here = λ same. brought_more was.0 (event.Bytes (number_of to) piece) (number_of to) ∙ ap (λ b. brought was.0 (number_of to) ++ (if b then piece else [])) (eqb_same (number_of to));
            }))
            (λ other. subst (Was server was.0) (sym other.1) (record {
              was = was.1;
              made = refl;
              history = refl;
              elsewhere = λ place no. refl;
              unmade = λ none. none;
              here = λ same. absurd (other.0 (sym same));
            }))
            was.2,
      )

  abbrev IsThere : ℕ → ℕ → Type 0
  IsThere server place = (server ≡ to.server) × (place ≡ to.place)

  carried_stream : (server place : ℕ) (s u before after : ServerSeen) (end : End) → Was server s u → Was end.server before after → slice_get u.made place ≡ Some (ForPair end)
      → IsThere server place ⊎ ((server ≡ to.server) → place ≢ to.place) → (rest : List ℕ) × (taken_bytes after.history (number_of end) ≡ brought u (place + 1) ++ rest)
  carried_stream server place s u before after end su other made (inr elsewhere) =
      let was = kept.streams server place s before end su.was (ap (λ m. slice_get m place) (sym su.made) ∙ made) other.was in
      (was.0, ap (λ h. taken_bytes h (number_of end)) other.history ∙ was.1 ∙ ap (λ bytes. bytes ++ was.0) (sym (su.elsewhere place elsewhere)))
  carried_stream server place s u before after end su other made (inl here) =
      let was = kept.streams server place s before end su.was (ap (λ m. slice_get m place) (sym su.made) ∙ made) other.was in
      let its : s ≡ ends.0.0 = some_same s ends.0.0 (sym su.was ∙ ap (slice_get n.servers) here.0 ∙ ends.0.1) in
      let mine : slice_get s.made place ≡ Some (ForPair from) = ap (slice_get s.made) here.1 ∙ ap (λ (x : ServerSeen). slice_get x.made to.place) its ∙ ends.0.2 in
      let both : Some (ForPair end) ≡ Some (ForPair from) = sym (ap (λ m. slice_get m place) (sym su.made) ∙ made) ∙ mine in
      let same : end ≡ from = cc in
      let rest : flight n from to ≡ was.0 =
      ap (λ o. drop (length (brought_at o (to.place + 1))) (taken_at (slice_get n.servers from.server) (from.place + 1))) (ap (slice_get n.servers) (sym here.0) ∙ su.was)
      ∙ ap (λ (f : End). drop (length (brought s (to.place + 1))) (taken_at (slice_get n.servers f.server) (f.place + 1))) (sym same)
      ∙ ap (λ o. drop (length (brought s (to.place + 1))) (taken_at o (end.place + 1))) other.was
      ∙ ap (λ p. drop (length (brought s (p + 1))) (taken_bytes before.history (end.place + 1))) (sym here.1)
      ∙ ap (drop (length (brought s (place + 1)))) was.1 ∙ drop_past (brought s (place + 1)) was.0 in
      let now : brought u (place + 1) ≡ brought s (place + 1) ++ take k was.0 =
      ap (λ p. brought u (p + 1)) here.1 ∙ su.here here.0 ∙ ap (λ p. brought s (p + 1) ++ piece) (sym here.1) ∙ ap (λ bytes. brought s (place + 1) ++ take k bytes) rest in (
        drop k was.0,
        ap (λ h. taken_bytes h (number_of end)) other.history ∙ was.1 ∙ ap (λ bytes. brought s (place + 1) ++ bytes) (sym (take-append-drop k was.0))
            ∙ sym (append_assoc (brought s (place + 1)) (take k was.0) (drop k was.0)) ∙ ap (λ bytes. bytes ++ drop k was.0) (sym now),
      )

  there_or_not : (server place : ℕ) → IsThere server place ⊎ ((server ≡ to.server) → place ≢ to.place)
  there_or_not server place = ⊎_elim
      (λ a. ⊎_elim (λ b. inl (a, b)) (λ b. inr (λ x. b)) (same_or_other place to.place))
      (λ a. inr (λ x. absurd (a x)))
      (same_or_other server to.server)

  still_end : (end other : End) → HasEnd n.servers end other → HasEnd carried.servers end other
  still_end end other has = ⊎_elim
      (λ here. (
        carrying has.0,
        subst (λ j. slice_get carried.servers j ≡ Some (carrying has.0)) here (changed_here carrying to.server n.servers has.0 (ap (slice_get n.servers) here ∙ has.1)),
        has.2,
      ))
      (λ apart. (has.0, same_elsewhere carrying to.server end.server n.servers apart ∙ has.1, has.2))
      (same_or_other to.server end.server)

  piece_kept : Kept carried
  piece_kept = record {
    unmade = λ server u e. let was = was_there server u e in was.1.unmade (kept.unmade server was.0 was.1.was);
    streams = λ server place u other end eu made eo.
        let s = was_there server u eu in
        let before = was_there end.server other eo in
        carried_stream server place s.0 u before.0 other end s.1 before.1 made (there_or_not server place);
    ends = λ pair joined e. let was = kept.ends pair joined e in (still_end joined.low joined.high was.0, still_end joined.high joined.low was.1);
  }

pub joined_there : (number : ℕ) (n : NetSeen) (joined : JoinedSeen) → joined_at number n ≡ Some joined → slice_get n.pairs number ≡ Some (Some joined)
joined_there number n joined e = of (slice_get n.pairs number) e
  where
    of : (o : Option (Option JoinedSeen)) → option_and_then (λ joined'. joined') o ≡ Some joined → o ≡ Some (Some joined)
    of None e = absurd (none_some joined e)
    of (Some pair) e = ap Some e

carry_kept : (number : ℕ) (up : Bool) (k : ℕ) (n : NetSeen) (joined : Option JoinedSeen) → joined_at number n ≡ joined → Kept n → Kept (with_carry up k joined n)
carry_kept number up k n None is kept = kept
carry_kept number true k n (Some joined) is kept = let ends = kept.ends number joined (joined_there number n joined is) in piece_kept k joined.low joined.high n kept (ends.1, ends.0)
carry_kept number false k n (Some joined) is kept = let ends = kept.ends number joined (joined_there number n joined is) in piece_kept k joined.high joined.low n kept (ends.0, ends.1)

-- ---- all steps

step_kept : (layout : Layout) (e : NetEvent) (n : NetSeen) → is_there layout n e ≡ true → Kept n → Kept (with_step layout e n)
step_kept layout (net.Open server listener call) n there kept = open_kept server listener call n kept
step_kept layout (net.Say server link line) n there kept = say_kept server link (ended_line line) n there kept
step_kept layout (net.Round server moment) n there kept = round_kept server moment n kept
step_kept layout (net.Join pair) n there kept = join_kept pair (slice_get layout.pairs pair) n there kept
step_kept layout (net.Cut pair) n there kept = cut_kept pair (joined_at pair n) n kept
step_kept layout (net.Carry pair up k) n there kept = carry_kept pair up k n (joined_at pair n) refl kept
step_kept layout (net.Cast from to k) n there kept = cast_kept from to k (peering from to layout.peers) n kept

-- nothing came or was taken before
abbrev OnlyListens : History → Type 0
OnlyListens h = (link : ℕ) → came_to h link ≡ []

listens_alone : (number : ℕ) (specs : List ListenSpec) (h : History) → OnlyListens h → OnlyListens (listens_after number specs h)
listens_alone number [] h alone = alone
listens_alone number (spec ∷ specs) h alone = listens_alone (number + 1) specs (did.Listen number ∷ h) alone

new_unmade : (s : Setting) → NoneUnmade (new_server s)
new_unmade s =
    let alone : (link : ℕ) → came_to (only_listens s) link ≡ [] = listens_alone 0 s.listens [] (λ link. refl) in
    record { first = ap (λ bytes. bytes ++ []) (alone 0); above = λ link high. ap (λ bytes. bytes ++ []) (alone link) }

none_made : (place : ℕ) (m : Made) → slice_get {X = Made} [] place ≡ Some m → ⊥
none_made place m e = none_some m e

new_kept : (layout : Layout) → Kept (new_network layout)
new_kept layout = record {
  unmade = λ server s e. let is = at_mapped new_server layout.servers server s e in subst NoneUnmade is.2 (new_unmade is.0);
  streams = λ server place s other end e made eo.
      let is = at_mapped new_server layout.servers server s e in
      absurd (none_made place (ForPair end) (ap (λ (x : ServerSeen). slice_get x.made place) is.2 ∙ made));
  ends = λ pair joined e. let was = at_mapped unjoined layout.pairs pair (Some joined) e in absurd (none_some joined was.2);
}

pub networks_kept : (layout : Layout) (steps : List NetEvent) → Kept (network_of layout steps)
unfolding network_of
networks_kept layout [] = new_kept layout
networks_kept layout (e ∷ steps) =
    let n = network_of layout steps in
    chosen (is_there layout n e) (with_step layout e n) n (λ there. step_kept layout e n there (networks_kept layout steps)) (networks_kept layout steps)
  where
    chosen : (b : Bool) (after before : NetSeen) → (b ≡ true → Kept after) → Kept before → Kept (if b then after else before)
    chosen true after before kept same = kept refl
    chosen false after before kept same = same

pub pairs_bring_what_was_taken : PairsBringWhatWasTaken
pairs_bring_what_was_taken layout steps = (networks_kept layout steps).streams
