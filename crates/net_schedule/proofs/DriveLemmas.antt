-- What is kept of a server goes on as the model does, while a round of it comes.
use Rattle.std.proofs.Common.{◌≡◌, ℕ, ◌+◌, ◌==◌, Bool, true, false, List, [], ◌∷◌, ◌++◌, length, map, take, min, refl, sym, ap, ◌∙◌, subst, arith, Option, Some, None, ◌⊎◌, inl, inr, ⊎_elim, append_assoc, length-take}
use Rattle.std.specs.Prelude.{slice_get, if◌then◌else◌}
use Rattle.std.proofs.lemmas.List.{map-append}
use Rattle.aprs_base.specs.PacketSeen.{PacketSeen}
use Rattle.aprs_base.specs.declared.events.Event.{Event}
use Rattle.aprs_base.specs.declared.events.Happening.TheVariants as did
use Rattle.aprs_base.specs.declared.events.Sent.TheVariants as sent
use Rattle.link_queue.specs.Lines.{ended_line}
use Rattle.aprs_history.specs.Acts.{Closes, Dials, Offers, cast_act, dials}
use Rattle.aprs_history.specs.Casting.{casts_to_peer}
use Rattle.aprs_history.specs.Dials.{CastSeen}
use Rattle.aprs_history.specs.History.{History, trace_of}
use Rattle.aprs_history.specs.Rounds.{with_events}
use Rattle.aprs_history.specs.Scenes.{accepted_of}
use Rattle.aprs_history.specs.Setting.{Setting}
use Rattle.aprs_history.specs.Texts.{untaken}
use Rattle.aprs_history.specs.Downs.{DownSeen, down_of}
use Rattle.aprs_history.specs.Stands.{link_seen}
use Rattle.aprs_history.specs.Trace.{Trace, served_links}
use Rattle.aprs_history.proofs.DownLemmas.{no_down}
use Rattle.served_links.specs.Links.{down_at, has_that}
use Rattle.server_core.specs.Meaning.{Stands, setting_of}
use Rattle.net_history.specs.Network.{ServerSeen, trace_at}
use Rattle.net_history.specs.Openings.{WasOpened}
use Rattle.net_history.specs.Report.{accepted_at}
use Rattle.net_schedule.specs.Rounds.{LeftSame, acted, all_acted, next_bytes, offer_to, with_casts, with_dialled, with_round_events}
use Rattle.net_schedule.specs.Running.{ServerKept}
use Rattle.net_schedule.specs.Standing.{Keeps, WaitsToOpen}

-- ---- events come

was_later : (listener link : ℕ) (events : List Event) (h : History) → WasOpened listener link h → WasOpened listener link (with_events events h)
was_later listener link [] h was = was
was_later listener link (e ∷ events) h was = was_later listener link events (did.Event e ∷ h) (inr was)

came_open : (listener link : ℕ) (events : List Event) (h : History) → WaitsToOpen listener link events → WasOpened listener link (with_events events h)
came_open listener link [] h waits = absurd waits
came_open listener link (e ∷ events) h (inl here) = was_later listener link events (did.Event e ∷ h) (inl here)
came_open listener link (e ∷ events) h (inr later) = came_open listener link events (did.Event e ∷ h) later

waits_parts : (listener link : ℕ) (xs ys : List Event) → WaitsToOpen listener link (xs ++ ys) → WaitsToOpen listener link xs ⊎ WaitsToOpen listener link ys
waits_parts listener link [] ys waits = inr waits
waits_parts listener link (x ∷ xs) ys (inl here) = inl (inl here)
waits_parts listener link (x ∷ xs) ys (inr later) = ⊎_elim (λ l. inl (inr l)) (λ r. inr r) (waits_parts listener link xs ys later)

casts_same : (events : List Event) (h : History) → casts_to_peer (with_events events h) 0 ≡ casts_to_peer h 0
casts_same [] h = refl
casts_same (e ∷ events) h = casts_same events (did.Event e ∷ h)

-- a whole round has come
pub came : (rest events : List Event) (kept new : ServerKept) (s : ServerSeen) → new ≡ record kept { core = new.core; accepted = new.accepted } → new.core.conf ≡ kept.core.conf
    → Stands new.core (with_events events s.history) → new.accepted ≡ accepted_at (with_round_events events s) → Keeps (events ++ rest) kept s → Keeps rest new (with_round_events events s)
came rest events kept new s is conf stands accepted keeps = record {
  setting = ap setting_of conf ∙ keeps.setting;
  plain = keeps.plain;
  stands = stands;
  listens = ap (λ (k : ServerKept). k.listens) is ∙ keeps.listens;
  arrivals = ap (λ (k : ServerKept). k.arrivals) is ∙ keeps.arrivals;
  made = subst (λ made. Rattle.std.specs.List.AllZip Rattle.net_schedule.specs.Standing.IsMadeFor made s.made) (sym (ap (λ (k : ServerKept). k.made) is)) keeps.made;
  opened = λ place listener at. ⊎_elim
      (λ was. inl (was_later listener (place + 1) events s.history was))
      (λ waits. ⊎_elim (λ here. inl (came_open listener (place + 1) events s.history here)) (λ later. inr later)
      (waits_parts listener (place + 1) events (rest ++ s.arrivals) (subst (WaitsToOpen listener (place + 1)) (append_assoc events rest s.arrivals) waits)))
      (keeps.opened place listener (ap (λ made. slice_get made place) (sym (ap (λ (k : ServerKept). k.made) is)) ∙ at));
  dialled = ap (λ (k : ServerKept). k.dialled) is ∙ keeps.dialled;
  casts = casts_same events s.history ∙ keeps.casts ∙ ap (λ (k : ServerKept). map ended_line k.casts) (sym is);
  accepted = accepted;
}

-- the packets of a round come behind those that were accepted
pub accepted_more : (s : ServerSeen) (events : List Event) (conf_setting : Setting) (before lines : List (List ℕ)) (packets : List PacketSeen) → conf_setting ≡ s.setting → before ≡ accepted_at s
    → accepted_of (trace_of conf_setting (with_events events s.history)) ≡ accepted_of (trace_of conf_setting s.history) ++ packets
    → lines ≡ before ++ map (λ (packet : PacketSeen). packet.line) packets → lines ≡ accepted_at (with_round_events events s)
accepted_more s events conf_setting before lines packets setting was more is =
    is ∙ ap (λ xs. xs ++ map (λ (packet : PacketSeen). packet.line) packets) was
    ∙ sym (map-append (λ (packet : PacketSeen). packet.line) (accepted_of (trace_at s)) packets)
    ∙ ap (map (λ (packet : PacketSeen). packet.line)) (ap (λ c. accepted_of (trace_of c s.history) ++ packets) (sym setting) ∙ sym more ∙ ap (λ c. accepted_of (trace_of c (with_events events s.history))) setting)

-- ---- acts are done

-- a dial
dial_keeps : (rest : List Event) (kept : ServerKept) (uplink : ℕ) (s : ServerSeen) → Keeps rest kept s → Keeps rest (record kept { dialled = kept.dialled ++ uplink ∷ [] }) (acted (Dials uplink) s)
unfolding trace_of
dial_keeps rest kept uplink s keeps = record {
  setting = keeps.setting;
  plain = keeps.plain;
  stands = record { finished = keeps.stands.finished; follows = keeps.stands.follows; greatest = keeps.stands.greatest; stopped = keeps.stands.stopped };
  listens = keeps.listens;
  arrivals = keeps.arrivals;
  made = keeps.made;
  opened = keeps.opened;
  dialled = ap (λ dialled. dialled ++ uplink ∷ []) keeps.dialled;
  casts = keeps.casts;
  accepted = keeps.accepted;
}

pub dialled_keeps : (rest : List Event) (kept : ServerKept) (uplink : Option ℕ) (s : ServerSeen) → Keeps rest kept s → Keeps rest (record kept { dialled = with_dialled uplink kept.dialled }) (all_acted (dials uplink) s)
dialled_keeps rest kept None s keeps = keeps
dialled_keeps rest kept (Some uplink) s keeps = dial_keeps rest kept uplink s keeps

-- a cast
cast_lines : (first : Bool) (casts : List (List ℕ)) (line : List ℕ) (lines : List (List ℕ)) → casts ≡ map ended_line lines
    → (if first then casts ++ ended_line line ∷ [] else casts) ≡ map ended_line (if first then lines ++ line ∷ [] else lines)
cast_lines true casts line lines is = ap (λ xs. xs ++ ended_line line ∷ []) is ∙ sym (map-append ended_line lines (line ∷ []))
cast_lines false casts line lines is = is

cast_keeps : (rest : List Event) (kept : ServerKept) (cast : CastSeen) (s : ServerSeen) → Keeps rest kept s
    → Keeps rest (record kept { casts = if cast.peer == 0 then kept.casts ++ cast.line ∷ [] else kept.casts }) (acted (cast_act cast) s)
unfolding trace_of
cast_keeps rest kept cast s keeps = record {
  setting = keeps.setting;
  plain = keeps.plain;
  stands = record { finished = keeps.stands.finished; follows = keeps.stands.follows; greatest = keeps.stands.greatest; stopped = keeps.stands.stopped };
  listens = keeps.listens;
  arrivals = keeps.arrivals;
  made = keeps.made;
  opened = keeps.opened;
  dialled = keeps.dialled;
  casts = cast_lines (cast.peer == 0) (casts_to_peer s.history 0) cast.line kept.casts keeps.casts;
  accepted = keeps.accepted;
}

pub casts_keep : (rest : List Event) (kept : ServerKept) (casts : List CastSeen) (s : ServerSeen) → Keeps rest kept s → Keeps rest (record kept { casts = with_casts casts kept.casts }) (all_acted (map cast_act casts) s)
casts_keep rest kept [] s keeps = keeps
casts_keep rest kept (cast ∷ casts) s keeps =
    casts_keep rest (record kept { casts = if cast.peer == 0 then kept.casts ++ cast.line ∷ [] else kept.casts }) casts (acted (cast_act cast) s) (cast_keeps rest kept cast s keeps)

-- a close
pub close_keeps : (rest : List Event) (kept : ServerKept) (link : ℕ) (s : ServerSeen) → Keeps rest kept s → Keeps rest kept (acted (Closes link) s)
unfolding trace_of
close_keeps rest kept link s keeps = record {
  setting = keeps.setting;
  plain = keeps.plain;
  stands = record { finished = keeps.stands.finished; follows = keeps.stands.follows; greatest = keeps.stands.greatest; stopped = keeps.stands.stopped };
  listens = keeps.listens;
  arrivals = keeps.arrivals;
  made = keeps.made;
  opened = keeps.opened;
  dialled = keeps.dialled;
  casts = keeps.casts;
  accepted = keeps.accepted;
}

-- no link is a downlink
chosen : (b : Bool) (one other : Option DownSeen) → one ≡ None → other ≡ None → (if b then one else other) ≡ None
chosen true one other is not_other = is
chosen false one other not_one is = is

none_among : (s : Setting) → s.downs ≡ [] → (t : Trace) (link : ℕ) (links : List ℕ) → down_at link (map (link_seen s t) links) ≡ None
unfolding link_seen
none_among s plain t link [] = refl
none_among s plain t link (k ∷ links) =
    chosen (has_that link (link_seen s t k)) (down_of s t k) (down_at link (map (link_seen s t) links)) (no_down s plain t k) (none_among s plain t link links)

pub none_down : (rest : List Event) (kept : ServerKept) (s : ServerSeen) → Keeps rest kept s → (link : ℕ) → down_at link kept.core.seen.links ≡ None
none_down rest kept s keeps link =
    let setting = setting_of kept.core.conf in
    let trace = trace_of setting s.history in
    ap (down_at link) keeps.stands.follows.links ∙ none_among setting (ap (λ (c : Setting). c.downs) keeps.setting ∙ keeps.plain) trace link (served_links trace)

-- an offer that is taken whole
sent_keeps : (rest : List Event) (kept new : ServerKept) (link : ℕ) (bytes : List ℕ) (s : ServerSeen) → new ≡ record kept { core = new.core } → new.core.conf ≡ kept.core.conf
    → Stands new.core (did.Sent link bytes (sent.Took (length bytes)) ∷ s.history) → Keeps rest kept s → Keeps rest new (acted (Offers link bytes) s)
unfolding trace_of
sent_keeps rest kept new link bytes s is conf stands keeps = record {
  setting = ap setting_of conf ∙ keeps.setting;
  plain = keeps.plain;
  stands = stands;
  listens = ap (λ (k : ServerKept). k.listens) is ∙ keeps.listens;
  arrivals = ap (λ (k : ServerKept). k.arrivals) is ∙ keeps.arrivals;
  made = subst (λ made. Rattle.std.specs.List.AllZip Rattle.net_schedule.specs.Standing.IsMadeFor made s.made) (sym (ap (λ (k : ServerKept). k.made) is)) keeps.made;
  opened = λ place listener at. keeps.opened place listener (ap (λ made. slice_get made place) (sym (ap (λ (k : ServerKept). k.made) is)) ∙ at);
  dialled = ap (λ (k : ServerKept). k.dialled) is ∙ keeps.dialled;
  casts = keeps.casts ∙ ap (λ (k : ServerKept). map ended_line k.casts) (sym is);
  accepted = ap (λ (k : ServerKept). k.accepted) is ∙ keeps.accepted;
}

-- the bytes that the core wrote are the next ones, and are as many as it told
pub sent_whole : (rest : List Event) (kept new : ServerKept) (link count : ℕ) (before after pending : List ℕ) (round : Trace) (links : List ℕ) (s : ServerSeen) → new ≡ record kept { core = new.core } → new.core.conf ≡ kept.core.conf
    → length before ≡ 65536 → length after ≡ length before → count ≡ min (min (length before) 65536) (length pending)
    → take count after ≡ take (min (length before) 65536) (untaken (setting_of kept.core.conf) (trace_of (setting_of kept.core.conf) s.history) link)
    → ((bytes : List ℕ) → length bytes ≡ count → Stands new.core (did.Sent link bytes (sent.Took count) ∷ s.history))
    → LeftSame round (link ∷ links) s → Keeps rest kept s
    → (take count after ≡ next_bytes s.setting round link) × Keeps rest new (acted (offer_to s.setting round link) s)
sent_whole rest kept new link count before after pending round links s is conf room same counts next took left keeps =
    let bytes : take count after ≡ next_bytes s.setting round link =
    next ∙ ap (λ n. take (min n 65536) (untaken (setting_of kept.core.conf) (trace_of (setting_of kept.core.conf) s.history) link)) room
    ∙ ap (λ c. take 65536 (untaken c (trace_of c s.history) link)) keeps.setting ∙ ap (take 65536) (left link (Rattle.aprs_history.proofs.NumberLemmas.member_first link links)) in
    let long : length (next_bytes s.setting round link) ≡ count = ap length (sym bytes) ∙ length-take count after ∙ (let all = same in omega (arith, counts, room, all)) in (
      bytes,
      sent_keeps rest kept new link (next_bytes s.setting round link) s is conf
          (subst (λ n. Stands new.core (did.Sent link (next_bytes s.setting round link) (sent.Took n) ∷ s.history)) (sym long) (took (next_bytes s.setting round link) long)) keeps,
    )
