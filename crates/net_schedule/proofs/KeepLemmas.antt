-- What is kept of a server goes on as the model does, while no round of it comes.
use Rattle.std.proofs.Common.{◌≡◌, ℕ, zero, suc, ◌+◌, Bool, true, false, List, [], ◌∷◌, ◌++◌, length, map, refl, sym, ap, ◌∙◌, subst, Option, Some, None, inl, inr, ⊎_elim, append_assoc}
use Rattle.std.specs.Prelude.{slice_get, not, if◌then◌else◌}
use Rattle.std.specs.List.{AllZip, list_all}
use Rattle.std.proofs.lemmas.Bool.{and_parts}
use Rattle.aprs_base.specs.declared.events.Event.{Event}
use Rattle.aprs_base.specs.declared.events.Event.TheVariants as event
use Rattle.aprs_base.specs.declared.texts.Addr.{Addr}
use Rattle.link_queue.specs.Lines.{ended_line}
use Rattle.aprs_base.specs.PacketSeen.{PacketSeen}
use Rattle.aprs_base.specs.declared.events.Happening.TheVariants as did
use Rattle.aprs_base.specs.declared.packets.ListenSpec.{ListenSpec}
use Rattle.aprs_conf.specs.Seen.{ConfSeen}
use Rattle.aprs_conf.specs.declared.types.Listen.{Listen}
use Rattle.aprs_history.specs.Casting.{casts_to_peer}
use Rattle.aprs_history.specs.History.{History, trace_of}
use Rattle.aprs_history.specs.Rounds.{listens_after, only_listens}
use Rattle.aprs_history.specs.Scenes.{accepted_of}
use Rattle.aprs_history.specs.Setting.{Setting}
use Rattle.server_core.specs.Meaning.{CoreMeaning, Stands, idle_specs, kind_in, listeners, setting_of}
use Rattle.net_history.specs.Network.{End, ForClient, ForPair, Made, ServerSeen, changed_at, new_server, with_arrival}
use Rattle.net_history.specs.Openings.{IsOpening}
use Rattle.net_history.specs.Steps.{but_first_of, login_line, next_link, with_client, with_downlink, with_link, with_uplink}
use Rattle.net_history.proofs.BetweenLemmas.{none_some}
use Rattle.net_history.proofs.PlaceLemmas.{some_same}
use Rattle.net_history.proofs.TieLemmas.{at_last}
use Rattle.net_schedule.specs.declared.servers.MadeFor.{MadeFor}
use Rattle.net_schedule.specs.declared.servers.MadeFor.TheVariants as made_for
use Rattle.net_schedule.specs.Asked.{AreBusy}
use Rattle.net_schedule.specs.Kept.{kept_arrival, kept_client, kept_downlink, kept_link, kept_uplink, next_number}
use Rattle.net_schedule.specs.Running.{ServerKept}
use Rattle.net_schedule.specs.Standing.{IsMadeFor, Keeps, WaitsToOpen}

-- ---- two lists, element by element

pub zip_changed : {X Y : Type 0} (R : X → Y → Type 0) (f : X → X) (g : Y → Y) (i : ℕ) (xs : List X) (ys : List Y) → ((x : X) (y : Y) → slice_get ys i ≡ Some y → R x y → R (f x) (g y)) → AllZip R xs ys
    → AllZip R (changed_at f i xs) (changed_at g i ys)
zip_changed R f g i [] [] keeps all = all
zip_changed R f g i [] (y ∷ ys) keeps all = absurd all
zip_changed R f g i (x ∷ xs) [] keeps all = absurd all
zip_changed R f g zero (x ∷ xs) (y ∷ ys) keeps all = (keeps x y refl all.0, all.1)
zip_changed R f g (suc i) (x ∷ xs) (y ∷ ys) keeps all = (all.0, zip_changed R f g i xs ys keeps all.1)

-- where the one has an element, the other has one
pub zip_at : {X Y : Type 0} (R : X → Y → Type 0) (i : ℕ) (xs : List X) (ys : List Y) (y : Y) → AllZip R xs ys → slice_get ys i ≡ Some y → (x : X) × (slice_get xs i ≡ Some x) × R x y
zip_at R i [] [] y all is = absurd (none_some y is)
zip_at R i [] (z ∷ ys) y all is = absurd all
zip_at R i (x ∷ xs) [] y all is = absurd all
zip_at R zero (x ∷ xs) (z ∷ ys) y all is = (x, refl, subst (R x) (some_same z y is) all.0)
zip_at R (suc i) (x ∷ xs) (z ∷ ys) y all is = zip_at R i xs ys y all.1 is

pub zip_there : {X Y : Type 0} (R : X → Y → Type 0) (i : ℕ) (xs : List X) (ys : List Y) (x : X) → AllZip R xs ys → slice_get xs i ≡ Some x → (y : Y) × (slice_get ys i ≡ Some y) × R x y
zip_there R i [] [] x all is = absurd (none_some x is)
zip_there R i [] (y ∷ ys) x all is = absurd all
zip_there R i (z ∷ xs) [] x all is = absurd all
zip_there R zero (z ∷ xs) (y ∷ ys) x all is = (y, refl, subst (λ w. R w y) (some_same z x is) all.0)
zip_there R (suc i) (z ∷ xs) (y ∷ ys) x all is = zip_there R i xs ys x all.1 is

-- and where it has none, neither has the other
pub zip_nowhere : {X Y : Type 0} (R : X → Y → Type 0) (i : ℕ) (xs : List X) (ys : List Y) → AllZip R xs ys → slice_get ys i ≡ None → slice_get xs i ≡ None
zip_nowhere R i [] ys all is = refl
zip_nowhere R i (x ∷ xs) [] all is = absurd all
zip_nowhere R zero (x ∷ xs) (y ∷ ys) all is = absurd (none_some y (sym is))
zip_nowhere R (suc i) (x ∷ xs) (y ∷ ys) all is = zip_nowhere R i xs ys all.1 is

pub zip_length : {X Y : Type 0} (R : X → Y → Type 0) (xs : List X) (ys : List Y) → AllZip R xs ys → length xs ≡ length ys
zip_length R [] [] all = refl
zip_length R [] (y ∷ ys) all = absurd all
zip_length R (x ∷ xs) [] all = absurd all
zip_length R (x ∷ xs) (y ∷ ys) all = ap suc (zip_length R xs ys all.1)

pub zip_push : {X Y : Type 0} (R : X → Y → Type 0) (xs : List X) (ys : List Y) (x : X) (y : Y) → AllZip R xs ys → R x y → AllZip R (xs ++ x ∷ []) (ys ++ y ∷ [])
zip_push R [] [] x y all is = (is, tt)
zip_push R [] (z ∷ ys) x y all is = absurd all
zip_push R (z ∷ xs) [] x y all is = absurd all
zip_push R (w ∷ xs) (z ∷ ys) x y all is = (all.0, zip_push R xs ys x y all.1 is)

-- ---- one server

waits_more : (listener link : ℕ) (events : List Event) (e : Event) → WaitsToOpen listener link events → WaitsToOpen listener link (events ++ e ∷ [])
waits_more listener link [] e waits = absurd waits
waits_more listener link (x ∷ events) e (inl here) = inl here
waits_more listener link (x ∷ events) e (inr later) = inr (waits_more listener link events e later)

waits_last : (listener link : ℕ) (events : List Event) (e : Event) → IsOpening listener link e → WaitsToOpen listener link (events ++ e ∷ [])
waits_last listener link [] e is = inl is
waits_last listener link (x ∷ events) e is = inr (waits_last listener link events e is)

-- an event waits
pub arrives_behind : (rest : List Event) (kept : ServerKept) (e : Event) (s : ServerSeen) → Keeps rest kept s → Keeps rest (kept_arrival e kept) (with_arrival e s)
arrives_behind rest kept e s keeps = record {
  setting = keeps.setting;
  plain = keeps.plain;
  stands = keeps.stands;
  listens = keeps.listens;
  arrivals = ap (λ events. events ++ e ∷ []) keeps.arrivals;
  made = keeps.made;
  opened = λ place listener is. ⊎_elim (λ was. inl was) (λ waits. inr (subst (WaitsToOpen listener (place + 1)) (append_assoc rest s.arrivals (e ∷ [])) (waits_more listener (place + 1) (rest ++ s.arrivals) e waits)))
      (keeps.opened place listener is);
  dialled = keeps.dialled;
  casts = keeps.casts;
  accepted = keeps.accepted;
}

pub arrives : (kept : ServerKept) (e : Event) (s : ServerSeen) → Keeps [] kept s → Keeps [] (kept_arrival e kept) (with_arrival e s)
arrives = arrives_behind []

-- as many links are kept as were made
pub same_links : (kept : ServerKept) (s : ServerSeen) → Keeps [] kept s → length kept.made ≡ length s.made
same_links kept s keeps = zip_length IsMadeFor kept.made s.made keeps.made

client_same : (m : MadeFor) (listener : ℕ) → ◌≡◌ {A = Option MadeFor} (Some m) (Some (made_for.Client listener)) → m ≡ made_for.Client listener
client_same m listener is = some_same m (made_for.Client listener) is

-- a link is made, as an event brings it
pub linked : (kept : ServerKept) (m : MadeFor) (made : Made) (e : Event) (s : ServerSeen) → IsMadeFor m made → ((listener : ℕ) → m ≡ made_for.Client listener → IsOpening listener (next_link s) e) → Keeps [] kept s
    → Keeps [] (kept_link m e kept) (with_link made (with_arrival e s))
linked kept m made e s is opens keeps = record {
  setting = keeps.setting;
  plain = keeps.plain;
  stands = keeps.stands;
  listens = keeps.listens;
  arrivals = ap (λ events. events ++ e ∷ []) keeps.arrivals;
  made = zip_push IsMadeFor kept.made s.made m made keeps.made is;
  opened = λ place listener at. ⊎_elim
      (λ old. ⊎_elim (λ was. inl was) (λ waits. inr (waits_more listener (place + 1) s.arrivals e waits)) (keeps.opened place listener old))
      (λ new. inr (waits_last listener (place + 1) s.arrivals e (subst (λ link. IsOpening listener link e) (ap (λ p. p + 1) (sym (new.0 ∙ same_links kept s keeps))) (opens listener new.1))))
      (at_last kept.made m place (made_for.Client listener) at);
  dialled = keeps.dialled;
  casts = keeps.casts;
  accepted = keeps.accepted;
}

pub next_same : (kept : ServerKept) (s : ServerSeen) → Keeps [] kept s → next_link s ≡ next_number kept
next_same kept s keeps = ap (λ n. n + 1) (sym (same_links kept s keeps))

pub client_kept : (kept : ServerKept) (listener : ℕ) (from : Addr) (call : List ℕ) (s : ServerSeen) → Keeps [] kept s → Keeps [] (kept_client listener from call kept) (with_client listener from call s)
client_kept kept listener from call s keeps =
    subst
    (λ n. Keeps [] (kept_arrival (event.Bytes n (ended_line (login_line call))) (kept_link (made_for.Client listener) (event.Opened listener n from) kept)) (with_client listener from call s))
    (next_same kept s keeps)
    (let opening = event.Opened listener (next_link s) from in
    arrives (kept_link (made_for.Client listener) opening kept) (event.Bytes (next_link s) (ended_line (login_line call))) (with_link ForClient (with_arrival opening s))
    (linked kept (made_for.Client listener) ForClient opening s tt (λ at is. (cc, refl)) keeps))

no_client : (listener : ℕ) → made_for.Pair ≡ made_for.Client listener → ⊥
no_client listener is = cc

pub uplink_kept : (kept : ServerKept) (uplink : ℕ) (at : Addr) (other : End) (s : ServerSeen) → Keeps [] kept s → Keeps [] (kept_uplink uplink at kept) (with_uplink uplink at other s)
uplink_kept kept uplink at other s keeps =
    subst (λ n. Keeps [] (record (kept_link made_for.Pair (event.Joined uplink n at) kept) { dialled = but_first_of uplink kept.dialled }) (with_uplink uplink at other s)) (next_same kept s keeps)
    (let joining = event.Joined uplink (next_link s) at in
    let now = linked kept made_for.Pair (ForPair other) joining s tt (λ listener is. absurd (no_client listener is)) keeps in
    record {
      setting = now.setting;
      plain = now.plain;
      stands = now.stands;
      listens = now.listens;
      arrivals = now.arrivals;
      made = now.made;
      opened = now.opened;
      dialled = ap (but_first_of uplink) keeps.dialled;
      casts = now.casts;
      accepted = now.accepted;
    })

pub downlink_kept : (kept : ServerKept) (listener : ℕ) (from : Addr) (other : End) (s : ServerSeen) → Keeps [] kept s → Keeps [] (kept_downlink listener from kept) (with_downlink listener from other s)
downlink_kept kept listener from other s keeps =
    subst (λ n. Keeps [] (kept_link made_for.Pair (event.Opened listener n from) kept) (with_downlink listener from other s)) (next_same kept s keeps)
    (linked kept made_for.Pair (ForPair other) (event.Opened listener (next_link s) from) s tt (λ at is. absurd (no_client at is)) keeps)

-- ---- a new server

-- no listener is idle, so lines are cast from none
pub none_idle : (listens : List Listen) → AreBusy listens → idle_specs listens ≡ []
none_idle [] busy = refl
none_idle (listen ∷ listens) busy =
    let parts = and_parts (not listen.idle) (list_all (λ (listen : Listen). not listen.idle) listens) busy in
    ap (λ b. if b then listen.spec ∷ idle_specs listens else idle_specs listens) (by listen.idle parts.0) ∙ none_idle listens parts.1
  where
    by : (b : Bool) → not b ≡ true → b ≡ false
    by true wrong = cc
    by false is = refl

pub none_cast_from : (conf : ConfSeen) → AreBusy conf.listens → (setting_of conf).downs ≡ []
none_cast_from conf busy = ap (map kind_in) (none_idle conf.listens busy)

none_cast : (n : ℕ) (specs : List ListenSpec) (h : History) → casts_to_peer h 0 ≡ [] → casts_to_peer (listens_after n specs h) 0 ≡ []
none_cast n [] h none = none
none_cast n (spec ∷ specs) h none = none_cast (n + 1) specs (did.Listen n ∷ h) none

none_traced : (s : Setting) (n : ℕ) (specs : List ListenSpec) (h : History) → trace_of s h ≡ [] → trace_of s (listens_after n specs h) ≡ []
unfolding trace_of
none_traced s n [] h none = none
none_traced s n (spec ∷ specs) h none = none_traced s (n + 1) specs (did.Listen n ∷ h) none

pub new_keeps : (core : CoreMeaning) (conf : ConfSeen) (listens : List ListenSpec) (arrivals : List Event) (made : List MadeFor) (dialled : List ℕ) (casts accepted : List (List ℕ)) → core.conf ≡ conf → (setting_of conf).downs ≡ [] → Stands core (only_listens (setting_of conf))
    → listens ≡ listeners conf → arrivals ≡ [] → made ≡ [] → dialled ≡ [] → casts ≡ [] → accepted ≡ []
    → Keeps [] (record { core = core; listens = listens; arrivals = arrivals; made = made; dialled = dialled; casts = casts; accepted = accepted }) (new_server (setting_of conf))
unfolding trace_of
new_keeps core conf listens arrivals made dialled casts accepted same plain stands are none_waits none_made none_dialled none_cast' none_accepted = record {
  setting = ap setting_of same;
  plain = plain;
  stands = stands;
  listens = are;
  arrivals = none_waits;
  made = subst (λ xs. AllZip IsMadeFor xs []) (sym none_made) tt;
  opened = λ place listener at. absurd (none_some (made_for.Client listener) (ap (λ xs. slice_get xs place) (sym none_made) ∙ at));
  dialled = none_dialled;
  casts = none_cast 0 (listeners conf) [] refl ∙ ap (map ended_line) (sym none_cast');
  accepted = none_accepted ∙ ap (λ t. map (λ (packet : PacketSeen). packet.line) (accepted_of t)) (sym (none_traced (setting_of conf) 0 (listeners conf) [] refl));
}
