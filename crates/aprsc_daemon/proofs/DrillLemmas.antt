-- A drill's wire gives the events of its plan in order, and takes every offer whole; so what it tells at last is a drill.
use Rattle.std.proofs.Common.{◌≡◌, ℕ, ◌+◌, false, true, List, [], ◌∷◌, ◌++◌, length, drop, refl, sym, ap, ◌∙◌, subst, arith, append-nil, append_assoc, codes, Some, None, Result, Ok, Err}
use Rattle.std.specs.Prelude.{◌==◌, ◌&&◌, reverse}
use Rattle.std.proofs.lemmas.Bool.{and_parts}
use Rattle.std.proofs.lemmas.Bool.Decides.{nat_tests}
use Rattle.std.proofs.lemmas.List.{reverse-append, reverse-reverse}
use Rattle.aprs_base.specs.Outside.{Told, are_numbered, new_link}
use Rattle.aprs_base.specs.WireScript.{WireScript, links_after, after_act, after_listen, after_next, after_send, outcome_of}
use Rattle.aprs_base.specs.declared.events.Event.{Event}
use Rattle.aprs_base.specs.declared.events.Event.TheVariants as event
use Rattle.aprs_base.specs.declared.events.Happening.{Happening}
use Rattle.aprs_base.specs.declared.events.Happening.TheVariants as did
use Rattle.aprs_base.specs.declared.events.Sent.{Sent}
use Rattle.aprs_base.specs.declared.events.Sent.TheVariants as sent
use Rattle.aprs_base.specs.declared.events.WireError.{WireError}
use Rattle.aprs_base.specs.declared.events.WireError.TheVariants as wire_error
use Rattle.aprs_base.specs.declared.packets.PortKind.TheVariants as kind
use Rattle.aprs_base.specs.declared.packets.ListenSpec.{ListenSpec}
use Rattle.aprs_conf.specs.Grammar.{after, conf_of, listen_says}
use Rattle.aprs_conf.specs.Seen.{ConfSeen}
use Rattle.aprs_history.specs.Counts.{taken_in, totals_of}
use Rattle.aprs_history.specs.History.{History, trace_of}
use Rattle.aprs_history.specs.Runs.{AppendsRun, told_after}
use Rattle.aprs_history.specs.Setting.{Setting}
use Rattle.aprs_history.specs.Stands.{StandsFor}
use Rattle.drill_plan.specs.declared.plan.Plan.{Plan}
use Rattle.server_core.specs.Meaning.{CoreMeaning}
use Rattle.aprsc_daemon.specs.Drill.{HasCounts, IsDriven, IsSummary, TakesAll, drill_setting, port}
use Rattle.aprsc_daemon.specs.Phases.{Finished, events_in}
use Rattle.aprsc_daemon.specs.Saying.{summary_text}
use Rattle.aprsc_daemon.specs.declared.drill.Counts.{Counts}
use Rattle.aprsc_daemon.proofs.BringLemmas.{events_join}

-- ---- what is told, newest first

newest_first : (done : List Happening) (x : Happening) → reverse (done ++ x ∷ []) ≡ x ∷ reverse done
newest_first done x = reverse-append done (x ∷ [])

told_in_order : (s : Setting) (told : Told) (more : History) → (told_after s s told more more).done ≡ told.done ++ reverse more
told_in_order s told [] = sym (append-nil told.done)
told_in_order s told (x ∷ more) =
    ap (λ done. done ++ x ∷ []) (told_in_order s told more)
    ∙ append_assoc told.done (reverse more) (x ∷ [])
    ∙ ap (λ xs. told.done ++ xs) (sym (reverse-append (x ∷ []) more))

-- ---- the wire goes on

-- by an act
driven_on : (plan : Plan) (coming : List Event) (wire new : WireScript) (taken more : ℕ) (x : Happening) → new.told.done ≡ wire.told.done ++ x ∷ [] → new.left ≡ wire.left → new.links ≡ wire.links → new.takes ≡ [] → events_in (x ∷ []) ≡ []
    → (TakesAll (reverse wire.told.done) → TakesAll (x ∷ reverse wire.told.done)) → taken_in (x ∷ reverse wire.told.done) ≡ taken_in (reverse wire.told.done) + more → IsDriven plan coming wire taken → IsDriven plan coming new (taken + more)
driven_on plan coming wire new taken more x tells leaves brings takes no_event whole takes_more driven = record {
  events =
      ap (λ done. events_in done ++ coming) tells
      ∙ ap (λ events. events ++ coming) (events_join wire.told.done (x ∷ []) ∙ ap (λ events. events_in wire.told.done ++ events) no_event ∙ append-nil (events_in wire.told.done))
      ∙ driven.events;
  numbered = ap (λ links. are_numbered links coming) brings ∙ driven.numbered;
  none = leaves ∙ driven.none;
  takes = takes;
  whole = subst TakesAll (sym (ap reverse tells ∙ newest_first wire.told.done x)) (whole driven.whole);
  bytes = ap (λ n. n + more) driven.bytes ∙ sym takes_more ∙ ap taken_in (sym (ap reverse tells ∙ newest_first wire.told.done x));
}

no_more : (n : ℕ) → n ≡ n + 0
no_more n = omega arith

pub driven_listen : {T : Type 0} (plan : Plan) (coming : List Event) (wire : WireScript) (taken n : ℕ) (spec : ListenSpec) (result : Result T WireError) → IsDriven plan coming wire taken
    → IsDriven plan coming (after_listen n spec wire result) taken
driven_listen plan coming wire taken n spec (Ok x) driven =
    subst (IsDriven plan coming (after_listen n spec wire (Ok x))) (sym (no_more taken))
    (driven_on plan coming wire (after_listen n spec wire (Ok x)) taken 0 (did.Listen n) refl refl refl driven.takes refl (λ all. all) (no_more (taken_in (reverse wire.told.done))) driven)
driven_listen plan coming wire taken n spec (Err wire_error.Failed) driven = record { events = driven.events; numbered = driven.numbered; none = driven.none; takes = driven.takes; whole = driven.whole; bytes = driven.bytes }
driven_listen plan coming wire taken n spec (Err wire_error.Memory) driven = driven

-- by an act that tells this happening and perhaps more
pub driven_act : {T E : Type 0} (plan : Plan) (coming : List Event) (wire : WireScript) (taken : ℕ) (x : Happening) (change : Told → Told) (result : Result T E) → ((told : Told) → (change told).done ≡ told.done ++ x ∷ [])
    → events_in (x ∷ []) ≡ [] → (TakesAll (reverse wire.told.done) → TakesAll (x ∷ reverse wire.told.done)) → taken_in (x ∷ reverse wire.told.done) ≡ taken_in (reverse wire.told.done) → IsDriven plan coming wire taken → IsDriven plan coming (after_act {E = E} change wire result) taken
driven_act {E = E} plan coming wire taken x change (Ok y) tells no_event whole takes_none driven =
    subst (IsDriven plan coming (after_act {E = E} change wire (Ok y))) (sym (no_more taken))
    (driven_on plan coming wire (after_act {E = E} change wire (Ok y)) taken 0 x (tells wire.told) refl refl driven.takes no_event whole (takes_none ∙ no_more (taken_in (reverse wire.told.done))) driven)
driven_act plan coming wire taken x change (Err e) tells no_event whole takes_none driven = driven

-- by an offer
pub driven_send : (E : Type 0) (plan : Plan) (coming : List Event) (wire : WireScript) (taken link : ℕ) (bytes : List ℕ) (outcome : Sent) → outcome ≡ outcome_of wire.takes bytes → IsDriven plan coming wire taken
    → IsDriven plan coming (after_send {E = E} link bytes wire (Ok outcome)) (taken + length bytes)
driven_send E plan coming wire taken link bytes outcome is driven =
    let whole : outcome ≡ sent.Took (length bytes) = is ∙ ap (λ takes. outcome_of takes bytes) driven.takes in
    driven_on plan coming wire (after_send {E = E} link bytes wire (Ok outcome)) taken (length bytes) (did.Sent link bytes outcome) refl refl refl (ap (drop 1) driven.takes) refl (λ all. (all, whole))
    (ap (λ s. taken_in (did.Sent link bytes s ∷ reverse wire.told.done)) whole) driven

-- what comes after an event is numbered after the link that it brings
numbered_on : (n link : ℕ) (events : List Event) → ((link == n + 1) && are_numbered (n + 1) events) ≡ true → are_numbered link events ≡ true
numbered_on n link events is =
    let parts : ((link == n + 1) ≡ true) × (are_numbered (n + 1) events ≡ true) = and_parts _ _ is in
    let same : link ≡ n + 1 = grind (arith, nat_tests, parts.0) in
    rw same parts.1

numbered_rest : (n : ℕ) (e : Event) (events : List Event) → are_numbered n (e ∷ events) ≡ true → are_numbered (links_after n (new_link e)) events ≡ true
numbered_rest n (event.Opened listener link from) events is = numbered_on n link events is
numbered_rest n (event.Joined uplink link at) events is = numbered_on n link events is
numbered_rest n e events is = is

-- by an event that came, which is the first of those that were to come
pub driven_next : (plan : Plan) (e : Event) (coming : List Event) (wire : WireScript) (taken : ℕ) → IsDriven plan (e ∷ coming) wire taken → IsDriven plan coming (after_next wire (Ok e)) taken
driven_next plan e coming wire taken driven = record {
  events =
      ap (λ events. events ++ coming) (events_join wire.told.done (did.Event e ∷ []))
      ∙ append_assoc (events_in wire.told.done) (e ∷ []) coming
      ∙ driven.events;
  numbered = numbered_rest wire.links e coming driven.numbered;
  none = ap (drop 1) driven.none;
  takes = driven.takes;
  whole = subst TakesAll (sym (newest_first wire.told.done (did.Event e))) driven.whole;
  bytes = driven.bytes ∙ ap taken_in (sym (newest_first wire.told.done (did.Event e)));
}

-- ---- what is told at last

pub counts_of_run : (plan : Plan) (wire : WireScript) (taken : ℕ) (core : CoreMeaning) (counts : Counts) → IsDriven plan [] wire taken
    → AppendsRun drill_setting (Some (record { done = []; listened = []; dialled = []; cast_to = [] })) (Some wire.told) (λ more. Finished drill_setting more × StandsFor drill_setting core.seen more)
    → ((h : History) → StandsFor drill_setting core.seen h → counts.totals ≡ totals_of drill_setting (trace_of drill_setting h)) → counts.taken ≡ taken → HasCounts plan counts
counts_of_run plan wire taken core counts driven run totals taken_is =
    let more = run.0 in
    let tells : wire.told ≡ told_after drill_setting drill_setting (record { done = []; listened = []; dialled = []; cast_to = [] }) more more = some_inside wire.told _ run.1 in
    let done : wire.told.done ≡ reverse more = ap (λ told. told.done) tells ∙ told_in_order drill_setting (record { done = []; listened = []; dialled = []; cast_to = [] }) more in
    let back : reverse wire.told.done ≡ more = ap reverse done ∙ reverse-reverse more in
    record {
      history = more;
      drill = record {
        run = run.2;
        events =
            ap events_in (sym done)
            ∙ sym (append-nil (events_in wire.told.done))
            ∙ driven.events;
        whole = subst TakesAll back driven.whole;
        finished = (let at = run.3 in at.0);
      };
      totals = totals more (let at = run.3 in at.1);
      taken = taken_is ∙ driven.bytes ∙ ap taken_in back;
    }
  where
    some_inside : {X : Type 0} (x y : X) → Some x ≡ Some y → x ≡ y
    some_inside x y is = cc

pub summary_of : (plan : Plan) (counts : Counts) → HasCounts plan counts → IsSummary plan (summary_text plan counts.totals counts.taken)
summary_of plan counts has = record {
  history = has.history;
  drill = has.drill;
  line =
      ap (λ totals. summary_text plan totals counts.taken) has.totals
      ∙ ap (summary_text plan (totals_of drill_setting (trace_of drill_setting has.history))) has.taken;
}

-- ---- the configuration

abbrev pub drill_conf : ConfSeen
drill_conf = record {
  server = codes "DRILL";
  code = 13052;
  admin = [];
  email = [];
  listens = record { name = codes "full"; spec = port kind.Full 1; idle = false } ∷ record { name = codes "igate"; spec = port kind.Igate 2; idle = false } ∷ [];
  upload = None;
  page = None;
  uplinks = [];
  group = None;
  peers = [];
  up_timeout = 15;
  client_timeout = 172800;
  max_clients = 1000;
  dupe_window = 30;
}

pub drill_conf_reads : conf_of (codes "ServerId DRILL\nPassCode 13052\nMaxClients 1000\nListen \"full\" fullfeed tcp 0.0.0.0 1\nListen \"igate\" igate tcp 0.0.0.0 2\n") ≡ Ok drill_conf
unfolding conf_of after listen_says
drill_conf_reads = refl
