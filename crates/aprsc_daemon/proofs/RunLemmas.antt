-- A run goes on by one happening.
use Rattle.std.proofs.Common.{◌≡◌, ℕ, ◌+◌, ◌<◌, Bool, List, [], ◌∷◌, length, drop, refl, sym, ap, ◌∙◌, subst, Option, Some, get_or, add-one, drop-cons}
use Rattle.std.specs.Option.{option_map}
use Rattle.std.specs.Prelude.{slice_get}
use Rattle.std.proofs.lemmas.Option.{slice_get-get_or}
use Rattle.aprs_base.specs.Outside.{Told, with_listen}
use Rattle.aprs_base.specs.declared.events.Happening.TheVariants as did
use Rattle.aprs_base.specs.declared.packets.ListenSpec.{ListenSpec}
use Rattle.server_core.proofs.OfferLemmas.{same_at}
use Rattle.aprs_history.specs.Setting.{Setting}
use Rattle.aprs_history.specs.History.{History, is_stopped}
use Rattle.aprs_history.specs.Rounds.{listens_after}
use Rattle.aprs_history.specs.Acts.{Act, Listens, MayCome, due, but_first, listens_from}
use Rattle.aprs_conf.specs.Seen.{ConfSeen}
use Rattle.aprsc_daemon.specs.Fronts.{AreNew, state_of}
use Rattle.aprsc_daemon.specs.Runs.{RunsFor, ports_named, setting_named}
use Rattle.aprsc_daemon.specs.declared.fronts.Fronts.{Fronts}
use Rattle.http_submit.specs.Fronts.{fresh_front, listened_as}
use Rattle.status_page.specs.PageFronts.{fresh_page}
use Rattle.front_history.specs.Answers.{front_state}
use Rattle.front_history.specs.Serving.{EndsOn, Opens, Ports, Serves, ServesAt, ports_of}
use Rattle.front_history.proofs.FrontLemmas.{tells_listen}
use Rattle.front_history.proofs.ServesLemmas.{server_acts_at, serves_begins, serves_same, serves_so}
use Rattle.aprsc_daemon.specs.Phases.{Listening}
use Rattle.aprsc_daemon.specs.declared.serving.ListenError.TheVariants as listen_error

-- nothing happened yet
pub runs_begin : (conf : ConfSeen) (now : Option Told) (P : History → Type 0) → P [] → RunsFor conf now now P
runs_begin conf now P p =
    let s = setting_named conf in
    let ports = ports_named conf in
    (front_state (fresh_page ports.page s.server) (fresh_front ports.upload), refl, serves_begins s now ports.page ports.upload P p)

pub runs_so : (conf : ConfSeen) (start now : Option Told) (P Q : History → Type 0) → ((seen : History) → P seen → Q seen) → RunsFor conf start now P → RunsFor conf start now Q
runs_so conf start now P Q so run = (run.0, run.1, serves_so (setting_named conf) now P Q so run.0 start run.2)

-- ---- fronts as they were made

fresh_ports : (ports : Ports) (server : List ℕ) (fronts : Fronts) → AreNew ports server fronts → ports_of (state_of fronts) ≡ ports
fresh_ports ports server fronts fresh =
    ap (λ page. record { page = page; upload = fronts.http.at }) (ap (λ p. p.at) fresh.0)
    ∙ ap (λ upload. record { page = ports.page; upload = upload }) (ap (λ h. h.at) fresh.1)

opens_fresh : (s : Setting) (ports : Ports) (fronts : Fronts) (start now : Option Told) (P : History → Type 0) → AreNew ports s.server fronts → Opens s fronts.page fronts.http start now P → Serves s start now (state_of fronts) P
opens_fresh s ports fronts start now P fresh opens =
    opens (fresh.0 ∙ ap (λ at. fresh_page at s.server) (sym (ap (λ p. p.at) fresh.0))) (fresh.1 ∙ ap fresh_front (sym (ap (λ h. h.at) fresh.1)))

-- what was opened behind them
pub opened_at : (s : Setting) (ports : Ports) (fronts : Fronts) (start now : Option Told) (P : History → Type 0) → AreNew ports s.server fronts → Opens s fronts.page fronts.http start now P → ServesAt s ports start now P
opened_at s ports fronts start now P fresh opens = (state_of fronts, fresh_ports ports s.server fronts fresh, opens_fresh s ports fronts start now P fresh opens)

-- and what was served then
pub served_at : (s : Setting) (ports : Ports) (fronts : Fronts) (start mid now : Option Told) (P Q : History → Type 0) → AreNew ports s.server fronts → Opens s fronts.page fronts.http start mid P
    → EndsOn s mid (state_of fronts) now P Q → ServesAt s ports start now Q
served_at s ports fronts start mid now P Q fresh opens ends =
    let last = ends start (opens_fresh s ports fronts start mid P fresh opens) in
    (last.0, last.1 ∙ fresh_ports ports s.server fronts fresh, last.2)

-- ---- listeners

listen_comes : (acts : List Act) (n : ℕ) (rest : List Act) (stopped : Bool) → acts ≡ Listens n ∷ rest → MayCome acts stopped (did.Listen n)
listen_comes acts n rest stopped is = subst (λ xs. MayCome xs stopped (did.Listen n)) (sym is) refl

-- what the wire was asked for
abbrev pub asked_by : Fronts → ℕ → ListenSpec → ListenSpec
asked_by fronts n spec = listened_as fronts.http.at n (listened_as fronts.page.at n spec)

pub run_listens : (s : Setting) (fronts : Fronts) (start now next : Option Told) (n : ℕ) (spec : ListenSpec) → drop n s.listens ≡ spec ∷ drop (n + 1) s.listens → slice_get s.listens n ≡ Some spec
    → next ≡ option_map (with_listen n (asked_by fronts n spec)) now → Opens s fronts.page fronts.http start now (Listening s n) → Opens s fronts.page fronts.http start next (Listening s (n + 1))
unfolding due
run_listens s fronts start now next n spec left at is opens page_fresh fresh =
    server_acts_at s now next (did.Listen n) (with_listen n (asked_by fronts n spec)) (state_of fronts) (Listening s n) (Listening s (n + 1)) tt tt (tells_listen s (state_of fronts) n spec at) is (λ more phase.
    let owed : due s more ≡ Listens n ∷ listens_from (n + 1) (drop (n + 1) s.listens) = phase.due ∙ ap (listens_from n) left in (
      listen_comes (due s more) n (listens_from (n + 1) (drop (n + 1) s.listens)) (is_stopped more) owed,
      record {
        due = ap but_first owed;
        rest = ap (λ specs. listens_after n specs more) (sym left) ∙ phase.rest;
        count = ap (λ m. m + 1) phase.count;
        only = phase.only;
        fresh = phase.fresh;
      },
    )) start (opens page_fresh fresh)

pub listens_begin : (s : Setting) → Listening s 0 []
unfolding due
listens_begin s = record { due = refl; rest = refl; count = refl; only = refl; fresh = tt }

-- nothing was opened yet
pub opens_none : (s : Setting) (fronts : Fronts) (now : Option Told) → Opens s fronts.page fronts.http now now (Listening s 0)
opens_none s fronts now page_fresh fresh =
    subst (λ page. Serves s now now (front_state page fronts.http) (Listening s 0)) (sym page_fresh)
    (subst (λ http. Serves s now now (front_state (fresh_page fronts.page.at s.server) http) (Listening s 0)) (sym fresh)
    (serves_begins s now fronts.page.at fronts.http.at (Listening s 0) (listens_begin s)))

pub opens_so : (s : Setting) (fronts : Fronts) (start now next : Option Told) (P Q : History → Type 0) → next ≡ now → ((more : History) → P more → Q more) → Opens s fronts.page fronts.http start now P → Opens s fronts.page fronts.http start next Q
opens_so s fronts start now next P Q same so opens page_fresh fresh =
    serves_same s now next Q same (state_of fronts) start (serves_so s now P Q so (state_of fronts) start (opens page_fresh fresh))

pub listened : (s : Setting) (fronts asked : Fronts) (start now next : Option Told) (n : ℕ) (spec : ListenSpec) (listens : List ListenSpec) → asked ≡ fronts → s.listens ≡ listens → n < length listens → spec ≡ get_or listens n spec
    → next ≡ option_map (with_listen n (asked_by asked n spec)) now → Opens s fronts.page fronts.http start now (Listening s n) → Opens s fronts.page fronts.http start next (Listening s (n + 1))
listened s fronts asked start now next n spec listens same is lt at comes opens =
    let left : drop n s.listens ≡ spec ∷ drop (n + 1) s.listens = rw (is, drop-cons listens n spec lt, ← at, add-one n) refl in
    let found : slice_get s.listens n ≡ Some spec = ap (λ xs. slice_get xs n) is ∙ slice_get-get_or listens n spec lt ∙ ap Some (sym at) in
    run_listens s fronts start now next n spec left found (subst (λ f. next ≡ option_map (with_listen n (asked_by f n spec)) now) same comes) opens

-- an element at a place within a list, whatever stands past its end
pub listed_at : (listens : List ListenSpec) (n index : ℕ) (d : ListenSpec) → n ≡ index → n < length listens → get_or listens index d ≡ get_or listens n (get_or listens index d)
listed_at listens n index d is lt = ap (λ m. get_or listens m d) (sym is) ∙ same_at listens n d (get_or listens index d) lt

-- the listener that failed is the one that was told
pub same_listener : (n m : ℕ) → listen_error.Failed n ≡ listen_error.Failed m → n ≡ m
same_listener n m is = cc
