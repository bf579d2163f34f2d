-- A run goes on by a dial or a cast.
use Rattle.std.proofs.Common.{◌≡◌, ℕ, zero, suc, ◌<◌, ◌≤◌, get_or, Bool, List, [], ◌∷◌, ◌++◌, length, map, refl, sym, ap, ◌∙◌, subst, arith, Option, Some, None, append-nil, Result, Ok, Err, OnErr, OnOk}
use Rattle.std.specs.Option.{option_map}
use Rattle.std.specs.Prelude.{slice_get}
use Rattle.std.proofs.lemmas.List.{length-map}
use Rattle.std.proofs.lemmas.Option.{none-some, slice_get-map, slice_get_past, slice_get_read}
use Rattle.aprs_base.specs.Outside.{Told, with_cast, with_dial}
use Rattle.aprs_base.specs.UplinkSeen.{UplinkSeen}
use Rattle.aprs_base.specs.declared.texts.Addr.{Addr}
use Rattle.aprs_base.specs.declared.events.Happening.TheVariants as did
use Rattle.aprs_conf.specs.Seen.{ConfSeen}
use Rattle.aprs_conf.specs.declared.types.PeerSpec.{PeerSpec}
use Rattle.link_queue.specs.Lines.{ended_line}
use Rattle.aprs_base.specs.Journals.{JournalLineSeen}
use Rattle.aprs_history.specs.Setting.{Setting}
use Rattle.aprs_history.specs.History.{History, is_stopped, trace_of}
use Rattle.aprs_history.specs.Acts.{Act, Casts, Closes, Dials, MayCome, all_offers, but_first, cast_act, due}
use Rattle.aprs_history.specs.Dials.{CastSeen}
use Rattle.aprs_history.specs.Runs.{address_of}
use Rattle.status_page.specs.PageFronts.{PageSeen, counting}
use Rattle.front_history.specs.Answers.{front_state, wired_for}
use Rattle.front_history.specs.Serving.{ActsOn, SendsOn, Serves}
use Rattle.front_history.proofs.ServesLemmas.{Tells, cast_on, server_acts}
use Rattle.aprs_history.proofs.ReachLemmas.{dials_are_of_uplinks, peers_get_submissions}
use Rattle.server_core.specs.Meaning.{CoreMeaning, Stands, peer_of, setting_of}
use Rattle.aprsc_daemon.specs.Phases.{Acting, Owing}

-- what follows in each good answer
pub ok_then : {T E P Q : Type 0} (result : Result T E) → OnOk result P → (P → Q) → OnOk result Q
ok_then (Ok x) p then = then p
ok_then (Err e) p then = tt

pub ok_both : {T E P Q R : Type 0} (result : Result T E) → OnOk result P → OnOk result Q → (P → Q → R) → OnOk result R
ok_both (Ok x) p q both = both p q
ok_both (Err e) p q both = tt

-- and in each error
pub err_then : {T E P Q : Type 0} (result : Result T E) → OnErr result P → (P → Q) → OnErr result Q
err_then (Ok x) p then = tt
err_then (Err e) p then = then p

pub err_both : {T E P Q R : Type 0} (result : Result T E) → OnErr result P → OnErr result Q → (P → Q → R) → OnErr result R
err_both (Ok x) p q both = tt
err_both (Err e) p q both = both p q

-- what a search by number gave
pub found_at : {X : Type 0} (xs : List X) (i n : ℕ) (x : X) → i ≡ n → i < length xs → x ≡ get_or xs i x → slice_get xs n ≡ Some x
found_at xs i n x is lt at = subst (λ m. slice_get xs m ≡ Some x) is (slice_get_read xs (length xs) i x refl lt at)

pub missed_at : {X : Type 0} (xs : List X) (i n : ℕ) → i ≡ n → length xs ≤ i → slice_get xs n ≡ None
missed_at xs i n is le = subst (λ m. slice_get xs m ≡ None) is (slice_get_past xs i le)

none_within : {X : Type 0} (xs : List X) (n : ℕ) → slice_get xs n ≡ None → n < length xs → ⊥
none_within [] n none lt = omega arith
none_within (x ∷ xs) zero none lt = none-some x (sym none)
none_within (x ∷ xs) (suc n) none lt = none_within xs n none (omega arith)

-- ---- the dial

tells_dial : (s : Setting) (n : ℕ) (spec : UplinkSeen) → slice_get s.uplinks n ≡ Some spec → Tells s (did.Dialled n) (with_dial n spec)
tells_dial s n spec at told = rw (at, append-nil told.listened, append-nil told.cast_to) refl

dial_comes : (acts : List Act) (stopped : Bool) (uplink : ℕ) (rest : List Act) → acts ≡ Dials uplink ∷ rest → MayCome acts stopped (did.Dialled uplink)
dial_comes acts stopped uplink rest is = subst (λ xs. MayCome xs stopped (did.Dialled uplink)) (sym is) refl

stands_dialled : (core : CoreMeaning) (uplink : ℕ) (h : History) → Stands core h → Stands core (did.Dialled uplink ∷ h)
unfolding trace_of
stands_dialled core uplink h stands = record { finished = stands.finished; follows = stands.follows; greatest = stands.greatest; stopped = stands.stopped }

owing_dialled : (conf : ConfSeen) (uplink : ℕ) (casts : List CastSeen) (offers closes : List ℕ) (more : History) → Owing conf (Some uplink) casts offers closes more → Owing conf None casts offers closes (did.Dialled uplink ∷ more)
unfolding due trace_of
owing_dialled conf uplink casts offers closes more owing = record { round = owing.round; owed = ap but_first owing.owed; same = record { left = owing.same.left; down = owing.same.down }; all = owing.all; fresh = owing.fresh }

due_dial : {lines : List JournalLineSeen} (s : Setting) (core : CoreMeaning) (uplink : ℕ) (casts : List CastSeen) (offers closes : List ℕ) (more : History) → setting_of core.conf ≡ s → Acting lines core (Some uplink) casts offers closes more
    → MayCome (due s more) (is_stopped more) (did.Dialled uplink)
due_dial s core uplink casts offers closes more same phase =
    subst (λ t. MayCome (due t more) (is_stopped more) (did.Dialled uplink)) same
    (dial_comes (due (setting_of core.conf) more) (is_stopped more) uplink (map cast_act casts ++ (all_offers (setting_of core.conf) phase.owing.round offers ++ map Closes closes)) phase.owing.owed)

pub run_dials : (lines : List JournalLineSeen) (s : Setting) (now next : Option Told) (core : CoreMeaning) (uplink : ℕ) (spec : UplinkSeen) (casts : List CastSeen) (offers closes : List ℕ) → setting_of core.conf ≡ s
    → slice_get core.conf.uplinks uplink ≡ Some spec → next ≡ option_map (with_dial uplink spec) now
    → ActsOn s now next (Acting lines core (Some uplink) casts offers closes) (Acting lines core None casts offers closes)
run_dials lines s now next core uplink spec casts offers closes same at is =
    server_acts s now next (did.Dialled uplink) (with_dial uplink spec) (Acting lines core (Some uplink) casts offers closes) (Acting lines core None casts offers closes)
    tt tt (λ state. tells_dial (wired_for state s) uplink spec (ap (λ t. slice_get t.uplinks uplink) (sym same) ∙ at)) is (λ more phase. (
      due_dial s core uplink casts offers closes more same phase,
      record { stands = stands_dialled core uplink more phase.stands; journal = phase.journal; owing = owing_dialled core.conf uplink casts offers closes more phase.owing },
    ))

-- a dial that is due is of an uplink that is there
pub dial_there : (lines : List JournalLineSeen) (s : Setting) (now : Option Told) (core : CoreMeaning) (uplink : ℕ) (casts : List CastSeen) (offers closes : List ℕ) → setting_of core.conf ≡ s → slice_get core.conf.uplinks uplink ≡ None
    → ActsOn s now now (Acting lines core (Some uplink) casts offers closes) (Acting lines core None casts offers closes)
dial_there lines s now core uplink casts offers closes same none state None serves = serves
dial_there lines s now core uplink casts offers closes same none state (Some old) serves =
    let lt = dials_are_of_uplinks s [] serves.1 uplink (serves.4, due_dial s core uplink casts offers closes serves.1 same serves.5) in
    absurd (none_within core.conf.uplinks uplink none (subst (λ t. uplink < length t.uplinks) (sym same) lt))

-- ---- a cast

cast_comes : (acts : List Act) (stopped : Bool) (n : ℕ) (bytes owed : List ℕ) (rest : List Act) → acts ≡ Casts n owed ∷ rest → bytes ≡ owed → MayCome acts stopped (did.Cast n bytes)
cast_comes acts stopped n bytes owed rest is same = subst (λ xs. MayCome xs stopped (did.Cast n bytes)) (sym is) (refl, same)

stands_cast : (core : CoreMeaning) (n : ℕ) (bytes : List ℕ) (h : History) → Stands core h → Stands core (did.Cast n bytes ∷ h)
unfolding trace_of
stands_cast core n bytes h stands = record { finished = stands.finished; follows = stands.follows; greatest = stands.greatest; stopped = stands.stopped }

owing_cast : (conf : ConfSeen) (cast : CastSeen) (bytes : List ℕ) (casts : List CastSeen) (offers closes : List ℕ) (more : History) → Owing conf None (cast ∷ casts) offers closes more
    → Owing conf None casts offers closes (did.Cast cast.peer bytes ∷ more)
unfolding due trace_of
owing_cast conf cast bytes casts offers closes more owing = record { round = owing.round; owed = ap but_first owing.owed; same = record { left = owing.same.left; down = owing.same.down }; all = owing.all; fresh = owing.fresh }

due_cast : {lines : List JournalLineSeen} (s : Setting) (core : CoreMeaning) (cast : CastSeen) (bytes : List ℕ) (casts : List CastSeen) (offers closes : List ℕ) (more : History) → setting_of core.conf ≡ s → bytes ≡ ended_line cast.line
    → Acting lines core None (cast ∷ casts) offers closes more → MayCome (due s more) (is_stopped more) (did.Cast cast.peer bytes)
due_cast s core cast bytes casts offers closes more same line phase =
    subst (λ t. MayCome (due t more) (is_stopped more) (did.Cast cast.peer bytes)) same
    (cast_comes (due (setting_of core.conf) more) (is_stopped more) cast.peer bytes (ended_line cast.line) (map cast_act casts ++ (all_offers (setting_of core.conf) phase.owing.round offers ++ map Closes closes)) phase.owing.owed line)

pub run_casts : (lines : List JournalLineSeen) (s : Setting) (now next : Option Told) (page after : PageSeen) (core : CoreMeaning) (cast : CastSeen) (peer : PeerSpec) (bytes : List ℕ) (casts : List CastSeen) (offers closes : List ℕ) → setting_of core.conf ≡ s
    → slice_get core.conf.peers cast.peer ≡ Some peer → bytes ≡ ended_line cast.line
    → after ≡ counting (did.Cast cast.peer bytes) page → next ≡ option_map (with_cast cast.peer peer.at bytes) now
    → SendsOn s now page next after (Acting lines core None (cast ∷ casts) offers closes) (Acting lines core None casts offers closes)
run_casts lines s now next page after core cast peer bytes casts offers closes same at line counted is =
    let to : option_map address_of (slice_get s.peers cast.peer) ≡ Some peer.at =
    ap (λ t. option_map address_of (slice_get t.peers cast.peer)) (sym same)
    ∙ ap (option_map address_of) (slice_get-map peer_of core.conf.peers cast.peer ∙ ap (option_map peer_of) at) in
    cast_on s now next cast.peer peer.at bytes page after (Acting lines core None (cast ∷ casts) offers closes) (Acting lines core None casts offers closes)
    to counted is (λ more phase. (
      due_cast s core cast bytes casts offers closes more same line phase,
      record { stands = stands_cast core cast.peer bytes more phase.stands; journal = phase.journal; owing = owing_cast core.conf cast bytes casts offers closes more phase.owing },
    ))

-- a cast that is due is for a peer that is there
pub cast_there : (lines : List JournalLineSeen) (s : Setting) (now : Option Told) (core : CoreMeaning) (cast : CastSeen) (casts : List CastSeen) (offers closes : List ℕ) → setting_of core.conf ≡ s → slice_get core.conf.peers cast.peer ≡ None
    → ActsOn s now now (Acting lines core None (cast ∷ casts) offers closes) (Acting lines core None casts offers closes)
cast_there lines s now core cast casts offers closes same none state None serves = serves
cast_there lines s now core cast casts offers closes same none state (Some old) serves =
    let bytes = ended_line cast.line in
    let lt = (peers_get_submissions s [] serves.1 cast.peer bytes (serves.4, due_cast s core cast bytes casts offers closes serves.1 same refl serves.5)).0 in
    absurd (none_within core.conf.peers cast.peer none (subst (λ n. cast.peer < n) (length-map core.conf.peers peer_of) (subst (λ t. cast.peer < length t.peers) (sym same) lt)))

-- the dial, and then the casts, as the acts have them
pub reach_then : (lines : List JournalLineSeen) (s : Setting) (old mid new : Option Told) (page after : PageSeen) (core : CoreMeaning) (given dial : Option ℕ) (listed casts : List CastSeen) (offers closes : List ℕ) (R : History → Type 0)
    → given ≡ dial → listed ≡ casts
    → ActsOn s old mid (Acting lines core given casts offers closes) (Acting lines core None casts offers closes) → SendsOn s mid page new after (Acting lines core None listed offers closes) R
    → SendsOn s old page new after (Acting lines core dial casts offers closes) R
reach_then lines s old mid new page after core given dial listed casts offers closes R dial_is casts_are dials reaches front start run =
    let state = front_state page front in
    reaches front start (subst (λ xs. Serves s start mid state (Acting lines core None xs offers closes)) (sym casts_are)
    (dials state start (subst (λ d. Serves s start old state (Acting lines core d casts offers closes)) (sym dial_is) run)))
