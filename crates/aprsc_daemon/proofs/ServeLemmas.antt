-- From one round to the next.
use Rattle.std.proofs.Common.{Some, None, length-append, drop, le_refl, arith, ◌≡◌, ℕ, ◌+◌, ◌≤◌, Bool, true, false, List, [], ◌∷◌, ◌++◌, length, refl, sym, ap, ◌∙◌, subst, Option}
use Rattle.std.proofs.lemmas.List.{drop_all, length-map}
use Rattle.aprs_conf.specs.Seen.{ConfSeen}
use Rattle.aprs_conf.specs.declared.types.Listen.{Listen}
use Rattle.aprs_conf.specs.Sound.{IsSound}
use Rattle.aprs_base.specs.Outside.{Told}
use Rattle.aprs_base.specs.declared.events.Event.{Event}
use Rattle.aprs_base.specs.declared.texts.Addr.{Addr}
use Rattle.aprs_base.specs.Journals.{JournalLineSeen}
use Rattle.aprs_history.specs.Setting.{Setting}
use Rattle.aprs_history.specs.History.{History, trace_of}
use Rattle.aprs_history.specs.Downs.{down_of}
use Rattle.aprs_history.specs.Texts.{untaken}
use Rattle.aprs_history.specs.Rounds.{AreFresh, is_whole, with_events, listens_after, only_listens}
use Rattle.aprs_history.specs.Journal.{journal_of}
use Rattle.aprs_history.specs.Acts.{due, listens_from}
use Rattle.aprs_history.specs.Runs.{AppendsRun}
use Rattle.aprs_conf.specs.Served.{page_number, served_conf, upload_number}
use Rattle.aprs_base.specs.declared.totals.Totals.{Totals}
use Rattle.http_submit.specs.Fronts.{fresh_front}
use Rattle.status_page.specs.PageFronts.{PageSeen, fresh_page}
use Rattle.front_history.specs.Answers.{front_state}
use Rattle.front_history.specs.Serving.{ActsOn, EndsOn, GoesOn, Opens, Serves, ports_of}
use Rattle.front_history.proofs.FrontLemmas.{appends_alone, no_ports}
use Rattle.aprsc_daemon.specs.Fronts.{AreNew, state_of}
use Rattle.aprsc_daemon.specs.Runs.{RunsFor, ports_named, setting_named}
use Rattle.aprsc_daemon.specs.declared.fronts.Fronts.{Fronts}
use Rattle.aprsc_daemon.proofs.RunLemmas.{opened_at, served_at}
use Rattle.front_history.proofs.ServesLemmas.{serves_so}
use Rattle.server_core.specs.ActsSeen.{ActsSeen}
use Rattle.server_core.specs.Meaning.{AreActs, CoreMeaning, Stands, caster, casters, group_listens, idle_specs, listeners, numbered, serving, setting_of}
use Rattle.aprs_history.specs.Stands.{StandsFor}
use Rattle.aprsc_daemon.specs.Phases.{Acting, AreOfRound, Finished, Gathering, Listening, Offering, Resting, Served}
use Rattle.aprsc_daemon.specs.declared.serving.End.TheVariants as ended
use Rattle.aprsc_daemon.proofs.EventLemmas.{gathered_fresh}
use Rattle.aprsc_daemon.proofs.JournalLemmas.{listens_untold, round_added}

pub begins_acts : (lines : List JournalLineSeen) (s : Setting) (now : Option Told) (core new : CoreMeaning) (events : List Event) (acts : ActsSeen) (told : List JournalLineSeen) → new.conf ≡ core.conf
    → is_whole 0 events ≡ true → AreOfRound core events told
    → AreFresh core.seen.greatest events → ((h : History) → Stands core h → Stands new (with_events events h)) → ((h : History) → Stands core h → AreActs (setting_of new.conf) (with_events events h) acts)
    → ActsOn s now now (Gathering lines core events) (Acting (lines ++ told) new acts.dial acts.casts acts.offers acts.closes)
begins_acts lines s now core new events acts told conf whole are fresh stands acts_are =
    serves_so s now (Gathering lines core events) (Acting (lines ++ told) new acts.dial acts.casts acts.offers acts.closes) (λ more phase.
    record {
      stands = subst (Stands new) (sym phase.since) (stands phase.before phase.resting.stands);
      journal = ap (λ c. journal_of (setting_of c) more) conf ∙ ap (journal_of (setting_of core.conf)) phase.since
          ∙ round_added (setting_of core.conf) events phase.before lines told whole phase.resting.stands.finished phase.resting.journal (are phase.before phase.resting.stands);
      owing = record {
        round = trace_of (setting_of new.conf) (with_events events phase.before);
        owed = ap (due (setting_of new.conf)) phase.since ∙ (acts_are phase.before phase.resting.stands).due;
        same = record {
          left = λ link member. ap (λ h. untaken (setting_of new.conf) (trace_of (setting_of new.conf) h) link) phase.since;
          down = λ link member. ap (λ h. down_of (setting_of new.conf) (trace_of (setting_of new.conf) h) link) phase.since;
        };
        all = phase.all ∙ ap (λ c. length (setting_of c).listens) (sym conf);
        fresh = gathered_fresh core events more fresh phase;
      };
    })

-- what is left to be offered and to be closed, as slices have it
pub offers_listed : (lines : List JournalLineSeen) (s : Setting) (now : Option Told) (core : CoreMeaning) (offers closes links closed : List ℕ) → links ≡ offers → closed ≡ closes
    → ActsOn s now now (Offering lines core offers closes) (Offering lines core links closed)
offers_listed lines s now core offers closes links closed offers_are closes_are =
    serves_so s now (Offering lines core offers closes) (Offering lines core links closed) (λ more phase.
    subst (λ ns. Offering lines core links ns more) (sym closes_are) (subst (λ ns. Offering lines core ns closes more) (sym offers_are) phase))

pub rests : (lines : List JournalLineSeen) (s : Setting) (now : Option Told) (core : CoreMeaning) → ActsOn s now now (Offering lines core [] []) (Resting lines core)
rests lines s now core = serves_so s now (Offering lines core [] []) (Resting lines core) (λ more phase. record { stands = phase.stands; journal = phase.journal; none = phase.owing.owed; all = phase.owing.all; fresh = phase.owing.fresh })

begins_gathering : (lines : List JournalLineSeen) (s : Setting) (now : Option Told) (core : CoreMeaning) → core.seen.stopped ≡ false → ActsOn s now now (Resting lines core) (Gathering lines core [])
begins_gathering lines s now core going = serves_so s now (Resting lines core) (Gathering lines core []) (λ more phase.
    record { before = more; since = refl; resting = phase; going = sym phase.stands.stopped ∙ going; all = phase.all })

-- a round begins once totals are published, by which no front stands otherwise
pub begins_round : (lines : List JournalLineSeen) (s : Setting) (now : Option Told) (core : CoreMeaning) (fronts : Fronts) (page : PageSeen) (totals : Totals) → core.seen.stopped ≡ false → page ≡ record fronts.page { totals = totals }
    → GoesOn s now (state_of fronts) now (front_state page fronts.http) (Resting lines core) (Gathering lines core [])
begins_round lines s now core fronts page totals going is start run =
    subst (λ p. Serves s start now (front_state p fronts.http) (Gathering lines core [])) (sym is) (begins_gathering lines s now core going (state_of fronts) start run)

-- fronts keep their ports as acts are done
pub acts_keep : (before after : Fronts) → after.http ≡ before.http → after.page.at ≡ before.page.at → ports_of (state_of after) ≡ ports_of (state_of before)
acts_keep before after http_is at =
    ap (λ page. record { page = page; upload = after.http.at }) at ∙ ap (λ http. record { page = before.page.at; upload = http.at }) http_is

pub publishing_keeps : (fronts : Fronts) (page : PageSeen) (totals : Totals) → page ≡ record fronts.page { totals = totals } → ports_of (front_state page fronts.http) ≡ ports_of (state_of fronts)
publishing_keeps fronts page totals is = ap {A = PageSeen} (λ p. record { page = p.at; upload = fronts.http.at }) is

-- where the core stopped, the run is finished, and the core stands for it
pub stopped_rests : {lines : List JournalLineSeen} (s : Setting) (core : CoreMeaning) (more : History) → setting_of core.conf ≡ s → core.seen.stopped ≡ true → Resting lines core more
    → Finished s more × StandsFor s core.seen more
stopped_rests s core more same stopped phase = (
  record { stopped = sym phase.stands.stopped ∙ stopped; idle = record { none = subst (λ t. due t more ≡ []) same phase.none; all = phase.all ∙ ap (λ s. length s.listens) same; fresh = phase.fresh } },
  subst (λ t. StandsFor t core.seen more) same phase.stands,
)

pub finishes : (lines : List JournalLineSeen) (s : Setting) (core : CoreMeaning) (more : History) → setting_of core.conf ≡ s → core.seen.stopped ≡ true → Resting lines core more → Served s ended.Stopped lines more
finishes lines s core more same stopped phase = ((stopped_rests s core more same stopped phase).0, ap (λ t. journal_of t more) (sym same) ∙ phase.journal)

-- where every listener is open, and nothing else happened, a new core stands for what happened
pub listening_rests : (core : CoreMeaning) (conf : ConfSeen) (more : History) → core.conf ≡ conf → Stands core (only_listens (setting_of conf))
    → Listening (setting_of conf) (length (listeners conf)) more → Resting [] core more
listening_rests core conf more same stands phase =
    let listens = listeners conf in
    let n = length listens in
    let none : drop n listens ≡ [] = drop_all n listens (le_refl n) in
    let only : more ≡ only_listens (setting_of conf) = ap (λ specs. listens_after n specs more) (sym none) ∙ phase.rest in
    record {
      stands = subst (Stands core) (sym only) stands;
      journal = ap (journal_of (setting_of core.conf)) only ∙ listens_untold (setting_of core.conf) 0 (setting_of conf).listens [];
      none = ap (λ c. due (setting_of c) more) same ∙ phase.due ∙ ap (listens_from n) none;
      all = phase.count ∙ ap (λ c. length (listeners c)) (sym same);
      fresh = phase.fresh;
    }

-- a listener has a number before that of the peer group, or is idle and has one behind it
each_once : (listens : List Listen) → length (numbered listens) + length (idle_specs listens) ≡ length listens
each_once [] = refl
each_once (listen ∷ listens) = by listen.idle refl (each_once listens)
  where
    by : (idle : Bool) → listen.idle ≡ idle → length (numbered listens) + length (idle_specs listens) ≡ length listens → length (numbered (listen ∷ listens)) + length (idle_specs (listen ∷ listens)) ≡ length (listen ∷ listens)
    by true is later = rw is (omega arith)
    by false is later = rw is (omega arith)

-- with the peer group's there is one more at most
pub few_listeners : (conf : ConfSeen) → IsSound conf → length (listeners conf) ≤ 17
few_listeners conf sound =
    let few = sound.listens.1 in
    let once = each_once conf.listens in
    let last = group_short conf.group in
    let idle : length (casters conf) ≡ length (idle_specs conf.listens) = length-map (idle_specs conf.listens) caster in
    omega (arith, length-append (serving conf) (casters conf), length-append (numbered conf.listens) (group_listens conf.group))
  where
    group_short : (group : Option Addr) → length (group_listens group) ≤ 1
    group_short None = omega arith
    group_short (Some at) = omega arith

-- ---- a run from its configuration on

-- fronts that were made for the ports and the name of a configuration
pub fresh_named : (conf : ConfSeen) (fronts : Fronts) (page upload : Option ℕ) (server : List ℕ) → page ≡ page_number conf → upload ≡ upload_number conf → server ≡ conf.server → AreNew (record { page = page; upload = upload }) server fronts
    → AreNew (ports_named conf) conf.server fronts
fresh_named conf fronts page upload server page_is upload_is server_is fresh =
    (fresh.0 ∙ ap (λ at. fresh_page at server) page_is ∙ ap (fresh_page (page_number conf)) server_is, fresh.1 ∙ ap fresh_front upload_is)

-- listeners were opened for the configuration that is served
pub run_opened : (conf served : ConfSeen) (fronts : Fronts) (start now : Option Told) (P : Setting → History → Type 0) → served ≡ served_conf conf → AreNew (ports_named conf) conf.server fronts
    → Opens (setting_of served) fronts.page fronts.http start now (P (setting_of served)) → RunsFor conf start now (P (setting_named conf))
run_opened conf served fronts start now P is fresh opens =
    opened_at (setting_named conf) (ports_named conf) fronts start now (P (setting_named conf)) fresh (subst (λ k. Opens (setting_of k) fronts.page fronts.http start now (P (setting_of k))) is opens)

-- and it was served up to its end
pub run_ended : (conf served : ConfSeen) (fronts after : Fronts) (start mid now : Option Told) (core : CoreMeaning) (Q : Setting → History → Type 0) → served ≡ served_conf conf → AreNew (ports_named conf) conf.server fronts
    → after ≡ fronts → core.conf ≡ served → Opens (setting_of served) fronts.page fronts.http start mid (Resting [] core)
    → ((s : Setting) → setting_of core.conf ≡ s → EndsOn s mid (state_of after) now (Resting [] core) (Q s)) → RunsFor conf start now (Q (setting_named conf))
run_ended conf served fronts after start mid now core Q is fresh after_is conf_is opens ends =
    let s = setting_named conf in
    served_at s (ports_named conf) fronts start mid now (Resting [] core) (Q s) fresh (subst (λ k. Opens (setting_of k) fronts.page fronts.http start mid (Resting [] core)) is opens)
    (subst (λ f. EndsOn s mid (state_of f) now (Resting [] core) (Q s)) after_is (ends s (ap setting_of (conf_is ∙ is))))

-- behind fronts without a port, where no line is cast to a link
pub run_alone : (s : Setting) (fronts after : Fronts) (start mid now : Option Told) (P Q : History → Type 0) → s.downs ≡ [] → AreNew no_ports s.server fronts → after ≡ fronts → Opens s fronts.page fronts.http start mid P
    → EndsOn s mid (state_of after) now P Q → AppendsRun s start now Q
run_alone s fronts after start mid now P Q none fresh after_is opens ends =
    appends_alone s start now Q none (served_at s no_ports fronts start mid now P Q fresh opens (subst (λ f. EndsOn s mid (state_of f) now P Q) after_is ends))
