-- The steps of the core, and the trace that it follows.
use Rattle.std.proofs.Common.{◌≡◌, ℕ, ◌<◌, ◌==◌, ◌/◌, nat_lt, length, if◌then◌else◌, ◌∷◌, ◌++◌, [], List, map, filter, refl, sym, ap, ◌∙◌, subst, Bool, true, false, Option, Some, None, max, append-nil, arith, ⊎_elim, ◌||◌, not, cond, ◌^◌, IfOk, OnOk, OnErr, Result, Ok, Err, Vec, Global, ◌≤◌}
use Rattle.std.specs.Bool.{⊤}
use Rattle.std.specs.List.{flat_map}
use Rattle.std.proofs.lemmas.Bool.{true≢false, cases_Bool}
use Rattle.std.proofs.lemmas.List.{length-map}
use Rattle.aprs_base.specs.Held.{held_after}
use Rattle.aprs_base.specs.declared.texts.Addr.{Addr}
use Rattle.aprs_base.specs.declared.cutting.Cut.{Cut}
use Rattle.aprs_base.specs.declared.cutting.Cut.TheVariants as cut
use Rattle.aprs_base.specs.declared.packets.Parts.{Parts}
use Rattle.aprs_base.specs.declared.packets.PortKind.TheVariants as port
use Rattle.aprs_base.specs.declared.packets.Source.{Source}
use Rattle.aprs_base.specs.declared.packets.Source.TheVariants as source
use Rattle.q_construct.specs.declared.origins.Origin.{Origin}
use Rattle.q_construct.specs.declared.origins.Origin.TheVariants as sender
use Rattle.uplinks_peers.specs.declared.uplinks.UpEvent.TheVariants as up
use Rattle.uplinks_peers.specs.Uplinks.{acts_at, uplinks_after}
use Rattle.aprs_history.specs.Dials.{uplinks_of}
use Rattle.aprs_history.specs.declared.verdicts.LinkKind.TheVariants.{Uplink}
use Rattle.aprs_history.specs.declared.verdicts.Verdict.{Verdict}
use Rattle.aprs_history.specs.declared.verdicts.Verdict.TheVariants.{PassedOver, Refused, LoggedIn, Filtered, Accepted}
use Rattle.aprs_history.specs.Setting.{Setting, kind_at}
use Rattle.aprs_history.specs.Scenes.{datagram_scene, logins_of, others_of, scene_of, speaker_of, verified_login, accepted_of}
use Rattle.aprs_history.specs.Verdicts.{Visitor, filter_command, is_duplicate}
use Rattle.line_verdict.specs.Voices.{comment_verdict, filtered}
use Rattle.line_verdict.specs.declared.voices.Voice.{Voice}
use Rattle.line_verdict.specs.declared.voices.Voice.TheVariants as voice
use Rattle.login_pass.specs.Downlinks.{downlink_of}
use Rattle.aprs_history.specs.declared.verdicts.Admission.{Admission}
use Rattle.aprs_history.specs.declared.verdicts.Admission.TheVariants.{NoPort, NotAsked, Served, TurnedAway}
use Rattle.aprs_history.specs.Trace.{Trace, AtListener, ByUplink, Dated, Looked, Unjoined, RoundBegan, Ticked, Opened, Brought, Said, Roomed, Ended, is_live, is_member, is_other, live_links, moment_of, placed_all, stopped_links}
use Rattle.aprs_history.specs.declared.verdicts.EndReason.TheVariants.{FoundGone, ByPeer}
use Rattle.aprs_history.specs.Links.{client_links, is_client_link, session_of, opening_of, brought_by, gone_links, late_links, late_reason}
use Rattle.aprs_history.specs.Dates.{comment_text}
use Rattle.aprs_history.specs.History.{admission, admitted, joined_admission, begin_round, comment_seconds, dated, end_each, end_stopped, refused_links, refused_reason, relay, say_all}
use Rattle.aprs_history.specs.Stands.{LinkSeen, CoreSeen, ReachSeen, link_seen, Follows, window_of}
use Rattle.served_links.specs.Changes.{at_link, with_room, with_bytes, with_date}
use Rattle.served_links.specs.Links.{has_that, has_number, is_late_link, is_none_of, is_overfull, is_another, numbers, Rises, client_kept, clients_in, held_at, held_kept, logins_at, speaker_at, speaker_kept, others_at, is_lost}
use Rattle.server_core.specs.LinkSteps.{is_in_time, is_there, IsDatagram, admitted_in, joined_outcome, ended_all, forgotten_all, passed}
use Rattle.heard_routing.specs.Heard.{HeardSeen, without_link}
use Rattle.aprs_conf.specs.Seen.{ConfSeen}
use Rattle.server_core.specs.Meaning.{CoreMeaning, setting_of, timeouts_of}
use Rattle.served_links.specs.Halves.{IsEmptied, ServedSeen}
use Rattle.served_links.proofs.ServedSteps.{emptied_rises}
use Rattle.server_core.specs.Kept.{IsKept}
use Rattle.server_core.specs.Steps.{SameRest, Walks, carried_at, scene_at, with_port, with_verdict}
use Rattle.served_links.proofs.LinkLemmas.{changed_none, rises_at, rises_filter, rises_push}
use Rattle.aprs_history.proofs.NumberLemmas.{rises_higher}
use Rattle.server_core.proofs.FollowLemmas.{picked_missing, picked_seen}
use Rattle.server_core.proofs.HeardLemmas.{remembers_no_end}
use Rattle.server_core.proofs.WalkLemmas.{with_ends, with_links, with_reach, filter_seen, follows_began, follows_dated, follows_gone, follows_late, follows_looked, follows_turned_away, follows_unasked, follows_unjoined, follows_refused_links, going_after, late_goes, refused_goes, follows_said, follows_roomed, follows_risen, follows_brought, follows_opened, follows_unserved, follows_ended, follows_stopped, follows_stayed}
use Rattle.aprs_history.proofs.EntryLemmas.{IsSaidBy}
use Rattle.dupe_window.specs.Windows.{has_copy}
use Rattle.dupe_window.proofs.RecalledLemmas.{seen_at-recalled}
use Rattle.station_table.specs.Last.{HasExactly}
use Rattle.station_table.specs.Stations.{young}

-- the core with other links
abbrev pub relinked : List LinkSeen → CoreMeaning → CoreMeaning
relinked links core = record core { seen = record core.seen { links = links } }

-- the core with other links, and with what else is known of these
abbrev pub with_served : ServedSeen → CoreMeaning → CoreMeaning
with_served served core = record { conf = core.conf; seen = record core.seen { links = served.links; totals = record core.seen.totals { queued = served.queued } }; rests = served.rests }

-- a round begins
pub walks_begun : (core : CoreMeaning) (t : Trace) (links : List LinkSeen) (heard : HeardSeen) (reach : ReachSeen) (turned closing : List ℕ) → Walks core t → links ≡ filter is_there core.seen.links
    → heard ≡ forgotten_all (numbers (filter is_lost core.seen.links)) core.seen.heard
    → reach ≡ record core.seen.reach { uplinks = ended_all (numbers (filter is_lost core.seen.links)) core.seen.moment core.seen.reach.uplinks; dial = None; casts = []; accepted = [] } → turned ≡ [] → closing ≡ []
    → Walks (record core { seen = record core.seen { links = links; heard = heard; reach = reach; turned = turned; closing = closing } }) (begin_round t)
walks_begun core t links heard reach turned closing walks is forgotten reached no_turned no_closing =
    let s = setting_of core.conf in
    let began = follows_began s core.seen t walks.follows in
    let fresh = record core.seen { turned = []; closing = []; reach = record core.seen.reach { dial = None; casts = []; accepted = [] } } in
    let ends = numbers (filter is_lost core.seen.links) in
    let same : record core.seen { links = links; heard = heard; reach = reach; turned = turned; closing = closing } ≡ with_ends ends (filter is_there core.seen.links) [] fresh =
    rw (is, forgotten, reached, no_turned, no_closing) refl in
    record {
      follows = subst (λ seen. Follows s seen (begin_round t)) (sym same) (follows_gone s fresh (RoundBegan ∷ t) began walks.going);
      going = going_after (λ k. FoundGone) (λ k. refl) (gone_links (RoundBegan ∷ t)) (RoundBegan ∷ t) ∙ walks.going;
      lasts = walks.lasts;
    }

-- the logins of others, as they are kept and as the trace has them
others_seen : (s : Setting) (t : Trace) (number : ℕ) (ks : List ℕ)
    → others_at number (map (link_seen s t) ks) ≡ flat_map (λ other. verified_login (session_of t other)) (filter (is_other number) ks)
unfolding link_seen
others_seen s t number [] = refl
others_seen s t number (k ∷ ks) =
    let rest = others_seen s t number ks in
    ⊎_elim
    (λ kept. rw kept (ap (λ calls. verified_login (session_of t k) ++ calls) rest))
    (λ left. rw left rest)
    (cases_Bool (is_other number k))

-- and those of all
logins_seen : (s : Setting) (t : Trace) (ks : List ℕ) → logins_at (map (link_seen s t) ks) ≡ logins_of t ks
unfolding link_seen
logins_seen s t [] = refl
logins_seen s t (k ∷ ks) = ap (λ calls. verified_login (session_of t k) ++ calls) (logins_seen s t ks)

pub number_member : (s : Setting) (t : Trace) (k : ℕ) (ks : List ℕ) → has_number k (map (link_seen s t) ks) ≡ is_member k ks
unfolding link_seen
number_member s t k [] = refl
number_member s t k (x ∷ ks) = ap (λ b. (x == k) || b) (number_member s t k ks)

module _ (core : CoreMeaning) (t : Trace) (walks : Walks core t) where
  live_now : core.seen.links ≡ map (link_seen (setting_of core.conf) t) (live_links t)
  live_now = walks.follows.links ∙ ap (λ stopped. map (link_seen (setting_of core.conf) t) (stopped ++ live_links t)) walks.going

  speaker_now : (number : ℕ) → is_live t number ≡ true → speaker_at number core.seen.links ≡ speaker_of (opening_of t number) (session_of t number)
  unfolding link_seen
  speaker_now number live = ap (speaker_at number) live_now ∙ picked_seen speaker_kept (Visitor port.Full None) (setting_of core.conf) t number (live_links t) live

  pub there_now : (number : ℕ) → has_number number core.seen.links ≡ is_live t number
  there_now number = ap (has_number number) live_now ∙ number_member (setting_of core.conf) t number (live_links t)

  pub held_now : (number : ℕ) → is_live t number ≡ true → held_at number core.seen.links ≡ Some (held_after (brought_by t number))
  unfolding link_seen
  held_now number live = ap (held_at number) live_now ∙ picked_seen held_kept None (setting_of core.conf) t number (live_links t) live

  pub held_never : (number : ℕ) → is_live t number ≡ false → held_at number core.seen.links ≡ None
  held_never number dead = ap (held_at number) live_now ∙ picked_missing held_kept None (setting_of core.conf) t number (live_links t) dead

  others_now : (number : ℕ) → others_at number core.seen.links ≡ others_of t number
  others_now number = ap (others_at number) live_now ∙ others_seen (setting_of core.conf) t number (live_links t)

  -- the window has the copies that the search of all accepted packets finds
  copies_same : (parts : Parts) → has_copy core.seen.moment core.seen.window parts ≡ is_duplicate core.conf.dupe_window (moment_of t) (accepted_of t) parts
  copies_same parts =
      ap (λ now. has_copy now core.seen.window parts) walks.follows.moment
      ∙ ap (λ window. has_copy (moment_of t) window parts) walks.follows.tables.window
      ∙ seen_at-recalled (moment_of t) parts (accepted_of t) (window_of (setting_of core.conf) t) refl

  copies_now : has_copy core.seen.moment core.seen.window ≡ is_duplicate core.conf.dupe_window (moment_of t) (accepted_of t)
  copies_now = λ j parts. copies_same parts j

  -- a line of a link that lives meets what the trace says
  pub scene_now : (number : ℕ) → is_live t number ≡ true → scene_at core number ≡ scene_of (setting_of core.conf) t number
  scene_now number live =
      ap (λ speaker. record (scene_at core number) { speaker = speaker }) (speaker_now number live)
      ∙ ap (λ others. record (scene_of (setting_of core.conf) t number) { others = others; copies = has_copy core.seen.moment core.seen.window }) (others_now number)
      ∙ ap (λ copies. record (scene_of (setting_of core.conf) t number) { copies = copies }) copies_now

  -- and so does a line of a datagram
  pub carried_now : (origin : Origin) → carried_at origin core ≡ datagram_scene (setting_of core.conf) origin t
  carried_now origin =
      ap (λ others. record (carried_at origin core) { others = others }) (ap logins_at live_now ∙ logins_seen (setting_of core.conf) t (live_links t))
      ∙ ap (λ copies. record (datagram_scene (setting_of core.conf) origin t) { copies = copies }) copies_now

  -- how many clients there are
  pub clients_now : clients_in core.seen.links ≡ length (client_links t)
  unfolding link_seen
  clients_now =
      let s = setting_of core.conf in
      let clients : filter client_kept (map (link_seen s t) (live_links t)) ≡ map (link_seen s t) (client_links t) =
      filter_seen s core.seen t walks.follows client_kept (λ l. is_client_link (opening_of t l)) (live_links t) (λ j. refl) in
      ap (λ links. length (filter client_kept links)) live_now ∙ ap length clients ∙ length-map (client_links t) (link_seen s t)

  pub walks_roomed : (number : ℕ) (links : List LinkSeen) → links ≡ map (at_link number with_room) core.seen.links → Walks (relinked links core) (Roomed number ∷ t)
  walks_roomed number links new = record {
    follows = subst (λ ls. Follows (setting_of core.conf) (with_links ls core.seen) (Roomed number ∷ t)) (sym new)
        (follows_roomed (setting_of core.conf) core.seen t walks.follows number);
    going = walks.going;
    lasts = walks.lasts;
  }

  pub walks_brought : (number : ℕ) (bytes : List ℕ) (links : List LinkSeen) (reach : ReachSeen) → is_live t number ≡ true
      → reach ≡ (if has_number number core.seen.links then record core.seen.reach { uplinks = uplinks_after (up.Heard number) core.seen.moment core.seen.reach.uplinks } else core.seen.reach)
      → links ≡ map (at_link number (with_bytes core.seen.moment (held_after (brought_by t number ++ bytes)))) core.seen.links
      → Walks (record core { seen = record core.seen { links = links; reach = reach } }) (Brought number bytes ∷ t)
  walks_brought number bytes links reach live reached new =
      let stepped = record core.seen.reach { uplinks = uplinks_after (up.Heard number) core.seen.moment core.seen.reach.uplinks } in
      let there : has_number number core.seen.links ≡ true = there_now number ∙ live in
      let heard : reach ≡ stepped = reached ∙ ap (λ b. if b then stepped else core.seen.reach) there in
      record {
        follows = subst (λ ls. Follows (setting_of core.conf) (record core.seen { links = ls; reach = reach }) (Brought number bytes ∷ t)) (sym new)
            (subst (λ r. Follows (setting_of core.conf) (record core.seen { links = map (at_link number (with_bytes core.seen.moment (held_after (brought_by t number ++ bytes)))) core.seen.links; reach = r }) (Brought number bytes ∷ t)) (sym heard)
            (follows_brought (setting_of core.conf) core.seen t walks.follows number bytes));
        going = walks.going;
        lasts = walks.lasts;
      }

  pub walks_ended : (number : ℕ) (links : List LinkSeen) (heard : HeardSeen) (reach : ReachSeen) → is_live t number ≡ true
      → links ≡ filter (is_another number) core.seen.links → heard ≡ without_link number core.seen.heard
      → reach ≡ (if has_number number core.seen.links then record core.seen.reach { uplinks = uplinks_after (up.Ended number) core.seen.moment core.seen.reach.uplinks } else core.seen.reach)
      → Walks (record core { seen = record core.seen { links = links; heard = heard; reach = reach } }) (Ended number ByPeer ∷ t)
  walks_ended number links heard reach live new forgotten reached =
      let stepped = record core.seen.reach { uplinks = uplinks_after (up.Ended number) core.seen.moment core.seen.reach.uplinks } in
      let there : has_number number core.seen.links ≡ true = there_now number ∙ live in
      let ended : reach ≡ stepped = reached ∙ ap (λ b. if b then stepped else core.seen.reach) there in
      let same : record core.seen { links = links; heard = heard; reach = reach } ≡ record core.seen { links = filter (is_another number) core.seen.links; heard = without_link number core.seen.heard; reach = stepped } =
      rw (new, forgotten, ended) refl in
      record {
        follows = subst (λ seen. Follows (setting_of core.conf) seen (Ended number ByPeer ∷ t)) (sym same) (follows_ended (setting_of core.conf) core.seen t walks.follows walks.going number);
        going = append-nil (stopped_links t) ∙ walks.going;
        lasts = walks.lasts;
      }

  pub walks_looked : (reach : ReachSeen)
      → reach ≡ record core.seen.reach { uplinks = uplinks_after up.Tick core.seen.moment core.seen.reach.uplinks; dial = (acts_at up.Tick core.seen.moment core.seen.reach.uplinks).dial }
      → Walks (record core { seen = record core.seen { reach = reach } }) (Looked ∷ t)
  walks_looked reach is = record {
    follows = subst (λ r. Follows (setting_of core.conf) (with_reach r core.seen) (Looked ∷ t)) (sym is) (follows_looked (setting_of core.conf) core.seen t walks.follows);
    going = walks.going;
    lasts = walks.lasts;
  }

  pub walks_unjoined : (uplink : ℕ) (reach : ReachSeen) → reach ≡ record core.seen.reach { uplinks = uplinks_after (up.Unjoined uplink) core.seen.moment core.seen.reach.uplinks }
      → Walks (record core { seen = record core.seen { reach = reach } }) (Unjoined uplink ∷ t)
  walks_unjoined uplink reach is = record {
    follows = subst (λ r. Follows (setting_of core.conf) (with_reach r core.seen) (Unjoined uplink ∷ t)) (sym is) (follows_unjoined (setting_of core.conf) core.seen t walks.follows uplink);
    going = walks.going;
    lasts = walks.lasts;
  }

-- a line that was said
pub walks_said : (core : CoreMeaning) (t : Trace) → Walks core t → (from : Source) (cut : Cut) (verdict : Verdict) → IsSaidBy t from → Walks (with_verdict from cut verdict core) (Said from cut verdict ∷ t)
walks_said core t walks from cut verdict by =
    record { follows = follows_said (setting_of core.conf) core.seen t walks.follows walks.going walks.lasts from cut verdict by; going = walks.going; lasts = walks.lasts }

-- only a login asks for a port
pub with_asked : (from : Source) (line : List ℕ) (verdict : Verdict) (core : CoreMeaning) → with_port from (downlink_of line) verdict core ≡ with_verdict from (cut.Line line) verdict core
with_asked from line (LoggedIn session answer) core = refl
with_asked from line PassedOver core = refl
with_asked from line (Refused why) core = refl
with_asked from line (Filtered answer) core = refl
with_asked from line (Accepted parts text) core = refl

filtered_quiet : (from : Source) (line : List ℕ) (filters : Bool) (command : Option (List ℕ)) (core : CoreMeaning) → with_port from None (filtered filters command) core ≡ with_verdict from (cut.Line line) (filtered filters command) core
filtered_quiet from line filters None core = refl
filtered_quiet from line filters (Some text) core = refl

-- a comment asks for none
pub comment_quiet : (from : Source) (line : List ℕ) (who : Voice) (core : CoreMeaning) → with_port from None (comment_verdict who line) core ≡ with_verdict from (cut.Line line) (comment_verdict who line) core
comment_quiet from line (voice.Nameless filters) core = refl
comment_quiet from line voice.Reader core = filtered_quiet from line false (filter_command line) core
comment_quiet from line (voice.Client filters origin) core = filtered_quiet from line filters (filter_command line) core
comment_quiet from line (voice.Carrier origin) core = refl

pub said_by : (t : Trace) (from : Source) → IsDatagram from → IsSaidBy t from
said_by t (source.Link number) datagram = absurd datagram
said_by t from datagram = tt

-- the lines of a peer's datagram
pub relayed_as : (s : Setting) (listener : ℕ) (first : Cut) (more cuts : List Cut) (peer : ℕ) (call : List ℕ) (origin : Origin) (found : Option (ℕ × List ℕ)) (t : Trace)
    → cuts ≡ first ∷ more → origin ≡ sender.Peer call → found ≡ Some (peer, call) → say_all (datagram_scene s origin) (source.Peer peer) cuts t ≡ relay s listener first more found t
relayed_as s listener first more cuts peer call origin found t are from is =
    ap (λ cs. say_all (datagram_scene s origin) (source.Peer peer) cs t) are
    ∙ ap (λ (o : Origin). say_all (datagram_scene s o) (source.Peer peer) (first ∷ more) t) from
    ∙ ap (λ (f : Option (ℕ × List ℕ)). relay s listener first more f t) (sym is)

-- what a verdict leaves as it is
pub rest_kept : (core : CoreMeaning) (from : Source) (cut : Cut) (verdict : Verdict) → SameRest core (with_verdict from cut verdict core)
rest_kept core from cut PassedOver = record { conf = refl; greatest = refl; stopped = refl }
rest_kept core from cut (LoggedIn session None) = record { conf = refl; greatest = refl; stopped = refl }
rest_kept core from cut (LoggedIn session (Some answer)) = record { conf = refl; greatest = refl; stopped = refl }
rest_kept core from cut verdict = record { conf = refl; greatest = refl; stopped = refl }

-- a link comes, by whichever door
module _ (core : CoreMeaning) (t : Trace) (walks : Walks core t) (k : ℕ) (from : Addr) (rising : Rises 0 (numbers core.seen.links) core.seen.greatest) (above : core.seen.greatest < k) where
  pub walks_admitted : (listener : ℕ) (outcome : Admission)
      → Walks (record core { seen = admitted_in (setting_of core.conf) outcome k from core.seen }) (Opened (AtListener listener) outcome k from ∷ t)
  walks_admitted listener NoPort =
      let follows = follows_unserved (setting_of core.conf) core.seen t walks.follows (AtListener listener) k core.seen.greatest from rising above in
      record { follows = record { moment = follows.moment; reach = follows.reach; turned = follows.turned; closing = follows.closing; links = follows.links; tables = follows.tables; took = follows.took; downs = follows.downs; totals = follows.totals }; going = walks.going; lasts = walks.lasts }
  walks_admitted listener TurnedAway =
      let follows = follows_turned_away (setting_of core.conf) core.seen t walks.follows (AtListener listener) k core.seen.greatest from rising above in
      record { follows = record { moment = follows.moment; reach = follows.reach; turned = follows.turned; closing = follows.closing; links = follows.links; tables = follows.tables; took = follows.took; downs = follows.downs; totals = follows.totals }; going = walks.going; lasts = walks.lasts }
  walks_admitted listener NotAsked =
      let follows = follows_unasked (setting_of core.conf) core.seen t walks.follows (AtListener listener) k core.seen.greatest from rising above in
      record { follows = record { moment = follows.moment; reach = follows.reach; turned = follows.turned; closing = follows.closing; links = follows.links; tables = follows.tables; took = follows.took; downs = follows.downs; totals = follows.totals }; going = walks.going; lasts = walks.lasts }
  walks_admitted listener (Served kind) =
      let follows = follows_opened (setting_of core.conf) core.seen t walks.follows (AtListener listener) kind k core.seen.greatest from rising above in
      record { follows = record { moment = follows.moment; reach = follows.reach; turned = follows.turned; closing = follows.closing; links = follows.links; tables = follows.tables; took = follows.took; downs = follows.downs; totals = follows.totals }; going = walks.going; lasts = walks.lasts }

  pub walks_opened : (listener : ℕ) (outcome : Admission) → outcome ≡ admitted core.conf.max_clients (clients_in core.seen.links) (kind_at (setting_of core.conf) listener)
      → Walks (record core { seen = admitted_in (setting_of core.conf) outcome k from core.seen }) (Opened (AtListener listener) (admission (setting_of core.conf) t listener) k from ∷ t)
  walks_opened listener outcome is =
      let same : outcome ≡ admission (setting_of core.conf) t listener = is ∙ ap (λ n. admitted core.conf.max_clients n (kind_at (setting_of core.conf) listener)) (clients_now core t walks) in
      subst (λ became. Walks (record core { seen = admitted_in (setting_of core.conf) outcome k from core.seen }) (Opened (AtListener listener) became k from ∷ t)) same (walks_admitted listener outcome)

  -- an uplink has joined
  abbrev joined_core : ℕ → CoreSeen
  joined_core uplink = with_reach (record core.seen.reach { uplinks = uplinks_after (up.Joined uplink k) core.seen.moment core.seen.reach.uplinks }) core.seen

  walks_by : (uplink : ℕ) (asked : Bool)
      → Walks (record core { seen = admitted_in (setting_of core.conf) (joined_outcome uplink asked) k from (joined_core uplink) }) (Opened (ByUplink uplink) (joined_outcome uplink asked) k from ∷ t)
  walks_by uplink true =
      let follows = follows_opened (setting_of core.conf) core.seen t walks.follows (ByUplink uplink) (Uplink uplink) k core.seen.greatest from rising above in
      record { follows = record { moment = follows.moment; reach = follows.reach; turned = follows.turned; closing = follows.closing; links = follows.links; tables = follows.tables; took = follows.took; downs = follows.downs; totals = follows.totals }; going = walks.going; lasts = walks.lasts }
  walks_by uplink false =
      let follows = follows_unasked (setting_of core.conf) core.seen t walks.follows (ByUplink uplink) k core.seen.greatest from rising above in
      record { follows = record { moment = follows.moment; reach = follows.reach; turned = follows.turned; closing = follows.closing; links = follows.links; tables = follows.tables; took = follows.took; downs = follows.downs; totals = follows.totals }; going = walks.going; lasts = walks.lasts }

  pub walks_joined : (uplink : ℕ) (asked : Bool) → asked ≡ (acts_at (up.Joined uplink k) core.seen.moment core.seen.reach.uplinks).login
      → Walks (record core { seen = admitted_in (setting_of core.conf) (joined_outcome uplink asked) k from (joined_core uplink) }) (Opened (ByUplink uplink) (joined_admission (setting_of core.conf) t uplink k) k from ∷ t)
  walks_joined uplink asked is =
      let login : asked ≡ (acts_at (up.Joined uplink k) (moment_of t) (uplinks_of (setting_of core.conf) t)).login =
      is ∙ ap (λ m. (acts_at (up.Joined uplink k) m core.seen.reach.uplinks).login) walks.follows.moment
      ∙ ap (λ (reach : ReachSeen). (acts_at (up.Joined uplink k) (moment_of t) reach.uplinks).login) walks.follows.reach in
      subst (λ b. Walks (record core { seen = admitted_in (setting_of core.conf) (joined_outcome uplink asked) k from (joined_core uplink) }) (Opened (ByUplink uplink) (joined_outcome uplink b) k from ∷ t)) login (walks_by uplink asked)

all_other : (number : ℕ) (links : List LinkSeen) → has_number number links ≡ false → filter (is_another number) links ≡ links
all_other number [] none = refl
all_other number (x ∷ links) none =
    ⊎_elim
    (λ here. absurd (true≢false (sym (ap (λ b. b || has_number number links) here) ∙ none)))
    (λ other. ap (λ b. cond (not b) (x ∷ filter (is_another number) links) (filter (is_another number) links)) other
    ∙ ap (λ ls. x ∷ ls) (all_other number links (sym (ap (λ b. b || has_number number links) other) ∙ none)))
    (cases_Bool (has_that number x))

-- a step at a link that doesn't live changes nothing
no_number : (core : CoreMeaning) (t : Trace) → Walks core t → (number : ℕ) → is_live t number ≡ false → has_number number core.seen.links ≡ false
no_number core t walks number dead = there_now core t walks number ∙ dead

pub walks_unmoved : (core : CoreMeaning) (t : Trace) (links : List LinkSeen) → Walks core t → links ≡ core.seen.links → Walks (relinked links core) t
walks_unmoved core t links walks same = subst (λ ls. Walks (relinked ls core) t) (sym same) walks

pub walks_no_room : (core : CoreMeaning) (t : Trace) → Walks core t → (number : ℕ) (links : List LinkSeen) → is_live t number ≡ false → links ≡ map (at_link number with_room) core.seen.links → Walks (relinked links core) t
walks_no_room core t walks number links dead new = walks_unmoved core t links walks (new ∙ changed_none number with_room core.seen.links (no_number core t walks number dead))

pub walks_no_end : (core : CoreMeaning) (t : Trace) → Walks core t → (number : ℕ) (links : List LinkSeen) (heard : HeardSeen) (reach : ReachSeen) → is_live t number ≡ false
    → links ≡ filter (is_another number) core.seen.links → heard ≡ without_link number core.seen.heard
    → reach ≡ (if has_number number core.seen.links then record core.seen.reach { uplinks = uplinks_after (up.Ended number) core.seen.moment core.seen.reach.uplinks } else core.seen.reach)
    → Walks (record core { seen = record core.seen { links = links; heard = heard; reach = reach } }) t
walks_no_end core t walks number links heard reach dead new forgotten reached =
    let follows = walks.follows in
    let missing = no_number core t walks number dead in
    let stays : reach ≡ core.seen.reach =
    reached ∙ ap (λ b. if b then record core.seen.reach { uplinks = uplinks_after (up.Ended number) core.seen.moment core.seen.reach.uplinks } else core.seen.reach) missing in
    let same : record core.seen { links = links; heard = heard; reach = reach } ≡ record core.seen { heard = without_link number core.seen.heard } =
    rw (forgotten, stays) (ap (λ ls. record core.seen { links = ls; heard = without_link number core.seen.heard }) (new ∙ all_other number core.seen.links missing)) in
    subst (λ seen. Walks (record core { seen = seen }) t) (sym same) (record {
      follows = record {
        moment = follows.moment;
        reach = follows.reach;
        turned = follows.turned;
        closing = follows.closing;
        links = follows.links;
        tables = record { window = follows.tables.window; stations = follows.tables.stations; heard = remembers_no_end core.seen.heard t number dead follows.tables.heard };
        took = follows.took;
        downs = follows.downs;
        totals = follows.totals;
      };
      going = walks.going;
      lasts = walks.lasts;
    })

-- bytes of a link that isn't there are nobody's
pub walks_unbrought : {E : Type 0} (core : CoreMeaning) (t : Trace) → Walks core t → (number : ℕ) (served new : ServedSeen) (reach : ReachSeen) (result : Result (Vec Cut Global) E) → is_live t number ≡ false → with_served served core ≡ core
    → reach ≡ (if has_number number core.seen.links then record core.seen.reach { uplinks = uplinks_after (up.Heard number) core.seen.moment core.seen.reach.uplinks } else core.seen.reach)
    → IfOk result (λ cuts. (cuts.items ≡ []) × (new ≡ served))
    → IfOk result (λ cuts. (cuts.items ≡ []) × Walks (with_served new (record core { seen = record core.seen { reach = reach } })) t)
walks_unbrought core t walks number served new reach (Err e) dead same reached h = h
walks_unbrought core t walks number served new reach (Ok cuts) dead same reached h =
    let stays : reach ≡ core.seen.reach =
    reached ∙ ap (λ b. if b then record core.seen.reach { uplinks = uplinks_after (up.Heard number) core.seen.moment core.seen.reach.uplinks } else core.seen.reach) (no_number core t walks number dead) in (
      h.0,
      subst (λ (s : ServedSeen). Walks (with_served s (record core { seen = record core.seen { reach = reach } })) t) (sym h.1)
          (subst (λ (r : ReachSeen). Walks (with_served served (record core { seen = record core.seen { reach = r } })) t) (sym stays)
          (subst (λ (c : CoreMeaning). Walks c t) (sym same) walks)),
    )

-- two facts of one answer
pub on_ok_both : {X E : Type 0} {A B C : Type 0} (r : Result X E) → (A → B → C) → OnOk r A → OnOk r B → OnOk r C
on_ok_both (Ok x) f a b = f a b
on_ok_both (Err e) f a b = tt

pub max_above : (a b : ℕ) → b ≤ a → max a b ≡ a
max_above a b le = omega arith

pub max_below : (a b : ℕ) → a ≤ b → max a b ≡ b
max_below a b le = omega arith

pub walks_passed : (core : CoreMeaning) (t : Trace) → Walks core t → (m : ℕ) (now : ℕ) → now ≡ moment_of (Ticked m ∷ t) → HasExactly now (young now core.seen.stations) (accepted_of t)
    → Walks (record core { seen = passed now core.seen }) (Ticked m ∷ t)
walks_passed core t walks m now is sights =
    subst (λ n. Walks (record core { seen = passed n core.seen }) (Ticked m ∷ t)) (sym is) (record {
      follows = follows_risen (setting_of core.conf) core.seen t walks.follows m (subst (λ n. HasExactly n (young n core.seen.stations) (accepted_of t)) is sights);
      going = walks.going;
      lasts = walks.lasts;
    })

pub walks_stayed : (core : CoreMeaning) (t : Trace) → Walks core t → (m : ℕ) → moment_of (Ticked m ∷ t) ≡ moment_of t → Walks core (Ticked m ∷ t)
walks_stayed core t walks m same = record { follows = follows_stayed (setting_of core.conf) core.seen t walks.follows m same; going = walks.going; lasts = walks.lasts }

-- a core stays sound as a link comes
pub kept_above : (core : CoreMeaning) (k : ℕ) → IsKept core → core.seen.greatest < k → k < 2 ^ 32 → IsKept (record core { seen = record core.seen { greatest = k } })
kept_above core k kept above small = record { rising = rises_higher 0 core.seen.greatest k (numbers core.seen.links) (omega arith) kept.rising; small = small; station = kept.station; group = kept.group; few = kept.few; window = kept.window }

pub kept_turned : (core : CoreMeaning) (turned : List ℕ) → IsKept core → IsKept (record core { seen = record core.seen { turned = turned } })
kept_turned core turned kept = record { rising = kept.rising; small = kept.small; station = kept.station; group = kept.group; few = kept.few; window = kept.window }

-- other links, of rising numbers
pub kept_risen : (core : CoreMeaning) (served : ServedSeen) → Rises 0 (numbers served.links) core.seen.greatest → IsKept core → IsKept (with_served served core)
kept_risen core served rises kept = record { rising = rises; small = kept.small; station = kept.station; group = kept.group; few = kept.few; window = kept.window }

-- a link changes, or want of memory leaves fewer
pub risen_by : {E : Type 0} (r : Result ⊤ E) (number : ℕ) (step : LinkSeen → LinkSeen) (old new : ServedSeen) (high : ℕ) → ((link : LinkSeen) → (step link).link ≡ link.link)
    → OnErr r (IsEmptied old new) → OnOk r (new ≡ record old { links = map (at_link number step) old.links; waiting = 0 })
    → Rises 0 (numbers old.links) high → Rises 0 (numbers new.links) high
risen_by (Ok done) number step old new high same gone is rises =
    subst (λ (s : ServedSeen). Rises 0 (numbers s.links) high) (sym is) (rises_at number step same high old.links (map (at_link number step) old.links) refl rises)
risen_by (Err e) number step old new high same gone is rises = emptied_rises gone high

pub kept_pushed : (core : CoreMeaning) (k : ℕ) (link : LinkSeen) (links : List LinkSeen) → IsKept core → core.seen.greatest < k → k < 2 ^ 32 → link.link ≡ k → links ≡ core.seen.links ++ link ∷ []
    → IsKept (record core { seen = record core.seen { links = links; greatest = k } })
kept_pushed core k link links kept above small is new =
    let above_is : core.seen.greatest < link.link = omega (arith, is) in
    record {
      rising = subst (λ ls. Rises 0 (numbers ls) k) (sym new) (subst (λ n. Rises 0 (numbers (core.seen.links ++ link ∷ [])) n) is (rises_push 0 core.seen.greatest core.seen.links link kept.rising above_is));
      small = small;
      station = kept.station;
      group = kept.group;
      few = kept.few;
      window = kept.window;
    }

-- some links leave
pub kept_left : (core : CoreMeaning) (served : ServedSeen) (heard : HeardSeen) (reach : ReachSeen) (turned closing : List ℕ) → Rises 0 (numbers served.links) core.seen.greatest → IsKept core
    → IsKept (with_served served (record core { seen = record core.seen { heard = heard; reach = reach; turned = turned; closing = closing } }))
kept_left core served heard reach turned closing rises kept = record { rising = rises; small = kept.small; station = kept.station; group = kept.group; few = kept.few; window = kept.window }

-- some links leave, or want of memory leaves fewer
pub left_by : {E : Type 0} (r : Result ⊤ E) (keep : LinkSeen → Bool) (old new : ServedSeen) (high : ℕ) → OnErr r (IsEmptied old new)
    → OnOk r (new ≡ record old { links = filter keep old.links; waiting = 0 }) → Rises 0 (numbers old.links) high → Rises 0 (numbers new.links) high
left_by (Ok done) keep old new high gone is rises = subst (λ (s : ServedSeen). Rises 0 (numbers s.links) high) (sym is) (rises_filter keep 0 high old.links rises)
left_by (Err e) keep old new high gone is rises = emptied_rises gone high

-- that the links rest is no part of it
pub walks_resting : (core : CoreMeaning) (t : Trace) (rests : Bool) → Walks core t → Walks (record core { rests = rests }) t
walks_resting core t rests walks = record { follows = walks.follows; going = walks.going; lasts = walks.lasts }

-- one link changes
pub kept_at : (core : CoreMeaning) (number : ℕ) (step : LinkSeen → LinkSeen) (links : List LinkSeen) → ((link : LinkSeen) → (step link).link ≡ link.link) → links ≡ map (at_link number step) core.seen.links → IsKept core
    → IsKept (record core { seen = record core.seen { links = links } })
kept_at core number step links same changed kept = record {
  rising = rises_at number step same core.seen.greatest core.seen.links links changed kept.rising;
  small = kept.small;
  station = kept.station;
  group = kept.group;
  few = kept.few;
  window = kept.window;
}

-- ---- links end

-- what there is for other servers, once these have ended
abbrev pub ReachEnds : CoreMeaning → List ℕ → ReachSeen → Type 0
ReachEnds core ends reach = reach ≡ record core.seen.reach { uplinks = ended_all ends core.seen.moment core.seen.reach.uplinks }

-- what is left where links have ended
ends_as : (core : CoreMeaning) (ends closing : List ℕ) (links left : List LinkSeen) (heard : HeardSeen) (reach : ReachSeen) → links ≡ left → heard ≡ forgotten_all ends core.seen.heard
    → ReachEnds core ends reach → closing ≡ placed_all ends core.seen.closing
    → record core.seen { links = links; heard = heard; reach = reach; closing = closing } ≡ with_ends ends left (placed_all ends core.seen.closing) core.seen
ends_as core ends closing links left heard reach is forgotten reached closed = rw (is, forgotten, reached, closed) refl

-- the links that are late
pub walks_late : (core : CoreMeaning) (conf : ConfSeen) (t : Trace) (ends closing : List ℕ) (links : List LinkSeen) (heard : HeardSeen) (reach : ReachSeen) → Walks core t → core.conf ≡ conf
    → ends ≡ numbers (filter (is_late_link (timeouts_of core.conf) core.seen.moment) core.seen.links) → links ≡ filter (is_in_time (timeouts_of core.conf) core.seen.moment) core.seen.links
    → heard ≡ forgotten_all ends core.seen.heard → ReachEnds core ends reach → closing ≡ placed_all ends core.seen.closing
    → Walks (record core { seen = record core.seen { links = links; heard = heard; reach = reach; closing = closing } }) (end_each (late_reason t) (late_links (setting_of conf) t) t)
walks_late core conf t ends closing links heard reach walks same are left forgotten reached closed =
    let s = setting_of core.conf in
    let now = end_each (late_reason t) (late_links s t) t in
    let in_time = filter (is_in_time (timeouts_of core.conf) (moment_of t)) core.seen.links in
    let left_now : links ≡ in_time = left ∙ ap (λ m. filter (is_in_time (timeouts_of core.conf) m) core.seen.links) walks.follows.moment in
    let follows = follows_late s core.seen t walks.follows walks.going ends (are ∙ ap (λ m. numbers (filter (is_late_link (timeouts_of core.conf) m) core.seen.links)) walks.follows.moment) in
    subst (λ (c : ConfSeen). Walks (record core { seen = record core.seen { links = links; heard = heard; reach = reach; closing = closing } }) (end_each (late_reason t) (late_links (setting_of c) t) t)) same
    (record {
      follows = subst (λ seen. Follows s seen now) (sym (ends_as core ends closing links in_time heard reach left_now forgotten reached closed)) follows;
      going = going_after (late_reason t) (late_goes t) (late_links s t) t ∙ walks.going;
      lasts = walks.lasts;
    })

-- the links that are overfull, and those that were turned away
pub walks_refused : (core : CoreMeaning) (conf : ConfSeen) (t : Trace) (ends closing : List ℕ) (links : List LinkSeen) (heard : HeardSeen) (reach : ReachSeen) → Walks core t → core.conf ≡ conf
    → ends ≡ placed_all core.seen.turned (numbers (filter is_overfull core.seen.links)) → links ≡ filter (is_none_of ends) core.seen.links
    → heard ≡ forgotten_all ends core.seen.heard → ReachEnds core ends reach → closing ≡ placed_all ends core.seen.closing
    → Walks (record core { seen = record core.seen { links = links; heard = heard; reach = reach; closing = closing } }) (end_each (refused_reason t) (refused_links (setting_of conf) t) t)
walks_refused core conf t ends closing links heard reach walks same are left forgotten reached closed =
    let s = setting_of core.conf in
    let now = end_each (refused_reason t) (refused_links s t) t in
    let follows = follows_refused_links s core.seen t walks.follows walks.going ends are in
    subst (λ (c : ConfSeen). Walks (record core { seen = record core.seen { links = links; heard = heard; reach = reach; closing = closing } }) (end_each (refused_reason t) (refused_links (setting_of c) t) t)) same
    (record {
      follows = subst (λ seen. Follows s seen now) (sym (ends_as core ends closing links (filter (is_none_of ends) core.seen.links) heard reach left forgotten reached closed)) follows;
      going = going_after (refused_reason t) (refused_goes t) (refused_links s t) t ∙ walks.going;
      lasts = walks.lasts;
    })

-- after a stop all links, and there is still to keep of them what there was, but what they heard
pub follows_stop : (core : CoreMeaning) (conf : ConfSeen) (stopped : Bool) (t : Trace) (ends closing : List ℕ) (heard : HeardSeen) (reach : ReachSeen) → Walks core t → core.conf ≡ conf → stopped ≡ true
    → ends ≡ numbers core.seen.links → heard ≡ forgotten_all ends core.seen.heard → ReachEnds core ends reach → closing ≡ placed_all ends core.seen.closing
    → Follows (setting_of conf) (record core.seen { heard = heard; reach = reach; closing = closing }) (end_stopped stopped t)
follows_stop core conf stopped t ends closing heard reach walks same stops are forgotten reached closed =
    let follows = follows_stopped (setting_of core.conf) core.seen t walks.follows walks.going ends are in
    subst (λ (c : ConfSeen). Follows (setting_of c) (record core.seen { heard = heard; reach = reach; closing = closing }) (end_stopped stopped t)) same
    (subst (λ b. Follows (setting_of core.conf) (record core.seen { heard = heard; reach = reach; closing = closing }) (end_stopped b t)) (sym stops)
    (subst (λ seen. Follows (setting_of core.conf) seen (end_stopped true t)) (sym (ends_as core ends closing core.seen.links core.seen.links heard reach refl forgotten reached closed)) follows))

pub walks_dated : (core : CoreMeaning) (t : Trace) (before : ℕ) (links : List LinkSeen) (line : List ℕ) → Walks core t → nat_lt (before / comment_seconds) (core.seen.moment / comment_seconds) ≡ true
    → line ≡ comment_text core.conf.server core.seen.moment → links ≡ map (with_date line) core.seen.links → Walks (relinked links core) (dated before t)
walks_dated core t before links line walks passed is new =
    let s = setting_of core.conf in
    let m = moment_of t in
    let told : links ≡ map (with_date (comment_text core.conf.server m)) core.seen.links =
    new ∙ ap (λ text. map (with_date text) core.seen.links) (is ∙ ap (comment_text core.conf.server) walks.follows.moment) in
    let border : nat_lt (before / comment_seconds) (m / comment_seconds) ≡ true = ap (λ n. nat_lt (before / comment_seconds) (n / comment_seconds)) (sym walks.follows.moment) ∙ passed in
    subst (λ b. Walks (relinked links core) (if b then Dated m ∷ t else t)) (sym border) (record {
      follows = subst (λ ls. Follows s (with_links ls core.seen) (Dated m ∷ t)) (sym told) (follows_dated s core.seen t walks.follows walks.going m);
      going = walks.going;
      lasts = walks.lasts;
    })
