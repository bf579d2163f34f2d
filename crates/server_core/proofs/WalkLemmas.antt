-- The walk over a round: what the core keeps follows the trace, entry by entry.
use Rattle.std.proofs.Common.{◌≡◌, ℕ, ◌+◌, ◌≤◌, ◌<◌, ◌==◌, Bool, true, false, not, ◌||◌, ◌&&◌, List, [], ◌∷◌, ◌++◌, length, map, filter, nat_lt, refl, sym, ap, ◌∙◌, subst, arith, Option, Some, None, ⊎_elim, append-nil, append_assoc, min, cond, if◌then◌else◌}
use Rattle.std.proofs.lemmas.Bool.{eqb-true, cases_Bool, false_from_ne_true, true≢false}
use Rattle.std.proofs.lemmas.List.{map-append}
use Rattle.std.proofs.lemmas.Simd.{map-map}
use Rattle.aprs_history.proofs.NumberLemmas.{rises_within}
use Rattle.std.specs.Option.{option_or}
use Rattle.aprs_base.specs.Held.{held_after}
use Rattle.aprs_base.specs.declared.texts.Addr.{Addr}
use Rattle.aprs_base.specs.declared.cutting.Cut.{Cut}
use Rattle.aprs_base.specs.declared.packets.Parts.{Parts}
use Rattle.aprs_base.specs.declared.packets.Source.{Source}
use Rattle.aprs_base.specs.declared.totals.Totals.{Totals}
use Rattle.aprs_base.specs.declared.packets.Source.TheVariants as source
use Rattle.heard_routing.specs.Heard.{HeardSeen, without_link, heard_age, promise_age}
use Rattle.station_table.specs.Last.{HasExactly}
use Rattle.station_table.specs.Stations.{young}
use Rattle.station_table.proofs.LastSeen.{note_exactly}
use Rattle.aprs_history.specs.declared.verdicts.FilterAnswer.{FilterAnswer}
use Rattle.aprs_history.specs.declared.verdicts.Session.{Session}
use Rattle.aprs_history.specs.declared.verdicts.LinkKind.{LinkKind}
use Rattle.aprs_history.specs.declared.verdicts.Refusal.{Refusal}
use Rattle.aprs_history.specs.declared.verdicts.Refusal.TheVariants as refusal
use Rattle.uplinks_peers.specs.declared.uplinks.UpEvent.TheVariants as up
use Rattle.uplinks_peers.specs.Uplinks.{UplinksSeen, acts_at, uplinks_after}
use Rattle.aprs_history.specs.Dials.{casts_of, casts_to, dial_of, joined_by, uplinks_of}
use Rattle.aprs_history.specs.declared.verdicts.Verdict.{Verdict}
use Rattle.aprs_history.specs.declared.verdicts.Verdict.TheVariants.{PassedOver, Refused, LoggedIn, Filtered, Accepted}
use Rattle.aprs_history.specs.Downs.{asked_addr, asked_port, downs_in, is_at_line_start, most_downs, one_if, source_down}
use Rattle.aprs_history.specs.Setting.{Setting}
use Rattle.aprs_history.specs.declared.verdicts.Admission.{Admission}
use Rattle.aprs_history.specs.declared.verdicts.Admission.TheVariants.{NoPort, NotAsked, TurnedAway, Served}
use Rattle.aprs_history.specs.Trace.{Trace, Entry, Door, RoundBegan, Dated, Looked, Unjoined, Ticked, Opened, Brought, Said, Roomed, Took, Lost, Ended, closed_links, is_closing, live_links, opened_link, placed, placed_all, stopped_link, stopped_links, served_links, turned_links, is_from, is_unasked, is_live, is_member, is_other, moment_of, last_moment}
use Rattle.aprs_history.specs.declared.verdicts.EndReason.{EndReason}
use Rattle.aprs_history.specs.declared.verdicts.EndReason.TheVariants.{FoundGone, ByPeer, ByStop, Full, NoLogin, Overfull, Silent, Unasked}
use Rattle.aprs_history.specs.Links.{brought_by, has_filters, is_client, is_client_link, is_submitted, opening_of, taken_by, is_gone, gone_links, is_late, is_nameless, late_links, late_reason}
use Rattle.aprs_history.specs.Scenes.{accepted_lately, accepted_of, packet_of}
use Rattle.aprs_history.specs.Messages.{heard_of, promise_of}
use Rattle.aprs_history.specs.Sights.{friend_in, is_gate_at, sighting}
use Rattle.link_queue.specs.Lines.{text_bytes}
use Rattle.aprs_history.specs.Texts.{comment_line, first_line, lines_of, over_links, refused_lines, reply_lines, text_to, added_by, login_reply, refusal_reply}
use Rattle.aprs_history.specs.Counts.{is_duplicate_refusal, is_other_refusal, put_to_all, totals_of}
use Rattle.aprs_history.specs.Stands.{LinkSeen, CoreSeen, ReachSeen, link_seen, place_kept, reach_of, TookNoMore, Follows, Keeps, Remembers, kept_hearing, kept_promise, window_of}
use Rattle.aprs_history.specs.Dates.{comment_text}
use Rattle.aprs_history.specs.History.{end_all, end_each, end_gone, refused_links, refused_reason}
use Rattle.server_core.specs.LinkSteps.{answer_counted, refusal_counted, with_accepted, with_duplicate, with_refused, at_source, ended_all, with_refusal, forgotten_all, hearers_of, owed_in, receiver_of, after_answer, after_login, after_login_answer, after_login_at, after_packet, after_verdict, found_in, new_down, source_asks, with_answer, with_reply, is_there, is_in_time, passed}
use Rattle.served_links.specs.Changes.{takes_packet, takes_shown, with_date, with_shown, at_link, at_moment, with_room, when_gone, with_taken, with_bytes, with_text, with_session, with_packet, new_link_seen}
use Rattle.served_links.specs.Links.{opening_at, opening_kept, starts_line, starts_line_at, client_at, client_kept, submitted_from, filters_at, filters_kept, is_lost, has_that, numbers, is_another, is_late_link, is_none_of, is_overfull, Rises}
use Rattle.served_links.specs.declared.link.SourcePlace.{SourcePlace}
use Rattle.served_links.specs.declared.link.Timeouts.{Timeouts}
use Rattle.aprs_history.proofs.EntryLemmas.{IsSaidBy}
use Rattle.server_core.proofs.CountLemmas.{accepted_puts, accepted_totals, answer_totals, duplicate_totals, login_totals, other_totals, quiet_totals, shown_puts}
use Rattle.server_core.proofs.SightLemmas.{friends_found, sighting_found, source_known}
use Rattle.server_core.proofs.MemberLemmas.{eqb_turned, member_filtered, member_here, member_later}
use Rattle.server_core.proofs.HeardLemmas.{Speaks, hearers_are, owed_are, remembers_accepted, remembers_all_ended, remembers_ended, remembers_opened, remembers_unserved, remembers_passed}
use Rattle.server_core.proofs.FollowLemmas.{picked_missing, picked_seen, answered_seen, map_through, dated_seen, round_seen, text_number, texts_grow, ticked_seen, with_login, roomed_seen, lost_seen, took_seen, brought_seen, refused_seen, replied_seen, passed_seen, login_seen, accepted_seen, opened_seen, new_seen, shown_seen, looked_seen, quiet_downs, unjoined_seen, stayed_seen}
use Rattle.heard_routing.specs.LastHeard.{still}
use Rattle.dupe_window.specs.Keys.{key_of}
use Rattle.dupe_window.specs.Recalled.{recalled}
use Rattle.dupe_window.specs.Windows.{expired, with_key}
use Rattle.dupe_window.proofs.RecalledLemmas.{recalled-later, recalled-push_now}
use Rattle.std.proofs.Math.Nat.{le-max_right}

-- ---- lists of numbers

-- maps that agree at each member
map_members : {Y : Type 0} (f : ℕ → Y) (h : ℕ → Y) (before xs : List ℕ) → ((x : ℕ) → is_member x (before ++ xs) ≡ true → f x ≡ h x) → map f xs ≡ map h xs
map_members f h before [] same = refl
map_members f h before (x ∷ xs) same =
    let later : map f xs ≡ map h xs =
    map_members f h (before ++ x ∷ []) xs (λ y member. same y (subst (λ ys. is_member y ys ≡ true) (append_assoc before (x ∷ []) xs) member)) in
    rw (same x (member_here before xs x), later) refl

pub map_on : {Y : Type 0} (f : ℕ → Y) (h : ℕ → Y) (xs : List ℕ) → ((x : ℕ) → is_member x xs ≡ true → f x ≡ h x) → map f xs ≡ map h xs
map_on f h xs same = map_members f h [] xs same

-- two steps at one link
pub at_twice : (k : ℕ) (g h : LinkSeen → LinkSeen) → ((link : LinkSeen) → (h link).link ≡ link.link) → (link : LinkSeen)
    → at_link k g (at_link k h link) ≡ at_link k (λ l. g (h l)) link
at_twice k g h keeps link =
    ⊎_elim
    (λ here. ap (λ b. at_link k g (cond b (h link) link)) here ∙ ap (λ b. cond b (g (h link)) (h link)) (ap (λ n. n == k) (keeps link) ∙ here) ∙ sym (ap (λ b. cond b (g (h link)) link) here))
    (λ other. ap (λ b. at_link k g (cond b (h link) link)) other ∙ ap (λ b. cond b (g link) link) other ∙ sym (ap (λ b. cond b (g (h link)) link) other))
    (cases_Bool (has_that k link))

-- members of rising numbers
pub member_below : (low high : ℕ) (ns : List ℕ) (x : ℕ) → Rises low ns high → is_member x ns ≡ true → (low < x) × (x ≤ high)
member_below low high [] x rises member = absurd (true≢false (sym member))
member_below low high (n ∷ ns) x rises member =
    ⊎_elim
    (λ here. let same : n ≡ x = eqb-true n x here in let above = rises.0 in (omega arith, subst (λ m. m ≤ high) same (rises_within n high ns rises.1)))
    (λ other. let later = member_below n high ns x rises.1 (rw other at member) in let above = rises.0 in let more = later.0 in (omega arith, later.1))
    (cases_Bool (n == x))

-- ---- no link takes more than its text

-- entries that leave live links and clients, and what they heard and were promised, leave what a table remembers
remembers_as : (table : HeardSeen) (t u : Trace) → moment_of u ≡ moment_of t → ((l : ℕ) → is_live u l ≡ is_live t l) → ((l : ℕ) → is_client u l ≡ is_client t l) → ((l : ℕ) (call : List ℕ) → heard_of u l call ≡ heard_of t l call)
    → ((l : ℕ) (sender : List ℕ) → promise_of u l sender ≡ promise_of t l sender) → Remembers table t → Remembers table u
remembers_as table t u moment live client heard promised remembers = record {
  once_heard = remembers.once_heard;
  once_promised = remembers.once_promised;
  heard = λ l call. remembers.heard l call ∙ ap (λ b. if b then kept_hearing t l call else None) (sym (client l))
      ∙ ap (λ told. if is_client u l then told else None) (sym (ap (λ now. still heard_age now (heard_of u l call)) moment ∙ ap (still heard_age (moment_of t)) (heard l call)));
  promised = λ l sender. remembers.promised l sender ∙ ap (λ b. if b then kept_promise t l sender else None) (sym (live l))
      ∙ ap (λ told. if is_live u l then told else None) (sym (ap (λ now. still promise_age now (promise_of u l sender)) moment ∙ ap (still promise_age (moment_of t)) (promised l sender)));
}

module _ (s : Setting) where
  took_said : (t : Trace) → TookNoMore s t → (k : Source) (cut : Cut) (verdict : Verdict) → TookNoMore s (Said k cut verdict ∷ t)
  took_said t took k cut verdict j = texts_grow (taken_by t j) (added_by s t k verdict j) (text_to s t j) (taken_by t j) (took j)

  took_dated : (t : Trace) → TookNoMore s t → (moment : ℕ) → TookNoMore s (Dated moment ∷ t)
  took_dated t took moment j =
      texts_grow (taken_by t j) (if is_client t j then comment_line s.server moment ∷ [] else []) (text_to s t j) (taken_by t j) (took j)

  took_opened : (t : Trace) → TookNoMore s t → (door : Door) (admission : Admission) (k : ℕ) (from : Addr) → TookNoMore s (Opened door admission k from ∷ t)
  took_opened t took door admission k from j = ⊎_elim (λ here. rw here (omega arith)) (λ other. rw other (took j)) (cases_Bool (j == k))

  took_took : (t : Trace) → TookNoMore s t → (k offered n : ℕ) → taken_by t k + n ≤ length (text_bytes (lines_of s t k)) → TookNoMore s (Took k offered n ∷ t)
  took_took t took k offered n le j =
      ⊎_elim
      (λ here. let same : j ≡ k = eqb-true j k here in rw here (subst (λ i. taken_by t i + n ≤ length (text_bytes (lines_of s t i))) (sym same) le))
      (λ other. rw other (took j)) (cases_Bool (j == k))

-- the numbers of what there is to keep are the links themselves
pub numbers_seen : (s : Setting) (t : Trace) (ks : List ℕ) → numbers (map (link_seen s t) ks) ≡ ks
unfolding link_seen
numbers_seen s t [] = refl
numbers_seen s t (k ∷ ks) = ap (λ ns. k ∷ ns) (numbers_seen s t ks)

pub below_other : (j k high : ℕ) (ns : List ℕ) → Rises 0 ns high → high < k → is_member j ns ≡ true → (j == k) ≡ false
below_other j k high ns rises above member =
    let within = member_below 0 high ns j rises member in
    let le : j ≤ high = within.1 in
    false_from_ne_true _ (λ is. let same : j ≡ k = eqb-true j k is in absurd (omega arith))

-- ---- one entry more

abbrev pub with_links : List LinkSeen → CoreSeen → CoreSeen
with_links links core = record core { links = links }

abbrev pub with_heard : HeardSeen → CoreSeen → CoreSeen
with_heard heard core = record core { heard = heard }

abbrev pub with_reach : ReachSeen → CoreSeen → CoreSeen
with_reach reach core = record core { reach = reach }

module _ (s : Setting) (core : CoreSeen) (t : Trace) (follows : Follows s core t) where
  -- what the tables have at the same moment, where nothing more was accepted
  same_window : (u : Trace) → moment_of u ≡ moment_of t → accepted_of u ≡ accepted_of t → core.window ≡ window_of s u
  same_window u moment accepted =
      follows.tables.window
      ∙ ap (λ now. record { pairs = recalled s.window now (accepted_of t); seconds = s.window }) (sym moment)
      ∙ ap (λ packets. record { pairs = recalled s.window (moment_of u) packets; seconds = s.window }) (sym accepted)

  same_stations : (u : Trace) → moment_of u ≡ moment_of t → accepted_of u ≡ accepted_of t → HasExactly (moment_of u) core.stations (accepted_of u)
  same_stations u moment accepted =
      subst (λ now. HasExactly now core.stations (accepted_of u)) (sym moment) (subst (HasExactly (moment_of t) core.stations) (sym accepted) follows.tables.stations)

  -- entries that accept nothing, and leave the moment and live links with what they heard and were promised, leave what the
  -- tables have
  same_tables : (u : Trace) → moment_of u ≡ moment_of t → accepted_of u ≡ accepted_of t → ((l : ℕ) → is_live u l ≡ is_live t l) → ((l : ℕ) → is_client u l ≡ is_client t l)
      → ((l : ℕ) (call : List ℕ) → heard_of u l call ≡ heard_of t l call) → ((l : ℕ) (sender : List ℕ) → promise_of u l sender ≡ promise_of t l sender) → Keeps s core.window core.stations core.heard u
  same_tables u moment accepted live client heard promised = record {
    window = same_window u moment accepted;
    stations = same_stations u moment accepted;
    heard = remembers_as core.heard t u moment live client heard promised follows.tables.heard;
  }

  -- an entry that leaves the moment, who is there, what packets told and what is counted
  abbrev Leaves : Entry → Type 0
  Leaves entry =
      (moment_of (entry ∷ t) ≡ moment_of t) × (turned_links (entry ∷ t) ≡ turned_links t) × (closed_links (entry ∷ t) ≡ closed_links t) × (served_links (entry ∷ t) ≡ served_links t)
      × (accepted_of (entry ∷ t) ≡ accepted_of t) × ((l : ℕ) → is_live (entry ∷ t) l ≡ is_live t l) × ((l : ℕ) → is_client (entry ∷ t) l ≡ is_client t l)
      × ((l : ℕ) (call : List ℕ) → heard_of (entry ∷ t) l call ≡ heard_of t l call) × ((l : ℕ) (sender : List ℕ) → promise_of (entry ∷ t) l sender ≡ promise_of t l sender)
      × (totals_of s (entry ∷ t) ≡ totals_of s t) × (downs_in s (entry ∷ t) ≡ downs_in s t)

  follows_left : (entry : Entry) (reach : ReachSeen) (links : List LinkSeen) → Leaves entry → reach ≡ reach_of s (entry ∷ t) → links ≡ map (link_seen s (entry ∷ t)) (served_links t)
      → TookNoMore s (entry ∷ t) → Follows s (record core { links = links; reach = reach }) (entry ∷ t)
  follows_left entry reach links same reached are took = record {
    moment = follows.moment ∙ sym same.0;
    reach = reached;
    turned = follows.turned ∙ sym same.1;
    closing = follows.closing ∙ sym same.2;
    links = are ∙ ap (map (link_seen s (entry ∷ t))) (sym same.3);
    tables = same_tables (entry ∷ t) same.0 same.4 same.5 same.6 same.7 same.8;
    took = took;
    downs = follows.downs ∙ sym same.10;
    totals = follows.totals ∙ sym same.9;
  }

  -- a round begins
  pub follows_began : Follows s (record core { turned = []; closing = []; reach = record core.reach { dial = None; casts = []; accepted = [] } }) (RoundBegan ∷ t)
  unfolding totals_of
  follows_began = record {
    moment = follows.moment;
    reach = ap (λ (reach : ReachSeen). record reach { dial = None; casts = []; accepted = [] }) follows.reach;
    turned = refl;
    closing = refl;
    links = follows.links ∙ sym (map_on (link_seen s (RoundBegan ∷ t)) (link_seen s t) (served_links t) (λ j member. round_seen s t j));
    tables = same_tables (RoundBegan ∷ t) refl refl (λ l. refl) (λ l. refl) (λ l call. refl) (λ l sender. refl);
    took = follows.took;
    downs = follows.downs;
    totals = follows.totals;
  }

  -- the moment rises
  pub follows_risen : (m : ℕ) → HasExactly (moment_of (Ticked m ∷ t)) (young (moment_of (Ticked m ∷ t)) core.stations) (accepted_of t) → Follows s (passed (moment_of (Ticked m ∷ t)) core) (Ticked m ∷ t)
  unfolding totals_of
  follows_risen m sights =
      let now = moment_of (Ticked m ∷ t) in
      let later : moment_of t ≤ now = le-max_right (min m last_moment) (moment_of t) in
      record {
        moment = refl;
        reach = follows.reach;
        turned = follows.turned;
        closing = follows.closing;
        links = ap (map (at_moment now)) follows.links ∙ sym (map_through (link_seen s (Ticked m ∷ t)) (at_moment now) (link_seen s t) (ticked_seen s t m) (served_links t));
        tables = record {
          window = ap (expired now) follows.tables.window ∙ ap (λ pairs. record { pairs = pairs; seconds = s.window }) (recalled-later s.window (moment_of t) now (accepted_of t) later);
          stations = sights;
          heard = remembers_passed core.heard t m follows.tables.heard;
        };
        took = follows.took;
        downs = follows.downs;
        totals = follows.totals;
      }

  -- a tick within the same second
  pub follows_stayed : (m : ℕ) → moment_of (Ticked m ∷ t) ≡ moment_of t → Follows s core (Ticked m ∷ t)
  unfolding totals_of
  follows_stayed m same =
      follows_left (Ticked m) core.reach core.links (same, refl, refl, refl, refl, λ l. refl, λ l. refl, λ l call. refl, λ l sender. refl, refl, refl) follows.reach
      (follows.links ∙ sym (map_on (link_seen s (Ticked m ∷ t)) (link_seen s t) (served_links t) (λ j member. stayed_seen s t m j same))) follows.took

  pub follows_roomed : (k : ℕ) → Follows s (with_links (map (at_link k with_room) core.links) core) (Roomed k ∷ t)
  unfolding totals_of
  follows_roomed k =
      follows_left (Roomed k) core.reach (map (at_link k with_room) core.links) (refl, refl, refl, refl, refl, λ l. refl, λ l. refl, λ l call. refl, λ l sender. refl, refl, refl) follows.reach
      (ap (map (at_link k with_room)) follows.links ∙ sym (map_through (link_seen s (Roomed k ∷ t)) (at_link k with_room) (link_seen s t) (roomed_seen s t k) (served_links t))) follows.took

  pub follows_lost : (k : ℕ) → Follows s (with_links (map (at_link k when_gone) core.links) core) (Lost k ∷ t)
  unfolding totals_of
  follows_lost k =
      follows_left (Lost k) core.reach (map (at_link k when_gone) core.links) (refl, refl, refl, refl, refl, λ l. refl, λ l. refl, λ l call. refl, λ l sender. refl, refl, refl) follows.reach
      (ap (map (at_link k when_gone)) follows.links ∙ sym (map_through (link_seen s (Lost k ∷ t)) (at_link k when_gone) (link_seen s t) (lost_seen s t k) (served_links t))) follows.took

  pub follows_took : (k offered n : ℕ) → taken_by t k + n ≤ length (text_bytes (lines_of s t k))
      → Follows s (with_links (map (at_link k (with_taken offered n)) core.links) core) (Took k offered n ∷ t)
  unfolding totals_of
  follows_took k offered n le =
      follows_left (Took k offered n) core.reach (map (at_link k (with_taken offered n)) core.links) (refl, refl, refl, refl, refl, λ l. refl, λ l. refl, λ l call. refl, λ l sender. refl, refl, refl) follows.reach
      (ap (map (at_link k (with_taken offered n))) follows.links
      ∙ sym (map_through (link_seen s (Took k offered n ∷ t)) (at_link k (with_taken offered n)) (link_seen s t) (took_seen s t k offered n) (served_links t))) (took_took s t follows.took k offered n le)

  -- what there is for other servers, once a step was taken at the moment
  stepped_reach : (step : ℕ → UplinksSeen → UplinksSeen) → record core.reach { uplinks = step core.moment core.reach.uplinks } ≡ record (reach_of s t) { uplinks = step (moment_of t) (uplinks_of s t) }
  stepped_reach step =
      ap (λ m. record core.reach { uplinks = step m core.reach.uplinks }) follows.moment ∙ ap (λ (reach : ReachSeen). record reach { uplinks = step (moment_of t) reach.uplinks }) follows.reach

  pub follows_brought : (k : ℕ) (bytes : List ℕ)
      → Follows s (with_reach (record core.reach { uplinks = uplinks_after (up.Heard k) core.moment core.reach.uplinks })
      (with_links (map (at_link k (with_bytes core.moment (held_after (brought_by t k ++ bytes)))) core.links) core)) (Brought k bytes ∷ t)
  unfolding totals_of
  follows_brought k bytes =
      follows_left (Brought k bytes) (record core.reach { uplinks = uplinks_after (up.Heard k) core.moment core.reach.uplinks })
      (map (at_link k (with_bytes core.moment (held_after (brought_by t k ++ bytes)))) core.links) (refl, refl, refl, refl, refl, λ l. refl, λ l. refl, λ l call. refl, λ l sender. refl, refl, refl)
      (stepped_reach (uplinks_after (up.Heard k)))
      (ap (λ m. map (at_link k (with_bytes m (held_after (brought_by t k ++ bytes)))) core.links) follows.moment
      ∙ ap (map (at_link k (with_bytes (moment_of t) (held_after (brought_by t k ++ bytes))))) follows.links
      ∙ sym (map_through (link_seen s (Brought k bytes ∷ t)) (at_link k (with_bytes (moment_of t) (held_after (brought_by t k ++ bytes)))) (link_seen s t) (brought_seen s t k bytes) (served_links t)))
      follows.took

  -- an uplink may be dialled
  pub follows_looked : Follows s (with_reach (record core.reach {
    uplinks = uplinks_after up.Tick core.moment core.reach.uplinks;
    dial = (acts_at up.Tick core.moment core.reach.uplinks).dial;
  }) core) (Looked ∷ t)
  unfolding totals_of
  follows_looked =
      follows_left Looked (record core.reach { uplinks = uplinks_after up.Tick core.moment core.reach.uplinks; dial = (acts_at up.Tick core.moment core.reach.uplinks).dial }) core.links (refl, refl, refl, refl, refl, λ l. refl, λ l. refl, λ l call. refl, λ l sender. refl, refl, refl)
      (ap (λ m. record core.reach { uplinks = uplinks_after up.Tick m core.reach.uplinks; dial = (acts_at up.Tick m core.reach.uplinks).dial }) follows.moment
      ∙ ap (λ (reach : ReachSeen). record reach { uplinks = uplinks_after up.Tick (moment_of t) reach.uplinks; dial = (acts_at up.Tick (moment_of t) reach.uplinks).dial }) follows.reach)
      (follows.links ∙ sym (map_on (link_seen s (Looked ∷ t)) (link_seen s t) (served_links t) (λ j member. looked_seen s t j))) follows.took

  pub follows_unjoined : (uplink : ℕ) → Follows s (with_reach (record core.reach { uplinks = uplinks_after (up.Unjoined uplink) core.moment core.reach.uplinks }) core) (Unjoined uplink ∷ t)
  unfolding totals_of
  follows_unjoined uplink =
      follows_left (Unjoined uplink) (record core.reach { uplinks = uplinks_after (up.Unjoined uplink) core.moment core.reach.uplinks }) core.links (refl, refl, refl, refl, refl, λ l. refl, λ l. refl, λ l call. refl, λ l sender. refl, refl, refl)
      (stepped_reach (uplinks_after (up.Unjoined uplink)))
      (follows.links ∙ sym (map_on (link_seen s (Unjoined uplink ∷ t)) (link_seen s t) (served_links t) (λ j member. unjoined_seen s t uplink j))) follows.took

  -- a line that isn't accepted is for no peer
  no_casts : core.reach ≡ record (reach_of s t) { casts = casts_of s t ++ []; accepted = accepted_lately t ++ [] }
  no_casts =
      follows.reach
      ∙ ap (λ casts. record (reach_of s t) { casts = casts }) (sym (append-nil (casts_of s t)))
      ∙ ap (λ packets. record (reach_of s t) { casts = casts_of s t ++ []; accepted = packets }) (sym (append-nil (accepted_lately t)))

  -- a step at the link whose line it is
  stepped_at : (from : Source) (step : LinkSeen → LinkSeen) (u : Trace) → ((j : ℕ) → link_seen s u j ≡ (if is_from j from then step (link_seen s t j) else link_seen s t j))
      → at_source from step core.links ≡ map (link_seen s u) (served_links t)
  unfolding link_seen
  stepped_at (source.Link k) step u same =
      ap (map (at_link k step)) follows.links ∙ sym (map_through (link_seen s u) (at_link k step) (link_seen s t) same (served_links t))
  stepped_at from step u same = follows.links ∙ sym (map_on (link_seen s u) (link_seen s t) (served_links t) (λ j member. same j))

  follows_passed : (from : Source) (cut : Cut) → Follows s core (Said from cut PassedOver ∷ t)
  follows_passed from cut = record {
    moment = follows.moment;
    reach = no_casts;
    turned = follows.turned;
    closing = follows.closing;
    links = follows.links ∙ sym (map_on (link_seen s (Said from cut PassedOver ∷ t)) (link_seen s t) (served_links t) (λ j member. passed_seen s t from cut j));
    tables = same_tables (Said from cut PassedOver ∷ t) refl (append-nil (accepted_of t)) (λ l. refl) (λ l. refl) (λ l call. refl) (λ l sender. refl);
    took = took_said s t follows.took from cut PassedOver;
    downs = follows.downs ∙ sym (quiet_downs s t from cut PassedOver refl);
    totals = follows.totals ∙ sym (quiet_totals s t from cut PassedOver refl refl refl (λ j. refl));
  }

  -- a line that is refused, with a reply or without
  refused_as : (from : Source) (cut : Cut) (why : Refusal) (links : List LinkSeen) (totals : Totals) → links ≡ map (link_seen s (Said from cut (Refused why) ∷ t)) (served_links t)
      → totals ≡ totals_of s (Said from cut (Refused why) ∷ t) → Follows s (record core { links = links; totals = totals }) (Said from cut (Refused why) ∷ t)
  refused_as from cut why links totals are counts = record {
    moment = follows.moment;
    reach = no_casts;
    turned = follows.turned;
    closing = follows.closing;
    links = are;
    tables = same_tables (Said from cut (Refused why) ∷ t) refl (append-nil (accepted_of t)) (λ l. refl) (λ l. refl) (λ l call. refl) (λ l sender. refl);
    took = took_said s t follows.took from cut (Refused why);
    downs = follows.downs ∙ sym (quiet_downs s t from cut (Refused why) refl);
    totals = counts;
  }

  refused_totals : (from : Source) (cut : Cut) (why : Refusal) → is_duplicate_refusal why ≡ false → is_other_refusal why ≡ true
      → ((j : ℕ) → refused_lines t from why j ≡ (if is_from j from then reply_lines (refusal_reply why) else [])) → with_refused core.totals ≡ totals_of s (Said from cut (Refused why) ∷ t)
  refused_totals from cut why single other plain = ap with_refused follows.totals ∙ other_totals s t from cut why single other plain

  follows_told : (from : Source) (cut : Cut) (why : Refusal) (reply : Option (List ℕ)) → is_duplicate_refusal why ≡ false → is_other_refusal why ≡ true
      → ((j : ℕ) → refused_lines t from why j ≡ (if is_from j from then reply_lines (refusal_reply why) else [])) → reply ≡ refusal_reply why
      → Follows s (record core { links = with_reply from reply core.links; totals = with_refused core.totals }) (Said from cut (Refused why) ∷ t)
  follows_told from cut why None single other plain none =
      refused_as from cut why core.links (with_refused core.totals)
      (follows.links ∙ sym (map_on (link_seen s (Said from cut (Refused why) ∷ t)) (link_seen s t) (served_links t) (λ j member. refused_seen s t from cut why j (plain j) none)))
      (refused_totals from cut why single other plain)
  follows_told from cut why (Some line) single other plain some =
      refused_as from cut why (at_source from (with_text line) core.links) (with_refused core.totals)
      (stepped_at from (with_text line) (Said from cut (Refused why) ∷ t) (λ j. replied_seen s t follows.took from cut why line j (plain j) some))
      (refused_totals from cut why single other plain)

  -- the duplicate is put into the texts of the links that are shown such and have room
  shown_totals : stopped_links t ≡ [] → (from : Source) (cut : Cut) (parts : Parts) (line : List ℕ)
      → with_duplicate (length (filter (takes_shown from) core.links)) core.totals ≡ totals_of s (Said from cut (Refused (refusal.Duplicate parts line)) ∷ t)
  shown_totals going from cut parts line =
      ap (λ links. with_duplicate (length (filter (takes_shown from) links)) core.totals) (follows.links ∙ ap (λ stopped. map (link_seen s t) (stopped ++ live_links t)) going)
      ∙ ap (λ n. with_duplicate n core.totals) (sym (shown_puts s t from cut parts line))
      ∙ ap (with_duplicate (put_to_all s (Said from cut (Refused (refusal.Duplicate parts line))) t (live_links t))) follows.totals
      ∙ duplicate_totals s t from cut parts line

  follows_shown : stopped_links t ≡ [] → (from : Source) (cut : Cut) (parts : Parts) (line : List ℕ)
      → Follows s (record core { links = map (with_shown from line) core.links; totals = with_duplicate (length (filter (takes_shown from) core.links)) core.totals })
      (Said from cut (Refused (refusal.Duplicate parts line)) ∷ t)
  follows_shown going from cut parts line =
      let u = Said from cut (Refused (refusal.Duplicate parts line)) ∷ t in
      refused_as from cut (refusal.Duplicate parts line) (map (with_shown from line) core.links) (with_duplicate (length (filter (takes_shown from) core.links)) core.totals)
      (ap (map (with_shown from line)) follows.links ∙ map-map (with_shown from line) (link_seen s t) (served_links t)
      ∙ sym (map_on (link_seen s u) (λ j. with_shown from line (link_seen s t j)) (served_links t)
      (λ j member. shown_seen s t follows.took from cut parts line j (subst (λ stopped. is_member j (stopped ++ live_links t) ≡ true) going member))))
      (shown_totals going from cut parts line)

  follows_refused : stopped_links t ≡ [] → (from : Source) (cut : Cut) (why : Refusal)
      → Follows s (record core { links = with_refusal from why core.links; totals = refusal_counted from why core.links core.totals }) (Said from cut (Refused why) ∷ t)
  follows_refused going from cut (refusal.Duplicate parts line) = follows_shown going from cut parts line
  follows_refused going from cut (refusal.Login fault) = follows_told from cut (refusal.Login fault) (refusal_reply (refusal.Login fault)) refl refl (λ j. refl) refl
  follows_refused going from cut refusal.OwnName = follows_told from cut refusal.OwnName (refusal_reply refusal.OwnName) refl refl (λ j. refl) refl
  follows_refused going from cut why = follows_told from cut why None refl refl (λ j. refl) refl

  -- where the calls of terms are found is where the trace says that they were last seen
  answers_agree : (from : Source) (answer : FilterAnswer) (links : List LinkSeen)
      → at_source from (with_answer (found_in core.moment core.stations) answer) links ≡ at_source from (with_answer (friend_in (accepted_of t) (moment_of t)) answer) links
  answers_agree from answer links = λ i. at_source from (with_answer (λ term. friends_found core (accepted_of t) (moment_of t) follows.moment follows.tables.stations term i) answer) links

  follows_answer : (from : Source) (cut : Cut) (answer : FilterAnswer) → Follows s (after_answer from answer core) (Said from cut (Filtered answer) ∷ t)
  follows_answer from cut answer = record {
    moment = follows.moment;
    reach = no_casts;
    turned = follows.turned;
    closing = follows.closing;
    links = answers_agree from answer core.links
        ∙ stepped_at from (with_answer (friend_in (accepted_of t) (moment_of t)) answer) (Said from cut (Filtered answer) ∷ t) (answered_seen s t follows.took from cut answer);
    tables = same_tables (Said from cut (Filtered answer) ∷ t) refl (append-nil (accepted_of t)) (λ l. refl) (λ l. refl) (λ l call. refl) (λ l sender. refl);
    took = took_said s t follows.took from cut (Filtered answer);
    downs = follows.downs ∙ sym (quiet_downs s t from cut (Filtered answer) refl);
    totals = ap (answer_counted answer) follows.totals ∙ answer_totals s t from cut answer;
  }

  at_source_twice : (from : Source) (g h : LinkSeen → LinkSeen) → ((link : LinkSeen) → (h link).link ≡ link.link) → (links : List LinkSeen)
      → at_source from g (at_source from h links) ≡ at_source from (λ l. g (h l)) links
  at_source_twice (source.Link k) g h keeps links = map-map (at_link k g) (at_link k h) links ∙ (λ i. map (λ link. at_twice k g h keeps link i) links)
  at_source_twice from g h keeps links = refl

  -- the address that a link asks for by what is said
  abbrev asked_said : Source → Cut → Verdict → Option Addr
  asked_said from cut verdict = source_down s t (downs_in s t) from (asked_port cut verdict)

  logged_links : (from : Source) (session : Session) (asked : Option Addr) (answer : Option FilterAnswer)
      → (after_login_answer from answer (after_login_at s.server from session asked core)).links
      ≡ at_source from (with_login (accepted_of t) (moment_of t) session (new_down core.downs asked) (login_reply s.server session) answer) core.links
  logged_links from session asked None =
      ap (λ place. at_source from (with_session session (new_down core.downs asked) place (login_reply s.server session)) core.links)
      (sighting_found core (accepted_of t) (moment_of t) follows.moment follows.tables.stations session.call)
  logged_links from session asked (Some answer) =
      let reply = login_reply s.server session in
      let down = new_down core.downs asked in
      let logged = with_session session down (sighting (accepted_of t) (moment_of t) session.call) reply in
      let answered = with_answer (friend_in (accepted_of t) (moment_of t)) answer in
      ap (λ place. at_source from (with_answer (found_in core.moment core.stations) answer) (at_source from (with_session session down place reply) core.links))
      (sighting_found core (accepted_of t) (moment_of t) follows.moment follows.tables.stations session.call)
      ∙ answers_agree from answer (at_source from logged core.links)
      ∙ at_source_twice from answered logged
      (λ link. text_number reply (record link { session = Some session; down = option_or down link.down; mine = place_kept link.over (sighting (accepted_of t) (moment_of t) session.call) })) core.links

  follows_login_at : (from : Source) (cut : Cut) (session : Session) (answer : Option FilterAnswer)
      → Follows s (after_login_answer from answer (after_login_at s.server from session (asked_said from cut (LoggedIn session answer)) core)) (Said from cut (LoggedIn session answer) ∷ t)
  follows_login_at from cut session answer =
      let asked = asked_said from cut (LoggedIn session answer) in
      let reply = login_reply s.server session in
      logged_in answer (logged_links from session asked answer
      ∙ ap (λ n. at_source from (with_login (accepted_of t) (moment_of t) session (new_down n asked) reply answer) core.links) follows.downs
      ∙ stepped_at from (with_login (accepted_of t) (moment_of t) session (new_down (downs_in s t) asked) reply answer) (Said from cut (LoggedIn session answer) ∷ t) (login_seen s t follows.took from cut session answer))
    where
      logged_in : (answer : Option FilterAnswer)
          → (after_login_answer from answer (after_login_at s.server from session (asked_said from cut (LoggedIn session answer)) core)).links ≡ map (link_seen s (Said from cut (LoggedIn session answer) ∷ t)) (served_links t)
          → Follows s (after_login_answer from answer (after_login_at s.server from session (asked_said from cut (LoggedIn session answer)) core)) (Said from cut (LoggedIn session answer) ∷ t)
      logged_in None links = record {
        moment = follows.moment;
        reach = no_casts;
        turned = follows.turned;
        closing = follows.closing;
        links = links;
        tables = same_tables (Said from cut (LoggedIn session None) ∷ t) refl (append-nil (accepted_of t)) (λ l. refl) (λ l. refl) (λ l call. refl) (λ l sender. refl);
        took = took_said s t follows.took from cut (LoggedIn session None);
        downs = ap (λ n. n + one_if (asked_said from cut (LoggedIn session None))) follows.downs;
        totals = follows.totals ∙ login_totals s t from cut session None;
      }
      logged_in (Some given) links = record {
        moment = follows.moment;
        reach = no_casts;
        turned = follows.turned;
        closing = follows.closing;
        links = links;
        tables = same_tables (Said from cut (LoggedIn session (Some given)) ∷ t) refl (append-nil (accepted_of t)) (λ l. refl) (λ l. refl) (λ l call. refl) (λ l sender. refl);
        took = took_said s t follows.took from cut (LoggedIn session (Some given));
        downs = ap (λ n. n + one_if (asked_said from cut (LoggedIn session (Some given)))) follows.downs;
        totals = ap (answer_counted given) follows.totals ∙ login_totals s t from cut session (Some given);
      }

  -- which ports have filters, of the links that live and of others
  live_now : stopped_links t ≡ [] → core.links ≡ map (link_seen s t) (live_links t)
  live_now going = follows.links ∙ ap (λ stopped. map (link_seen s t) (stopped ++ live_links t)) going

  filters_live : stopped_links t ≡ [] → (l : ℕ) → is_live t l ≡ true → filters_at l core.links ≡ has_filters (opening_of t l)
  unfolding link_seen
  filters_live going l live = ap (filters_at l) (live_now going) ∙ picked_seen filters_kept false s t l (live_links t) live

  filters_nowhere : stopped_links t ≡ [] → (l : ℕ) → is_live t l ≡ false → filters_at l core.links ≡ false
  filters_nowhere going l dead = ap (filters_at l) (live_now going) ∙ picked_missing filters_kept false s t l (live_links t) dead

  -- which links are clients
  client_live : stopped_links t ≡ [] → (l : ℕ) → is_live t l ≡ true → client_at l core.links ≡ is_client_link (opening_of t l)
  unfolding link_seen
  client_live going l live = ap (client_at l) (live_now going) ∙ picked_seen client_kept false s t l (live_links t) live

  speaks : stopped_links t ≡ [] → (from : Source) → IsSaidBy t from → Speaks t core.links from
  speaks going (source.Link k) live = (live, client_live going k live ∙ sym (ap (λ b. b && is_client_link (opening_of t k)) live))
  speaks going from says = tt

  submitted_as : stopped_links t ≡ [] → (from : Source) → IsSaidBy t from → submitted_from from core.links ≡ is_submitted t from
  submitted_as going (source.Link k) live = client_live going k live
  submitted_as going from says = refl

  -- where a link asks for its lines is where the trace says that it does
  asks_known : stopped_links t ≡ [] → (from : Source) → IsSaidBy t from → (port : Option ℕ) → source_asks s.downs from port core ≡ source_down s t (downs_in s t) from port
  unfolding link_seen
  asks_known going (source.Link k) live port =
      let starts : starts_line_at k core.links ≡ is_at_line_start s t k = ap (starts_line_at k) (live_now going) ∙ picked_seen starts_line true s t k (live_links t) live in
      let opened : opening_at k core.links ≡ opening_of t k = ap (opening_at k) (live_now going) ∙ picked_seen opening_kept None s t k (live_links t) live in
      ap (λ n. asked_addr s.downs (opening_at k core.links) (if nat_lt n most_downs && starts_line_at k core.links then port else None)) follows.downs
      ∙ ap (λ b. asked_addr s.downs (opening_at k core.links) (if nat_lt (downs_in s t) most_downs && b then port else None)) starts
      ∙ ap (λ opening. asked_addr s.downs opening (if nat_lt (downs_in s t) most_downs && is_at_line_start s t k then port else None)) opened
  asks_known going from says port = refl

  follows_login : stopped_links t ≡ [] → (from : Source) (cut : Cut) (session : Session) (answer : Option FilterAnswer) → IsSaidBy t from
      → Follows s (after_login_answer from answer (after_login s.server s.downs from (asked_port cut (LoggedIn session answer)) session core)) (Said from cut (LoggedIn session answer) ∷ t)
  follows_login going from cut session answer says =
      subst (λ asked. Follows s (after_login_answer from answer (after_login_at s.server from session asked core)) (Said from cut (LoggedIn session answer) ∷ t))
      (sym (asks_known going from says (asked_port cut (LoggedIn session answer)))) (follows_login_at from cut session answer)

  follows_accepted : stopped_links t ≡ [] → 0 < s.window → (from : Source) (cut : Cut) (parts : Parts) (line : List ℕ) → IsSaidBy t from
      → Follows s (after_packet s.peers (packet_of from (moment_of t) parts line) (record core { moment = moment_of t })) (Said from cut (Accepted parts line) ∷ t)
  follows_accepted going lasts from cut parts line says =
      let packet = packet_of from (moment_of t) parts line in
      let place_of : Bool → SourcePlace = λ submitted. record { place = sighting (accepted_of t) (moment_of t) parts.source; gate = is_gate_at (accepted_of t) (moment_of t) parts.source; submitted = submitted } in
      let source = place_of (is_submitted t from) in
      let hearers = hearers_of (moment_of t) core.heard (receiver_of packet) in
      let owed = owed_in (record core { moment = moment_of t }) packet in
      record {
        moment = refl;
        reach = ap (λ (reach : ReachSeen). record reach { casts = reach.casts ++ (if submitted_from from core.links then casts_to 0 s.peers line else []); accepted = reach.accepted ++ packet ∷ [] }) follows.reach
            ∙ ap (λ b. record (reach_of s t) { casts = casts_of s t ++ (if b then casts_to 0 s.peers line else []); accepted = accepted_lately t ++ packet ∷ [] }) (submitted_as going from says);
        turned = follows.turned;
        closing = follows.closing;
        links = ap (λ place. map (with_packet packet place hearers owed) core.links) (source_known (record core { moment = moment_of t }) (accepted_of t) (moment_of t) refl follows.tables.stations from parts.source)
            ∙ ap (λ b. map (with_packet packet (place_of b) hearers owed) core.links) (submitted_as going from says)
            ∙ ap (map (with_packet packet source hearers owed)) follows.links
            ∙ map-map (with_packet packet source hearers owed) (link_seen s t) (served_links t)
            ∙ sym (map_on (link_seen s (Said from cut (Accepted parts line) ∷ t)) (λ j. with_packet packet source hearers owed (link_seen s t j)) (served_links t)
            (λ j member. let here = subst (λ stopped. is_member j (stopped ++ live_links t) ≡ true) going member in
            accepted_seen s t follows.took from cut parts line hearers owed j here
            (λ client. hearers_are core.heard t follows.tables.heard packet j (ap (λ b. b && is_client_link (opening_of t j)) here ∙ client))
            (owed_are core.heard t follows.tables.heard packet j here)));
        tables = record {
          window = ap (with_key (key_of parts) (moment_of t)) follows.tables.window
              ∙ ap (λ pairs. record { pairs = pairs; seconds = s.window }) (sym (recalled-push_now s.window (accepted_of t) packet lasts));
          stations = note_exactly (moment_of t) core.stations (accepted_of t) packet refl follows.tables.stations;
          heard = remembers_accepted core.heard t follows.tables.heard core.links from cut parts line (speaks going from says) (filters_live going) (filters_nowhere going);
        };
        took = took_said s t follows.took from cut (Accepted parts line);
        downs = follows.downs ∙ sym (quiet_downs s t from cut (Accepted parts line) refl);
        totals = ap (λ place. with_accepted (length (filter (takes_packet packet place hearers owed) core.links)) core.totals)
            (source_known (record core { moment = moment_of t }) (accepted_of t) (moment_of t) refl follows.tables.stations from parts.source)
            ∙ ap (λ b. with_accepted (length (filter (takes_packet packet (place_of b) hearers owed) core.links)) core.totals) (submitted_as going from says)
            ∙ ap (λ links. with_accepted (length (filter (takes_packet packet source hearers owed) links)) core.totals) (live_now going)
            ∙ ap (λ n. with_accepted n core.totals) (sym (accepted_puts s t from cut parts line hearers owed
            (λ j here client. hearers_are core.heard t follows.tables.heard packet j (ap (λ b. b && is_client_link (opening_of t j)) here ∙ client))
            (λ j here. owed_are core.heard t follows.tables.heard packet j here)))
            ∙ ap (with_accepted (put_to_all s (Said from cut (Accepted parts line)) t (live_links t))) follows.totals
            ∙ accepted_totals s t from cut parts line;
      }

  -- whatever becomes of a line
  pub follows_said : stopped_links t ≡ [] → 0 < s.window → (from : Source) (cut : Cut) (verdict : Verdict) → IsSaidBy t from → Follows s (after_verdict s.server s.peers s.downs from (asked_port cut verdict) verdict core) (Said from cut verdict ∷ t)
  follows_said going lasts from cut PassedOver says = follows_passed from cut
  follows_said going lasts from cut (Refused why) says = follows_refused going from cut why
  follows_said going lasts from cut (LoggedIn session answer) says = follows_login going from cut session answer says
  follows_said going lasts from cut (Filtered answer) says = follows_answer from cut answer
  follows_said going lasts from cut (Accepted parts line) says =
      subst (λ now. Follows s (after_packet s.peers (packet_of from now parts line) (record core { moment = now })) (Said from cut (Accepted parts line) ∷ t)) (sym follows.moment)
      (follows_accepted going lasts from cut parts line says)

  numbers_are : numbers core.links ≡ served_links t
  numbers_are = ap numbers follows.links ∙ numbers_seen s t (served_links t)

  opened_kept : (door : Door) (admission : Admission) (k high : ℕ) (from : Addr) → Rises 0 (numbers core.links) high → high < k
      → map (link_seen s t) (served_links t) ≡ map (link_seen s (Opened door admission k from ∷ t)) (served_links t)
  opened_kept door admission k high from rises above =
      sym (map_on (link_seen s (Opened door admission k from ∷ t)) (link_seen s t) (served_links t) (λ j member.
      opened_seen s t door admission k from j (below_other j k high (served_links t) (subst (λ ns. Rises 0 ns high) numbers_are rises) above member)))

  -- a link whose number is above all others doesn't live yet
  not_yet : (k high : ℕ) → Rises 0 (numbers core.links) high → high < k → is_live t k ≡ false
  not_yet k high rises above = false_from_ne_true _ (λ live.
      let within = member_below 0 high (served_links t) k (subst (λ ns. Rises 0 ns high) numbers_are rises) (member_later k (stopped_links t) (live_links t) live) in
      let le : k ≤ high = within.1 in
      absurd (omega arith))

  -- what there is for other servers, once a link has come
  abbrev pub reach_with : Door → ℕ → ReachSeen
  reach_with door k = record core.reach { uplinks = joined_by door k core.moment core.reach.uplinks }

  -- a link that is served
  pub follows_opened : (door : Door) (kind : LinkKind) (k high : ℕ) (from : Addr) → Rises 0 (numbers core.links) high → high < k
      → Follows s (with_reach (reach_with door k) (with_links (core.links ++ new_link_seen k (record { kind = kind; from = from; moment = core.moment }) (first_line s kind).line ∷ []) core)) (Opened door (Served kind) k from ∷ t)
  unfolding totals_of
  follows_opened door kind k high from rises above =
      let seen = link_seen s (Opened door (Served kind) k from ∷ t) in
      let new : ℕ → LinkSeen = λ m. new_link_seen k (record { kind = kind; from = from; moment = m }) (first_line s kind).line in
      record {
        moment = follows.moment;
        reach = stepped_reach (joined_by door k);
        turned = follows.turned ∙ sym (append-nil (turned_links t));
        closing = follows.closing;
        links =
            ap (λ links. links ++ new core.moment ∷ []) (follows.links ∙ opened_kept door (Served kind) k high from rises above)
            ∙ ap (λ m. map seen (served_links t) ++ new m ∷ []) follows.moment
            ∙ ap (λ l. map seen (served_links t) ++ l ∷ []) (sym (new_seen s t door kind k from))
            ∙ sym (map-append seen (served_links t) (k ∷ []))
            ∙ ap (map seen) (append_assoc (stopped_links t) (live_links t) (k ∷ []));
        tables = record {
          window = follows.tables.window;
          stations = follows.tables.stations;
          heard = remembers_opened core.heard t door kind k from (not_yet k high rises above) follows.tables.heard;
        };
        took = took_opened s t follows.took door (Served kind) k from;
        downs = follows.downs;
        totals = follows.totals;
      }

  -- a link that comes where none is served, as many are there as may, or nobody asked for it
  follows_turned : (door : Door) (admission : Admission) (k high : ℕ) (from : Addr) → opened_link admission k ≡ [] → Rises 0 (numbers core.links) high → high < k
      → Follows s (with_reach (reach_with door k) (record core { turned = turned_links (Opened door admission k from ∷ t) })) (Opened door admission k from ∷ t)
  unfolding totals_of
  follows_turned door admission k high from none rises above =
      let seen = link_seen s (Opened door admission k from ∷ t) in
      record {
        moment = follows.moment;
        reach = stepped_reach (joined_by door k);
        turned = refl;
        closing = follows.closing;
        links = follows.links ∙ opened_kept door admission k high from rises above
            ∙ ap (λ ks. map seen (stopped_links t ++ ks)) (sym (ap (λ new. live_links t ++ new) none ∙ append-nil (live_links t)));
        tables = record {
          window = follows.tables.window;
          stations = follows.tables.stations;
          heard = remembers_unserved core.heard t door admission k from none (not_yet k high rises above) follows.tables.heard;
        };
        took = took_opened s t follows.took door admission k from;
        downs = follows.downs;
        totals = follows.totals;
      }

  pub follows_unserved : (door : Door) (k high : ℕ) (from : Addr) → Rises 0 (numbers core.links) high → high < k → Follows s (with_reach (reach_with door k) core) (Opened door NoPort k from ∷ t)
  follows_unserved door k high from rises above =
      subst (λ turned. Follows s (with_reach (reach_with door k) (record core { turned = turned })) (Opened door NoPort k from ∷ t)) (append-nil (turned_links t) ∙ sym follows.turned)
      (follows_turned door NoPort k high from refl rises above)

  pub follows_turned_away : (door : Door) (k high : ℕ) (from : Addr) → Rises 0 (numbers core.links) high → high < k
      → Follows s (with_reach (reach_with door k) (record core { turned = core.turned ++ k ∷ [] })) (Opened door TurnedAway k from ∷ t)
  follows_turned_away door k high from rises above =
      subst (λ turned. Follows s (with_reach (reach_with door k) (record core { turned = turned ++ k ∷ [] })) (Opened door TurnedAway k from ∷ t)) (sym follows.turned)
      (follows_turned door TurnedAway k high from refl rises above)

  pub follows_unasked : (door : Door) (k high : ℕ) (from : Addr) → Rises 0 (numbers core.links) high → high < k
      → Follows s (with_reach (reach_with door k) (record core { turned = core.turned ++ k ∷ [] })) (Opened door NotAsked k from ∷ t)
  follows_unasked door k high from rises above =
      subst (λ turned. Follows s (with_reach (reach_with door k) (record core { turned = turned ++ k ∷ [] })) (Opened door NotAsked k from ∷ t)) (sym follows.turned)
      (follows_turned door NotAsked k high from refl rises above)

  -- the clients that live are told the date
  pub follows_dated : stopped_links t ≡ [] → (moment : ℕ) → Follows s (with_links (map (with_date (comment_text s.server moment)) core.links) core) (Dated moment ∷ t)
  unfolding totals_of
  follows_dated going moment =
      let told = with_date (comment_text s.server moment) in
      record {
        moment = follows.moment;
        reach = follows.reach;
        turned = follows.turned;
        closing = follows.closing;
        links = ap (map told) follows.links ∙ map-map told (link_seen s t) (served_links t)
            ∙ sym (map_on (link_seen s (Dated moment ∷ t)) (λ j. told (link_seen s t j)) (served_links t)
            (λ j member. dated_seen s t follows.took moment j (subst (λ stopped. is_member j (stopped ++ live_links t) ≡ true) going member)));
        tables = same_tables (Dated moment ∷ t) refl refl (λ l. refl) (λ l. refl) (λ l call. refl) (λ l sender. refl);
        took = took_dated s t follows.took moment;
        downs = follows.downs;
        totals = follows.totals;
      }

  pub filter_seen : (p : LinkSeen → Bool) (q : ℕ → Bool) (ks : List ℕ) → ((j : ℕ) → p (link_seen s t j) ≡ q j) → filter p (map (link_seen s t) ks) ≡ map (link_seen s t) (filter q ks)
  filter_seen p q [] same = refl
  filter_seen p q (k ∷ ks) same =
      let x = link_seen s t k in
      let xs = filter p (map (link_seen s t) ks) in
      ⊎_elim
      (λ kept. ap (λ b. cond b (x ∷ xs) xs) (same k ∙ kept) ∙ ap (λ links. x ∷ links) (filter_seen p q ks same)
      ∙ ap (map (link_seen s t)) (sym (ap (λ b. cond b (k ∷ filter q ks) (filter q ks)) kept)))
      (λ left. ap (λ b. cond b (x ∷ xs) xs) (same k ∙ left) ∙ filter_seen p q ks same
      ∙ ap (map (link_seen s t)) (sym (ap (λ b. cond b (k ∷ filter q ks) (filter q ks)) left)))
      (cases_Bool (q k))

  another_seen : (k j : ℕ) → is_another k (link_seen s t j) ≡ is_other k j
  unfolding link_seen
  another_seen k j = refl

  ended_seen : (k : ℕ) (reason : EndReason) (ks : List ℕ) → map (link_seen s (Ended k reason ∷ t)) ks ≡ map (link_seen s t) ks
  unfolding link_seen
  ended_seen k reason ks = refl

  pub follows_ended : stopped_links t ≡ [] → (k : ℕ) → Follows s (with_reach (record core.reach { uplinks = uplinks_after (up.Ended k) core.moment core.reach.uplinks })
      (with_heard (without_link k core.heard) (with_links (filter (is_another k) core.links) core))) (Ended k ByPeer ∷ t)
  unfolding totals_of
  follows_ended going k = record {
    moment = follows.moment;
    reach = stepped_reach (uplinks_after (up.Ended k));
    turned = follows.turned;
    closing = follows.closing;
    links =
        ap (filter (is_another k)) (follows.links ∙ ap (λ stopped. map (link_seen s t) (stopped ++ live_links t)) going)
        ∙ filter_seen (is_another k) (is_other k) (live_links t) (another_seen k)
        ∙ sym (ended_seen k ByPeer (filter (is_other k) (live_links t)))
        ∙ ap (λ stopped. map (link_seen s (Ended k ByPeer ∷ t)) (stopped ++ filter (is_other k) (live_links t))) (sym (append-nil (stopped_links t) ∙ going));
    tables = record { window = follows.tables.window; stations = follows.tables.stations; heard = remembers_ended core.heard t k ByPeer follows.tables.heard };
    took = follows.took;
    downs = follows.downs;
    totals = follows.totals;
  }

-- ---- several links end

-- what is left without these
abbrev without_all : List ℕ → List ℕ → List ℕ
without_all [] xs = xs
without_all (k ∷ ks) xs = without_all ks (filter (is_other k) xs)

pub live_after : (reason : ℕ → EndReason) (ks : List ℕ) (t : Trace) → live_links (end_each reason ks t) ≡ without_all ks (live_links t)
live_after reason [] t = refl
live_after reason (k ∷ ks) t = live_after reason ks (Ended k (reason k) ∷ t)

-- one point of a trace that the end of a link leaves as it is
pub same_after : {X : Type 0} (f : Trace → X) → ((k : ℕ) (why : EndReason) (t : Trace) → f (Ended k why ∷ t) ≡ f t) → (reason : ℕ → EndReason) (ks : List ℕ) (t : Trace)
    → f (end_each reason ks t) ≡ f t
same_after f same reason [] t = refl
same_after f same reason (k ∷ ks) t = same_after f same reason ks (Ended k (reason k) ∷ t) ∙ same k (reason k) t

pub moment_after : (reason : ℕ → EndReason) (ks : List ℕ) (t : Trace) → moment_of (end_each reason ks t) ≡ moment_of t
moment_after = same_after moment_of (λ k why t. refl)

-- what there is for other servers once links have ended
uplinks_ended : (s : Setting) (reason : ℕ → EndReason) (ks : List ℕ) (t : Trace) → uplinks_of s (end_each reason ks t) ≡ ended_all ks (moment_of t) (uplinks_of s t)
uplinks_ended s reason [] t = refl
uplinks_ended s reason (k ∷ ks) t = uplinks_ended s reason ks (Ended k (reason k) ∷ t)

pub reach_after : (s : Setting) (reason : ℕ → EndReason) (ks : List ℕ) (t : Trace) → reach_of s (end_each reason ks t) ≡ record (reach_of s t) { uplinks = ended_all ks (moment_of t) (uplinks_of s t) }
reach_after s reason ks t =
    ap (λ uplinks. record (reach_of s (end_each reason ks t)) { uplinks = uplinks }) (uplinks_ended s reason ks t)
    ∙ ap (λ dial. record (reach_of s (end_each reason ks t)) { uplinks = ended_all ks (moment_of t) (uplinks_of s t); dial = dial }) (same_after (dial_of s) (λ k why t. refl) reason ks t)
    ∙ ap (λ casts. record (reach_of s (end_each reason ks t)) { uplinks = ended_all ks (moment_of t) (uplinks_of s t); dial = dial_of s t; casts = casts }) (same_after (casts_of s) (λ k why t. refl) reason ks t)
    ∙ ap (λ packets. record (reach_of s t) { uplinks = ended_all ks (moment_of t) (uplinks_of s t); accepted = packets }) (same_after accepted_lately (λ k why t. refl) reason ks t)

pub turned_after : (reason : ℕ → EndReason) (ks : List ℕ) (t : Trace) → turned_links (end_each reason ks t) ≡ turned_links t
turned_after = same_after turned_links (λ k why t. refl)

accepted_after : (reason : ℕ → EndReason) (ks : List ℕ) (t : Trace) → accepted_of (end_each reason ks t) ≡ accepted_of t
accepted_after = same_after accepted_of (λ k why t. refl)

pub seen_after : (s : Setting) (reason : ℕ → EndReason) (ks : List ℕ) (t : Trace) (j : ℕ) → link_seen s (end_each reason ks t) j ≡ link_seen s t j
unfolding link_seen
seen_after s reason ks t j = same_after (λ (u : Trace). link_seen s u j) (λ k why t. refl) reason ks t

pub took_after : (s : Setting) (reason : ℕ → EndReason) (ks : List ℕ) (t : Trace) → TookNoMore s t → TookNoMore s (end_each reason ks t)
took_after s reason ks t took j =
    let taken = same_after (λ (u : Trace). taken_by u j) (λ k why t. refl) reason ks t in
    let lines = same_after (λ (u : Trace). lines_of s u j) (λ k why t. refl) reason ks t in
    subst (λ n. n ≤ length (text_bytes (lines_of s (end_each reason ks t) j))) (sym taken) (subst (λ ls. taken_by t j ≤ length (text_bytes ls)) (sym lines) (took j))

totals_after : (s : Setting) (reason : ℕ → EndReason) (ks : List ℕ) (t : Trace) → totals_of s (end_each reason ks t) ≡ totals_of s t
unfolding totals_of
totals_after s = same_after (totals_of s) (λ k why t. refl)

downs_after : (s : Setting) (reason : ℕ → EndReason) (ks : List ℕ) (t : Trace) → downs_in s (end_each reason ks t) ≡ downs_in s t
downs_after s = same_after (downs_in s) (λ k why t. refl)

-- ends that no stop makes
pub going_after : (reason : ℕ → EndReason) → ((k : ℕ) → stopped_link (reason k) k ≡ []) → (ks : List ℕ) (t : Trace) → stopped_links (end_each reason ks t) ≡ stopped_links t
going_after reason none [] t = refl
going_after reason none (k ∷ ks) t = going_after reason none ks (Ended k (reason k) ∷ t) ∙ ap (λ new. stopped_links t ++ new) (none k) ∙ append-nil (stopped_links t)

-- ends that close no link, and ends that do
open_after : (reason : ℕ → EndReason) → ((k : ℕ) → is_closing (reason k) ≡ false) → (ks : List ℕ) (t : Trace) → closed_links (end_each reason ks t) ≡ closed_links t
open_after reason none [] t = refl
open_after reason none (k ∷ ks) t =
    open_after reason none ks (Ended k (reason k) ∷ t) ∙ ap (λ b. if b then placed k (closed_links t) else closed_links t) (none k)

closed_after : (reason : ℕ → EndReason) → ((k : ℕ) → is_closing (reason k) ≡ true) → (ks : List ℕ) (t : Trace) → closed_links (end_each reason ks t) ≡ placed_all ks (closed_links t)
closed_after reason all [] t = refl
closed_after reason all (k ∷ ks) t =
    closed_after reason all ks (Ended k (reason k) ∷ t) ∙ ap (λ b. placed_all ks (if b then placed k (closed_links t) else closed_links t)) (all k)

stopped_after : (ks : List ℕ) (t : Trace) → stopped_links (end_all ByStop ks t) ≡ stopped_links t ++ ks
stopped_after [] t = sym (append-nil (stopped_links t))
stopped_after (k ∷ ks) t = stopped_after ks (Ended k ByStop ∷ t) ∙ append_assoc (stopped_links t) (k ∷ []) ks

filter_all : (xs : List ℕ) → filter (λ x. not false) xs ≡ xs
filter_all [] = refl
filter_all (x ∷ xs) = ap (λ ys. x ∷ ys) (filter_all xs)

filter_twice : (ks : List ℕ) (k : ℕ) (xs : List ℕ) → filter (λ x. not (is_member x ks)) (filter (is_other k) xs) ≡ filter (λ x. not (is_member x (k ∷ ks))) xs
filter_twice ks k [] = refl
filter_twice ks k (x ∷ xs) =
    let later = filter_twice ks k xs in
    let kept = filter (is_other k) xs in
    let both = filter (λ x. not (is_member x (k ∷ ks))) xs in
    ⊎_elim
    (λ same.
    ap (λ b. filter (λ x. not (is_member x ks)) (cond (not b) (x ∷ kept) kept)) same ∙ later
    ∙ ap (λ b. cond (not (b || is_member x ks)) (x ∷ both) both) (sym (eqb_turned k x ∙ same)))
    (λ differ.
    ap (λ b. filter (λ x. not (is_member x ks)) (cond (not b) (x ∷ kept) kept)) differ
    ∙ ap (λ ys. cond (not (is_member x ks)) (x ∷ ys) ys) later
    ∙ ap (λ b. cond (not (b || is_member x ks)) (x ∷ both) both) (sym (eqb_turned k x ∙ differ)))
    (cases_Bool (x == k))

-- what is left without the members of a list
left_without : (ks xs : List ℕ) → without_all ks xs ≡ filter (λ x. not (is_member x ks)) xs
left_without [] xs = sym (filter_all xs)
left_without (k ∷ ks) xs = left_without ks (filter (is_other k) xs) ∙ filter_twice ks k xs

-- filters that agree at each member
filter_members : (p q : ℕ → Bool) (before xs : List ℕ) → ((x : ℕ) → is_member x (before ++ xs) ≡ true → p x ≡ q x) → filter p xs ≡ filter q xs
filter_members p q before [] same = refl
filter_members p q before (x ∷ xs) same =
    let later : filter p xs ≡ filter q xs =
    filter_members p q (before ++ x ∷ []) xs (λ y member. same y (subst (λ ys. is_member y ys ≡ true) (append_assoc before (x ∷ []) xs) member)) in
    ap (λ b. cond b (x ∷ filter p xs) (filter p xs)) (same x (member_here before xs x)) ∙ ap (λ ys. cond (q x) (x ∷ ys) ys) later

-- without those that pass a test, those that fail it are left
left_failing : (p : ℕ → Bool) (xs : List ℕ) → without_all (filter p xs) xs ≡ filter (λ x. not (p x)) xs
left_failing p xs =
    left_without (filter p xs) xs ∙ filter_members (λ x. not (is_member x (filter p xs))) (λ x. not (p x)) [] xs (λ x member. ap not (member_filtered p xs x member))

pub left_none : (xs : List ℕ) → without_all xs xs ≡ []
left_none xs = left_without xs xs ∙ filter_members (λ x. not (is_member x xs)) (λ x. false) [] xs (λ x member. ap not member) ∙ nothing xs
  where
    nothing : (xs : List ℕ) → filter (λ x. false) xs ≡ []
    nothing [] = refl
    nothing (x ∷ xs) = nothing xs

pub late_goes : (t : Trace) (k : ℕ) → stopped_link (late_reason t k) k ≡ []
late_goes t k = by (is_nameless t k)
  where
    by : (b : Bool) → stopped_link (if b then NoLogin else Silent) k ≡ []
    by true = refl
    by false = refl

late_closes : (t : Trace) (k : ℕ) → is_closing (late_reason t k) ≡ true
late_closes t k = by (is_nameless t k)
  where
    by : (b : Bool) → is_closing (if b then NoLogin else Silent) ≡ true
    by true = refl
    by false = refl

pub refused_goes : (t : Trace) (k : ℕ) → stopped_link (refused_reason t k) k ≡ []
refused_goes t k = by (is_member k (turned_links t)) (is_unasked t k)
  where
    by : (b c : Bool) → stopped_link (if b then (if c then Unasked else Full) else Overfull) k ≡ []
    by true true = refl
    by true false = refl
    by false c = refl

refused_closes : (t : Trace) (k : ℕ) → is_closing (refused_reason t k) ≡ true
refused_closes t k = by (is_member k (turned_links t)) (is_unasked t k)
  where
    by : (b c : Bool) → is_closing (if b then (if c then Unasked else Full) else Overfull) ≡ true
    by true true = refl
    by true false = refl
    by false c = refl

-- what is kept where links have ended: the others, and which are to be closed
abbrev pub with_ends : List ℕ → List LinkSeen → List ℕ → CoreSeen → CoreSeen
with_ends ends links closing core = record core {
  links = links;
  closing = closing;
  heard = forgotten_all ends core.heard;
  reach = record core.reach { uplinks = ended_all ends core.moment core.reach.uplinks };
}

module _ (s : Setting) (core : CoreSeen) (t : Trace) (follows : Follows s core t) (going : stopped_links t ≡ []) where
  there_seen : (j : ℕ) → is_there (link_seen s t j) ≡ not (is_gone t j)
  unfolding link_seen
  there_seen j = refl

  pub lost_seen_as : (j : ℕ) → is_lost (link_seen s t j) ≡ is_gone t j
  unfolding link_seen
  lost_seen_as j = refl

  abbrev pub timeouts : Timeouts
  timeouts = record { client = s.client_timeout; uplink = s.up_timeout }

  pub late_seen : (j : ℕ) → is_late_link timeouts (moment_of t) (link_seen s t j) ≡ is_late s t j
  unfolding link_seen
  late_seen j = refl

  in_time_seen : (j : ℕ) → is_in_time timeouts (moment_of t) (link_seen s t j) ≡ not (is_late s t j)
  in_time_seen j = ap not (late_seen j)

  over_seen : (j : ℕ) → is_overfull (link_seen s t j) ≡ (text_to s t j).over
  unfolding link_seen
  over_seen j = refl

  none_seen : (ks : List ℕ) (j : ℕ) → is_none_of ks (link_seen s t j) ≡ not (is_member j ks)
  unfolding link_seen
  none_seen ks j = refl

  pub links_live : core.links ≡ map (link_seen s t) (live_links t)
  links_live = follows.links ∙ ap (λ stopped. map (link_seen s t) (stopped ++ live_links t)) going

  pub live_numbers : numbers core.links ≡ live_links t
  live_numbers = ap numbers links_live ∙ numbers_seen s t (live_links t)

  -- the numbers of the links that pass a test, and the links that fail it
  tested_numbers : (p : LinkSeen → Bool) (q : ℕ → Bool) → ((j : ℕ) → p (link_seen s t j) ≡ q j) → numbers (filter p core.links) ≡ filter q (live_links t)
  tested_numbers p q same = ap (λ links. numbers (filter p links)) links_live ∙ ap numbers (filter_seen s core t follows p q (live_links t) same) ∙ numbers_seen s t (filter q (live_links t))

  pub tested_links : (p : LinkSeen → Bool) (q : ℕ → Bool) → ((j : ℕ) → p (link_seen s t j) ≡ q j) → filter p core.links ≡ map (link_seen s t) (filter q (live_links t))
  tested_links p q same = ap (filter p) links_live ∙ filter_seen s core t follows p q (live_links t) same

  -- links end, each for its reason, and are forgotten
  follows_ends : (reason : ℕ → EndReason) (ks : List ℕ) (links : List LinkSeen) (closing : List ℕ) → ((k : ℕ) → stopped_link (reason k) k ≡ [])
      → links ≡ map (link_seen s t) (without_all ks (live_links t)) → closing ≡ closed_links (end_each reason ks t)
      → Follows s (with_ends ks links closing core) (end_each reason ks t)
  follows_ends reason ks links closing none left closed =
      let now = end_each reason ks t in
      record {
        moment = follows.moment ∙ sym (moment_after reason ks t);
        reach = stepped_reach s core t follows (ended_all ks) ∙ sym (reach_after s reason ks t);
        turned = follows.turned ∙ sym (turned_after reason ks t);
        closing = closed;
        links = left
            ∙ sym (map_on (link_seen s now) (link_seen s t) (without_all ks (live_links t)) (λ j member. seen_after s reason ks t j))
            ∙ ap (map (link_seen s now)) (sym (live_after reason ks t))
            ∙ ap (λ stopped. map (link_seen s now) (stopped ++ live_links now)) (sym (going_after reason none ks t ∙ going));
        tables = record {
          window = same_window s core t follows (end_each reason ks t) (moment_after reason ks t) (accepted_after reason ks t);
          stations = same_stations s core t follows (end_each reason ks t) (moment_after reason ks t) (accepted_after reason ks t);
          heard = remembers_all_ended reason ks core.heard t follows.tables.heard;
        };
        took = took_after s reason ks t follows.took;
        downs = follows.downs ∙ sym (downs_after s reason ks t);
        totals = follows.totals ∙ sym (totals_after s reason ks t);
      }

  -- the links that were found gone end as a round begins
  pub follows_gone : Follows s (with_ends (numbers (filter is_lost core.links)) (filter is_there core.links) core.closing core) (end_gone t)
  follows_gone =
      subst (λ ks. Follows s (with_ends ks (filter is_there core.links) core.closing core) (end_gone t)) (sym (tested_numbers is_lost (is_gone t) lost_seen_as))
      (follows_ends (λ k. FoundGone) (gone_links t) (filter is_there core.links) core.closing (λ k. refl)
      (tested_links is_there (λ j. not (is_gone t j)) there_seen ∙ ap (map (link_seen s t)) (sym (left_failing (is_gone t) (live_links t))))
      (follows.closing ∙ sym (open_after (λ k. FoundGone) (λ k. refl) (gone_links t) t)))

  -- the links that are late end at a tick
  pub follows_late : (ends : List ℕ) → ends ≡ numbers (filter (is_late_link timeouts (moment_of t)) core.links)
      → Follows s (with_ends ends (filter (is_in_time timeouts (moment_of t)) core.links) (placed_all ends core.closing) core) (end_each (late_reason t) (late_links s t) t)
  follows_late ends are =
      let links = filter (is_in_time timeouts (moment_of t)) core.links in
      let now = end_each (late_reason t) (late_links s t) t in
      subst (λ ks. Follows s (with_ends ks links (placed_all ks core.closing) core) now) (sym (are ∙ tested_numbers (is_late_link timeouts (moment_of t)) (is_late s t) late_seen))
      (follows_ends (late_reason t) (late_links s t) links (placed_all (late_links s t) core.closing) (late_goes t)
      (tested_links (is_in_time timeouts (moment_of t)) (λ j. not (is_late s t j)) in_time_seen ∙ ap (map (link_seen s t)) (sym (left_failing (is_late s t) (live_links t))))
      (ap (placed_all (late_links s t)) follows.closing ∙ sym (closed_after (late_reason t) (late_closes t) (late_links s t) t)))

  -- the links that are overfull or were turned away end with the round
  pub refused_are : (ends : List ℕ) → ends ≡ placed_all core.turned (numbers (filter is_overfull core.links)) → ends ≡ refused_links s t
  refused_are ends are =
      are ∙ ap (placed_all core.turned) (tested_numbers is_overfull (λ j. (text_to s t j).over) over_seen) ∙ ap (λ turned. placed_all turned (over_links s t)) follows.turned

  pub follows_refused_links : (ends : List ℕ) → ends ≡ placed_all core.turned (numbers (filter is_overfull core.links))
      → Follows s (with_ends ends (filter (is_none_of ends) core.links) (placed_all ends core.closing) core) (end_each (refused_reason t) (refused_links s t) t)
  follows_refused_links ends are =
      let ks = refused_links s t in
      let same : ends ≡ ks = refused_are ends are in
      subst (λ ns. Follows s (with_ends ns (filter (is_none_of ns) core.links) (placed_all ns core.closing) core) (end_each (refused_reason t) ks t)) (sym same)
      (follows_ends (refused_reason t) ks (filter (is_none_of ks) core.links) (placed_all ks core.closing) (refused_goes t)
      (tested_links (is_none_of ks) (λ j. not (is_member j ks)) (none_seen ks) ∙ ap (map (link_seen s t)) (sym (left_without ks (live_links t))))
      (ap (placed_all ks) follows.closing ∙ sym (closed_after (refused_reason t) (refused_closes t) ks t)))

  -- at a stop all links end, and keep their texts
  pub follows_stopped : (ends : List ℕ) → ends ≡ numbers core.links → Follows s (with_ends ends core.links (placed_all ends core.closing) core) (end_all ByStop (live_links t) t)
  follows_stopped ends are =
      let now = end_all ByStop (live_links t) t in
      let stops : ℕ → EndReason = λ k. ByStop in
      subst (λ ks. Follows s (with_ends ks core.links (placed_all ks core.closing) core) now) (sym (are ∙ live_numbers)) (record {
        moment = follows.moment ∙ sym (moment_after stops (live_links t) t);
        reach = stepped_reach s core t follows (ended_all (live_links t)) ∙ sym (reach_after s stops (live_links t) t);
        turned = follows.turned ∙ sym (turned_after stops (live_links t) t);
        closing = ap (placed_all (live_links t)) follows.closing ∙ sym (closed_after stops (λ k. refl) (live_links t) t);
        links =
            follows.links
            ∙ sym (map_on (link_seen s now) (link_seen s t) (served_links t) (λ j member. seen_after s stops (live_links t) t j))
            ∙ ap (map (link_seen s now)) (sym (
            ap (λ stopped. stopped ++ live_links now) (stopped_after (live_links t) t)
            ∙ ap (λ live. (stopped_links t ++ live_links t) ++ live) (live_after stops (live_links t) t ∙ left_none (live_links t))
            ∙ append-nil (stopped_links t ++ live_links t)));
        tables = record {
          window = same_window s core t follows (end_each stops (live_links t) t) (moment_after stops (live_links t) t) (accepted_after stops (live_links t) t);
          stations = same_stations s core t follows (end_each stops (live_links t) t) (moment_after stops (live_links t) t) (accepted_after stops (live_links t) t);
          heard = remembers_all_ended stops (live_links t) core.heard t follows.tables.heard;
        };
        took = took_after s stops (live_links t) t follows.took;
        downs = follows.downs ∙ sym (downs_after s stops (live_links t) t);
        totals = follows.totals ∙ sym (totals_after s stops (live_links t) t);
      })
