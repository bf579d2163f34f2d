-- What a send leaves of the core, and the history with it.
use Rattle.std.proofs.Common.{◌≡◌, ℕ, ◌+◌, ◌-◌, ◌≤◌, nat_lt, true, false, None, Some, is_some, List, [], ◌∷◌, length, map, refl, sym, ap, ◌∙◌, subst, arith, ⊎_elim, eq-eqb, le_refl, length-drop, if◌then◌else◌}
use Rattle.std.proofs.lemmas.Simd.{map-map}
use Rattle.std.proofs.lemmas.Bool.{cases_Bool, true≢false}
use Rattle.std.specs.declared.random_state.RandomState.{RandomState}
use Rattle.aprs_base.specs.declared.events.Sent.TheVariants as sent
use Rattle.aprs_base.specs.declared.events.Happening.TheVariants as did
use Rattle.aprs_base.specs.declared.packets.ListenSpec.{ListenSpec}
use Rattle.heard_routing.specs.Heard.{nothing}
use Rattle.heard_routing.proofs.EntryLemmas.{once_none}
use Rattle.station_table.specs.Last.{HasExactly}
use Rattle.station_table.specs.Stations.{no_stations}
use Rattle.station_table.proofs.LastSeen.{new_exactly}
use Rattle.aprs_history.specs.Counts.{totals_of}
use Rattle.aprs_history.specs.Setting.{Setting}
use Rattle.aprs_history.specs.Trace.{Trace, served_links, is_member}
use Rattle.aprs_history.specs.Links.{taken_by}
use Rattle.aprs_history.specs.Downs.{DownSeen, down_of}
use Rattle.aprs_history.specs.Wired.{on_wire, sent_as}
use Rattle.link_queue.specs.Lines.{Queued, queued, text_bytes}
use Rattle.aprs_history.specs.Texts.{lines_of, untaken}
use Rattle.aprs_history.specs.History.{History, trace_of}
use Rattle.aprs_history.specs.Rounds.{listens_after}
use Rattle.aprs_history.specs.Stands.{LinkSeen, CoreSeen, link_seen, reach_of, Follows, StandsFor, Remembers}
use Rattle.served_links.specs.Changes.{at_link, with_taken, when_gone}
use Rattle.served_links.specs.Links.{down_at, down_kept, has_number, has_that, pending_at, pending_of}
use Rattle.server_core.specs.Meaning.{CoreMeaning, setting_of, Stands}
use Rattle.server_core.specs.Sending.{bytes_in, with_casts, with_lines}
use Rattle.server_core.proofs.FollowLemmas.{not_below, queued-bytes, queued-more, picked_seen, picked_missing}
use Rattle.server_core.proofs.WalkLemmas.{at_twice, follows_took, follows_lost}
use Rattle.server_core.proofs.CoreLemmas.{number_member, relinked}
use Rattle.dupe_window.specs.Windows.{empty_window}

module _ (s : Setting) (core : CoreSeen) (t : Trace) (follows : Follows s core t) (k : ℕ) where
  pending_served : is_member k (served_links t) ≡ true → pending_at k core.links ≡ untaken s t k
  unfolding link_seen
  pending_served member =
      ap (pending_at k) follows.links ∙ picked_seen pending_of [] s t k (served_links t) member ∙ queued-bytes (lines_of s t k) (taken_by t k) (follows.took k)

  pub pending_now : has_number k core.links ≡ true → pending_at k core.links ≡ untaken s t k
  pending_now here = pending_served (sym (number_member s t k (served_links t)) ∙ ap (has_number k) (sym follows.links) ∙ here)

  pub down_now : has_number k core.links ≡ true → down_at k core.links ≡ down_of s t k
  unfolding link_seen
  down_now here =
      let member = sym (number_member s t k (served_links t)) ∙ ap (has_number k) (sym follows.links) ∙ here in
      ap (down_at k) follows.links ∙ picked_seen down_kept None s t k (served_links t) member

  -- a downlink that the core keeps is one of the history
  pub down_here : (down : DownSeen) → down_at k core.links ≡ Some down → down_of s t k ≡ Some down
  unfolding link_seen
  down_here down is =
      ⊎_elim
      (λ served. sym (picked_seen down_kept None s t k (served_links t) served) ∙ sym (ap (down_at k) follows.links) ∙ is)
      (λ missing. absurd (true≢false (sym (ap is_some (sym (picked_missing down_kept None s t k (served_links t) missing) ∙ sym (ap (down_at k) follows.links) ∙ is)))))
      (cases_Bool (is_member k (served_links t)))

  within : (n : ℕ) → n ≤ length (pending_at k core.links) → taken_by t k + n ≤ length (text_bytes (lines_of s t k))
  within n le =
      let took = follows.took k in
      ⊎_elim
      (λ served.
      let size : length (pending_at k core.links) ≡ length (text_bytes (lines_of s t k)) - taken_by t k = ap length (pending_served served) ∙ length-drop (taken_by t k) (text_bytes (lines_of s t k)) in
      omega arith)
      (λ missing.
      let none : length (pending_at k core.links) ≡ 0 = ap length (ap (pending_at k) follows.links ∙ picked_missing pending_of [] s t k (served_links t) missing) in
      omega arith)
      (cases_Bool (is_member k (served_links t)))

pub stands_took : (core : CoreMeaning) (links : List LinkSeen) (k offered n : ℕ) (bytes : List ℕ) (h : History) → length bytes ≡ offered → Stands core h
    → n ≤ offered → offered ≤ length (pending_at k core.seen.links) → links ≡ map (at_link k (with_taken offered n)) core.seen.links
    → Stands (relinked links core) (did.Sent k bytes (sent.Took n) ∷ h)
unfolding trace_of
stands_took core links k offered n bytes h size stands part pending new =
    let s = setting_of core.conf in
    let t = trace_of s h in
    let follows = follows_took s core.seen t stands.follows k (length bytes) n (within s core.seen t stands.follows k n (omega arith)) in
    record {
      finished = stands.finished;
      follows = record {
        moment = follows.moment;
        reach = follows.reach;
        turned = follows.turned;
        closing = follows.closing;
        links = new ∙ ap (λ m. map (at_link k (with_taken m n)) core.seen.links) (sym size) ∙ follows.links;
        tables = follows.tables;
        took = follows.took;
        downs = follows.downs;
        totals = follows.totals;
      };
      greatest = stands.greatest;
      stopped = stands.stopped;
    }

-- ---- the lines of a downlink, one by one

module _ (k : ℕ) where
  -- so many bytes are taken, none of which is left
  abbrev whole : ℕ → LinkSeen → LinkSeen
  whole n = at_link k (with_taken n n)

  abbrev after_lines : List (List ℕ) → List LinkSeen → List LinkSeen
  after_lines [] links = links
  after_lines (line ∷ lines) links = after_lines lines (map (whole (length line)) links)

  -- several times at once
  whole_sum : (m n : ℕ) (link : LinkSeen) → with_taken n n (with_taken m m link) ≡ with_taken (m + n) (m + n) link
  whole_sum m n link =
      let lines = link.queue.lines in
      let offset = link.queue.offset in
      let same : offset + m + n ≡ offset + (m + n) = omega arith in
      ap (λ (queue : Queued). record link { queue = queue; blocked = nat_lt n n }) (sym (queued-more lines (offset + m) n) ∙ ap (queued lines) same)
      ∙ ap (λ b. record link { queue = queued lines (offset + (m + n)); blocked = b }) (not_below n n (le_refl n) ∙ sym (not_below (m + n) (m + n) (le_refl (m + n))))

  whole_twice : (m n : ℕ) (link : LinkSeen) → whole n (whole m link) ≡ whole (m + n) link
  whole_twice m n link = at_twice k (with_taken n n) (with_taken m m) (λ l. refl) link ∙ ap (λ (l : LinkSeen). if has_that k link then l else link) (whole_sum m n link)

  taken_twice : (m n : ℕ) (links : List LinkSeen) → map (whole n) (map (whole m) links) ≡ map (whole (m + n)) links
  taken_twice m n links = map-map (whole n) (whole m) links ∙ (λ i. map (λ link. whole_twice m n link i) links)

  lines_as_one : (line : List ℕ) (lines : List (List ℕ)) (links : List LinkSeen) → after_lines (line ∷ lines) links ≡ map (whole (bytes_in (line ∷ lines))) links
  lines_as_one line [] links = let same : length line ≡ length line + 0 = omega arith in ap (λ n. map (whole n) links) same
  lines_as_one line (next ∷ lines) links = lines_as_one next lines (map (whole (length line)) links) ∙ taken_twice (length line) (bytes_in (next ∷ lines)) links

  lines_stand : (s : Setting) (lines : List (List ℕ)) (core : CoreSeen) (h : History) → StandsFor s core h → taken_by (trace_of s h) k + bytes_in lines ≤ length (text_bytes (lines_of s (trace_of s h) k))
      → StandsFor s (record core { links = after_lines lines core.links }) (with_lines k lines h)
  unfolding trace_of
  lines_stand s [] core h stands fits =
      let follows = stands.follows in
      record {
        finished = stands.finished;
        follows = record {
          moment = follows.moment;
          reach = follows.reach;
          turned = follows.turned;
          closing = follows.closing;
          links = follows.links;
          tables = follows.tables;
          took = follows.took;
          downs = follows.downs;
          totals = follows.totals;
        };
        greatest = stands.greatest;
        stopped = stands.stopped;
      }
  lines_stand s (line ∷ lines) core h stands fits =
      let t = trace_of s h in
      let n = length line in
      let text = length (text_bytes (lines_of s t k)) in
      let all : taken_by t k + (n + bytes_in lines) ≤ text = fits in
      let left : taken_by t k + n + bytes_in lines ≤ text = omega (arith, all) in
      let stepped : StandsFor s (record core { links = map (whole n) core.links }) (did.Sent k line (sent.Took n) ∷ h) =
      record { finished = stands.finished; follows = follows_took s core t stands.follows k n n (omega (arith, all)); greatest = stands.greatest; stopped = stands.stopped } in
      lines_stand s lines (record core { links = map (whole n) core.links }) (did.Sent k line (sent.Took n) ∷ h) stepped
      (subst (λ b. (if b then taken_by t k + n else taken_by t k) + bytes_in lines ≤ text) (sym (eq-eqb k k refl)) left)

pub stands_lines : (core : CoreMeaning) (links : List LinkSeen) (k offered n : ℕ) (line : List ℕ) (lines : List (List ℕ)) (h : History) → bytes_in (line ∷ lines) ≡ n → Stands core h
    → n ≤ offered → offered ≤ length (pending_at k core.seen.links) → links ≡ map (at_link k (with_taken n n)) core.seen.links → Stands (relinked links core) (with_lines k (line ∷ lines) h)
stands_lines core links k offered n line lines h total stands part pending new =
    let s = setting_of core.conf in
    let t = trace_of s h in
    let fits = within s core.seen t stands.follows k n (omega (arith, part, pending)) in
    let all = lines_stand k s (line ∷ lines) core.seen h stands (subst (λ m. taken_by t k + m ≤ length (text_bytes (lines_of s t k))) (sym total) fits) in
    let are : links ≡ after_lines k (line ∷ lines) core.seen.links =
    new ∙ ap (λ m. map (at_link k (with_taken m m)) core.seen.links) (sym total) ∙ sym (lines_as_one k line lines core.seen.links) in
    subst (λ ls. Stands (relinked ls core) (with_lines k (line ∷ lines) h)) (sym are) all

-- the wire shows the lines that a downlink takes as casts
pub lines_shown : (s : Setting) (k : ℕ) (down : DownSeen) (lines : List (List ℕ)) (h : History) → down_of s (trace_of s h) k ≡ Some down
    → on_wire s (with_lines k lines h) ≡ with_casts down.number lines (on_wire s h)
unfolding trace_of
lines_shown s k down [] h is = refl
lines_shown s k down (line ∷ lines) h is =
    lines_shown s k down lines (did.Sent k line (sent.Took (length line)) ∷ h) is
    ∙ ap (λ shown. with_casts down.number lines (sent_as shown k line (sent.Took (length line)) ∷ on_wire s h)) is

pub stands_gone : (core : CoreMeaning) (links : List LinkSeen) (k : ℕ) (bytes : List ℕ) (h : History) → Stands core h
    → links ≡ map (at_link k when_gone) core.seen.links → Stands (relinked links core) (did.Sent k bytes sent.Gone ∷ h)
unfolding trace_of
stands_gone core links k bytes h stands new =
    let s = setting_of core.conf in
    let follows = follows_lost s core.seen (trace_of s h) stands.follows k in
    record {
      finished = stands.finished;
      follows = record { moment = follows.moment; reach = follows.reach; turned = follows.turned; closing = follows.closing; links = new ∙ follows.links; tables = follows.tables; took = follows.took; downs = follows.downs; totals = follows.totals };
      greatest = stands.greatest;
      stopped = stands.stopped;
    }

-- listens change nothing of what there is to keep
pub stands_listening : (s : Setting) (core : CoreSeen) (specs : List ListenSpec) (n : ℕ) (h : History) → StandsFor s core h → StandsFor s core (listens_after n specs h)
unfolding trace_of
stands_listening s core [] n h stands = stands
stands_listening s core (spec ∷ specs) n h stands = stands_listening s core specs (n + 1) (did.Listen n ∷ h) (record {
  finished = stands.finished;
  follows = stands.follows;
  greatest = stands.greatest;
  stopped = stands.stopped;
})

-- nothing has happened
pub stands_new : (s : Setting) (core : CoreSeen) (hasher : RandomState) → core.moment ≡ 0 → core.links ≡ [] → core.turned ≡ [] → core.closing ≡ [] → core.window ≡ empty_window s.window → core.stations ≡ no_stations hasher → core.heard ≡ nothing hasher
    → core.reach ≡ reach_of s [] → core.greatest ≡ 0 → core.downs ≡ 0 → core.stopped ≡ false → core.totals ≡ totals_of s [] → StandsFor s core []
unfolding trace_of
stands_new s core hasher moment links turned closing window stations heard reach greatest downs stopped totals = record {
  finished = refl;
  follows = record {
    moment = moment;
    reach = reach;
    turned = turned;
    closing = closing;
    links = links;
    tables = record {
      window = window;
      stations = subst (λ table. HasExactly 0 table []) (sym stations) (new_exactly 0 hasher);
      heard = subst (λ table. Remembers table []) (sym heard)
          (record { once_heard = once_none [] refl; once_promised = once_none [] refl; heard = λ l call. refl; promised = λ l sender. refl });
    };
    took = λ k. omega arith;
    downs = downs;
    totals = totals;
  };
  greatest = greatest;
  stopped = stopped;
}
