-- What comes to the links that are served, and what it leaves of them.
use Rattle.std.proofs.Common.{◌≡◌, ℕ, ◌^◌, ◌<◌, ◌+◌, ◌-◌, Bool, true, false, List, [], ◌∷◌, ◌++◌, length, map, min, filter, get_or, slice_get, slice_set, refl, sym, ap, ◌∙◌, subst, arith, Option, Some, None, Result, Ok, Err, OnOk, OnErr, ⊎_elim, zero, suc, not, ◌||◌, ◌&&◌, cond, if◌then◌else◌}
use Rattle.std.specs.Bool.{⊤}
use Rattle.std.specs.Option.{option_or}
use Rattle.std.specs.List.{All, list_any, position}
use Rattle.std.proofs.Math.Seq.{map-set_same}
use Rattle.std.proofs.Math.Bool.{and-false}
use Rattle.std.proofs.lemmas.Bool.{cases_Bool, true≢false}
use Rattle.std.proofs.lemmas.List.{length-map}
use Rattle.std.proofs.lemmas.Option.{get_or_from_slice_get, slice_get-get_or}
use Rattle.aprs_base.specs.PacketSeen.{PacketSeen}
use Rattle.aprs_base.specs.declared.packets.Source.{Source}
use Rattle.aprs_history.specs.declared.verdicts.Session.{Session}
use Rattle.aprs_history.specs.Downs.{DownSeen}
use Rattle.aprs_history.specs.Links.{Opening, is_client_of}
use Rattle.aprs_history.specs.Stands.{LinkSeen}
use Rattle.aprs_history.specs.Trace.{is_from}
use Rattle.filter_eval.specs.Passes.{fresh}
use Rattle.filter_eval.specs.declared.seen.Seen.{Seen}
use Rattle.worker_match.specs.Feeds.{FeedsSeen, counted, forgotten, is_other, is_served, met_by, new_feed, put_in, told, with_login, with_taken, with_terms}
use Rattle.filter_lang.specs.Terms.{TermSeen}
use Rattle.heard_routing.specs.Heard.{is_among}
use Rattle.link_queue.specs.Queues as queue
use Rattle.worker_match.specs.declared.links.Feed.{Feed}
use Rattle.worker_match.specs.Seen.{FeedSeen, ItemSeen, Came, ToldAll}
use Rattle.worker_match.specs.Walk.{after}
use Rattle.served_links.specs.Fed.{AllMatch, Matches, feed_of, joined, joined_all, new_half, offer_of, opening_feed, refused_of, shows_kept}
use Rattle.served_links.specs.Halves.{AreHalves, AtRest, IsEmptied, ServedSeen, served_seen, waiting_after, more}
use Rattle.served_links.specs.Links.{Rises, has_that, here, is_at, is_here, is_none_of, is_whole, named_of, number_of, numbers, pending_at, pending_of, picked_at, when_left}
use Rattle.served_links.specs.Changes.{at_link, at_moment, has_room, is_asked_at, is_shown_at, takes_packet, takes_shown, with_date, with_packet, with_shown, with_text}
use Rattle.served_links.specs.declared.link.SourcePlace.{SourcePlace}
use Rattle.served_links.specs.declared.served.Served.TheInside.{Inside}
use Rattle.aprs_history.proofs.NumberLemmas.{rises_higher}
use Rattle.served_links.proofs.AskedLemmas.{listed_at}
use Rattle.served_links.proofs.FedLemmas.{date_same, date_uncounted, heard_counted, heard_same, shown_counted, shown_same, told_matches, told_same, told_uncounted}
use Rattle.served_links.proofs.HereLemmas.{here_filter, here_left, none_left_here, here_push, here_stepped, joined_here, joined_whole, swept_joined, swept_match, match_here, named_all, named_at, named_set, picked_missing, picked_there, present, same_whole}
use Rattle.served_links.proofs.LinkLemmas.{position_none, changed_by, changed_nowhere, picked_found, picked_none, position_some, rises_filter, rises_push, rises_at}
use Rattle.served_links.proofs.ServedLemmas.{any_same, any_half, as_many, counted_all, counted_match, joined_at, joined_left, joined_push, match_at, match_left, match_push, match_set, capped_put, none_put, none_put_of, numbers_same, position_same, put_changed, put_kept, put_left, put_push, put_set, rises_same, state_at, state_set, states_changed, states_match, halves_changed, halves_match}

abbrev pub links_of : ServedSeen → List LinkSeen
links_of served = served.links

abbrev pub waiting_of : ServedSeen → ℕ
waiting_of served = served.waiting

abbrev pub rests_of : ServedSeen → Bool
rests_of served = served.rests

-- what is found of the sessions that are kept is found of the links as they are seen
pub asked : {X : Type 0} (inside : Inside) {now : ServedSeen} {searched : List LinkSeen} → served_seen inside.sessions inside.feeds inside.queued inside.rests ≡ now → AllMatch inside.sessions inside.feeds.links
    → searched ≡ inside.sessions → (f : List LinkSeen → X) → ((hs : List LinkSeen) (ss : List FeedSeen) → AllMatch hs ss → f (joined_all hs ss) ≡ f hs) → f (here searched) ≡ f now.links
asked inside view all same f alike =
    let hs = inside.sessions in
    let ss = inside.feeds.links in
    ap (λ links. f (here links)) same ∙ sym (alike (here hs) (present hs ss) (match_here hs ss all)) ∙ ap f (joined_here hs ss all) ∙ ap (λ (served : ServedSeen). f served.links) view

-- no link is left
none_left : (hs : List LinkSeen) (left : FeedsSeen) → (hs ≡ []) × (left ≡ record { links = []; waiting = 0 }) → AreHalves hs left
none_left hs left gone = subst (λ ls. AreHalves ls left) (sym gone.0) (subst (AreHalves []) (sym gone.1) (record { match = tt; rising = omega arith }))

none_rests : (rests : Bool) (hs : List LinkSeen) (left : FeedsSeen) → (hs ≡ []) × (left ≡ record { links = []; waiting = 0 }) → AtRest rests hs left
none_rests rests hs left gone = (λ rest. ap (λ (f : FeedsSeen). f.waiting) gone.1, λ rest. ap is_whole gone.0)

-- a step of what the links are, which puts no packet line
pub seen_changed : (hs new_hs : List LinkSeen) (feeds new : FeedsSeen) (queued : ℕ) (rests : Bool) (now : ServedSeen) (links : List LinkSeen) → served_seen hs feeds queued rests ≡ now
    → here (joined_all new_hs new.links) ≡ links → put_in new.links ≡ put_in feeds.links → new.waiting ≡ feeds.waiting → served_seen new_hs new queued rests ≡ record now { links = links }
seen_changed hs new_hs feeds new queued rests now links is changed put settled =
    ap (λ (ls : List LinkSeen). record { links = ls; queued = more (put_in new.links) queued; waiting = new.waiting; rests = rests }) changed
    ∙ ap (λ n. record { links = links; queued = more n queued; waiting = new.waiting; rests = rests }) put
    ∙ ap (λ n. record { links = links; queued = more (put_in feeds.links) queued; waiting = n; rests = rests }) settled
    ∙ ap (λ (s : ServedSeen). record s { links = links }) is

-- a step at each link, which keeps its number and its opening, and puts no packet line
pub seen_stepped : (hs new_hs : List LinkSeen) (feeds new : FeedsSeen) (queued : ℕ) (rests : Bool) (now : ServedSeen) (step : LinkSeen → LinkSeen) → ((link : LinkSeen) → named_of (step link) ≡ named_of link)
    → served_seen hs feeds queued rests ≡ now → joined_all new_hs new.links ≡ map step (joined_all hs feeds.links) → put_in new.links ≡ put_in feeds.links → new.waiting ≡ feeds.waiting
    → served_seen new_hs new queued rests ≡ record now { links = map step now.links }
seen_stepped hs new_hs feeds new queued rests now step same is changed put settled =
    seen_changed hs new_hs feeds new queued rests now (map step now.links) is
    (ap here changed ∙ here_stepped step same (joined_all hs feeds.links) ∙ ap (map step) (ap links_of is)) put settled

-- ---- something comes to all links

-- as many more were put
pub more_later : (n put queued : ℕ) → more (more n put) queued ≡ more n (more put queued)
more_later n put queued = omega arith

pub none_later : (queued put : ℕ) → more 0 (more put queued) ≡ more put queued
none_later queued put = omega arith

pub none_more : (hs : List LinkSeen) (feeds : FeedsSeen) (queued : ℕ) (rests : Bool) (now : ServedSeen) → served_seen hs feeds queued rests ≡ now → more 0 now.queued ≡ now.queued
none_more hs feeds queued rests now view =
    let is = ap (λ (s : ServedSeen). s.queued) view in ap (more 0) (sym is) ∙ none_later queued (put_in feeds.links) ∙ is

-- after want of memory no link is left
pub met_are : {E : Type 0} (r : Result ⊤ E) (inside : Inside) (left_hs : List LinkSeen) (left : FeedsSeen) (item : ItemSeen) → AreHalves inside.sessions inside.feeds
    → ((h : LinkSeen) (s : FeedSeen) → Matches h s → Matches h (after s item)) → OnOk r (left_hs ≡ inside.sessions) → OnOk r (left.links ≡ met_by item inside.feeds.links)
    → OnOk r (left.waiting ≡ waiting_after inside.rests inside.feeds.waiting) → OnErr r ((left_hs ≡ []) × (left ≡ record { links = []; waiting = 0 })) → AtRest inside.rests inside.sessions inside.feeds → AreHalves left_hs left × AtRest inside.rests left_hs left
met_are (Ok done) inside left_hs left item are kept same met settled gone resting = (
  subst (λ ls. AreHalves ls left) (sym same) (record {
    match = subst (AllMatch inside.sessions) (sym met) (states_match (λ s. after s item) kept inside.sessions inside.feeds.links are.match);
    rising = are.rising;
  }),
  (λ rest. settled ∙ ap (λ b. waiting_after b inside.feeds.waiting) rest, λ rest. ap is_whole same ∙ resting.1 rest),
)
met_are (Err e) inside left_hs left item are kept same met settled gone resting = (none_left left_hs left gone, none_rests inside.rests left_hs left gone)

pub emptied : {E : Type 0} (r : Result ⊤ E) (inside : Inside) (left_hs : List LinkSeen) (left : FeedsSeen) {now : ServedSeen} → served_seen inside.sessions inside.feeds inside.queued inside.rests ≡ now
    → OnErr r ((left_hs ≡ []) × (left ≡ record { links = []; waiting = 0 })) → OnErr r (IsEmptied now (served_seen left_hs left inside.queued inside.rests))
emptied (Ok done) inside left_hs left view gone = tt
emptied (Err e) inside left_hs left view gone =
    let none : put_in left.links ≡ 0 = ap (λ (f : FeedsSeen). put_in f.links) gone.1 in
    let total = ap (λ (s : ServedSeen). s.queued) view in
    record {
      links = ap (λ ls. here (joined_all ls left.links)) gone.0;
      waiting = ap (λ (f : FeedsSeen). f.waiting) gone.1;
      queued = omega (arith, none, total);
      rests = ap rests_of view;
    }

-- whose numbers rise
pub emptied_rises : {old new : ServedSeen} → IsEmptied old new → (high : ℕ) → Rises 0 (numbers new.links) high
emptied_rises gone high = subst (λ (links : List LinkSeen). Rises 0 (numbers links) high) (sym gone.links) (omega arith)

-- the numbers of those that are here, as they are kept
pub numbers_here : (hs : List LinkSeen) (ss : List FeedSeen) → AllMatch hs ss → numbers (here (joined_all hs ss)) ≡ numbers (here hs)
numbers_here hs ss all = ap numbers (sym (joined_here hs ss all)) ∙ numbers_same (here hs) (present hs ss) (match_here hs ss all)

pub met_rises : {E : Type 0} (r : Result ⊤ E) (inside : Inside) (left_hs : List LinkSeen) (left : FeedsSeen) {now : ServedSeen} → served_seen inside.sessions inside.feeds inside.queued inside.rests ≡ now
    → AreHalves inside.sessions inside.feeds → AreHalves left_hs left → OnOk r (left_hs ≡ inside.sessions) → OnErr r ((left_hs ≡ []) × (left ≡ record { links = []; waiting = 0 }))
    → (high : ℕ) → Rises 0 (numbers now.links) high → Rises 0 (numbers (here (joined_all left_hs left.links))) high
met_rises (Ok done) inside left_hs left view are left_are same gone high rises =
    let hs = inside.sessions in
    let ss = inside.feeds.links in
    subst (λ ns. Rises 0 ns high)
    (sym (numbers_here left_hs left.links left_are.match ∙ ap (λ links. numbers (here links)) same ∙ sym (numbers_here hs ss are.match) ∙ ap (λ (served : ServedSeen). numbers served.links) view)) rises
met_rises (Err e) inside left_hs left view are left_are same gone high rises = subst (λ ls. Rises 0 (numbers (here (joined_all ls left.links))) high) (sym gone.0) (omega arith)

pub met_seen : {E : Type 0} (r : Result ⊤ E) (step : LinkSeen → LinkSeen) (count : ServedSeen → ℕ) (inside : Inside) (left_hs : List LinkSeen) (left : FeedsSeen) (item : ItemSeen) {now : ServedSeen}
    → ((link : LinkSeen) → named_of (step link) ≡ named_of link)
    → joined_all inside.sessions (met_by item inside.feeds.links) ≡ map step (joined_all inside.sessions inside.feeds.links)
    → more (put_in (met_by item inside.feeds.links)) inside.queued ≡ count (served_seen inside.sessions inside.feeds inside.queued inside.rests)
    → OnOk r (left_hs ≡ inside.sessions) → OnOk r (left.links ≡ met_by item inside.feeds.links) → OnOk r (left.waiting ≡ waiting_after inside.rests inside.feeds.waiting)
    → served_seen inside.sessions inside.feeds inside.queued inside.rests ≡ now
    → OnOk r (served_seen left_hs left inside.queued inside.rests ≡ record now { links = map step now.links; queued = count now; waiting = waiting_after now.rests now.waiting })
met_seen (Ok done) step count inside left_hs left item keeps stepped counts same met settled is =
    let met_links = met_by item inside.feeds.links in
    let links = joined_all inside.sessions inside.feeds.links in
    ap (λ ls. served_seen ls left inside.queued inside.rests) same
    ∙ ap (λ (ls : List FeedSeen). record { links = here (joined_all inside.sessions ls); queued = more (put_in ls) inside.queued; waiting = left.waiting; rests = inside.rests }) met
    ∙ ap (λ n. record { links = here (joined_all inside.sessions met_links); queued = more (put_in met_links) inside.queued; waiting = n; rests = inside.rests }) settled
    ∙ ap (λ (ls : List LinkSeen). record { links = ls; queued = more (put_in met_links) inside.queued; waiting = waiting_after inside.rests inside.feeds.waiting; rests = inside.rests }) (ap here stepped ∙ here_stepped step keeps links)
    ∙ ap (λ m. record { links = map step (here links); queued = m; waiting = waiting_after inside.rests inside.feeds.waiting; rests = inside.rests }) counts
    ∙ ap (λ (s : ServedSeen). record s { links = map step s.links; queued = count s; waiting = waiting_after s.rests s.waiting }) is
met_seen (Err e) step count inside left_hs left item keeps stepped counts same met settled is = tt

-- all that came is matched
pub settled_are : {E : Type 0} (r : Result ⊤ E) (inside : Inside) (left_hs : List LinkSeen) (left : FeedsSeen) → AreHalves inside.sessions inside.feeds → OnOk r (left_hs ≡ inside.sessions)
    → OnOk r (left ≡ record inside.feeds { waiting = 0 }) → OnErr r ((left_hs ≡ []) × (left ≡ record { links = []; waiting = 0 })) → AtRest inside.rests inside.sessions inside.feeds → AreHalves left_hs left × AtRest inside.rests left_hs left
settled_are (Ok done) inside left_hs left are same is gone resting = (
  subst (λ ls. AreHalves ls left) (sym same) (subst (AreHalves inside.sessions) (sym is) (record { match = are.match; rising = are.rising })),
  (λ rest. ap (λ (f : FeedsSeen). f.waiting) is, λ rest. ap is_whole same ∙ resting.1 rest),
)
settled_are (Err e) inside left_hs left are same is gone resting = (none_left left_hs left gone, none_rests inside.rests left_hs left gone)

pub settled_seen : {E : Type 0} (r : Result ⊤ E) (inside : Inside) (left_hs : List LinkSeen) (left : FeedsSeen) {now : ServedSeen} → OnOk r (left_hs ≡ inside.sessions)
    → OnOk r (left ≡ record inside.feeds { waiting = 0 }) → served_seen inside.sessions inside.feeds inside.queued inside.rests ≡ now
    → OnOk r (served_seen left_hs left inside.queued inside.rests ≡ record now { waiting = 0 })
settled_seen (Ok done) inside left_hs left same is view =
    ap (λ ls. served_seen ls left inside.queued inside.rests) same ∙ ap (λ f. served_seen inside.sessions f inside.queued inside.rests) is ∙ ap (λ (s : ServedSeen). record s { waiting = 0 }) view
settled_seen (Err e) inside left_hs left same is view = tt

-- a duplicate that is shown to nobody
module _ (from : Source) (line : List ℕ) where
  unshown : (l : LinkSeen) → shows_kept l ≡ false → is_shown_at from l ≡ false
  unshown l hides = ap (λ b. not (is_from l.link from) && b) hides ∙ and-false (not (is_from l.link from))

  pub none_shown : (links : List LinkSeen) → list_any shows_kept links ≡ false → links ≡ map (with_shown from line) links
  none_shown [] none = refl
  none_shown (l ∷ links) none =
      ⊎_elim
      (λ (shows : shows_kept l ≡ true). absurd (true≢false (sym (ap (λ b. b || list_any shows_kept links) shows) ∙ none)))
      (λ (hides : shows_kept l ≡ false).
      let rest = none_shown links (sym (ap (λ b. b || list_any shows_kept links) hides) ∙ none) in
      ap (λ ls. l ∷ ls) rest ∙ ap (λ b. (if b then with_text line l else l) ∷ map (with_shown from line) links) (sym (unshown l hides)))
      (cases_Bool (shows_kept l))

  pub none_taken : (links : List LinkSeen) → list_any shows_kept links ≡ false → filter (takes_shown from) links ≡ []
  none_taken [] none = refl
  none_taken (l ∷ links) none =
      ⊎_elim
      (λ (shows : shows_kept l ≡ true). absurd (true≢false (sym (ap (λ b. b || list_any shows_kept links) shows) ∙ none)))
      (λ (hides : shows_kept l ≡ false).
      ap (λ b. cond (b && has_room l) (l ∷ filter (takes_shown from) links) (filter (takes_shown from) links)) (unshown l hides)
      ∙ none_taken links (sym (ap (λ b. b || list_any shows_kept links) hides) ∙ none))
      (cases_Bool (shows_kept l))

-- ---- links that have met all that came

-- all of them change
pub fed_on : (g : FeedSeen → FeedSeen) → ((h : LinkSeen) (s : FeedSeen) → Matches h s → Matches h (g s))
    → (hs : List LinkSeen) (feeds left : FeedsSeen) → AreHalves hs feeds → left ≡ record feeds { links = map g feeds.links } → AreHalves hs left
fed_on g kept hs feeds left are is = subst (AreHalves hs) (sym is) (record { match = states_match g kept hs feeds.links are.match; rising = are.rising })

pub forgotten_matches : (now : ℕ) (h : LinkSeen) (s : FeedSeen) → Matches h s → Matches h (forgotten now s)
forgotten_matches now h s m =
    record { link = m.link; inbound = m.inbound; alive = m.alive; limit = m.limit; feed = m.feed; me = m.me; many = length-map s.friends (fresh now) ∙ m.many }

pub forgotten_same : (now : ℕ) (h : LinkSeen) (s : FeedSeen) → joined h (forgotten now s) ≡ at_moment now (joined h s)
forgotten_same now h s =
    ⊎_elim
    (λ (over : s.over ≡ true). rw over refl)
    (λ (under : s.over ≡ false). rw under refl)
    (cases_Bool s.over)

-- some of them leave, once what was put is counted
pub left_are : (ns : List ℕ) (hs left_hs : List LinkSeen) (feeds counts left : FeedsSeen) → AreHalves hs feeds → left_hs ≡ filter (is_none_of ns) hs
    → counts ≡ record feeds { links = map counted feeds.links } → left ≡ record counts { links = filter (is_other ns) counts.links } → AreHalves left_hs left
left_are ns hs left_hs feeds counts left are halves put is =
    subst (λ ls. AreHalves ls left) (sym halves)
    (subst (AreHalves (filter (is_none_of ns) hs)) (sym is)
    (subst (λ (f : FeedsSeen). AreHalves (filter (is_none_of ns) hs) (record f { links = filter (is_other ns) f.links })) (sym put) (record {
      match = match_left ns hs (map counted feeds.links) (states_match counted counted_match hs feeds.links are.match);
      rising = rises_filter (is_none_of ns) 0 (2 ^ 32) hs are.rising;
    })))

pub left_seen : (ns : List ℕ) (hs left_hs : List LinkSeen) (feeds counts left : FeedsSeen) (put queued total : ℕ) (rests : Bool) (now : ServedSeen) → AreHalves hs feeds → left_hs ≡ filter (is_none_of ns) hs
    → put ≡ put_in feeds.links → counts ≡ record feeds { links = map counted feeds.links } → left ≡ record counts { links = filter (is_other ns) counts.links } → total ≡ min (queued + put) (2 ^ 64 - 1)
    → served_seen hs feeds queued rests ≡ now → served_seen left_hs left total rests ≡ record now { links = filter (is_none_of ns) now.links }
left_seen ns hs left_hs feeds counts left put queued total rests now are halves is_put counting is sum view =
    let ss = map counted feeds.links in
    let is_total : total ≡ more (put_in feeds.links) queued = sum ∙ ap (λ n. min (queued + n) (2 ^ 64 - 1)) is_put in
    let none : put_in (filter (is_other ns) ss) ≡ 0 = put_left ns ss (none_put feeds.links) in
    let match = states_match counted counted_match hs feeds.links are.match in
    ap (λ ls. served_seen ls left total rests) halves
    ∙ ap (λ f. served_seen (filter (is_none_of ns) hs) f total rests) is
    ∙ ap (λ (f : FeedsSeen). served_seen (filter (is_none_of ns) hs) (record f { links = filter (is_other ns) f.links }) total rests) counting
    ∙ ap (λ (ls : List LinkSeen). record { links = ls; queued = more (put_in (filter (is_other ns) ss)) total; waiting = feeds.waiting; rests = rests })
    (ap here (joined_left ns hs ss match ∙ ap (filter (is_none_of ns)) (counted_all hs feeds.links)) ∙ here_filter (is_none_of ns) (joined_all hs feeds.links))
    ∙ ap (λ n. record { links = filter (is_none_of ns) (here (joined_all hs feeds.links)); queued = more n total; waiting = feeds.waiting; rests = rests }) none
    ∙ ap (λ n. record { links = filter (is_none_of ns) (here (joined_all hs feeds.links)); queued = n; waiting = feeds.waiting; rests = rests }) (ap (more 0) is_total ∙ none_later queued (put_in feeds.links))
    ∙ ap (λ (s : ServedSeen). record s { links = filter (is_none_of ns) s.links }) view

-- where no number is named none leaves
pub none_leaves : (links : List LinkSeen) → filter (is_none_of []) links ≡ links
none_leaves [] = refl
none_leaves (l ∷ links) = ap (λ ls. l ∷ ls) (none_leaves links)

-- one more comes
pub more_are : (hs left_hs : List LinkSeen) (feeds left : FeedsSeen) (h : LinkSeen) (s : FeedSeen) (high : ℕ) → AreHalves hs feeds → Matches h s → Rises 0 (numbers hs) high → high < h.link
    → h.link < 2 ^ 32 → left_hs ≡ hs ++ h ∷ [] → left ≡ record feeds { links = feeds.links ++ s ∷ [] } → AreHalves left_hs left
more_are hs left_hs feeds left h s high are new rises above small halves is =
    subst (λ ls. AreHalves ls left) (sym halves)
    (subst (AreHalves (hs ++ h ∷ [])) (sym is) (record {
      match = match_push hs feeds.links h s are.match new;
      rising = rises_higher 0 h.link (2 ^ 32) (numbers (hs ++ h ∷ [])) (omega arith) (rises_push 0 high hs h rises above);
    }))

pub more_links : (hs left_hs now : List LinkSeen) (feeds left : FeedsSeen) (h link : LinkSeen) (s : FeedSeen) → AreHalves hs feeds → left_hs ≡ hs ++ h ∷ [] → left ≡ record feeds { links = feeds.links ++ s ∷ [] }
    → is_here link ≡ true → joined h s ≡ link → here (joined_all hs feeds.links) ≡ now → here (joined_all left_hs left.links) ≡ now ++ link ∷ []
more_links hs left_hs now feeds left h link s are halves is stays new view =
    ap (λ ls. here (joined_all ls left.links)) halves
    ∙ ap (λ (f : FeedsSeen). here (joined_all (hs ++ h ∷ []) f.links)) is
    ∙ ap here (joined_push hs feeds.links h s are.match ∙ ap (λ l. joined_all hs feeds.links ++ l ∷ []) new)
    ∙ here_push (joined_all hs feeds.links) link stays
    ∙ ap (λ ls. ls ++ link ∷ []) view

pub more_put : (feeds left : FeedsSeen) (s : FeedSeen) → s.put ≡ 0 → left ≡ record feeds { links = feeds.links ++ s ∷ [] } → put_in left.links ≡ put_in feeds.links
more_put feeds left s none is = ap (λ (f : FeedsSeen). put_in f.links) is ∙ put_push feeds.links s none

-- ---- one of them changes

-- what was found is there
pub within_halves : (number place : ℕ) (hs searched : List LinkSeen) → searched ≡ hs → Some place ≡ position (has_that number) searched → place < length hs
within_halves number place hs searched same found = (position_some (has_that number) hs place (found ∙ ap (position (has_that number)) same)).0

pub within_feeds : (place : ℕ) (hs : List LinkSeen) (feeds : FeedsSeen) → AreHalves hs feeds → place < length hs → place < length feeds.links
within_feeds place hs feeds are within = let many = as_many hs feeds.links are.match in omega (arith, many, within)

pub half_at : (hs : List LinkSeen) (place : ℕ) → place < length hs → (h : LinkSeen) × (h ≡ get_or hs place h)
half_at [] place lt = absurd (omega arith)
half_at (h ∷ hs) zero lt = (h, refl)
half_at (h ∷ hs) (suc place) lt = half_at hs place (omega arith)

-- a half that is put where it stands
pub half_kept : (hs : List LinkSeen) (place : ℕ) (h : LinkSeen) → h ≡ get_or hs place h → slice_set hs place h ≡ hs
half_kept [] place h at = refl
half_kept (x ∷ hs) zero h at = ap (λ l. l ∷ hs) at
half_kept (x ∷ hs) (suc place) h at = ap (λ ls. x ∷ ls) (half_kept hs place h at)

module _ (hs : List LinkSeen) (feeds left : FeedsSeen) (are : AreHalves hs feeds) (place : ℕ) (h new : LinkSeen) (s t : FeedSeen) (within : place < length hs) (at : h ≡ get_or hs place h)
    (there : s ≡ get_or feeds.links place s) (is : left ≡ record feeds { links = slice_set feeds.links place t }) where
  pub changed_are : Matches new t → new.link ≡ h.link → AreHalves (slice_set hs place new) left
  changed_are matches same =
      subst (AreHalves (slice_set hs place new)) (sym is) (record {
        match = match_set hs feeds.links place new t are.match matches;
        rising = subst (λ ns. Rises 0 ns (2 ^ 32)) (sym (map-set_same number_of hs place new h (same ∙ ap number_of at))) are.rising;
      })

  pub changed_settled : left.waiting ≡ feeds.waiting
  changed_settled = ap (λ (f : FeedsSeen). f.waiting) is

  pub changed_put : t.put ≡ s.put → put_in left.links ≡ put_in feeds.links
  changed_put put =
      ap (λ (f : FeedsSeen). put_in f.links) is
      ∙ put_set feeds.links place t (λ d found. put ∙ ap (λ (x : FeedSeen). x.put) (there ∙ same_there feeds.links place s d (omega (arith, as_many hs feeds.links are.match, within)) ∙ sym found))
    where
      same_there : (ss : List FeedSeen) (i : ℕ) (d e : FeedSeen) → i < length ss → get_or ss i d ≡ get_or ss i e
      same_there [] i d e lt = absurd (omega arith)
      same_there (x ∷ ss) zero d e lt = refl
      same_there (x ∷ ss) (suc i) d e lt = same_there ss i d e (omega arith)

  pub changed_links : (number : ℕ) (step : LinkSeen → LinkSeen) → Some place ≡ position (has_that number) hs → joined new t ≡ step (joined h s)
      → joined_all (slice_set hs place new) left.links ≡ map (at_link number step) (joined_all hs feeds.links)
  changed_links number step found stepped =
      let ss = feeds.links in
      let links = joined_all hs ss in
      ap (λ (f : FeedsSeen). joined_all (slice_set hs place new) f.links) is
      ∙ state_set hs ss place h new s t within are.match
      ∙ changed_by number step (2 ^ 32) links place (joined h s) (joined new t) (rises_same (2 ^ 32) hs ss are.match are.rising)
      (found ∙ sym (position_same (has_that number) (λ h s. refl) hs ss are.match)) (joined_at hs ss place h s are.match within at there) stepped

  pub changed_rests : {rests : Bool} → named_of new ≡ named_of h → AtRest rests hs feeds → AtRest rests (slice_set hs place new) left
  changed_rests named resting =
      (λ rest. changed_settled ∙ resting.0 rest, λ rest. same_whole (slice_set hs place new) hs (named_set hs place new h at named) ∙ resting.1 rest)

-- a line for it alone, and what changes with it of what it is fed
module _ (number : ℕ) (hs searched : List LinkSeen) (feeds left : FeedsSeen) (are : AreHalves hs feeds) (place : ℕ) (same : searched ≡ hs) (found : Some place ≡ position (has_that number) searched)
    (f : FeedSeen → FeedSeen) (line : List ℕ) (kept : (h : LinkSeen) (s : FeedSeen) → Matches h s → Matches h (f s))
    (is : (s : FeedSeen) → slice_get feeds.links place ≡ Some s → left ≡ record feeds { links = slice_set feeds.links place (told line (f s)) }) where
  within : place < length hs
  within = within_halves number place hs searched same found

  state : (s : FeedSeen) × (slice_get feeds.links place ≡ Some s) × (s ≡ get_or feeds.links place s)
  state = state_at feeds.links place (within_feeds place hs feeds are within)

  half : (h : LinkSeen) × (h ≡ get_or hs place h)
  half = half_at hs place within

  fed : Matches half.0 (f state.0)
  fed = kept half.0 state.0 (match_at hs feeds.links place half.0 state.0 are.match within half.1 state.2)

  halves_are : AreHalves hs left
  halves_are =
      subst (λ ls. AreHalves ls left) (half_kept hs place half.0 half.1)
      (changed_are hs feeds left are place half.0 half.0 state.0 (told line (f state.0)) within half.1 state.2 (is state.0 state.1)
      (told_matches half.0 (f state.0).link line (f state.0) fed) refl)

  told_settled : left.waiting ≡ feeds.waiting
  told_settled = changed_settled hs feeds left are place half.0 half.0 state.0 (told line (f state.0)) within half.1 state.2 (is state.0 state.1)

  pub told_are : {rests : Bool} → AtRest rests hs feeds → AreHalves hs left × AtRest rests hs left
  told_are resting = (halves_are, (λ rest. told_settled ∙ resting.0 rest, resting.1))

  told_links : (step : LinkSeen → LinkSeen) → ((h : LinkSeen) (s : FeedSeen) → with_text line (joined h (f s)) ≡ step (joined h s))
      → joined_all hs left.links ≡ map (at_link number step) (joined_all hs feeds.links)
  told_links step stepped =
      ap (λ ls. joined_all ls left.links) (sym (half_kept hs place half.0 half.1))
      ∙ changed_links hs feeds left are place half.0 half.0 state.0 (told line (f state.0)) within half.1 state.2 (is state.0 state.1)
      number step (found ∙ ap (position (has_that number)) same) (told_same half.0 (f state.0) fed line ∙ stepped half.0 state.0)

  pub told_seen : (step : LinkSeen → LinkSeen) → ((link : LinkSeen) → named_of (step link) ≡ named_of link) → ((h : LinkSeen) (s : FeedSeen) → with_text line (joined h (f s)) ≡ step (joined h s)) → ((s : FeedSeen) → (f s).put ≡ s.put)
      → (queued : ℕ) (rests : Bool) (now : ServedSeen) → served_seen hs feeds queued rests ≡ now → served_seen hs left queued rests ≡ record now { links = map (at_link number step) now.links }
  told_seen step named stepped put queued rests now view =
      seen_stepped hs hs feeds left queued rests now (at_link number step) (named_at number step named) view (told_links step stepped)
      (changed_put hs feeds left are place half.0 half.0 state.0 (told line (f state.0)) within half.1 state.2 (is state.0 state.1) (told_uncounted half.0 (f state.0) fed (f state.0).link line ∙ put state.0))
      told_settled

-- what is kept of the session of that number changes
module _ (number : ℕ) (step : LinkSeen → LinkSeen) (kept : (h : LinkSeen) (s : FeedSeen) → Matches h s → Matches (step h) s) (same : (h : LinkSeen) (s : FeedSeen) → joined (step h) s ≡ step (joined h s))
    (named : (h : LinkSeen) → named_of (step h) ≡ named_of h) (inside : Inside) (new : List LinkSeen) (is : new ≡ map (at_link number step) inside.sessions) where
  pub stepped_are : AreHalves inside.sessions inside.feeds → AreHalves new inside.feeds
  stepped_are are = record {
    match = subst (λ hs. AllMatch hs inside.feeds.links) (sym is) (halves_match step kept number inside.sessions inside.feeds.links are.match);
    rising = rises_at number step (λ h. ap (λ (name : ℕ × Option Opening). name.0) (named h)) (2 ^ 32) inside.sessions new is are.rising;
  }

  pub stepped_rests : AtRest inside.rests inside.sessions inside.feeds → AtRest inside.rests new inside.feeds
  stepped_rests resting = (resting.0, λ rest. same_whole new inside.sessions (ap (map named_of) is ∙ named_all (at_link number step) (named_at number step named) inside.sessions) ∙ resting.1 rest)

  pub stepped_seen : {now : ServedSeen} → served_seen inside.sessions inside.feeds inside.queued inside.rests ≡ now
      → served_seen new inside.feeds inside.queued inside.rests ≡ record now { links = map (at_link number step) now.links }
  stepped_seen {now} view =
      seen_stepped inside.sessions new inside.feeds inside.feeds inside.queued inside.rests now (at_link number step) (named_at number step named) view
      (ap (λ hs. joined_all hs inside.feeds.links) is ∙ halves_changed step same number inside.sessions inside.feeds.links) refl refl

-- what is kept of a session is there
pub half_there : (hs : List LinkSeen) (i : ℕ) → i < length hs → (h : LinkSeen) × (slice_get hs i ≡ Some h) × (h ≡ get_or hs i h)
half_there [] i lt = absurd (omega arith)
half_there (h ∷ hs) i lt =
    let there = slice_get-get_or (h ∷ hs) i h lt in
    let found = get_or (h ∷ hs) i h in (found, there, sym (get_or_from_slice_get (h ∷ hs) i found found there))

-- both halves of the link of that number change
module _ (number : ℕ) (hs searched : List LinkSeen) (feeds left : FeedsSeen) (are : AreHalves hs feeds) (place : ℕ) (same : searched ≡ hs) (within : place < length hs)
    (g : LinkSeen → LinkSeen) (new_hs : List LinkSeen) (set : (h : LinkSeen) → slice_get hs place ≡ Some h → new_hs ≡ slice_set hs place (g h)) (numbered : (h : LinkSeen) → (g h).link ≡ h.link)
    (f : FeedSeen → FeedSeen) (kept : (h : LinkSeen) (s : FeedSeen) → slice_get hs place ≡ Some h → Matches h s → Matches (g h) (f s))
    (is : (s : FeedSeen) → slice_get feeds.links place ≡ Some s → left ≡ record feeds { links = slice_set feeds.links place (f s) }) where
  half_is : (h : LinkSeen) × (slice_get hs place ≡ Some h) × (h ≡ get_or hs place h)
  half_is = half_there hs place within

  fed_is : (s : FeedSeen) × (slice_get feeds.links place ≡ Some s) × (s ≡ get_or feeds.links place s)
  fed_is = state_at feeds.links place (within_feeds place hs feeds are within)

  abbrev h : LinkSeen
  h = half_is.0

  abbrev s : FeedSeen
  s = fed_is.0

  matches : Matches h s
  matches = match_at hs feeds.links place h s are.match within half_is.2 fed_is.2

  put_there : new_hs ≡ slice_set hs place (g h)
  put_there = set h half_is.1

  changed_halves : AreHalves new_hs left
  changed_halves =
      subst (λ ls. AreHalves ls left) (sym put_there) (changed_are hs feeds left are place h (g h) s (f s) within half_is.2 fed_is.2 (is s fed_is.1) (kept h s half_is.1 matches) (numbered h))

  both_settled : left.waiting ≡ feeds.waiting
  both_settled = changed_settled hs feeds left are place h (g h) s (f s) within half_is.2 fed_is.2 (is s fed_is.1)

  both_links : (step : LinkSeen → LinkSeen) → Some place ≡ position (has_that number) searched → ((h : LinkSeen) (s : FeedSeen) → slice_get hs place ≡ Some h → Matches h s → joined (g h) (f s) ≡ step (joined h s))
      → joined_all new_hs left.links ≡ map (at_link number step) (joined_all hs feeds.links)
  both_links step found stepped =
      ap (λ ls. joined_all ls left.links) put_there
      ∙ changed_links hs feeds left are place h (g h) s (f s) within half_is.2 fed_is.2 (is s fed_is.1) number step (found ∙ ap (position (has_that number)) same) (stepped h s half_is.1 matches)

  both_put : ((h : LinkSeen) (s : FeedSeen) → slice_get hs place ≡ Some h → Matches h s → (f s).put ≡ s.put) → put_in left.links ≡ put_in feeds.links
  both_put put = changed_put hs feeds left are place h (g h) s (f s) within half_is.2 fed_is.2 (is s fed_is.1) (put h s half_is.1 matches)

  pub both_are : {rests : Bool} → ((h : LinkSeen) → named_of (g h) ≡ named_of h) → AtRest rests hs feeds → AreHalves new_hs left × AtRest rests new_hs left
  both_are named resting = (
    changed_halves,
    (λ rest. both_settled ∙ resting.0 rest, λ rest. same_whole new_hs hs (ap (map named_of) put_there ∙ named_set hs place (g h) h half_is.2 (named h)) ∙ resting.1 rest),
  )

  pub both_seen : (step : LinkSeen → LinkSeen) → Some place ≡ position (has_that number) searched → ((link : LinkSeen) → named_of (step link) ≡ named_of link)
      → ((h : LinkSeen) (s : FeedSeen) → slice_get hs place ≡ Some h → Matches h s → joined (g h) (f s) ≡ step (joined h s))
      → ((h : LinkSeen) (s : FeedSeen) → slice_get hs place ≡ Some h → Matches h s → (f s).put ≡ s.put) → (queued : ℕ) (rests : Bool) (now : ServedSeen) → served_seen hs feeds queued rests ≡ now
      → served_seen new_hs left queued rests ≡ record now { links = map (at_link number step) now.links }
  both_seen step found named stepped put queued rests now view =
      seen_stepped hs new_hs feeds left queued rests now (at_link number step) (named_at number step named) view (both_links step found stepped) (both_put put) both_settled

  -- the link leaves
  pub gone_are : {rests : Bool} → rests ≡ false → AreHalves new_hs left × AtRest rests new_hs left
  gone_are wakes = (changed_halves, (λ rest. absurd (true≢false (sym rest ∙ wakes)), λ rest. absurd (true≢false (sym rest ∙ wakes))))

  pub gone_seen : Some place ≡ position (has_that number) searched → ((h : LinkSeen) (s : FeedSeen) → slice_get hs place ≡ Some h → Matches h s → joined (g h) (f s) ≡ when_left (joined h s))
      → ((h : LinkSeen) (s : FeedSeen) → slice_get hs place ≡ Some h → Matches h s → (f s).put ≡ s.put) → (queued : ℕ) (rests : Bool) (now : ServedSeen) → served_seen hs feeds queued rests ≡ now
      → served_seen new_hs left queued rests ≡ record now { links = filter (is_none_of (number ∷ [])) now.links }
  gone_seen found leaves put queued rests now view =
      seen_changed hs new_hs feeds left queued rests now (filter (is_none_of (number ∷ [])) now.links) view
      (ap here (both_links when_left found leaves) ∙ here_left number (joined_all hs feeds.links) ∙ ap (filter (is_none_of (number ∷ []))) (ap links_of view)) (both_put put) both_settled

-- nobody leaves, where none that is here has the number
pub nobody_left : (number : ℕ) (hs searched : List LinkSeen) (feeds : FeedsSeen) (now : List LinkSeen) → AreHalves hs feeds → searched ≡ hs → None ≡ position (is_at number) searched → here (joined_all hs feeds.links) ≡ now
    → now ≡ filter (is_none_of (number ∷ [])) now
nobody_left number hs searched feeds now are same none view =
    let ss = feeds.links in
    let links = joined_all hs ss in
    let nowhere : list_any (is_at number) links ≡ false = any_same (is_at number) (λ h s. refl) hs ss are.match ∙ ap (list_any (is_at number)) (sym same) ∙ position_none (is_at number) searched none in
    sym view ∙ none_left_here number links nowhere ∙ ap (filter (is_none_of (number ∷ []))) view

-- or none, where there is none of that number
pub changed_nobody : (number : ℕ) (step : LinkSeen → LinkSeen) (hs now : List LinkSeen) (feeds : FeedsSeen) → AreHalves hs feeds → None ≡ position (has_that number) hs → here (joined_all hs feeds.links) ≡ now
    → ((link : LinkSeen) → named_of (step link) ≡ named_of link) → now ≡ map (at_link number step) now
changed_nobody number step hs now feeds are none view named =
    let links = joined_all hs feeds.links in
    sym view
    ∙ ap here (changed_nowhere number step links (none ∙ sym (position_same (has_that number) (λ h s. refl) hs feeds.links are.match)))
    ∙ here_stepped (at_link number step) (named_at number step named) links
    ∙ ap (map (at_link number step)) view

-- a link that has logged in
pub login_matches : (h : LinkSeen) (s : FeedSeen) (session : Session) (feed : Feed) (call : List ℕ) (mine : Option Seen) → (down : Option DownSeen) → Matches h s → feed ≡ opening_feed h.opening (Some session) → call ≡ session.call
    → Matches (record h { session = Some session; down = option_or down h.down }) (with_login feed call mine s)
login_matches h s session feed call mine down m fed named =
    record { link = m.link; inbound = m.inbound; alive = m.alive; limit = m.limit; feed = fed; me = ap (λ c. Some c) named; many = m.many }

-- one that has another filter
pub filter_matches : (h : LinkSeen) (s : FeedSeen) (terms : List TermSeen) (friends : List (Option Seen)) → Matches h s → length friends ≡ length terms → Matches h (with_terms terms friends s)
filter_matches h s terms friends m many =
    record { link = m.link; inbound = m.inbound; alive = m.alive; limit = m.limit; feed = m.feed; me = m.me; many = many }

-- one that took bytes
pub taken_matches : (h : LinkSeen) (s : FeedSeen) (blocked : Bool) (n : ℕ) → Matches h s → Matches (record h { blocked = blocked }) (with_taken n s)
taken_matches h s blocked n m =
    record { link = m.link; inbound = m.inbound; alive = m.alive; limit = m.limit; feed = m.feed; me = m.me; many = m.many }

-- one that has just been opened
pub opened_matches : (number : ℕ) (opening : Opening) (feed : Feed) (inbound : Bool) (first : List ℕ) → feed ≡ feed_of opening.kind None → inbound ≡ is_client_of opening.kind
    → Matches (new_half number opening) (new_feed number feed inbound first)
opened_matches number opening feed inbound first fed comes =
    record { link = refl; inbound = comes; alive = refl; limit = refl; feed = fed; me = refl; many = refl }

-- the bytes that the link of a number has still to take
pub pending_there : (number : ℕ) (hs : List LinkSeen) (feeds : FeedsSeen) → AreHalves hs feeds → (place : ℕ) (h : LinkSeen) (s : FeedSeen) → place < length hs → h ≡ get_or hs place h
    → slice_get feeds.links place ≡ Some s → Some place ≡ position (has_that number) hs → is_whole hs ≡ true → (now : List LinkSeen) → here (joined_all hs feeds.links) ≡ now → pending_at number now ≡ queue.pending_bytes s.queue
pending_there number hs feeds are place h s within at there found whole now view =
    let ss = feeds.links in
    let at_place = sym (get_or_from_slice_get ss place s s there) in
    ap (pending_at number) (sym view ∙ joined_whole hs ss are.match whole)
    ∙ picked_found pending_of [] number (joined_all hs ss) place (joined h s) (found ∙ sym (position_same (has_that number) (λ h s. refl) hs ss are.match))
    (joined_at hs ss place h s are.match within at at_place)

pub pending_found : (number place : ℕ) (inside : Inside) (searched : List LinkSeen) {now : ServedSeen} → served_seen inside.sessions inside.feeds inside.queued inside.rests ≡ now
    → AreHalves inside.sessions inside.feeds → is_whole inside.sessions ≡ true → searched ≡ inside.sessions → Some place ≡ position (has_that number) searched
    → (s : FeedSeen) × (slice_get inside.feeds.links place ≡ Some s) × (queue.pending_bytes s.queue ≡ pending_at number now.links)
pending_found number place inside searched {now} view are whole same found =
    let hs = inside.sessions in
    let within = within_halves number place hs searched same found in
    let there = state_at inside.feeds.links place (within_feeds place hs inside.feeds are within) in
    let half = half_at hs place within in (
      there.0,
      there.1,
      sym (pending_there number hs inside.feeds are place half.0 there.0 within half.1 there.1 (found ∙ ap (position (has_that number)) same) whole now.links (ap links_of view)),
    )

pub pending_nowhere : (number : ℕ) (hs : List LinkSeen) (feeds : FeedsSeen) → AreHalves hs feeds → None ≡ position (has_that number) hs → is_whole hs ≡ true → (now : List LinkSeen) → here (joined_all hs feeds.links) ≡ now → pending_at number now ≡ []
pending_nowhere number hs feeds are none whole now view =
    ap (pending_at number) (sym view ∙ joined_whole hs feeds.links are.match whole)
    ∙ picked_none pending_of [] number (joined_all hs feeds.links) (none ∙ sym (position_same (has_that number) (λ h s. refl) hs feeds.links are.match))

-- a link that hasn't left, found among the sessions that are kept
pub within_here : (number place : ℕ) (hs searched : List LinkSeen) → searched ≡ hs → Some place ≡ position (is_at number) searched → place < length hs
within_here number place hs searched same found = (position_some (is_at number) hs place (found ∙ ap (position (is_at number)) same)).0

-- what is picked of it
pub record IsThere {X : Type 0} (pick : LinkSeen → X) (none : X) (number place : ℕ) (feeds : FeedsSeen) (now : List LinkSeen) : Type 0 where
  pub half : LinkSeen
  pub state : FeedSeen
  pub there : slice_get feeds.links place ≡ Some state
  pub picked : pick (joined half state) ≡ picked_at pick none number now

module _ {X : Type 0} (pick : LinkSeen → X) (none : X) (number : ℕ) where
  pub here_there : (place : ℕ) (inside : Inside) (searched : List LinkSeen) {now : ServedSeen} → served_seen inside.sessions inside.feeds inside.queued inside.rests ≡ now
      → AreHalves inside.sessions inside.feeds → searched ≡ inside.sessions → Some place ≡ position (is_at number) searched → IsThere pick none number place inside.feeds now.links
  here_there place inside searched {now} view are same found =
      let hs = inside.sessions in
      let ss = inside.feeds.links in
      let within = within_here number place hs searched same found in
      let fed = state_at ss place (within_feeds place hs inside.feeds are within) in
      let half = half_at hs place within in
      let there = found ∙ ap (position (is_at number)) same ∙ sym (position_same (is_at number) (λ h s. refl) hs ss are.match) in
      record {
        half = half.0;
        state = fed.0;
        there = fed.1;
        picked = sym (picked_there pick none number (joined_all hs ss) place (joined half.0 fed.0) there (joined_at hs ss place half.0 fed.0 are.match within half.1 fed.2)) ∙ ap (picked_at pick none number) (ap links_of view);
      }

  pub here_nowhere : (inside : Inside) (searched : List LinkSeen) {now : ServedSeen} → served_seen inside.sessions inside.feeds inside.queued inside.rests ≡ now
      → AreHalves inside.sessions inside.feeds → searched ≡ inside.sessions → None ≡ position (is_at number) searched → picked_at pick none number now.links ≡ none
  here_nowhere inside searched {now} view are same missing =
      let hs = inside.sessions in
      let ss = inside.feeds.links in
      let nowhere = missing ∙ ap (position (is_at number)) same ∙ sym (position_same (is_at number) (λ h s. refl) hs ss are.match) in
      ap (picked_at pick none number) (sym (ap links_of view)) ∙ picked_missing pick none number (joined_all hs ss) nowhere

-- ---- an accepted packet comes

module _ (packet : PacketSeen) (source : SourcePlace) (hearers owed : List ℕ) (hs : List LinkSeen) (ss : List FeedSeen) (all : AllMatch hs ss) (rising : Rises 0 (numbers hs) (2 ^ 32)) where
  abbrev asks : LinkSeen → Bool
  asks = is_asked_at packet hearers owed

  abbrev extra : List ℕ
  extra = numbers (filter asks hs)

  listed : All (λ h. is_among h.link extra ≡ asks h) hs
  listed = λ k d lt. listed_at asks 0 (2 ^ 32) hs k d (get_or hs k d) rising lt refl

  pub shared_links : joined_all hs (met_by (Came (offer_of packet source extra)) ss) ≡ map (with_packet packet source hearers owed) (joined_all hs ss)
  shared_links =
      states_changed (λ s. after s (Came (offer_of packet source extra))) (λ h. is_among h.link extra ≡ asks h) (with_packet packet source hearers owed)
      (λ h s asked m. heard_same h s m packet source hearers owed extra (ap (λ n. is_among n extra) m.link ∙ asked))
      hs ss listed all

  pub shared_put : put_in (met_by (Came (offer_of packet source extra)) ss) ≡ more (length (filter (takes_packet packet source hearers owed) (joined_all hs ss))) (put_in ss)
  shared_put =
      put_changed (λ s. after s (Came (offer_of packet source extra))) (λ h. is_among h.link extra ≡ asks h) (takes_packet packet source hearers owed)
      (λ h s asked m. heard_counted h s m packet source hearers owed extra (ap (λ n. is_among n extra) m.link ∙ asked))
      hs ss listed all

-- ---- a duplicate is refused

module _ (packet : PacketSeen) (hs : List LinkSeen) (ss : List FeedSeen) (all : AllMatch hs ss) where
  pub shown_links : joined_all hs (met_by (Came (refused_of packet)) ss) ≡ map (with_shown packet.from packet.line) (joined_all hs ss)
  shown_links = states_changed (λ s. after s (Came (refused_of packet))) (λ h. h ≡ h) (with_shown packet.from packet.line) (λ h s same m. shown_same h s m packet) hs ss (any_half hs) all

  pub shown_put : put_in (met_by (Came (refused_of packet)) ss) ≡ more (length (filter (takes_shown packet.from) (joined_all hs ss))) (put_in ss)
  shown_put = put_changed (λ s. after s (Came (refused_of packet))) (λ h. h ≡ h) (takes_shown packet.from) (λ h s same m. shown_counted h s m packet) hs ss (any_half hs) all

-- ---- the clients are told the date

pub dated_links : (line : List ℕ) (hs : List LinkSeen) (ss : List FeedSeen) → AllMatch hs ss → joined_all hs (met_by (ToldAll line) ss) ≡ map (with_date line) (joined_all hs ss)
dated_links line hs ss all = states_changed (λ s. after s (ToldAll line)) (λ h. h ≡ h) (with_date line) (λ h s same m. date_same h s m line) hs ss (any_half hs) all

pub dated_put : (line : List ℕ) (hs : List LinkSeen) (ss : List FeedSeen) → AllMatch hs ss → put_in (met_by (ToldAll line) ss) ≡ put_in ss
dated_put line hs ss all = put_kept (λ s. after s (ToldAll line)) (λ h s m. date_uncounted h s m line) hs ss all

-- ---- those that left are let go

module _ (hs new_hs : List LinkSeen) (feeds counts left : FeedsSeen) (halves : new_hs ≡ here hs) (counting : counts ≡ record feeds { links = map counted feeds.links })
    (is : left ≡ record counts { links = filter is_served counts.links }) where
  swept_links : left.links ≡ filter is_served (map counted feeds.links)
  swept_links = ap (λ (f : FeedsSeen). f.links) is ∙ ap (λ (f : FeedsSeen). filter is_served f.links) counting

  pub swept_are : AreHalves hs feeds → AreHalves new_hs left
  swept_are are = record {
    match = subst (λ ls. AllMatch ls left.links) (sym halves) (subst (AllMatch (here hs)) (sym swept_links) (swept_match hs (map counted feeds.links) (states_match counted counted_match hs feeds.links are.match)));
    rising = subst (λ ls. Rises 0 (numbers ls) (2 ^ 32)) (sym halves) (rises_filter is_here 0 (2 ^ 32) hs are.rising);
  }

  pub swept_seen : AllMatch hs feeds.links → joined_all new_hs left.links ≡ here (joined_all hs feeds.links)
  swept_seen all =
      ap (λ ls. joined_all ls left.links) halves ∙ ap (joined_all (here hs)) swept_links ∙ swept_joined hs (map counted feeds.links) (states_match counted counted_match hs feeds.links all) ∙ ap here (counted_all hs feeds.links)

  pub swept_put : (put : ℕ) → put ≡ put_in feeds.links → more (put_in left.links) put ≡ put_in feeds.links
  swept_put put is_put =
      let none : put_in left.links ≡ 0 = ap put_in swept_links ∙ none_put_of is_served feeds.links in
      ap (λ n. more n put) none ∙ ap (more 0) is_put ∙ capped_put feeds.links

-- what was counted once more counts the same
pub recounted : (put left queued before : ℕ) → more left put ≡ before → more left (min (queued + put) (2 ^ 64 - 1)) ≡ more before queued
recounted put left queued before is = omega (arith, is)

-- and nothing else changes
pub swept_same : (hs new_hs : List LinkSeen) (feeds left : FeedsSeen) (put queued total : ℕ) (rests : Bool) → here (joined_all new_hs left.links) ≡ here (joined_all hs feeds.links) → more (put_in left.links) put ≡ put_in feeds.links
    → total ≡ min (queued + put) (2 ^ 64 - 1) → left.waiting ≡ feeds.waiting → served_seen new_hs left total rests ≡ served_seen hs feeds queued rests
swept_same hs new_hs feeds left put queued total rests links counts sum settled =
    ap (λ (ls : List LinkSeen). record { links = ls; queued = more (put_in left.links) total; waiting = left.waiting; rests = rests }) links
    ∙ ap (λ n. record { links = here (joined_all hs feeds.links); queued = n; waiting = left.waiting; rests = rests })
    (ap (more (put_in left.links)) sum ∙ recounted put (put_in left.links) queued (put_in feeds.links) counts)
    ∙ ap (λ n. record { links = here (joined_all hs feeds.links); queued = more (put_in feeds.links) queued; waiting = n; rests = rests }) settled
