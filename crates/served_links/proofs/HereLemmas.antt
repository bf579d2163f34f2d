-- Links that have left, and keep their places until all such are let go.
use Rattle.std.proofs.Common.{◌≡◌, ℕ, zero, suc, ◌+◌, ◌≤◌, ◌<◌, ◌==◌, ◌||◌, ◌&&◌, Bool, true, false, not, List, [], ◌∷◌, ◌++◌, length, map, filter, get_or, slice_get, slice_set, refl, sym, ap, ◌∙◌, subst, arith, cond, take, ⊎_elim, eq-eqb, Option, Some, None, is_some, if◌then◌else◌}
use Rattle.std.specs.Int.{from_bool}
use Rattle.std.specs.List.{flat_map, list_all, list_any, position, position_or_len}
use Rattle.std.proofs.Math.Seq.{map-set_same}
use Rattle.std.proofs.Math.Bool.{and-false, and-true}
use Rattle.std.proofs.lemmas.Bool.{and_parts, cases_Bool, ne_eqb, eqb-true, true≢false}
use Rattle.std.proofs.lemmas.List.{length-append, length-map, take_at}
use Rattle.std.proofs.lemmas.List.Folds.{list_all-append, list_all-map}
use Rattle.std.proofs.lemmas.Option.{get_or_from_slice_get}
use Rattle.std.proofs.lemmas.Simd.{map-map}
use Rattle.aprs_history.specs.declared.verdicts.LinkKind.{LinkKind}
use Rattle.aprs_history.specs.declared.verdicts.LinkKind.TheVariants.{Client, Uplink}
use Rattle.aprs_history.specs.declared.verdicts.Session.{Session}
use Rattle.aprs_history.specs.Links.{Opening, is_client_link, is_client_of}
use Rattle.aprs_base.specs.PacketSeen.{PacketSeen}
use Rattle.aprs_base.specs.declared.packets.Source.{Source}
use Rattle.aprs_history.specs.Texts.{most_waiting, opening_wants, shows_duplicates}
use Rattle.aprs_history.specs.Trace.{is_from}
use Rattle.filter_eval.specs.declared.seen.Seen.{Seen}
use Rattle.station_table.specs.Stations.{seen_in}
use Rattle.aprs_history.specs.Stands.{LinkSeen}
use Rattle.worker_match.specs.Seen.{FeedSeen}
use Rattle.worker_match.specs.Feeds as feeds
use Rattle.served_links.specs.Changes.{at_link, has_room, is_asked_at, is_shown_at, passes_packet, takes_packet, takes_shown, wants_packet, with_copy, with_date, with_packet, with_seen, with_shown, with_text}
use Rattle.served_links.specs.declared.link.SourcePlace.{SourcePlace}
use Rattle.served_links.specs.Fed.{AllMatch, Matches, feed_of, joined, joined_all, opening_feed, shows_kept}
use Rattle.served_links.specs.Links.{client_kept, clients_in, has_that, here, is_another, is_at, is_here, is_none_of, is_whole, login_here, login_kept, named_of, numbers, other_here, other_login, picked_at, when_left}
use Rattle.served_links.proofs.LinkLemmas.{position_none, position_some}

-- ---- what hangs on the numbers and the openings alone

abbrev Name : Type 0
Name = ℕ × Option Opening

abbrev number_in : Name → ℕ
number_in name = name.0

abbrev opens : Name → Bool
opens name = is_some name.1

abbrev is_client_in : Name → Bool
is_client_in name = is_client_link name.1

filter_named : (p : Name → Bool) (links : List LinkSeen) → filter p (map named_of links) ≡ map named_of (filter (λ link. p (named_of link)) links)
filter_named p [] = refl
filter_named p (x ∷ links) =
    ⊎_elim
    (λ (passes : p (named_of x) ≡ true). rw passes (ap (λ ns. named_of x ∷ ns) (filter_named p links)))
    (λ (fails : p (named_of x) ≡ false). rw fails (filter_named p links))
    (cases_Bool (p (named_of x)))

numbers_by : (links : List LinkSeen) → map number_in (map named_of links) ≡ numbers links
numbers_by links = map-map number_in named_of links

here_by : (links : List LinkSeen) → map number_in (filter opens (map named_of links)) ≡ numbers (here links)
here_by links = ap (map number_in) (filter_named opens links) ∙ numbers_by (here links)

clients_by : (links : List LinkSeen) → length (filter is_client_in (map named_of links)) ≡ clients_in links
clients_by links = ap length (filter_named is_client_in links) ∙ length-map (filter client_kept links) named_of

whole_by : (links : List LinkSeen) → list_all opens (map named_of links) ≡ is_whole links
whole_by links = list_all-map opens named_of links

module _ (new links : List LinkSeen) (same : map named_of new ≡ map named_of links) where
  pub same_numbers : numbers new ≡ numbers links
  same_numbers = sym (numbers_by new) ∙ ap (map number_in) same ∙ numbers_by links

  pub same_here : numbers (here new) ≡ numbers (here links)
  same_here = sym (here_by new) ∙ ap (λ names. map number_in (filter opens names)) same ∙ here_by links

  pub same_clients : clients_in new ≡ clients_in links
  same_clients = sym (clients_by new) ∙ ap (λ names. length (filter is_client_in names)) same ∙ clients_by links

  pub same_whole : is_whole new ≡ is_whole links
  same_whole = sym (whole_by new) ∙ ap (list_all opens) same ∙ whole_by links

  -- so the count of clients and whether all are here stay right
  pub kept_right : (clients : ℕ) (parted : Bool) → (clients ≡ clients_in links) × (parted ≡ false → is_whole links ≡ true) → (clients ≡ clients_in new) × (parted ≡ false → is_whole new ≡ true)
  kept_right clients parted right = (right.0 ∙ sym same_clients, λ whole. same_whole ∙ right.1 whole)

-- a step that keeps the number and the opening
pub named_at : (number : ℕ) (step : LinkSeen → LinkSeen) → ((link : LinkSeen) → named_of (step link) ≡ named_of link) → (link : LinkSeen) → named_of (at_link number step link) ≡ named_of link
named_at number step same link = elim (has_that number link) as (λ b. named_of (cond b (step link) link) ≡ named_of link) [ true ↦ same link | false ↦ refl ]

pub named_all : (step : LinkSeen → LinkSeen) → ((link : LinkSeen) → named_of (step link) ≡ named_of link) → (links : List LinkSeen) → map named_of (map step links) ≡ map named_of links
named_all step same links = map-map named_of step links ∙ (λ k. map (λ link. same link k) links)

pub named_set : (links : List LinkSeen) (place : ℕ) (new old : LinkSeen) → old ≡ get_or links place old → named_of new ≡ named_of old → map named_of (slice_set links place new) ≡ map named_of links
named_set links place new old at same = map-set_same named_of links place new old (same ∙ ap named_of at)

-- ---- those that are here

-- a step at them
pub here_stepped : (step : LinkSeen → LinkSeen) → ((link : LinkSeen) → named_of (step link) ≡ named_of link) → (links : List LinkSeen) → here (map step links) ≡ map step (here links)
here_stepped step same [] = refl
here_stepped step same (x ∷ links) =
    ap (λ b. cond b (step x ∷ here (map step links)) (here (map step links))) (ap opens (same x))
    ∙ ⊎_elim
    (λ (stays : is_here x ≡ true). rw stays (ap (λ ls. step x ∷ ls) (here_stepped step same links)))
    (λ (left : is_here x ≡ false). rw left (here_stepped step same links))
    (cases_Bool (is_here x))

-- what only such pass that are here
pub here_passing : (p : LinkSeen → Bool) → ((link : LinkSeen) → is_here link ≡ false → p link ≡ false) → (links : List LinkSeen) → filter p (here links) ≡ filter p links
here_passing p none [] = refl
here_passing p none (x ∷ links) =
    ⊎_elim
    (λ (stays : is_here x ≡ true). rw stays (ap (λ ls. cond (p x) (x ∷ ls) ls) (here_passing p none links)))
    (λ (left : is_here x ≡ false). rw (left, none x left) (here_passing p none links))
    (cases_Bool (is_here x))

pub here_and : (p : LinkSeen → Bool) (links : List LinkSeen) → filter (λ link. is_here link && p link) links ≡ filter p (here links)
here_and p [] = refl
here_and p (x ∷ links) =
    ⊎_elim
    (λ (stays : is_here x ≡ true). rw stays (ap (λ ls. cond (p x) (x ∷ ls) ls) (here_and p links)))
    (λ (left : is_here x ≡ false). rw left (here_and p links))
    (cases_Bool (is_here x))

-- the order of two choices
pub here_filter : (p : LinkSeen → Bool) (links : List LinkSeen) → here (filter p links) ≡ filter p (here links)
here_filter p [] = refl
here_filter p (x ∷ links) =
    ⊎_elim
    (λ (passes : p x ≡ true). ⊎_elim
    (λ (stays : is_here x ≡ true). rw (passes, stays, passes) (ap (λ ls. x ∷ ls) (here_filter p links)))
    (λ (left : is_here x ≡ false). rw (passes, left) (here_filter p links))
    (cases_Bool (is_here x)))
    (λ (fails : p x ≡ false). ⊎_elim
    (λ (stays : is_here x ≡ true). rw (fails, stays, fails) (here_filter p links))
    (λ (left : is_here x ≡ false). rw (fails, left) (here_filter p links))
    (cases_Bool (is_here x)))
    (cases_Bool (p x))

pub here_push : (links : List LinkSeen) (new : LinkSeen) → is_here new ≡ true → here (links ++ new ∷ []) ≡ here links ++ new ∷ []
here_push [] new stays = ap (λ b. cond b (new ∷ []) []) stays
here_push (x ∷ links) new stays =
    ⊎_elim
    (λ (is : is_here x ≡ true). rw is (ap (λ ls. x ∷ ls) (here_push links new stays)))
    (λ (left : is_here x ≡ false). rw left (here_push links new stays))
    (cases_Bool (is_here x))

pub whole_push : (links : List LinkSeen) (new : LinkSeen) → is_here new ≡ true → is_whole links ≡ true → is_whole (links ++ new ∷ []) ≡ true
whole_push links new stays whole = list_all-append is_here links (new ∷ []) ∙ ap (λ b. b && (is_here new && true)) whole ∙ ap (λ b. b && true) stays

pub here_whole : (links : List LinkSeen) → is_whole links ≡ true → here links ≡ links
here_whole [] whole = refl
here_whole (x ∷ links) whole =
    let parts = and_parts (is_here x) (is_whole links) whole in
    ap (λ b. cond b (x ∷ here links) (here links)) parts.0 ∙ ap (λ ls. x ∷ ls) (here_whole links parts.1)

pub whole_filter : (p : LinkSeen → Bool) (links : List LinkSeen) → is_whole links ≡ true → is_whole (filter p links) ≡ true
whole_filter p [] whole = refl
whole_filter p (x ∷ links) whole =
    let parts = and_parts (is_here x) (is_whole links) whole in
    let rest = whole_filter p links parts.1 in
    ⊎_elim
    (λ (passes : p x ≡ true). rw passes (ap (λ b. b && is_whole (filter p links)) parts.0 ∙ rest))
    (λ (fails : p x ≡ false). rw fails rest)
    (cases_Bool (p x))

pub whole_here : (links : List LinkSeen) → is_whole (here links) ≡ true
whole_here [] = refl
whole_here (x ∷ links) =
    ⊎_elim
    (λ (stays : is_here x ≡ true). rw stays (ap (λ b. b && is_whole (here links)) stays ∙ whole_here links))
    (λ (left : is_here x ≡ false). rw left (whole_here links))
    (cases_Bool (is_here x))

pub here_again : (links : List LinkSeen) → here (here links) ≡ here links
here_again links = here_whole (here links) (whole_here links)

-- who has left is no client
no_client : (opening : Option Opening) → is_some opening ≡ false → is_client_link opening ≡ false
no_client None left = refl
no_client (Some opening) left = absurd (true≢false left)

pub here_clients : (links : List LinkSeen) → clients_in (here links) ≡ clients_in links
here_clients links = ap length (here_passing client_kept (λ link left. no_client link.opening left) links)

-- ---- one that leaves

-- a client less
pub clients_left : (links : List LinkSeen) (place : ℕ) (link : LinkSeen) → place < length links → link ≡ get_or links place link
    → clients_in (slice_set links place (when_left link)) + cond (client_kept link) 1 0 ≡ clients_in links
clients_left [] place link within at = absurd (omega arith)
clients_left (x ∷ links) zero link within at =
    ap (λ (l : LinkSeen). clients_in links + cond (client_kept l) 1 0) at
    ∙ ⊎_elim
    (λ (client : client_kept x ≡ true). rw client (omega arith))
    (λ (other : client_kept x ≡ false). rw other (omega arith))
    (cases_Bool (client_kept x))
clients_left (x ∷ links) (suc place) link within at =
    let rest = clients_left links place link (omega arith) at in
    ⊎_elim
    (λ (client : client_kept x ≡ true). rw client (omega (arith, rest)))
    (λ (other : client_kept x ≡ false). rw other rest)
    (cases_Bool (client_kept x))

-- one is at most one
pub as_one : (b : Bool) → from_bool b ≡ cond b 1 0
as_one true = refl
as_one false = refl

pub at_most_one : (b : Bool) → from_bool b ≤ 1
at_most_one true = omega arith
at_most_one false = omega arith

-- the others stay
module _ (number : ℕ) where
  named_it : (x : LinkSeen) → has_that number x ≡ true → is_none_of (number ∷ []) x ≡ false
  named_it x is = ap (λ b. not (b || false)) (eq-eqb number x.link (sym (eqb-true x.link number is)))

  named_another : (x : LinkSeen) → has_that number x ≡ false → is_none_of (number ∷ []) x ≡ true
  named_another x other = ap (λ b. not (b || false)) (ne_eqb number x.link (λ same. true≢false (sym (eq-eqb x.link number (sym same)) ∙ other)))

  pub here_left : (links : List LinkSeen) → here (map (at_link number when_left) links) ≡ filter (is_none_of (number ∷ [])) (here links)
  here_left [] = refl
  here_left (x ∷ links) =
      let rest = here_left links in
      ⊎_elim
      (λ (is : has_that number x ≡ true). ⊎_elim
      (λ (stays : is_here x ≡ true). rw (is, stays) (rest ∙ sym (ap (λ b. cond b (x ∷ filter (is_none_of (number ∷ [])) (here links)) (filter (is_none_of (number ∷ [])) (here links))) (named_it x is))))
      (λ (left : is_here x ≡ false). rw (is, left) rest)
      (cases_Bool (is_here x)))
      (λ (other : has_that number x ≡ false). ⊎_elim
      (λ (stays : is_here x ≡ true). rw (other, stays) (ap (λ ls. x ∷ ls) rest ∙ sym (ap (λ b. cond b (x ∷ filter (is_none_of (number ∷ [])) (here links)) (filter (is_none_of (number ∷ [])) (here links))) (named_another x other))))
      (λ (left : is_here x ≡ false). rw (other, left) rest)
      (cases_Bool (is_here x)))
      (cases_Bool (has_that number x))

  -- all stay where none that is here has the number
  pub none_left_here : (links : List LinkSeen) → list_any (is_at number) links ≡ false → here links ≡ filter (is_none_of (number ∷ [])) (here links)
  none_left_here [] none = refl
  none_left_here (x ∷ links) none =
      ⊎_elim
      (λ (at : is_at number x ≡ true). absurd (true≢false (sym (ap (λ b. b || list_any (is_at number) links) at) ∙ none)))
      (λ (elsewhere : is_at number x ≡ false).
      let rest = none_left_here links (sym (ap (λ b. b || list_any (is_at number) links) elsewhere) ∙ none) in
      ⊎_elim
      (λ (stays : is_here x ≡ true).
      let other : has_that number x ≡ false = sym (and-true (has_that number x)) ∙ ap (λ b. has_that number x && b) (sym stays) ∙ elsewhere in
      rw stays (ap (λ ls. x ∷ ls) rest ∙ sym (ap (λ b. cond b (x ∷ filter (is_none_of (number ∷ [])) (here links)) (filter (is_none_of (number ∷ [])) (here links))) (named_another x other))))
      (λ (left : is_here x ≡ false). rw left rest)
      (cases_Bool (is_here x)))
      (cases_Bool (is_at number x))

-- ---- what is picked of the link of a number that is here

module _ {X : Type 0} (pick : LinkSeen → X) (none : X) (number : ℕ) where
  picked_one : (x : LinkSeen) (links : List LinkSeen) → is_at number x ≡ true → picked_at pick none number (here (x ∷ links)) ≡ pick x
  picked_one x links at =
      let parts = and_parts (has_that number x) (is_here x) at in rw (parts.1, parts.0) refl

  picked_later : (x : LinkSeen) (links : List LinkSeen) → is_at number x ≡ false → picked_at pick none number (here (x ∷ links)) ≡ picked_at pick none number (here links)
  picked_later x links elsewhere =
      ⊎_elim
      (λ (stays : is_here x ≡ true).
      let other : has_that number x ≡ false = sym (and-true (has_that number x)) ∙ ap (λ b. has_that number x && b) (sym stays) ∙ elsewhere in rw (stays, other) refl)
      (λ (left : is_here x ≡ false). rw left refl)
      (cases_Bool (is_here x))

  picked_by : (links : List LinkSeen) (place : ℕ) (d : LinkSeen) → place < length links → position_or_len (is_at number) links ≡ place
      → picked_at pick none number (here links) ≡ pick (get_or links place d)
  picked_by [] place d lt is = absurd (omega arith)
  picked_by (x ∷ links) place d lt is =
      ⊎_elim
      (λ (at : is_at number x ≡ true). let zero_is : 0 ≡ place = rw at at is in picked_one x links at ∙ subst (λ n. pick x ≡ pick (get_or (x ∷ links) n d)) zero_is refl)
      (λ (elsewhere : is_at number x ≡ false).
      let plus : 1 + position_or_len (is_at number) links ≡ place = rw elsewhere at is in
      let later : suc (position_or_len (is_at number) links) ≡ place = omega arith in
      picked_later x links elsewhere
      ∙ subst (λ n. picked_at pick none number (here links) ≡ pick (get_or (x ∷ links) n d)) later (picked_by links (position_or_len (is_at number) links) d (omega arith) refl))
      (cases_Bool (is_at number x))

  pub picked_there : (links : List LinkSeen) (place : ℕ) (d : LinkSeen) → Some place ≡ position (is_at number) links → d ≡ get_or links place d → picked_at pick none number (here links) ≡ pick d
  picked_there links place d found at =
      let place_is = position_some (is_at number) links place found in picked_by links place d place_is.0 place_is.1 ∙ ap pick (sym at)

  picked_nowhere : (links : List LinkSeen) → list_any (is_at number) links ≡ false → picked_at pick none number (here links) ≡ none
  picked_nowhere [] is = refl
  picked_nowhere (x ∷ links) is =
      ⊎_elim
      (λ (at : is_at number x ≡ true). absurd (true≢false (sym (ap (λ b. b || list_any (is_at number) links) at) ∙ is)))
      (λ (elsewhere : is_at number x ≡ false). picked_later x links elsewhere ∙ picked_nowhere links (sym (ap (λ b. b || list_any (is_at number) links) elsewhere) ∙ is))
      (cases_Bool (is_at number x))

  pub picked_missing : (links : List LinkSeen) → None ≡ position (is_at number) links → picked_at pick none number (here links) ≡ none
  picked_missing links missing = picked_nowhere links (position_none (is_at number) links missing)

-- whether there is such a one
pub any_there : (number : ℕ) (links : List LinkSeen) → list_any (has_that number) (here links) ≡ list_any (is_at number) links
any_there number [] = refl
any_there number (x ∷ links) =
    ⊎_elim
    (λ (stays : is_here x ≡ true). rw stays (ap (λ b. has_that number x || b) (any_there number links) ∙ ap (λ b. b || list_any (is_at number) links) (sym (and-true (has_that number x)))))
    (λ (left : is_here x ≡ false). rw left (any_there number links ∙ ap (λ b. b || list_any (is_at number) links) (sym (and-false (has_that number x)))))
    (cases_Bool (is_here x))

-- ---- logins

pub logins_here : (links : List LinkSeen) → flat_map login_here links ≡ flat_map login_kept (here links)
logins_here [] = refl
logins_here (x ∷ links) =
    ⊎_elim
    (λ (stays : is_here x ≡ true). rw stays (ap (λ ls. login_kept x ++ ls) (logins_here links)))
    (λ (left : is_here x ≡ false). rw left (logins_here links))
    (cases_Bool (is_here x))

abbrev no_logins : List (List ℕ)
no_logins = []

no_other : (b : Bool) → (if b then no_logins else no_logins) ≡ no_logins
no_other true = refl
no_other false = refl

pub others_here : (number : ℕ) (links : List LinkSeen) → flat_map (other_here number) links ≡ flat_map (other_login number) (here links)
others_here number [] = refl
others_here number (x ∷ links) =
    ⊎_elim
    (λ (stays : is_here x ≡ true). rw stays (ap (λ ls. other_login number x ++ ls) (others_here number links)))
    (λ (left : is_here x ≡ false). rw left (ap (λ ls. ls ++ flat_map (other_here number) links) (no_other (is_another number x)) ∙ others_here number links))
    (cases_Bool (is_here x))

-- ---- the halves of those that are here

abbrev pub present : List LinkSeen → List FeedSeen → List FeedSeen
present [] ss = []
present (h ∷ hs) [] = []
present (h ∷ hs) (s ∷ ss) = cond (is_here h) (s ∷ present hs ss) (present hs ss)

pub match_here : (hs : List LinkSeen) (ss : List FeedSeen) → AllMatch hs ss → AllMatch (here hs) (present hs ss)
match_here [] [] all = all
match_here [] (s ∷ ss) all = absurd all
match_here (h ∷ hs) [] all = absurd all
match_here (h ∷ hs) (s ∷ ss) all =
    let rest = match_here hs ss all.1 in
    ⊎_elim
    (λ (stays : is_here h ≡ true). rw stays (all.0, rest))
    (λ (left : is_here h ≡ false). rw left rest)
    (cases_Bool (is_here h))

pub joined_here : (hs : List LinkSeen) (ss : List FeedSeen) → AllMatch hs ss → joined_all (here hs) (present hs ss) ≡ here (joined_all hs ss)
joined_here [] [] all = refl
joined_here [] (s ∷ ss) all = absurd all
joined_here (h ∷ hs) [] all = absurd all
joined_here (h ∷ hs) (s ∷ ss) all =
    let rest = joined_here hs ss all.1 in
    ⊎_elim
    (λ (stays : is_here h ≡ true). rw stays (ap (λ ls. joined h s ∷ ls) rest))
    (λ (left : is_here h ≡ false). rw left rest)
    (cases_Bool (is_here h))

pub joined_whole : (hs : List LinkSeen) (ss : List FeedSeen) → AllMatch hs ss → is_whole hs ≡ true → here (joined_all hs ss) ≡ joined_all hs ss
joined_whole [] [] all whole = refl
joined_whole [] (s ∷ ss) all whole = absurd all
joined_whole (h ∷ hs) [] all whole = absurd all
joined_whole (h ∷ hs) (s ∷ ss) all whole =
    let parts = and_parts (is_here h) (is_whole hs) whole in
    ap (λ b. cond b (joined h s ∷ here (joined_all hs ss)) (here (joined_all hs ss))) parts.0 ∙ ap (λ ls. joined h s ∷ ls) (joined_whole hs ss all.1 parts.1)

-- what a link is fed tells whether it is here
fed_here : (opening : Option Opening) (session : Option Session) → (is_client_link opening || feeds.is_fed (opening_feed opening session)) ≡ is_some opening
fed_here None session = refl
fed_here (Some opening) session = by opening.kind session
  where
    by : (kind : LinkKind) (session : Option Session) → (is_client_of kind || feeds.is_fed (feed_of kind session)) ≡ true
    by (Client port) session = refl
    by (Uplink uplink) session = refl

pub served_here : (h : LinkSeen) (s : FeedSeen) → Matches h s → feeds.is_served s ≡ is_here h
served_here h s m = ap (λ b. b || feeds.is_fed s.feed) m.inbound ∙ ap (λ f. is_client_link h.opening || feeds.is_fed f) m.feed ∙ fed_here h.opening h.session

pub left_matches : (h : LinkSeen) (s : FeedSeen) → Matches h s → Matches (when_left h) (feeds.left s)
left_matches h s m = record { link = m.link; inbound = refl; alive = m.alive; limit = m.limit; feed = refl; me = m.me; many = m.many }

-- those that left are let go
pub swept_match : (hs : List LinkSeen) (ss : List FeedSeen) → AllMatch hs ss → AllMatch (here hs) (filter feeds.is_served ss)
swept_match [] [] all = all
swept_match [] (s ∷ ss) all = absurd all
swept_match (h ∷ hs) [] all = absurd all
swept_match (h ∷ hs) (s ∷ ss) all =
    let rest = swept_match hs ss all.1 in
    subst (λ b. AllMatch (here (h ∷ hs)) (cond b (s ∷ filter feeds.is_served ss) (filter feeds.is_served ss))) (sym (served_here h s all.0))
    (⊎_elim
    (λ (stays : is_here h ≡ true). rw stays (all.0, rest))
    (λ (left : is_here h ≡ false). rw left rest)
    (cases_Bool (is_here h)))

pub swept_joined : (hs : List LinkSeen) (ss : List FeedSeen) → AllMatch hs ss → joined_all (here hs) (filter feeds.is_served ss) ≡ here (joined_all hs ss)
swept_joined [] [] all = refl
swept_joined [] (s ∷ ss) all = absurd all
swept_joined (h ∷ hs) [] all = absurd all
swept_joined (h ∷ hs) (s ∷ ss) all =
    let rest = swept_joined hs ss all.1 in
    ap (λ b. joined_all (here (h ∷ hs)) (cond b (s ∷ filter feeds.is_served ss) (filter feeds.is_served ss))) (served_here h s all.0)
    ∙ ⊎_elim
    (λ (stays : is_here h ≡ true). rw stays (ap (λ ls. joined h s ∷ ls) rest))
    (λ (left : is_here h ≡ false). rw left rest)
    (cases_Bool (is_here h))

-- ---- steps that keep the number and the opening

pub named_text : (line : List ℕ) (link : LinkSeen) → named_of (with_text line link) ≡ named_of link
unfolding with_text
named_text line link =
    ⊎_elim
    (λ (over : link.over ≡ true). rw over refl)
    (λ (under : link.over ≡ false). ⊎_elim
    (λ (full : (length link.queue.lines == most_waiting) ≡ true). rw (under, full) refl)
    (λ (room : (length link.queue.lines == most_waiting) ≡ false). rw (under, room) refl)
    (cases_Bool (length link.queue.lines == most_waiting)))
    (cases_Bool link.over)

named_if : (b : Bool) (line : List ℕ) (link : LinkSeen) → named_of (if b then with_text line link else link) ≡ named_of link
named_if true line link = named_text line link
named_if false line link = refl

named_seen : (call : List ℕ) (told : Option Seen) (link : LinkSeen) → named_of (with_seen call told link) ≡ named_of link
named_seen call None link = refl
named_seen call (Some seen) link =
    ⊎_elim
    (λ (over : link.over ≡ true). rw over refl)
    (λ (under : link.over ≡ false). rw under refl)
    (cases_Bool link.over)

pub named_packet : (packet : PacketSeen) (source : SourcePlace) (hearers owed : List ℕ) (link : LinkSeen) → named_of (with_packet packet source hearers owed link) ≡ named_of link
named_packet packet source hearers owed link =
    named_seen packet.parts.source (seen_in packet) (with_copy packet source hearers owed link) ∙ named_if (wants_packet packet source hearers owed link) packet.line link

pub named_shown : (from : Source) (line : List ℕ) (link : LinkSeen) → named_of (with_shown from line link) ≡ named_of link
named_shown from line link = named_if (is_shown_at from link) line link

pub named_date : (line : List ℕ) (link : LinkSeen) → named_of (with_date line link) ≡ named_of link
named_date line link = named_if (is_client_link link.opening) line link

-- ---- who has left takes nothing

none_wants : (opening : Option Opening) (named submitted asked : Bool) → is_some opening ≡ false → opening_wants opening named submitted asked ≡ false
none_wants None named submitted asked left = refl
none_wants (Some opening) named submitted asked left = absurd (true≢false left)

none_shows : (opening : Option Opening) (session : Option Session) → is_some opening ≡ false → shows_duplicates opening session ≡ false
none_shows None session left = refl
none_shows (Some opening) session left = absurd (true≢false left)

pub none_taking : (packet : PacketSeen) (source : SourcePlace) (hearers owed : List ℕ) (links : List LinkSeen) → filter (takes_packet packet source hearers owed) (here links) ≡ filter (takes_packet packet source hearers owed) links
none_taking packet source hearers owed links = here_passing (takes_packet packet source hearers owed) (λ link left.
    let wanted = none_wants link.opening (is_some link.session) source.submitted (passes_packet packet source link || is_asked_at packet hearers owed link) left in
    ap (λ b. (not (is_from link.link packet.from) && b) && has_room link) wanted ∙ ap (λ b. b && has_room link) (and-false (not (is_from link.link packet.from)))) links

pub none_showing : (from : Source) (links : List LinkSeen) → filter (takes_shown from) (here links) ≡ filter (takes_shown from) links
none_showing from links = here_passing (takes_shown from) (λ link left.
    ap (λ b. (not (is_from link.link from) && b) && has_room link) (none_shows link.opening link.session left) ∙ ap (λ b. b && has_room link) (and-false (not (is_from link.link from)))) links

-- nor is anything shown to it
pub shows_here : (links : List LinkSeen) → list_any shows_kept (here links) ≡ list_any shows_kept links
shows_here [] = refl
shows_here (x ∷ links) =
    ⊎_elim
    (λ (stays : is_here x ≡ true). rw stays (ap (λ b. shows_kept x || b) (shows_here links)))
    (λ (left : is_here x ≡ false). rw left (shows_here links ∙ ap (λ b. b || list_any shows_kept links) (sym (none_shows x.opening x.session left))))
    (cases_Bool (is_here x))

-- ---- one that comes, and goes again

pub clients_push : (links : List LinkSeen) (new : LinkSeen) → clients_in (links ++ new ∷ []) ≡ clients_in links + cond (client_kept new) 1 0
clients_push [] new =
    ⊎_elim
    (λ (client : client_kept new ≡ true). rw client refl)
    (λ (other : client_kept new ≡ false). rw other refl)
    (cases_Bool (client_kept new))
clients_push (x ∷ links) new =
    let rest = clients_push links new in
    ⊎_elim
    (λ (client : client_kept x ≡ true). rw client (omega (arith, rest)))
    (λ (other : client_kept x ≡ false). rw other rest)
    (cases_Bool (client_kept x))

-- no more clients than links
pub clients_few : (links : List LinkSeen) → clients_in links ≤ length links
clients_few [] = omega arith
clients_few (x ∷ links) =
    let rest = clients_few links in
    ⊎_elim
    (λ (client : client_kept x ≡ true). rw client (omega (arith, rest)))
    (λ (other : client_kept x ≡ false). rw other (omega (arith, rest)))
    (cases_Bool (client_kept x))

pub whole_before : (links more : List LinkSeen) → is_whole (links ++ more) ≡ true → is_whole links ≡ true
whole_before links more whole = (and_parts (is_whole links) (is_whole more) (sym (list_all-append is_here links more) ∙ whole)).0

pub before_last : (links others : List LinkSeen) (x y : LinkSeen) → links ++ x ∷ [] ≡ others ++ y ∷ [] → links ≡ others
before_last links others x y same =
    let many : length links ≡ length others = omega (arith, length-append links (x ∷ []), length-append others (y ∷ []), ap length same) in
    sym (take_at links (x ∷ []) (length links) refl) ∙ ap (take (length links)) same ∙ take_at others (y ∷ []) (length links) (sym many)

-- what is put where a link stood
pub same_there : (links now : List LinkSeen) → links ≡ now → (place : ℕ) (h link : LinkSeen) → h ≡ get_or links place h → slice_get now place ≡ Some link → h ≡ link
same_there links now view place h link at got = at ∙ get_or_from_slice_get links place link h (ap (λ ls. slice_get ls place) view ∙ got)

pub set_there : (links now : List LinkSeen) (view : links ≡ now) (place : ℕ) (g : LinkSeen → LinkSeen) (h new link : LinkSeen) → h ≡ get_or links place h → new ≡ g h → slice_get now place ≡ Some link
    → slice_set links place new ≡ slice_set now place (g link)
set_there links now view place g h new link at is got =
    ap (slice_set links place) (is ∙ ap g (same_there links now view place h link at got)) ∙ ap (λ ls. slice_set ls place (g link)) view

pub one_left : (links now : List LinkSeen) → links ≡ now → (place : ℕ) (h new : LinkSeen) (client : Bool) (one clients : ℕ) → place < length now → h ≡ get_or links place h → client ≡ client_kept h → new ≡ when_left h
    → one ≡ from_bool client → clients ≡ clients_in links → clients_in (slice_set links place new) + one ≡ clients
one_left links now view place h new client one clients within at is left byte count =
    let inside : place < length links = subst (λ (ls : List LinkSeen). place < length ls) (sym view) within in
    ap (λ (l : LinkSeen). clients_in (slice_set links place l) + one) left
    ∙ ap (λ n. clients_in (slice_set links place (when_left h)) + n) (byte ∙ as_one client ∙ ap (λ b. cond b 1 0) is)
    ∙ clients_left links place h inside at
    ∙ sym count
