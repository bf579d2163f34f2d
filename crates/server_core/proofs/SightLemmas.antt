-- Where stations were last seen: as time goes on, as a packet comes, and by the table.
use Rattle.std.proofs.Common.{◌≡◌, ℕ, ◌-◌, ◌≤◌, ◌<◌, Bool, true, false, List, [], ◌∷◌, ◌++◌, map, refl, sym, ap, ◌∙◌, arith, Option, Some, None, option_map, ⊎_elim, nat_lt, cond, if◌then◌else◌}
use Rattle.std.specs.Option.{option_and_then}
use Rattle.std.proofs.lemmas.Simd.{map-map}
use Rattle.std.proofs.lemmas.Bool.{cases_Bool, ltb-true, ltb-false, false_from_ne_true, lt-ltb}
use Rattle.aprs_base.specs.declared.packets.Source.{Source}
use Rattle.aprs_base.specs.PacketSeen.{PacketSeen}
use Rattle.filter_lang.specs.Terms.{TermSeen}
use Rattle.filter_lang.specs.declared.terms.What.{What}
use Rattle.filter_lang.specs.declared.terms.What.TheVariants as what
use Rattle.aprs_base.specs.declared.packets.Place.{Place}
use Rattle.aprs_body.specs.Classes.{position_bit}
use Rattle.filter_eval.specs.Passes.{fresh, has_class, is_some_and, is_text, is_young, position_age}
use Rattle.filter_eval.specs.declared.seen.Seen.{Seen}
use Rattle.station_table.specs.Last.{HasExactly, fresh_gate, last_gate, last_place, later_or, place_by}
use Rattle.station_table.specs.Stations.{gate_at, place_at, seen_at, seen_in}
use Rattle.station_table.proofs.LastSeen.{told_more}
use Rattle.aprs_history.specs.declared.verdicts.Session.{Session}
use Rattle.aprs_history.specs.Sights.{friend_in, is_gate_at, login_in, named_call, sighting}
use Rattle.aprs_history.specs.Stands.{LinkSeen, CoreSeen}
use Rattle.server_core.specs.LinkSteps.{found_in, place_young, source_found}
use Rattle.worker_match.specs.Walk.{friends_seen, mine_seen, names}
use Rattle.served_links.specs.Changes.{with_seen}
use Rattle.served_links.specs.Fed.{login_of}
use Rattle.served_links.specs.Links.{submitted_from}

-- ---- time goes on

too_old : (a b n : ℕ) → a ≤ b → nat_lt (a - n) position_age ≡ false → nat_lt (b - n) position_age ≡ false
too_old a b n le old =
    let past : position_age ≤ a - n = ltb-false (a - n) position_age old in
    false_from_ne_true _ (λ young. let under : b - n < position_age = ltb-true (b - n) position_age young in absurd (omega arith))

pub fresh_later : (a b : ℕ) → a ≤ b → (seen : Option Seen) → fresh b (fresh a seen) ≡ fresh b seen
fresh_later a b le None = refl
fresh_later a b le (Some seen) =
    ⊎_elim
    (λ young. rw young refl)
    (λ old. ap (λ o. fresh b (cond o (Some seen) None)) old ∙ sym (ap (λ o. cond o (Some seen) None) (too_old a b seen.moment le old)))
    (cases_Bool (nat_lt (a - seen.moment) position_age))

friend_later : (accepted : List PacketSeen) (a b : ℕ) → a ≤ b → (named : Option (List ℕ))
    → fresh b (option_and_then (sighting accepted a) named) ≡ option_and_then (sighting accepted b) named
friend_later accepted a b le None = refl
friend_later accepted a b le (Some call) = fresh_later a b le (last_place accepted call)

pub friends_later : (accepted : List PacketSeen) (a b : ℕ) → a ≤ b → (terms : List TermSeen)
    → map (fresh b) (map (friend_in accepted a) terms) ≡ map (friend_in accepted b) terms
friends_later accepted a b le terms =
    map-map (fresh b) (friend_in accepted a) terms ∙ (λ i. map (λ term. friend_later accepted a b le (named_call term.what) i) terms)

pub login_later : (accepted : List PacketSeen) (a b : ℕ) → a ≤ b → (session : Option Session)
    → fresh b (login_in accepted a session) ≡ login_in accepted b session
login_later accepted a b le None = refl
login_later accepted a b le (Some session) = fresh_later a b le (last_place accepted session.call)

-- ---- a packet comes

-- what is seen at a moment counts then
seen_now : (now : ℕ) (seen : Seen) → seen.moment ≡ now → fresh now (Some seen) ≡ Some seen
seen_now now seen is =
    let young : nat_lt (now - seen.moment) position_age ≡ true = lt-ltb (now - seen.moment) position_age (omega arith) in
    ap (λ b. cond b (Some seen) None) young

module _ (accepted : List PacketSeen) (now : ℕ) (packet : PacketSeen) where
  -- a packet that is no position tells nothing
  unseen_call : None ≡ seen_in packet → (call : List ℕ) → sighting (accepted ++ packet ∷ []) now call ≡ sighting accepted now call
  unseen_call none call =
      ap (fresh now) (told_more (place_by call) accepted packet
      ∙ ap (λ seen. later_or (last_place accepted call) (cond (is_text call packet.parts.source) seen None)) (sym none)
      ∙ nothing (is_text call packet.parts.source))
    where
      nothing : (b : Bool) → later_or (last_place accepted call) (cond b None None) ≡ last_place accepted call
      nothing true = refl
      nothing false = refl

  unseen_friend : None ≡ seen_in packet → (named : Option (List ℕ))
      → option_and_then (sighting (accepted ++ packet ∷ []) now) named ≡ option_and_then (sighting accepted now) named
  unseen_friend none None = refl
  unseen_friend none (Some call) = unseen_call none call

  unseen_login : None ≡ seen_in packet → (session : Option Session) → login_in (accepted ++ packet ∷ []) now session ≡ login_in accepted now session
  unseen_login none None = refl
  unseen_login none (Some session) = unseen_call none session.call

  -- and one that is tells of its source alone
  seen_call : (seen : Seen) → Some seen ≡ seen_in packet → seen.moment ≡ now → (call : List ℕ)
      → cond (is_text call packet.parts.source) (Some seen) (sighting accepted now call) ≡ sighting (accepted ++ packet ∷ []) now call
  seen_call seen some at call =
      sym (ap (fresh now) (told_more (place_by call) accepted packet
      ∙ ap (λ told. later_or (last_place accepted call) (cond (is_text call packet.parts.source) told None)) (sym some))
      ∙ either (is_text call packet.parts.source))
    where
      either : (b : Bool) → fresh now (later_or (last_place accepted call) (cond b (Some seen) None)) ≡ cond b (Some seen) (sighting accepted now call)
      either true = seen_now now seen at
      either false = refl

  seen_friend : (seen : Seen) → Some seen ≡ seen_in packet → seen.moment ≡ now → (w : What)
      → cond (names packet.parts.source w) (Some seen) (option_and_then (sighting accepted now) (named_call w))
      ≡ option_and_then (sighting (accepted ++ packet ∷ []) now) (named_call w)
  seen_friend seen some at (what.Friend call km) = seen_call seen some at call
  seen_friend seen some at (what.ClassNear mask call km) = seen_call seen some at call
  seen_friend seen some at other = refl

  seen_login : (seen : Seen) → Some seen ≡ seen_in packet → seen.moment ≡ now → (session : Option Session)
      → mine_seen packet.parts.source seen (login_of session) (login_in accepted now session) ≡ login_in (accepted ++ packet ∷ []) now session
  seen_login seen some at None = refl
  seen_login seen some at (Some session) = seen_call seen some at session.call

  seen_friends : (seen : Seen) → Some seen ≡ seen_in packet → seen.moment ≡ now → (terms : List TermSeen)
      → friends_seen packet.parts.source seen terms (map (friend_in accepted now) terms) ≡ map (friend_in (accepted ++ packet ∷ []) now) terms
  seen_friends seen some at [] = refl
  seen_friends seen some at (term ∷ terms) = rw (seen_friend seen some at term.what, seen_friends seen some at terms) refl

  -- what there is to keep of a link after a packet, whatever it tells
  pub places_kept : (told : Option Seen) → told ≡ seen_in packet → ((seen : Seen) → Some seen ≡ seen_in packet → seen.moment ≡ now)
      → (link : LinkSeen) → link.over ≡ false → link.friends ≡ map (friend_in accepted now) link.filter → link.mine ≡ login_in accepted now link.session
      → record link { friends = map (friend_in (accepted ++ packet ∷ []) now) link.filter; mine = login_in (accepted ++ packet ∷ []) now link.session }
      ≡ with_seen packet.parts.source told link
  places_kept None none at link open' friends mine =
      ap (λ fs. record link { friends = fs; mine = login_in (accepted ++ packet ∷ []) now link.session })
      ((λ i. map (λ term. unseen_friend none (named_call term.what) i) link.filter) ∙ sym friends)
      ∙ ap (λ seen. record link { mine = seen }) (unseen_login none link.session ∙ sym mine)
  places_kept (Some seen) some at link open' friends mine =
      let places : List (Option Seen) → Option Seen → LinkSeen = λ fs place. record link { friends = fs; mine = place } in
      let friends_after = friends_seen packet.parts.source seen link.filter link.friends in
      let mine_after = mine_seen packet.parts.source seen (login_of link.session) link.mine in
      ap (λ fs. places fs (login_in (accepted ++ packet ∷ []) now link.session))
      (sym (seen_friends seen some (at seen some) link.filter) ∙ ap (friends_seen packet.parts.source seen link.filter) (sym friends))
      ∙ ap (places friends_after) (sym (seen_login seen some (at seen some) link.session) ∙ ap (mine_seen packet.parts.source seen (login_of link.session)) (sym mine))
      ∙ sym (ap (λ over. if over then link else places friends_after mine_after) open')

-- a packet tells what it was accepted with
told_by : (position : Bool) (place : Option Place) (moment : ℕ) (seen : Seen) → Some seen ≡ cond position (option_map (seen_at moment) place) None → seen.moment ≡ moment
told_by false place moment seen is = absurd (cc)
told_by true None moment seen is = absurd (cc)
told_by true (Some place) moment seen is = let same : seen ≡ seen_at moment place = cc in ap (λ (s : Seen). s.moment) same

pub told_at : (packet : PacketSeen) (seen : Seen) → Some seen ≡ seen_in packet → seen.moment ≡ packet.moment
told_at packet seen is = told_by (has_class packet.body.class position_bit) packet.body.place packet.moment seen is

-- ---- the table agrees

-- a gate that counts still does
young_gate : (now : ℕ) (gate : Option ℕ) → is_some_and (is_young now) (fresh_gate now gate) ≡ is_some_and (is_young now) gate
young_gate now None = refl
young_gate now (Some moment) = by (is_young now moment) refl
  where
    by : (young : Bool) → is_young now moment ≡ young → is_some_and (is_young now) (if young then Some moment else None) ≡ is_young now moment
    by true is = refl
    by false is = sym is

module _ (core : CoreSeen) (accepted : List PacketSeen) (now : ℕ) (moment : core.moment ≡ now) (agrees : HasExactly now core.stations accepted) where
  pub sighting_found : (call : List ℕ) → place_young core.moment core.stations call ≡ sighting accepted now call
  sighting_found call = ap (λ m. fresh m (place_at core.stations call)) moment ∙ ap (fresh now) (agrees.place call) ∙ fresh_later now now (omega arith) (last_place accepted call)

  friend_found : (named : Option (List ℕ)) → option_and_then (place_young core.moment core.stations) named ≡ option_and_then (sighting accepted now) named
  friend_found None = refl
  friend_found (Some call) = sighting_found call

  pub friends_found : (term : TermSeen) → found_in core.moment core.stations term ≡ friend_in accepted now term
  friends_found term = friend_found (named_call term.what)

  pub source_known : (from : Source) (call : List ℕ)
      → source_found core from call ≡ record { place = sighting accepted now call; gate = is_gate_at accepted now call; submitted = submitted_from from core.links }
  source_known from call =
      let submitted = submitted_from from core.links in
      ap (λ (place : Option Seen). record { place = place; gate = is_some_and (is_young core.moment) (gate_at core.stations call); submitted = submitted }) (sighting_found call)
      ∙ ap (λ (m : ℕ). record { place = sighting accepted now call; gate = is_some_and (is_young m) (gate_at core.stations call); submitted = submitted }) moment
      ∙ ap (λ (gate : Bool). record { place = sighting accepted now call; gate = gate; submitted = submitted })
      (ap (is_some_and (is_young now)) (agrees.gate call) ∙ young_gate now (last_gate accepted call))
