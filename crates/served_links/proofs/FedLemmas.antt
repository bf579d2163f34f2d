-- What comes to a link, by what it is fed.
use Rattle.std.proofs.Common.{◌≡◌, ℕ, Bool, true, false, not, ◌&&◌, ◌||◌, ◌==◌, List, length, refl, sym, ap, ◌∙◌, Option, Some, None, ⊎_elim, is_some, if◌then◌else◌, eq-eqb, Result, Ok, Err, IfOk, OnErr}
use Rattle.std.specs.List.{list_any}
use Rattle.std.proofs.Math.Bool.{and-false}
use Rattle.std.proofs.lemmas.Bool.{cases_Bool}
use Rattle.aprs_base.specs.PacketSeen.{PacketSeen}
use Rattle.aprs_base.specs.declared.packets.Source.{Source}
use Rattle.aprs_base.specs.declared.packets.Source.TheVariants as source
use Rattle.aprs_base.specs.declared.packets.PortKind.TheVariants as port
use Rattle.filter_eval.specs.Passes.{passes_of}
use Rattle.filter_eval.specs.declared.seen.Seen.{Seen}
use Rattle.aprs_history.specs.declared.verdicts.LinkKind.{LinkKind}
use Rattle.aprs_history.specs.declared.verdicts.LinkKind.TheVariants.{Client, Uplink}
use Rattle.aprs_history.specs.declared.verdicts.Session.{Session}
use Rattle.aprs_history.specs.Links.{Opening, is_client_link}
use Rattle.aprs_history.specs.Stands.{LinkSeen, friends_kept, place_kept}
use Rattle.aprs_history.specs.Texts.{is_dupe_of, link_wants, most_waiting, opening_wants, shows_duplicates}
use Rattle.aprs_history.specs.Trace.{is_from}
use Rattle.worker_match.specs.Seen.{FeedSeen, ItemSeen, OfferSeen, Came, Told, ToldAll}
use Rattle.worker_match.specs.Walk.{after, feed_wants, is_chosen, is_full, is_open, met, one_more, terms_of, told_by}
use Rattle.worker_match.specs.Walk as walk
use Rattle.worker_match.proofs.FriendLemmas.{seen_many}
use Rattle.served_links.specs.Fed.{Matches, feed_of, joined, offer_of, opening_feed, refused_of}
use Rattle.served_links.specs.Changes.{has_room, is_asked_at, is_shown_at, passes_packet, takes_packet, takes_shown, wants_packet, with_date, with_packet, with_seen, with_shown, with_text}
use Rattle.served_links.specs.declared.link.SourcePlace.{SourcePlace}
use Rattle.served_links.proofs.OverLemmas.{copy_over, fits_not_after, over_unseen, text_after}

pub if_ok : {T E : Type 0} {P Q : T → Type 0} (r : Result T E) → ((x : T) → P x → Q x) → IfOk r P → IfOk r Q
if_ok (Ok x) f p = f x p
if_ok (Err e) f p = p

pub on_err : {T E P : Type 0} (r : Result T E) → P → OnErr r P
on_err (Ok x) p = tt
on_err (Err e) p = p

from_same : (link : ℕ) (from : Source) → walk.is_from link from ≡ is_from link from
from_same link (source.Link number) = refl
from_same link from = refl

-- ---- the halves stay those of one link

-- where a line is put into the queue, or doesn't fit
texts_match : (h : LinkSeen) (line : List ℕ) (s : FeedSeen) → Matches h s → Matches h (walk.with_text line s)
unfolding walk.with_text
texts_match h line s m =
    ⊎_elim
    (λ (full : is_full s.queue ≡ true). rw full (record { link = m.link; inbound = m.inbound; alive = m.alive; limit = m.limit; feed = m.feed; me = m.me; many = m.many }))
    (λ (room : is_full s.queue ≡ false). rw room (record { link = m.link; inbound = m.inbound; alive = m.alive; limit = m.limit; feed = m.feed; me = m.me; many = m.many }))
    (cases_Bool (is_full s.queue))

copies_match : (h : LinkSeen) (line : List ℕ) (s : FeedSeen) → Matches h s → Matches h (walk.with_copy line s)
unfolding walk.with_copy
copies_match h line s m =
    ⊎_elim
    (λ (full : is_full s.queue ≡ true). rw full (record { link = m.link; inbound = m.inbound; alive = m.alive; limit = m.limit; feed = m.feed; me = m.me; many = m.many }))
    (λ (room : is_full s.queue ≡ false). rw room (record { link = m.link; inbound = m.inbound; alive = m.alive; limit = m.limit; feed = m.feed; me = m.me; many = m.many }))
    (cases_Bool (is_full s.queue))

-- or nothing is done
if_matches : (h : LinkSeen) (b : Bool) (s t : FeedSeen) → Matches h s → Matches h t → Matches h (if b then t else s)
if_matches h true s t m n = n
if_matches h false s t m n = m

wanted_matches : (h : LinkSeen) (offer : OfferSeen) (s : FeedSeen) → Matches h s → Matches h (walk.with_packet offer s)
wanted_matches h offer s m = if_matches h (walk.wants offer s) s (walk.with_copy offer.packet.line s) m (copies_match h offer.packet.line s m)

-- where a source is
places_match : (h : LinkSeen) (call : List ℕ) (told : Option Seen) (s : FeedSeen) → Matches h s → Matches h (walk.with_seen call told s)
places_match h call None s m = m
places_match h call (Some seen) s m =
    record { link = m.link; inbound = m.inbound; alive = m.alive; limit = m.limit; feed = m.feed; me = m.me; many = seen_many call seen (terms_of s.filter) s.friends ∙ m.many }

-- an item
pub offer_matches : (h : LinkSeen) (offer : OfferSeen) (s : FeedSeen) → Matches h s → Matches h (after s (Came offer))
offer_matches h offer s m =
    if_matches h (is_open s) s (met (Came offer) s) m (places_match h offer.packet.parts.source (told_by offer) (walk.with_packet offer s) (wanted_matches h offer s m))

pub told_matches : (h : LinkSeen) (number : ℕ) (line : List ℕ) (s : FeedSeen) → Matches h s → Matches h (after s (Told number line))
told_matches h number line s m =
    if_matches h (is_open s) s (met (Told number line) s) m (if_matches h (s.link == number) s (walk.with_text line s) m (texts_match h line s m))

pub date_matches : (h : LinkSeen) (line : List ℕ) (s : FeedSeen) → Matches h s → Matches h (after s (ToldAll line))
date_matches h line s m = if_matches h (is_open s) s (met (ToldAll line) s) m (if_matches h s.inbound s (walk.with_text line s) m (texts_match h line s m))

-- ---- and leave what the link takes

module _ (h : LinkSeen) where
  places_same : (call : List ℕ) (told : Option Seen) (s : FeedSeen) → Matches h s → joined h (walk.with_seen call told s) ≡ with_seen call told (joined h s)
  places_same call None s m = refl
  places_same call (Some seen) s m =
      ⊎_elim
      (λ (over : s.over ≡ true). rw over refl)
      (λ (open' : s.over ≡ false). rw (open', m.me) refl)
      (cases_Bool s.over)

  module _ (s : FeedSeen) (m : Matches h s) where
    abbrev link : LinkSeen
    link = joined h s

    full_here : is_full s.queue ≡ true → (length s.queue.lines == most_waiting) ≡ true
    full_here full = ap (λ n. length s.queue.lines == n) (sym m.limit) ∙ full

    room_here : is_full s.queue ≡ false → (length s.queue.lines == most_waiting) ≡ false
    room_here room = ap (λ n. length s.queue.lines == n) (sym m.limit) ∙ room

    text_same : (line : List ℕ) → s.over ≡ false → joined h (walk.with_text line s) ≡ with_text line link
    unfolding with_text walk.with_text
    text_same line open' =
        ⊎_elim
        (λ (full : is_full s.queue ≡ true). rw (open', full, full_here full) refl)
        (λ (room : is_full s.queue ≡ false). rw (open', room, room_here room) refl)
        (cases_Bool (is_full s.queue))

    copy_same : (line : List ℕ) (wanted : Bool) → s.over ≡ false → joined h (if wanted then walk.with_copy line s else s) ≡ (if wanted then with_text line link else link)
    unfolding with_text walk.with_copy
    copy_same line false open' = refl
    copy_same line true open' =
        ⊎_elim
        (λ (full : is_full s.queue ≡ true). rw (open', full, full_here full) refl)
        (λ (room : is_full s.queue ≡ false). rw (open', room, room_here room) refl)
        (cases_Bool (is_full s.queue))

    -- what an open link meets, and what one that is over keeps
    opened_by : (item : ItemSeen) → s.over ≡ false → after s item ≡ met item s
    opened_by item open' =
        ap (λ b. if s.alive && not b then met item s else s) open' ∙ ap (λ b. if b && true then met item s else s) m.alive

    closed_by : (item : ItemSeen) → s.over ≡ true → after s item ≡ s
    closed_by item over =
        ap (λ b. if s.alive && not b then met item s else s) over ∙ ap (λ b. if b && false then met item s else s) m.alive

    -- a line for it alone
    pub told_same : (line : List ℕ) → joined h (after s (Told s.link line)) ≡ with_text line link
    told_same line =
        ⊎_elim
        (λ (over : s.over ≡ true). ap (joined h) (closed_by (Told s.link line) over) ∙ text_after line link over)
        (λ (open' : s.over ≡ false).
        ap (joined h) (opened_by (Told s.link line) open' ∙ ap (λ b. if b then walk.with_text line s else s) (eq-eqb s.link s.link refl))
        ∙ text_same line open')
        (cases_Bool s.over)

    -- a line for all clients
    pub date_same : (line : List ℕ) → joined h (after s (ToldAll line)) ≡ with_date line link
    date_same line =
        ⊎_elim
        (λ (over : s.over ≡ true). ap (joined h) (closed_by (ToldAll line) over) ∙ by over (is_client_link h.opening))
        (λ (open' : s.over ≡ false).
        ap (joined h) (opened_by (ToldAll line) open' ∙ ap (λ b. if b then walk.with_text line s else s) m.inbound) ∙ open_by open' (is_client_link h.opening))
        (cases_Bool s.over)
      where
        by : s.over ≡ true → (b : Bool) → link ≡ (if b then with_text line link else link)
        by over b = copy_over line link b over

        open_by : s.over ≡ false → (b : Bool) → joined h (if b then walk.with_text line s else s) ≡ (if b then with_text line link else link)
        open_by open' true = text_same line open'
        open_by open' false = refl

    put_text : (line : List ℕ) → (walk.with_text line s).put ≡ s.put
    unfolding walk.with_text
    put_text line =
        ⊎_elim (λ (full : is_full s.queue ≡ true). rw full refl) (λ (room : is_full s.queue ≡ false). rw room refl) (cases_Bool (is_full s.queue))

    if_put : (b : Bool) (t : FeedSeen) → t.put ≡ s.put → (if b then t else s).put ≡ s.put
    if_put true t same = same
    if_put false t same = refl

    -- which is no packet line
    pub told_uncounted : (number : ℕ) (line : List ℕ) → (after s (Told number line)).put ≡ s.put
    told_uncounted number line = if_put (is_open s) (met (Told number line) s) (if_put (s.link == number) (walk.with_text line s) (put_text line))

    pub date_uncounted : (line : List ℕ) → (after s (ToldAll line)).put ≡ s.put
    date_uncounted line = if_put (is_open s) (met (ToldAll line) s) (if_put s.inbound (walk.with_text line s) (put_text line))

    -- a packet that it wants, or doesn't
    module _ (offer : OfferSeen) (wanted : Bool) (is : s.over ≡ false → walk.wants offer s ≡ wanted) where
      pub offer_same : joined h (after s (Came offer)) ≡ with_seen offer.packet.parts.source (told_by offer) (if wanted then with_text offer.packet.line link else link)
      offer_same =
          ⊎_elim
          (λ (over : s.over ≡ true).
          ap (joined h) (closed_by (Came offer) over)
          ∙ over_unseen offer.packet.parts.source (told_by offer) link over
          ∙ ap (with_seen offer.packet.parts.source (told_by offer)) (copy_over offer.packet.line link wanted over))
          (λ (open' : s.over ≡ false).
          ap (joined h) (opened_by (Came offer) open')
          ∙ places_same offer.packet.parts.source (told_by offer) (walk.with_packet offer s) (wanted_matches h offer s m)
          ∙ ap (λ b. with_seen offer.packet.parts.source (told_by offer) (joined h (if b then walk.with_copy offer.packet.line s else s))) (is open')
          ∙ ap (with_seen offer.packet.parts.source (told_by offer)) (copy_same offer.packet.line wanted open'))
          (cases_Bool s.over)

      put_seen : (call : List ℕ) (told : Option Seen) (x : FeedSeen) → (walk.with_seen call told x).put ≡ x.put
      put_seen call None x = refl
      put_seen call (Some seen) x = refl

      put_copy : (w : Bool) → s.over ≡ false → (if w then walk.with_copy offer.packet.line s else s).put ≡ (if w && has_room link then one_more s.put else s.put)
      unfolding walk.with_copy
      put_copy false open' = refl
      put_copy true open' =
          ⊎_elim
          (λ (full : is_full s.queue ≡ true). rw (open', full, full_here full) refl)
          (λ (room : is_full s.queue ≡ false). rw (open', room, room_here room) refl)
          (cases_Bool (is_full s.queue))

      -- its line is counted exactly where it fits
      pub offer_counted : (after s (Came offer)).put ≡ (if wanted && has_room link then one_more s.put else s.put)
      offer_counted =
          ⊎_elim
          (λ (over : s.over ≡ true).
          ap (λ (x : FeedSeen). x.put) (closed_by (Came offer) over)
          ∙ ap (λ b. if b then one_more s.put else s.put) (sym (and-false wanted) ∙ ap (λ b. wanted && b) (fits_not_after link over)))
          (λ (open' : s.over ≡ false).
          ap (λ (x : FeedSeen). x.put) (opened_by (Came offer) open')
          ∙ put_seen offer.packet.parts.source (told_by offer) (walk.with_packet offer s)
          ∙ ap (λ b. (if b then walk.with_copy offer.packet.line s else s).put) (is open')
          ∙ put_copy wanted open')
          (cases_Bool s.over)

    -- ---- an accepted packet
    module _ (packet : PacketSeen) (source : SourcePlace) (hearers owed extra : List ℕ) (asks : list_any (λ other. s.link == other) extra ≡ is_asked_at packet hearers owed link) where
      abbrev offer : OfferSeen
      offer = offer_of packet source extra

      kinds_same : (kind : LinkKind) (session : Option Session) → feed_wants (feed_of kind session) offer s ≡ link_wants kind (is_some session) source.submitted (is_chosen offer s)
      kinds_same (Client kind) None = refl
      kinds_same (Client port.Full) (Some session) = refl
      kinds_same (Client kind) (Some session) = refl
      kinds_same (Uplink uplink) session = refl

      feeds_same : (opening : Option Opening) (session : Option Session) → feed_wants (opening_feed opening session) offer s ≡ opening_wants opening (is_some session) source.submitted (is_chosen offer s)
      feeds_same None session = refl
      feeds_same (Some opening) session = kinds_same opening.kind session

      wants_same : s.over ≡ false → walk.wants offer s ≡ wants_packet packet source hearers owed link
      wants_same open' =
          let elsewhere = not (is_from h.link packet.from) in
          let listed = list_any (λ other. s.link == other) extra in
          ap (λ b. not b && feed_wants s.feed offer s) (from_same s.link packet.from)
          ∙ ap (λ n. not (is_from n packet.from) && feed_wants s.feed offer s) m.link
          ∙ ap (λ f. elsewhere && feed_wants f offer s) m.feed
          ∙ ap (λ b. elsewhere && b) (feeds_same h.opening h.session)
          ∙ ap (λ b. elsewhere && opening_wants h.opening (is_some h.session) source.submitted (passes_of (terms_of s.filter) packet (friends_kept b s.friends) (place_kept b s.mine) source.place source.gate || listed)) (sym open')
          ∙ ap (λ b. elsewhere && opening_wants h.opening (is_some h.session) source.submitted (passes_packet packet source link || b)) asks

      pub heard_same : joined h (after s (Came offer)) ≡ with_packet packet source hearers owed link
      heard_same = offer_same offer (wants_packet packet source hearers owed link) wants_same

      pub heard_counted : (after s (Came offer)).put ≡ (if takes_packet packet source hearers owed link then one_more s.put else s.put)
      heard_counted = offer_counted offer (wants_packet packet source hearers owed link) wants_same

    -- ---- a duplicate that is refused
    module _ (packet : PacketSeen) where
      abbrev refused : OfferSeen
      refused = refused_of packet

      refused_kinds : (kind : LinkKind) (session : Option Session) → feed_wants (feed_of kind session) refused s ≡ (is_dupe_of kind && is_some session)
      refused_kinds (Client kind) None = sym (and-false (is_dupe_of (Client kind)))
      refused_kinds (Client port.Full) (Some session) = refl
      refused_kinds (Client kind) (Some session) = refl
      refused_kinds (Uplink uplink) session = refl

      refused_feeds : (opening : Option Opening) (session : Option Session) → feed_wants (opening_feed opening session) refused s ≡ shows_duplicates opening session
      refused_feeds None session = refl
      refused_feeds (Some opening) session = refused_kinds opening.kind session

      shown_wants : walk.wants refused s ≡ is_shown_at packet.from link
      shown_wants =
          ap (λ b. not b && feed_wants s.feed refused s) (from_same s.link packet.from)
          ∙ ap (λ n. not (is_from n packet.from) && feed_wants s.feed refused s) m.link
          ∙ ap (λ f. not (is_from h.link packet.from) && feed_wants f refused s) m.feed
          ∙ ap (λ b. not (is_from h.link packet.from) && b) (refused_feeds h.opening h.session)

      pub shown_same : joined h (after s (Came refused)) ≡ with_shown packet.from packet.line link
      shown_same = offer_same refused (is_shown_at packet.from link) (λ open'. shown_wants)

      pub shown_counted : (after s (Came refused)).put ≡ (if takes_shown packet.from link then one_more s.put else s.put)
      shown_counted = offer_counted refused (is_shown_at packet.from link) (λ open'. shown_wants)
