use Rattle.std.proofs.Common.{◌≡◌, ℕ, ◌⊎◌, ◌&&◌, Bool, true, false, not, List, length, Option, Some, None, refl, ap, sym, slice_get, subst, ◌∙◌, cond, inl, inr, eq-eqb}
use Rattle.filter_eval.specs.declared.seen.Seen.{Seen}
use Rattle.station_table.specs.Stations.{seen_in}
use Rattle.link_queue.specs.Queues.{with_line}
use Rattle.worker_match.specs.Seen.{FeedSeen, OfferSeen, ItemSeen, Told, ToldAll, Ended, Became, Came}
use Rattle.worker_match.specs.Walk.{after, is_full, is_open, met, mine_seen, one_more, terms_of, told_by, wants, with_copy, with_packet, with_seen, with_text}
use Rattle.worker_match.specs.WalkLaws.{HasSeen, HasSeenNothing, HasTaken, HasTakenNone, IsOpen, IsTextFor}
use Rattle.worker_match.proofs.FriendLemmas.{seen_each, seen_many}
use Rattle.worker_match.proofs.PushLemmas.{full_is, not_full, text_fits, text_over}
use Rattle.worker_match.proofs.WalkLemmas.{closed_stays}
use Rattle.worker_match.proofs.laws.links_take_what_they_want.Goals as goal

closed_by : (a b : Bool) → b ≡ true → (a && not b) ≡ false
closed_by true b is = ap not is
closed_by false b is = refl

module _ (link : FeedSeen) (offer : OfferSeen) (open' : IsOpen link) where
  opened : after link (Came offer) ≡ with_seen offer.packet.parts.source (told_by offer) (with_packet offer link)
  opened =
      let is : is_open link ≡ true = ap (λ a. a && not link.over) open'.alive ∙ ap not open'.under in
      ap (λ b. cond b (met (Came offer) link) link) is

  module _ (wanted : wants offer link ≡ true) where
    taken : (length link.queue.lines ≡ link.queue.limit → ⊥) → with_packet offer link ≡ record link { queue = with_line offer.packet.line link.queue; put = one_more link.put }
    unfolding with_copy
    taken room =
        ap (λ b. cond b (with_copy offer.packet.line link) link) wanted
        ∙ ap (λ b. cond b (record link { over = true }) (record link { queue = with_line offer.packet.line link.queue; put = one_more link.put })) (not_full link.queue room)

    overfull : length link.queue.lines ≡ link.queue.limit → with_packet offer link ≡ record link { over = true }
    unfolding with_copy
    overfull full =
        ap (λ b. cond b (with_copy offer.packet.line link) link) wanted
        ∙ ap (λ b. cond b (record link { over = true }) (record link { queue = with_line offer.packet.line link.queue; put = one_more link.put })) (full_is link.queue full)

seen_taken : (call : List ℕ) (told : Option Seen) (offer : OfferSeen) (old new : FeedSeen) → HasTaken offer old new → HasTaken offer old (with_seen call told new)
seen_taken call None offer old new has = has
seen_taken call (Some seen) offer old new has = record { queue = has.queue; put = has.put; over = has.over }

seen_none : (call : List ℕ) (told : Option Seen) (over : Bool) (old new : FeedSeen) → HasTakenNone over old new → HasTakenNone over old (with_seen call told new)
seen_none call None over old new has = has
seen_none call (Some seen) over old new has = record { queue = has.queue; put = has.put; over = has.over }

pub returns-clause-dead : goal.returns-clause-dead
returns-clause-dead c link items dead = closed_stays items link (ap (λ a. a && not link.over) dead)

pub returns-clause-over : goal.returns-clause-over
returns-clause-over c link items over = closed_stays items link (closed_by link.alive link.over over)

-- ---- lines for a link

module _ (link : FeedSeen) (line : List ℕ) (open' : IsOpen link) where
  open_is : is_open link ≡ true
  open_is = ap (λ a. a && not link.over) open'.alive ∙ ap not open'.under

  -- an item that is a line for it
  told : (item : ItemSeen) → IsTextFor link line item → after link item ≡ with_text line link
  told (Told number text) is =
      ap (λ b. cond b (met (Told number text) link) link) open_is ∙ ap (λ b. cond b (with_text text link) link) (eq-eqb link.link number is.0) ∙ ap (λ t. with_text t link) is.1
  told (ToldAll text) is =
      ap (λ b. cond b (met (ToldAll text) link) link) open_is ∙ ap (λ b. cond b (with_text text link) link) is.0 ∙ ap (λ t. with_text t link) is.1
  told (Ended number) is = absurd is
  told (Became session) is = absurd is
  told (Came offer) is = absurd is

pub returns-clause-texts : goal.returns-clause-texts
returns-clause-texts c link line item open' is room = told link line open' item is ∙ sym (text_fits line link link (with_line line link.queue) refl refl room)

pub returns-clause-full_by_text : goal.returns-clause-full_by_text
returns-clause-full_by_text c link line item open' is full = told link line open' item is ∙ sym (text_over line link link link.queue refl refl full)

-- ---- packets

pub returns-clause-wanted : goal.returns-clause-wanted
returns-clause-wanted c link offer open' wanted room =
    subst (HasTaken offer link) (sym (opened link offer open'))
    (seen_taken offer.packet.parts.source (told_by offer) offer link (with_packet offer link)
    (subst (HasTaken offer link) (sym (taken link offer open' wanted room)) (record { queue = refl; put = refl; over = open'.under })))

pub returns-clause-full : goal.returns-clause-full
returns-clause-full c link offer open' wanted full =
    subst (HasTakenNone true link) (sym (opened link offer open'))
    (seen_none offer.packet.parts.source (told_by offer) true link (with_packet offer link)
    (subst (HasTakenNone true link) (sym (overfull link offer open' wanted full)) (record { queue = refl; put = refl; over = refl })))

-- ---- places

-- a link has the filter, the login and the places that it had
record IsLike (old new : FeedSeen) : Type 0 where
  filter : new.filter ≡ old.filter
  me : new.me ≡ old.me
  friends : new.friends ≡ old.friends
  mine : new.mine ≡ old.mine

copy_either : (full : Bool) (line : List ℕ) (link : FeedSeen)
    → IsLike link (cond full (record link { over = true }) (record link { queue = with_line line link.queue; put = one_more link.put }))
copy_either true line link = record { filter = refl; me = refl; friends = refl; mine = refl }
copy_either false line link = record { filter = refl; me = refl; friends = refl; mine = refl }

copy_like : (line : List ℕ) (link : FeedSeen) → IsLike link (with_copy line link)
unfolding with_copy
copy_like line link = copy_either (is_full link.queue) line link

packet_like : (wanted : Bool) (line : List ℕ) (link : FeedSeen) → IsLike link (cond wanted (with_copy line link) link)
packet_like true line link = copy_like line link
packet_like false line link = record { filter = refl; me = refl; friends = refl; mine = refl }

seen_by : (call : List ℕ) (seen : Seen) (old new : FeedSeen) → IsLike old new → HasSeen call seen old (with_seen call (Some seen) new)
seen_by call seen old new like = record {
  friends = λ i term friend at_term at_friend.
      seen_each call seen (terms_of new.filter) new.friends i term friend (ap (λ f. slice_get (terms_of f) i) like.filter ∙ at_term) (ap (λ fs. slice_get fs i) like.friends ∙ at_friend);
  many = seen_many call seen (terms_of new.filter) new.friends ∙ ap length like.friends;
  mine = ap (λ me. mine_seen call seen me new.mine) like.me ∙ ap (mine_seen call seen old.me) like.mine;
}

told_none : (dupe : Bool) (seen : Option Seen) → (dupe ≡ true) ⊎ (seen ≡ None) → cond dupe None seen ≡ None
told_none true seen why = refl
told_none false seen (inl is) = absurd (cc)
told_none false seen (inr none) = none

pub returns-clause-places : goal.returns-clause-places
returns-clause-places c link offer seen open' dupe told =
    let call = offer.packet.parts.source in
    let is : told_by offer ≡ Some seen = ap (λ b. cond b None (seen_in offer.packet)) dupe ∙ told in
    subst (HasSeen call seen link) (sym (opened link offer open' ∙ ap (λ s. with_seen call s (with_packet offer link)) is))
    (seen_by call seen link (with_packet offer link) (packet_like (wants offer link) offer.packet.line link))

pub returns-clause-nothing : goal.returns-clause-nothing
returns-clause-nothing c link offer open' why =
    let like = packet_like (wants offer link) offer.packet.line link in
    let is : told_by offer ≡ None = told_none offer.dupe (seen_in offer.packet) why in
    subst (HasSeenNothing link) (sym (opened link offer open' ∙ ap (λ s. with_seen offer.packet.parts.source s (with_packet offer link)) is))
    (record { friends = like.friends; mine = like.mine })
