-- What a block of packets leaves of a link that suits their run is what the run leaves of it.
use Rattle.std.proofs.Common.{◌≡◌, ℕ, suc, ◌^◌, ◌+◌, ◌-◌, ◌<◌, ◌≤◌, ◌==◌, min, ◌&&◌, ◌||◌, nat_lt, Bool, true, false, not, List, [], ◌∷◌, ◌++◌, length, take, drop, get_or, Option, Some, None, is_none, Result, Ok, Err, OnOk, refl, ap, sym, ◌∙◌, subst, cond, inl, inr, arith, append_assoc, append-nil, length-append, eq-eqb}
use Rattle.std.specs.List.{flat_map, list_all, list_any}
use Rattle.std.proofs.Math.Bool.{and-false, or-false, or-true}
use Rattle.std.proofs.lemmas.Bool.{cases_Bool, cases_eq, cases_lt, false_from_ne_true, false≢true, le-ltb, lt-ltb}
use Rattle.std.proofs.lemmas.Bool.Decides.{Decides-eqb}
use Rattle.std.proofs.lemmas.Slice.Eq.{slice_eq-Decides}
use Rattle.std.proofs.lemmas.List.{drop_all}
use Rattle.aprs_base.specs.declared.packets.Source.{Source}
use Rattle.aprs_base.specs.declared.packets.Source.TheVariants as source
use Rattle.filter_lang.specs.Terms.{TermSeen}
use Rattle.filter_eval.specs.Passes.{is_some_and, is_text}
use Rattle.filter_eval.specs.declared.seen.Seen.{Seen}
use Rattle.station_table.specs.Stations.{seen_in}
use Rattle.link_queue.specs.Queues.{with_line, with_lines}
use Rattle.worker_match.specs.declared.links.Feed.{Feed}
use Rattle.worker_match.specs.declared.links.Feed.TheVariants as feed
use Rattle.worker_match.specs.Seen.{FeedSeen, OfferSeen, ItemSeen, Told, ToldAll, Ended, Became, Came, came_all}
use Rattle.worker_match.specs.Walk.{after, feed_wants, friends_seen, is_from, is_full, is_open, met, mine_seen, one_more, terms_of, told_by, walked, wants, with_copy, with_packet, with_seen}
use Rattle.worker_match.specs.Runs.{IsRunOf, RunSeen, added, empty_run, fresh, is_packet, is_plain, line_of, mark, mark_of, sender_of, sent_by, suits, suits_others, takes_all, with_run}
use Rattle.worker_match.proofs.PushLemmas.{full_is, not_full}
use Rattle.worker_match.proofs.TakenLemmas.{both_taken, one_taken, run_is}
use Rattle.worker_match.proofs.WalkLemmas.{closed_stays, left_is}

-- ---- tests

pub both : (a b : Bool) → (a && b) ≡ true → (a ≡ true) × (b ≡ true)
both true b is = (refl, is)
both false b is = absurd (cc)

neither : (a b : Bool) → (a || b) ≡ false → (a ≡ false) × (b ≡ false)
neither true b is = absurd (cc)
neither false b is = (refl, is)

is_not : (a : Bool) → not a ≡ true → a ≡ false
is_not true is = absurd (cc)
is_not false is = refl

takes_is : (fed : Feed) → takes_all fed ≡ true → fed ≡ feed.Full
takes_is feed.Nothing is = absurd (cc)
takes_is feed.Full is = refl
takes_is feed.Up is = absurd (cc)
takes_is feed.Dupe is = absurd (cc)
takes_is feed.Filter is = absurd (cc)

none_is : (filter : Option (List TermSeen)) → is_none filter ≡ true → filter ≡ None
none_is None is = refl
none_is (Some terms) is = absurd (cc)

-- the first packet isn't from the link, nor are the others
not_from : (link : ℕ) (from : Source) (others : List ℕ) → list_any (λ sender. link == sender) (sent_by from ++ others) ≡ false
    → (is_from link from ≡ false) × (list_any (λ sender. link == sender) others ≡ false)
not_from link (source.Link number) others is = neither (link == number) (list_any (λ sender. link == sender) others) is
not_from link (source.Submit listener) others is = (refl, is)
not_from link (source.Peer peer) others is = (refl, is)

-- its source isn't the login, nor have the others its mark
not_mine : (me : Option (List ℕ)) (call : List ℕ) (others : List ℕ)
    → is_some_and (λ own. list_any (λ other. mark own == other) (mark call ∷ others)) me ≡ false
    → (is_some_and (λ own. is_text own call) me ≡ false) × (is_some_and (λ own. list_any (λ other. mark own == other) others) me ≡ false)
not_mine None call others is = (refl, refl)
not_mine (Some own) call others is =
    let apart = neither (mark own == mark call) (list_any (λ other. mark own == other) others) is in
    (false_from_ne_true _ (λ same. false≢true (sym apart.0 ∙ eq-eqb (mark own) (mark call) (ap mark ((slice_eq-Decides Decides-eqb own call (is_text own call) refl).0 same)))), apart.1)

-- ---- a link that takes each packet of others

record IsPlain (link : FeedSeen) : Type 0 where
  open' : is_open link ≡ true
  full : link.feed ≡ feed.Full
  none : link.filter ≡ None
  few : length link.queue.lines ≤ link.queue.limit
  counted : link.put < 2 ^ 64

-- a position of another call changes nothing
unseen : (call : List ℕ) (told : Option Seen) (link : FeedSeen) → link.filter ≡ None → is_some_and (λ own. is_text own call) link.me ≡ false
    → with_seen call told link ≡ link
unseen call None link none other = refl
unseen call (Some seen) link none other =
    ap (λ filter. record link { friends = friends_seen call seen (terms_of filter) link.friends; mine = mine_seen call seen link.me link.mine }) none
    ∙ ap (λ b. record link { mine = cond b (Some seen) link.mine }) other

module _ (offer : OfferSeen) (link : FeedSeen) (plain : IsPlain link) (from : is_from link.link offer.packet.from ≡ false) where
  wanted : wants offer link ≡ not offer.dupe
  wanted = ap (λ b. not b && feed_wants link.feed offer link) from ∙ ap (λ fed. feed_wants fed offer link) plain.full

  opened : after link (Came offer) ≡ with_seen offer.packet.parts.source (told_by offer) (with_packet offer link)
  opened = ap (λ b. cond b (met (Came offer) link) link) plain.open'

  after_dupe : offer.dupe ≡ true → after link (Came offer) ≡ link
  after_dupe dupe =
      opened
      ∙ ap (λ b. with_seen offer.packet.parts.source (cond b None (seen_in offer.packet)) (with_packet offer link)) dupe
      ∙ ap (λ b. cond b (with_copy offer.packet.line link) link) (wanted ∙ ap not dupe)

  after_copy : (full : Bool) → offer.dupe ≡ false → is_some_and (λ own. is_text own offer.packet.parts.source) link.me ≡ false → is_full link.queue ≡ full
      → after link (Came offer) ≡ cond full (record link { over = true }) (record link { queue = with_line offer.packet.line link.queue; put = one_more link.put })
  unfolding with_copy
  after_copy full dupe other is =
      opened
      ∙ ap (λ b. with_seen offer.packet.parts.source (told_by offer) (cond b (with_copy offer.packet.line link) link)) (wanted ∙ ap not dupe)
      ∙ ap (λ b. with_seen offer.packet.parts.source (told_by offer) (cond b (record link { over = true }) (record link { queue = with_line offer.packet.line link.queue; put = one_more link.put }))) is
      ∙ unseen_either full
    where
      unseen_either : (full : Bool)
          → with_seen offer.packet.parts.source (told_by offer) (cond full (record link { over = true }) (record link { queue = with_line offer.packet.line link.queue; put = one_more link.put }))
          ≡ cond full (record link { over = true }) (record link { queue = with_line offer.packet.line link.queue; put = one_more link.put })
      unseen_either true = unseen offer.packet.parts.source (told_by offer) (record link { over = true }) plain.none other
      unseen_either false =
          unseen offer.packet.parts.source (told_by offer) (record link { queue = with_line offer.packet.line link.queue; put = one_more link.put }) plain.none other

module _ (offer : OfferSeen) (link : FeedSeen) (plain : IsPlain link) (own : is_from link.link offer.packet.from ≡ true) where
  after_own : is_some_and (λ own. is_text own offer.packet.parts.source) link.me ≡ false → after link (Came offer) ≡ link
  after_own other =
      ap (λ b. cond b (met (Came offer) link) link) plain.open'
      ∙ ap (λ b. with_seen offer.packet.parts.source (told_by offer) (cond (not b && feed_wants link.feed offer link) (with_copy offer.packet.line link) link)) own
      ∙ unseen offer.packet.parts.source (told_by offer) link plain.none other

-- ---- what a run leaves

module _ (link : FeedSeen) (plain : IsPlain link) where
  under : link.over ≡ false
  under = is_not link.over (both link.alive (not link.over) plain.open').1

  -- no line fits, or there is none
  none_taken : (lines : List (List ℕ)) (over : Bool) → min (link.queue.limit - length link.queue.lines) (length lines) ≡ 0
      → (link.over || nat_lt (link.queue.limit - length link.queue.lines) (length lines)) ≡ over → with_run lines link ≡ record link { over = over }
  unfolding with_run
  none_taken lines over none is =
      let counted = plain.counted in
      ap (λ n. record link {
        queue = with_lines (take n lines) link.queue;
        put = min (link.put + n) (2 ^ 64 - 1);
        over = link.over || nat_lt (link.queue.limit - length link.queue.lines) (length lines);
      }) none
      ∙ run_is link _ link.queue _ link.put _ over (ap (λ lines. record link.queue { lines = lines }) (append-nil link.queue.lines)) (omega arith) is

  with_none : with_run [] link ≡ link
  with_none = none_taken [] link.over (omega arith) (ap (λ b. link.over || b) (le-ltb (link.queue.limit - length link.queue.lines) 0 (omega arith)) ∙ or-false link.over)

  module _ (line : List ℕ) (lines : List (List ℕ)) where
    with_more : (length link.queue.lines ≡ link.queue.limit → ⊥)
        → with_run lines (record link { queue = with_line line link.queue; put = one_more link.put }) ≡ with_run (line ∷ lines) link
    unfolding with_copy
    with_more room =
        ap (λ b. with_run lines (cond b (record link { over = true }) (record link { queue = with_line line link.queue; put = one_more link.put }))) (sym (not_full link.queue room))
        ∙ ap (with_run lines) (sym (one_taken link plain.few plain.counted line))
        ∙ sym (both_taken link plain.few plain.counted (line ∷ []) lines)

    with_full : length link.queue.lines ≡ link.queue.limit → with_run (line ∷ lines) link ≡ record link { over = true }
    with_full full =
        none_taken (line ∷ lines) true (omega arith)
        (ap (λ b. link.over || b) (lt-ltb (link.queue.limit - length link.queue.lines) (suc (length lines)) (omega arith)) ∙ or-true link.over)

  still_plain : (line : List ℕ) → length link.queue.lines < link.queue.limit → IsPlain (record link { queue = with_line line link.queue; put = one_more link.put })
  still_plain line room =
      let size : length (link.queue.lines ++ line ∷ []) ≡ length link.queue.lines + 1 = length-append link.queue.lines (line ∷ []) in
      record { open' = plain.open'; full = plain.full; none = plain.none; few = omega arith; counted = omega arith }

-- ---- the block

less_from_ne : (a b : ℕ) → a ≤ b → (a ≡ b → ⊥) → a < b
less_from_ne a b le ne = elim (cases_lt a b) [
  | inl lt ↦ lt
  | inr ge ↦ absurd (ne (omega arith))
]

-- the lines of the packets of others
abbrev pub line_of_others : ℕ → ItemSeen → List (List ℕ)
line_of_others link (Came offer) = cond (is_from link offer.packet.from) [] (fresh offer.dupe offer.packet.line)
line_of_others link item = []

others_walked : (items : List ItemSeen) (link : FeedSeen) → IsPlain link → list_all is_packet items ≡ true
    → is_some_and (λ own. list_any (λ other. mark own == other) (flat_map mark_of items)) link.me ≡ false
    → walked items link ≡ with_run (flat_map (line_of_others link.link) items) link
others_walked [] link plain packets marks = sym (with_none link plain)
others_walked (Told number line ∷ items) link plain packets marks = absurd (cc)
others_walked (ToldAll line ∷ items) link plain packets marks = absurd (cc)
others_walked (Ended number ∷ items) link plain packets marks = absurd (cc)
others_walked (Became session ∷ items) link plain packets marks = absurd (cc)
others_walked (Came offer ∷ items) link plain packets marks =
    let line = offer.packet.line in
    let lines = flat_map (line_of_others link.link) items in
    let mine = not_mine link.me offer.packet.parts.source (flat_map mark_of items) marks in
    elim (cases_Bool (is_from link.link offer.packet.from)) [
      | inl own ↦
          ap (walked items) (after_own offer link plain own mine.0)
          ∙ others_walked items link plain packets mine.1
          ∙ ap (λ b. with_run (cond b [] (fresh offer.dupe line) ++ lines) link) (sym own)
      | inr from ↦ elim (cases_Bool offer.dupe) [
        | inl dupe ↦
            ap (walked items) (after_dupe offer link plain from dupe)
            ∙ others_walked items link plain packets mine.1
            ∙ ap (λ b. with_run (fresh b line ++ lines) link) (sym dupe)
            ∙ ap (λ b. with_run (cond b [] (fresh offer.dupe line) ++ lines) link) (sym from)
        | inr new ↦ elim (cases_eq (length link.queue.lines) link.queue.limit) [
          | inl full ↦
              ap (walked items) (after_copy offer link plain from true new mine.0 (full_is link.queue full))
              ∙ closed_stays items (record link { over = true }) (and-false link.alive)
              ∙ sym (with_full link plain line lines full)
              ∙ ap (λ b. with_run (fresh b line ++ lines) link) (sym new)
              ∙ ap (λ b. with_run (cond b [] (fresh offer.dupe line) ++ lines) link) (sym from)
          | inr room ↦
              let lt = less_from_ne _ _ plain.few room in
              ap (walked items) (after_copy offer link plain from false new mine.0 (not_full link.queue room))
              ∙ others_walked items (record link { queue = with_line line link.queue; put = one_more link.put }) (still_plain link plain line lt) packets mine.1
              ∙ with_more link plain line lines room
              ∙ ap (λ b. with_run (fresh b line ++ lines) link) (sym new)
              ∙ ap (λ b. with_run (cond b [] (fresh offer.dupe line) ++ lines) link) (sym from)
        ]
      ]
    ]

-- where none is from the link
all_others : (link : ℕ) (items : List ItemSeen) → list_any (λ sender. link == sender) (flat_map sender_of items) ≡ false
    → flat_map (line_of_others link) items ≡ flat_map line_of items
all_others link [] is = refl
all_others link (Told number line ∷ items) is = all_others link items is
all_others link (ToldAll line ∷ items) is = all_others link items is
all_others link (Ended number ∷ items) is = all_others link items is
all_others link (Became session ∷ items) is = all_others link items is
all_others link (Came offer ∷ items) is =
    let from = not_from link offer.packet.from (flat_map sender_of items) is in
    ap (λ b. cond b [] (fresh offer.dupe offer.packet.line) ++ flat_map (line_of_others link) items) from.0
    ∙ ap (λ lines. fresh offer.dupe offer.packet.line ++ lines) (all_others link items from.1)

suited_plain : (run : RunSeen) (link : FeedSeen) → suits_others link run ≡ true → length link.queue.lines ≤ link.queue.limit → link.put < 2 ^ 64
    → IsPlain link × (is_some_and (λ own. list_any (λ other. mark own == other) run.marks) link.me ≡ false)
suited_plain run link suit few counted =
    let apart = both (is_plain link) (not (is_some_and (λ own. list_any (λ other. mark own == other) run.marks) link.me)) suit in
    let fed = both (is_open link && takes_all link.feed) (is_none link.filter) apart.0 in
    let open' = both (is_open link) (takes_all link.feed) fed.0 in
    (record { open' = open'.0; full = takes_is link.feed open'.1; none = none_is link.filter fed.1; few = few; counted = counted }, is_not _ apart.1)

-- the lines of others alone
pub others_suited : (items : List ItemSeen) (run : RunSeen) (link : FeedSeen) → IsRunOf items run → suits_others link run ≡ true
    → length link.queue.lines ≤ link.queue.limit → link.put < 2 ^ 64 → with_run (flat_map (line_of_others link.link) items) link ≡ walked items link
others_suited items run link is suit few counted =
    let suited = suited_plain run link suit few counted in
    sym (others_walked items link suited.0 is.packets
    (ap (λ marks. is_some_and (λ own. list_any (λ other. mark own == other) marks) link.me) (sym is.marks) ∙ suited.1))

suited : (items : List ItemSeen) (run : RunSeen) (link : FeedSeen) → IsRunOf items run → suits link run ≡ true
    → length link.queue.lines ≤ link.queue.limit → link.put < 2 ^ 64 → with_run run.lines link ≡ walked items link
suited items run link is suit few counted =
    let apart = both (suits_others link run) (not (list_any (λ sender. link.link == sender) run.senders)) suit in
    ap (λ lines. with_run lines link)
    (is.lines ∙ sym (all_others link.link items (ap (list_any (λ sender. link.link == sender)) (sym is.senders) ∙ is_not _ apart.1)))
    ∙ others_suited items run link is apart.0 few counted

pub run_met : {T E : Type 0} (result : Result T E) (items : List ItemSeen) (run : RunSeen) (lines : List (List ℕ)) (old new : FeedSeen)
    → IsRunOf items run → suits old run ≡ true → lines ≡ run.lines → OnOk result (new ≡ with_run lines old)
    → OnOk result (length old.queue.lines ≤ old.queue.limit) → OnOk result (old.put < 2 ^ 64) → OnOk result (new ≡ walked items old)
run_met (Ok x) items run lines old new is suit same taken few counted = taken ∙ ap (λ all. with_run all old) same ∙ suited items run old is suit few counted
run_met (Err e) items run lines old new is suit same taken few counted = tt

-- ---- a run that packets are added to

-- what is left of the packets would make the run of all
pub record IsBegun (offers : List OfferSeen) (i : ℕ) (run : RunSeen) : Type 0 where
  pub lines : run.lines ++ flat_map line_of (came_all (drop i offers)) ≡ flat_map line_of (came_all offers)
  pub senders : run.senders ++ flat_map sender_of (came_all (drop i offers)) ≡ flat_map sender_of (came_all offers)
  pub marks : run.marks ++ flat_map mark_of (came_all (drop i offers)) ≡ flat_map mark_of (came_all offers)
  pub few : length run.lines ≤ i

pub begun : (offers : List OfferSeen) → IsBegun offers 0 empty_run
begun offers = record { lines = refl; senders = refl; marks = refl; few = omega arith }

line_at_most : (offer : OfferSeen) → length (line_of (Came offer)) ≤ 1
line_at_most offer = elim (cases_Bool offer.dupe) [
  | inl dupe ↦ subst (λ b. length (fresh b offer.packet.line) ≤ 1) (sym dupe) (omega arith)
  | inr new ↦ subst (λ b. length (fresh b offer.packet.line) ≤ 1) (sym new) (omega arith)
]

module _ (offers : List OfferSeen) (i : ℕ) (x : OfferSeen) (lt : i < length offers) (at : x ≡ get_or offers i x) where
  gathered : {A : Type 0} (f : ItemSeen → List A) (so_far total : List A) → so_far ++ flat_map f (came_all (drop i offers)) ≡ total
      → (so_far ++ f (Came x)) ++ flat_map f (came_all (drop (i + 1) offers)) ≡ total
  gathered f so_far total is =
      append_assoc so_far (f (Came x)) (flat_map f (came_all (drop (i + 1) offers)))
      ∙ ap (λ left. so_far ++ flat_map f (came_all left)) (sym (left_is offers i x lt at)) ∙ is

  pub begun_more : (run new : RunSeen) → IsBegun offers i run → new ≡ added (Came x) run → IsBegun offers (i + 1) new
  begun_more run new is made =
      subst (IsBegun offers (i + 1)) (sym made) (record {
        lines = gathered line_of run.lines _ is.lines;
        senders = gathered sender_of run.senders _ is.senders;
        marks = gathered mark_of run.marks _ is.marks;
        few = let size = length-append run.lines (line_of (Came x)) in let most = line_at_most x in let few = is.few in omega arith;
      })

are_packets : (offers : List OfferSeen) → list_all is_packet (came_all offers) ≡ true
are_packets [] = refl
are_packets (offer ∷ offers) = are_packets offers

pub all_begun : (offers : List OfferSeen) (i : ℕ) (run : RunSeen) → length offers ≤ i → IsBegun offers i run → IsRunOf (came_all offers) run
all_begun offers i run past is =
    let none = drop_all i offers past in
    record {
      packets = are_packets offers;
      lines = sym (append-nil run.lines) ∙ ap (λ left. run.lines ++ flat_map line_of (came_all left)) (sym none) ∙ is.lines;
      senders = sym (append-nil run.senders) ∙ ap (λ left. run.senders ++ flat_map sender_of (came_all left)) (sym none) ∙ is.senders;
      marks = sym (append-nil run.marks) ∙ ap (λ left. run.marks ++ flat_map mark_of (came_all left)) (sym none) ∙ is.marks;
    }
