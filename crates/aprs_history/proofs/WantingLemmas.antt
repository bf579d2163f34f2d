-- The packet lines of a text are those of the packets that its link wanted, until it was overfull.
use Rattle.std.proofs.Common.{◌≡◌, ◌≢◌, ℕ, ◌==◌, ◌&&◌, ◌||◌, ◌⊎◌, inl, inr, Bool, true, false, not, cond, is_some, List, [], ◌∷◌, ◌++◌, filter, map, refl, sym, ap, ◌∙◌, append-nil, append_assoc, Option, Some, None, if◌then◌else◌, ⊎_elim}
use Rattle.std.proofs.lemmas.Bool.{and_from, and_parts, cases_Bool, eq-eqb, eqb-true, or_cases, or_left, or_right, true≢false}
use Rattle.std.proofs.lemmas.List.{map-append}
use Rattle.std.proofs.lemmas.List.Elements.{filter-append}
use Rattle.aprs_base.specs.PacketSeen.{PacketSeen}
use Rattle.aprs_base.specs.declared.packets.PortKind.TheVariants as kind
use Rattle.aprs_base.specs.declared.packets.Source.{Source}
use Rattle.aprs_base.specs.declared.packets.Source.TheVariants as source
use Rattle.aprs_history.specs.declared.verdicts.Admission.{Admission}
use Rattle.aprs_history.specs.declared.verdicts.Admission.TheVariants.{Served}
use Rattle.aprs_history.specs.declared.verdicts.FilterAnswer.{FilterAnswer}
use Rattle.aprs_history.specs.declared.verdicts.LinkKind.{LinkKind}
use Rattle.aprs_history.specs.declared.verdicts.LinkKind.TheVariants.{Client, Uplink}
use Rattle.aprs_history.specs.declared.verdicts.Refusal.{Refusal}
use Rattle.aprs_history.specs.declared.verdicts.Refusal.TheVariants as refusal
use Rattle.aprs_history.specs.declared.verdicts.Verdict.{Verdict}
use Rattle.aprs_history.specs.declared.verdicts.Verdict.TheVariants.{PassedOver, Refused, LoggedIn, Filtered, Accepted}
use Rattle.aprs_history.specs.Setting.{Setting}
use Rattle.aprs_history.specs.Trace.{Trace, Entry, Dated, Opened, Said, is_from, is_live, moment_of}
use Rattle.aprs_history.specs.Links.{Opening, is_client, is_submitted, opening_of, session_of, taken_by}
use Rattle.aprs_history.specs.Scenes.{packet_of}
use Rattle.aprs_history.specs.Sights.{filter_passes}
use Rattle.aprs_history.specs.Messages.{is_asked}
use Rattle.aprs_history.specs.Counts.{is_packet_line}
use Rattle.aprs_history.specs.Texts.{Text, TextLine, added_by, comment_line, filter_reply, first_lines, is_dupe_of, is_shown, link_wants, login_filter_reply, login_reply, most_waiting, opening_wants, refusal_reply, relayed, reply_lines, reply_of, shown, shows_duplicates, text_to, waiting_lines, wants, with_text_line, with_text_lines}
use Rattle.aprs_history.specs.Wanting.{Coming, DuplicatesAreShown, IsFor, IsShownTo, LinksWantWhatIsForThem, TextsHaveWhatLinksWant, WantsBy, coming_by, coming_line, comings_since, is_wanted, until_overfull}

-- ---- lines that are added to a text

abbrev packets : List TextLine → List TextLine
packets lines = filter is_packet_line lines

module _ (taken : ℕ) where
  -- where a text isn't overfull, all were added
  all_fit : (lines : List TextLine) (text : Text) → (with_text_lines taken lines text).over ≡ false → (text.over ≡ false) × ((with_text_lines taken lines text).lines ≡ text.lines ++ lines)
  all_fit [] text fits = (fits, sym (append-nil text.lines))
  all_fit (line ∷ lines) text fits =
      let later = all_fit lines (with_text_line taken line text) fits in
      let first = one_fits text.over (waiting_lines text taken == most_waiting) refl later.0 in
      (first.0, later.1 ∙ ap (λ before. before ++ lines) first.1 ∙ append_assoc text.lines (line ∷ []) lines)
    where
      one_fits : (over full : Bool) → text.over ≡ over → (if over then text else if full then record text { over = true } else record text { lines = text.lines ++ line ∷ [] }).over ≡ false
          → (text.over ≡ false) × ((if over then text else if full then record text { over = true } else record text { lines = text.lines ++ line ∷ [] }).lines ≡ text.lines ++ line ∷ [])
      one_fits true full is none = absurd (true≢false (sym is ∙ none))
      one_fits false true is none = absurd (true≢false none)
      one_fits false false is none = (is, refl)

  -- one with which it is overfull isn't added
  one_left : (line : TextLine) (text : Text) → (with_text_line taken line text).over ≡ true → (with_text_line taken line text).lines ≡ text.lines
  one_left line text = of text.over (waiting_lines text taken == most_waiting) refl
    where
      of : (over full : Bool) → text.over ≡ over → (if over then text else if full then record text { over = true } else record text { lines = text.lines ++ line ∷ [] }).over ≡ true
          → (if over then text else if full then record text { over = true } else record text { lines = text.lines ++ line ∷ [] }).lines ≡ text.lines
      of true full is over = refl
      of false true is over = refl
      of false false is over = absurd (true≢false (sym over ∙ is))

  -- lines that are no packets
  others_left : (lines : List TextLine) (text : Text) → packets lines ≡ [] → packets (with_text_lines taken lines text).lines ≡ packets text.lines
  others_left [] text none = refl
  others_left (line ∷ lines) text none =
      let parts = first_is (is_packet_line line) refl none in
      others_left lines (with_text_line taken line text) parts.1 ∙ of text.over (waiting_lines text taken == most_waiting) parts.0
    where
      first_is : (b : Bool) → is_packet_line line ≡ b → cond b (line ∷ packets lines) (packets lines) ≡ [] → (is_packet_line line ≡ false) × (packets lines ≡ [])
      first_is true is none = absurd cc
      first_is false is none = (is, none)

      of : (over full : Bool) → is_packet_line line ≡ false → packets (if over then text else if full then record text { over = true } else record text { lines = text.lines ++ line ∷ [] }).lines ≡ packets text.lines
      of true full is = refl
      of false true is = refl
      of false false is =
          filter-append is_packet_line text.lines (line ∷ []) ∙ ap (λ b. packets text.lines ++ cond b (line ∷ []) []) is ∙ append-nil (packets text.lines)

-- no packet, or nothing but one line
abbrev AreFew : List TextLine → Type 0
AreFew lines = (packets lines ≡ []) ⊎ ((line : TextLine) × (lines ≡ line ∷ []))

few_left : (taken : ℕ) (lines : List TextLine) (text : Text) → AreFew lines → (with_text_lines taken lines text).over ≡ true → packets (with_text_lines taken lines text).lines ≡ packets text.lines
few_left taken lines text (inl none) over = others_left taken lines text none
few_left taken lines text (inr one) over =
    ap (λ more. packets (with_text_lines taken more text).lines) one.1
    ∙ ap packets (one_left taken one.0 text (sym (ap (λ more. (with_text_lines taken more text).over) one.1) ∙ over))

few_or_none : (b : Bool) (line : TextLine) → AreFew (if b then line ∷ [] else [])
few_or_none true line = inr (line, refl)
few_or_none false line = inl refl

-- ---- what each entry adds

module _ (s : Setting) (link : ℕ) where
  none_either : (b : Bool) (lines : List TextLine) → packets lines ≡ [] → packets (if b then lines else []) ≡ []
  none_either true lines none = none
  none_either false lines none = refl

  replies_none : (reply : Option (List ℕ)) → packets (reply_lines reply) ≡ []
  replies_none None = refl
  replies_none (Some line) = refl

  login_filter_none : (answer : Option FilterAnswer) → packets (login_filter_reply answer) ≡ []
  login_filter_none None = refl
  login_filter_none (Some answer) = refl

  first_none : (admission : Admission) → packets (first_lines s admission) ≡ []
  first_none (Served (Client port)) = refl
  first_none (Served (Uplink uplink)) = refl
  first_none admission = refl

  -- of what came, the packets that are wanted
  abbrev wanted : List Coming → List TextLine
  wanted comings = map coming_line (filter (is_wanted link) comings)

  refused_wanted : (t : Trace) (from : Source) (why : Refusal) → packets (added_by s t from (Refused why) link) ≡ wanted (coming_by t from (Refused why))
  refused_wanted t from (refusal.Duplicate parts line) = of (is_shown t from link)
    where
      again : Coming
      again = record { before = t; again = true; packet = packet_of from (moment_of t) parts line }

      of : (b : Bool) → packets (if b then shown (packet_of from (moment_of t) parts line) ∷ [] else []) ≡ map coming_line (cond b (again ∷ []) [])
      of true = refl
      of false = refl
  refused_wanted t from why = none_either (is_from link from) (reply_lines (refusal_reply why)) (replies_none (refusal_reply why))

  added_wanted : (t : Trace) (from : Source) (verdict : Verdict) → packets (added_by s t from verdict link) ≡ wanted (coming_by t from verdict)
  added_wanted t from PassedOver = refl
  added_wanted t from (Refused why) = refused_wanted t from why
  added_wanted t from (LoggedIn session answer) = none_either (is_from link from) (reply_of (login_reply s.server session) ∷ login_filter_reply answer) (login_filter_none answer)
  added_wanted t from (Filtered answer) = none_either (is_from link from) (reply_of (filter_reply answer) ∷ []) refl
  added_wanted t from (Accepted parts line) = of (wants t (packet_of from (moment_of t) parts line) link)
    where
      new : Coming
      new = record { before = t; again = false; packet = packet_of from (moment_of t) parts line }

      of : (b : Bool) → packets (if b then relayed (packet_of from (moment_of t) parts line) ∷ [] else []) ≡ map coming_line (cond b (new ∷ []) [])
      of true = refl
      of false = refl

  added_few : (t : Trace) (from : Source) (verdict : Verdict) → AreFew (added_by s t from verdict link)
  added_few t from (Accepted parts line) = few_or_none (wants t (packet_of from (moment_of t) parts line) link) (relayed (packet_of from (moment_of t) parts line))
  added_few t from (Refused (refusal.Duplicate parts line)) = few_or_none (is_shown t from link) (shown (packet_of from (moment_of t) parts line))
  added_few t from (Refused why) = inl (none_either (is_from link from) (reply_lines (refusal_reply why)) (replies_none (refusal_reply why)))
  added_few t from PassedOver = inl refl
  added_few t from (LoggedIn session answer) = inl (added_wanted t from (LoggedIn session answer))
  added_few t from (Filtered answer) = inl (added_wanted t from (Filtered answer))

  -- ---- over a trace

  abbrev text : Trace → Text
  text t = text_to s t link

  -- where a text isn't overfull it has all that was wanted
  abbrev Has : Trace → Type 0
  Has t = (text t).over ≡ false → packets (text t).lines ≡ wanted (comings_since t link)

  has_more : (t : Trace) (lines : List TextLine) (comings : List Coming) → packets lines ≡ wanted comings → Has t → (with_text_lines (taken_by t link) lines (text t)).over ≡ false
      → packets (with_text_lines (taken_by t link) lines (text t)).lines ≡ wanted (comings_since t link ++ comings)
  has_more t lines comings same has fits =
      let added = all_fit (taken_by t link) lines (text t) fits in
      ap packets added.1
      ∙ filter-append is_packet_line (text t).lines lines
      ∙ ap (λ before. before ++ packets lines) (has added.0)
      ∙ ap (λ more. wanted (comings_since t link) ++ more) same
      ∙ sym (map-append coming_line (filter (is_wanted link) (comings_since t link)) (filter (is_wanted link) comings))
      ∙ ap (map coming_line) (sym (filter-append (is_wanted link) (comings_since t link) comings))

  comment_none : (t : Trace) (moment : ℕ) → packets (if is_client t link then comment_line s.server moment ∷ [] else []) ≡ []
  comment_none t moment = none_either (is_client t link) (comment_line s.server moment ∷ []) refl

  has : (t : Trace) → Has t
  has [] fits = refl
  has (Opened door admission opened from ∷ t) fits = of (link == opened) (has t) fits
    where
      of : (b : Bool) → Has t → (if b then record { lines = first_lines s admission; over = false } else text t).over ≡ false
          → packets (if b then record { lines = first_lines s admission; over = false } else text t).lines ≡ wanted (if b then [] else comings_since t link)
      of true before fits = first_none admission
      of false before fits = before fits
  has (Said from said verdict ∷ t) fits = has_more t (added_by s t from verdict link) (coming_by t from verdict) (added_wanted t from verdict) (has t) fits
  has (Dated moment ∷ t) fits =
      has_more t (if is_client t link then comment_line s.server moment ∷ [] else []) [] (comment_none t moment) (has t) fits ∙ ap wanted (append-nil (comings_since t link))
  has (entry ∷ t) fits = has t fits

  -- an entry with which it is overfull adds no packet
  left : (entry : Entry) (t : Trace) → (text (entry ∷ t)).over ≡ true → packets (text (entry ∷ t)).lines ≡ packets (text t).lines
  left (Opened door admission opened from) t over = of (link == opened) over
    where
      of : (b : Bool) → (if b then record { lines = first_lines s admission; over = false } else text t).over ≡ true
          → packets (if b then record { lines = first_lines s admission; over = false } else text t).lines ≡ packets (text t).lines
      of true over = absurd (true≢false (sym over))
      of false over = refl
  left (Said from said verdict) t over = few_left (taken_by t link) (added_by s t from verdict link) (text t) (added_few t from verdict) over
  left (Dated moment) t over = few_left (taken_by t link) (if is_client t link then comment_line s.server moment ∷ [] else []) (text t) (inl (comment_none t moment)) over
  left entry t over = refl

  record IsUntil (t : Trace) : Type 0 where
    same : packets (text t).lines ≡ packets (text (until_overfull s t link)).lines
    fits : (text (until_overfull s t link)).over ≡ false

  until : (t : Trace) → IsUntil t
  until [] = record { same = refl; fits = refl }
  until (entry ∷ t) = of (text (entry ∷ t)).over refl (until t)
    where
      of : (over : Bool) → (text (entry ∷ t)).over ≡ over → IsUntil t
          → IsUntil (entry ∷ t)
      of true is before = record {
        same = left entry t is ∙ before.same ∙ ap (λ b. packets (text (if b then until_overfull s t link else entry ∷ t)).lines) (sym is);
        fits = ap (λ b. (text (if b then until_overfull s t link else entry ∷ t)).over) is ∙ before.fits;
      }
      of false is before = record {
        same = ap (λ b. packets (text (if b then until_overfull s t link else entry ∷ t)).lines) (sym is);
        fits = ap (λ b. (text (if b then until_overfull s t link else entry ∷ t)).over) is ∙ is;
      }

pub texts_have_what_links_want : TextsHaveWhatLinksWant
texts_have_what_links_want s t link = let u = until s link t in u.same ∙ has s link (until_overfull s t link) u.fits

-- ---- what a link wants

module _ (link : ℕ) where
  another_from : (from : Source) → not (is_from link from) ≡ true → from ≢ source.Link link
  another_from from other own = true≢false (sym other ∙ ap (λ by. not (is_from link by)) own ∙ ap not (eq-eqb link link refl))

  from_another : (from : Source) → from ≢ source.Link link → not (is_from link from) ≡ true
  from_another (source.Link k) another = ⊎_elim (λ here. absurd (another (ap source.Link (sym (eqb-true link k here))))) (λ other. ap not other) (cases_Bool (link == k))
  from_another (source.Submit listener) another = refl
  from_another (source.Peer peer) another = refl

module _ (t : Trace) (packet : PacketSeen) (link : ℕ) where
  abbrev named : Bool
  named = is_some (session_of t link)

  abbrev asked : Bool
  asked = filter_passes t packet link || is_asked t packet link

  wants_so : (what : LinkKind) → link_wants what named (is_submitted t packet.from) asked ≡ true → WantsBy what t packet link
  wants_so (Client kind.Full) is = (and_parts named true is).0
  wants_so (Client kind.Igate) is = let parts = and_parts named asked is in (parts.0, or_cases (filter_passes t packet link) (is_asked t packet link) parts.1)
  wants_so (Client kind.Only) is = let parts = and_parts named asked is in (parts.0, or_cases (filter_passes t packet link) (is_asked t packet link) parts.1)
  wants_so (Client kind.Dupe) is = true≢false (sym (and_parts named false is).1)
  wants_so (Client kind.Submit) is = true≢false (sym (and_parts named false is).1)
  wants_so (Client kind.Core) is = true≢false (sym (and_parts named false is).1)
  wants_so (Uplink uplink) is = is

  either_asks : (filter_passes t packet link ≡ true) ⊎ (is_asked t packet link ≡ true) → asked ≡ true
  either_asks (inl passes) = or_left (filter_passes t packet link) (is_asked t packet link) passes
  either_asks (inr asks) = or_right (filter_passes t packet link) (is_asked t packet link) asks

  so_wants : (what : LinkKind) → WantsBy what t packet link → link_wants what named (is_submitted t packet.from) asked ≡ true
  so_wants (Client kind.Full) by = and_from named true by refl
  so_wants (Client kind.Igate) by = and_from named asked by.0 (either_asks by.1)
  so_wants (Client kind.Only) by = and_from named asked by.0 (either_asks by.1)
  so_wants (Client kind.Dupe) by = absurd by
  so_wants (Client kind.Submit) by = absurd by
  so_wants (Client kind.Core) by = absurd by
  so_wants (Uplink uplink) by = by

  is_for : wants t packet link ≡ true → IsFor t packet link
  is_for is =
      let last = and_parts (not (is_from link packet.from) && is_live t link) (opening_wants (opening_of t link) named (is_submitted t packet.from) asked) is in
      let first = and_parts (not (is_from link packet.from)) (is_live t link) last.0 in
      of (opening_of t link) refl first.0 first.1 last.1
    where
      of : (opening : Option Opening) → opening_of t link ≡ opening → not (is_from link packet.from) ≡ true → is_live t link ≡ true
          → opening_wants opening named (is_submitted t packet.from) asked ≡ true → IsFor t packet link
      of None opened other lives by = absurd (true≢false (sym by))
      of (Some opening) opened other lives by = record { another = another_from link packet.from other; lives = lives; opening = opening; opened = opened; asks = wants_so opening.kind by }

  for_it : IsFor t packet link → wants t packet link ≡ true
  for_it is =
      and_from (not (is_from link packet.from) && is_live t link) (opening_wants (opening_of t link) named (is_submitted t packet.from) asked)
      (and_from (not (is_from link packet.from)) (is_live t link) (from_another link packet.from is.another) is.lives)
      (ap (λ opening. opening_wants opening named (is_submitted t packet.from) asked) is.opened ∙ so_wants is.opening.kind is.asks)

pub links_want_what_is_for_them : LinksWantWhatIsForThem
links_want_what_is_for_them t packet link = (is_for t packet link, for_it t packet link)

module _ (t : Trace) (from : Source) (link : ℕ) where
  dupe_is : (what : LinkKind) → is_dupe_of what ≡ true → what ≡ Client kind.Dupe
  dupe_is (Client kind.Dupe) is = refl
  dupe_is (Client other) is = absurd (true≢false (sym is))
  dupe_is (Uplink uplink) is = absurd (true≢false (sym is))

  shown_to : is_shown t from link ≡ true → IsShownTo t from link
  shown_to is =
      let last = and_parts (not (is_from link from) && is_live t link) (shows_duplicates (opening_of t link) (session_of t link)) is in
      let first = and_parts (not (is_from link from)) (is_live t link) last.0 in
      of (opening_of t link) refl first.0 first.1 last.1
    where
      of : (opening : Option Opening) → opening_of t link ≡ opening → not (is_from link from) ≡ true → is_live t link ≡ true → shows_duplicates opening (session_of t link) ≡ true → IsShownTo t from link
      of None opened other lives by = absurd (true≢false (sym by))
      of (Some opening) opened other lives by =
          let parts = and_parts (is_dupe_of opening.kind) (is_some (session_of t link)) by in
          record { another = another_from link from other; lives = lives; opening = opening; opened = opened; dupes = dupe_is opening.kind parts.0; named = parts.1 }

  to_shown : IsShownTo t from link → is_shown t from link ≡ true
  to_shown is =
      and_from (not (is_from link from) && is_live t link) (shows_duplicates (opening_of t link) (session_of t link))
      (and_from (not (is_from link from)) (is_live t link) (from_another link from is.another) is.lives)
      (ap (λ opening. shows_duplicates opening (session_of t link)) is.opened ∙ and_from (is_dupe_of is.opening.kind) (is_some (session_of t link)) (ap is_dupe_of is.dupes) is.named)

pub duplicates_are_shown : DuplicatesAreShown
duplicates_are_shown t from link = (shown_to t from link, to_shown t from link)
