-- Each entry of a trace, and what it changes of what there is to keep of the links.
use Rattle.std.proofs.Common.{◌≡◌, ℕ, ◌+◌, ◌-◌, ◌≤◌, ◌<◌, ◌==◌, Bool, true, false, not, ◌&&◌, ◌||◌, List, [], ◌∷◌, ◌++◌, length, map, refl, sym, ap, ◌∙◌, subst, arith, Option, Some, None, ⊎_elim, append-nil, length-append, length-drop, nat_lt, nat_le, is_some, drop, eq-eqb, min, if◌then◌else◌}
use Rattle.std.proofs.Math.Bool.{and-true}
use Rattle.std.proofs.lemmas.Bool.{true≢false, eqb-true, cases_Bool, leb-true, le-leb, lt-leb, ltb-true, ltb-false, false_from_ne_true, true_from_ne_false}
use Rattle.std.proofs.Math.Nat.{le-max_right}
use Rattle.std.proofs.Math.Seq.{drop-append-add}
use Rattle.std.proofs.lemmas.List.Concat.{flat_map-append}
use Rattle.std.proofs.lemmas.List.{map-append}
use Rattle.aprs_base.specs.PacketSeen.{PacketSeen}
use Rattle.filter_lang.specs.Terms.{TermSeen}
use Rattle.filter_eval.specs.Passes.{fresh, passes_of}
use Rattle.filter_eval.specs.declared.seen.Seen.{Seen}
use Rattle.station_table.specs.Stations.{seen_in}
use Rattle.aprs_history.specs.declared.verdicts.FilterAnswer.{FilterAnswer}
use Rattle.aprs_history.specs.declared.verdicts.FilterAnswer.TheVariants.{Active, Denied}
use Rattle.aprs_base.specs.Held.{held_after}
use Rattle.aprs_base.specs.declared.texts.Addr.{Addr}
use Rattle.std.specs.Option.{option_or}
use Rattle.aprs_base.specs.declared.cutting.Cut.{Cut}
use Rattle.aprs_base.specs.declared.cutting.Cut.TheVariants as cut
use Rattle.aprs_base.specs.declared.packets.PortKind.{PortKind}
use Rattle.aprs_base.specs.declared.packets.Parts.{Parts}
use Rattle.aprs_base.specs.declared.packets.Source.{Source}
use Rattle.aprs_base.specs.declared.packets.Source.TheVariants as source
use Rattle.aprs_history.specs.declared.verdicts.Session.{Session}
use Rattle.aprs_history.specs.declared.verdicts.LinkKind.{LinkKind}
use Rattle.aprs_history.specs.declared.verdicts.LinkKind.TheVariants.{Client, Uplink}
use Rattle.aprs_history.specs.declared.verdicts.Refusal.{Refusal}
use Rattle.aprs_history.specs.declared.verdicts.Refusal.TheVariants as refusal
use Rattle.aprs_history.specs.declared.verdicts.Verdict.{Verdict}
use Rattle.aprs_history.specs.declared.verdicts.Verdict.TheVariants.{PassedOver, Refused, LoggedIn, Filtered, Accepted}
use Rattle.aprs_history.specs.Dates.{comment_text}
use Rattle.aprs_history.specs.Downs.{DownSeen, asked_addr, asked_port, down_by, down_of, downs_in, is_at_line_start, link_down, may_be_down, most_downs, one_if, source_down}
use Rattle.aprs_history.specs.Setting.{Setting}
use Rattle.aprs_history.specs.Scenes.{accepted_of, packet_of}
use Rattle.heard_routing.specs.Heard.{is_among}
use Rattle.aprs_history.specs.Messages.{is_asked, is_owed, is_to_heard, is_to_login}
use Rattle.aprs_history.specs.Sights.{filter_passes, friend_in, friends_of, is_gate_at, login_in, own_place, sighting}
use Rattle.aprs_history.specs.declared.verdicts.Admission.{Admission}
use Rattle.aprs_history.specs.declared.verdicts.Admission.TheVariants.{Served}
use Rattle.aprs_history.specs.Trace.{is_from, is_member, last_moment, moment_of, Trace, Door, RoundBegan, Dated, Looked, Ticked, Opened, Brought, Said, Roomed, Took, Lost, Unjoined, is_live}
use Rattle.aprs_history.specs.Links.{Opening, brought_by, filter_after, filter_by, filter_of, is_client_link, is_client_of, is_submitted, taken_by, session_of, opening_of}
use Rattle.link_queue.specs.Lines.{Queued, queued, text_bytes, ended_line}
use Rattle.aprs_history.specs.Texts.{Text, TextLine, comment_line, first_line, is_shown, most_waiting, lines_of, opening_wants, plain, plain_line, refused_lines, relayed, reply_of, shown, shows_duplicates, text_to, waiting_lines, with_text_line, with_text_lines, wants, filter_reply, login_filter_reply, login_reply, refusal_reply, reply_lines}
use Rattle.aprs_history.specs.Stands.{LinkSeen, link_seen, TookNoMore, friends_kept, place_kept}
use Rattle.served_links.specs.Pending.{with_line, pending_bytes}
use Rattle.served_links.specs.declared.link.SourcePlace.{SourcePlace}
use Rattle.served_links.specs.Changes.{is_shown_at, passes_packet, wants_packet, at_link, at_moment, with_room, when_gone, with_taken, with_bytes, with_text, with_session, with_date, with_packet, with_places, with_shown, new_link_seen}
use Rattle.served_links.specs.Links.{picked_at}
use Rattle.server_core.specs.LinkSteps.{new_down, with_answer}
use Rattle.server_core.proofs.SightLemmas.{friends_later, login_later, places_kept, told_at}
use Rattle.served_links.proofs.OverLemmas.{over_unseen}

-- where a packet's source was last seen, whether it is a gate, and whether the packet was submitted here
abbrev pub source_in : Trace → Source → Parts → SourcePlace
source_in t from parts = record {
  place = sighting (accepted_of t) (moment_of t) parts.source;
  gate = is_gate_at (accepted_of t) (moment_of t) parts.source;
  submitted = is_submitted t from;
}

pub map_through : {X Y : Type 0} (f : X → Y) (g : Y → Y) (h : X → Y) → ((x : X) → f x ≡ g (h x)) → (xs : List X) → map f xs ≡ map g (map h xs)
map_through f g h same [] = refl
map_through f g h same (x ∷ xs) = rw (same x, map_through f g h same xs) refl

-- ---- lines that are partly taken

pub queued-more : (lines : List (List ℕ)) (taken n : ℕ) → queued lines (taken + n) ≡ queued (queued lines taken).lines ((queued lines taken).offset + n)
queued-more [] taken n = refl
queued-more (line ∷ lines) taken n =
    ⊎_elim
    (λ over.
    let le : length line + 2 ≤ taken = leb-true (length line + 2) taken over in
    let more : nat_le (length line + 2) (taken + n) ≡ true = le-leb (length line + 2) (taken + n) (omega arith) in
    let e : taken + n - (length line + 2) ≡ (taken - (length line + 2)) + n = omega arith in
    rw (over, more, e) (queued-more lines (taken - (length line + 2)) n))
    (λ under. rw under refl)
    (cases_Bool (nat_le (length line + 2) taken))

pub text_size : (line : List ℕ) (lines : List (List ℕ)) → length (text_bytes (line ∷ lines)) ≡ length line + 2 + length (text_bytes lines)
text_size line lines = length-append (ended_line line) (text_bytes lines) ∙ ap (λ n. n + length (text_bytes lines)) (length-append line (13 ∷ 10 ∷ []))

pub queued-push : (lines : List (List ℕ)) (line : List ℕ) (taken : ℕ) → taken ≤ length (text_bytes lines) → queued (lines ++ line ∷ []) taken ≡ with_line (queued lines taken) line
queued-push [] line taken le =
    let none : taken ≡ 0 = omega arith in
    let under : nat_le (length line + 2) taken ≡ false = lt-leb (length line + 2) taken (omega arith) in
    rw under refl
queued-push (first ∷ lines) line taken le =
    let size : length (text_bytes (first ∷ lines)) ≡ length first + 2 + length (text_bytes lines) = text_size first lines in
    ⊎_elim
    (λ over. rw over (queued-push lines line (taken - (length first + 2)) (omega arith)))
    (λ under. rw under refl)
    (cases_Bool (nat_le (length first + 2) taken))

-- the bytes that are still to be taken
pub queued-bytes : (lines : List (List ℕ)) (taken : ℕ) → taken ≤ length (text_bytes lines) → pending_bytes (queued lines taken) ≡ drop taken (text_bytes lines)
queued-bytes [] taken le = refl
queued-bytes (line ∷ lines) taken le =
    let size = text_size line lines in
    let ended : length (ended_line line) ≡ length line + 2 = length-append line (13 ∷ 10 ∷ []) in
    ⊎_elim
    (λ over.
    let at_least : length line + 2 ≤ taken = leb-true (length line + 2) taken over in
    let past : length (ended_line line) + (taken - (length line + 2)) ≡ taken = omega arith in
    rw over (queued-bytes lines (taken - (length line + 2)) (omega arith) ∙ sym (drop-append-add (ended_line line) (text_bytes lines) (taken - (length line + 2)))
    ∙ ap (λ n. drop n (text_bytes (line ∷ lines))) past))
    (λ under. rw under refl)
    (cases_Bool (nat_le (length line + 2) taken))

pub not_below : (a b : ℕ) → b ≤ a → nat_lt a b ≡ false
not_below a b le = false_from_ne_true _ (λ lt. let l : a < b = ltb-true a b lt in absurd (omega arith))

is_below : (a b : ℕ) → a < b → nat_lt a b ≡ true
is_below a b lt = true_from_ne_false _ (λ no_lt. let l : b ≤ a = ltb-false a b no_lt in absurd (omega arith))

-- something is left exactly where less than all is taken
pub left_over : (taken : ℕ) (text : List ℕ) → nat_lt 0 (length (drop taken text)) ≡ nat_lt taken (length text)
left_over taken text =
    let size = length-drop taken text in
    ⊎_elim
    (λ lt. let l : taken < length text = ltb-true taken (length text) lt in is_below 0 (length (drop taken text)) (omega arith) ∙ sym lt)
    (λ no_lt. let l : length text ≤ taken = ltb-false taken (length text) no_lt in not_below 0 (length (drop taken text)) (omega arith) ∙ sym no_lt)
    (cases_Bool (nat_lt taken (length text)))

-- a text with more lines is no shorter
pub text_more : (lines more : List (List ℕ)) (n : ℕ) → n ≤ length (text_bytes lines) → n ≤ length (text_bytes (lines ++ more))
text_more lines more n le =
    let split : length (text_bytes (lines ++ more)) ≡ length (text_bytes lines) + length (text_bytes more) =
    ap length (flat_map-append ended_line lines more) ∙ length-append (text_bytes lines) (text_bytes more) in
    omega arith

-- a text with a line more is no shorter, whether the line fits or not
text_grows : (taken : ℕ) (line : TextLine) (text : Text) (n : ℕ) → n ≤ length (text_bytes (plain text.lines)) → n ≤ length (text_bytes (plain (with_text_line taken line text).lines))
text_grows taken line text n le =
    ⊎_elim
    (λ (over : text.over ≡ true). rw over le)
    (λ (open' : text.over ≡ false).
    ⊎_elim
    (λ (full : (waiting_lines text taken == most_waiting) ≡ true). rw (open', full) le)
    (λ (room : (waiting_lines text taken == most_waiting) ≡ false). rw (open', room) (subst (λ lines. n ≤ length (text_bytes lines)) (sym (map-append plain_line text.lines (line ∷ []))) (text_more (plain text.lines) (line.line ∷ []) n le)))
    (cases_Bool (waiting_lines text taken == most_waiting)))
    (cases_Bool text.over)

pub texts_grow : (taken : ℕ) (lines : List TextLine) (text : Text) (n : ℕ) → n ≤ length (text_bytes (plain text.lines)) → n ≤ length (text_bytes (plain (with_text_lines taken lines text).lines))
texts_grow taken [] text n le = le
texts_grow taken (line ∷ lines) text n le = texts_grow taken lines (with_text_line taken line text) n (text_grows taken line text n le)

-- what a line may change of what there is to keep of a link, where so many bytes of its text are taken
abbrev keeping : LinkSeen → List PacketSeen → ℕ → Option Session → List TermSeen → Text → ℕ → LinkSeen
keeping base accepted now session terms text taken = record base {
  session = session;
  filter = terms;
  friends = friends_kept text.over (map (friend_in accepted now) terms);
  mine = place_kept text.over (login_in accepted now session);
  queue = queued (plain text.lines) taken;
  over = text.over;
}

-- a link that keeps up with its text, as it is seen where it isn't overfull
abbrev open_keeping : LinkSeen → List PacketSeen → ℕ → Option Session → List TermSeen → Queued → LinkSeen
open_keeping base accepted now session terms queue = record base {
  session = session;
  filter = terms;
  friends = map (friend_in accepted now) terms;
  mine = login_in accepted now session;
  queue = queue;
  over = false;
}

-- a line more in a text is a line more in the queue
queue_grows : (base : LinkSeen) (accepted : List PacketSeen) (now : ℕ) (session : Option Session) (terms : List TermSeen) (text : Text) (taken : ℕ) → taken ≤ length (text_bytes (plain text.lines)) → (line : TextLine)
    → keeping base accepted now session terms (with_text_line taken line text) taken ≡ with_text line.line (keeping base accepted now session terms text taken)
unfolding with_text
queue_grows base accepted now session terms text taken le line =
    ⊎_elim
    (λ (over : text.over ≡ true). rw over refl)
    (λ (open' : text.over ≡ false).
    ⊎_elim
    (λ (full : (waiting_lines text taken == most_waiting) ≡ true). rw (open', full) refl)
    (λ (room : (waiting_lines text taken == most_waiting) ≡ false). rw (open', room)
    (ap (λ lines. open_keeping base accepted now session terms (queued lines taken)) (map-append plain_line text.lines (line ∷ []))
    ∙ ap (open_keeping base accepted now session terms) (queued-push (plain text.lines) line.line taken le)))
    (cases_Bool (waiting_lines text taken == most_waiting)))
    (cases_Bool text.over)

-- what a login with an answer changes
abbrev pub with_login : List PacketSeen → ℕ → Session → Option DownSeen → List ℕ → Option FilterAnswer → LinkSeen → LinkSeen
with_login accepted now session down reply None link = with_session session down (sighting accepted now session.call) reply link
with_login accepted now session down reply (Some answer) link =
    with_answer (friend_in accepted now) answer (with_session session down (sighting accepted now session.call) reply link)

-- a line more leaves a link's number, login and filter
pub text_number : (line : List ℕ) (link : LinkSeen) → (with_text line link).link ≡ link.link
unfolding with_text
text_number line link =
    ⊎_elim
    (λ (over : link.over ≡ true). rw over refl)
    (λ (open' : link.over ≡ false). ⊎_elim (λ (full : (length link.queue.lines == most_waiting) ≡ true). rw (open', full) refl) (λ (room : (length link.queue.lines == most_waiting) ≡ false). rw (open', room) refl) (cases_Bool (length link.queue.lines == most_waiting)))
    (cases_Bool link.over)

-- another filter and a line more, in either order
filter_then_text : (terms : List TermSeen) (friends : List (Option Seen)) (line : List ℕ) (link : LinkSeen)
    → record (with_text line link) { filter = terms; friends = friends_kept (with_text line link).over friends }
    ≡ with_text line (record link { filter = terms; friends = friends_kept link.over friends })
unfolding with_text
filter_then_text terms friends line link =
    ⊎_elim
    (λ (over : link.over ≡ true). rw over refl)
    (λ (open' : link.over ≡ false). ⊎_elim (λ (full : (length link.queue.lines == most_waiting) ≡ true). rw (open', full) refl) (λ (room : (length link.queue.lines == most_waiting) ≡ false). rw (open', room) refl) (cases_Bool (length link.queue.lines == most_waiting)))
    (cases_Bool link.over)

-- what a packet tells of places
places_shape : (base : LinkSeen) (accepted : List PacketSeen) (now : ℕ) (session : Option Session) (terms : List TermSeen) (text : Text) (taken : ℕ) (packet : PacketSeen) → packet.moment ≡ now
    → keeping base (accepted ++ packet ∷ []) now session terms text taken ≡ with_places packet (keeping base accepted now session terms text taken)
places_shape base accepted now session terms text taken packet at =
    let kept = keeping base accepted now session terms text taken in
    let with_kept : Bool → List (Option Seen) → Option Seen → LinkSeen = λ over friends mine. record kept { friends = friends_kept over friends; mine = place_kept over mine } in
    let friends = map (friend_in (accepted ++ packet ∷ []) now) terms in
    let mine = login_in (accepted ++ packet ∷ []) now session in
    ⊎_elim
    (λ (over : text.over ≡ true).
    ap (λ b. with_kept b friends mine) over ∙ sym (ap (λ b. with_kept b (map (friend_in accepted now) terms) (login_in accepted now session)) over)
    ∙ over_unseen packet.parts.source (seen_in packet) kept over)
    (λ (open' : text.over ≡ false).
    ap (λ b. with_kept b friends mine) open'
    ∙ places_kept accepted now packet (seen_in packet) refl (λ seen is. told_at packet seen is ∙ at) kept open'
    (ap (λ b. friends_kept b (map (friend_in accepted now) terms)) open') (ap (λ b. place_kept b (login_in accepted now session)) open'))
    (cases_Bool text.over)

module _ (base : LinkSeen) (accepted : List PacketSeen) (now : ℕ) (session : Option Session) (terms : List TermSeen) (text : Text) (taken : ℕ) where
  abbrev kept : LinkSeen
  kept = keeping base accepted now session terms text taken

  -- no line
  passed_shape : (own : Bool) → keeping base (accepted ++ []) now (if own then session else session) (if own then terms else terms) text taken ≡ kept
  passed_shape true = ap (λ packets. keeping base packets now session terms text taken) (append-nil accepted)
  passed_shape false = ap (λ packets. keeping base packets now session terms text taken) (append-nil accepted)

  quiet_shape : (own : Bool)
      → keeping base (accepted ++ []) now (if own then session else session) (if own then terms else terms) (with_text_lines taken (if own then [] else []) text) taken ≡ kept
  quiet_shape true = passed_shape true
  quiet_shape false = passed_shape false

  module _ (le : taken ≤ length (text_bytes (plain text.lines))) where
    -- a reply
    reply_shape : (line : List ℕ) (own : Bool)
        → keeping base (accepted ++ []) now (if own then session else session) (if own then terms else terms) (with_text_lines taken (if own then reply_of line ∷ [] else []) text) taken
        ≡ (if own then with_text line kept else kept)
    reply_shape line true =
        ap (λ packets. keeping base packets now session terms (with_text_line taken (reply_of line) text) taken) (append-nil accepted)
        ∙ queue_grows base accepted now session terms text taken le (reply_of line)
    reply_shape line false = passed_shape false

    -- an answer to a filter
    answer_shape : (answer : FilterAnswer) (own : Bool)
        → keeping base (accepted ++ []) now (if own then session else session) (if own then filter_by answer terms else terms) (with_text_lines taken (if own then reply_of (filter_reply answer) ∷ [] else []) text) taken
        ≡ (if own then with_answer (friend_in accepted now) answer kept else kept)
    answer_shape (Active others reply) true =
        ap (λ packets. keeping base packets now session others (with_text_line taken (reply_of reply) text) taken) (append-nil accepted)
        ∙ queue_grows base accepted now session others text taken le (reply_of reply)
    answer_shape (Denied why) true = reply_shape (filter_reply (Denied why)) true
    answer_shape answer false = passed_shape false

    -- a login, perhaps with a filter
    login_shape : (new : Session) (down : Option DownSeen) (reply : List ℕ) (answer : Option FilterAnswer) (own : Bool)
        → keeping (record base { down = if own then option_or down base.down else base.down }) (accepted ++ []) now (if own then Some new else session) (if own then filter_after (LoggedIn new answer) terms else terms)
        (with_text_lines taken (if own then reply_of reply ∷ login_filter_reply answer else []) text) taken
        ≡ (if own then with_login accepted now new down reply answer kept else kept)
    login_shape new down reply None true =
        let base = record base { down = option_or down base.down } in
        ap (λ packets. keeping base packets now (Some new) terms (with_text_line taken (reply_of reply) text) taken) (append-nil accepted)
        ∙ queue_grows base accepted now (Some new) terms text taken le (reply_of reply)
    login_shape new down reply (Some (Active others line)) true =
        let base = record base { down = option_or down base.down } in
        let told = with_text_line taken (reply_of reply) text in
        ap (λ packets. keeping base packets now (Some new) others (with_text_line taken (reply_of line) told) taken) (append-nil accepted)
        ∙ queue_grows base accepted now (Some new) others told taken (text_grows taken (reply_of reply) text taken le) (reply_of line)
        ∙ ap (with_text line) (queue_grows base accepted now (Some new) others text taken le (reply_of reply)
        ∙ sym (filter_then_text others (map (friend_in accepted now) others) reply (keeping base accepted now (Some new) terms text taken)))
    login_shape new down reply (Some (Denied why)) true =
        let base = record base { down = option_or down base.down } in
        let line = filter_reply (Denied why) in
        let told = with_text_line taken (reply_of reply) text in
        ap (λ packets. keeping base packets now (Some new) terms (with_text_line taken (reply_of line) told) taken) (append-nil accepted)
        ∙ queue_grows base accepted now (Some new) terms told taken (text_grows taken (reply_of reply) text taken le) (reply_of line)
        ∙ ap (with_text line) (queue_grows base accepted now (Some new) terms text taken le (reply_of reply))
    login_shape new down reply answer false = passed_shape false

    -- a packet that a link takes
    wanted_shape : (packet : PacketSeen) → packet.moment ≡ now
        → keeping base (accepted ++ packet ∷ []) now session terms (with_text_line taken (relayed packet) text) taken ≡ with_places packet (with_text packet.line kept)
    wanted_shape packet at =
        places_shape base accepted now session terms (with_text_line taken (relayed packet) text) taken packet at
        ∙ ap (with_places packet) (queue_grows base accepted now session terms text taken le (relayed packet))

    -- a duplicate that is refused, which the link is shown or not
    shown_shape : (packet : PacketSeen) (own showing : Bool)
        → keeping base (accepted ++ []) now (if own then session else session) (if own then terms else terms) (with_text_lines taken (if showing then shown packet ∷ [] else []) text) taken
        ≡ (if showing then with_text packet.line kept else kept)
    shown_shape packet true true =
        ap (λ packets. keeping base packets now session terms (with_text_line taken (shown packet) text) taken) (append-nil accepted)
        ∙ queue_grows base accepted now session terms text taken le (shown packet)
    shown_shape packet false true =
        ap (λ packets. keeping base packets now session terms (with_text_line taken (shown packet) text) taken) (append-nil accepted)
        ∙ queue_grows base accepted now session terms text taken le (shown packet)
    shown_shape packet true false = passed_shape true
    shown_shape packet false false = passed_shape false

    -- a packet, which the link wants or not
    packet_shape : (packet : PacketSeen) (own wanted : Bool) → packet.moment ≡ now
        → keeping base (accepted ++ packet ∷ []) now (if own then session else session) (if own then terms else terms) (with_text_lines taken (if wanted then relayed packet ∷ [] else []) text) taken
        ≡ with_places packet (if wanted then with_text packet.line kept else kept)
    packet_shape packet true true at = wanted_shape packet at
    packet_shape packet false true at = wanted_shape packet at
    packet_shape packet true false at = places_shape base accepted now session terms text taken packet at
    packet_shape packet false false at = places_shape base accepted now session terms text taken packet at

-- ---- downlinks

abbrev pub asks : Verdict → Bool
asks (LoggedIn session answer) = true
asks verdict = false

-- nothing but a login asks for a port
no_port : (cut : Cut) (verdict : Verdict) → asks verdict ≡ false → asked_port cut verdict ≡ None
no_port cut.Long verdict quiet = refl
no_port (cut.Line line) (LoggedIn session answer) quiet = absurd (true≢false quiet)
no_port (cut.Line line) PassedOver quiet = refl
no_port (cut.Line line) (Refused why) quiet = refl
no_port (cut.Line line) (Filtered answer) quiet = refl
no_port (cut.Line line) (Accepted parts text) quiet = refl

either_way : {X : Type 0} (b : Bool) (x : X) → (if b then x else x) ≡ x
either_way true x = refl
either_way false x = refl

asks_nothing : (downs : List PortKind) (opening : Option Opening) → asked_addr downs opening None ≡ None
asks_nothing downs None = refl
asks_nothing downs (Some opening) = either_way (may_be_down downs opening.kind) None

down_or : (number : ℕ) (asked : Option Addr) (before : Option DownSeen) → down_by number asked before ≡ option_or (new_down number asked) before
down_or number None before = refl
down_or number (Some to) before = refl

-- ---- what there is to keep of each link, one entry later

module _ (s : Setting) where
  pub seen-number : (t : Trace) (k : ℕ) → (link_seen s t k).link ≡ k
  unfolding link_seen
  seen-number t k = refl

  pub roomed_seen : (t : Trace) (k j : ℕ) → link_seen s (Roomed k ∷ t) j ≡ at_link k with_room (link_seen s t j)
  unfolding link_seen
  roomed_seen t k j = ⊎_elim (λ here. rw here refl) (λ other. rw other refl) (cases_Bool (j == k))

  pub lost_seen : (t : Trace) (k j : ℕ) → link_seen s (Lost k ∷ t) j ≡ at_link k when_gone (link_seen s t j)
  unfolding link_seen
  lost_seen t k j = ⊎_elim (λ here. rw here refl) (λ other. rw other refl) (cases_Bool (j == k))

  pub took_seen : (t : Trace) (k offered n j : ℕ) → link_seen s (Took k offered n ∷ t) j ≡ at_link k (with_taken offered n) (link_seen s t j)
  unfolding link_seen
  took_seen t k offered n j =
      ⊎_elim (λ here. rw here (ap (λ (q : Queued). record (link_seen s t j) { queue = q; blocked = nat_lt n offered }) (queued-more (lines_of s t j) (taken_by t j) n))) (λ other. rw other refl) (cases_Bool (j == k))

  pub brought_seen : (t : Trace) (k : ℕ) (bytes : List ℕ) (j : ℕ) → link_seen s (Brought k bytes ∷ t) j ≡ at_link k (with_bytes (moment_of t) (held_after (brought_by t k ++ bytes))) (link_seen s t j)
  unfolding link_seen
  brought_seen t k bytes j =
      ⊎_elim
      (λ here. let same : j ≡ k = eqb-true j k here in rw here (ap (λ i. record (link_seen s t j) { last = moment_of t; held = held_after (brought_by t i ++ bytes) }) same))
      (λ other. rw other refl) (cases_Bool (j == k))

  -- time goes on
  fresh_friends_kept : (now : ℕ) (over : Bool) (friends : List (Option Seen)) → map (fresh now) (friends_kept over friends) ≡ friends_kept over (map (fresh now) friends)
  fresh_friends_kept now true friends = refl
  fresh_friends_kept now false friends = refl

  fresh_place_kept : (now : ℕ) (over : Bool) (place : Option Seen) → fresh now (place_kept over place) ≡ place_kept over (fresh now place)
  fresh_place_kept now true place = refl
  fresh_place_kept now false place = refl

  pub ticked_seen : (t : Trace) (m j : ℕ) → link_seen s (Ticked m ∷ t) j ≡ at_moment (moment_of (Ticked m ∷ t)) (link_seen s t j)
  unfolding link_seen
  ticked_seen t m j =
      let later : moment_of t ≤ moment_of (Ticked m ∷ t) = le-max_right (min m last_moment) (moment_of t) in
      let over = (text_to s t j).over in
      ap (λ friends. record (link_seen s t j) { friends = friends; mine = place_kept over (own_place (Ticked m ∷ t) j) })
      (sym (fresh_friends_kept (moment_of (Ticked m ∷ t)) over (friends_of t j) ∙ ap (friends_kept over) (friends_later (accepted_of t) (moment_of t) (moment_of (Ticked m ∷ t)) later (filter_of t j))))
      ∙ ap (λ place. record (link_seen s t j) { friends = map (fresh (moment_of (Ticked m ∷ t))) (friends_kept over (friends_of t j)); mine = place })
      (sym (fresh_place_kept (moment_of (Ticked m ∷ t)) over (own_place t j) ∙ ap (place_kept over) (login_later (accepted_of t) (moment_of t) (moment_of (Ticked m ∷ t)) later (session_of t j))))

  pub stayed_seen : (t : Trace) (m j : ℕ) → moment_of (Ticked m ∷ t) ≡ moment_of t → link_seen s (Ticked m ∷ t) j ≡ link_seen s t j
  unfolding link_seen
  stayed_seen t m j same = ap (λ now. record (link_seen s t j) {
    friends = friends_kept (text_to s t j).over (map (friend_in (accepted_of t) now) (filter_of t j));
    mine = place_kept (text_to s t j).over (login_in (accepted_of t) now (session_of t j));
  }) same

  -- where a line is no login, no link becomes a downlink
  unasked_down : (t : Trace) (from : Source) (cut : Cut) (verdict : Verdict) → asks verdict ≡ false → source_down s t (downs_in s t) from (asked_port cut verdict) ≡ None
  unasked_down t (source.Link k) cut verdict quiet =
      let free = nat_lt (downs_in s t) most_downs && is_at_line_start s t k in
      ap (link_down s t (downs_in s t) k) (no_port cut verdict quiet) ∙ ap (asked_addr s.downs (opening_of t k)) (either_way free None) ∙ asks_nothing s.downs (opening_of t k)
  unasked_down t from cut verdict quiet = refl

  quiet_down : (t : Trace) (from : Source) (cut : Cut) (verdict : Verdict) (j : ℕ) → asks verdict ≡ false → down_of s (Said from cut verdict ∷ t) j ≡ down_of s t j
  quiet_down t from cut verdict j quiet =
      ap (λ asked. if is_from j from then down_by (downs_in s t) asked (down_of s t j) else down_of s t j) (unasked_down t from cut verdict quiet) ∙ either_way (is_from j from) (down_of s t j)

  pub quiet_downs : (t : Trace) (from : Source) (cut : Cut) (verdict : Verdict) → asks verdict ≡ false → downs_in s (Said from cut verdict ∷ t) ≡ downs_in s t
  quiet_downs t from cut verdict quiet =
      let before = downs_in s t in
      let same : before + 0 ≡ before = omega arith in
      ap (λ asked. before + one_if asked) (unasked_down t from cut verdict quiet) ∙ same

  -- a line that is refused without a reply, and one with a reply
  pub refused_seen : (t : Trace) (from : Source) (cut : Cut) (why : Refusal) (j : ℕ) → refused_lines t from why j ≡ (if is_from j from then reply_lines (refusal_reply why) else []) → None ≡ refusal_reply why
      → link_seen s (Said from cut (Refused why) ∷ t) j ≡ link_seen s t j
  unfolding link_seen
  refused_seen t from cut why j plain none =
      let base = link_seen s t j in
      ap (λ down. record (link_seen s (Said from cut (Refused why) ∷ t) j) { down = down }) (quiet_down t from cut (Refused why) j refl)
      ∙ ap (λ lines. keeping base (accepted_of t ++ []) (moment_of t) (if is_from j from then session_of t j else session_of t j) (if is_from j from then filter_of t j else filter_of t j)
      (with_text_lines (taken_by t j) lines (text_to s t j)) (taken_by t j)) (plain ∙ ap (λ reply. if is_from j from then reply_lines reply else []) (sym none))
      ∙ quiet_shape base (accepted_of t) (moment_of t) (session_of t j) (filter_of t j) (text_to s t j) (taken_by t j) (is_from j from)

  pub replied_seen : (t : Trace) → TookNoMore s t → (from : Source) (cut : Cut) (why : Refusal) (line : List ℕ) (j : ℕ)
      → refused_lines t from why j ≡ (if is_from j from then reply_lines (refusal_reply why) else []) → Some line ≡ refusal_reply why
      → link_seen s (Said from cut (Refused why) ∷ t) j ≡ (if is_from j from then with_text line (link_seen s t j) else link_seen s t j)
  unfolding link_seen
  replied_seen t took from cut why line j plain some =
      let base = link_seen s t j in
      ap (λ down. record (link_seen s (Said from cut (Refused why) ∷ t) j) { down = down }) (quiet_down t from cut (Refused why) j refl)
      ∙ ap (λ lines. keeping base (accepted_of t ++ []) (moment_of t) (if is_from j from then session_of t j else session_of t j) (if is_from j from then filter_of t j else filter_of t j)
      (with_text_lines (taken_by t j) lines (text_to s t j)) (taken_by t j)) (plain ∙ ap (λ reply. if is_from j from then reply_lines reply else []) (sym some))
      ∙ reply_shape base (accepted_of t) (moment_of t) (session_of t j) (filter_of t j) (text_to s t j) (taken_by t j) (took j) line (is_from j from)

  -- a duplicate, at a link that lives
  pub shows_seen : (t : Trace) (from : Source) (j : ℕ) → is_live t j ≡ true → is_shown t from j ≡ is_shown_at from (link_seen s t j)
  unfolding link_seen
  shows_seen t from j live =
      let shows = shows_duplicates (opening_of t j) (session_of t j) in
      ap (λ b. not (is_from j from) && b && shows) live ∙ ap (λ b. b && shows) (and-true (not (is_from j from)))

  pub shown_seen : (t : Trace) → TookNoMore s t → (from : Source) (cut : Cut) (parts : Parts) (line : List ℕ) (j : ℕ) → is_live t j ≡ true
      → link_seen s (Said from cut (Refused (refusal.Duplicate parts line)) ∷ t) j ≡ with_shown from line (link_seen s t j)
  unfolding link_seen
  shown_seen t took from cut parts line j live =
      let base = link_seen s t j in
      let packet = packet_of from (moment_of t) parts line in
      let shows = shows_duplicates (opening_of t j) (session_of t j) in
      let refused = Refused (refusal.Duplicate parts line) in
      ap (λ down. record (link_seen s (Said from cut refused ∷ t) j) { down = down }) (quiet_down t from cut refused j refl)
      ∙ ap (λ b. keeping base (accepted_of t ++ []) (moment_of t) (if is_from j from then session_of t j else session_of t j) (if is_from j from then filter_of t j else filter_of t j)
      (with_text_lines (taken_by t j) (if b then shown packet ∷ [] else []) (text_to s t j)) (taken_by t j)) (shows_seen t from j live)
      ∙ shown_shape base (accepted_of t) (moment_of t) (session_of t j) (filter_of t j) (text_to s t j) (taken_by t j) (took j) packet (is_from j from) (not (is_from j from) && shows)

  pub passed_seen : (t : Trace) (from : Source) (cut : Cut) (j : ℕ) → link_seen s (Said from cut PassedOver ∷ t) j ≡ link_seen s t j
  unfolding link_seen
  passed_seen t from cut j =
      ap (λ down. record (link_seen s (Said from cut PassedOver ∷ t) j) { down = down }) (quiet_down t from cut PassedOver j refl)
      ∙ passed_shape (link_seen s t j) (accepted_of t) (moment_of t) (session_of t j) (filter_of t j) (text_to s t j) (taken_by t j) (is_from j from)

  pub answered_seen : (t : Trace) → TookNoMore s t → (from : Source) (cut : Cut) (answer : FilterAnswer) (j : ℕ)
      → link_seen s (Said from cut (Filtered answer) ∷ t) j ≡ (if is_from j from then with_answer (friend_in (accepted_of t) (moment_of t)) answer (link_seen s t j) else link_seen s t j)
  unfolding link_seen
  answered_seen t took from cut answer j =
      ap (λ down. record (link_seen s (Said from cut (Filtered answer) ∷ t) j) { down = down }) (quiet_down t from cut (Filtered answer) j refl)
      ∙ answer_shape (link_seen s t j) (accepted_of t) (moment_of t) (session_of t j) (filter_of t j) (text_to s t j) (taken_by t j) (took j) answer (is_from j from)

  -- the downlink that a link becomes by what is said
  abbrev pub down_said : Trace → Source → Cut → Verdict → Option DownSeen
  down_said t from cut verdict = new_down (downs_in s t) (source_down s t (downs_in s t) from (asked_port cut verdict))

  pub login_seen : (t : Trace) → TookNoMore s t → (from : Source) (cut : Cut) (session : Session) (answer : Option FilterAnswer) (j : ℕ)
      → link_seen s (Said from cut (LoggedIn session answer) ∷ t) j
      ≡ (if is_from j from then with_login (accepted_of t) (moment_of t) session (down_said t from cut (LoggedIn session answer)) (login_reply s.server session) answer (link_seen s t j) else link_seen s t j)
  unfolding link_seen
  login_seen t took from cut session answer j =
      let said = LoggedIn session answer in
      let asked = source_down s t (downs_in s t) from (asked_port cut said) in
      ap (λ down. record (link_seen s (Said from cut said ∷ t) j) { down = if is_from j from then down else down_of s t j }) (down_or (downs_in s t) asked (down_of s t j))
      ∙ login_shape (link_seen s t j) (accepted_of t) (moment_of t) (session_of t j) (filter_of t j) (text_to s t j) (taken_by t j) (took j) session (down_said t from cut said) (login_reply s.server session) answer (is_from j from)

  -- the message rule says nothing of uplinks
  unasked_same : (opening : Option Opening) (named submitted x y : Bool) → is_client_link opening ≡ false → opening_wants opening named submitted x ≡ opening_wants opening named submitted y
  unasked_same None named submitted x y uplink = refl
  unasked_same (Some opening) named submitted x y uplink = by opening.kind refl
    where
      by : (kind : LinkKind) → opening.kind ≡ kind → opening_wants (Some opening) named submitted x ≡ opening_wants (Some opening) named submitted y
      by (Client port) is = absurd (true≢false (ap is_client_of (sym is) ∙ uplink))
      by (Uplink number) is = rw is refl

  -- an accepted packet, at a link that lives
  wants_seen : (t : Trace) (from : Source) (parts : Parts) (line : List ℕ) (hearers owed : List ℕ) (j : ℕ) → is_live t j ≡ true → (text_to s t j).over ≡ false
      → (is_client_link (opening_of t j) ≡ true → is_among j hearers ≡ is_to_heard t (packet_of from (moment_of t) parts line) j) → is_among j owed ≡ is_owed t (packet_of from (moment_of t) parts line) j
      → wants t (packet_of from (moment_of t) parts line) j ≡ wants_packet (packet_of from (moment_of t) parts line) (source_in t from parts) hearers owed (link_seen s t j)
  unfolding link_seen
  wants_seen t from parts line hearers owed j live open' heard due =
      let packet = packet_of from (moment_of t) parts line in
      let source = source_in t from parts in
      let asked_for = is_to_login packet (session_of t j) || is_among j hearers || is_among j owed in
      let passes : filter_passes t packet j ≡ passes_packet packet source (link_seen s t j) =
      sym (ap (λ over. passes_of (filter_of t j) packet (friends_kept over (friends_of t j)) (place_kept over (own_place t j)) source.place source.gate) open') in
      let known = ap (λ b. not (is_from j from) && opening_wants (opening_of t j) (is_some (session_of t j)) (is_submitted t from) (b || asked_for)) passes in
      let wanted : Bool → Bool = λ asked. opening_wants (opening_of t j) (is_some (session_of t j)) (is_submitted t from) (filter_passes t packet j || asked) in
      let asked : Bool → Bool → Bool = λ by_hearing by_courtesy. not (is_from j from) && wanted (is_to_login packet (session_of t j) || by_hearing || by_courtesy) in
      let lives : wants t packet j ≡ asked (is_to_heard t packet j) (is_owed t packet j) =
      ap (λ b. not (is_from j from) && b && wanted (is_asked t packet j)) live ∙ ap (λ b. b && wanted (is_asked t packet j)) (and-true (not (is_from j from))) in
      ⊎_elim
      (λ client. lives ∙ ap (λ b. asked b (is_owed t packet j)) (sym (heard client)) ∙ ap (asked (is_among j hearers)) (sym due) ∙ known)
      (λ uplink. lives ∙ ap (λ b. not (is_from j from) && b) (unasked_same (opening_of t j) (is_some (session_of t j)) (is_submitted t from)
      (filter_passes t packet j || (is_to_login packet (session_of t j) || is_to_heard t packet j || is_owed t packet j))
      (filter_passes t packet j || (is_to_login packet (session_of t j) || is_among j hearers || is_among j owed)) uplink) ∙ known)
      (cases_Bool (is_client_link (opening_of t j)))

  -- a text that is overfull takes no line, wanted or not
  untaken_lines : (taken : ℕ) (line : TextLine) (text : Text) (wanted : Bool) → text.over ≡ true → with_text_lines taken (if wanted then line ∷ [] else []) text ≡ text
  untaken_lines taken line text true over = rw over refl
  untaken_lines taken line text false over = refl

  -- the text that a link has after a packet
  pub copies_seen : (t : Trace) (from : Source) (parts : Parts) (line : List ℕ) (hearers owed : List ℕ) (j : ℕ) → is_live t j ≡ true
      → (is_client_link (opening_of t j) ≡ true → is_among j hearers ≡ is_to_heard t (packet_of from (moment_of t) parts line) j) → is_among j owed ≡ is_owed t (packet_of from (moment_of t) parts line) j
      → (added : TextLine)
      → with_text_lines (taken_by t j) (if wants t (packet_of from (moment_of t) parts line) j then added ∷ [] else []) (text_to s t j)
      ≡ with_text_lines (taken_by t j) (if wants_packet (packet_of from (moment_of t) parts line) (source_in t from parts) hearers owed (link_seen s t j) then added ∷ [] else []) (text_to s t j)
  copies_seen t from parts line hearers owed j live heard due added =
      let packet = packet_of from (moment_of t) parts line in
      ⊎_elim
      (λ (over : (text_to s t j).over ≡ true). untaken_lines (taken_by t j) added (text_to s t j) (wants t packet j) over
      ∙ sym (untaken_lines (taken_by t j) added (text_to s t j) (wants_packet packet (source_in t from parts) hearers owed (link_seen s t j)) over))
      (λ (open' : (text_to s t j).over ≡ false). ap (λ b. with_text_lines (taken_by t j) (if b then added ∷ [] else []) (text_to s t j)) (wants_seen t from parts line hearers owed j live open' heard due))
      (cases_Bool (text_to s t j).over)

  pub accepted_seen : (t : Trace) → TookNoMore s t → (from : Source) (cut : Cut) (parts : Parts) (line : List ℕ) (hearers owed : List ℕ) (j : ℕ) → is_live t j ≡ true
      → (is_client_link (opening_of t j) ≡ true → is_among j hearers ≡ is_to_heard t (packet_of from (moment_of t) parts line) j) → is_among j owed ≡ is_owed t (packet_of from (moment_of t) parts line) j
      → link_seen s (Said from cut (Accepted parts line) ∷ t) j ≡ with_packet (packet_of from (moment_of t) parts line) (source_in t from parts) hearers owed (link_seen s t j)
  unfolding link_seen
  accepted_seen t took from cut parts line hearers owed j live heard due =
      let base = link_seen s t j in
      let packet = packet_of from (moment_of t) parts line in
      let asked = wants_packet packet (source_in t from parts) hearers owed base in
      ap (λ down. record (link_seen s (Said from cut (Accepted parts line) ∷ t) j) { down = down }) (quiet_down t from cut (Accepted parts line) j refl)
      ∙ ap (λ text. keeping base (accepted_of t ++ packet ∷ []) (moment_of t) (if is_from j from then session_of t j else session_of t j) (if is_from j from then filter_of t j else filter_of t j)
      text (taken_by t j)) (copies_seen t from parts line hearers owed j live heard due (relayed packet))
      ∙ packet_shape base (accepted_of t) (moment_of t) (session_of t j) (filter_of t j) (text_to s t j) (taken_by t j) (took j) packet (is_from j from) asked refl

  -- a round begins
  pub round_seen : (t : Trace) (j : ℕ) → link_seen s (RoundBegan ∷ t) j ≡ link_seen s t j
  unfolding link_seen
  round_seen t j = refl

  -- a client that lives is told the date
  pub dated_seen : (t : Trace) → TookNoMore s t → (moment j : ℕ) → is_live t j ≡ true → link_seen s (Dated moment ∷ t) j ≡ with_date (comment_text s.server moment) (link_seen s t j)
  unfolding link_seen
  dated_seen t took moment j live = by (is_client_link (opening_of t j)) refl
    where
      by : (b : Bool) → is_client_link (opening_of t j) ≡ b → link_seen s (Dated moment ∷ t) j ≡ with_date (comment_text s.server moment) (link_seen s t j)
      by true is = rw (live, is) (queue_grows (link_seen s t j) (accepted_of t) (moment_of t) (session_of t j) (filter_of t j) (text_to s t j) (taken_by t j) (took j) (comment_line s.server moment))
      by false is = rw (live, is) refl

  pub opened_seen : (t : Trace) (door : Door) (admission : Admission) (k : ℕ) (from : Addr) (j : ℕ) → (j == k) ≡ false → link_seen s (Opened door admission k from ∷ t) j ≡ link_seen s t j
  unfolding link_seen
  opened_seen t door admission k from j other = rw other refl

  pub new_seen : (t : Trace) (door : Door) (kind : LinkKind) (k : ℕ) (from : Addr)
      → link_seen s (Opened door (Served kind) k from ∷ t) k ≡ new_link_seen k (record { kind = kind; from = from; moment = moment_of t }) (first_line s kind).line
  unfolding link_seen
  new_seen t door kind k from =
      let same : (k == k) ≡ true = eq-eqb k k refl in
      let line = (first_line s kind).line in
      let begun : nat_le (length line + 2) 0 ≡ false = lt-leb (length line + 2) 0 (omega arith) in
      rw (same, begun) refl

  -- what has nothing to do with links
  pub looked_seen : (t : Trace) (j : ℕ) → link_seen s (Looked ∷ t) j ≡ link_seen s t j
  unfolding link_seen
  looked_seen t j = refl

  pub unjoined_seen : (t : Trace) (uplink j : ℕ) → link_seen s (Unjoined uplink ∷ t) j ≡ link_seen s t j
  unfolding link_seen
  unjoined_seen t uplink j = refl

-- what is picked of a link that lives is what there is to keep of it
pub picked_seen : {X : Type 0} (pick : LinkSeen → X) (none : X) (s : Setting) (t : Trace) (number : ℕ) (ks : List ℕ) → is_member number ks ≡ true
    → picked_at pick none number (map (link_seen s t) ks) ≡ pick (link_seen s t number)
unfolding link_seen
picked_seen pick none s t number [] member = absurd (true≢false (sym member))
picked_seen pick none s t number (k ∷ ks) member =
    let rest = picked_at pick none number (map (link_seen s t) ks) in
    ⊎_elim
    (λ here. ap (λ b. if b then pick (link_seen s t k) else rest) here ∙ ap (λ n. pick (link_seen s t n)) (eqb-true k number here))
    (λ other. ap (λ b. if b then pick (link_seen s t k) else rest) other
    ∙ picked_seen pick none s t number ks (sym (ap (λ b. b || is_member number ks) other) ∙ member))
    (cases_Bool (k == number))

-- what is picked of a link that doesn't live
pub picked_missing : {X : Type 0} (pick : LinkSeen → X) (none : X) (s : Setting) (t : Trace) (number : ℕ) (ks : List ℕ) → is_member number ks ≡ false
    → picked_at pick none number (map (link_seen s t) ks) ≡ none
unfolding link_seen
picked_missing pick none s t number [] member = refl
picked_missing pick none s t number (k ∷ ks) member =
    let rest = picked_at pick none number (map (link_seen s t) ks) in
    ⊎_elim
    (λ here. absurd (true≢false (sym (ap (λ b. b || is_member number ks) here) ∙ member)))
    (λ other. ap (λ b. if b then pick (link_seen s t k) else rest) other
    ∙ picked_missing pick none s t number ks (sym (ap (λ b. b || is_member number ks) other) ∙ member))
    (cases_Bool (k == number))
