-- What goes to other servers was submitted here.
use Rattle.std.proofs.Common.{◌≡◌, ℕ, ◌+◌, ◌<◌, ◌≤◌, ◌%◌, ◌==◌, nat_lt, ◌&&◌, ◌||◌, Bool, true, false, not, List, [], ◌∷◌, ◌++◌, map, length, take, refl, sym, ap, ◌∙◌, subst, append_assoc, Option, Some, None, is_none, is_some, arith, Result, Ok, Err, if◌then◌else◌}
use Rattle.std.specs.Bool.{⊤}
use Rattle.std.specs.List.{All}
use Rattle.std.proofs.Math.Nat.{mod-lt}
use Rattle.std.specs.Option.{option_map}
use Rattle.std.proofs.lemmas.Bool.{and_parts, eqb-true, ltb-true, true≢false}
use Rattle.std.proofs.lemmas.List.Elements.{All-nil, All-weaker}
use Rattle.aprs_base.specs.Outside.{new_link}
use Rattle.aprs_base.specs.PacketSeen.{PacketSeen}
use Rattle.aprs_base.specs.declared.cutting.Cut.{Cut}
use Rattle.aprs_base.specs.declared.cutting.Cut.TheVariants as cut
use Rattle.aprs_base.specs.declared.events.Sent.TheVariants as sent
use Rattle.aprs_base.specs.declared.events.Happening.TheVariants as did
use Rattle.aprs_base.specs.declared.packets.ListenSpec.{ListenSpec}
use Rattle.aprs_base.specs.declared.packets.Parts.{Parts}
use Rattle.aprs_base.specs.declared.packets.Source.{Source}
use Rattle.aprs_base.specs.declared.packets.Source.TheVariants as source
use Rattle.aprs_base.specs.declared.texts.Addr.{Addr}
use Rattle.link_queue.specs.Lines.{ended_line}
use Rattle.q_construct.specs.Rule.{process_of}
use Rattle.q_construct.specs.declared.drops.QDrop.{QDrop}
use Rattle.q_construct.specs.declared.origins.Origin.{Origin}
use Rattle.q_construct.specs.declared.origins.Origin.TheVariants as origin
use Rattle.tnc2_line.specs.Packet.{parts_of, text_of}
use Rattle.tnc2_line.specs.declared.reading.LineFault.{LineFault}
use Rattle.uplinks_peers.specs.declared.uplinks.UpEvent.{UpEvent}
use Rattle.uplinks_peers.specs.declared.uplinks.UpEvent.TheVariants as up
use Rattle.uplinks_peers.specs.Uplinks.{Row, UplinksSeen, acts_at, close_of, dialling, ended_at, first_row, is_due, is_rested, is_silent, link_of, no_acts, row, uplinks_after}
use Rattle.uplinks_peers.specs.Uplinks as table
use Rattle.aprs_history.specs.declared.verdicts.Admission.{Admission}
use Rattle.aprs_history.specs.declared.verdicts.Admission.TheVariants.{Served}
use Rattle.aprs_history.specs.declared.verdicts.LinkKind.{LinkKind}
use Rattle.aprs_history.specs.declared.verdicts.LinkKind.TheVariants.{Client, Uplink}
use Rattle.aprs_history.specs.declared.verdicts.Refusal.{Refusal}
use Rattle.aprs_history.specs.declared.verdicts.Refusal.TheVariants as refusal
use Rattle.aprs_history.specs.declared.verdicts.Session.{Session}
use Rattle.aprs_history.specs.declared.verdicts.Verdict.{Verdict}
use Rattle.aprs_history.specs.declared.verdicts.Verdict.TheVariants.{PassedOver, Refused, LoggedIn, Filtered, Accepted}
use Rattle.aprs_history.specs.Setting.{Peer, Setting}
use Rattle.aprs_history.specs.Trace.{Trace, AtListener, ByUplink, Door, Entry, RoundBegan, Dated, Looked, Unjoined, Opened, Brought, Said, Took, Lost, Ended, closed_links, is_from, is_live, moment_of}
use Rattle.aprs_history.specs.declared.verdicts.EndReason.TheVariants.{ByStop}
use Rattle.aprs_history.specs.Links.{Opening, is_client, is_client_link, is_client_of, is_submitted, opening_by, opening_of, session_of, taken_by}
use Rattle.aprs_history.specs.Verdicts.{Carrier, Scene, carried_verdict, is_comment, packet_verdict, read_and_routed, routed, verdict_of}
use Rattle.aprs_history.specs.Scenes.{packet_of, scene_of, speaker_by, speaker_of}
use Rattle.aprs_history.specs.Sights.{filter_passes}
use Rattle.aprs_history.specs.Messages.{is_asked}
use Rattle.aprs_history.specs.Dials.{CastSeen, cast_by, casts_of, casts_to, dial_of, joined_by, uplinks_of}
use Rattle.aprs_history.specs.Texts.{LineKind, Login, Relayed, Text, TextLine, added_by, comment_line, filter_reply, first_line, first_lines, is_dupe_of, is_shown, link_wants, login_filter_reply, login_reply, opening_wants, refusal_reply, refused_lines, relayed, reply_lines, reply_of, shown, shows_duplicates, text_to, untaken, wants}
use Rattle.aprs_history.specs.Downs.{DownSeen, down_of, whole_lines}
use Rattle.aprs_history.specs.History.{History, ends_round, is_stopped, open_events, trace_of}
use Rattle.aprs_history.specs.Acts.{Act, Dials, Casts, SendsLine, Closes, MayCome, acts_after, all_offers, but_first, cast_act, dials, due, listens_from, offered_links, offers_by, offers_to}
use Rattle.aprs_history.specs.Headline.{DialsAreOfUplinks, IsForPeer, IsForUplink, IsLineForUplink, PeersGetSubmissions, UplinksGetSubmissions, WasSubmitted, is_round_start}
use Rattle.aprs_history.proofs.EntryLemmas.{IsJudged, MayAdd, any_link, kept_after}
use Rattle.aprs_history.proofs.HeadlineLemmas.{if_all, line_alone, lines_all, run_before}

-- ---- what was submitted here

now_submitted : (t : Trace) (from : Source) (cut : Cut) (parts : Parts) (line : List ℕ) → is_submitted t from ≡ true
    → WasSubmitted (Said from cut (Accepted parts line) ∷ t) (packet_of from (moment_of t) parts line)
now_submitted t from cut parts line is = record { later = []; earlier = t; entry = Said from cut (Accepted parts line); split = refl; accepted = rw is refl }

later_submitted : (t : Trace) (entry : Entry) (packet : PacketSeen) → WasSubmitted t packet → WasSubmitted (entry ∷ t) packet
later_submitted t entry packet was = record {
  later = entry ∷ was.later;
  earlier = was.earlier;
  entry = was.entry;
  split = ap (λ u. entry ∷ u) was.split;
  accepted = was.accepted;
}

-- ---- what an uplink is

abbrev is_uplink_of : LinkKind → Bool
is_uplink_of (Client port) = false
is_uplink_of (Uplink uplink) = true

abbrev is_uplink : Option Opening → Bool
is_uplink None = false
is_uplink (Some opening) = is_uplink_of opening.kind

-- it is sent what was submitted
uplink_wants : (opening : Option Opening) (named submitted asked : Bool) → is_uplink opening ≡ true → opening_wants opening named submitted asked ≡ submitted
uplink_wants None named submitted asked is = absurd (true≢false (sym is))
uplink_wants (Some opening) named submitted asked is = of opening.kind is
  where
    of : (link : LinkKind) → is_uplink_of link ≡ true → link_wants link named submitted asked ≡ submitted
    of (Client port) is = absurd (true≢false (sym is))
    of (Uplink uplink) is = refl

-- no duplicates
uplink_shows : (opening : Option Opening) (session : Option Session) → is_uplink opening ≡ true → shows_duplicates opening session ≡ false
uplink_shows None session is = refl
uplink_shows (Some opening) session is = of opening.kind is
  where
    of : (link : LinkKind) → is_uplink_of link ≡ true → (is_dupe_of link && is_some session) ≡ false
    of (Client port) is = absurd (true≢false (sym is))
    of (Uplink uplink) is = refl

-- and no dates
uplink_is_no_client : (opening : Option Opening) → is_uplink opening ≡ true → is_client_link opening ≡ false
uplink_is_no_client None is = refl
uplink_is_no_client (Some opening) is = of opening.kind is
  where
    of : (link : LinkKind) → is_uplink_of link ≡ true → is_client_of link ≡ false
    of (Client port) is = absurd (true≢false (sym is))
    of (Uplink uplink) is = refl

-- packets alone are taken from it
uplink_speaks : (opening : Option Opening) (session : Option Session) → is_uplink opening ≡ true → (by : Origin) × (speaker_of opening session ≡ Carrier by)
uplink_speaks None session is = absurd (true≢false (sym is))
uplink_speaks (Some opening) session is = of opening.kind is
  where
    of : (link : LinkKind) → is_uplink_of link ≡ true → (by : Origin) × (speaker_by link opening.from session ≡ Carrier by)
    of (Client port) is = absurd (true≢false (sym is))
    of (Uplink uplink) is = (origin.Uplink opening.from, refl)

-- ---- verdicts that have no reply

abbrev IsUnanswered : Verdict → Type 0
IsUnanswered (LoggedIn session answer) = ⊥
IsUnanswered (Filtered answer) = ⊥
IsUnanswered (Refused (refusal.Login why)) = ⊥
IsUnanswered (Refused refusal.OwnName) = ⊥
IsUnanswered verdict = ⊤

routed_unanswered : (copies : Parts → Bool) (result : Result Parts QDrop) → IsUnanswered (packet_verdict copies (routed result))
routed_unanswered copies (Err drop') = tt
routed_unanswered copies (Ok parts) = of (copies parts)
  where
    of : (b : Bool) → IsUnanswered (if b then Refused (refusal.Duplicate parts (text_of parts)) else Accepted parts (text_of parts))
    of true = tt
    of false = tt

read_unanswered : (scene : Scene) (by : Origin) (read : Result Parts LineFault) → IsUnanswered (packet_verdict scene.copies (read_and_routed scene.server by scene.others read))
read_unanswered scene by (Err fault) = tt
read_unanswered scene by (Ok parts) = routed_unanswered scene.copies (process_of parts by scene.server scene.others)

carried_unanswered : (scene : Scene) (by : Origin) (said : Cut) → scene.speaker ≡ Carrier by → IsUnanswered (verdict_of scene said)
carried_unanswered scene by cut.Long is = tt
carried_unanswered scene by (cut.Line text) is = rw is (of (is_comment text))
  where
    of : (b : Bool) → IsUnanswered (if b then PassedOver else carried_verdict scene by text)
    of true = tt
    of false = read_unanswered scene by (parts_of text)

-- ---- the text of an uplink

line_later : (s : Setting) (t : Trace) (entry : Entry) (kind : LineKind) (line : List ℕ) → IsLineForUplink s t kind line → IsLineForUplink s (entry ∷ t) kind line
line_later s t entry Login line is = is
line_later s t entry (Relayed packet) line is = (is.0, later_submitted t entry packet is.1)
line_later s t entry kind line is = absurd is

module _ (s : Setting) (link : ℕ) where
  lines_later : (t : Trace) (entry : Entry) (lines : List TextLine) → All (IsForUplink s t) lines → All (IsForUplink s (entry ∷ t)) lines
  lines_later t entry lines all = All-weaker (IsForUplink s t) (IsForUplink s (entry ∷ t)) (λ text is. line_later s t entry text.kind text.line is) lines all

  first_all : (t : Trace) (admission : Admission) (from : Addr) (moment : ℕ) → is_uplink (opening_by admission from moment) ≡ true → All (IsForUplink s t) (first_lines s admission)
  first_all t (Served (Uplink uplink)) from moment is = line_alone (IsForUplink s t) (first_line s (Uplink uplink)) refl
  first_all t admission from moment is = absurd (true≢false (sym is))

  -- its own lines have no reply
  own_unanswered : (t : Trace) (from : Source) (said : Cut) (verdict : Verdict) → is_uplink (opening_of t link) ≡ true → IsJudged s t from said verdict → is_from link from ≡ true → IsUnanswered verdict
  own_unanswered t (source.Link other) said verdict up judged is =
      let same : link ≡ other = eqb-true link other is in
      let speaks = uplink_speaks (opening_of t link) (session_of t link) up in
      subst IsUnanswered (sym (judged ∙ ap (λ k. verdict_of (scene_of s t k) said) (sym same))) (carried_unanswered (scene_of s t link) speaks.0 said speaks.1)
  own_unanswered t from said verdict up judged is = absurd (true≢false (sym is))

  module _ (t : Trace) (from : Source) (said : Cut) (up : is_uplink (opening_of t link) ≡ true) where
    refused_all : (why : Refusal) → IsJudged s t from said (Refused why) → All (IsForUplink s (Said from said (Refused why) ∷ t)) (refused_lines t from why link)
    refused_all (refusal.Duplicate parts line) judged =
        let packet = packet_of from (moment_of t) parts line in
        let u = Said from said (Refused (refusal.Duplicate parts line)) ∷ t in
        if_all (IsForUplink s u) (is_shown t from link) (shown packet ∷ [])
        (λ is.
        let shows = (and_parts (not (is_from link from) && is_live t link) (shows_duplicates (opening_of t link) (session_of t link)) is).1 in
        absurd (true≢false (sym shows ∙ uplink_shows (opening_of t link) (session_of t link) up)))
    refused_all (refusal.Login why) judged =
        let verdict = Refused (refusal.Login why) in
        if_all (IsForUplink s (Said from said verdict ∷ t)) (is_from link from) (reply_lines (refusal_reply (refusal.Login why))) (λ is. absurd (own_unanswered t from said verdict up judged is))
    refused_all refusal.OwnName judged =
        let verdict = Refused refusal.OwnName in
        if_all (IsForUplink s (Said from said verdict ∷ t)) (is_from link from) (reply_lines (refusal_reply refusal.OwnName)) (λ is. absurd (own_unanswered t from said verdict up judged is))
    refused_all other judged = let u = Said from said (Refused other) ∷ t in if_all (IsForUplink s u) (is_from link from) [] (λ is. All-nil (IsForUplink s u))

    added_all : (verdict : Verdict) → IsJudged s t from said verdict → All (IsForUplink s (Said from said verdict ∷ t)) (added_by s t from verdict link)
    added_all PassedOver judged = All-nil (IsForUplink s (Said from said PassedOver ∷ t))
    added_all (Refused why) judged = refused_all why judged
    added_all (LoggedIn session answer) judged =
        let verdict = LoggedIn session answer in
        if_all (IsForUplink s (Said from said verdict ∷ t)) (is_from link from) (reply_of (login_reply s.server session) ∷ login_filter_reply answer)
        (λ is. absurd (own_unanswered t from said verdict up judged is))
    added_all (Filtered answer) judged =
        let verdict = Filtered answer in
        if_all (IsForUplink s (Said from said verdict ∷ t)) (is_from link from) (reply_of (filter_reply answer) ∷ []) (λ is. absurd (own_unanswered t from said verdict up judged is))
    added_all (Accepted parts line) judged =
        let packet = packet_of from (moment_of t) parts line in
        let u = Said from said (Accepted parts line) ∷ t in
        let named = is_some (session_of t link) in
        let asked = filter_passes t packet link || is_asked t packet link in
        if_all (IsForUplink s u) (wants t packet link) (relayed packet ∷ [])
        (λ is.
        let wanted = (and_parts (not (is_from link from) && is_live t link) (opening_wants (opening_of t link) named (is_submitted t from) asked) is).1 in
        let submitted = sym (uplink_wants (opening_of t link) named (is_submitted t from) asked up) ∙ wanted in
        line_alone (IsForUplink s u) (relayed packet) (refl, now_submitted t from said parts line submitted))

  -- as each entry keeps it
  abbrev Kept : Trace → Type 0
  Kept t = is_uplink (opening_of t link) ≡ true → All (IsForUplink s t) (text_to s t link).lines

  kept_same : (t : Trace) (entry : Entry) → opening_of (entry ∷ t) link ≡ opening_of t link → text_to s (entry ∷ t) link ≡ text_to s t link → Kept t → Kept (entry ∷ t)
  kept_same t entry opening text kept up =
      subst (λ (x : Text). All (IsForUplink s (entry ∷ t)) x.lines) (sym text) (lines_later t entry (text_to s t link).lines (kept (sym (ap is_uplink opening) ∙ up)))

  kept_opened : (t : Trace) (door : Door) (admission : Admission) (opened : ℕ) (from : Addr) → Kept t → Kept (Opened door admission opened from ∷ t)
  kept_opened t door admission opened from kept up = of (link == opened) up
    where
      of : (b : Bool) → is_uplink (if b then opening_by admission from (moment_of t) else opening_of t link) ≡ true
          → All (IsForUplink s (Opened door admission opened from ∷ t)) (if b then record { lines = first_lines s admission; over = false } else text_to s t link).lines
      of true up = first_all (Opened door admission opened from ∷ t) admission from (moment_of t) up
      of false up = lines_later t (Opened door admission opened from) (text_to s t link).lines (kept up)

  kept_said : (t : Trace) (from : Source) (said : Cut) (verdict : Verdict) → IsJudged s t from said verdict → Kept t → Kept (Said from said verdict ∷ t)
  kept_said t from said verdict judged kept up =
      let u = Said from said verdict ∷ t in
      lines_all (IsForUplink s u) (taken_by t link) (added_by s t from verdict link) (text_to s t link) (added_all t from said up verdict judged)
      (lines_later t (Said from said verdict) (text_to s t link).lines (kept up))

  kept_dated : (t : Trace) (moment : ℕ) → Kept t → Kept (Dated moment ∷ t)
  kept_dated t moment kept up =
      let u = Dated moment ∷ t in
      let comment = comment_line s.server moment in
      lines_all (IsForUplink s u) (taken_by t link) (if is_client t link then comment ∷ [] else []) (text_to s t link)
      (if_all (IsForUplink s u) (is_client t link) (comment ∷ [])
      (λ is. absurd (true≢false (sym (and_parts (is_live t link) (is_client_link (opening_of t link)) is).1 ∙ uplink_is_no_client (opening_of t link) up))))
      (lines_later t (Dated moment) (text_to s t link).lines (kept up))

  kept_by : (h : History) (t : Trace) (entry : Entry) → MayAdd s h (λ k. ⊤) t entry → Kept t → Kept (entry ∷ t)
  kept_by h t (Opened door admission opened from) may kept = kept_opened t door admission opened from kept
  kept_by h t (Said from said verdict) may kept = kept_said t from said verdict may.1 kept
  kept_by h t (Took by offered taken) may kept = absurd may
  kept_by h t (Lost lost) may kept = absurd may
  kept_by h t (Dated moment) may kept = kept_dated t moment kept
  kept_by h t entry may kept = kept_same t entry refl refl kept

  kept : (h : History) → Kept (trace_of s h)
  unfolding trace_of
  kept [] up = absurd (true≢false (sym up))
  kept (did.Event e ∷ h) up =
      kept_after s h e (λ k. ⊤) Kept (kept_by (did.Event e ∷ h)) (λ t k stopped before. kept_same t (Ended k ByStop) refl refl before) (any_link (new_link e)) (kept h) up
  kept (did.Sent to bytes (sent.Took n) ∷ h) up = kept_same (trace_of s h) (Took to (length bytes) n) refl refl (kept h) up
  kept (did.Sent to bytes sent.Gone ∷ h) up = kept_same (trace_of s h) (Lost to) refl refl (kept h) up
  kept (happening ∷ h) up = kept h up

pub uplinks_get_submissions : UplinksGetSubmissions
uplinks_get_submissions s h link uplink at moment opening = kept s link h (ap is_uplink opening)

-- ---- the lines for the peers

peer_later : (t : Trace) (entry : Entry) (line : List ℕ) → is_round_start entry ≡ false → IsForPeer t line → IsForPeer (entry ∷ t) line
unfolding later_submitted
peer_later t entry line same for_peer = record {
  packet = for_peer.packet;
  its = for_peer.its;
  submitted = later_submitted t entry for_peer.packet for_peer.submitted;
  same_round = rw same for_peer.same_round;
}

-- of such a line each, for one of so many peers
abbrev AreForPeers : ℕ → Trace → List CastSeen → Type 0
AreForPeers n t [] = ⊤
AreForPeers n t (cast ∷ casts) = (cast.peer < n) × IsForPeer t cast.line × AreForPeers n t casts

peers_later : (n : ℕ) (t : Trace) (entry : Entry) (casts : List CastSeen) → is_round_start entry ≡ false → AreForPeers n t casts → AreForPeers n (entry ∷ t) casts
peers_later n t entry [] same all = tt
peers_later n t entry (cast ∷ casts) same all = (all.0, peer_later t entry cast.line same all.1, peers_later n t entry casts same all.2)

peers_both : (n : ℕ) (t : Trace) (casts more : List CastSeen) → AreForPeers n t casts → AreForPeers n t more → AreForPeers n t (casts ++ more)
peers_both n t [] more all others = others
peers_both n t (cast ∷ casts) more all others = (all.0, all.1, peers_both n t casts more all.2 others)

peers_each : (n : ℕ) (t : Trace) (first : ℕ) (peers : List Peer) (line : List ℕ) → first + length peers ≤ n → IsForPeer t line → AreForPeers n t (casts_to first peers line)
peers_each n t first [] line le is = tt
peers_each n t first (peer ∷ peers) line le is = (omega arith, is, peers_each n t (first + 1) peers line (omega arith) is)

peers_said : (t : Trace) (peers : List Peer) (from : Source) (said : Cut) (verdict : Verdict) (submitted : Bool) → is_submitted t from ≡ submitted
    → AreForPeers (length peers) (Said from said verdict ∷ t) (cast_by peers submitted verdict)
unfolding now_submitted
peers_said t peers from said (Accepted parts line) true is =
    peers_each (length peers) (Said from said (Accepted parts line) ∷ t) 0 peers line (omega arith)
    (record { packet = packet_of from (moment_of t) parts line; its = refl; submitted = now_submitted t from said parts line is; same_round = refl })
peers_said t peers from said (Accepted parts line) false is = tt
peers_said t peers from said verdict submitted is = tt

for_peers : (s : Setting) (t : Trace) → AreForPeers (length s.peers) t (casts_of s t)
for_peers s [] = tt
for_peers s (RoundBegan ∷ t) = tt
for_peers s (Said from said verdict ∷ t) =
    let entry = Said from said verdict in
    peers_both (length s.peers) (entry ∷ t) (casts_of s t) (cast_by s.peers (is_submitted t from) verdict) (peers_later (length s.peers) t entry (casts_of s t) refl (for_peers s t))
    (peers_said t s.peers from said verdict (is_submitted t from) refl)
for_peers s (entry ∷ t) = peers_later (length s.peers) t entry (casts_of s t) refl (for_peers s t)

-- ---- dials

-- there are so many uplinks, and the next is one of them
abbrev AreUplinks : ℕ → UplinksSeen → Type 0
AreUplinks n uplinks = (uplinks.count ≡ n) × (0 < n → uplinks.next < n)

-- where each row keeps it, so does the first that counts
abbrev KeepUplinks : ℕ → List Row → Type 0
KeepUplinks n [] = ⊤
KeepUplinks n (row ∷ rows) = AreUplinks n row.uplinks × KeepUplinks n rows

uplinks_row : (n : ℕ) (seen : UplinksSeen) (rows : List Row) → AreUplinks n seen → KeepUplinks n rows → AreUplinks n (first_row seen rows).uplinks
uplinks_row n seen [] are keep = are
uplinks_row n seen (row ∷ rows) are keep = of row.counts (uplinks_row n seen rows are keep.1)
  where
    of : (b : Bool) → AreUplinks n (first_row seen rows).uplinks → AreUplinks n (if b then row else first_row seen rows).uplinks
    of true later = keep.0
    of false later = later

uplinks_step : (n : ℕ) (happened : UpEvent) (now : ℕ) (seen : UplinksSeen) → AreUplinks n seen → AreUplinks n (uplinks_after happened now seen)
uplinks_step n up.Tick now seen are =
    uplinks_row n seen (table.rows up.Tick now seen) are (are, ((are.0, λ above. subst (λ count. (seen.next + 1) % count < n) (sym are.0) (mod-lt (seen.next + 1) above)), tt))
uplinks_step n (up.Joined uplink link) now seen are = uplinks_row n seen (table.rows (up.Joined uplink link) now seen) are (are, (are, tt))
uplinks_step n step now seen are = uplinks_row n seen (table.rows step now seen) are (are, tt)

uplinks_joined : (n : ℕ) (door : Door) (link now : ℕ) (seen : UplinksSeen) → AreUplinks n seen → AreUplinks n (joined_by door link now seen)
uplinks_joined n (AtListener listener) link now seen are = are
uplinks_joined n (ByUplink uplink) link now seen are = uplinks_step n (up.Joined uplink link) now seen are

pub uplinks_within : (s : Setting) (t : Trace) → AreUplinks (length s.uplinks) (uplinks_of s t)
uplinks_within s [] = (refl, λ above. above)
uplinks_within s (Looked ∷ t) = uplinks_step (length s.uplinks) up.Tick (moment_of t) (uplinks_of s t) (uplinks_within s t)
uplinks_within s (Opened door admission link from ∷ t) = uplinks_joined (length s.uplinks) door link (moment_of t) (uplinks_of s t) (uplinks_within s t)
uplinks_within s (Unjoined uplink ∷ t) = uplinks_step (length s.uplinks) (up.Unjoined uplink) (moment_of t) (uplinks_of s t) (uplinks_within s t)
uplinks_within s (Brought link bytes ∷ t) = uplinks_step (length s.uplinks) (up.Heard link) (moment_of t) (uplinks_of s t) (uplinks_within s t)
uplinks_within s (Ended link reason ∷ t) = uplinks_step (length s.uplinks) (up.Ended link) (moment_of t) (uplinks_of s t) (uplinks_within s t)
uplinks_within s (entry ∷ t) = uplinks_within s t

no_dial : (uplink : ℕ) → None ≡ Some uplink → ⊥
no_dial uplink e = cc

tick_dials : (n now : ℕ) (seen : UplinksSeen) (uplink : ℕ) → AreUplinks n seen → (acts_at up.Tick now seen).dial ≡ Some uplink → uplink < n
tick_dials n now seen uplink are is = of (is_silent seen.timeout now seen.joined) (is_due now seen) refl is
  where
    of : (silent due : Bool) → is_due now seen ≡ due
        → (if silent then row silent (ended_at now seen) (close_of (option_map link_of seen.joined)) else if due then row due (dialling seen) (table.dial_of seen.next) else row true seen no_acts).acts.dial ≡ Some uplink → uplink < n
    of true due e is = absurd (no_dial uplink is)
    of false false e is = absurd (no_dial uplink is)
    of false true e is =
        let some : 0 < seen.count = ltb-true 0 seen.count (and_parts (nat_lt 0 seen.count) (is_none seen.dialled && (is_none seen.joined && is_rested now seen.tried)) e).0 in
        let same : seen.next ≡ uplink = cc in
        subst (λ k. k < n) same (are.1 (subst (λ count. 0 < count) are.0 some))

pub dial_within : (s : Setting) (t : Trace) (uplink : ℕ) → dial_of s t ≡ Some uplink → uplink < length s.uplinks
dial_within s [] uplink is = absurd (no_dial uplink is)
dial_within s (RoundBegan ∷ t) uplink is = absurd (no_dial uplink is)
dial_within s (Looked ∷ t) uplink is = tick_dials (length s.uplinks) (moment_of t) (uplinks_of s t) uplink (uplinks_within s t) is
dial_within s (entry ∷ t) uplink is = dial_within s t uplink is

-- ---- dials and casts that are due

abbrev IsDatagram : Trace → List ℕ → Type 0
IsDatagram t bytes = (line : List ℕ) × (bytes ≡ ended_line line) × IsForPeer t line

-- each dial is of an uplink, and each cast to a peer and of such a line
abbrev ReachStands : Setting → Trace → List Act → Type 0
ReachStands s t [] = ⊤
ReachStands s t (Dials uplink ∷ acts) = (uplink < length s.uplinks) × ReachStands s t acts
ReachStands s t (Casts peer bytes ∷ acts) = ((peer < length s.peers) × IsDatagram t bytes) × ReachStands s t acts
ReachStands s t (act ∷ acts) = ReachStands s t acts

module _ (s : Setting) (t : Trace) where
  reach_next : (acts : List Act) → ReachStands s t acts → ReachStands s t (but_first acts)
  reach_next [] stand = stand
  reach_next (Dials uplink ∷ acts) stand = stand.1
  reach_next (Casts peer bytes ∷ acts) stand = stand.1
  reach_next (act ∷ acts) stand = stand

  reach_later : (entry : Entry) (acts : List Act) → is_round_start entry ≡ false → ReachStands s t acts → ReachStands s (entry ∷ t) acts
  reach_later entry [] same stand = tt
  reach_later entry (Dials uplink ∷ acts) same stand = (stand.0, reach_later entry acts same stand.1)
  reach_later entry (Casts peer bytes ∷ acts) same stand =
      let datagram = stand.0.1 in ((stand.0.0, (datagram.0, datagram.1, peer_later t entry datagram.0 same datagram.2)), reach_later entry acts same stand.1)
  reach_later entry (act ∷ acts) same stand = reach_later entry acts same stand

  reach_listens : (n : ℕ) (listens : List ListenSpec) → ReachStands s t (listens_from n listens)
  reach_listens n [] = tt
  reach_listens n (spec ∷ specs) = reach_listens (n + 1) specs

  reach_closes : (ks : List ℕ) → ReachStands s t (map Closes ks)
  reach_closes [] = tt
  reach_closes (k ∷ ks) = reach_closes ks

  reach_lines : (k : ℕ) (lines : List (List ℕ)) (acts : List Act) → ReachStands s t acts → ReachStands s t (map (SendsLine k) lines ++ acts)
  reach_lines k [] acts stand = stand
  reach_lines k (line ∷ lines) acts stand = reach_lines k lines acts stand

  reach_offer : (down : Option DownSeen) (k : ℕ) (bytes : List ℕ) (acts : List Act) → ReachStands s t acts → ReachStands s t (offers_by down k bytes ++ acts)
  reach_offer None k bytes acts stand = stand
  reach_offer (Some down) k bytes acts stand = reach_lines k (whole_lines bytes) acts stand

  reach_offers : (ks : List ℕ) (acts : List Act) → ReachStands s t acts → ReachStands s t (all_offers s t ks ++ acts)
  reach_offers [] acts stand = stand
  reach_offers (k ∷ ks) acts stand =
      subst (ReachStands s t) (sym (append_assoc (offers_to s t k) (all_offers s t ks) acts))
      (reach_offer (down_of s t k) k (take 65536 (untaken s t k)) (all_offers s t ks ++ acts) (reach_offers ks acts stand))

  reach_casts : (casts : List CastSeen) (acts : List Act) → AreForPeers (length s.peers) t casts → ReachStands s t acts → ReachStands s t (map cast_act casts ++ acts)
  reach_casts [] acts all stand = stand
  reach_casts (cast ∷ casts) acts all stand = ((all.0, (cast.line, refl, all.1)), reach_casts casts acts all.2 stand)

  reach_dials : (dial : Option ℕ) (acts : List Act) → ((uplink : ℕ) → dial ≡ Some uplink → uplink < length s.uplinks) → ReachStands s t acts → ReachStands s t (dials dial ++ acts)
  reach_dials None acts within stand = stand
  reach_dials (Some uplink) acts within stand = (within uplink refl, stand)

  reach_after : (ends : Bool) → ReachStands s t (if ends then acts_after s t else [])
  reach_after true =
      let offers = all_offers s t (offered_links s t) ++ map Closes (closed_links t) in
      reach_dials (dial_of s t) (map cast_act (casts_of s t) ++ offers) (dial_within s t)
      (reach_casts (casts_of s t) offers (for_peers s t) (reach_offers (offered_links s t) (map Closes (closed_links t)) (reach_closes (closed_links t))))
  reach_after false = tt

reach_stands : (s : Setting) (h : History) → ReachStands s (trace_of s h) (due s h)
unfolding trace_of due
reach_stands s [] = reach_listens s [] 0 s.listens
reach_stands s (did.Event e ∷ h) = reach_after s (trace_of s (did.Event e ∷ h)) (ends_round (open_events h) e)
reach_stands s (did.Sent link bytes (sent.Took n) ∷ h) =
    let t = trace_of s h in reach_later s t (Took link (length bytes) n) (but_first (due s h)) refl (reach_next s t (due s h) (reach_stands s h))
reach_stands s (did.Sent link bytes sent.Gone ∷ h) = let t = trace_of s h in reach_later s t (Lost link) (but_first (due s h)) refl (reach_next s t (due s h) (reach_stands s h))
reach_stands s (happening ∷ h) = reach_next s (trace_of s h) (due s h) (reach_stands s h)

module _ (s : Setting) (t : Trace) where
  cast_due : (acts : List Act) (stopped : Bool) (peer : ℕ) (bytes : List ℕ) → MayCome acts stopped (did.Cast peer bytes) → ReachStands s t acts → (peer < length s.peers) × IsDatagram t bytes
  cast_due [] stopped peer bytes may stand = absurd may.1
  cast_due (Casts to given ∷ acts) stopped peer bytes may stand = (subst (λ k. k < length s.peers) (sym may.0) stand.0.0, subst (IsDatagram t) (sym may.1) stand.0.1)
  cast_due (act ∷ acts) stopped peer bytes may stand = absurd may

  dialled_due : (acts : List Act) (stopped : Bool) (uplink : ℕ) → MayCome acts stopped (did.Dialled uplink) → ReachStands s t acts → uplink < length s.uplinks
  dialled_due [] stopped uplink may stand = absurd may.1
  dialled_due (Dials other ∷ acts) stopped uplink may stand = subst (λ k. k < length s.uplinks) (sym may) stand.0
  dialled_due (act ∷ acts) stopped uplink may stand = absurd may

pub peers_get_submissions : PeersGetSubmissions
peers_get_submissions s later earlier peer bytes run =
    let came = run_before s later (did.Cast peer bytes ∷ earlier) run in cast_due s (trace_of s earlier) (due s earlier) (is_stopped earlier) peer bytes came.1 (reach_stands s earlier)

pub dials_are_of_uplinks : DialsAreOfUplinks
dials_are_of_uplinks s later earlier uplink run =
    let came = run_before s later (did.Dialled uplink ∷ earlier) run in dialled_due s (trace_of s earlier) (due s earlier) (is_stopped earlier) uplink came.1 (reach_stands s earlier)
