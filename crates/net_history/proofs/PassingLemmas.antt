-- What a server accepts in a round has a good descent, where all that was accepted before has one.
use Rattle.std.proofs.Common.{◌≡◌, ℕ, zero, suc, ◌+◌, ◌-◌, ◌<◌, ◌==◌, ◌&&◌, nat_lt, Bool, true, false, List, [], ◌∷◌, ◌++◌, length, refl, sym, ap, ◌∙◌, subst, arith, Option, Some, None, Ok, ⊎_elim, append-nil, append_assoc, if◌then◌else◌}
use Rattle.std.specs.Bool.{⊤}
use Rattle.std.specs.Prelude.{slice_get, IsTrue}
use Rattle.std.specs.List.{flat_map}
use Rattle.std.specs.Option.{option_map, option_and_then}
use Rattle.std.specs.Cmp.Lexicographic.{pointwise}
use Rattle.std.proofs.lemmas.Bool.{and_parts, cases_Bool, eqb-true, ltb-false, ltb-true, true≢false}
use Rattle.std.proofs.lemmas.Grind.{flat_map-append}
use Rattle.aprs_base.specs.Bytes.{IsLine, is_station}
use Rattle.aprs_base.specs.Cuts.{cuts_of}
use Rattle.aprs_base.specs.PacketSeen.{PacketSeen}
use Rattle.aprs_base.specs.PartsSeen.{PartsSeen}
use Rattle.aprs_base.specs.declared.cutting.Cut.{Cut}
use Rattle.aprs_base.specs.declared.cutting.Cut.TheVariants as cut
use Rattle.aprs_base.specs.declared.packets.Source.{Source}
use Rattle.aprs_base.specs.declared.packets.Source.TheVariants as source
use Rattle.tnc2_line.specs.Packet.{parts_of, text_of}
use Rattle.tnc2_line.proofs.Laws.{parts_give}
use Rattle.link_queue.specs.Lines.{ended_line}
use Rattle.q_construct.specs.Rule.{keeps_names, name_of, process_of}
use Rattle.q_construct.specs.declared.origins.Origin.{Origin}
use Rattle.q_construct.specs.declared.origins.Origin.TheVariants as origin
use Rattle.aprs_history.specs.declared.verdicts.Verdict.{Verdict}
use Rattle.aprs_history.specs.declared.verdicts.Verdict.TheVariants.{PassedOver, Refused, LoggedIn, Filtered, Accepted}
use Rattle.aprs_history.specs.Setting.{Setting}
use Rattle.aprs_history.specs.Trace.{Trace, Said, moment_of}
use Rattle.aprs_history.specs.Links.{brought_by, opening_of, session_of}
use Rattle.aprs_history.specs.Verdicts.{Carrier, Speaker, Visitor}
use Rattle.aprs_history.specs.Scenes.{accepted_by, accepted_of, packet_of, speaker_of}
use Rattle.aprs_history.specs.History.{datagram_cuts}
use Rattle.aprs_history.specs.Arriving.{came_to, said_on}
use Rattle.aprs_history.specs.Accepting.{IsAcceptedOf, IsSaidAs, SpeaksAs}
use Rattle.aprs_history.specs.Sound.{IsSound}
use Rattle.aprs_history.proofs.AcceptingLemmas.{packets_come_from_lines}
use Rattle.aprs_history.proofs.BringingLemmas.{links_bring_what_came}
use Rattle.aprs_history.proofs.OriginLemmas.{origins_are_stations}
use Rattle.aprs_history.proofs.SayingLemmas.{links_say_what_they_brought}
use Rattle.aprs_history.proofs.StepLemmas.{Each}
use Rattle.net_history.specs.Network.{End, ForClient, ForPair, Made, NetSeen, ServerSeen, number_of, trace_at}
use Rattle.net_history.specs.Trails.{Acceptance, IsSoundLine, NeverReturns, Passed, Submitted, Trail}
use Rattle.net_history.specs.Descents.{Known, call_of, descent_in, descents_by, descents_of, is_from_peer, is_that, mail_at, origin_at, others_at, said_by_peers, spoken_by, submitted_as, trail_from, trail_in_text, trail_of_kind, trail_of_line, trail_on}
use Rattle.net_history.specs.DescentLaws.{IsLast}
use Rattle.net_history.proofs.BetweenLemmas.{at_end, at_longer, none_some, place_past}
use Rattle.net_history.proofs.EventLemmas.{Had, fresh_links, joins_have_addresses, none_came_early, one_line_each}
use Rattle.net_history.proofs.CastLineLemmas.{datagram_is_line}
use Rattle.net_history.proofs.GrowthLemmas.{NoneUnmade, brought}
use Rattle.net_history.proofs.MailLemmas.{carried_in, handed, handed_in, mail_history, peers_said, said_count}
use Rattle.net_history.proofs.PairLineLemmas.{IsPaired, passed}
use Rattle.net_history.proofs.SaidLemmas.{OpensSilent, opens_silent, said_stays}
use Rattle.net_history.proofs.StreamLemmas.{eqb_same}
use Rattle.net_history.proofs.TrailLemmas.{accepted_stays_sound, none_accept_again}
use Rattle.net_history.proofs.ZipLemmas.{Zip, zip_both}

-- ---- good trails

-- the line is sound, and never came back
abbrev pub IsGood : List ℕ → Option Trail → Type 0
IsGood line None = ⊥
IsGood line (Some trail) = IsSoundLine line trail × NeverReturns trail

abbrev pub IsOf : ℕ → Setting → PacketSeen → Option Trail → Type 0
IsOf server setting packet None = ⊥
IsOf server setting packet (Some trail) = IsLast server setting packet trail × IsSoundLine packet.line trail × NeverReturns trail

-- a datagram with such a line
abbrev pub IsMail : List ℕ → Option Trail → Type 0
IsMail bytes trail = (line : List ℕ) × (bytes ≡ ended_line line) × IsLine line × IsGood line trail

pub good_of : (server : ℕ) (setting : Setting) (packet : PacketSeen) (trail : Option Trail) → IsOf server setting packet trail → IsGood packet.line trail
good_of server setting packet None is = is
good_of server setting packet (Some trail) is = (is.1, is.2)

-- what a client says
submitted_good : (text : List ℕ) (before : PartsSeen) → IsLine text → parts_of text ≡ Ok before → IsGood text (Some (Submitted text))
submitted_good text before whole reads =
    (record { parts = before; packet = parts_give text before (and_parts _ _ whole).1 reads; ends = reads; ruled = tt; same = (before, reads, (refl, refl, refl)); named = tt }, tt)

-- ---- a descent is found

same_text : (xs ys : List ℕ) → pointwise ◌==◌ xs ys ≡ true → xs ≡ ys
same_text [] [] is = refl
same_text [] (y ∷ ys) is = absurd (true≢false (sym is))
same_text (x ∷ xs) [] is = absurd (true≢false (sym is))
same_text (x ∷ xs) (y ∷ ys) is = let both = and_parts (x == y) (pointwise ◌==◌ xs ys) is in ap (λ b. b ∷ xs) (eqb-true x y both.0) ∙ ap (λ bs. y ∷ bs) (same_text xs ys both.1)

text_same : (xs : List ℕ) → pointwise ◌==◌ xs xs ≡ true
text_same [] = refl
text_same (x ∷ xs) = ap (λ b. b && pointwise ◌==◌ xs xs) (eqb_same x) ∙ text_same xs

is_itself : (packet : PacketSeen) → is_that packet packet ≡ true
is_itself packet = ap (λ b. b && pointwise ◌==◌ packet.line packet.line) (eqb_same packet.moment) ∙ text_same packet.line

pub found_good : (server : ℕ) (setting : Setting) (packet : PacketSeen) (packets : List PacketSeen) (trails : List (Option Trail)) (place : ℕ) → Zip (IsOf server setting) packets trails → slice_get packets place ≡ Some packet
    → IsGood packet.line (descent_in packet packets trails)
found_good server setting packet [] trails place zip at = absurd (none_some packet at)
found_good server setting packet (other ∷ packets) [] place zip at = absurd zip
found_good server setting packet (other ∷ packets) (trail ∷ trails) zero zip at =
    let same : other ≡ packet = cc in
    let that : is_that packet other ≡ true = ap (is_that packet) same ∙ is_itself packet in
    subst (IsGood packet.line) (sym (ap (λ b. if b then trail else descent_in packet packets trails) that)) (subst (λ (p : PacketSeen). IsGood p.line trail) same (good_of server setting other trail zip.0))
found_good server setting packet (other ∷ packets) (trail ∷ trails) (suc place) zip at = of (is_that packet other) refl (found_good server setting packet packets trails place zip.1 at)
  where
    of : (b : Bool) → is_that packet other ≡ b → IsGood packet.line (descent_in packet packets trails) → IsGood packet.line (if b then trail else descent_in packet packets trails)
    of true is later = subst (λ line. IsGood line trail) (sym (same_text packet.line other.line (and_parts (packet.moment == other.moment) (pointwise ◌==◌ packet.line other.line) is).1)) (good_of server setting other trail zip.0)
    of false is later = later

-- ---- an acceptance

-- by whom it is said
said_by : (speaker : Speaker) (by : Origin) → SpeaksAs speaker by → by ≡ spoken_by speaker
said_by (Visitor kind None) by is = absurd is
said_by (Visitor kind (Some session)) by is = is
said_by (Carrier from) by is = is

abbrev IsNotHanded : Source → Type 0
IsNotHanded (source.Submit listener) = ⊥
IsNotHanded from = ⊤

said_at : (setting : Setting) (earlier : Trace) (from : Source) (by : Origin) (others : List (List ℕ)) → IsNotHanded from → IsSaidAs setting earlier from by others → (by ≡ origin_at setting earlier from) × (others ≡ others_at earlier from)
said_at setting earlier (source.Link link) by others not' is = (said_by (speaker_of (opening_of earlier link) (session_of earlier link)) by is.0, is.1)
said_at setting earlier (source.Peer peer) by others not' is = let p = is.0 in (p.its ∙ ap (λ o. origin.Peer (call_of o)) (sym p.there), is.1)
said_at setting earlier (source.Submit listener) by others not' is = absurd not'

module _ (server : ℕ) (setting : Setting) (sound : IsSound setting) where
  abbrev by_at : Trace → Source → PartsSeen → Acceptance
  by_at earlier from parts = record {
    server = server;
    call = setting.server;
    moment = moment_of earlier;
    origin = origin_at setting earlier from;
    others = others_at earlier from;
    parts = parts;
  }

  passes : (earlier : Trace) (from : Source) (text : List ℕ) (before parts : PartsSeen) (line : List ℕ) (trail : Option Trail) → IsTrue (is_station (name_of (origin_at setting earlier from))) → keeps_names (origin_at setting earlier from) ≡ true
      → parts_of text ≡ Ok before → process_of before (origin_at setting earlier from) setting.server (others_at earlier from) ≡ Ok parts → line ≡ text_of parts → IsGood text trail
      → IsOf server setting (packet_of from (moment_of earlier) parts line) (option_map (λ t. Passed t (by_at earlier from parts)) trail)
  passes earlier from text before parts line None station keeps reads goes its good = good
  passes earlier from text before parts line (Some trail) station keeps reads goes its good = (
    (refl, refl, refl, refl),
    subst (λ l. IsSoundLine l (Passed trail (by_at earlier from parts))) (sym its) (accepted_stays_sound text trail (by_at earlier from parts) before good.0 sound.server station (λ passed'. keeps) reads goes),
    (good.1, none_accept_again text trail before (origin_at setting earlier from) setting.server (others_at earlier from) parts good.0 reads goes),
  )

  -- a client's own line has passed nobody yet
  passes_first : (earlier : Trace) (from : Source) (text : List ℕ) (before parts : PartsSeen) (line : List ℕ) → IsTrue (is_station (name_of (origin_at setting earlier from)))
      → parts_of text ≡ Ok before → process_of before (origin_at setting earlier from) setting.server (others_at earlier from) ≡ Ok parts → line ≡ text_of parts → IsGood text (Some (Submitted text))
      → IsOf server setting (packet_of from (moment_of earlier) parts line) (Some (Passed (Submitted text) (by_at earlier from parts)))
  passes_first earlier from text before parts line station reads goes its good = (
    (refl, refl, refl, refl),
    subst (λ l. IsSoundLine l (Passed (Submitted text) (by_at earlier from parts))) (sym its)
        (accepted_stays_sound text (Submitted text) (by_at earlier from parts) before good.0 sound.server station (λ passed'. absurd (true≢false (sym passed'))) reads goes),
    (good.1, tt),
  )

-- ---- what peers said

peers_stay : (later earlier : Trace) (peer : ℕ) (said : Cut) (verdict : Verdict) → (more : List Cut) × (peers_said (later ++ Said (source.Peer peer) said verdict ∷ earlier) ≡ (peers_said earlier ++ said ∷ []) ++ more)
peers_stay [] earlier peer said verdict = ([], sym (append-nil (peers_said earlier ++ said ∷ [])))
peers_stay (Said from other v ∷ later) earlier peer said verdict =
    let before = peers_stay later earlier peer said verdict in
    ⊎_elim
    (λ its. (
      before.0 ++ other ∷ [],
      ap (λ b. if b then peers_said (later ++ Said (source.Peer peer) said verdict ∷ earlier) ++ other ∷ [] else peers_said (later ++ Said (source.Peer peer) said verdict ∷ earlier)) its
          ∙ ap (λ cuts. cuts ++ other ∷ []) before.1 ∙ append_assoc (peers_said earlier ++ said ∷ []) before.0 (other ∷ []),
    ))
    (λ elsewhere. (
      before.0,
      ap (λ b. if b then peers_said (later ++ Said (source.Peer peer) said verdict ∷ earlier) ++ other ∷ [] else peers_said (later ++ Said (source.Peer peer) said verdict ∷ earlier)) elsewhere ∙ before.1,
    ))
    (cases_Bool (is_from_peer from))
peers_stay (entry ∷ later) earlier peer said verdict = peers_stay later earlier peer said verdict

-- the one line of each datagram
mail_line : (xs : List (List ℕ)) (ys : List (Option Trail)) (place : ℕ) (said : Cut) → Zip IsMail xs ys → slice_get (flat_map datagram_cuts xs) place ≡ Some said
    → (line : List ℕ) × (trail : Option Trail) × (slice_get ys place ≡ Some trail) × (said ≡ cut.Line line) × IsGood line trail
mail_line [] ys place said zip at = absurd (none_some said at)
mail_line (bytes ∷ xs) [] place said zip at = absurd zip
mail_line (bytes ∷ xs) (trail ∷ ys) place said zip at =
    let mail = zip.0 in
    let one : datagram_cuts bytes ≡ cut.Line mail.0 ∷ [] = ap datagram_cuts mail.1 ∙ datagram_is_line mail.0 mail.2 in
    of place (ap (λ cuts. slice_get (cuts ++ flat_map datagram_cuts xs) place) (sym one) ∙ at) (mail_line xs ys)
  where
    of : (place : ℕ) → slice_get (cut.Line zip.0.0 ∷ flat_map datagram_cuts xs) place ≡ Some said
        → ((place : ℕ) (said : Cut) → Zip IsMail xs ys → slice_get (flat_map datagram_cuts xs) place ≡ Some said → (line : List ℕ) × (trail : Option Trail) × (slice_get ys place ≡ Some trail) × (said ≡ cut.Line line) × IsGood line trail)
        → (line : List ℕ) × (its : Option Trail) × (slice_get (trail ∷ ys) place ≡ Some its) × (said ≡ cut.Line line) × IsGood line its
    of zero at rest = let same : cut.Line zip.0.0 ≡ said = cc in (zip.0.0, trail, refl, sym same, zip.0.3)
    of (suc place) at rest = rest place said zip.1 at

-- nothing was handed in
handed_none : (later earlier : Trace) (listener : ℕ) (said : Cut) (parts : PartsSeen) (line : List ℕ) → handed (later ++ Said (source.Submit listener) said (Accepted parts line) ∷ earlier) ≡ [] → ⊥
handed_none [] earlier listener said parts line none = no_more (handed earlier) parts none
  where
    no_more : (xs : List PartsSeen) (x : PartsSeen) → xs ++ x ∷ [] ≡ [] → ⊥
    no_more [] x e = cc
    no_more (y ∷ xs) x e = cc
handed_none (Said from other v ∷ later) earlier listener said parts line none = handed_none later earlier listener said parts line (first_none _ (handed_in from v) none)
  where
    first_none : (xs ys : List PartsSeen) → xs ++ ys ≡ [] → xs ≡ []
    first_none [] ys e = refl
    first_none (x ∷ xs) ys e = absurd cc
handed_none (entry ∷ later) earlier listener said parts line none = handed_none later earlier listener said parts line none

-- ---- a server after its round

-- what is known of it, and of all others as they were before
pub record IsAfter (n : NetSeen) (known : List Known) (server : ℕ) (u : ServerSeen) : Type 0 where
  pub had : Had u.setting u.made u.history
  pub sound : IsSound u.setting
  pub unmade : NoneUnmade u
  -- the other ends of its links, and their texts
  pub others : (place : ℕ) (end : End) → slice_get u.made place ≡ Some (ForPair end)
      → (other : ServerSeen) × (its : Known) × (slice_get n.servers end.server ≡ Some other) × (slice_get known end.server ≡ Some its) × IsPaired u other place end
      × Zip (IsOf end.server other.setting) (accepted_of (trace_at other)) its.descents
  -- its datagrams
  pub mine : Known
  pub here : slice_get known server ≡ Some mine
  pub waiting : List (List ℕ)
  pub mail : Zip IsMail (carried_in u.setting u.history ++ waiting) mine.mail

module _ (n : NetSeen) (known : List Known) (server : ℕ) (u : ServerSeen) (now : IsAfter n known server u) where
  module _ (later earlier : Trace) (from : Source) (said : Cut) (parts : PartsSeen) (line : List ℕ) (split : trace_at u ≡ later ++ Said from said (Accepted parts line) ∷ earlier) where
    abbrev packet : PacketSeen
    packet = packet_of from (moment_of earlier) parts line

    abbrev trail : Option Trail
    trail = option_map (λ t. Passed t (by_at server u.setting now.sound earlier from parts)) (trail_from n known server u earlier from said)

    accepted : IsAcceptedOf u.setting earlier from said parts line
    accepted = packets_come_from_lines u.setting u.history later earlier from said parts line split

    station : IsNotHanded from → IsTrue (is_station (name_of (origin_at u.setting earlier from)))
    station not' =
        subst (λ o. IsTrue (is_station (name_of o))) (said_at u.setting earlier from accepted.by accepted.others not' accepted.comes).0
        (origins_are_stations u.setting u.history later earlier from said (Accepted parts line) accepted.by accepted.others now.sound (joins_have_addresses u.setting u.made u.history now.had) split accepted.comes)

    goes : IsNotHanded from → process_of accepted.before (origin_at u.setting earlier from) u.setting.server (others_at earlier from) ≡ Ok parts
    goes not' =
        let spoken = said_at u.setting earlier from accepted.by accepted.others not' accepted.comes in
        subst (λ others. process_of accepted.before (origin_at u.setting earlier from) u.setting.server others ≡ Ok parts) spoken.1
        (subst (λ by. process_of accepted.before by u.setting.server accepted.others ≡ Ok parts) spoken.0 accepted.goes)

    -- what passed before
    passes_on : IsNotHanded from → keeps_names (origin_at u.setting earlier from) ≡ true → (before : Option Trail) → IsGood accepted.text before
        → IsOf server u.setting packet (option_map (λ t. Passed t (by_at server u.setting now.sound earlier from parts)) before)
    passes_on not' keeps before good =
        passes server u.setting now.sound earlier from accepted.text accepted.before parts line before (station not') keeps accepted.reads (goes not') accepted.its good

  -- ---- on a link

  -- what was said on a link came for it
  brought_some : (later earlier : Trace) (link : ℕ) (said : Cut) (verdict : Verdict) → trace_at u ≡ later ++ Said (source.Link link) said verdict ∷ earlier → brought u link ≡ [] → ⊥
  brought_some later earlier link said verdict split none =
      let came = links_bring_what_came u.setting u.history link (none_came_early u.setting u.made u.history link now.had) in
      let nothing : brought_by (trace_at u) link ≡ [] = front (brought_by (trace_at u) link) came.0 (sym came.1 ∙ front (came_to u.history link) _ none) in
      let stays = said_stays later earlier (source.Link link) said verdict link (eqb_same link) (subst (Each OpensSilent) split (opens_silent u.setting u.history (fresh_links u.setting u.made u.history now.had))) in
      let silent : said_on (trace_at u) link ≡ [] = links_say_what_they_brought u.setting u.history link ∙ ap cuts_of nothing in
      let all : (said_on earlier link ++ said ∷ []) ++ stays.0 ≡ [] = sym stays.1 ∙ ap (λ t. said_on t link) (sym split) ∙ silent in
      some_said (said_on earlier link) said (front_cuts (said_on earlier link ++ said ∷ []) stays.0 all)
    where
      front : (xs ys : List ℕ) → xs ++ ys ≡ [] → xs ≡ []
      front [] ys e = refl
      front (x ∷ xs) ys e = absurd cc

      front_cuts : (xs ys : List Cut) → xs ++ ys ≡ [] → xs ≡ []
      front_cuts [] ys e = refl
      front_cuts (x ∷ xs) ys e = absurd cc

      some_said : (xs : List Cut) (x : Cut) → xs ++ x ∷ [] ≡ [] → ⊥
      some_said [] x e = cc
      some_said (y ∷ xs) x e = cc

  -- a link of a pair
  pair_good : (later earlier : Trace) (place : ℕ) (end : End) (said : Cut) (parts : PartsSeen) (line : List ℕ) → slice_get u.made place ≡ Some (ForPair end)
      → (split : trace_at u ≡ later ++ Said (source.Link (place + 1)) said (Accepted parts line) ∷ earlier) (text : List ℕ) (before : PartsSeen) → said ≡ cut.Line text → IsLine text → parts_of text ≡ Ok before
      → (keeps_names (origin_at u.setting earlier (source.Link (place + 1))) ≡ true)
      × IsGood text (trail_in_text (slice_get n.servers end.server) (slice_get known end.server) (number_of end) (length (said_on earlier (place + 1))))
  pair_good later earlier place end said parts line made split text before is whole reads =
      let o = now.others place end made in
      let other = o.0 in
      let its = o.1 in
      let p = passed u other place end o.4 later earlier said (Accepted parts line) text before split is whole reads in
      let a = accepted later earlier (source.Link (place + 1)) said parts line split in
      let found = found_good end.server other.setting p.relay.packet (accepted_of (trace_at other)) its.descents p.relay.accepted.0 o.5 p.relay.accepted.1 in
      let trail_is : trail_in_text (slice_get n.servers end.server) (slice_get known end.server) (number_of end) (length (said_on earlier (place + 1))) ≡ descent_in p.relay.packet (accepted_of (trace_at other)) its.descents =
      ap (λ s. trail_in_text s (slice_get known end.server) (number_of end) (length (said_on earlier (place + 1)))) o.2
      ∙ ap (λ k. trail_in_text (Some other) k (number_of end) (length (said_on earlier (place + 1)))) o.3
      ∙ ap (trail_of_line other its.descents) p.there ∙ ap (trail_of_kind other its.descents) p.relay.kind in (
        ap keeps_names (sym (said_at u.setting earlier (source.Link (place + 1)) a.by a.others tt a.comes).0) ∙ p.keeps a.by a.comes.0,
        subst (λ t. IsGood text t) (sym trail_is) (subst (λ l. IsGood l (descent_in p.relay.packet (accepted_of (trace_at other)) its.descents)) (sym p.line) found),
      )

  abbrev link_trail : Trace → ℕ → Option Made → Cut → Option Trail
  link_trail earlier link m said = trail_on n known m (length (said_on earlier link)) said

  link_good : (later earlier : Trace) (link : ℕ) (said : Cut) (parts : PartsSeen) (line : List ℕ) (split : trace_at u ≡ later ++ Said (source.Link link) said (Accepted parts line) ∷ earlier)
      → IsOf server u.setting (packet_of (source.Link link) (moment_of earlier) parts line)
      (option_map (λ t. Passed t (by_at server u.setting now.sound earlier (source.Link link) parts)) (trail_from n known server u earlier (source.Link link) said))
  link_good later earlier link said parts line split = ⊎_elim
      (λ some. made_by (slice_get u.made (link - 1)) refl (ltb-true 0 link some))
      (λ zero'. absurd (let low = ltb-false 0 link zero' in brought_some later earlier link said (Accepted parts line) split (ap (brought u) (omega (arith, low)) ∙ now.unmade.first)))
      (cases_Bool (nat_lt 0 link))
    where
      made_by : (m : Option Made) → slice_get u.made (link - 1) ≡ m → 0 < link
          → IsOf server u.setting (packet_of (source.Link link) (moment_of earlier) parts line) (option_map (λ t. Passed t (by_at server u.setting now.sound earlier (source.Link link) parts)) (link_trail earlier link m said))
      made_by None is some =
          let past = place_past u.made (link - 1) is in
          absurd (brought_some later earlier link said (Accepted parts line) split (now.unmade.above link (omega (arith, past, some))))
      made_by (Some ForClient) is some =
          let a = accepted later earlier (source.Link link) said parts line split in
          subst (λ c. IsOf server u.setting (packet_of (source.Link link) (moment_of earlier) parts line) (option_map (λ t. Passed t (by_at server u.setting now.sound earlier (source.Link link) parts)) (submitted_as c))) (sym a.is)
          (passes_first server u.setting now.sound earlier (source.Link link) a.text a.before parts line (station later earlier (source.Link link) said parts line split tt) a.reads (goes later earlier (source.Link link) said parts line split tt) a.its
          (submitted_good a.text a.before a.whole a.reads))
      made_by (Some (ForPair end)) is some =
          let a = accepted later earlier (source.Link link) said parts line split in
          let e : link ≡ link - 1 + 1 = omega (arith, some) in
          let good = pair_good later earlier (link - 1) end said parts line is (subst (λ k. trace_at u ≡ later ++ Said (source.Link k) said (Accepted parts line) ∷ earlier) e split) a.text a.before a.is a.whole a.reads in
          let both = subst (λ k. (keeps_names (origin_at u.setting earlier (source.Link k)) ≡ true)
          × IsGood a.text (trail_in_text (slice_get n.servers end.server) (slice_get known end.server) (number_of end) (length (said_on earlier k)))) (sym e) good in
          passes_on later earlier (source.Link link) said parts line split tt both.0 (link_trail earlier link (Some (ForPair end)) said) both.1

  -- ---- in a datagram

  peer_good : (later earlier : Trace) (peer : ℕ) (said : Cut) (parts : PartsSeen) (line : List ℕ) (split : trace_at u ≡ later ++ Said (source.Peer peer) said (Accepted parts line) ∷ earlier)
      → IsOf server u.setting (packet_of (source.Peer peer) (moment_of earlier) parts line)
      (option_map (λ t. Passed t (by_at server u.setting now.sound earlier (source.Peer peer) parts)) (trail_from n known server u earlier (source.Peer peer) said))
  peer_good later earlier peer said parts line split =
      let a = accepted later earlier (source.Peer peer) said parts line split in
      let place = length (peers_said earlier) in
      let came = carried_in u.setting u.history in
      let stays = peers_stay later earlier peer said (Accepted parts line) in
      let told = (mail_history u.setting u.history (one_line_each u.setting u.made u.history now.had)).0 in
      let at : slice_get (flat_map datagram_cuts (came ++ now.waiting)) place ≡ Some said =
      ap (λ cuts. slice_get cuts place) (flat_map-append datagram_cuts came now.waiting)
      ∙ at_longer (flat_map datagram_cuts came) (flat_map datagram_cuts now.waiting) place said
      (ap (λ cuts. slice_get cuts place) (sym told ∙ ap peers_said split ∙ stays.1) ∙ at_longer (peers_said earlier ++ said ∷ []) stays.0 place said (at_end (peers_said earlier) said)) in
      let mail = mail_line (came ++ now.waiting) now.mine.mail place said now.mail at in
      let both : cut.Line a.text ≡ cut.Line mail.0 = sym a.is ∙ mail.3 in
      let same : a.text ≡ mail.0 = cc in
      let trail_is : mail_at (slice_get known server) (said_by_peers earlier) ≡ mail.1 =
      ap (λ o. mail_at o (said_by_peers earlier)) now.here ∙ ap (λ k. mail_at (Some now.mine) k) (said_count earlier) ∙ ap (λ o. option_and_then (λ trail'. trail') o) mail.2 in
      passes_on later earlier (source.Peer peer) said parts line split tt refl (mail_at (slice_get known server) (said_by_peers earlier))
      (subst (λ t. IsGood a.text t) (sym trail_is) (subst (λ l. IsGood l mail.1) (sym same) mail.4))

  entry_good : (later earlier : Trace) (from : Source) (said : Cut) (parts : PartsSeen) (line : List ℕ) (split : trace_at u ≡ later ++ Said from said (Accepted parts line) ∷ earlier)
      → IsOf server u.setting (packet_of from (moment_of earlier) parts line) (option_map (λ t. Passed t (by_at server u.setting now.sound earlier from parts)) (trail_from n known server u earlier from said))
  entry_good later earlier (source.Link link) said parts line split = link_good later earlier link said parts line split
  entry_good later earlier (source.Peer peer) said parts line split = peer_good later earlier peer said parts line split
  entry_good later earlier (source.Submit listener) said parts line split =
      absurd (handed_none later earlier listener said parts line (ap handed (sym split) ∙ (mail_history u.setting u.history (one_line_each u.setting u.made u.history now.had)).1))

  -- ---- all that it accepted

  own_descents : (later earlier : Trace) (from : Source) (said : Cut) (verdict : Verdict) → trace_at u ≡ later ++ Said from said verdict ∷ earlier
      → Zip (IsOf server u.setting) (accepted_by from (moment_of earlier) verdict) (descents_by n known server u earlier from said verdict)
  own_descents later earlier from said (Accepted parts line) split = (entry_good later earlier from said parts line split, tt)
  own_descents later earlier from said PassedOver split = tt
  own_descents later earlier from said (Refused why) split = tt
  own_descents later earlier from said (LoggedIn session answer) split = tt
  own_descents later earlier from said (Filtered answer) split = tt

  descents_from : (later t : Trace) → trace_at u ≡ later ++ t → Zip (IsOf server u.setting) (accepted_of t) (descents_of n known server u t)
  descents_from later [] split = tt
  descents_from later (Said from said verdict ∷ t) split =
      zip_both (IsOf server u.setting) (accepted_of t) (accepted_by from (moment_of t) verdict) (descents_of n known server u t) (descents_by n known server u t from said verdict)
      (descents_from (later ++ Said from said verdict ∷ []) t (split ∙ sym (append_assoc later (Said from said verdict ∷ []) t)))
      (own_descents later t from said verdict split)
  descents_from later (entry ∷ t) split = descents_from (later ++ entry ∷ []) t (split ∙ sym (append_assoc later (entry ∷ []) t))

  pub descents_good : Zip (IsOf server u.setting) (accepted_of (trace_at u)) (descents_of n known server u (trace_at u))
  descents_good = descents_from [] (trace_at u) refl
