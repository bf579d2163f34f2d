-- Each accepted packet is that of a line that was said there; its like was accepted a window before; and its path doesn't name the server.
use Rattle.std.proofs.Common.{◌≡◌, ℕ, suc, le_refl, ◌+◌, ◌-◌, ◌≤◌, ◌&&◌, nat_lt, Bool, true, false, List, [], ◌∷◌, ◌++◌, refl, sym, ap, ◌∙◌, arith, subst, Option, Some, None, Result, Ok, Err, if◌then◌else◌}
use Rattle.std.specs.Bool.{⊤}
use Rattle.std.specs.Prelude.{slice_get}
use Rattle.std.specs.List.{All, list_any}
use Rattle.std.proofs.lemmas.Bool.{and_parts, or_parts, ltb-false, true≢false}
use Rattle.std.proofs.lemmas.List.Elements.{All-append, All-cons, All-head, All-nil, All-tail, All-weaker}
use Rattle.aprs_base.specs.Bytes.{IsLine}
use Rattle.aprs_base.specs.Cuts.{cuts_by, rest_of}
use Rattle.aprs_base.specs.PacketSeen.{PacketSeen}
use Rattle.aprs_base.specs.PartsSeen.{PartsSeen}
use Rattle.aprs_base.specs.declared.cutting.Cut.{Cut}
use Rattle.aprs_base.specs.declared.cutting.Cut.TheVariants as cut
use Rattle.aprs_base.specs.declared.events.Event.{Event}
use Rattle.aprs_base.specs.declared.events.Event.TheVariants as event
use Rattle.aprs_base.specs.declared.packets.Source.{Source}
use Rattle.aprs_base.specs.declared.packets.Source.TheVariants as source
use Rattle.aprs_base.specs.declared.texts.Addr.{Addr}
use Rattle.tnc2_line.specs.Packet.{parts_of, text_of}
use Rattle.tnc2_line.specs.declared.reading.LineFault.{LineFault}
use Rattle.tnc2_line.proofs.Laws.{parts_give}
use Rattle.login_pass.specs.Login.{is_verified, login_of}
use Rattle.login_pass.specs.declared.login_line.Login.{Login}
use Rattle.login_pass.specs.declared.login_line.LoginFault.{LoginFault}
use Rattle.q_construct.specs.Rule.{among, names_after, process_of}
use Rattle.q_construct.specs.declared.drops.QDrop.{QDrop}
use Rattle.q_construct.specs.declared.origins.Origin.{Origin}
use Rattle.q_construct.specs.declared.origins.Origin.TheVariants as origin
use Rattle.q_construct.proofs.Laws.{answer_is, answer_unnamed}
use Rattle.dupe_window.specs.Keys.{is_same_key, is_text, key_of}
use Rattle.aprs_history.specs.Setting.{Peer, Setting, is_dupe_kind, is_filter_kind, is_only_kind, is_same_addr, peer_from}
use Rattle.aprs_history.specs.declared.verdicts.Refusal.{Refusal}
use Rattle.aprs_history.specs.declared.verdicts.Refusal.TheVariants as refusal
use Rattle.aprs_history.specs.declared.verdicts.Session.{Session}
use Rattle.aprs_history.specs.declared.verdicts.Verdict.{Verdict}
use Rattle.aprs_history.specs.declared.verdicts.Verdict.TheVariants.{PassedOver, Refused, LoggedIn, Filtered, Accepted}
use Rattle.aprs_history.specs.Trace.{Trace, Entry, RoundBegan, Ticked, Opened, Brought, Said, is_live, moment_of}
use Rattle.aprs_history.specs.Links.{brought_by}
use Rattle.aprs_history.specs.Verdicts.{Carrier, Scene, Speaker, Visitor, carried_verdict, client_origin, command_verdict, filter_command, is_comment, is_duplicate, is_repeat, login_answer, login_verdict, packet_verdict, read_and_routed, routed, spoken_verdict, verdict_of}
use Rattle.aprs_history.specs.Scenes.{accepted_by, accepted_of, datagram_scene, packet_of, scene_of}
use Rattle.aprs_history.specs.History.{History, bring, datagram_cuts, say_all, trace_of, with_event}
use Rattle.aprs_history.specs.Accepting.{AcceptancesAreApart, IsAcceptedOf, IsOfPeer, IsPast, IsSaidAs, NoneNamesTheServer, PacketsComeFromLines, SpeaksAs}
use Rattle.aprs_history.proofs.StepLemmas.{Each, IsOfLink, IsQuiet, Steps, each_at, kept_all}
use Rattle.aprs_history.proofs.WholeLines.{AreWhole, IsWhole, cuts_whole}

-- ---- what a line met that was accepted

record Goes (scene : Scene) (speaker : Speaker) (text : List ℕ) (parts : PartsSeen) (line : List ℕ) : Type 0 where
  before : PartsSeen
  by : Origin
  speaks : SpeaksAs speaker by
  reads : parts_of text ≡ Ok before
  goes : process_of before by scene.server scene.others ≡ Ok parts
  new : scene.copies parts ≡ false
  its : line ≡ text_of parts

refused_not : (why : Refusal) (parts : PartsSeen) (line : List ℕ) → Refused why ≡ Accepted parts line → ⊥
refused_not why parts line e = cc

module _ (scene : Scene) (speaker : Speaker) (by : Origin) (speaks : SpeaksAs speaker by) (text : List ℕ) (parts : PartsSeen) (line : List ℕ) where
  kept_goes : (before whole : PartsSeen) → parts_of text ≡ Ok before → process_of before by scene.server scene.others ≡ Ok whole → (b : Bool) → scene.copies whole ≡ b
      → (if b then Refused (refusal.Duplicate whole (text_of whole)) else Accepted whole (text_of whole)) ≡ Accepted parts line → Goes scene speaker text parts line
  kept_goes before whole reads goes true copy e = absurd (refused_not (refusal.Duplicate whole (text_of whole)) parts line e)
  kept_goes before whole reads goes false new e =
      let same : whole ≡ parts = cc in
      let text_same : text_of whole ≡ line = cc in
      record {
        before = before;
        by = by;
        speaks = speaks;
        reads = reads;
        goes = goes ∙ ap Ok same;
        new = ap scene.copies (sym same) ∙ new;
        its = sym text_same ∙ ap text_of same;
      }

  routed_goes : (before : PartsSeen) → parts_of text ≡ Ok before → (r : Result PartsSeen QDrop) → process_of before by scene.server scene.others ≡ r
      → packet_verdict scene.copies (routed r) ≡ Accepted parts line → Goes scene speaker text parts line
  routed_goes before reads (Err drop') is e = absurd (refused_not (refusal.Path drop') parts line e)
  routed_goes before reads (Ok whole) is e = kept_goes before whole reads is (scene.copies whole) refl e

  read_goes : (r : Result PartsSeen LineFault) → parts_of text ≡ r → packet_verdict scene.copies (read_and_routed scene.server by scene.others r) ≡ Accepted parts line → Goes scene speaker text parts line
  read_goes (Err fault) is e = absurd (refused_not (refusal.Packet fault) parts line e)
  read_goes (Ok before) is e = routed_goes before is (process_of before by scene.server scene.others) refl e

  carried_goes : carried_verdict scene by text ≡ Accepted parts line → Goes scene speaker text parts line
  carried_goes e = read_goes (parts_of text) refl e

login_not : (server : List ℕ) (filters : Bool) (line : List ℕ) (login : Result Login LoginFault) (parts : PartsSeen) (sent : List ℕ) → login_verdict server filters line login ≡ Accepted parts sent → ⊥
login_not server filters line (Err fault) parts sent e = cc
login_not server filters line (Ok login) parts sent e = of (is_text login.call server) e
  where
    of : (b : Bool) → (if b then Refused refusal.OwnName else LoggedIn (record { call = login.call; verified = is_verified login }) (login_answer filters line login.filter)) ≡ Accepted parts sent → ⊥
    of true e = cc
    of false e = cc

command_not : (filters : Bool) (session : Option Session) (text : Option (List ℕ)) (parts : PartsSeen) (sent : List ℕ) → command_verdict filters session text ≡ Accepted parts sent → ⊥
command_not filters None text parts sent e = cc
command_not filters (Some session) None parts sent e = cc
command_not filters (Some session) (Some text) parts sent e = cc

spoken_goes : (scene : Scene) (speaker : Speaker) (text : List ℕ) (parts : PartsSeen) (line : List ℕ) → spoken_verdict scene speaker text ≡ Accepted parts line → Goes scene speaker text parts line
spoken_goes scene (Visitor kind None) text parts line e = of (is_comment text) e
  where
    of : (b : Bool) → (if b then command_verdict (is_filter_kind kind) None (filter_command text) else login_verdict scene.server (is_filter_kind kind) text (login_of text)) ≡ Accepted parts line
        → Goes scene (Visitor kind None) text parts line
    of true e = absurd (command_not (is_filter_kind kind) None (filter_command text) parts line e)
    of false e = absurd (login_not scene.server (is_filter_kind kind) text (login_of text) parts line e)
spoken_goes scene (Visitor kind (Some session)) text parts line e = of (is_comment text) (is_dupe_kind kind) e
  where
    of : (b d : Bool) → (if b then command_verdict (is_filter_kind kind) (Some session) (filter_command text) else if d then Refused refusal.ReadOnly else carried_verdict scene (client_origin (is_only_kind kind) session) text) ≡ Accepted parts line
        → Goes scene (Visitor kind (Some session)) text parts line
    of true d e = absurd (command_not (is_filter_kind kind) (Some session) (filter_command text) parts line e)
    of false true e = absurd (refused_not refusal.ReadOnly parts line e)
    of false false e = carried_goes scene (Visitor kind (Some session)) (client_origin (is_only_kind kind) session) refl text parts line e
spoken_goes scene (Carrier from) text parts line e = of (is_comment text) e
  where
    of : (b : Bool) → (if b then PassedOver else carried_verdict scene from text) ≡ Accepted parts line → Goes scene (Carrier from) text parts line
    of true e = absurd cc
    of false e = carried_goes scene (Carrier from) from refl text parts line e

record SaidGoes (scene : Scene) (said : Cut) (parts : PartsSeen) (line : List ℕ) : Type 0 where
  text : List ℕ
  is : said ≡ cut.Line text
  whole : IsLine text
  goes : Goes scene scene.speaker text parts line

verdict_goes : (scene : Scene) (said : Cut) (parts : PartsSeen) (line : List ℕ) → IsWhole said → verdict_of scene said ≡ Accepted parts line → SaidGoes scene said parts line
verdict_goes scene cut.Long parts line whole e = absurd (refused_not refusal.Long parts line e)
verdict_goes scene (cut.Line text) parts line whole e = record { text = text; is = refl; whole = whole; goes = spoken_goes scene scene.speaker text parts line e }

-- ---- the peer that is found is one of the setting

record IsThere (n : ℕ) (peers : List Peer) (number : ℕ) (call : List ℕ) : Type 0 where
  place : ℕ
  peer : Peer
  its : number ≡ n + place
  there : slice_get peers place ≡ Some peer
  named : peer.call ≡ call

found : (n : ℕ) (peers : List Peer) (at : Addr) (number : ℕ) (call : List ℕ) → peer_from n peers at ≡ Some (number, call) → IsThere n peers number call
found n [] at number call e = absurd cc
found n (peer ∷ peers) at number call e = of (is_same_addr peer.at at) (λ later. found (n + 1) peers at number call later) e
  where
    of : (b : Bool) → (peer_from (n + 1) peers at ≡ Some (number, call) → IsThere (n + 1) peers number call)
        → (if b then Some (n, peer.call) else peer_from (n + 1) peers at) ≡ Some (number, call) → IsThere n (peer ∷ peers) number call
    of true later e =
        let same : (n, peer.call) ≡ (number, call) = cc in
        let first : n ≡ number = ap (λ (p : ℕ × List ℕ). p.0) same in
        record { place = 0; peer = peer; its = omega (arith, first); there = refl; named = ap (λ (p : ℕ × List ℕ). p.1) same }
    of false later e = let next = later e in record { place = suc next.place; peer = next.peer; its = omega (arith, next.its); there = next.there; named = next.named }

pub is_peer : (s : Setting) (at : Addr) (peer : ℕ × List ℕ) (by : Origin) → peer_from 0 s.peers at ≡ Some peer → by ≡ origin.Peer peer.1 → IsOfPeer s peer.0 by
is_peer s at peer by e is =
    let here = found 0 s.peers at peer.0 peer.1 e in
    let place : here.place ≡ peer.0 = omega (arith, here.its) in
    record { peer = here.peer; there = ap (slice_get s.peers) (sym place) ∙ here.there; its = is ∙ ap origin.Peer (sym here.named) }

-- ---- over a trace

module _ (s : Setting) where
  record IsMet (t : Trace) (from : Source) (said : Cut) (parts : PartsSeen) (line : List ℕ) : Type 0 where
    accepted : IsAcceptedOf s t from said parts line
    new : is_duplicate s.window (moment_of t) (accepted_of t) parts ≡ false

  abbrev IsMetAt : Trace → Entry → Type 0
  IsMetAt t (Said from said (Accepted parts line)) = IsMet t from said parts line
  IsMetAt t entry = ⊤

  -- a scene that tells of the trace what is said from there meets
  record Tells (scene : Trace → Scene) (from : Source) : Type 0 where
    server : (t : Trace) → (scene t).server ≡ s.server
    copies : (t : Trace) → (scene t).copies ≡ is_duplicate s.window (moment_of t) (accepted_of t)
    comes : (t : Trace) (by : Origin) → SpeaksAs (scene t).speaker by → IsSaidAs s t from by (scene t).others

  said_met : (scene : Trace → Scene) (from : Source) → Tells scene from → (said : Cut) → IsWhole said → (t : Trace) (verdict : Verdict) → verdict_of (scene t) said ≡ verdict → IsMetAt t (Said from said verdict)
  said_met scene from tells said whole t (Accepted parts line) is =
      let goes = verdict_goes (scene t) said parts line whole is in
      let g = goes.goes in
      record {
        accepted = record {
          text = goes.text;
          before = g.before;
          by = g.by;
          others = (scene t).others;
          is = goes.is;
          whole = goes.whole;
          reads = g.reads;
          comes = tells.comes t g.by g.speaks;
          goes = ap (λ server. process_of g.before g.by server (scene t).others) (sym (tells.server t)) ∙ g.goes;
          its = g.its;
        };
        new = ap (λ copies. copies parts) (sym (tells.copies t)) ∙ g.new;
      }
  said_met scene from tells said whole t PassedOver is = tt
  said_met scene from tells said whole t (Refused why) is = tt
  said_met scene from tells said whole t (LoggedIn session answer) is = tt
  said_met scene from tells said whole t (Filtered answer) is = tt

  all_met : (scene : Trace → Scene) (from : Source) → Tells scene from → (cuts : List Cut) → AreWhole cuts → (t : Trace) → Each IsMetAt t → Each IsMetAt (say_all scene from cuts t)
  all_met scene from tells [] whole t met = met
  all_met scene from tells (said ∷ cuts) whole t met =
      let verdict = verdict_of (scene t) said in
      all_met scene from tells cuts whole.1 (Said from said verdict ∷ t) (said_met scene from tells said whole.0 t verdict refl, met)

  met_quiet : (t : Trace) (entry : Entry) → IsQuiet entry → Each IsMetAt t → Each IsMetAt (entry ∷ t)
  met_quiet t RoundBegan is met = absurd is
  met_quiet t (Opened door new link from) is met = absurd is
  met_quiet t (Brought link bytes) is met = absurd is
  met_quiet t (Said from said verdict) is met = absurd is
  met_quiet t entry is met = (tt, met)

  met_steps : Steps s (Each IsMetAt)
  met_steps = record {
    quiet = met_quiet;
    refused = λ t listener said why alone met. (tt, met);
    submitted = λ t listener bytes first cuts login are is met.
        all_met (datagram_scene s (origin.Udp login)) (source.Submit listener)
        (record { server = λ u. refl; copies = λ u. refl; comes = λ u by speaks. (record { first = first; login = login; verified = is; its = speaks }, refl) })
        cuts (subst AreWhole are (cuts_whole (rest_of [] ++ (bytes ++ 10 ∷ [])))).1 t met;
    relayed = λ t from bytes peer is met.
        all_met (datagram_scene s (origin.Peer peer.1)) (source.Peer peer.0)
        (record { server = λ u. refl; copies = λ u. refl; comes = λ u by speaks. (is_peer s from peer by is speaks, refl) })
        (datagram_cuts bytes) (cuts_whole (rest_of [] ++ (bytes ++ 10 ∷ []))) t met;
  }

  met_bring : (k : ℕ) (bytes : List ℕ) (t : Trace) → Each IsMetAt t → Each IsMetAt (bring s k bytes t)
  met_bring k bytes t met =
      all_met (λ now. scene_of s now k) (source.Link k) (record { server = λ u. refl; copies = λ u. refl; comes = λ u by speaks. (speaks, refl) })
      (cuts_by (brought_by t k) bytes) (cuts_whole (rest_of (brought_by t k) ++ bytes)) (Brought k bytes ∷ t) (tt, met)

  met_of_link : (e : Event) (t : Trace) → IsOfLink e → Each IsMetAt t → Each IsMetAt (with_event s e t)
  met_of_link (event.Opened listener link from) t is met = (tt, met)
  met_of_link (event.Joined uplink link at) t is met = (tt, met)
  met_of_link (event.Bytes k bytes) t is met = of (is_live t k)
    where
      of : (b : Bool) → Each IsMetAt (if b then bring s k bytes t else t)
      of true = met_bring k bytes t met
      of false = met
  met_of_link e t is met = absurd is

  each_met : (h : History) → Each IsMetAt (trace_of s h)
  each_met h = kept_all s (Each IsMetAt) met_steps (λ t met. (tt, met)) met_of_link tt h

  met_at : (h : History) (later earlier : Trace) (from : Source) (said : Cut) (parts : PartsSeen) (line : List ℕ) → trace_of s h ≡ later ++ Said from said (Accepted parts line) ∷ earlier → IsMet earlier from said parts line
  met_at h later earlier from said parts line split = each_at IsMetAt later earlier (Said from said (Accepted parts line)) (subst (Each IsMetAt) split (each_met h))

pub packets_come_from_lines : PacketsComeFromLines
packets_come_from_lines s h later earlier from said parts line split = (met_at s h later earlier from said parts line split).accepted

-- ---- a window apart

abbrev IsNotLater : ℕ → PacketSeen → Type 0
IsNotLater now packet = packet.moment ≤ now

none_later : (from : Source) (moment : ℕ) (verdict : Verdict) → All (IsNotLater moment) (accepted_by from moment verdict)
none_later from moment (Accepted parts line) = All-cons (IsNotLater moment) (packet_of from moment parts line) [] (le_refl moment) (All-nil (IsNotLater moment))
none_later from moment verdict = All-nil (IsNotLater moment)

-- no packet was accepted after the moment that a trace has come to
all_before : (t : Trace) → All (IsNotLater (moment_of t)) (accepted_of t)
all_before [] = All-nil (IsNotLater 0)
all_before (Said from said verdict ∷ t) =
    All-append (IsNotLater (moment_of t)) (accepted_of t) (accepted_by from (moment_of t) verdict) (all_before t) (none_later from (moment_of t) verdict)
all_before (Ticked moment ∷ t) =
    All-weaker (IsNotLater (moment_of t)) (IsNotLater (moment_of (Ticked moment ∷ t))) (λ packet before. grind (arith, before)) (accepted_of t) (all_before t)
all_before (entry ∷ t) = all_before t

past_of : (s : Setting) (now : ℕ) (parts : PartsSeen) (packets : List PacketSeen) → All (IsNotLater now) packets → list_any (is_repeat s.window now (key_of parts)) packets ≡ false
    → All (IsPast s now parts) packets
past_of s now parts [] before none = All-nil (IsPast s now parts)
past_of s now parts (packet ∷ packets) before none =
    let both = or_parts (is_repeat s.window now (key_of parts) packet) (list_any (is_repeat s.window now (key_of parts)) packets) none in
    let earlier : packet.moment ≤ now = All-head (IsNotLater now) packet packets before in
    All-cons (IsPast s now parts) packet packets
    (λ same.
    let far : nat_lt (now - packet.moment) s.window ≡ false = of (nat_lt (now - packet.moment) s.window) (is_same_key (key_of parts) (key_of packet.parts)) both.0 same in
    let apart : s.window ≤ now - packet.moment = ltb-false (now - packet.moment) s.window far in
    omega (arith, apart, earlier))
    (past_of s now parts packets (All-tail (IsNotLater now) packet packets before) both.1)
  where
    of : (a b : Bool) → (a && b) ≡ false → b ≡ true → a ≡ false
    of false b e same = refl
    of true b e same = absurd (true≢false (sym same ∙ e))

pub acceptances_are_apart : AcceptancesAreApart
acceptances_are_apart s h later earlier from said parts line split =
    past_of s (moment_of earlier) parts (accepted_of earlier) (all_before earlier) (met_at s h later earlier from said parts line split).new

-- ---- the server isn't named

one_answer : (r : Result PartsSeen LineFault) (p q : PartsSeen) → r ≡ Ok p → r ≡ Ok q → p ≡ q
one_answer r p q a b = cc

pub none_names_the_server : NoneNamesTheServer
none_names_the_server s h later earlier from text before parts line split reads =
    let a = packets_come_from_lines s h later earlier from (cut.Line text) parts line split in
    let same : text ≡ a.text = cc in
    let before_same : a.before ≡ before = one_answer (parts_of a.text) a.before before a.reads (ap parts_of (sym same) ∙ reads) in
    let packet = parts_give a.text a.before (and_parts _ _ a.whole).1 a.reads in
    ap (λ (p : PartsSeen). among s.server (names_after p.vias)) (sym before_same) ∙ answer_unnamed a.before a.by s.server a.others parts packet.sound (answer_is a.before a.by s.server a.others parts a.goes)
